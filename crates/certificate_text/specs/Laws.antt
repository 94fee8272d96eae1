-- What holds of the tails of texts and their blocks.
use Rattle.std.specs.Prelude.{ℕ, ◌≡◌, ◌↔◌, List, [], Ok}
use Rattle.symmetric_trees.specs.Generators.{IsTable}
use Rattle.presentation_text.specs.Grammar.{counted_tokens}
use Rattle.certificate_text.specs.BlockReadings.{Base, between, blocks_from}
use Rattle.certificate_text.specs.BlockText.{AreBlockLines}
use Rattle.certificate_text.specs.Plain.{PlainBlock}

-- Reading accepts the lines of a tail exactly where those of them that count are the lines of blocks, and gives what these say.
abbrev pub BlocksAreAccepted : Type 0
BlocksAreAccepted = (base : Base) → IsTable base.generators → (number : ℕ) (lines : List (List ℕ)) (blocks : List PlainBlock)
    → (blocks_from base (between, []) number lines ≡ Ok blocks) ↔ AreBlockLines base.p base.generators (counted_tokens lines) blocks
