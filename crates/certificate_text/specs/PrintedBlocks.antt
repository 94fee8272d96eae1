-- The text of blocks.
use Rattle.std.specs.Prelude.{ℕ, ◌≡◌, if◌then◌else◌, List, [], ◌∷◌, ◌++◌, codes, Ok}
use Rattle.std.specs.List.{All, flat_map}
use Rattle.std.specs.Fmt.{decimal}
use Rattle.prime_field.specs.Primes.{IsFieldPrime}
use Rattle.labelled_trees.specs.Trees.{Tree}
use Rattle.symmetric_trees.specs.Generators.{IsTable}
use Rattle.symmetric_trees.specs.declared.generators.Generator.{Generator}
use Rattle.symmetric_sums.specs.declared.instance.Rule.{Rule}
use Rattle.symmetric_sums.specs.declared.instance.Rule.TheVariants.{Rel, Swap, Step}
use Rattle.presentation_text.specs.DocumentText.{line_of}
use Rattle.presentation_text.specs.Lines.{lines}
use Rattle.presentation_text.specs.SumText.{is_negative, magnitude, sum_text}
use Rattle.presentation_text.specs.TreeText.{HasWords, tree_text}
use Rattle.certificate_text.specs.BlockReadings.{Base, between, blocks_from}
use Rattle.certificate_text.specs.Plain.{PlainUse, PlainStep, PlainBlock}
use Rattle.certificate_text.specs.Writable.{IsWritableBlock}

-- a residue as the number of least absolute value, with '-' before it where it is negative
abbrev pub coefficient_text : ℕ → ℕ → List ℕ
coefficient_text p c = (if is_negative p c then 45 ∷ [] else []) ++ decimal (magnitude p c)

-- `rel K` or `step K`; symmetry rules aren't written
abbrev pub rule_words : Rule → List (List ℕ)
rule_words (Rel k) = codes "rel" ∷ (decimal k ∷ [])
rule_words (Step k) = codes "step" ∷ (decimal k ∷ [])
rule_words (Swap g at) = []

-- ';' and a tree, for each input
abbrev pub input_words : List Generator → List (Tree ℕ) → List (List ℕ)
input_words generators [] = []
input_words generators (t ∷ ts) = codes ";" ∷ (tree_text generators t ∷ input_words generators ts)

-- `use COEF ; TREE ; rel K`, or `step K` in the third part, and `; TREE` for each input
abbrev pub use_text : ℕ → List Generator → PlainUse → List ℕ
use_text p generators item =
    line_of (codes "use") (coefficient_text p item.coef ∷ (codes ";" ∷ (tree_text generators item.context ∷ (codes ";" ∷ (rule_words item.rule ++ input_words generators item.inputs)))))

-- the line of an element behind a word
abbrev pub sum_line : ℕ → List Generator → List ℕ → List (ℕ × Tree ℕ) → List ℕ
sum_line p generators word e = line_of word (sum_text p generators e ∷ [])

abbrev pub step_text : ℕ → List Generator → PlainStep → List ℕ
step_text p generators step = sum_line p generators (codes "step") step.element ++ flat_map (use_text p generators) step.uses

-- A block is printed as the line of its wanted element, the lines of its steps, each with those of its uses, and `end`.
abbrev pub block_text : ℕ → List Generator → PlainBlock → List ℕ
block_text p generators block =
    sum_line p generators (codes "want") block.want ++ (flat_map (step_text p generators) block.steps ++ line_of (codes "end") [])

-- The text of writable blocks, one behind the other, is read back to the same blocks, whatever its length.
abbrev pub PrintedBlocksAreReadBack : Type 0
PrintedBlocksAreReadBack = (base : Base) → IsFieldPrime base.p → IsTable base.generators → HasWords base.generators → (number : ℕ) (blocks : List PlainBlock)
    → All (IsWritableBlock base.p base.generators) blocks → blocks_from base (between, []) number (lines (flat_map (block_text base.p base.generators) blocks)) ≡ Ok blocks
