-- The block that is made of a log.
use Rattle.std.specs.Prelude.{ℕ, ◌≡◌, List, [], ◌∷◌, ◌++◌, map}
use Rattle.cofactor_log.specs.Resting.{ListsReached, UsesRestOn}
use Rattle.cofactor_log.specs.declared.entry.Entry.{Entry}
use Rattle.symmetric_sums.specs.Terms.{terms_of}
use Rattle.symmetric_trees.specs.declared.generators.Generator.{Generator}
use Rattle.certificate_text.specs.Plain.{plain_use}
use Rattle.certificate_text.specs.Writable.{IsWritableStep}
use Rattle.certificate_text.specs.declared.block.Block.{Block}
use Rattle.identity_queries.specs.Renumbering.{place_in, renumbered_step, steps_at}

-- The block wants the last entry's element. Its steps are the entries on which the uses of the last one rest, each once, in the order
-- of their numbers, and then the last one itself; where an entry is cited, it is by its place among the steps.
pub record IsBlockOf (entries : List Entry) (last : Entry) (block : Block) : Type 0 where
  pub found : List ℕ
  pub rest : ListsReached (UsesRestOn entries last.uses) found
  pub want_is : block.want ≡ last.element
  pub steps_are : block.steps ≡ steps_at (place_in found) entries found ++ renumbered_step (place_in found) last ∷ []

-- The entry's element may be said, and its uses may be written.
abbrev pub IsWritableEntry : ℕ → List Generator → Entry → Type 0
IsWritableEntry p generators entry = IsWritableStep p generators (record { element = terms_of entry.element; uses = map plain_use entry.uses })
