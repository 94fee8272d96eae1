-- Lines of uses: their tokens, and what these say.
use Rattle.std.specs.Prelude.{ℕ, ◌≡◌, ◌-◌, ◌%◌, min, true, Bool, if◌then◌else◌, List, [], ◌∷◌, ◌++◌, codes}
use Rattle.std.specs.List.{All}
use Rattle.labelled_trees.specs.Trees.{Tree}
use Rattle.symmetric_trees.specs.declared.generators.Generator.{Generator}
use Rattle.symmetric_sums.specs.declared.instance.Rule.{Rule}
use Rattle.symmetric_sums.specs.declared.instance.Rule.TheVariants.{Rel, Step}
use Rattle.presentation_text.specs.Accepted.{IsDemanded}
use Rattle.presentation_text.specs.TreeReadings.{any_arity}
use Rattle.presentation_text.specs.TreeText.{tree_tokens}
use Rattle.presentation_text.specs.declared.lexing.Token.{Token}
use Rattle.presentation_text.specs.declared.lexing.Token.TheVariants.{Word, Number, Byte}
use Rattle.certificate_text.specs.Plain.{PlainUse}

-- ---- the grammar

-- A use as it is written: whether '-' stands before its number, the number, the context, whether a step is cited and not a
-- relation, the number of what is cited, and the inputs.
pub record WrittenUse : Type 0 where
  pub negative : Bool
  pub number : ℕ
  pub context : Tree ℕ
  pub cites_step : Bool
  pub cited : ℕ
  pub inputs : List (Tree ℕ)

-- trees with ';' before each
abbrev pub inputs_tokens : List Generator → List (Tree ℕ) → List Token
inputs_tokens generators [] = []
inputs_tokens generators (t ∷ ts) = Byte 59 ∷ (tree_tokens generators t ++ inputs_tokens generators ts)

-- ';', `step` or `rel` and a number, and the inputs
abbrev pub behind_tokens : List Generator → Bool → ℕ → List (Tree ℕ) → List Token
behind_tokens generators cites_step cited inputs =
    Byte 59 ∷ (Word (if cites_step then codes "step" else codes "rel") ∷ (Number cited ∷ inputs_tokens generators inputs))

-- what stands behind the sign: a number, ';', the context, and the rest
abbrev pub unsigned_tokens : List Generator → WrittenUse → List Token
unsigned_tokens generators written =
    Number written.number ∷ (Byte 59 ∷ (tree_tokens generators written.context ++ behind_tokens generators written.cites_step written.cited written.inputs))

-- A use is, behind the word `use`, '-' or nothing and a number, ';', the context, ';', what is cited, and ';' and a tree for each input.
abbrev pub use_tokens : List Generator → WrittenUse → List Token
use_tokens generators written = (if written.negative then Byte 45 ∷ [] else []) ++ unsigned_tokens generators written

-- ---- which trees may stand in it

-- its trees are over the table, and their leaf numbers are free up to 99
pub record HasUseTrees (generators : List Generator) (written : WrittenUse) : Type 0 where
  pub context : IsDemanded generators (any_arity true) written.context
  pub inputs : All (IsDemanded generators (any_arity true)) written.inputs

-- ---- what it says

-- the residue modulo p of a number, or of its negative
abbrev pub signed_residue : ℕ → Bool → ℕ → ℕ
signed_residue p negative number = if negative then (p - number % p) % p else number % p

-- the greatest number of a rule
abbrev pub greatest_cited : ℕ
greatest_cited = 4294967295

-- what is cited; greater numbers stand for the greatest one, which no relation and no step has
abbrev pub cited_rule : Bool → ℕ → Rule
cited_rule cites_step cited = if cites_step then Step (min cited greatest_cited) else Rel (min cited greatest_cited)

-- the use that is written
abbrev pub written_use : ℕ → WrittenUse → PlainUse
written_use p written = record {
  coef = signed_residue p written.negative written.number;
  context = written.context;
  rule = cited_rule written.cites_step written.cited;
  inputs = written.inputs;
}

-- The tokens behind the word `use` are those of a use, which says this.
pub record IsUse (p : ℕ) (generators : List Generator) (tokens : List Token) (item : PlainUse) : Type 0 where
  pub written : WrittenUse
  pub spelled : tokens ≡ use_tokens generators written
  pub trees : HasUseTrees generators written
  pub item_is : item ≡ written_use p written
