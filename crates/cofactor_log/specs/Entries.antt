-- Entries of a log.
use Rattle.std.specs.Prelude.{ℕ, ◌<◌, List, length, map, take, slice_index_or}
use Rattle.std.specs.List.{All}
use Rattle.symmetric_trees.specs.Generators.{parts_at}
use Rattle.symmetric_trees.specs.declared.generators.Generator.{Generator}
use Rattle.symmetric_sums.specs.Terms.{FitsOver, terms_of}
use Rattle.operad_ideals.specs.Collected.{HaveOneForm}
use Rattle.symmetric_sums.specs.declared.term.Term.{Term}
use Rattle.symmetric_sums.specs.Uses.{AreGoodUses, sum_of}
use Rattle.cofactor_log.specs.declared.entry.Entry.{Entry}

abbrev pub elements_of : List Entry → List (List Term)
elements_of = map (λ entry. entry.element)

-- An entry keeps the rule over earlier elements: its element fits, the coefficients of its uses are residues, the uses are valid
-- instances, in one arity, of relations or of earlier elements, and its element and their sum collect to the same sum.
pub record KeepsRule (p : ℕ) (generators : List Generator) (rels earlier : List (List Term)) (entry : Entry) : Type 0 where
  pub element : FitsOver p generators entry.element
  pub coefs : All (λ item. item.coef < p) entry.uses
  pub uses : AreGoodUses p generators rels earlier entry.uses
  pub same : HaveOneForm p (parts_at generators) (terms_of entry.element) (sum_of p generators rels earlier entry.uses)

-- each entry keeps the rule over those before it
abbrev pub KeepRule : ℕ → List Generator → List (List Term) → List Entry → Type 0
KeepRule p generators rels entries =
    (k : ℕ) (d : Entry) → k < length entries → KeepsRule p generators rels (elements_of (take k entries)) (slice_index_or entries k d)
