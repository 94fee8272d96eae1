-- Entries that may be pushed.
use Rattle.std.proofs.Common.{◌≡◌, ℕ, suc, ◌+◌, ◌-◌, ◌<◌, List, [], ◌∷◌, ◌++◌, refl, sym, subst}
use Rattle.std.specs.List.{All, AllByRecursion}
use Rattle.std.proofs.lemmas.List.Elements.{All-from_recursion}
use Rattle.modular_sums.specs.Sums.{scale, moved}
use Rattle.labelled_trees.specs.Trees.{Tree}
use Rattle.operad_ideals.specs.Presentations.{Presentation}
use Rattle.symmetric_trees.specs.declared.generators.Generator.{Generator}
use Rattle.symmetric_sums.specs.Instances.{in_place, instance_element}
use Rattle.symmetric_sums.specs.Membership.{presentation_of}
use Rattle.symmetric_sums.specs.Terms.{terms_of}
use Rattle.symmetric_sums.specs.declared.instance.Instance.{Instance}
use Rattle.symmetric_sums.specs.declared.term.Term.{Term}
use Rattle.symmetric_sums.specs.Uses.{IsGoodUse, cited, sum_of}
use Rattle.logged_steps.specs.Laws.{EntriesAreKept}
use Rattle.logged_steps.specs.Standing.{StandsFor}
use Rattle.logged_steps.specs.Uses.{UsesStandFor, total}
use Rattle.logged_steps.proofs.Forms.{forms_law}
use Rattle.logged_steps.proofs.Instances.{instances_law}
use Rattle.logged_steps.proofs.Standing.{stands-append, stands-none, stands-same}

module _ (m : ℕ) (generators : List Generator) (rels earlier : List (List Term)) (n : ℕ) (positive : 0 < m) where
  uses_good : (uses : List Instance) (parts : List (List (ℕ × Tree ℕ))) → UsesStandFor m generators rels earlier n uses parts → AllByRecursion (IsGoodUse m generators rels earlier n) uses
  uses_good [] [] h = tt
  uses_good [] (l ∷ parts) h = absurd h
  uses_good (item ∷ uses) [] h = absurd h
  uses_good (item ∷ uses) (l ∷ parts) h = (h.0, uses_good uses parts h.2)

  -- the sum of the uses stands for the total
  sum_stands : (uses : List Instance) (parts : List (List (ℕ × Tree ℕ))) → UsesStandFor m generators rels earlier n uses parts
      → StandsFor (presentation_of m generators rels) n (sum_of m generators rels earlier uses) (total uses parts)
  sum_stands [] [] h = stands-none (presentation_of m generators rels) n
  sum_stands [] (l ∷ parts) h = absurd h
  sum_stands (item ∷ uses) [] h = absurd h
  sum_stands (item ∷ uses) (l ∷ parts) h =
      let e = cited m generators rels earlier item in
      stands-append (presentation_of m generators rels) n (instance_element m e item) (sum_of m generators rels earlier uses) (scale item.coef l) (total uses parts)
      (instances_law (presentation_of m generators rels) m n positive refl e l item h.1) (sum_stands uses parts h.2)

pub kept_law : EntriesAreKept
kept_law m generators rels earlier n entry parts l positive fits coefs reduced stand element same = record {
  element = fits;
  coefs = coefs;
  uses = (n, All-from_recursion (IsGoodUse m generators rels earlier n) entry.uses (uses_good m generators rels earlier n positive entry.uses parts stand));
  same = forms_law (presentation_of m generators rels) m n refl (terms_of entry.element) (sum_of m generators rels earlier entry.uses) l reduced element
      (stands-same (presentation_of m generators rels) n (sum_of m generators rels earlier entry.uses) (total entry.uses parts) l same (sum_stands m generators rels earlier n positive entry.uses parts stand));
}
