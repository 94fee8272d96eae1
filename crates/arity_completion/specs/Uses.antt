-- Uses of starts and of steps.
use Rattle.std.specs.Prelude.{ℕ, ◌≡◌, ◌*◌, ◌-◌, ◌<◌, List, [], ◌∷◌, ◌++◌, map, slice_index}
use Rattle.std.specs.List.{All}
use Rattle.std.specs.declared.cmp.Ordering.{Ordering}
use Rattle.modular_sums.specs.Residues.{IsCongruent}
use Rattle.modular_sums.specs.Sums.{scale, Same, AllTerms}
use Rattle.labelled_trees.specs.Trees.{Tree, leaf}
use Rattle.labelled_trees.specs.Equality.{tree_discrete}
use Rattle.labelled_trees.specs.Insertions.{IsContext}
use Rattle.labelled_trees.specs.Meaning.{tree_of}
use Rattle.shuffle_insertions.specs.Orders.{IsTreeOrder}
use Rattle.shuffle_insertions.specs.ShuffleTrees.{IsShuffleTree}
use Rattle.shuffle_places.specs.Places.{frame_at}
use Rattle.shuffle_bases.specs.Elements.{Element, AreMonic, Insertion}
use Rattle.shuffle_transfer.specs.GroebnerBases.{setting}
use Rattle.shuffle_transfer.specs.Labels.{inputs_of, symmetric_tree}
use Rattle.symmetric_trees.specs.Generators.{parts_at, generators_of}
use Rattle.symmetric_trees.specs.declared.generators.Generator.{Generator}
use Rattle.operad_ideals.specs.Collected.{IsReduced}
use Rattle.symmetric_sums.specs.Membership.{presentation_of}
use Rattle.symmetric_sums.specs.Terms.{FitsOver, terms_of}
use Rattle.symmetric_sums.specs.declared.term.Term.{Term}
use Rattle.symmetric_sums.specs.declared.instance.Rule.TheVariants.{Step}
use Rattle.symmetric_sums.specs.declared.instance.Instance.{Instance}
use Rattle.tree_store.specs.Stores.{tree_at}
use Rattle.shuffle_sums.specs.Shelves.{Shelf}
use Rattle.division.specs.Cofactors.{AreOf}
use Rattle.division.specs.declared.cofactor.Cofactor.{Cofactor}
use Rattle.logged_steps.specs.Standing.{StandsFor}
use Rattle.logged_steps.specs.Uses.{UsesStandFor, total}
use Rattle.arity_completion.specs.Trails.{IsStart, all_started, taken, AreEntriesOf}
use Rattle.arity_completion.specs.declared.uses.Start.{Start}

-- ---- single uses

-- so many times the start, with leaf 0 as the context and the permutation's leaves as the inputs
pub record IsStartUse (factor : ℕ) (start : Start) (item : Instance) : Type 0 where
  pub coef : item.coef ≡ factor
  pub rule : item.rule ≡ start.rule
  pub context : tree_of item.context ≡ leaf 0
  pub inputs : map tree_of item.inputs ≡ map leaf start.permutation

-- so many times what the step subtracts: the entry of its element, with the frame at its place passed back
pub record IsStepUse (m : ℕ) (generators : List Generator) (shelf : Shelf) (numbers : List ℕ) (factor : ℕ) (c : Cofactor) (item : Instance) : Type 0 where
  pub residue : item.coef < m
  pub coef : IsCongruent (m - 1) item.coef (factor * ((m - 1) * c.coef))
  pub rule : item.rule ≡ Step (slice_index numbers c.element)
  pub hole : IsContext (tree_of item.context)
  pub context : tree_of item.context ≡ symmetric_tree (generators_of generators) (frame_at c.place (tree_at shelf.trees c.host)).hole
  pub inputs : map tree_of item.inputs ≡ map (symmetric_tree (generators_of generators)) (frame_at c.place (tree_at shelf.trees c.host)).inputs

-- the second list has such uses of the items of the first, in order
abbrev pub AreUsesOf : {A : Type 0} → (A → Instance → Type 0) → List A → List Instance → Type 0
AreUsesOf IsUse [] [] = Unit {0}
AreUsesOf IsUse [] (item ∷ uses) = ⊥
AreUsesOf IsUse (x ∷ l) [] = ⊥
AreUsesOf IsUse (x ∷ l) (item ∷ uses) = IsUse x item × AreUsesOf IsUse l uses

-- ---- lists of uses

-- The uses are valid instances in arity n, have residues as coefficients, and together stand for the sum.
pub record AddUpTo (m : ℕ) (generators : List Generator) (rels earlier : List (List Term)) (n : ℕ) (uses : List Instance) (sum : List (ℕ × Tree ℕ)) : Type 0 where
  pub parts : List (List (ℕ × Tree ℕ))
  pub stand : UsesStandFor m generators rels earlier n uses parts
  pub coefs : All (λ item. item.coef < m) uses
  pub same : Same tree_discrete (m - 1) (total uses parts) sum

-- Over each list of monic elements for which the entries with the numbers stand, the uses add up to the factor times the starts less
-- the multiples that the cofactors' steps subtract.
abbrev pub UsesAddUp : ℕ → List Generator → List (List Term) → List (List Term) → Shelf → List ℕ → List Start → List Cofactor → ℕ → List Instance → Type 0
UsesAddUp m generators rels earlier shelf numbers starts cofactors factor uses =
    (compare : Tree ℕ → Tree ℕ → Ordering) (elements : List Element) (n : ℕ)
    → IsTreeOrder (inputs_of (generators_of generators)) compare → AreMonic (setting (presentation_of m generators rels) compare elements)
    → AreEntriesOf (presentation_of m generators rels) earlier numbers elements
    → All (IsStart m generators rels earlier n) starts
    → (steps : List (ℕ × Insertion (setting (presentation_of m generators rels) compare elements) n))
    → AreOf (setting (presentation_of m generators rels) compare elements) n shelf steps cofactors
    → AddUpTo m generators rels earlier n uses (scale factor (all_started m generators rels earlier starts ++ taken steps))

-- ---- elements

-- The symmetric element of a sum of shuffle trees: it fits, is reduced, and stands for the sum.
pub record IsElementFor (m : ℕ) (generators : List Generator) (rels : List (List Term)) (terms : List (ℕ × Tree ℕ)) (element : List Term) : Type 0 where
  pub fits : FitsOver m generators element
  pub reduced : IsReduced m (parts_at generators) (terms_of element)
  pub stands : (n : ℕ) → AllTerms terms (IsShuffleTree (inputs_of (generators_of generators)) n) → StandsFor (presentation_of m generators rels) n (terms_of element) terms
