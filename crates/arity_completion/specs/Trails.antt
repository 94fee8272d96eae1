-- Where rows start, what is subtracted from them, and the entries of a basis.
use Rattle.std.specs.Prelude.{ℕ, ◌≡◌, ◌*◌, ◌<◌, ◌≤◌, List, [], ◌∷◌, ◌++◌, length, slice_get, slice_index, Some, flat_map}
use Rattle.modular_sums.specs.Sums.{scale, AllTerms}
use Rattle.labelled_trees.specs.Trees.{Tree}
use Rattle.operad_ideals.specs.Presentations.{Presentation}
use Rattle.shuffle_places.specs.Connected.{IsConnected}
use Rattle.shuffle_bases.specs.Elements.{Element, terms, Setting, Insertion, value_of}
use Rattle.shuffle_transfer.specs.Orderings.{IsOrdering}
use Rattle.shuffle_transfer.specs.Transfer.{relabelled, shuffled}
use Rattle.symmetric_trees.specs.Trees.{IsLabelled}
use Rattle.symmetric_trees.specs.declared.generators.Generator.{Generator}
use Rattle.symmetric_sums.specs.Instances.{rule_element, sum_at}
use Rattle.symmetric_sums.specs.Membership.{presentation_of}
use Rattle.symmetric_sums.specs.declared.term.Term.{Term}
use Rattle.tree_store.specs.Stores.{tree_at}
use Rattle.shuffle_sums.specs.Shelves.{Shelf, HasKey}
use Rattle.division.specs.declared.cofactor.Cofactor.{Cofactor}
use Rattle.symmetric_sums.specs.Uses.{CitesElement}
use Rattle.logged_steps.specs.Standing.{StandsFor}
use Rattle.arity_completion.specs.declared.uses.Start.{Start}

-- A start of arity n: a relation or an earlier element with terms, and a permutation of 1 to its arity.
pub record IsStart (m : ℕ) (generators : List Generator) (rels earlier : List (List Term)) (n : ℕ) (start : Start) : Type 0 where
  pub cites : CitesElement start.rule
  pub has_terms : rule_element m generators rels earlier start.rule ≡ [] → ⊥
  pub labelled : AllTerms (rule_element m generators rels earlier start.rule) (IsLabelled generators n)
  pub ordering : IsOrdering n start.permutation

-- the sum that it is: the shuffle form of the relabelled relation or element
abbrev pub started : ℕ → List Generator → List (List Term) → List (List Term) → Start → List (ℕ × Tree ℕ)
started m generators rels earlier start = shuffled (presentation_of m generators rels) (relabelled start.permutation (rule_element m generators rels earlier start.rule))

abbrev pub all_started : ℕ → List Generator → List (List Term) → List (List Term) → List Start → List (ℕ × Tree ℕ)
all_started m generators rels earlier = flat_map (started m generators rels earlier)

-- the multiples of insertions that the steps subtract, one after the other
abbrev pub taken : {s : Setting} {n : ℕ} → List (ℕ × Insertion s n) → List (ℕ × Tree ℕ)
taken [] = []
taken {s} (x ∷ steps) = scale (s.q * x.0) (value_of x.1) ++ taken steps

-- The cofactor's element is one of so many, and its place is in a tree that stands in the shelf.
pub record IsPlaced (shelf : Shelf) (count : ℕ) (c : Cofactor) : Type 0 where
  pub element : c.element < count
  pub key : HasKey shelf c.host
  pub connected : IsConnected (tree_at shelf.trees c.host) c.place

-- For each element, in order, there is the number of an entry whose element stands for it.
pub record AreEntriesOf (p : Presentation) (earlier : List (List Term)) (numbers : List ℕ) (elements : List Element) : Type 0 where
  pub as_many : length numbers ≡ length elements
  pub within : (k : ℕ) → k < length numbers → slice_index numbers k ≤ length earlier
  pub stand : (k : ℕ) (g : Element) → slice_get elements k ≡ Some g → StandsFor p g.arity (sum_at earlier (slice_index numbers k)) (terms g)
