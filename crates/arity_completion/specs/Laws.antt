-- The laws of entries made by a completion and by a question.
use Rattle.std.specs.Prelude.{ℕ, ◌≡◌, ◌-◌, ◌+◌, ◌<◌, ◌≤◌, List, [], ◌∷◌, ◌++◌, length}
use Rattle.std.specs.List.{All}
use Rattle.std.specs.declared.cmp.Ordering.{Ordering}
use Rattle.modular_sums.specs.Sums.{scale, Same, AllTerms}
use Rattle.labelled_trees.specs.Trees.{Tree}
use Rattle.labelled_trees.specs.Equality.{tree_discrete}
use Rattle.operad_ideals.specs.Presentations.{Presentation}
use Rattle.shuffle_insertions.specs.Orders.{IsTreeOrder}
use Rattle.shuffle_insertions.specs.ShuffleTrees.{IsShuffleTree}
use Rattle.shuffle_bases.specs.Elements.{Element, terms, AreMonic, Insertion}
use Rattle.shuffle_transfer.specs.GroebnerBases.{setting}
use Rattle.shuffle_transfer.specs.Labels.{inputs_of}
use Rattle.shuffle_transfer.specs.Orderings.{IsOrdering, entry}
use Rattle.symmetric_sums.specs.Uses.{CitesElement}
use Rattle.symmetric_trees.specs.Generators.{parts_at, generators_of}
use Rattle.symmetric_trees.specs.declared.generators.Generator.{Generator}
use Rattle.operad_ideals.specs.Collected.{IsReduced}
use Rattle.symmetric_sums.specs.Instances.{rule_element}
use Rattle.symmetric_sums.specs.Membership.{presentation_of}
use Rattle.symmetric_sums.specs.Terms.{FitsOver, terms_of}
use Rattle.symmetric_sums.specs.declared.term.Term.{Term}
use Rattle.shuffle_sums.specs.Shelves.{Shelf}
use Rattle.shuffle_reductions.specs.Chains.{IsChain}
use Rattle.division.specs.Cofactors.{AreOf}
use Rattle.division.specs.declared.cofactor.Cofactor.{Cofactor}
use Rattle.cofactor_log.specs.Entries.{KeepsRule}
use Rattle.cofactor_log.specs.declared.entry.Entry.{Entry}
use Rattle.logged_steps.specs.Standing.{StandsFor}
use Rattle.arity_completion.specs.Entries.{IsEntryFor}
use Rattle.arity_completion.specs.Trails.{IsStart, started, all_started, taken, AreEntriesOf}
use Rattle.arity_completion.specs.Uses.{UsesAddUp}
use Rattle.arity_completion.specs.declared.uses.Start.{Start}

-- Over monic elements for which entries stand: where the terms are the factor times a part that is left alone and the last row of a chain,
-- and that part and the first row are the starts less what earlier steps subtract, the entry keeps the rule and its element stands for
-- the terms. A relation's row has a start and no earlier steps; an S-element's has two earlier steps and no start; where a tail is
-- reduced, the leading term is left alone, and the start is the element's entry.
abbrev pub ReducedRowsAreKept : Type 0
ReducedRowsAreKept = (m : ℕ) (generators : List Generator) (rels earlier : List (List Term)) (shelf : Shelf) (numbers : List ℕ) (starts : List Start) (cofactors : List Cofactor) (factor : ℕ)
    (last : List (ℕ × Tree ℕ)) (entry : Entry) → IsEntryFor m generators rels earlier shelf numbers starts cofactors factor last entry
    → (compare : Tree ℕ → Tree ℕ → Ordering) (elements : List Element) (n : ℕ)
    → IsTreeOrder (inputs_of (generators_of generators)) compare → AreMonic (setting (presentation_of m generators rels) compare elements)
    → AreEntriesOf (presentation_of m generators rels) earlier numbers elements
    → All (IsStart m generators rels earlier n) starts
    → (before steps : List (ℕ × Insertion (setting (presentation_of m generators rels) compare elements) n))
    → AreOf (setting (presentation_of m generators rels) compare elements) n shelf (before ++ steps) cofactors
    → (alone row rest : List (ℕ × Tree ℕ)) → Same tree_discrete (m - 1) (alone ++ row) (all_started m generators rels earlier starts ++ taken before)
    → IsChain (setting (presentation_of m generators rels) compare elements) n row steps rest
    → AllTerms last (IsShuffleTree (inputs_of (generators_of generators)) n) → Same tree_discrete (m - 1) last (scale factor (alone ++ rest))
    → KeepsRule m generators rels earlier entry × StandsFor (presentation_of m generators rels) n (terms_of entry.element) last

-- Where a reduced element stands for a row that a chain leads to nothing, the entry with the uses of the chain's cofactors, times -1, keeps the rule.
abbrev pub DifferencesAreKept : Type 0
DifferencesAreKept = (m : ℕ) (generators : List Generator) (rels earlier : List (List Term)) (shelf : Shelf) (numbers : List ℕ) (cofactors : List Cofactor) (entry : Entry) → 0 < m
    → UsesAddUp m generators rels earlier shelf numbers [] cofactors (m - 1) entry.uses
    → FitsOver m generators entry.element → IsReduced m (parts_at generators) (terms_of entry.element)
    → (compare : Tree ℕ → Tree ℕ → Ordering) (elements : List Element) (n : ℕ)
    → IsTreeOrder (inputs_of (generators_of generators)) compare → AreMonic (setting (presentation_of m generators rels) compare elements)
    → AreEntriesOf (presentation_of m generators rels) earlier numbers elements
    → (steps : List (ℕ × Insertion (setting (presentation_of m generators rels) compare elements) n))
    → AreOf (setting (presentation_of m generators rels) compare elements) n shelf steps cofactors
    → (row last : List (ℕ × Tree ℕ)) → StandsFor (presentation_of m generators rels) n (terms_of entry.element) row
    → IsChain (setting (presentation_of m generators rels) compare elements) n row steps last → Same tree_discrete (m - 1) last []
    → KeepsRule m generators rels earlier entry

-- What carries the entries through a completion: there is nothing to stand for at the start; where an element is added behind the others,
-- and where one is replaced, an entry that stands for it is pushed, and its number put there.
pub record EntriesLaw (p : Presentation) : Type 0 where
  pub none : (earlier : List (List Term)) → AreEntriesOf p earlier [] []
  pub added : (earlier : List (List Term)) (numbers : List ℕ) (elements : List Element) (sum : List Term) (g : Element) → AreEntriesOf p earlier numbers elements
      → StandsFor p g.arity (terms_of sum) (terms g) → AreEntriesOf p (earlier ++ sum ∷ []) (numbers ++ (length earlier + 1) ∷ []) (elements ++ g ∷ [])
  pub replaced : (earlier : List (List Term)) (before after : List ℕ) (k : ℕ) (front back : List Element) (g h : Element) (sum : List Term)
      → AreEntriesOf p earlier (before ++ k ∷ after) (front ++ g ∷ back) → length before ≡ length front
      → StandsFor p h.arity (terms_of sum) (terms h) → AreEntriesOf p (earlier ++ sum ∷ []) (before ++ (length earlier + 1) ∷ after) (front ++ h ∷ back)

abbrev pub EntriesAreCarried : Type 0
EntriesAreCarried = (p : Presentation) → EntriesLaw p

-- A start with a permutation that leaves each number where it is, of an element that stands for a sum, starts at that sum.
abbrev pub WholeStarts : Type 0
WholeStarts = (m : ℕ) (generators : List Generator) (rels earlier : List (List Term)) (n : ℕ) (start : Start) (l : List (ℕ × Tree ℕ)) → CitesElement start.rule
    → (rule_element m generators rels earlier start.rule ≡ [] → ⊥) → StandsFor (presentation_of m generators rels) n (rule_element m generators rels earlier start.rule) l
    → IsOrdering n start.permutation → ((i : ℕ) → 0 < i → i ≤ n → entry start.permutation i ≡ i)
    → IsStart m generators rels earlier n start × Same tree_discrete (m - 1) (started m generators rels earlier start) l
