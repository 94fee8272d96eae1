-- The items of a counted run.
use Rattle.std.specs.Prelude.{ℕ, ◌≡◌, List}
use Rattle.std.proofs.Common.{Bool, true, false}
use Rattle.std.specs.declared.cmp.Ordering.{Ordering}
use Rattle.modular_sums.specs.Lists.{Mem, Nth}
use Rattle.modular_sums.specs.Sums.{AllTerms}
use Rattle.labelled_trees.specs.Trees.{Tree}
use Rattle.labelled_trees.specs.Labelled.{IsLabelled}
use Rattle.shuffle_insertions.specs.ShuffleTrees.{IsShuffleTree}
use Rattle.shuffle_places.specs.Connected.{IsConnected}
use Rattle.shuffle_normal_forms.specs.FreeTrees.{is_empty}
use Rattle.operad_ideals.specs.Presentations.{Relation, Presentation, arity_of}
use Rattle.shuffle_transfer.specs.Orderings.{IsOrdering}
use Rattle.shuffle_transfer.specs.Labels.{inputs_of}
use Rattle.action_characters.specs.CycleTypes.{IsCycleType}

-- What is asked: an element of an arity, that of a query line, or the left side less the right one of a same line.
pub record Question : Type 0 where
  pub arity : ℕ
  pub terms : List (ℕ × Tree ℕ)

-- A problem: a presentation, a comparison of the shuffle trees over its labels, what is asked, and whether traces are.
pub record Problem : Type 0 where
  pub presentation : Presentation
  pub compare : Tree ℕ → Tree ℕ → Ordering
  pub questions : List Question
  pub traces : Bool

-- the arity of each label of a problem
abbrev pub item_arity : Problem → ℕ → ℕ
item_arity d = inputs_of d.presentation.generators

-- The trees of each question are labelled by 1 to its arity.
abbrev pub AsksElements : Problem → Type 0
AsksElements d = (e : Question) → Mem e d.questions → AllTerms e.terms (IsLabelled (arity_of d.presentation) e.arity)

-- what a chain is for
pub data Purpose : Type 0 where
  completion : Purpose
  certificate : Purpose

-- An item of a run: a relation, by its number, with a permutation, or a shuffle tree with two places in it, either of them for the
-- completion or for the certificate; a shuffle tree, as the leading tree of an element whose tail is meant; a question, by its
-- number; a cycle type with a shuffle tree. Shuffle trees stand for sorted spellings, one to one.
pub data Item : Type 0 where
  relabelling : Purpose → ℕ → List ℕ → Item
  two_places : Purpose → Tree ℕ → List ℕ → List ℕ → Item
  tail_of : Tree ℕ → Item
  question : ℕ → Item
  traced : List ℕ → Tree ℕ → Item

-- The items of arity n of a problem.
abbrev pub IsItem : Problem → ℕ → Item → Type 0
IsItem d n (relabelling z k w) = (r : Relation) × Nth k d.presentation.relations r × (r.arity ≡ n) × (is_empty r.terms ≡ false) × IsOrdering n w
IsItem d n (two_places z t first second) = IsShuffleTree (item_arity d) n t × IsConnected t first × IsConnected t second
IsItem d n (tail_of t) = IsShuffleTree (item_arity d) n t
IsItem d n (question k) = (e : Question) × Nth k d.questions e × (e.arity ≡ n)
IsItem d n (traced c t) = (d.traces ≡ true) × IsCycleType n c × IsShuffleTree (item_arity d) n t
