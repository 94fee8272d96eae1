-- The laws of labels, shuffle forms and the way back.
use Rattle.std.specs.Prelude.{ℕ, ◌≡◌, ◌↔◌, ◌<◌, List, [], length, map}
use Rattle.std.proofs.Common.{true, ◌⊎◌}
use Rattle.std.specs.declared.cmp.Ordering.TheVariants.{Less}
use Rattle.std.specs.Ordering.{nat_cmp}
use Rattle.std.specs.Cmp.Lexicographic.{slice_cmp}
use Rattle.modular_sums.specs.Lists.{Mem, Distinct}
use Rattle.modular_sums.specs.Sums.{Same, AllTerms}
use Rattle.labelled_trees.specs.Trees.{Tree, graft}
use Rattle.labelled_trees.specs.Leaves.{occurs}
use Rattle.labelled_trees.specs.Equality.{tree_discrete}
use Rattle.labelled_trees.specs.Labelled.{Fits, IsLabelled}
use Rattle.labelled_trees.specs.Insertions.{put, item}
use Rattle.shuffle_insertions.specs.ShuffleTrees.{IsShuffleTree}
use Rattle.shuffle_insertions.specs.Frames.{Frame, insert}
use Rattle.operad_ideals.specs.Parts.{Part, parts_of, plus}
use Rattle.operad_ideals.specs.Sorting.{spelled, spelled_sign}
use Rattle.operad_ideals.specs.Laws.{arity}
use Rattle.operad_ideals.specs.Presentations.{Presentation, arity_of, without_relations}
use Rattle.operad_ideals.specs.Ideals.{InIdeal}
use Rattle.shuffle_places.specs.PlaceOrder.{AreRising}
use Rattle.shuffle_transfer.specs.Orderings.{IsOrdering, orderings}
use Rattle.shuffle_transfer.specs.Labels.{parts_rise, labels, label, gen, word, inputs_of, shuffle_form, symmetric_tree}
use Rattle.shuffle_transfer.specs.Transfer.{shuffled}

-- The list has all permutations of 1 to m, each once, in lexicographic order.
abbrev pub AllOrderings : Type 0
AllOrderings = (m : ℕ) → AreRising (orderings m) × Distinct (orderings m) × ((v : List ℕ) → Mem v (orderings m) ↔ IsOrdering m v)

-- the word w is one of generator g
pub record IsWordOf (generators : List (List Part)) (g : ℕ) (w : List ℕ) : Type 0 where
  pub generator : g < length generators
  pub ordering : IsOrdering (arity (parts_of generators) g) w
  pub rises : parts_rise (parts_of generators g) w ≡ true

-- Labels are numbered from 0 and stand one to one for the generators with their words: the generators in their order, and of
-- each its words in lexicographic order.
pub record LabelLaw (generators : List (List Part)) : Type 0 where
  pub of_word : (g : ℕ) (w : List ℕ) → IsWordOf generators g w → (label generators g w < labels generators) × (gen generators (label generators g w) ≡ g) × (word generators (label generators g w) ≡ w)
  pub of_label : (l : ℕ) → l < labels generators → IsWordOf generators (gen generators l) (word generators l) × (label generators (gen generators l) (word generators l) ≡ l)
  pub in_order : (l m : ℕ) → l < m → m < labels generators → (gen generators l < gen generators m) ⊎ ((gen generators l ≡ gen generators m) × (slice_cmp nat_cmp (word generators l) (word generators m) ≡ Less))

abbrev pub LabelsAreWords : Type 0
LabelsAreWords = (generators : List (List Part)) → LabelLaw generators

-- The shuffle form of a labelled tree is a shuffle tree over the labels.
abbrev pub Forth : Type 0
Forth = (generators : List (List Part)) (n : ℕ) (t : Tree ℕ) → IsLabelled (arity (parts_of generators)) n t → IsShuffleTree (inputs_of generators) n (shuffle_form generators t)

-- Each shuffle tree over the labels is the shuffle form of a labelled tree with the sign plus.
abbrev pub Back : Type 0
Back = (generators : List (List Part)) (n : ℕ) (s : Tree ℕ) → IsShuffleTree (inputs_of generators) n s
    → IsLabelled (arity (parts_of generators)) n (symmetric_tree generators s) × (shuffle_form generators (symmetric_tree generators s) ≡ s) × (spelled_sign (parts_of generators) (symmetric_tree generators s) ≡ plus)

-- That tree is the sorted spelling of each tree with this shuffle form, so two labelled trees have one shuffle form exactly
-- where they have one sorted spelling.
abbrev pub Spelling : Type 0
Spelling = (generators : List (List Part)) (n : ℕ) (t : Tree ℕ) → IsLabelled (arity (parts_of generators)) n t
    → (symmetric_tree generators (shuffle_form generators t) ≡ spelled (parts_of generators) t) × (shuffle_form generators (spelled (parts_of generators) t) ≡ shuffle_form generators t)
    × ((u : Tree ℕ) → IsLabelled (arity (parts_of generators)) n u → shuffle_form generators t ≡ shuffle_form generators u ↔ (spelled (parts_of generators) t ≡ spelled (parts_of generators) u))

-- An element is a sum of instances of symmetry rules exactly where its shuffle form is zero.
abbrev pub Kernel : Type 0
Kernel = (p : Presentation) (n : ℕ) (e : List (ℕ × Tree ℕ)) → AllTerms e (IsLabelled (arity_of p) n)
    → InIdeal (without_relations p) n e ↔ Same tree_discrete p.q (shuffled p e) []

-- The tree of an insertion is the tree of what is inserted, put into the tree of the hole with the trees of the inputs.
abbrev pub FramesBack : Type 0
FramesBack = (generators : List (List Part)) (f : Frame) (x : Tree ℕ) → Fits (inputs_of generators) f.hole → Fits (inputs_of generators) x
    → (occurs 0 (symmetric_tree generators f.hole) ≡ occurs 0 f.hole)
    × (put (symmetric_tree generators f.hole) (graft (symmetric_tree generators x) (item (map (symmetric_tree generators) f.inputs))) ≡ symmetric_tree generators (insert f x))
