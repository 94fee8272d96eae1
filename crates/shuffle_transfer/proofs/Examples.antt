-- Labels, signs, shuffle forms, relabellings and frames of small trees, computed.
use Rattle.std.proofs.Common.{◌≡◌, ℕ, ◌*◌, List, [], ◌∷◌, refl, arith}
use native.Mathlib.Decide.{ℕ_discrete}
use Rattle.labelled_trees.specs.Trees.{Tree, leaf, node, none, more}
use Rattle.labelled_trees.specs.Insertions.{put, item}
use Rattle.labelled_trees.specs.Trees.{graft}
use Rattle.shuffle_insertions.specs.Frames.{Frame, insert}
use Rattle.operad_ideals.specs.Parts.{symmetric, skew, free, Part, minus}
use Rattle.operad_ideals.specs.Sorting.{spelled_sign}
use Rattle.operad_ideals.specs.Presentations.{Presentation, parts}
use Rattle.shuffle_transfer.proofs.LabelCounts.{labels_counted}
use Rattle.shuffle_transfer.proofs.Labels.{lettered}
use Rattle.shuffle_transfer.specs.LabelCounts.{label_count}
use Rattle.shuffle_transfer.specs.Orderings.{orderings}
use Rattle.shuffle_transfer.specs.Labels.{letters, labels, inputs_of, shuffle_form, symmetric_tree, word_discrete, same_cons, letter_discrete, same_letter}
use Rattle.shuffle_transfer.specs.Transfer.{relabellings, shuffled}
use Rattle.shuffle_transfer.specs.NormalTrees.{normal_list}

abbrev pub two : ℕ → Tree ℕ → Tree ℕ → Tree ℕ
two g x y = node g (more x (more y none))

abbrev pub three : ℕ → ℕ → ℕ → ℕ → Tree ℕ
three g i j k = node g (more (leaf i) (more (leaf j) (more (leaf k) none)))

abbrev one_part : Part → List Part
one_part x = x ∷ []

-- l is skew, p is free, and b has two symmetric inputs and a free one
abbrev three_kinds : Presentation
three_kinds = record {
  q = 100;
  generators = one_part record { kind = skew; size = 2 } ∷ (one_part record { kind = free; size = 2 } ∷ ((record { kind = symmetric; size = 2 } ∷ one_part record { kind = free; size = 1 }) ∷ []));
  relations = [];
}

-- one free generator of two inputs
abbrev one_free : Presentation
one_free = record { q = 100; generators = one_part record { kind = free; size = 2 } ∷ []; relations = [] }

-- ---- labels

two_labels : (letters 0 one_free.generators ≡ lettered 0 (1 ∷ (2 ∷ [])) ∷ (lettered 0 (2 ∷ (1 ∷ [])) ∷ [])) × (labels one_free.generators ≡ 2) × (inputs_of one_free.generators 0 ≡ 2) × (inputs_of one_free.generators 1 ≡ 2)
two_labels = (refl, refl, refl, refl)

six_labels : letters 0 three_kinds.generators ≡
    lettered 0 (1 ∷ (2 ∷ [])) ∷ (lettered 1 (1 ∷ (2 ∷ [])) ∷ (lettered 1 (2 ∷ (1 ∷ [])) ∷ (lettered 2 (1 ∷ (2 ∷ (3 ∷ []))) ∷ (lettered 2 (1 ∷ (3 ∷ (2 ∷ []))) ∷ (lettered 2 (2 ∷ (3 ∷ (1 ∷ []))) ∷ [])))))
six_labels = refl

-- l has 2! / 2! labels, p has 2!, and b has 3! / 2!
counted_labels : (label_count three_kinds.generators 0 ≡ 1) × (label_count three_kinds.generators 1 ≡ 2) × (label_count three_kinds.generators 2 ≡ 3)
unfolding ℕ_discrete
counted_labels = (refl, refl, refl)

three_of_b : 2 * label_count three_kinds.generators 2 ≡ 6
three_of_b = labels_counted three_kinds.generators 2 (omega arith)

-- the labels of p(1,2) and p(2,1)
free_labels : (shuffle_form one_free.generators (two 0 (leaf 1) (leaf 2)) ≡ two 0 (leaf 1) (leaf 2)) × (shuffle_form one_free.generators (two 0 (leaf 2) (leaf 1)) ≡ two 1 (leaf 1) (leaf 2))
unfolding word_discrete same_cons letter_discrete same_letter ℕ_discrete
free_labels = (refl, refl)

-- ---- there and back

-- l(2,1) has the sign minus and the shuffle form of l(1,2), whose tree is l(1,2)
turned_bracket : (spelled_sign (parts three_kinds) (two 0 (leaf 2) (leaf 1)) ≡ minus) × (shuffle_form three_kinds.generators (two 0 (leaf 2) (leaf 1)) ≡ two 0 (leaf 1) (leaf 2))
    × (symmetric_tree three_kinds.generators (two 0 (leaf 1) (leaf 2)) ≡ two 0 (leaf 1) (leaf 2))
unfolding word_discrete same_cons letter_discrete same_letter ℕ_discrete
turned_bracket = (refl, refl, refl)

-- l(l(2,3),1) is less l(1,l(2,3)), and l(3,l(2,1)) is l(l(1,2),3)
brackets : (shuffled three_kinds ((1, two 0 (two 0 (leaf 2) (leaf 3)) (leaf 1)) ∷ []) ≡ (100, two 0 (leaf 1) (two 0 (leaf 2) (leaf 3))) ∷ [])
    × (shuffled three_kinds ((1, two 0 (leaf 3) (two 0 (leaf 2) (leaf 1))) ∷ []) ≡ (1, two 0 (two 0 (leaf 1) (leaf 2)) (leaf 3)) ∷ [])
unfolding word_discrete same_cons letter_discrete same_letter ℕ_discrete
brackets = (refl, refl)

-- p(2,1) has the label 2, and b(3,1,2) that of b(1,3,2)
mixed : shuffled three_kinds ((1, two 1 (leaf 2) (leaf 1)) ∷ ((1, three 2 3 1 2) ∷ [])) ≡ (1, two 2 (leaf 1) (leaf 2)) ∷ ((1, three 4 1 2 3) ∷ [])
unfolding word_discrete same_cons letter_discrete same_letter ℕ_discrete
mixed = refl

-- and the trees of shuffle trees
mixed_back : (symmetric_tree three_kinds.generators (two 2 (leaf 1) (leaf 2)) ≡ two 1 (leaf 2) (leaf 1)) × (symmetric_tree three_kinds.generators (three 4 1 2 3) ≡ three 2 1 3 2)
    × (symmetric_tree three_kinds.generators (three 5 1 2 3) ≡ three 2 2 3 1)
mixed_back = (refl, refl, refl)

-- ---- relabellings

six_orderings : orderings 3 ≡ (1 ∷ (2 ∷ (3 ∷ []))) ∷ ((1 ∷ (3 ∷ (2 ∷ []))) ∷ ((2 ∷ (1 ∷ (3 ∷ []))) ∷ ((2 ∷ (3 ∷ (1 ∷ []))) ∷ ((3 ∷ (1 ∷ (2 ∷ []))) ∷ ((3 ∷ (2 ∷ (1 ∷ []))) ∷ [])))))
six_orderings = refl

-- l(1,2) by 1 2, and by 2 1, which is less l(1,2)
bracket_relabelled : (relabellings 2 ((1, two 0 (leaf 1) (leaf 2)) ∷ []) ≡ ((1, two 0 (leaf 1) (leaf 2)) ∷ []) ∷ (((1, two 0 (leaf 2) (leaf 1)) ∷ []) ∷ []))
    × (shuffled three_kinds ((1, two 0 (leaf 2) (leaf 1)) ∷ []) ≡ (100, two 0 (leaf 1) (leaf 2)) ∷ [])
unfolding word_discrete same_cons letter_discrete same_letter ℕ_discrete
bracket_relabelled = (refl, refl)

-- ---- a frame, passed back

abbrev hole_and_four : Frame
hole_and_four = record { hole = two 0 (leaf 0) (leaf 4); inputs = leaf 1 ∷ (leaf 2 ∷ (leaf 3 ∷ [])) }

-- l(l(1,3),2) in the frame, and in the context l(0,4) with the inputs 1, 2, 3
frame_passed_back : (symmetric_tree three_kinds.generators (insert hole_and_four (two 0 (two 0 (leaf 1) (leaf 3)) (leaf 2))) ≡ two 0 (two 0 (two 0 (leaf 1) (leaf 3)) (leaf 2)) (leaf 4))
    × (symmetric_tree three_kinds.generators hole_and_four.hole ≡ two 0 (leaf 0) (leaf 4))
    × (put (two 0 (leaf 0) (leaf 4)) (graft (two 0 (two 0 (leaf 1) (leaf 3)) (leaf 2)) (item (leaf 1 ∷ (leaf 2 ∷ (leaf 3 ∷ []))))) ≡ two 0 (two 0 (two 0 (leaf 1) (leaf 3)) (leaf 2)) (leaf 4))
frame_passed_back = (refl, refl, refl)

-- ---- without relations all sorted trees are listed

-- one generator with two symmetric inputs and a free one
abbrev one_mixed : Presentation
one_mixed = record { q = 100; generators = (record { kind = symmetric; size = 2 } ∷ one_part record { kind = free; size = 1 }) ∷ []; relations = [] }

mixed_listed : normal_list one_mixed.generators [] 3 ≡ three 0 1 2 3 ∷ (three 0 1 3 2 ∷ (three 0 2 3 1 ∷ []))
mixed_listed = refl
