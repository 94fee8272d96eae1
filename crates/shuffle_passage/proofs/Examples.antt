-- Words, labels and shuffle forms of one generator with two symmetric inputs and a free one.
use Rattle.std.proofs.Common.{◌≡◌, List, [], ◌∷◌, refl}
use native.Mathlib.Decide.{ℕ_discrete}
use Rattle.labelled_trees.specs.Trees.{leaf, node, more, none}
use Rattle.shuffle_transfer.specs.Labels.{word_discrete, same_cons, letter_discrete, same_letter, labels, shuffle_form, symmetric_tree}
use Rattle.symmetric_trees.specs.Generators.{parts_at, generators_of}
use Rattle.symmetric_trees.specs.declared.generators.Generator.{Generator}
use Rattle.symmetric_trees.specs.declared.generators.PartKind.TheVariants.{Sym, Free}
use Rattle.shuffle_passage.specs.Words.{bounds_of, endings, word_number, digits, digits_of}

-- a generator with the parts of two symmetric inputs and a free one
abbrev two_one : List Generator
two_one = record { name = 98 ∷ []; arity = 3; parts = record { kind = Sym; size = 2 } ∷ (record { kind = Free; size = 1 } ∷ []) } ∷ []

-- it has three words: 1 2 3, 1 3 2 and 2 3 1
three_words : endings (bounds_of (parts_at two_one 0)) 0 ≡ 3
three_words = refl

third_word : word_number (bounds_of (parts_at two_one 0)) 0 (digits (2 ∷ (3 ∷ (1 ∷ [])))) ≡ 2
third_word = refl

second_digits : digits_of (bounds_of (parts_at two_one 0)) 0 1 ≡ digits (1 ∷ (3 ∷ (2 ∷ [])))
second_digits = refl

three_labels : labels (generators_of two_one) ≡ 3
three_labels = refl

-- b(3,2,1) has the third label, and its sorted spelling is b(2,3,1)
turned_form : shuffle_form (generators_of two_one) (node 0 (more (leaf 3) (more (leaf 2) (more (leaf 1) none)))) ≡ node 2 (more (leaf 1) (more (leaf 2) (more (leaf 3) none)))
unfolding word_discrete same_cons letter_discrete same_letter ℕ_discrete
turned_form = refl

turned_back : symmetric_tree (generators_of two_one) (node 2 (more (leaf 1) (more (leaf 2) (more (leaf 3) none)))) ≡ node 0 (more (leaf 2) (more (leaf 3) (more (leaf 1) none)))
turned_back = refl
