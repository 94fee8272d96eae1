-- How many labels a generator has.
use Rattle.std.proofs.Common.{◌≡◌, ℕ, zero, suc, ◌+◌, ◌*◌, ◌<◌, List, [], ◌∷◌, ◌++◌, map, length, refl, ◌∙◌, ap, arith, subst}
use native.Mathlib.Decide.{ℕ_discrete}
use Rattle.labelled_trees.specs.Leaves.{one_if}
use Rattle.labelled_trees.specs.RangeSums.{range_sum}
use Rattle.labelled_trees.proofs.Leaves.{one_if-yes, one_if-no}
use Rattle.operad_ideals.specs.Parts.{Part, total, parts_of}
use Rattle.shuffle_insertions.specs.Listing.{upto}
use Rattle.shuffle_insertions.proofs.Counting.{length-upto, sum_first}
use Rattle.shuffle_insertions.proofs.Upto.{upto_rises}
use Rattle.shuffle_transfer.specs.Orderings.{orderings}
use Rattle.shuffle_transfer.specs.Labels.{words_of, Letter, letters, letter_at}
use Rattle.shuffle_transfer.specs.LabelCounts.{part_orders, label_count, LabelsCounted}
use Rattle.shuffle_transfer.proofs.Labels.{lettered}
use Rattle.shuffle_transfer.proofs.WordCounts.{words_counted, length_rising}

-- how many letters of the list are of generator g
abbrev of_generator : ℕ → List Letter → ℕ
of_generator g [] = 0
of_generator g (x ∷ l) = one_if (ℕ_discrete x.gen g) + of_generator g l

by_places : (d : Letter) (g : ℕ) (l : List Letter) → range_sum (length l) (λ i. one_if (ℕ_discrete (letter_at d i l).gen g)) ≡ of_generator g l
by_places d g [] = refl
by_places d g (x ∷ l) = sum_first (length l) (λ i. one_if (ℕ_discrete (letter_at d i (x ∷ l)).gen g)) ∙ ap (λ n. one_if (ℕ_discrete x.gen g) + n) (by_places d g l)

of_append : (g : ℕ) (k l : List Letter) → of_generator g (k ++ l) ≡ of_generator g k + of_generator g l
of_append g [] l = omega arith
of_append g (x ∷ k) l = omega (arith, of_append g k l)

own_letters : (g : ℕ) (ws : List (List ℕ)) → of_generator g (map (lettered g) ws) ≡ length ws
own_letters g [] = refl
own_letters g (w ∷ ws) = let e = one_if-yes (ℕ_discrete g g) refl in omega (arith, e, own_letters g ws)

other_letters : (g h : ℕ) (ws : List (List ℕ)) → (h ≡ g → ⊥) → of_generator g (map (lettered h) ws) ≡ 0
other_letters g h [] f = refl
other_letters g h (w ∷ ws) f = let e = one_if-no (ℕ_discrete h g) f in omega (arith, e, other_letters g h ws f)

later_letters : (g h : ℕ) (generators : List (List Part)) → g < h → of_generator g (letters h generators) ≡ 0
later_letters g h [] lt = refl
later_letters g h (ps ∷ generators) lt =
    of_append g (map (lettered h) (words_of ps)) (letters (suc h) generators)
    ∙ (let e = other_letters g h (words_of ps) (λ e. omega (arith, e, lt)) in let f = later_letters g (suc h) generators (omega (arith, lt)) in omega (arith, e, f))

letters_of : (g h j : ℕ) (generators : List (List Part)) → g ≡ h + j → j < length generators → of_generator g (letters h generators) ≡ length (words_of (parts_of generators j))
letters_of g h j [] e lt = absurd (omega (arith, lt))
letters_of g h zero (ps ∷ generators) e lt =
    let same : g ≡ h = omega (arith, e) in
    of_append g (map (lettered h) (words_of ps)) (letters (suc h) generators)
    ∙ (let own : of_generator g (map (lettered h) (words_of ps)) ≡ length (words_of ps) = subst (λ i. of_generator g (map (lettered i) (words_of ps)) ≡ length (words_of ps)) same (own_letters g (words_of ps)) in
    let none = later_letters g (suc h) generators (omega (arith, same)) in omega (arith, own, none))
letters_of g h (suc j) (ps ∷ generators) e lt =
    of_append g (map (lettered h) (words_of ps)) (letters (suc h) generators)
    ∙ (let other = other_letters g h (words_of ps) (λ f. omega (arith, e, f)) in
    let rest = letters_of g (suc h) j generators (omega (arith, e)) (omega (arith, lt)) in omega (arith, other, rest))

counted_by_words : (generators : List (List Part)) (g : ℕ) → g < length generators → label_count generators g ≡ length (words_of (parts_of generators g))
counted_by_words generators g lt = by_places (lettered (length generators) []) g (letters 0 generators) ∙ letters_of g 0 g generators (omega arith) lt

pub labels_counted : LabelsCounted
labels_counted generators g lt =
    let ps = parts_of generators g in
    ap (λ n. part_orders ps * n) (counted_by_words generators g lt ∙ length_rising ps (orderings (total ps))) ∙ words_counted ps (upto (total ps)) (upto_rises (total ps)) (length-upto (total ps))
