-- Sorted words are those of sorted trees.
use Rattle.std.proofs.Common.{◌≡◌, ℕ, zero, suc, ◌+◌, ◌<◌, ◌≤◌, List, [], ◌∷◌, Bool, true, false, length, map, get_or, refl, ap, sym, ◌∙◌, subst, arith, add-one}
use mathlib.Core.Path.{ap₂}
use Rattle.std.specs.declared.cmp.Ordering.{Ordering}
use Rattle.std.specs.Ordering.{nat_cmp, is_lt}
use Rattle.std.specs.List.{All, AllByRecursion, swap}
use Rattle.std.specs.List.Sorted.{IsPermutation, IsSorted, SwapsInRange, apply_swaps}
use Rattle.std.proofs.Math.ListN.{get_or-map, set}
use Rattle.std.proofs.lemmas.List.{map-set, length-map}
use Rattle.std.proofs.lemmas.List.Sorted.{All-permutation}
use Rattle.labelled_trees.specs.Trees.{Tree}
use Rattle.operad_ideals.specs.SpellingOrder.{order}
use Rattle.normal_listing.specs.Places.{number_of}
use Rattle.normal_listing.specs.Words.{HasFewGenerators, HasWord, symbols}
use Rattle.normal_listing.proofs.TreeWords.{words_spell}
use Rattle.normal_listing.specs.Sorting.{SortsTrees}

-- ---- exchanges

swap-map : {X Y : Type 0} (f : X → Y) (xs : List X) (i j : ℕ) → swap (map f xs) i j ≡ map f (swap xs i j)
swap-map f [] i j = refl
swap-map f (d ∷ ys) i j =
    ap₂ (λ u v. set (set (map f (d ∷ ys)) i u) j v) (get_or-map f (d ∷ ys) j d) (get_or-map f (d ∷ ys) i d)
    ∙ ap (λ l. set l j (f (get_or (d ∷ ys) i d))) (sym (map-set f (d ∷ ys) i (get_or (d ∷ ys) j d)))
    ∙ sym (map-set f (set (d ∷ ys) i (get_or (d ∷ ys) j d)) j (get_or (d ∷ ys) i d))

swaps-map : {X Y : Type 0} (f : X → Y) (xs : List X) (moves : List (ℕ × ℕ)) → apply_swaps (map f xs) moves ≡ map f (apply_swaps xs moves)
swaps-map f xs [] = refl
swaps-map f xs (p ∷ ps) = ap (λ l. swap l p.0 p.1) (swaps-map f xs ps) ∙ swap-map f (apply_swaps xs ps) p.0 p.1

each_at : {X : Type 0} (P : X → Type 0) (xs : List X) → AllByRecursion P xs → All P xs
each_at P [] h k d lt = absurd (omega (arith, lt))
each_at P (x ∷ xs) h zero d lt = h.0
each_at P (x ∷ xs) h (suc k) d lt = each_at P xs h.1 k d (omega (arith, lt))

-- ---- sorted trees

module _ (arity : ℕ → ℕ) (few : HasFewGenerators arity) (cmp : List ℕ → List ℕ → Ordering) (by_number : (a b : List ℕ) → cmp a b ≡ nat_cmp (number_of a) (number_of b)) where
  compared : (t u : Tree ℕ) → HasWord arity t → HasWord arity u → cmp (symbols t) (symbols u) ≡ order t u
  compared t u h g = by_number (symbols t) (symbols u) ∙ words_spell.numbers arity t u few h g

  sorted_trees : (us : List (Tree ℕ)) → All (HasWord arity) us → IsSorted cmp (map symbols us) → IsSorted order us
  sorted_trees us h s k d low lt =
      let here : k < length us = omega (arith, lt) in
      let same : length (map symbols us) ≡ length us = length-map us symbols in
      ap is_lt (sym (ap₂ cmp (get_or-map symbols us (k + 1) d) (get_or-map symbols us k d) ∙ compared (get_or us (k + 1) d) (get_or us k d) (h (k + 1) d lt) (h k d here)))
      ∙ s k (symbols d) low (omega (arith, lt, same))

  pub sorts : (ts : List (Tree ℕ)) (old new : List (List ℕ)) → AllByRecursion (HasWord arity) ts → old ≡ map symbols ts → IsPermutation old new → IsSorted cmp new → SortsTrees ts new
  sorts ts old new h e p s =
      let us = apply_swaps ts p.moves in
      let size : length old ≡ length ts = ap length e ∙ length-map ts symbols in
      let permutation : IsPermutation ts us = record { moves = p.moves; below = subst (λ n. SwapsInRange n p.moves) size p.below; is = refl } in
      let are : new ≡ map symbols us = p.is ∙ ap (λ l. apply_swaps l p.moves) e ∙ swaps-map symbols ts p.moves in
      record {
        trees = us;
        permutation = permutation;
        are = are;
        sorted = sorted_trees us (All-permutation (HasWord arity) ts us permutation (each_at (HasWord arity) ts h)) (subst (IsSorted cmp) are s);
      }
