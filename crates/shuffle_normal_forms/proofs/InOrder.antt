-- Rising numbers as the values of a map that keeps the order.
use Rattle.std.proofs.Common.{◌≡◌, ℕ, zero, suc, ◌+◌, ◌<◌, List, [], ◌∷◌, length, map, refl, sym, ◌∙◌, ap, arith, inl}
use mathlib.Core.List.{◌++◌}
use mathlib.Core.Path.{ap₂}
use native.Mathlib.Decide.{dec_lt}
use Rattle.modular_sums.specs.Lists.{Rises}
use Rattle.shuffle_insertions.specs.Listing.{upto}
use Rattle.shuffle_normal_forms.specs.FreeTreeLists.{NumbersInOrder}

-- a, the numbers of the list, and then those that come next
abbrev counted : ℕ → List ℕ → ℕ → ℕ
counted a [] i = a + i
counted a (x ∷ l) zero = a
counted a (x ∷ l) (suc i) = counted x l i

counted_first : (a : ℕ) (l : List ℕ) → counted a l 0 ≡ a
counted_first a [] = omega arith
counted_first a (x ∷ l) = refl

counted_step : (a : ℕ) (l : List ℕ) → Rises (a ∷ l) → (i : ℕ) → counted a l i < counted a l (suc i)
counted_step a [] h i = omega arith
counted_step a (x ∷ l) h zero = let first = counted_first x l in let above = h.0 x (inl refl) in omega (arith, first, above)
counted_step a (x ∷ l) h (suc i) = counted_step x l h.1 i

further : (a : ℕ) (l : List ℕ) → Rises (a ∷ l) → (i j : ℕ) → i < suc j → Dec (i < j) → (i < j → counted a l i < counted a l j) → counted a l i < counted a l (suc j)
further a l h i j lt (yes k) ih = let below = ih k in let step = counted_step a l h j in omega (arith, below, step)
further a l h i j lt (no k) ih = let same : i ≡ j = omega (arith, lt, k) in let step = counted_step a l h j in let e = ap (counted a l) same in omega (arith, step, e)

counted_rises : (a : ℕ) (l : List ℕ) → Rises (a ∷ l) → (i j : ℕ) → i < j → counted a l i < counted a l j
counted_rises a l h i zero lt = absurd (omega (arith, lt))
counted_rises a l h i (suc j) lt = further a l h i j lt (dec_lt i j) (counted_rises a l h i j)

map-append : {X Y : Type 0} (f : X → Y) (k l : List X) → map f (k ++ l) ≡ map f k ++ map f l
map-append f [] l = refl
map-append f (x ∷ k) l = ap (λ m. f x ∷ m) (map-append f k l)

map_twice : {X Y Z : Type 0} (g : Y → Z) (f : X → Y) (l : List X) → map g (map f l) ≡ map (λ x. g (f x)) l
map_twice g f [] = refl
map_twice g f (x ∷ l) = ap (λ m. g (f x) ∷ m) (map_twice g f l)

upto_front : (n : ℕ) → upto (suc n) ≡ 1 ∷ map suc (upto n)
upto_front zero = refl
upto_front (suc n) = ap (λ l. l ++ (suc (suc n) ∷ [])) (upto_front n) ∙ ap (λ l. 1 ∷ l) (sym (map-append suc (upto n) (suc n ∷ [])))

counted_all : (a : ℕ) (l : List ℕ) → map (counted a l) (upto (length l)) ≡ l
counted_all a [] = refl
counted_all a (x ∷ l) =
    ap (map (counted a (x ∷ l))) (upto_front (length l))
    ∙ ap₂ (λ y m. y ∷ m) (counted_first x l) (map_twice (counted a (x ∷ l)) suc (upto (length l)) ∙ counted_all x l)

pub numbers_in_order : NumbersInOrder
numbers_in_order l h = (counted 0 l, record { none = counted_first 0 l; rises = counted_rises 0 l h }, counted_all 0 l)
