-- Words compare as their numbers do, and as the trees.
use Rattle.std.proofs.Common.{◌≡◌, ℕ, zero, suc, ◌+◌, ◌*◌, ◌^◌, ◌<◌, ◌≤◌, List, [], ◌∷◌, length, refl, ap, ap₂, sym, ◌∙◌, subst, arith}
use mathlib.Core.List.{◌++◌}
use Rattle.std.specs.List.{AllByRecursion}
use Rattle.std.specs.declared.cmp.Ordering.{Ordering}
use Rattle.std.specs.declared.cmp.Ordering.TheVariants.{Less, Equal, Greater}
use Rattle.std.specs.Ordering.{nat_cmp, ordering_then}
use Rattle.std.specs.Cmp.Lexicographic.{slice_cmp}
use Rattle.std.proofs.Math.Nat.{mul-le-mul_right}
use Rattle.std.proofs.lemmas.Bool.Decides.{nat_tests}
use Rattle.normal_listing.specs.Places.{IsSymbol, at_places, IsShortWord, number_of}
use Rattle.normal_listing.proofs.Places.{below_places, places_pos}

pub less_is : (x y : ℕ) → x < y → nat_cmp x y ≡ Less
less_is x y h = grind (arith, nat_tests)

pub greater_is : (x y : ℕ) → y < x → nat_cmp x y ≡ Greater
greater_is x y h = grind (arith, nat_tests)

pub equal_is : (x y : ℕ) → nat_cmp x y ≡ Equal → x ≡ y
equal_is x y h = grind (arith, nat_tests)

pub same_is : (x : ℕ) → nat_cmp x x ≡ Equal
same_is x = grind (arith, nat_tests)

less_means : (x y : ℕ) → nat_cmp x y ≡ Less → x < y
less_means x y h = grind (arith, nat_tests)

greater_means : (x y : ℕ) → nat_cmp x y ≡ Greater → y < x
greater_means x y h = grind (arith, nat_tests)

pub shifted : (c a b : ℕ) → nat_cmp (c + a) (c + b) ≡ nat_cmp a b
shifted c a b = grind (arith, nat_tests)

-- the highest digit decides, and then the rest
digit_decides : (o : Ordering) (s t p a b : ℕ) → nat_cmp s t ≡ o → a < p → b < p → nat_cmp (s * p + a) (t * p + b) ≡ ordering_then o (nat_cmp a b)
digit_decides Less s t p a b e h g = let k : suc s * p ≤ t * p = mul-le-mul_right p (less_means s t e) in less_is (s * p + a) (t * p + b) (omega (arith, k, h))
digit_decides Equal s t p a b e h g = ap (λ u. nat_cmp (s * p + a) (u * p + b)) (sym (equal_is s t e)) ∙ shifted (s * p) a b
digit_decides Greater s t p a b e h g = let k : suc t * p ≤ s * p = mul-le-mul_right p (greater_means s t e) in greater_is (s * p + a) (t * p + b) (omega (arith, k, g))

digit_counts : (s p a : ℕ) → 0 < s → 0 < p → 0 < s * p + a
digit_counts s p a h g = let k : 1 * p ≤ s * p = mul-le-mul_right p h in omega (arith, k, g)

pub places_compare : (k : ℕ) (l m : List ℕ) → AllByRecursion IsSymbol l → AllByRecursion IsSymbol m → length l ≤ k → length m ≤ k
    → nat_cmp (at_places k l) (at_places k m) ≡ slice_cmp nat_cmp l m
places_compare zero [] [] h g e f = refl
places_compare zero (s ∷ l) m h g e f = absurd (omega (arith, e))
places_compare zero [] (t ∷ m) h g e f = absurd (omega (arith, f))
places_compare (suc k) [] [] h g e f = refl
places_compare (suc k) [] (t ∷ m) h g e f = less_is 0 (t * 32 ^ k + at_places k m) (digit_counts t (32 ^ k) (at_places k m) g.0.some (places_pos k))
places_compare (suc k) (s ∷ l) [] h g e f = greater_is (s * 32 ^ k + at_places k l) 0 (digit_counts s (32 ^ k) (at_places k l) h.0.some (places_pos k))
places_compare (suc k) (s ∷ l) (t ∷ m) h g e f =
    digit_decides (nat_cmp s t) s t (32 ^ k) (at_places k l) (at_places k m) refl (below_places k l h.1) (below_places k m g.1)
    ∙ ap (ordering_then (nat_cmp s t)) (places_compare k l m h.1 g.1 (omega (arith, e)) (omega (arith, f)))

-- words compare as their numbers do
pub numbers_compare : (l m : List ℕ) → IsShortWord l → IsShortWord m → nat_cmp (number_of l) (number_of m) ≡ slice_cmp nat_cmp l m
unfolding number_of
numbers_compare l m h g = places_compare 25 l m h.symbols g.symbols h.few g.few
