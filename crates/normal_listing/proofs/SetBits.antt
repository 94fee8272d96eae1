-- Leaves as bits.
use Rattle.std.proofs.Common.{◌≡◌, ℕ, zero, suc, ◌+◌, ◌/◌, ◌%◌, ◌^◌, ◌<◌, List, [], ◌∷◌, Bool, true, false, cond, refl, sym, ◌∙◌, ap, arith, pow-suc}
use Rattle.std.specs.Prelude.{eqb}
use mathlib.Core.List.{◌++◌}
use mathlib.Core.Path.{ap₂}
use Rattle.normal_listing.specs.Sets.{leaves_from, SetWithLast}

no_leaves : (k leaf : ℕ) → leaves_from k leaf 0 ≡ []
no_leaves zero leaf = refl
no_leaves (suc k) leaf = no_leaves k (suc leaf)

one_leaf : (k leaf n : ℕ) → n ≡ 0 → leaves_from (suc k) leaf (n + 1) ≡ leaves_from (suc k) leaf n ++ (leaf ∷ [])
one_leaf k leaf n e =
    ap (λ m. leaves_from (suc k) leaf (m + 1)) e ∙ ap (λ l. leaf ∷ l) (no_leaves k (suc leaf))
    ∙ ap (λ l. l ++ (leaf ∷ [])) (sym (no_leaves (suc k) leaf) ∙ ap (leaves_from (suc k) leaf) (sym e))

behind : (b : Bool) (leaf : ℕ) (l m : List ℕ) (x : ℕ) → m ≡ l ++ (x ∷ []) → cond b (leaf ∷ m) m ≡ cond b (leaf ∷ l) l ++ (x ∷ [])
behind true leaf l m x e = ap (λ n. leaf ∷ n) e
behind false leaf l m x e = e

last_leaf : (j k leaf n : ℕ) → j < k → n < 2 ^ j → leaves_from k leaf (n + 2 ^ j) ≡ leaves_from k leaf n ++ ((leaf + j) ∷ [])
last_leaf j zero leaf n h lt = absurd (omega (arith, h))
last_leaf zero (suc k) leaf n h lt =
    one_leaf k leaf n (omega (arith, lt)) ∙ ap (λ x. leaves_from (suc k) leaf n ++ (x ∷ [])) (let e : leaf ≡ leaf + 0 = omega arith in e)
last_leaf (suc j) (suc k) leaf n h lt =
    let p = pow-suc 2 j in
    let low : n / 2 < 2 ^ j = omega (arith, lt, p) in
    let rem : (n + 2 ^ suc j) % 2 ≡ n % 2 = omega (arith, p) in
    let quo : (n + 2 ^ suc j) / 2 ≡ n / 2 + 2 ^ j = omega (arith, p) in
    let number : suc leaf + j ≡ leaf + suc j = omega arith in
    ap₂ (λ r q. cond (eqb r 1) (leaf ∷ leaves_from k (suc leaf) q) (leaves_from k (suc leaf) q)) rem quo
    ∙ behind (eqb (n % 2) 1) leaf (leaves_from k (suc leaf) (n / 2)) (leaves_from k (suc leaf) (n / 2 + 2 ^ j)) (leaf + suc j)
    (last_leaf j k (suc leaf) (n / 2) (omega (arith, h)) low ∙ ap (λ x. leaves_from k (suc leaf) (n / 2) ++ (x ∷ [])) number)

pub set_with_last : SetWithLast
set_with_last j n h lt = last_leaf j 16 1 n h lt
