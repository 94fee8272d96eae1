-- The laws with premises, met by numbers as monomials.
use Rattle.std.proofs.Common.{Bool, true, false, inl, inr, ◌<◌, ◌*◌, ◌≡◌, ◌≢◌, ℕ, suc, ◌+◌, ◌%◌, sym, ◌∙◌, ◌≤◌, List, [], ◌∷◌, refl, ap, arith, ◌⊎◌}
use native.Mathlib.Decide.{ℕ_discrete, dec_lt}
use Rattle.modular_sums.specs.Lists.{Mem, choose}
use Rattle.modular_sums.specs.Ranks.{count_less}
use Rattle.modular_sums.specs.Residues.{IsCongruent}
use Rattle.modular_sums.specs.Sums.{coef, scale, Same, expand, IsLinearCombination, moved}
use Rattle.modular_sums.specs.Diamond.{HaveLeadingTerms, Meet, Led}
use Rattle.modular_sums.proofs.Sums.{Same-cancelled}
use Rattle.modular_sums.proofs.Sameness.{same_if_agree}
use Rattle.modular_sums.proofs.Laws.{diamond_law, rank_law, image_law}
use Rattle.modular_sums.proofs.Choices.{choose-no}

-- 3 + 99 is 1 modulo 101
one_again : IsCongruent 100 (3 + 99) 1
one_again = refl

-- x5 - x3 and x3 - x5 are one sum modulo 101, up to the sign
signs : Same ℕ_discrete 100 (scale 100 ((1, 5) ∷ ((100, 3) ∷ []))) ((100, 5) ∷ ((1, 3) ∷ []))
unfolding ℕ_discrete coef scale
signs = same_if_agree ℕ_discrete 100 (scale 100 ((1, 5) ∷ ((100, 3) ∷ []))) ((100, 5) ∷ ((1, 3) ∷ [])) refl

-- ---- one instance, x5 - x3, with the number as its rank

abbrev value : Unit {0} → List (ℕ × ℕ)
value i = (1, 5) ∷ ((100, 3) ∷ [])

abbrev lead : Unit {0} → ℕ
lead i = 5

at_five : IsCongruent 100 (coef ℕ_discrete (value tt) 5) 1
unfolding coef ℕ_discrete
at_five = refl

nothing_above : (t : ℕ) → t ≢ 5 → 5 ≤ t → IsCongruent 100 (coef ℕ_discrete (value tt) t) 0
unfolding coef
nothing_above t ne le =
    let a = choose-no {B = ℕ} (ℕ_discrete 5 t) 1 0 (λ e. absurd (ne (sym e))) in
    let b = choose-no {B = ℕ} (ℕ_discrete 3 t) 100 0 (λ e. absurd (omega (arith, e, le))) in
    let z : choose {B = ℕ} (ℕ_discrete 5 t) 1 0 + (choose {B = ℕ} (ℕ_discrete 3 t) 100 0 + 0) ≡ 0 = omega (arith, a, b) in
    ap (λ n. n % suc 100) z

hosts : HaveLeadingTerms ℕ_discrete (λ t. t) 100 value lead
hosts = record { at_lead = λ i. at_five; above = λ i. nothing_above }

nothing_left : (t : ℕ) → 0 % suc 100 ≡ coef ℕ_discrete (expand value []) t % suc 100
unfolding expand coef
nothing_left t = refl

meets : (i j : Unit {0}) → lead i ≡ lead j → Meet ℕ_discrete (λ t. t) 100 value lead i j
meets i j e = record { uses = []; lower = tt; adds_up = λ t. Same-cancelled ℕ_discrete 100 (value i) t ∙ nothing_left t }

-- each multiple of x5 - x3 is zero, or 5 leads it
led_by_five : (uses : List (ℕ × Unit {0})) → Same ℕ_discrete 100 (expand value uses) [] ⊎ Led ℕ_discrete (λ t. t) 100 lead (expand value uses)
led_by_five uses = diamond_law ℕ (Unit {0}) ℕ_discrete (λ t. t) 100 value lead hosts meets (λ i j e. e) uses

-- ---- numbers in a list, ranked by how many are less

is_below : ℕ → ℕ → Bool
is_below x y = choose (dec_lt x y) true false

below_of : (x y : ℕ) → is_below x y ≡ true → x < y
unfolding is_below
below_of x y e = go (dec_lt x y) e
  where
    go : (d : Dec (x < y)) → choose d true false ≡ true → x < y
    go (yes h) e = h
    go (no f) e = absurd (cc e)

of_below : (x y : ℕ) → x < y → is_below x y ≡ true
unfolding is_below
of_below x y h = go (dec_lt x y)
  where
    go : (d : Dec (x < y)) → choose d true false ≡ true
    go (yes k) = refl
    go (no f) = absurd (f h)

compared : (x y : ℕ) → (is_below x y ≡ true) ⊎ ((is_below y x ≡ true) ⊎ (x ≡ y))
compared x y = go (dec_lt x y) (dec_lt y x)
  where
    go : Dec (x < y) → Dec (y < x) → (is_below x y ≡ true) ⊎ ((is_below y x ≡ true) ⊎ (x ≡ y))
    go (yes h) d = inl (of_below x y h)
    go (no f) (yes h) = inr (inl (of_below y x h))
    go (no f) (no g) = inr (inr (omega (arith, f, g)))

ranks_of_numbers : (l : List ℕ) (x y : ℕ) → Mem x l → Mem y l
    → (is_below x y ≡ true → count_less is_below l x < count_less is_below l y) × (count_less is_below l x ≡ count_less is_below l y → x ≡ y)
ranks_of_numbers l = rank_law ℕ is_below
    (λ x y z h k. let a = below_of x y h in let b = below_of y z k in of_below x z (omega (arith, a, b)))
    (λ x h. let a = below_of x x h in absurd (omega (arith, a))) l (λ x y mx my. compared x y)

-- ---- an image: each monomial doubled, as a sum of instances again

abbrev doubled : Unit {0} → List (ℕ × ℕ)
doubled i = (1, 10) ∷ ((100, 6) ∷ [])

image_of_five : (e : List (ℕ × ℕ)) → IsLinearCombination ℕ_discrete value 100 e → IsLinearCombination ℕ_discrete doubled 100 (moved (λ t. 2 * t) e)
image_of_five = (image_law ℕ ℕ (Unit {0}) (Unit {0}) ℕ_discrete ℕ_discrete 100 (λ t. 2 * t)).1 value doubled (λ i. i) (λ i. refl)
