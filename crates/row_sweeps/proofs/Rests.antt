-- A rest and a row as one sum.
use Rattle.std.proofs.Common.{◌≡◌, ◌≢◌, ℕ, suc, ◌+◌, ◌*◌, ◌-◌, ◌<◌, ◌≤◌, ◌%◌, List, [], ◌∷◌, length, get_or, Some, None, arith, refl, sym, ap, ◌∙◌, subst}
use mathlib.Core.List.{◌++◌}
use native.Mathlib.Decide.{ℕ_discrete}
use Rattle.std.specs.List.{slice_get}
use Rattle.std.proofs.Math.ListN.{set}
use Rattle.std.proofs.Math.Nat.{zero-mod, mod-mod}
use Rattle.std.proofs.lemmas.List.{get_or-set_same, get_or-set_other}
use Rattle.modular_sums.specs.Residues.{IsCongruent}
use Rattle.modular_sums.specs.Sums.{coef, scale, AllTerms, Same}
use Rattle.modular_sums.proofs.Residues.{congruent_add, congruent_drop, congruent_gone, congruent_cancel}
use Rattle.modular_sums.proofs.Sums.{coef-append, coef-scale, AllTerms-append}
use Rattle.modular_sums.proofs.Coefficients.{coef_absent}
use Rattle.modular_sums.proofs.Images.{AllTerms-imp}
use Rattle.modular_sums.specs.RuleTables.{Table, HasRule, IsRuled, IsUnruled, tail_of, rule_at}
use Rattle.modular_sums.specs.PositionRows.{dense}
use Rattle.modular_sums.proofs.PositionRows.{coef-dense}
use Rattle.row_sweeps.specs.Gathering.{IsSumFrom}
use Rattle.row_sweeps.proofs.Falls.{falling_more}
use Rattle.modular_sums.specs.Lists.{choose}
use Rattle.modular_sums.proofs.Choices.{choose-yes, choose-no}

abbrev pub Sum : Type 0
Sum = List (ℕ × ℕ)

pub coef-whole : (rest : Sum) (row : List ℕ) (t : ℕ) → coef ℕ_discrete (rest ++ dense row) t ≡ coef ℕ_discrete rest t + get_or row t 0
coef-whole rest row t = rw (coef-append ℕ_discrete rest (dense row) t, coef-dense row t) refl

single : (c at t : ℕ) → coef ℕ_discrete ((c, at) ∷ []) t ≡ choose (ℕ_discrete at t) c 0
unfolding coef
single c at t = omega arith

pub coef-last : (rest : Sum) (c at t : ℕ) → coef ℕ_discrete (rest ++ ((c, at) ∷ [])) t ≡ coef ℕ_discrete rest t + choose (ℕ_discrete at t) c 0
coef-last rest c at t = coef-append ℕ_discrete rest ((c, at) ∷ []) t ∙ ap (λ n. coef ℕ_discrete rest t + n) (single c at t)

-- what is above isn't below
pub absent_below : (rest : Sum) (at t : ℕ) → AllTerms rest (λ u. at ≤ u) → t < at → coef ℕ_discrete rest t ≡ 0
absent_below rest at t h lt = coef_absent ℕ_discrete rest t (AllTerms-imp (λ u. at ≤ u) (λ u. u ≡ t → ⊥) rest (λ u le e. let n : u ≢ t = omega arith in n e) h)

not_both : (table : Table) (u t : ℕ) → IsUnruled table u → IsRuled table t → u ≡ t → ⊥
not_both table u t un r e = let k : slice_get table t ≡ Some None = subst (IsUnruled table) e un in let h = r.1 in cc (k, h)

-- a position with a rule isn't among those without
pub absent_ruled : (table : Table) (rest : Sum) (t : ℕ) → AllTerms rest (IsUnruled table) → IsRuled table t → coef ℕ_discrete rest t ≡ 0
absent_ruled table rest t h r = coef_absent ℕ_discrete rest t (AllTerms-imp (IsUnruled table) (λ u. u ≡ t → ⊥) rest (λ u un e. not_both table u t un r e) h)

-- a residue goes behind the rest
pub rest_more : (q c at size : ℕ) (rest : Sum) → IsSumFrom q (suc at) size rest → 0 < c → c < suc q → at < size → IsSumFrom q at size (rest ++ ((c, at) ∷ []))
rest_more q c at size rest r pos lt inside = record {
  falls = falling_more (suc q) c at rest r.falls (AllTerms-imp (λ t. suc at ≤ t) (λ t. at < t) rest (λ t h. omega arith) r.above) pos lt;
  above = AllTerms-append rest ((c, at) ∷ []) (λ t. at ≤ t) (AllTerms-imp (λ t. suc at ≤ t) (λ t. at ≤ t) rest (λ t h. omega arith) r.above) (omega arith, tt);
  within = AllTerms-append rest ((c, at) ∷ []) (λ t. t < size) r.within (inside, tt);
}

pub rest_same : (q at size : ℕ) (rest : Sum) → IsSumFrom q (suc at) size rest → IsSumFrom q at size rest
rest_same q at size rest r = record {
  falls = r.falls;
  above = AllTerms-imp (λ t. suc at ≤ t) (λ t. at ≤ t) rest (λ t h. omega arith) r.above;
  within = r.within;
}

-- rows that are 0 from a position on stay so below, where that position is set to 0
pub zeros_more : (row : List ℕ) (at : ℕ) → at < length row → ((t : ℕ) → suc at ≤ t → get_or row t 0 ≡ 0) → (t : ℕ) → at ≤ t → get_or (set row at 0) t 0 ≡ 0
zeros_more row at lt h t le = go (ℕ_discrete t at)
  where
    go : Dec (t ≡ at) → get_or (set row at 0) t 0 ≡ 0
    go (yes p) = subst (λ u. get_or (set row at 0) u 0 ≡ 0) (sym p) (get_or-set_same row at 0 0 lt)
    go (no n) = get_or-set_other row at t 0 0 n ∙ h t (omega arith)

-- a row with a position set to 0 has no greater numbers
pub set_zero_small : (row : List ℕ) (at t : ℕ) → at < length row → get_or (set row at 0) t 0 ≤ get_or row t 0
set_zero_small row at t lt = go (ℕ_discrete t at)
  where
    go : Dec (t ≡ at) → get_or (set row at 0) t 0 ≤ get_or row t 0
    go (yes p) = subst (λ u. get_or (set row at 0) u 0 ≤ get_or row u 0) (sym p) (rw (get_or-set_same row at 0 0 lt) (omega arith))
    go (no n) = rw (get_or-set_other row at t 0 0 n) (omega arith)

module _ (q : ℕ) where
  -- sums alike position by position
  pub same_wholes : (rest more : Sum) (row next : List ℕ) → ((t : ℕ) → IsCongruent q (coef ℕ_discrete rest t + get_or row t 0) (coef ℕ_discrete more t + get_or next t 0))
      → Same ℕ_discrete q (rest ++ dense row) (more ++ dense next)
  same_wholes rest more row next h t = rw (coef-whole rest row t, coef-whole more next t) (h t)

  -- one number of the row, and what stands there in the rest, is replaced
  pub same_replaced : (rest more : Sum) (row : List ℕ) (at v : ℕ) → at < length row → ((t : ℕ) → t ≢ at → coef ℕ_discrete more t ≡ coef ℕ_discrete rest t)
      → IsCongruent q (coef ℕ_discrete rest at + get_or row at 0) (coef ℕ_discrete more at + v) → Same ℕ_discrete q (rest ++ dense row) (more ++ dense (set row at v))
  same_replaced rest more row at v lt others here = same_wholes rest more row (set row at v) (λ t. go t (ℕ_discrete t at))
    where
      go : (t : ℕ) → Dec (t ≡ at) → IsCongruent q (coef ℕ_discrete rest t + get_or row t 0) (coef ℕ_discrete more t + get_or (set row at v) t 0)
      go t (yes p) = subst (λ u. IsCongruent q (coef ℕ_discrete rest u + get_or row u 0) (coef ℕ_discrete more u + get_or (set row at v) u 0)) (sym p)
          (rw (get_or-set_same row at v 0 lt) here)
      go t (no n) = rw (others t n, get_or-set_other row at t v 0 n) refl

  residue_alike : (r x : ℕ) → IsCongruent q (r + x) (r + x % suc q)
  residue_alike r x = congruent_add q r r x (x % suc q) refl (sym (mod-mod x (suc q)))

  -- 0 is taken away
  pub same_zero : (rest : Sum) (row : List ℕ) (at : ℕ) → at < length row → get_or row at 0 % suc q ≡ 0 → Same ℕ_discrete q (rest ++ dense row) (rest ++ dense (set row at 0))
  same_zero rest row at lt z = same_replaced rest rest row at 0 lt (λ t n. refl)
      (congruent_add q (coef ℕ_discrete rest at) (coef ℕ_discrete rest at) (get_or row at 0) 0 refl (z ∙ sym (zero-mod (suc q))))

  -- a number becomes its residue
  pub same_residue : (rest : Sum) (row : List ℕ) (at : ℕ) → at < length row → Same ℕ_discrete q (rest ++ dense row) (rest ++ dense (set row at (get_or row at 0 % suc q)))
  same_residue rest row at lt = same_replaced rest rest row at (get_or row at 0 % suc q) lt (λ t n. refl) (residue_alike (coef ℕ_discrete rest at) (get_or row at 0))

  -- a residue goes from the row to the rest
  pub same_left : (rest : Sum) (row : List ℕ) (at : ℕ) → at < length row
      → Same ℕ_discrete q (rest ++ dense row) ((rest ++ ((get_or row at 0 % suc q, at) ∷ [])) ++ dense (set row at 0))
  same_left rest row at lt = same_replaced rest (rest ++ ((c, at) ∷ [])) row at 0 lt others here
    where
      c : ℕ
      c = get_or row at 0 % suc q

      others : (t : ℕ) → t ≢ at → coef ℕ_discrete (rest ++ ((c, at) ∷ [])) t ≡ coef ℕ_discrete rest t
      others t n = rw (coef-last rest c at t, choose-no (ℕ_discrete at t) c 0 (λ e. n (sym e))) (omega arith)

      here : IsCongruent q (coef ℕ_discrete rest at + get_or row at 0) (coef ℕ_discrete (rest ++ ((c, at) ∷ [])) at + 0)
      here =
          let e : coef ℕ_discrete rest at + c + 0 ≡ coef ℕ_discrete rest at + c = omega arith in
          rw (coef-last rest c at at, choose-yes (ℕ_discrete at at) c 0 refl, e) (residue_alike (coef ℕ_discrete rest at) (get_or row at 0))

  -- ---- a step

  -- x less c is 0, where c is the residue of x
  gone : (r x c : ℕ) → IsCongruent q c x → IsCongruent q (r + x + q * c * (1 + 0)) (r + (0 + 0))
  gone r x c h =
      let a : IsCongruent q (r + x + q * c * (1 + 0)) (r + c + q * c * (1 + 0)) = congruent_add q (r + x) (r + c) (q * c * (1 + 0)) (q * c * (1 + 0)) (congruent_add q r r x c refl (sym h)) refl in
      let e : r + c + q * c * (1 + 0) ≡ r + (0 + 0) + (c + q * c) = omega arith in
      a ∙ ap (λ n. n % suc q) e ∙ congruent_drop q (r + (0 + 0)) c

  -- q times c is alike suc q less c
  turned : (c k : ℕ) → c ≤ suc q → IsCongruent q (q * c * (0 + k)) ((suc q - c) * k)
  turned c k le = congruent_cancel q (q * c * (0 + k)) ((suc q - c) * k) (c * k) (left ∙ sym right)
    where
      left : IsCongruent q (q * c * (0 + k) + c * k) 0
      left = let e : q * c * (0 + k) + c * k ≡ c * k + q * (c * k) = omega arith in ap (λ n. n % suc q) e ∙ congruent_gone q (c * k)

      right : IsCongruent q ((suc q - c) * k + c * k) 0
      right =
          let m : suc q - c + c ≡ suc q = omega arith in
          let e : (suc q - c) * k + c * k ≡ (suc q - c + c) * k = omega arith in
          let f : suc q * k ≡ k + q * k = omega arith in
          ap (λ n. n % suc q) (e ∙ ap (λ n. n * k) m ∙ f) ∙ congruent_gone q k

  coef-rule : (at t : ℕ) (tail : Sum) → coef ℕ_discrete ((1, at) ∷ tail) t ≡ choose {B = ℕ} (ℕ_discrete at t) 1 0 + coef ℕ_discrete tail t
  unfolding coef
  coef-rule at t tail = refl

  -- the multiple of the rule is subtracted
  pub same_stepped : (table : Table) (tail rest : Sum) (row next : List ℕ) (at c : ℕ) → HasRule table at tail → at < length row → c ≤ suc q → IsCongruent q c (get_or row at 0) → coef ℕ_discrete tail at ≡ 0
      → ((t : ℕ) → get_or next t 0 ≡ get_or (set row at 0) t 0 + (suc q - c) * coef ℕ_discrete tail t)
      → Same ℕ_discrete q ((rest ++ dense row) ++ scale (q * c) (rule_at table at)) (rest ++ dense next)
  same_stepped table tail rest row next at c rule lt le h none added t =
      let e : rule_at table at ≡ (1, at) ∷ tail = ap (λ o. (1, at) ∷ tail_of o) rule in
      rw (
        coef-append ℕ_discrete (rest ++ dense row) (scale (q * c) (rule_at table at)) t,
        coef-whole rest row t,
        coef-scale ℕ_discrete (q * c) (rule_at table at) t,
        e,
        coef-rule at t tail,
        coef-whole rest next t,
        added t,
      )
      (go (ℕ_discrete at t))
    where
      go : (d : Dec (at ≡ t)) → IsCongruent q (coef ℕ_discrete rest t + get_or row t 0 + q * c * (choose {B = ℕ} d 1 0 + coef ℕ_discrete tail t)) (coef ℕ_discrete rest t + (get_or (set row at 0) t 0 + (suc q - c) * coef ℕ_discrete tail t))
      go (yes p) = subst (λ u. IsCongruent q (coef ℕ_discrete rest u + get_or row u 0 + q * c * (1 + coef ℕ_discrete tail u)) (coef ℕ_discrete rest u + (get_or (set row at 0) u 0 + (suc q - c) * coef ℕ_discrete tail u))) p
          (let z : (suc q - c) * 0 ≡ 0 = omega arith in rw (none, get_or-set_same row at 0 0 lt, z) (gone (coef ℕ_discrete rest at) (get_or row at 0) c h))
      go (no n) =
          let r = coef ℕ_discrete rest t in
          let x = get_or row t 0 in
          let k = coef ℕ_discrete tail t in
          let e : r + (x + (suc q - c) * k) ≡ r + x + (suc q - c) * k = omega arith in
          rw (get_or-set_other row at t 0 0 (λ p. n (sym p)), e) (congruent_add q (r + x) (r + x) (q * c * (0 + k)) ((suc q - c) * k) refl (turned c k le))
