-- The residues of a row go behind a rest, from the greatest position down.
use Rattle.std.proofs.Common.{◌≡◌, ◌≢◌, ℕ, suc, ◌<◌, ◌≤◌, ◌%◌, List, [], ◌∷◌, length, get_or, arith, refl, sym, ap, ◌∙◌, subst}
use mathlib.Core.List.{◌++◌}
use native.Mathlib.Decide.{ℕ_discrete}
use Rattle.std.proofs.Math.ListN.{set}
use Rattle.std.proofs.Math.Nat.{mod-lt}
use Rattle.modular_sums.specs.Sums.{Same}
use Rattle.modular_sums.specs.PositionRows.{dense}
use Rattle.row_sweeps.specs.Terms.{pairs}
use Rattle.row_sweeps.specs.Gathering.{IsSumFrom, IsGathered}
use Rattle.row_sweeps.specs.declared.row.Term.{Term}
use Rattle.row_sweeps.proofs.Rests.{Sum, rest_more, rest_same, zeros_more, same_zero, same_left, coef-whole}

pub pairs_push : (l : List Term) (x : Term) → pairs (l ++ (x ∷ [])) ≡ pairs l ++ ((x.coef, x.position) ∷ [])
pairs_push [] x = refl
pairs_push (y ∷ l) x = ap (λ k. (y.coef, y.position) ∷ k) (pairs_push l x)

-- The rest with a row so far: from `at` on the row went behind the rest.
pub record IsGathering (q : ℕ) (first : List ℕ) (rest : Sum) (at : ℕ) (row : List ℕ) (all : Sum) : Type 0 where
  pub same : Same ℕ_discrete q (rest ++ dense first) (all ++ dense row)
  pub falls : IsSumFrom q at (length first) all
  pub zeros : (t : ℕ) → at ≤ t → get_or row t 0 ≡ 0
  pub inside : at ≤ length first

pub gather_first : (q : ℕ) (first : List ℕ) (rest : Sum) (at : ℕ) → IsSumFrom q at (length first) rest → ((t : ℕ) → at ≤ t → get_or first t 0 ≡ 0) → at ≤ length first → IsGathering q first rest at first rest
gather_first q first rest at r z le = record { same = λ t. refl; falls = r; zeros = z; inside = le }

module _ (q : ℕ) (first : List ℕ) (rest : Sum) (at k : ℕ) (row : List ℕ) (all : Sum) (g : IsGathering q first rest at row all) (next : at ≡ suc k) (sized : length row ≡ length first) where
  lt : k < length row
  lt = let i = g.inside in omega (arith, i, next, sized)

  zeros : (t : ℕ) → k ≤ t → get_or (set row k 0) t 0 ≡ 0
  zeros = zeros_more row k lt (subst (λ n. (t : ℕ) → n ≤ t → get_or row t 0 ≡ 0) next g.zeros)

  from : IsSumFrom q (suc k) (length first) all
  from = subst (λ n. IsSumFrom q n (length first) all) next g.falls

  inside : k ≤ length first
  inside = let i = g.inside in omega (arith, i, next)

  pub gather_zero : get_or row k 0 % suc q ≡ 0 → IsGathering q first rest k (set row k 0) all
  gather_zero z = record { same = λ t. g.same t ∙ same_zero q all row k lt z t; falls = rest_same q k (length first) all from; zeros = zeros; inside = inside }

  pub gather_left : (c : ℕ) → c ≡ get_or row k 0 % suc q → c ≢ 0 → IsGathering q first rest k (set row k 0) (all ++ ((c, k) ∷ []))
  gather_left c e n =
      let small : c < suc q = rw e (mod-lt (get_or row k 0) (omega arith)) in
      let into : k < length first = let l = lt in omega (arith, l, sized) in
      record {
        same = λ t. g.same t ∙ subst (λ r. Same ℕ_discrete q (all ++ dense row) ((all ++ ((r, k) ∷ [])) ++ dense (set row k 0))) (sym e) (same_left q all row k lt) t;
        falls = rest_more q c k (length first) all from (omega arith) small into;
        zeros = zeros;
        inside = inside;
      }

-- at the end the row is 0
pub gathered : (q : ℕ) (first : List ℕ) (rest : Sum) (at : ℕ) (row : List ℕ) (all : Sum) → IsGathering q first rest at row all → at ≤ 0 → IsGathered q first rest all
gathered q first rest at row all g le = record {
  same = λ t. g.same t ∙ ap (λ n. n % suc q) (coef-whole all row t ∙ (let z : get_or row t 0 ≡ 0 = g.zeros t (omega arith) in omega (arith, z)));
  falls = g.falls.falls;
  within = g.falls.within;
}
