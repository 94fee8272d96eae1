-- A sweep, position by position: the steps so far are a chain from the row to the rest and what is left of the row.
use Rattle.std.proofs.Common.{◌≡◌, ◌≢◌, ℕ, suc, ◌+◌, ◌*◌, ◌-◌, ◌<◌, ◌≤◌, ◌%◌, Bool, true, false, List, [], ◌∷◌, length, get_or, arith, refl, sym, ap, ◌∙◌, subst, inl, inr, ◌⊎◌}
use mathlib.Core.List.{◌++◌}
use native.Mathlib.Decide.{ℕ_discrete}
use Rattle.std.proofs.Math.ListN.{set}
use Rattle.std.proofs.Math.Nat.{zero-mod, mod-mod, mod-lt}
use Rattle.std.proofs.lemmas.List.{length-set, get_or-set_other}
use Rattle.std.proofs.Common.{append_assoc, length-append}
use Rattle.modular_sums.specs.Residues.{IsCongruent}
use Rattle.modular_sums.specs.Sums.{coef, AllTerms, Same}
use Rattle.modular_sums.proofs.Sums.{AllTerms-append}
use Rattle.modular_sums.specs.RuleTables.{Table, IsRuled, IsUnruled}
use Rattle.modular_sums.specs.PositionChains.{HasPosition, IsPositionStep, IsPositionChain}
use Rattle.modular_sums.specs.PositionRows.{dense}
use Rattle.modular_sums.proofs.PositionChains.{last_same, joined}
use Rattle.row_sweeps.specs.Counts.{Count}
use Rattle.row_sweeps.specs.Gathering.{IsSumFrom, IsGathered}
use Rattle.row_sweeps.specs.Visits.{State, kept, IsNothing, IsLeft, IsCancelled, IsHalted, IsVisit}
use Rattle.row_sweeps.specs.Sweeps.{HasSwept, IsSpentAt}
use Rattle.row_sweeps.proofs.Falls.{falling_no_zeros}
use Rattle.row_sweeps.proofs.Tails.{tail_below, multiple_small}
use Rattle.row_sweeps.proofs.Rests.{Sum, coef-whole, absent_below, absent_ruled, rest_more, rest_same, zeros_more, set_zero_small, same_zero, same_residue, same_left, same_stepped}

nothing_more : (l : Sum) → l ++ [] ≡ l
nothing_more [] = refl
nothing_more (x ∷ l) = ap (λ k. x ∷ k) (nothing_more l)

kept-append : (keep : Bool) (k l : Sum) → kept keep (k ++ l) ≡ kept keep k ++ kept keep l
kept-append true k l = refl
kept-append false k l = refl

-- Where a sweep is before position `at - 1`: from `at` on the row is 0, and what has no rule is in the rest.
pub record IsSweeping (q : ℕ) (table : Table) (first : List ℕ) (keep : Bool) (log : Sum) (count at : ℕ) (s : State) : Type 0 where
  pub made : Sum
  pub chain : IsPositionChain q table (dense first) made (s.rest ++ dense s.row)
  pub counted : s.steps.count ≡ count + length made
  pub logged : s.log ≡ log ++ kept keep made
  pub zeros : (t : ℕ) → at ≤ t → get_or s.row t 0 ≡ 0
  pub rest : IsSumFrom q at (length table) s.rest
  pub unruled : AllTerms s.rest (IsUnruled table)
  pub sized : length s.row ≡ length table
  pub inside : at ≤ length table
  pub small : (t : ℕ) → get_or s.row t 0 + at * 4294967296 < 9223372036854775808 + length table * 4294967296

pub sweep_first : (q : ℕ) (table : Table) (first : List ℕ) (keep : Bool) (at : ℕ) (s : State) → s.row ≡ first → s.rest ≡ [] → length first ≡ length table → at ≤ length first
    → ((t : ℕ) → at ≤ t → get_or first t 0 ≡ 0) → ((t : ℕ) → get_or first t 0 < 9223372036854775808) → IsSweeping q table first keep s.log s.steps.count at s
sweep_first q table first keep at s er es sized le z small = record {
  made = [];
  chain = λ t. ap (λ k. coef ℕ_discrete k t % suc q) (sym (rw (er, es) refl));
  counted = omega arith;
  logged = no_more keep s.log;
  zeros = λ t k. rw er (z t k);
  rest = rw es (record { falls = record { residues = tt; falls = tt }; above = tt; within = tt });
  unruled = rw es tt;
  sized = rw er sized;
  inside = omega arith;
  small = λ t. rw er (let k = small t in omega (arith, k, le, sized));
}
  where
    no_more : (keep : Bool) (l : Sum) → l ≡ l ++ kept keep []
    no_more true l = sym (nothing_more l)
    no_more false l = sym (nothing_more l)

module _ (q : ℕ) (table : Table) (first : List ℕ) (keep : Bool) (log : Sum) (count at k : ℕ) (s now : State)
    (g : IsSweeping q table first keep log count at s) (next : at ≡ suc k) where
  abbrev x : ℕ
  x = get_or s.row k 0

  abbrev c : ℕ
  c = get_or s.row k 0 % suc q

  lt : k < length s.row
  lt = let i = g.inside in let z = g.sized in omega (arith, i, z, next)

  into : k < length table
  into = let i = g.inside in omega (arith, i, next)

  later : k ≤ length table
  later = let i = g.inside in omega (arith, i, next)

  from : IsSumFrom q (suc k) (length table) s.rest
  from = subst (λ n. IsSumFrom q n (length table) s.rest) next g.rest

  zeros_from : (t : ℕ) → suc k ≤ t → get_or s.row t 0 ≡ 0
  zeros_from = subst (λ n. (t : ℕ) → n ≤ t → get_or s.row t 0 ≡ 0) next g.zeros

  residue_small : c < suc q
  residue_small = mod-lt x (omega arith)

  -- what stands in the rest and the row at the position is the number of the row
  whole_here : coef ℕ_discrete (s.rest ++ dense s.row) k ≡ x
  whole_here = coef-whole s.rest s.row k ∙ (let z : coef ℕ_discrete s.rest k ≡ 0 = absent_below s.rest (suc k) k from.above (omega arith) in omega (arith, z))

  -- numbers that are no greater stay small
  stays_small : (t : ℕ) → (n : ℕ) → n ≤ get_or s.row t 0 + 4294967296 → n + k * 4294967296 < 9223372036854775808 + length table * 4294967296
  stays_small t n le = let m = g.small t in omega (arith, m, le, next)

  set_small : (t : ℕ) → get_or (set s.row k 0) t 0 + k * 4294967296 < 9223372036854775808 + length table * 4294967296
  set_small t = let le = set_zero_small s.row k t lt in stays_small t (get_or (set s.row k 0) t 0) (omega (arith, le))

  sweep_nothing : IsNothing q k s now → IsSweeping q table first keep log count k now
  sweep_nothing v = record {
    made = g.made;
    chain = last_same q table g.made (dense first) (s.rest ++ dense s.row) (now.rest ++ dense now.row) (rw (v.rest, v.row) (same_zero q s.rest s.row k lt v.zero)) g.chain;
    counted = v.count ∙ g.counted;
    logged = v.log ∙ g.logged;
    zeros = rw v.row (zeros_more s.row k lt zeros_from);
    rest = rw v.rest (rest_same q k (length table) s.rest from);
    unruled = rw v.rest g.unruled;
    sized = rw v.row (length-set s.row k 0 ∙ g.sized);
    inside = later;
    small = rw v.row set_small;
  }

  sweep_left : IsLeft q table k s now → IsSweeping q table first keep log count k now
  sweep_left v =
      let n : c ≢ 0 = v.nonzero in
      record {
        made = g.made;
        chain = last_same q table g.made (dense first) (s.rest ++ dense s.row) (now.rest ++ dense now.row) (rw (v.rest, v.row) (same_left q s.rest s.row k lt)) g.chain;
        counted = v.count ∙ g.counted;
        logged = v.log ∙ g.logged;
        zeros = rw v.row (zeros_more s.row k lt zeros_from);
        rest = rw v.rest (rest_more q c k (length table) s.rest from (omega arith) residue_small into);
        unruled = rw v.rest (AllTerms-append s.rest ((c, k) ∷ []) (IsUnruled table) g.unruled (v.unruled, tt));
        sized = rw v.row (length-set s.row k 0 ∙ g.sized);
        inside = later;
        small = rw v.row set_small;
      }

  -- ---- a step

  stands : c ≢ 0 → HasPosition q (s.rest ++ dense s.row) k
  stands n z = let e : c ≡ 0 = ap (λ m. m % suc q) (sym whole_here) ∙ z ∙ zero-mod (suc q) in n e

  none_above : (t : ℕ) → HasPosition q (s.rest ++ dense s.row) t → IsRuled table t → t ≤ k
  none_above t st r = go (let o : (t ≤ k) ⊎ (suc k ≤ t) = grind arith in o)
    where
      above : suc k ≤ t → ⊥
      above le = st (ap (λ m. m % suc q) (coef-whole s.rest s.row t ∙ (let a = absent_ruled table s.rest t g.unruled r in let b = zeros_from t le in omega (arith, a, b))))

      go : (t ≤ k) ⊎ (suc k ≤ t) → t ≤ k
      go (inl le) = le
      go (inr le) = absurd (above le)

  the_step : IsCancelled q table k keep s now → IsPositionStep q table (s.rest ++ dense s.row) c k
  the_step v = record {
    there = stands v.nonzero;
    ruled = (v.tail, v.rule);
    greatest = none_above;
    coefficient = mod-mod x (suc q) ∙ ap (λ m. m % suc q) (sym whole_here);
  }

  one_chain : IsCancelled q table k keep s now → IsPositionChain q table (s.rest ++ dense s.row) ((c, k) ∷ []) (now.rest ++ dense now.row)
  one_chain v = (
    the_step v,
    rw v.rest (same_stepped q table v.tail s.rest s.row now.row k c v.rule lt (let l = residue_small in omega (arith, l)) (mod-mod x (suc q)) (tail_below q k v.tail v.lower k (omega arith)) v.row),
  )

  number_small : (small : q ≤ 65536) → (v : IsCancelled q table k keep s now) → (t : ℕ) → get_or now.row t 0 ≤ get_or s.row t 0 + 4294967296
  number_small small v t =
      let n : c ≢ 0 = v.nonzero in
      let le : suc q - c ≤ q = omega arith in
      let m = multiple_small q k v.tail v.lower (suc q - c) t le small in
      let z = set_zero_small s.row k t lt in
      let e = v.row t in
      omega (arith, m, z, e)

  zeros_stepped : IsCancelled q table k keep s now → (t : ℕ) → k ≤ t → get_or now.row t 0 ≡ 0
  zeros_stepped v t le =
      let a : get_or (set s.row k 0) t 0 ≡ 0 = zeros_more s.row k lt zeros_from t le in
      let b : coef ℕ_discrete v.tail t ≡ 0 = tail_below q k v.tail v.lower t le in
      let z : 0 + (suc q - c) * 0 ≡ 0 = omega arith in
      v.row t ∙ rw (a, b) z

  sweep_step : q ≤ 65536 → length now.row ≡ length s.row → IsCancelled q table k keep s now → IsSweeping q table first keep log count k now
  sweep_step small same v = record {
    made = g.made ++ ((c, k) ∷ []);
    chain = joined q table g.made ((c, k) ∷ []) (dense first) (s.rest ++ dense s.row) (now.rest ++ dense now.row) g.chain (one_chain v);
    counted = let a = g.counted in let b = v.count in let l : length (g.made ++ ((c, k) ∷ [])) ≡ length g.made + 1 = length-append g.made ((c, k) ∷ []) in omega (arith, a, b, l);
    logged = v.log ∙ ap (λ l. l ++ kept keep ((c, k) ∷ [])) g.logged ∙ append_assoc log (kept keep g.made) (kept keep ((c, k) ∷ [])) ∙ ap (λ l. log ++ l) (sym (kept-append keep g.made ((c, k) ∷ [])));
    zeros = zeros_stepped v;
    rest = rw v.rest (rest_same q k (length table) s.rest from);
    unruled = rw v.rest g.unruled;
    sized = same ∙ g.sized;
    inside = later;
    small = λ t. stays_small t (get_or now.row t 0) (number_small small v t);
  }

  -- the sweep goes on
  pub sweep_on : q ≤ 65536 → length now.row ≡ length s.row → IsVisit q table k keep s now true → IsSweeping q table first keep log count k now
  sweep_on small same (inl v) = sweep_nothing v
  sweep_on small same (inr (inl v)) = sweep_left v
  sweep_on small same (inr (inr v)) = sweep_step small same v

  -- ---- the steps are spent

  pub halted_rest : IsHalted q table k s now → IsSumFrom q (suc k) (length table) now.rest
  halted_rest v = rw v.rest from

  pub halted_zeros : IsHalted q table k s now → (t : ℕ) → suc k ≤ t → get_or now.row t 0 ≡ 0
  halted_zeros v t le = let n : t ≢ k = omega arith in rw v.row (get_or-set_other s.row k t c 0 n ∙ zeros_from t le)

  pub spent_at : (last : Count) (all : Sum) → IsHalted q table k s now → last ≡ now.steps → IsGathered q now.row now.rest all → (before : Count) → before.count ≡ count → IsSpentAt q table (dense first) all before last keep log now.log
  spent_at last all v el h before eb = record {
    reached = record {
      steps = g.made;
      chain = last_same q table g.made (dense first) (s.rest ++ dense s.row) all (λ t. same_residue q s.rest s.row k lt t ∙ whole t ∙ h.same t) g.chain;
      counted = rw el (v.count ∙ g.counted ∙ ap (λ n. n + length g.made) (sym eb));
      logged = v.log ∙ g.logged;
      falls = h.falls;
      within = subst (λ n. AllTerms all (λ t. t < n)) (ap length v.row ∙ length-set s.row k c ∙ g.sized) h.within;
      no_zeros = falling_no_zeros q all h.falls;
    };
    stopped = record {
      at = k;
      there = λ z. v.nonzero (residue_here ∙ z ∙ zero-mod (suc q));
      ruled = v.ruled;
    };
    full = rw el v.full;
  }
    where
      whole : Same ℕ_discrete q (s.rest ++ dense (set s.row k c)) (now.rest ++ dense now.row)
      whole = rw (v.rest, v.row) (λ t. refl)

      residue_here : IsCongruent q x (coef ℕ_discrete all k)
      residue_here = ap (λ m. m % suc q) (sym whole_here) ∙ same_residue q s.rest s.row k lt k ∙ whole k ∙ h.same k

-- at the end
pub swept : (q : ℕ) (table : Table) (first : List ℕ) (keep : Bool) (log : Sum) (before after : Count) (s : State) → IsSweeping q table first keep log before.count 0 s → s.steps ≡ after
    → HasSwept q table (dense first) s.rest before after keep log s.log
swept q table first keep log before after s g es = record {
  reached = record {
    steps = g.made;
    chain = last_same q table g.made (dense first) (s.rest ++ dense s.row) s.rest
        (λ t. ap (λ n. n % suc q) (coef-whole s.rest s.row t ∙ (let z : get_or s.row t 0 ≡ 0 = g.zeros t (omega arith) in omega (arith, z)))) g.chain;
    counted = ap (λ (k : Count). k.count) (sym es) ∙ g.counted;
    logged = g.logged;
    falls = g.rest.falls;
    within = g.rest.within;
    no_zeros = falling_no_zeros q s.rest g.rest.falls;
  };
  finished = λ t st r. st (ap (λ n. n % suc q) (absent_ruled table s.rest t g.unruled r));
}
