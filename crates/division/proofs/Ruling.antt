-- Rules, position by position.
use Rattle.std.specs.Prelude.{slice_index, slice_index_or, slice_range}
use Rattle.std.proofs.Common.{◌≡◌, ◌≢◌, ℕ, zero, suc, ◌+◌, ◌-◌, ◌<◌, ◌≤◌, List, [], ◌∷◌, length, set, take, get_or, refl, sym, ◌∙◌, ap, arith, subst, Option, Some, None, slice_get, inl, inr, ◌⊎◌}
use mathlib.Core.List.{◌++◌}
use mathlib.Core.Path.{ap₂}
use native.Mathlib.Decide.{ℕ_discrete}
use Rattle.std.proofs.lemmas.List.{length-append, get_or_append_left, take_more}
use Rattle.std.proofs.lemmas.Option.{slice_get-get_or, slice_get_within, get_or_from_slice_get}
use Rattle.std.proofs.Math.Seq.{get_or-append_seam}
use Rattle.std.specs.List.{All, range_with_len, zip}
use Rattle.std.proofs.lemmas.List.FromFn.{length-range_with_len}
use Rattle.std.proofs.lemmas.List.Sorted.{length_permutation}
use Rattle.shuffle_sums.proofs.RisingBlocks.{position_within}
use Rattle.modular_sums.specs.RuleTables.{Table, IsRuleTail}
use Rattle.row_sweeps.specs.Rules.{Rules, unruled}
use Rattle.row_sweeps.proofs.KeptRules.{range_grown, range_last}
use Rattle.division.proofs.KeptLists.{entry_pushed}
use Rattle.division.specs.Ranks.{tail_at, AreRules, AreStored, CanRule, IsRuledBy}

-- ---- coefficients

pub record AreStoredSoFar (old now : Rules) (froms : List ℕ) (done : List (List ℕ)) : Type 0 where
  pub stored : AreStored now.coefs froms done
  pub rules : now.rules ≡ old.rules
  pub prime : now.q ≡ old.q

pub stored_none : (stored : List ℕ) → AreStored stored [] []
stored_none stored = record { as_many = refl; within = λ e c q. absurd (cc q); are = λ e c q. absurd (cc q) }

pub stored_more : (stored froms : List ℕ) (done : List (List ℕ)) (c : List ℕ) → AreStored stored froms done → AreStored (stored ++ c) (froms ++ (length stored ∷ [])) (done ++ (c ∷ []))
stored_more stored froms done c h = record {
  as_many = let m = h.as_many in omega (arith, m, length-append froms (length stored ∷ []), length-append done (c ∷ []));
  within = λ e d q. (both e d (entry_pushed done c e d q)).0;
  are = λ e d q. (both e d (entry_pushed done c e d q)).1;
}
  where
    both : (e : ℕ) (d : List ℕ) → (slice_get done e ≡ Some d) ⊎ ((e ≡ length done) × (c ≡ d))
        → (slice_index (froms ++ (length stored ∷ [])) e + length d ≤ length (stored ++ c)) × (slice_range (stored ++ c) (slice_index (froms ++ (length stored ∷ [])) e) (slice_index (froms ++ (length stored ∷ [])) e + length d) ≡ d)
    both e d (inl q) =
        let low : e < length froms = (let w = slice_get_within done e d q in let m = h.as_many in omega (arith, w, m)) in
        let at : slice_index (froms ++ (length stored ∷ [])) e ≡ slice_index froms e = get_or_append_left froms (length stored ∷ []) 0 e low in
        let w = h.within e d q in (
          subst (λ a. a + length d ≤ length (stored ++ c)) (sym at) (omega (arith, w, length-append stored c)),
          subst (λ a. slice_range (stored ++ c) a (a + length d) ≡ d) (sym at) (range_grown stored c (slice_index froms e) (length d) w ∙ h.are e d q),
        )
    both e d (inr q) =
        let here : e ≡ length froms = (let m = h.as_many in let z = q.0 in omega (arith, m, z)) in
        let at : slice_index (froms ++ (length stored ∷ [])) e ≡ length stored = ap (slice_index (froms ++ (length stored ∷ []))) here ∙ get_or-append_seam froms (length stored) [] 0 in (
          subst (λ a. a + length d ≤ length (stored ++ c)) (sym at) (subst (λ l. length stored + length l ≤ length (stored ++ c)) q.1 (omega (arith, length-append stored c))),
          subst (λ a. slice_range (stored ++ c) a (a + length d) ≡ d) (sym at) (subst (λ l. slice_range (stored ++ c) (length stored) (length stored + length l) ≡ l) q.1 (range_last stored c)),
        )

-- ---- rules

pub record AreRulesSoFar (prime : ℕ) (coefs : List (List ℕ)) (froms : List ℕ) (found : List (Option ℕ)) (ids : List ℕ) (tails : List (List ℕ)) (order ranks : List ℕ) (table : Rules) (at : ℕ) : Type 0 where
  pub prime_is : table.q ≡ prime - 1
  pub can : CanRule table.q coefs found ids tails order ranks
  pub stored : AreStored table.coefs froms coefs
  pub sized : length table.rules ≡ length ids
  pub before : (p : ℕ) → p < at → IsRuledBy coefs found ids tails order ranks p (slice_get table.rules p)
  pub behind : (p : ℕ) → at ≤ p → p < length ids → slice_get table.rules p ≡ Some None

unruled_at : (n p : ℕ) → p < n → slice_get (unruled n) p ≡ Some None
unruled_at zero p lt = absurd (omega (arith, lt))
unruled_at (suc n) zero lt = refl
unruled_at (suc n) (suc p) lt = unruled_at n p (omega (arith, lt))

unruled_length : (n : ℕ) → length (unruled n) ≡ n
unruled_length zero = refl
unruled_length (suc n) = ap suc (unruled_length n)

pub rules_none : (prime : ℕ) (coefs : List (List ℕ)) (froms : List ℕ) (found : List (Option ℕ)) (ids : List ℕ) (tails : List (List ℕ)) (order ranks : List ℕ) (table : Rules)
    → table.q ≡ prime - 1 → CanRule (prime - 1) coefs found ids tails order ranks → AreStored table.coefs froms coefs → table.rules ≡ unruled (length ids) → AreRulesSoFar prime coefs froms found ids tails order ranks table 0
rules_none prime coefs froms found ids tails order ranks table e can s u = record {
  prime_is = e;
  can = subst (λ q. CanRule q coefs found ids tails order ranks) (sym e) can;
  stored = s;
  sized = ap length u ∙ unruled_length (length ids);
  before = λ p lt. absurd (omega (arith, lt));
  behind = λ p le lt. ap (λ (l : Table). slice_get l p) u ∙ unruled_at (length ids) p lt;
}

pub rules_more : (prime : ℕ) (coefs : List (List ℕ)) (froms : List ℕ) (found : List (Option ℕ)) (ids : List ℕ) (tails : List (List ℕ)) (order ranks : List ℕ) (table now : Rules) (at : ℕ)
    → AreRulesSoFar prime coefs froms found ids tails order ranks table at → now.q ≡ table.q → now.coefs ≡ table.coefs → length now.rules ≡ length table.rules
    → IsRuledBy coefs found ids tails order ranks at (slice_get now.rules at) → ((p : ℕ) → p ≢ at → slice_get now.rules p ≡ slice_get table.rules p)
    → AreRulesSoFar prime coefs froms found ids tails order ranks now (at + 1)
rules_more prime coefs froms found ids tails order ranks table now at h q cs len here others = record {
  prime_is = q ∙ h.prime_is;
  can = subst (λ q. CanRule q coefs found ids tails order ranks) (sym q) h.can;
  stored = subst (λ l. AreStored l froms coefs) (sym cs) h.stored;
  sized = len ∙ h.sized;
  before = λ p lt. by p lt (ℕ_discrete p at);
  behind = λ p le lt. others p (λ e. absurd (omega (arith, e, le))) ∙ h.behind p (omega (arith, le)) lt;
}
  where
    by : (p : ℕ) → p < at + 1 → Dec (p ≡ at) → IsRuledBy coefs found ids tails order ranks p (slice_get now.rules p)
    by p lt (yes e) = subst (λ i. IsRuledBy coefs found ids tails order ranks i (slice_get now.rules i)) (sym e) here
    by p lt (no apart) = subst (IsRuledBy coefs found ids tails order ranks p) (sym (others p apart)) (h.before p (let less : p < at = grind arith in less))

pub rules_all : (prime : ℕ) (coefs : List (List ℕ)) (froms : List ℕ) (found : List (Option ℕ)) (ids : List ℕ) (tails : List (List ℕ)) (order ranks : List ℕ) (table : Rules) (at : ℕ)
    → length ids ≤ at → AreRulesSoFar prime coefs froms found ids tails order ranks table at → AreRules coefs found ids tails order ranks table.rules
rules_all prime coefs froms found ids tails order ranks table at le h = record { sized = h.sized; each = λ p lt. h.before p (omega (arith, le, lt)) }

-- what is read at a position is there
module _ (q : ℕ) (coefs : List (List ℕ)) (found : List (Option ℕ)) (ids : List ℕ) (tails : List (List ℕ)) (order ranks : List ℕ) (can : CanRule q coefs found ids tails order ranks) (at : ℕ) (low : at < length ids) where
  pub order_low : at < length order
  order_low = let l = length_permutation (range_with_len 0 (length ids)) order can.ranks_are.each in omega (arith, l, length-range_with_len 0 (length ids), low)

  pub place_low : slice_index order at < length ids
  place_low = position_within (length ids) order at can.ranks_are.each order_low

  pub tails_low : slice_index order at < length tails
  tails_low = let l = can.as_many in let p = place_low in omega (arith, l, p)

  pub entry_low : slice_index ids (slice_index order at) < length found
  entry_low = can.entries (slice_index order at) place_low

  pub places_low : All (λ j. j < length ranks) (slice_index_or tails (slice_index order at) [])
  places_low = subst (λ n. All (λ j. j < n) (slice_index_or tails (slice_index order at) [])) (sym can.ranks_are.as_many) (can.places (slice_index order at) place_low)

  -- the tail of a position whose id has an element
  pub rule_tail : (e : ℕ) → slice_get found (slice_index ids (slice_index order at)) ≡ Some (Some e)
      → (c : List ℕ) × (slice_get coefs e ≡ Some c) × (length c ≡ length (tail_at tails ranks (slice_index order at))) × IsRuleTail q at (zip c (tail_at tails ranks (slice_index order at)))
  rule_tail e f = can.tails_are at e low f

  pub element_low : (stored froms : List ℕ) → AreStored stored froms coefs → (e : ℕ) → slice_get found (slice_index ids (slice_index order at)) ≡ Some (Some e) → e < length froms
  element_low stored froms h e f = let t = rule_tail e f in let w = slice_get_within coefs e t.0 t.1 in let m = h.as_many in omega (arith, w, m)

  module _ (stored froms : List ℕ) (h : AreStored stored froms coefs) (e : ℕ) (f : slice_get found (slice_index ids (slice_index order at)) ≡ Some (Some e)) (tail : List ℕ) (is : tail ≡ tail_at tails ranks (slice_index order at)) where
    long : length (rule_tail e f).0 ≡ length tail
    long = (rule_tail e f).2 ∙ sym (ap length is)

    pub from_low : slice_index froms e + length tail ≤ length stored
    from_low = let w = h.within e (rule_tail e f).0 (rule_tail e f).1 in subst (λ k. slice_index froms e + k ≤ length stored) long w

    pub coefs_there : slice_range stored (slice_index froms e) (slice_index froms e + length tail) ≡ (rule_tail e f).0
    coefs_there = subst (λ k. slice_range stored (slice_index froms e) (slice_index froms e + k) ≡ (rule_tail e f).0) long (h.are e (rule_tail e f).0 (rule_tail e f).1)

    pub is_tail : IsRuleTail q at (zip (slice_range stored (slice_index froms e) (slice_index froms e + length tail)) tail)
    is_tail = subst (IsRuleTail q at) (ap₂ zip (sym coefs_there) (sym is)) (rule_tail e f).3

    pub ruled_some : IsRuledBy coefs found ids tails order ranks at (Some (Some (zip (slice_range stored (slice_index froms e) (slice_index froms e + length tail)) tail)))
    ruled_some = record { none = λ g. absurd (cc (f, g)); some = λ d c g k. by d c g k }
      where
        by : (d : ℕ) (c : List ℕ) → slice_get found (slice_index ids (slice_index order at)) ≡ Some (Some d) → slice_get coefs d ≡ Some c
            → Some (Some (zip (slice_range stored (slice_index froms e) (slice_index froms e + length tail)) tail)) ≡ Some (Some (zip c (tail_at tails ranks (slice_index order at))))
        by d c g k =
            let same : e ≡ d = cc (f, g) in
            let there = (rule_tail e f).1 in
            let other : slice_get coefs e ≡ Some c = ap (slice_get coefs) same ∙ k in
            let cs : (rule_tail e f).0 ≡ c = cc (there, other) in
            ap₂ (λ u v. Some (Some (zip u v))) (coefs_there ∙ cs) is

  pub ruled_none : (table : Table) → slice_get table at ≡ Some None → slice_get found (slice_index ids (slice_index order at)) ≡ Some None → IsRuledBy coefs found ids tails order ranks at (slice_get table at)
  ruled_none table u f = record { none = λ g. u; some = λ d c g k. absurd (cc (f, g)) }

set_there : {X : Type 0} (xs : List X) (at : ℕ) (x : X) → at < length xs → slice_get (set xs at x) at ≡ Some x
set_there [] at x lt = absurd (omega (arith, lt))
set_there (y ∷ xs) zero x lt = refl
set_there (y ∷ xs) (suc at) x lt = set_there xs at x (omega (arith, lt))

set_apart : {X : Type 0} (xs : List X) (at p : ℕ) (x : X) → p ≢ at → slice_get (set xs at x) p ≡ slice_get xs p
set_apart [] at p x n = refl
set_apart (y ∷ xs) zero zero x n = absurd (n refl)
set_apart (y ∷ xs) zero (suc p) x n = refl
set_apart (y ∷ xs) (suc at) zero x n = refl
set_apart (y ∷ xs) (suc at) (suc p) x n = set_apart xs at p x (λ e. n (ap suc e))

pub at_set : (rules now : Table) (at : ℕ) (x : Option (List (ℕ × ℕ))) → now ≡ set rules at x → slice_get rules at ≡ Some None → slice_get now at ≡ Some x
at_set rules now at x e u = ap (λ (l : Table). slice_get l at) e ∙ set_there rules at x (slice_get_within rules at None u)

pub apart_set : (rules now : Table) (at : ℕ) (x : Option (List (ℕ × ℕ))) → now ≡ set rules at x → (p : ℕ) → p ≢ at → slice_get now p ≡ slice_get rules p
apart_set rules now at x e p n = ap (λ (l : Table). slice_get l p) e ∙ set_apart rules at p x n

pub any_default : {X : Type 0} (xs : List X) (i : ℕ) (d e : X) → i < length xs → get_or xs i d ≡ get_or xs i e
any_default xs i d e lt = get_or_from_slice_get xs i (get_or xs i e) d (slice_get-get_or xs i e lt)

-- the coefficients of one more element are stored
pub stored_step : (old table now : Rules) (froms froms' : List ℕ) (coefs : List (List ℕ)) (at from : ℕ) (c slice : List ℕ) → AreStoredSoFar old table froms (take at coefs) → now ≡ record table { coefs = table.coefs ++ slice }
    → froms' ≡ froms ++ (from ∷ []) → from ≡ length table.coefs → slice ≡ c → c ≡ get_or coefs at c → at < length coefs → AreStoredSoFar old now froms' (take (at + 1) coefs)
stored_step old table now froms froms' coefs at from c slice h n f fr sl is lt = record {
  stored =
      let one = stored_more table.coefs froms (take at coefs) c h.stored in
      let done : take at coefs ++ (c ∷ []) ≡ take (at + 1) coefs = ap (λ x. take at coefs ++ (x ∷ [])) is ∙ sym (take_more coefs at c lt) in
      let cs : table.coefs ++ c ≡ now.coefs = ap (λ l. table.coefs ++ l) (sym sl) ∙ sym (ap (λ (t : Rules). t.coefs) n) in
      let fs : froms ++ (length table.coefs ∷ []) ≡ froms' = ap (λ x. froms ++ (x ∷ [])) (sym fr) ∙ sym f in
      subst (λ l. AreStored l froms' (take (at + 1) coefs)) cs (subst (λ l. AreStored (table.coefs ++ c) l (take (at + 1) coefs)) fs (subst (AreStored (table.coefs ++ c) (froms ++ (length table.coefs ∷ []))) done one));
  rules = ap (λ (t : Rules). t.rules) n ∙ h.rules;
  prime = ap (λ (t : Rules). t.q) n ∙ h.prime;
}

pub no_value : {X : Type 0} (o : Option X) → ((x : X) → o ≡ Some x → ⊥) → o ≡ None
no_value None h = refl
no_value (Some x) h = absurd (h x refl)
