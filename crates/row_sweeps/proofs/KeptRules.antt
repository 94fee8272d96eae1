-- How a table keeps its rules when it grows.
use Rattle.std.proofs.Common.{◌≡◌, ◌≢◌, ℕ, zero, suc, ◌+◌, ◌-◌, ◌<◌, ◌≤◌, List, [], ◌∷◌, length, drop, map, Option, Some, None, arith, refl, sym, ap, ◌∙◌, subst, length-append, length-drop}
use mathlib.Core.List.{◌++◌}
use mathlib.Core.Path.{ap₂}
use native.Mathlib.Decide.{ℕ_discrete}
use Rattle.std.specs.List.{slice_get, slice_range, zip}
use Rattle.std.specs.Option.{option_map}
use Rattle.std.proofs.Math.ListN.{set}
use Rattle.std.proofs.lemmas.List.{length-set, take-append-le, drop-append-le, take_all}
use Rattle.std.proofs.lemmas.Option.{slice_get-map}
use Rattle.modular_sums.specs.RuleTables.{Table, HasRule, IsRuleTail, AreTails}
use Rattle.row_sweeps.specs.Rules.{unruled}
use Rattle.row_sweeps.specs.Stored.{tail_in, tails_of, LiesIn, IsKeptTable, nothing_stored}
use Rattle.row_sweeps.specs.Terms.{pairs}
use Rattle.row_sweeps.specs.declared.row.Term.{Term}
use Rattle.row_sweeps.specs.declared.table.Stored.{Stored}

-- a part of a list stays when the list grows
pub range_grown : (l more : List ℕ) (a n : ℕ) → a + n ≤ length l → slice_range (l ++ more) a (a + n) ≡ slice_range l a (a + n)
range_grown l more a n le =
    let e : a + n - a ≡ n = omega arith in
    let d : drop a (l ++ more) ≡ drop a l ++ more = drop-append-le a l more (omega arith) in
    let k : n ≤ length (drop a l) = omega (arith, length-drop a l) in
    rw (e, d) (take-append-le n (drop a l) more k)

-- and the list behind it is a part of it
pub range_last : (l more : List ℕ) → slice_range (l ++ more) (length l) (length l + length more) ≡ more
range_last l more =
    let e : length l + length more - length l ≡ length more = omega arith in
    rw (e, drop_front l more) (take_all (length more) more (omega arith))
  where
    drop_front : (l more : List ℕ) → drop (length l) (l ++ more) ≡ more
    drop_front [] more = refl
    drop_front (x ∷ l) more = drop_front l more

tail_grown : (coefs tails cs ts : List ℕ) (r : Stored) → LiesIn coefs tails r → tail_in (coefs ++ cs) (tails ++ ts) r ≡ tail_in coefs tails r
tail_grown coefs tails cs ts r h = ap₂ zip (range_grown coefs cs r.from r.len h.from) (range_grown tails ts r.at r.len h.at)

-- the rules stay when the two lists grow
pub tails_grown : (coefs tails cs ts : List ℕ) (rules : List (Option Stored)) → ((at : ℕ) (r : Stored) → slice_get rules at ≡ Some (Some r) → LiesIn coefs tails r)
    → tails_of (coefs ++ cs) (tails ++ ts) rules ≡ tails_of coefs tails rules
tails_grown coefs tails cs ts [] h = refl
tails_grown coefs tails cs ts (o ∷ rules) h = ap₂ (λ t l. t ∷ l) (first o (λ r e. h 0 r (ap Some e))) (tails_grown coefs tails cs ts rules (λ at r e. h (suc at) r e))
  where
    first : (o : Option Stored) → ((r : Stored) → o ≡ Some r → LiesIn coefs tails r) → option_map (tail_in (coefs ++ cs) (tails ++ ts)) o ≡ option_map (tail_in coefs tails) o
    first None h = refl
    first (Some r) h = ap Some (tail_grown coefs tails cs ts r (h r refl))

lies_grown : (coefs tails cs ts : List ℕ) (r : Stored) → LiesIn coefs tails r → LiesIn (coefs ++ cs) (tails ++ ts) r
lies_grown coefs tails cs ts r h = record {
  from = let a = h.from in omega (arith, a, length-append coefs cs);
  at = let a = h.at in omega (arith, a, length-append tails ts);
}

pub kept_grown : (p : ℕ) (rules : List (Option Stored)) (tails coefs cs ts : List ℕ) → IsKeptTable p rules tails coefs → IsKeptTable p rules (tails ++ ts) (coefs ++ cs)
kept_grown p rules tails coefs cs ts k = record {
  positive = k.positive;
  small = k.small;
  few = k.few;
  lies = λ at r e. lies_grown coefs tails cs ts r (k.lies at r e);
  valid = subst (AreTails (p - 1)) (sym (tails_grown coefs tails cs ts rules k.lies)) k.valid;
}

append_none : (l : List ℕ) → l ++ [] ≡ l
append_none [] = refl
append_none (x ∷ l) = ap (λ k. x ∷ k) (append_none l)

-- coefficients are put in
pub kept_coefs : (p : ℕ) (rules : List (Option Stored)) (tails coefs cs : List ℕ) → IsKeptTable p rules tails coefs → IsKeptTable p rules tails (coefs ++ cs)
kept_coefs p rules tails coefs cs k = rw append_none at (kept_grown p rules tails coefs cs [] k)

pub coefs_grown : (p : ℕ) (rules : List (Option Stored)) (tails coefs cs : List ℕ) → IsKeptTable p rules tails coefs → tails_of (coefs ++ cs) tails rules ≡ tails_of coefs tails rules
coefs_grown p rules tails coefs cs k = rw append_none at (tails_grown coefs tails cs [] rules k.lies)

-- ---- a write

module _ {X : Type 0} where
  pub slice_get-set_same : (l : List X) (i : ℕ) (x : X) → i < length l → slice_get (set l i x) i ≡ Some x
  slice_get-set_same [] i x h = absurd (omega arith)
  slice_get-set_same (y ∷ l) zero x h = refl
  slice_get-set_same (y ∷ l) (suc i) x h = slice_get-set_same l i x (omega arith)

  pub slice_get-set_other : (l : List X) (i j : ℕ) (x : X) → j ≢ i → slice_get (set l i x) j ≡ slice_get l j
  slice_get-set_other [] i j x h = refl
  slice_get-set_other (y ∷ l) zero zero x h = absurd (h refl)
  slice_get-set_other (y ∷ l) zero (suc j) x h = refl
  slice_get-set_other (y ∷ l) (suc i) zero x h = refl
  slice_get-set_other (y ∷ l) (suc i) (suc j) x h = slice_get-set_other l i j x (λ e. h (ap suc e))

map_set : {X Y : Type 0} (f : X → Y) (l : List X) (i : ℕ) (x : X) → map f (set l i x) ≡ set (map f l) i (f x)
map_set f [] i x = refl
map_set f (y ∷ l) zero x = refl
map_set f (y ∷ l) (suc i) x = ap (λ k. f y ∷ k) (map_set f l i x)

map_length : {X Y : Type 0} (f : X → Y) (l : List X) → length (map f l) ≡ length l
map_length f [] = refl
map_length f (x ∷ l) = ap suc (map_length f l)

-- a rule with a tail for its position may be put in
tails_set : (q at : ℕ) (table : Table) (tail : List (ℕ × ℕ)) → at < length table → AreTails q table → IsRuleTail q at tail → AreTails q (set table at (Some tail))
tails_set q at table tail lt h t j other e = go (ℕ_discrete j at)
  where
    some_one : {X : Type 0} (x y : X) → Some (Some x) ≡ Some (Some y) → x ≡ y
    some_one x y k = cc

    go : Dec (j ≡ at) → IsRuleTail q j other
    go (yes p) =
        let k : Some (Some tail) ≡ Some (Some other) = sym (slice_get-set_same table at (Some tail) lt) ∙ subst (λ i. HasRule (set table at (Some tail)) i other) p e in
        subst (λ i. IsRuleTail q i other) (sym p) (subst (IsRuleTail q at) (some_one tail other k) t)
    go (no n) = h j other (sym (slice_get-set_other table at j (Some tail) n) ∙ e)

module _ (p : ℕ) (rules : List (Option Stored)) (tails coefs : List ℕ) (k : IsKeptTable p rules tails coefs) (position from : ℕ) (tail : List ℕ) (lt : position < length rules) (room : from + length tail ≤ length coefs) where
  abbrev stored : Stored
  stored = record { at = length tails; from = from; len = length tail }

  abbrev new_tail : List (ℕ × ℕ)
  new_tail = zip (slice_range coefs from (from + length tail)) tail

  stored_is : tail_in coefs (tails ++ tail) stored ≡ new_tail
  stored_is = ap (zip (slice_range coefs from (from + length tail))) (range_last tails tail)

  old_tails : tails_of coefs (tails ++ tail) rules ≡ tails_of coefs tails rules
  old_tails = rw append_none at (tails_grown coefs tails [] tail rules k.lies)

  -- the table shows the new rule
  pub shown_set : tails_of coefs (tails ++ tail) (set rules position (Some stored)) ≡ set (tails_of coefs tails rules) position (Some new_tail)
  shown_set = map_set (option_map (tail_in coefs (tails ++ tail))) rules position (Some stored) ∙ ap₂ (λ l t. set l position (Some t)) old_tails stored_is

  lies_set : (at : ℕ) (r : Stored) → slice_get (set rules position (Some stored)) at ≡ Some (Some r) → LiesIn coefs (tails ++ tail) r
  lies_set at r e = go (ℕ_discrete at position)
    where
      one : (r : Stored) → Some (Some stored) ≡ Some (Some r) → stored ≡ r
      one r h = cc

      go : Dec (at ≡ position) → LiesIn coefs (tails ++ tail) r
      go (yes q) =
          let h : Some (Some stored) ≡ Some (Some r) = sym (slice_get-set_same rules position (Some stored) lt) ∙ subst (λ i. slice_get (set rules position (Some stored)) i ≡ Some (Some r)) q e in
          subst (LiesIn coefs (tails ++ tail)) (one r h) (record { from = room; at = omega (arith, length-append tails tail) })
      go (no n) = rw append_none at (lies_grown coefs tails [] tail r (k.lies at r (sym (slice_get-set_other rules position at (Some stored) n) ∙ e)))

  pub kept_set : IsRuleTail (p - 1) position new_tail → IsKeptTable p (set rules position (Some stored)) (tails ++ tail) coefs
  kept_set t = record {
    positive = k.positive;
    small = k.small;
    few = rw (length-set rules position (Some stored)) k.few;
    lies = lies_set;
    valid = subst (AreTails (p - 1)) (sym shown_set) (tails_set (p - 1) position (tails_of coefs tails rules) new_tail (rw (map_length (option_map (tail_in coefs tails)) rules) lt) k.valid t);
  }

  -- and the tail alone does no harm
  pub kept_tail : IsKeptTable p rules (tails ++ tail) coefs
  kept_tail = rw append_none at (kept_grown p rules tails coefs [] tail k)

-- the rule of a stored tail
pub tail_kept : (p : ℕ) (rules : List (Option Stored)) (tails coefs : List ℕ) → IsKeptTable p rules tails coefs → (at : ℕ) (r : Stored) → slice_get rules at ≡ Some (Some r) → IsRuleTail (p - 1) at (tail_in coefs tails r)
tail_kept p rules tails coefs k at r e = k.valid at (tail_in coefs tails r) (slice_get-map (option_map (tail_in coefs tails)) rules at ∙ ap (option_map (option_map (tail_in coefs tails))) e)

-- ---- nothing

pub tails_nothing : (coefs tails : List ℕ) (n : ℕ) → tails_of coefs tails (nothing_stored n) ≡ unruled n
tails_nothing coefs tails zero = refl
tails_nothing coefs tails (suc n) = ap (λ l. None ∷ l) (tails_nothing coefs tails n)

length_nothing : (n : ℕ) → length (nothing_stored n) ≡ n
length_nothing zero = refl
length_nothing (suc n) = ap suc (length_nothing n)

none_there : (n at : ℕ) (r : Stored) → slice_get (nothing_stored n) at ≡ Some (Some r) → ⊥
none_there zero at r e = cc
none_there (suc n) zero r e = cc
none_there (suc n) (suc at) r e = none_there n at r e

none_ruled : (n at : ℕ) (t : List (ℕ × ℕ)) → HasRule (unruled n) at t → ⊥
none_ruled zero at t e = cc
none_ruled (suc n) zero t e = cc
none_ruled (suc n) (suc at) t e = none_ruled n at t e

pub kept_nothing : (p n : ℕ) → 0 < p → p ≤ 65537 → n ≤ 1073741824 → IsKeptTable p (nothing_stored n) [] []
kept_nothing p n pos small few = record {
  positive = pos;
  small = small;
  few = rw (length_nothing n) few;
  lies = λ at r e. absurd (none_there n at r e);
  valid = λ at t e. absurd (none_ruled n at t (rw (tails_nothing [] [] n) at e));
}

pub nothing_more : (n : ℕ) → nothing_stored n ++ (None ∷ []) ≡ nothing_stored (suc n)
nothing_more zero = refl
nothing_more (suc n) = ap (λ l. None ∷ l) (nothing_more n)

-- ---- terms

pub zip_terms : (l : List Term) → zip (map (λ (t : Term). t.coef) l) (map (λ (t : Term). t.position) l) ≡ pairs l
zip_terms [] = refl
zip_terms (t ∷ l) = ap (λ k. (t.coef, t.position) ∷ k) (zip_terms l)

pub position_kept : (coefs tails : List ℕ) (rules : List (Option Stored)) (position : ℕ) → position < length (tails_of coefs tails rules) → position < length rules
position_kept coefs tails rules position lt = rw (map_length (option_map (tail_in coefs tails)) rules) at lt

map_length_of : {X : Type 0} (f g : X → ℕ) (l : List X) → length (map f l) ≡ length (map g l)
map_length_of f g [] = refl
map_length_of f g (x ∷ l) = ap suc (map_length_of f g l)

-- coefficients and positions of terms, put behind others, are these terms
pub added_terms : (coefs : List ℕ) (tail : List Term) (cs ps : List ℕ) → cs ≡ map (λ (t : Term). t.coef) tail → ps ≡ map (λ (t : Term). t.position) tail
    → zip (slice_range (coefs ++ cs) (length coefs) (length coefs + length ps)) ps ≡ pairs tail
added_terms coefs tail cs ps ec ep =
    let same : length ps ≡ length cs = ap length ep ∙ map_length_of (λ (t : Term). t.position) (λ (t : Term). t.coef) tail ∙ sym (ap length ec) in
    rw (same, range_last coefs cs, ec, ep) (zip_terms tail)
