-- Multiples of sums of ids, term by term.
use Rattle.std.proofs.Common.{◌≡◌, ℕ, zero, suc, ◌+◌, ◌-◌, ◌*◌, ◌%◌, ◌<◌, ◌≤◌, List, [], ◌∷◌, length, get_or, refl, ap, sym, ◌∙◌, subst, arith, set}
use mathlib.Core.List.{◌++◌}
use mathlib.Core.Path.{ap₂}
use Rattle.std.proofs.lemmas.List.{map-set, map-append, length-append}
use Rattle.std.proofs.Math.Seq.{set-append_seam, get_or-append_seam}
use Rattle.std.proofs.Math.Nat.{mod-eq_of_lt, mod-lt}
use Rattle.std.proofs.Common.{Some, slice_get}
use Rattle.std.proofs.lemmas.Option.{same_Some}
use Rattle.modular_sums.specs.Residues.{IsCongruent}
use Rattle.modular_sums.proofs.Residues.{congruent_mul}
use Rattle.modular_sums.specs.Falling.{AreNonzeroResidues}
use Rattle.shuffle_sums.specs.Sums.{pairs}
use Rattle.shuffle_sums.specs.Multiples.{times, first_number, IsMadeMonic}
use Rattle.shuffle_sums.specs.declared.sum.Term.{Term}

-- The terms before a place are multiplied, and the others are as they were.
pub record IsMultiplying (p c : ℕ) (before now : List Term) (at : ℕ) : Type 0 where
  pub front : List (ℕ × ℕ)
  pub back : List (ℕ × ℕ)
  pub was : pairs before ≡ front ++ back
  pub is : pairs now ≡ times p c front ++ back
  pub place : length front ≡ at
  pub left : AreNonzeroResidues p back

pub multiplying_start : (p c : ℕ) (terms : List Term) → AreNonzeroResidues p (pairs terms) → IsMultiplying p c terms terms 0
multiplying_start p c terms h = record { front = []; back = pairs terms; was = refl; is = refl; place = refl; left = h }

nothing : {X : Type 0} (k : List X) → k ++ [] ≡ k
nothing [] = refl
nothing (x ∷ k) = ap (λ l. x ∷ l) (nothing k)

behind : {X : Type 0} (k : List X) (x : X) (l : List X) → k ++ (x ∷ l) ≡ (k ++ (x ∷ [])) ++ l
behind [] x l = refl
behind (y ∷ k) x l = ap (λ m. y ∷ m) (behind k x l)

length-pairs : (terms : List Term) → length (pairs terms) ≡ length terms
length-pairs [] = refl
length-pairs (x ∷ terms) = ap suc (length-pairs terms)

length-times : (p c : ℕ) (sum : List (ℕ × ℕ)) → length (times p c sum) ≡ length sum
length-times p c [] = refl
length-times p c (x ∷ sum) = ap suc (length-times p c sum)

pair_at : (terms : List Term) (at : ℕ) (x : Term) → at < length terms → x ≡ get_or terms at x → get_or (pairs terms) at (0, 0) ≡ (x.coef, x.tree)
pair_at [] at x h e = absurd (omega arith)
pair_at (y ∷ terms) zero x h e = ap (λ t. (t.coef, t.tree)) (sym e)
pair_at (y ∷ terms) (suc at) x h e = pair_at terms at x (omega arith) e

module _ (p c : ℕ) (before now : List Term) (at : ℕ) (h : IsMultiplying p c before now at) (x : Term) (lt : at < length now) (e : x ≡ get_or now at x) where
  -- the next term
  pub next_term : (rest : List (ℕ × ℕ)) × (h.back ≡ (x.coef, x.tree) ∷ rest)
  next_term = by h.back refl
    where
      by : (back : List (ℕ × ℕ)) → h.back ≡ back → (rest : List (ℕ × ℕ)) × (h.back ≡ (x.coef, x.tree) ∷ rest)
      by [] none =
          let all : length (pairs now) ≡ length h.front = ap length h.is ∙ ap (λ l. length (times p c h.front ++ l)) none ∙ ap length (nothing (times p c h.front)) ∙ length-times p c h.front in
          absurd (omega (arith, all, length-pairs now, h.place, lt))
      by (y ∷ rest) some =
          let long : length (times p c h.front) ≡ at = length-times p c h.front ∙ h.place in
          let read : get_or (pairs now) at (0, 0) ≡ y =
          ap₂ (λ l i. get_or l i (0, 0)) (h.is ∙ ap (λ l. times p c h.front ++ l) some) (sym long) ∙ get_or-append_seam (times p c h.front) y rest (0, 0) in
          let same : y ≡ (x.coef, x.tree) = sym read ∙ pair_at now at x lt e in
          (rest, some ∙ ap (λ z. z ∷ rest) same)

  pub next_residue : x.coef < p
  next_residue = (subst (AreNonzeroResidues p) next_term.1 h.left).1

  -- and is multiplied
  pub multiplied_next : (r : ℕ) → r < p → r % p ≡ (c * x.coef) % p → IsMultiplying p c before (set now at (record { coef = r; tree = x.tree })) (at + 1)
  multiplied_next r small same =
      let n = next_term in
      let long : length (times p c h.front) ≡ at = length-times p c h.front ∙ h.place in
      let value : r ≡ (c * x.coef) % p = sym (mod-eq_of_lt small) ∙ same in
      let new : pairs (set now at (record { coef = r; tree = x.tree })) ≡ times p c h.front ++ ((r, x.tree) ∷ n.0) =
      map-set (λ (t : Term). (t.coef, t.tree)) now at (record { coef = r; tree = x.tree })
      ∙ ap₂ (λ l i. set l i (r, x.tree)) (h.is ∙ ap (λ l. times p c h.front ++ l) n.1) (sym long)
      ∙ set-append_seam (times p c h.front) (x.coef, x.tree) n.0 (r, x.tree) in
      record {
        front = h.front ++ ((x.coef, x.tree) ∷ []);
        back = n.0;
        was = h.was ∙ ap (λ l. h.front ++ l) n.1 ∙ behind h.front (x.coef, x.tree) n.0;
        is = new ∙ ap (λ v. times p c h.front ++ ((v, x.tree) ∷ n.0)) value ∙ behind (times p c h.front) ((c * x.coef) % p, x.tree) n.0
            ∙ ap (λ l. l ++ n.0) (sym (map-append (λ (t : ℕ × ℕ). ((c * t.0) % p, t.1)) h.front ((x.coef, x.tree) ∷ [])));
        place = let l = length-append h.front ((x.coef, x.tree) ∷ []) in omega (arith, l, h.place);
        left = (subst (AreNonzeroResidues p) n.1 h.left).2;
      }

-- at the end all are
pub multiplied_all : (p c : ℕ) (before now : List Term) (at : ℕ) → IsMultiplying p c before now at → length before ≤ at → pairs now ≡ times p c (pairs before)
multiplied_all p c before now at h l = by h.back refl
  where
    by : (back : List (ℕ × ℕ)) → h.back ≡ back → pairs now ≡ times p c (pairs before)
    by [] none = h.is ∙ ap (λ m. times p c h.front ++ m) none ∙ nothing (times p c h.front) ∙ ap (times p c) (sym (nothing h.front) ∙ ap (λ m. h.front ++ m) (sym none) ∙ sym h.was)
    by (y ∷ rest) some =
        let all : length (pairs before) ≡ length h.front + suc (length rest) = ap length h.was ∙ length-append h.front h.back ∙ ap (λ m. length h.front + length m) some in
        absurd (omega (arith, all, length-pairs before, h.place, l))

-- ---- residues

modulus : (p : ℕ) → 0 < p → suc (p - 1) ≡ p
modulus p h = omega arith

pub congruent_at : (p a b : ℕ) → 0 < p → IsCongruent (p - 1) a b → a % p ≡ b % p
congruent_at p a b h e = subst (λ m. a % m ≡ b % m) (modulus p h) e

-- a product with a number that has an inverse isn't 0 where the other factor isn't
nonzero_product : (p c d x : ℕ) → 0 < x → x < p → IsCongruent (p - 1) (d * c) 1 → (c * x) % p ≡ 0 → ⊥
nonzero_product p c d x n l h zero_is =
    let positive : 0 < p = omega (arith, n, l) in
    let m = modulus p positive in
    let none : 0 % p ≡ 0 = mod-eq_of_lt positive in
    let gone : IsCongruent (p - 1) (c * x) 0 = subst (λ k. (c * x) % k ≡ 0 % k) (sym m) (zero_is ∙ sym none) in
    let left : IsCongruent (p - 1) (d * (c * x)) (d * 0) = congruent_mul (p - 1) d d (c * x) 0 refl gone in
    let right : IsCongruent (p - 1) (d * c * x) (1 * x) = congruent_mul (p - 1) (d * c) 1 x x h refl in
    let regroup : d * c * x ≡ d * (c * x) = omega arith in
    let one : 1 * x ≡ x = omega arith in
    let zero_right : d * 0 ≡ 0 = omega arith in
    let same : IsCongruent (p - 1) x 0 = ap (λ k. k % suc (p - 1)) (sym one) ∙ sym right ∙ ap (λ k. k % suc (p - 1)) regroup ∙ left ∙ ap (λ k. k % suc (p - 1)) zero_right in
    let final : x ≡ 0 = sym (mod-eq_of_lt l) ∙ congruent_at p x 0 positive same ∙ none in
    omega (arith, n, final)

times_residues : (p c d : ℕ) (sum : List (ℕ × ℕ)) → IsCongruent (p - 1) (d * c) 1 → AreNonzeroResidues p sum → AreNonzeroResidues p (times p c sum)
times_residues p c d [] h r = tt
times_residues p c d (x ∷ sum) h r =
    let positive : 0 < p = omega (arith, r.0, r.1) in
    (positive_of ((c * x.0) % p) (nonzero_product p c d x.0 r.0 r.1 h), mod-lt (c * x.0) positive, times_residues p c d sum h r.2)
  where
    positive_of : (k : ℕ) → (k ≡ 0 → ⊥) → 0 < k
    positive_of zero f = absurd (f refl)
    positive_of (suc k) f = omega arith

-- the first residue is that of the first term
pub first_residue : (p : ℕ) (sum : List (ℕ × ℕ)) (lead id : ℕ) → AreNonzeroResidues p sum → Some (lead, id) ≡ slice_get sum 0 → (0 < lead) × (lead < p) × (first_number sum ≡ lead)
first_residue p [] lead id r e = absurd (cc e)
first_residue p (x ∷ sum) lead id r e =
    let same : x.0 ≡ lead = ap (λ t. t.0) (same_Some x (lead, id) (sym e)) in
    (subst (λ n. 0 < n) same r.0, subst (λ n. n < p) same r.1, same)

-- a sum times the inverse of its first number is monic
pub made_monic : (p inverse lead id : ℕ) (old new : List (ℕ × ℕ)) → AreNonzeroResidues p old → Some (lead, id) ≡ slice_get old 0 → IsCongruent (p - 1) (lead * inverse) 1 → new ≡ times p inverse old → IsMadeMonic p old new
made_monic p inverse lead id [] new r e h is = absurd (cc e)
made_monic p inverse lead id (x ∷ old) new r e h is =
    let f = first_residue p (x ∷ old) lead id r e in
    let turned : IsCongruent (p - 1) (x.0 * inverse) 1 = subst (λ n. IsCongruent (p - 1) (n * inverse) 1) (sym f.2) h in
    let positive : 0 < p = omega (arith, r.0, r.1) in
    let above_one : 1 < p = omega (arith, r.0, r.1) in
    let swap : inverse * x.0 ≡ x.0 * inverse = omega arith in
    let one : (inverse * x.0) % p ≡ 1 = ap (λ n. n % p) swap ∙ congruent_at p (x.0 * inverse) 1 positive turned ∙ mod-eq_of_lt above_one in
    record {
      inverse = inverse;
      is_inverse = turned;
      multiplied = is;
      residues = subst (AreNonzeroResidues p) (sym is) (times_residues p inverse x.0 (x ∷ old) turned r);
      first = ap first_number is ∙ one;
    }
