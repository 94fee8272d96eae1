-- Tails whose positions fall.
use Rattle.std.proofs.Common.{◌≡◌, ◌≢◌, ℕ, suc, ◌+◌, ◌<◌, ◌≤◌, List, [], ◌∷◌, length, get_or, take, arith, subst, add-one, inl, inr, ◌⊎◌}
use mathlib.Core.List.{◌++◌}
use Rattle.std.specs.List.{zip}
use Rattle.std.specs.Ordering.{nat_cmp}
use Rattle.std.proofs.Math.Seq.{take-suc}
use Rattle.std.proofs.lemmas.Slice.Zip.{length-zip}
use Rattle.modular_sums.specs.Lists.{Mem, Distinct}
use Rattle.modular_sums.specs.Sums.{AllTerms}
use Rattle.modular_sums.proofs.Sums.{AllTerms-append}
use Rattle.modular_sums.proofs.Images.{AllTerms-imp}
use Rattle.modular_sums.specs.Falling.{Falls, AreNonzeroResidues, IsFalling}
use Rattle.modular_sums.specs.RuleTables.{positions, AreResidues, IsRuleTail}
use Rattle.row_sweeps.proofs.Falls.{below_first}
use Rattle.row_sweeps.proofs.Multiples.{zip_at, zip_long, take_all}

abbrev Sum : Type 0
Sum = List (ℕ × ℕ)

mem_last : (y c p : ℕ) (l : Sum) → Mem y (positions (l ++ ((c, p) ∷ []))) → Mem y (positions l) ⊎ (y ≡ p)
mem_last y c p [] (inl e) = inr e
mem_last y c p [] (inr m) = absurd m
mem_last y c p (x ∷ l) (inl e) = inl (inl e)
mem_last y c p (x ∷ l) (inr m) = go (mem_last y c p l m)
  where
    go : Mem y (positions l) ⊎ (y ≡ p) → ((y ≡ x.1) ⊎ Mem y (positions l)) ⊎ (y ≡ p)
    go (inl k) = inl (inr k)
    go (inr e) = inr e

once_more : (c p : ℕ) (l : Sum) → Distinct (positions l) → AllTerms l (λ t. p < t) → Distinct (positions (l ++ ((c, p) ∷ [])))
once_more c p [] d h = (λ m. m, tt)
once_more c p (x ∷ l) d h = (λ m. go (mem_last x.1 c p l m), once_more c p l d.1 h.1)
  where
    go : Mem x.1 (positions l) ⊎ (x.1 ≡ p) → ⊥
    go (inl m) = d.0 m
    go (inr e) = let lt : p < x.1 = h.0 in let n : x.1 ≢ p = omega arith in n e

residues_last : (q c p : ℕ) (l : Sum) → AreResidues q l → 0 < c → c ≤ q → AreResidues q (l ++ ((c, p) ∷ []))
residues_last q c p [] r pos le = (pos, le, tt)
residues_last q c p (x ∷ l) r pos le = (r.0, r.1, residues_last q c p l r.2 pos le)

-- The first i terms are a tail, on positions from the last one on.
pub record IsTailSoFar (q at last : ℕ) (l : Sum) : Type 0 where
  pub tail : IsRuleTail q at l
  pub above : AllTerms l (λ t. last ≤ t)
  pub within : last ≤ at

pub tail_first : (q at : ℕ) (cs ps : List ℕ) → IsTailSoFar q at at (take 0 (zip cs ps))
tail_first q at cs ps = record { tail = record { below = tt; once = tt; residues = tt }; above = tt; within = omega arith }

tail_more : (q at last c p : ℕ) (l : Sum) → IsTailSoFar q at last l → p < last → 0 < c → c ≤ q → IsTailSoFar q at p (l ++ ((c, p) ∷ []))
tail_more q at last c p l s lt pos le =
    let w = s.within in
    record {
      tail = record {
        below = AllTerms-append l ((c, p) ∷ []) (λ t. t < at) s.tail.below (omega (arith, w), tt);
        once = once_more c p l s.tail.once (AllTerms-imp (λ t. last ≤ t) (λ t. p < t) l (λ t h. omega arith) s.above);
        residues = residues_last q c p l s.tail.residues pos le;
      };
      above = AllTerms-append l ((c, p) ∷ []) (λ t. p ≤ t) (AllTerms-imp (λ t. last ≤ t) (λ t. p ≤ t) l (λ t h. omega arith) s.above) (omega arith, tt);
      within = omega (arith, w);
    }

pub tail_next : (q at last i : ℕ) (cs ps : List ℕ) → length ps ≡ length cs → i < length ps → IsTailSoFar q at last (take i (zip cs ps))
    → get_or ps i 0 < last → 0 < get_or cs i 0 → get_or cs i 0 ≤ q → IsTailSoFar q at (get_or ps i 0) (take (i + 1) (zip cs ps))
tail_next q at last i cs ps same lt s less pos le = rw (add-one i, take-suc (zip cs ps) i (0, 0) (zip_long cs ps i same lt), zip_at cs ps i same lt)
    (tail_more q at last (get_or cs i 0) (get_or ps i 0) (take i (zip cs ps)) s less pos le)

all_of : (cs ps : List ℕ) (i : ℕ) → length ps ≡ length cs → length ps ≤ i → length (zip cs ps) ≤ i
all_of cs ps i same le = rw (length-zip cs ps) (omega arith)

pub tail_whole : (q at last i : ℕ) (cs ps : List ℕ) → length ps ≡ length cs → length ps ≤ i → IsTailSoFar q at last (take i (zip cs ps)) → IsRuleTail q at (zip cs ps)
tail_whole q at last i cs ps same le s = subst (IsRuleTail q at) (take_all (zip cs ps) i (all_of cs ps i same le)) s.tail

-- ---- falling sums are tails

residues_of : (q : ℕ) (l : Sum) → AreNonzeroResidues (suc q) l → AreResidues q l
residues_of q [] h = tt
residues_of q (x ∷ l) h = let lt : x.0 < suc q = h.1 in (h.0, omega arith, residues_of q l h.2)

not_below : (x : ℕ) (l : Sum) → AllTerms l (λ t. t < x) → Mem x (positions l) → ⊥
not_below x [] h m = m
not_below x (y ∷ l) h (inl e) = let lt : y.1 < x = h.0 in let n : x ≢ y.1 = omega arith in n e
not_below x (y ∷ l) h (inr m) = not_below x l h.1 m

once_of : (l : Sum) → Falls nat_cmp l → Distinct (positions l)
once_of [] f = tt
once_of (x ∷ l) f = (not_below x.1 l (below_first x l f), once_of l f.1)

-- a falling sum on positions below one is a tail for it
pub falling_tail : (q at : ℕ) (l : Sum) → IsFalling nat_cmp (suc q) l → AllTerms l (λ t. t < at) → IsRuleTail q at l
falling_tail q at l f h = record { below = h; once = once_of l f.falls; residues = residues_of q l f.residues }

-- what follows the first term of a falling sum is a tail for its position
pub falling_rest : (q : ℕ) (x : ℕ × ℕ) (l : Sum) → IsFalling nat_cmp (suc q) (x ∷ l) → IsRuleTail q x.1 l
falling_rest q x l f = falling_tail q x.1 l (record { residues = f.residues.2; falls = f.falls.1 }) (below_first x l f.falls)
