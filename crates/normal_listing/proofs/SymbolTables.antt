-- Tables of symbols in which the first leaves are renamed.
use Rattle.std.proofs.Common.{◌≡◌, ◌≢◌, ℕ, ◌+◌, ◌<◌, ◌≤◌, List, length, get_or, refl, sym, ◌∙◌, ap, subst, arith, get_or-set_other, get_or-set_same, below_more}
use native.Mathlib.Decide.{ℕ_discrete}
use Rattle.std.proofs.Math.ListN.{set, length-set}
use Rattle.normal_listing.specs.Places.{IsSymbol}
use Rattle.normal_listing.specs.Words.{IsLeafDigit}

pub record IsTable (numbers : List ℕ) (at : ℕ) (table : List ℕ) : Type 0 where
  pub long : length table ≡ 32
  pub leaves : (k : ℕ) → k < at → get_or table (k + 1) 0 ≡ get_or numbers k 0
  pub vertices : (g : ℕ) → g < 22 → get_or table (10 + g) 0 ≡ 10 + g
  pub symbols : (s : ℕ) → IsSymbol s → IsSymbol (get_or table s 0)

pub same_table : (numbers table : List ℕ) → length table ≡ 32 → ((s : ℕ) → s < 32 → get_or table s 0 ≡ s) → IsTable numbers 0 table
same_table numbers table long h = record {
  long = long;
  leaves = λ k lt. absurd (omega arith);
  vertices = λ g lt. h (10 + g) (omega arith);
  symbols = λ s is. subst IsSymbol (sym (h s is.small)) is;
}

module _ (numbers : List ℕ) (at : ℕ) (table : List ℕ) (n : ℕ) (few : at < 9) (number : n ≡ get_or numbers at 0) (digit : IsLeafDigit n) where
  other : (s : ℕ) → s ≢ at + 1 → get_or (set table (at + 1) n) s 0 ≡ get_or table s 0
  other s ne = rw get_or-set_other refl

  same : length table ≡ 32 → get_or (set table (at + 1) n) (at + 1) 0 ≡ n
  same long = let lt : at + 1 < length table = omega (arith, long, few) in rw get_or-set_same refl

  one_symbol : IsTable numbers at table → (s : ℕ) → IsSymbol s → Dec (s ≡ at + 1) → IsSymbol (get_or (set table (at + 1) n) s 0)
  one_symbol h s is (yes e) = let d = digit.1 in subst IsSymbol (sym (ap (λ k. get_or (set table (at + 1) n) k 0) e ∙ same h.long)) (record { some = digit.0; small = omega (arith, d) })
  one_symbol h s is (no ne) = subst IsSymbol (sym (other s ne)) (h.symbols s is)

  pub leaf_put : IsTable numbers at table → IsTable numbers (at + 1) (set table (at + 1) n)
  leaf_put h = record {
    long = length-set table (at + 1) n ∙ h.long;
    leaves = below_more _ _ (λ k lt. let ne : k + 1 ≢ at + 1 = omega (arith, lt) in other (k + 1) ne ∙ h.leaves k lt) (same h.long ∙ number);
    vertices = λ g lt. let ne : 10 + g ≢ at + 1 = omega (arith, few) in other (10 + g) ne ∙ h.vertices g lt;
    symbols = λ s is. one_symbol h s is (ℕ_discrete s (at + 1));
  }
