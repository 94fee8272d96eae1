-- Blocks compare as keys do.
use Rattle.std.specs.Prelude.{Bool, true, false}
use Rattle.std.proofs.Common.{◌≡◌, ℕ, ◌-◌, ◌/◌, ◌%◌, ◌<◌, ◌≤◌, List, [], ◌∷◌, length, refl, ap, sym, ◌∙◌, arith}
use mathlib.Core.List.{◌++◌}
use mathlib.Core.Path.{ap₂}
use Rattle.std.specs.declared.cmp.Ordering.{Ordering}
use Rattle.std.specs.declared.cmp.Ordering.TheVariants.{Less, Equal, Greater}
use Rattle.std.specs.Ordering.{nat_cmp, ordering_then, MatchOrdering}
use Rattle.std.specs.Cmp.{ranks, nat_cmp_is}
use Rattle.std.specs.Cmp.Lexicographic.{slice_cmp}
use Rattle.std.proofs.lemmas.Map.Lookups.{exact_unsigned}
use Rattle.shuffle_insertions.specs.Keys.{Key, path}
use Rattle.shuffle_insertions.proofs.Comparing.{slice_cmp-append}
use Rattle.shuffle_insertions.specs.KeyBlocks.{mark, marked, digits, path_block, AreShort, AreComparableKeys}
use Rattle.shuffle_insertions.specs.BlockLaws.{BlocksCompare}

then-assoc : (a b c : Ordering) → ordering_then (ordering_then a b) c ≡ ordering_then a (ordering_then b c)
then-assoc Less b c = refl
then-assoc Equal b c = refl
then-assoc Greater b c = refl

then-nothing : (a : Ordering) → ordering_then a Equal ≡ a
then-nothing Less = refl
then-nothing Equal = refl
then-nothing Greater = refl

assoc : {X : Type 0} (k l m : List X) → (k ++ l) ++ m ≡ k ++ (l ++ m)
assoc [] l m = refl
assoc (x ∷ k) l m = ap (λ n. x ∷ n) (assoc k l m)

-- ---- words behind their marks

-- how the marks of two lengths compare
abbrev lengths_by : Bool → ℕ → ℕ → Ordering
lengths_by false m n = nat_cmp m n
lengths_by true m n = nat_cmp n m

marks : (short : Bool) (m n : ℕ) → m ≤ 65535 → n ≤ 65535 → nat_cmp (mark short m) (mark short n) ≡ lengths_by short m n
marks false m n a b = refl
marks true m n a b = nat_cmp_is n m (nat_cmp (65535 - m) (65535 - n)) (go (nat_cmp (65535 - m) (65535 - n)) (ranks (65535 - m) (65535 - n)))
  where
    go : (o : Ordering) → MatchOrdering o (65535 - m < 65535 - n) (65535 - m ≡ 65535 - n) (65535 - n < 65535 - m) → MatchOrdering o (n < m) (n ≡ m) (m < n)
    go Less h = omega (arith, a, b, h)
    go Equal h = omega (arith, a, b, h)
    go Greater h = omega (arith, a, b, h)

one_length : (short : Bool) (m n : ℕ) → lengths_by short m n ≡ Equal → m ≡ n
one_length false m n e = exact_unsigned m n e
one_length true m n e = sym (exact_unsigned n m e)

module _ (short : Bool) where
  abbrev word : List ℕ → List ℕ → Ordering
  word v w = ordering_then (lengths_by short (length v) (length w)) (slice_cmp nat_cmp v w)

  next : (o : Ordering) (v w r s : List ℕ) → lengths_by short (length v) (length w) ≡ o
      → ordering_then o (slice_cmp nat_cmp (v ++ r) (w ++ s)) ≡ ordering_then (ordering_then o (slice_cmp nat_cmp v w)) (slice_cmp nat_cmp r s)
  next Less v w r s e = refl
  next Greater v w r s e = refl
  next Equal v w r s e = slice_cmp-append nat_cmp v w r s (one_length short (length v) (length w) e)

  -- marked words, and what stands behind them
  marked_first : (vs ws : List (List ℕ)) (r s : List ℕ) → length vs ≡ length ws → AreShort vs → AreShort ws
      → slice_cmp nat_cmp (marked short vs ++ r) (marked short ws ++ s) ≡ ordering_then (slice_cmp word vs ws) (slice_cmp nat_cmp r s)
  marked_first [] [] r s e h g = refl
  marked_first [] (w ∷ ws) r s e h g = absurd (omega (arith, e))
  marked_first (v ∷ vs) [] r s e h g = absurd (omega (arith, e))
  marked_first (v ∷ vs) (w ∷ ws) r s e h g =
      let rest = marked_first vs ws r s (omega (arith, e)) h.1 g.1 in
      let o = lengths_by short (length v) (length w) in
      let left : (v ++ marked short vs) ++ r ≡ v ++ (marked short vs ++ r) = assoc v (marked short vs) r in
      let right : (w ++ marked short ws) ++ s ≡ w ++ (marked short ws ++ s) = assoc w (marked short ws) s in
      ap₂ ordering_then (marks short (length v) (length w) h.0 g.0) (ap₂ (slice_cmp nat_cmp) left right)
      ∙ next o v w (marked short vs ++ r) (marked short ws ++ s) refl
      ∙ ap (ordering_then (ordering_then o (slice_cmp nat_cmp v w))) rest
      ∙ sym (then-assoc (ordering_then o (slice_cmp nat_cmp v w)) (slice_cmp word vs ws) (slice_cmp nat_cmp r s))

  nothing : {X : Type 0} (k : List X) → k ++ [] ≡ k
  nothing [] = refl
  nothing (x ∷ k) = ap (λ l. x ∷ l) (nothing k)

  -- marked words alone
  marked_alone : (vs ws : List (List ℕ)) → length vs ≡ length ws → AreShort vs → AreShort ws → slice_cmp nat_cmp (marked short vs) (marked short ws) ≡ slice_cmp word vs ws
  marked_alone vs ws e h g =
      sym (ap₂ (slice_cmp nat_cmp) (nothing (marked short vs)) (nothing (marked short ws))) ∙ marked_first vs ws [] [] e h g ∙ then-nothing (slice_cmp word vs ws)

-- ---- weights by their digits

-- by the quotients, then by the remainders
divided : (m n : ℕ) → nat_cmp m n ≡ ordering_then (nat_cmp (m / 65536) (n / 65536)) (nat_cmp (m % 65536) (n % 65536))
divided m n =
    let q = nat_cmp (m / 65536) (n / 65536) in
    let r = nat_cmp (m % 65536) (n % 65536) in
    sym (nat_cmp_is m n (ordering_then q r) (go q r (ranks (m / 65536) (n / 65536)) (ranks (m % 65536) (n % 65536))))
  where
    go : (o p : Ordering) → MatchOrdering o (m / 65536 < n / 65536) (m / 65536 ≡ n / 65536) (n / 65536 < m / 65536)
        → MatchOrdering p (m % 65536 < n % 65536) (m % 65536 ≡ n % 65536) (n % 65536 < m % 65536)
        → MatchOrdering (ordering_then o p) (m < n) (m ≡ n) (n < m)
    go Less p h g = omega (arith, h)
    go Greater p h g = omega (arith, h)
    go Equal Less h g = omega (arith, h, g)
    go Equal Equal h g = omega (arith, h, g)
    go Equal Greater h g = omega (arith, h, g)

weights : (m n : ℕ) → slice_cmp nat_cmp (digits m) (digits n) ≡ nat_cmp m n
weights m n =
    let c1 = nat_cmp (m / 65536 / 65536 / 65536) (n / 65536 / 65536 / 65536) in
    let c2 = nat_cmp (m / 65536 / 65536 % 65536) (n / 65536 / 65536 % 65536) in
    let c3 = nat_cmp (m / 65536 % 65536) (n / 65536 % 65536) in
    let c4 = nat_cmp (m % 65536) (n % 65536) in
    let three : nat_cmp (m / 65536 / 65536) (n / 65536 / 65536) ≡ ordering_then c1 c2 = divided (m / 65536 / 65536) (n / 65536 / 65536) in
    let two : nat_cmp (m / 65536) (n / 65536) ≡ ordering_then (ordering_then c1 c2) c3 = divided (m / 65536) (n / 65536) ∙ ap (λ o. ordering_then o c3) three in
    let one : nat_cmp m n ≡ ordering_then (ordering_then (ordering_then c1 c2) c3) c4 = divided m n ∙ ap (λ o. ordering_then o c4) two in
    sym (one ∙ then-assoc (ordering_then c1 c2) c3 c4 ∙ then-assoc c1 c2 (ordering_then c3 c4)
    ∙ ap (λ o. ordering_then c1 (ordering_then c2 (ordering_then c3 o))) (sym (then-nothing c4)))

-- ---- the four orders

by_path : (a b : Key) → AreComparableKeys a b → slice_cmp nat_cmp (path_block a) (path_block b) ≡ path a b
by_path a b h = marked_first false a.words b.words a.row b.row h.words h.short h.other_short

pub blocks_compare : BlocksCompare
blocks_compare a b h = (
  by_path a b h,
  marked_first true a.words b.words a.row b.row h.words h.short h.other_short,
  slice_cmp-append nat_cmp a.row b.row (marked false a.words) (marked false b.words) h.rows
      ∙ ap (ordering_then (slice_cmp nat_cmp a.row b.row)) (marked_alone false a.words b.words h.words h.short h.other_short),
  slice_cmp-append nat_cmp (digits a.weight) (digits b.weight) (path_block a) (path_block b) refl
      ∙ ap₂ ordering_then (weights a.weight b.weight) (by_path a b h),
)
