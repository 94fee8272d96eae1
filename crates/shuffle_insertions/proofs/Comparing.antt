-- Comparisons of numbers, words and lists, against the relations.
use Rattle.std.proofs.Common.{true, ◌≡◌, ℕ, ◌<◌, List, [], ◌∷◌, length, refl, sym, ◌∙◌, ap, arith, inl, inr, ◌⊎◌}
use mathlib.Core.Path.{ap₂}
use mathlib.Core.List.{◌++◌}
use Rattle.std.specs.declared.cmp.Ordering.{Ordering}
use Rattle.std.specs.declared.cmp.Ordering.TheVariants.{Less, Equal, Greater}
use Rattle.std.specs.Ordering.{nat_cmp, ordering_then, MatchOrdering}
use Rattle.std.specs.Cmp.{IsTotalOrder}
use Rattle.std.specs.Cmp.Lexicographic.{slice_cmp}
use Rattle.std.proofs.lemmas.Cmp.{ranked, nat_cmp_total, nat_list_cmp_total, lists_total, then_total, back_total, on_total, tied_itself}
use Rattle.std.proofs.lemmas.Map.Lookups.{exact_unsigned}
use Rattle.labelled_trees.proofs.Orderings.{then_equal}
use Rattle.shuffle_insertions.proofs.PathWords.{LexLess, WordLess, ShortLess}
use Rattle.std.specs.Ordering.{ordering_reverse, is_lt}
use Rattle.std.specs.declared.cmp.Ordering.TheVariants.{Greater}
use Rattle.shuffle_insertions.specs.Keys.{word_cmp, short_cmp, Key, path, pathshort, leafpath, weightpath}

pub word_total : IsTotalOrder word_cmp
word_total = then_total (on_total length nat_cmp_total) nat_list_cmp_total

pub short_total : IsTotalOrder short_cmp
short_total = then_total (back_total (on_total length nat_cmp_total)) nat_list_cmp_total

pub path_total : IsTotalOrder path
path_total = then_total (on_total (λ (a : Key). a.words) (lists_total word_total)) (on_total (λ (a : Key). a.row) nat_list_cmp_total)

pub pathshort_total : IsTotalOrder pathshort
pathshort_total = then_total (on_total (λ (a : Key). a.words) (lists_total short_total)) (on_total (λ (a : Key). a.row) nat_list_cmp_total)

pub leafpath_total : IsTotalOrder leafpath
leafpath_total = then_total (on_total (λ (a : Key). a.row) nat_list_cmp_total) (on_total (λ (a : Key). a.words) (lists_total word_total))

pub weightpath_total : IsTotalOrder weightpath
weightpath_total = then_total (on_total (λ (a : Key). a.weight) nat_cmp_total) path_total

pub nat_less : (x y : ℕ) → nat_cmp x y ≡ Less → x < y
nat_less x y e = ranked x y Less (sym e)

at_less : (x y : ℕ) (o : Ordering) → MatchOrdering o (x < y) (x ≡ y) (y < x) → x < y → o ≡ Less
at_less x y Less h lt = refl
at_less x y Equal h lt = absurd (omega arith)
at_less x y Greater h lt = absurd (omega arith)

at_same : (x y : ℕ) (o : Ordering) → MatchOrdering o (x < y) (x ≡ y) (y < x) → x ≡ y → o ≡ Equal
at_same x y Less h e = absurd (omega arith)
at_same x y Equal h e = refl
at_same x y Greater h e = absurd (omega arith)

pub less_nat : (x y : ℕ) → x < y → nat_cmp x y ≡ Less
less_nat x y lt = at_less x y (nat_cmp x y) (ranked x y (nat_cmp x y) refl) lt

pub same_nat : (x y : ℕ) → x ≡ y → nat_cmp x y ≡ Equal
same_nat x y e = at_same x y (nat_cmp x y) (ranked x y (nat_cmp x y) refl) e

pub then_less : (o p : Ordering) → ordering_then o p ≡ Less → (o ≡ Less) ⊎ ((o ≡ Equal) × (p ≡ Less))
then_less Less p e = inl refl
then_less Equal p e = inr (refl, e)
then_less Greater p e = absurd (cc e)

pub then_first : (o p : Ordering) → o ≡ Less → ordering_then o p ≡ Less
then_first Less p e = refl
then_first Equal p e = absurd (cc e)
then_first Greater p e = absurd (cc e)

pub then_second : (o p q : Ordering) → o ≡ Equal → p ≡ q → ordering_then o p ≡ q
then_second Less p q e f = absurd (cc e)
then_second Equal p q e f = f
then_second Greater p q e f = absurd (cc e)

pub list_same : {X : Type 0} (R : X → X → Ordering) → ((x y : X) → R x y ≡ Equal → x ≡ y) → (k l : List X) → slice_cmp R k l ≡ Equal → k ≡ l
list_same R f [] [] e = refl
list_same R f [] (y ∷ l) e = absurd (cc e)
list_same R f (x ∷ k) [] e = absurd (cc e)
list_same R f (x ∷ k) (y ∷ l) e = let h = then_equal (R x y) (slice_cmp R k l) e in ap₂ (λ a b. a ∷ b) (f x y h.0) (list_same R f k l h.1)

pub itself : {X : Type 0} (R : X → X → Ordering) → IsTotalOrder R → (x y : X) → x ≡ y → R x y ≡ Equal
itself R t x y e = ap (R x) (sym e) ∙ tied_itself t x

then-then : (o p q : Ordering) → ordering_then o (ordering_then p q) ≡ ordering_then (ordering_then o p) q
then-then Less p q = refl
then-then Equal p q = refl
then-then Greater p q = refl

pub slice_cmp-append : {X : Type 0} (R : X → X → Ordering) (k l m n : List X) → length k ≡ length l → slice_cmp R (k ++ m) (l ++ n) ≡ ordering_then (slice_cmp R k l) (slice_cmp R m n)
slice_cmp-append R [] [] m n e = refl
slice_cmp-append R [] (y ∷ l) m n e = absurd (omega arith)
slice_cmp-append R (x ∷ k) [] m n e = absurd (omega arith)
slice_cmp-append R (x ∷ k) (y ∷ l) m n e = ap (ordering_then (R x y)) (slice_cmp-append R k l m n (omega arith)) ∙ then-then (R x y) (slice_cmp R k l) (slice_cmp R m n)

lex_step : (x y : ℕ) (v w : List ℕ) → (slice_cmp nat_cmp v w ≡ Less → LexLess v w) → (nat_cmp x y ≡ Less) ⊎ ((nat_cmp x y ≡ Equal) × (slice_cmp nat_cmp v w ≡ Less)) → (x < y) ⊎ ((x ≡ y) × LexLess v w)
lex_step x y v w f (inl e) = inl (nat_less x y e)
lex_step x y v w f (inr h) = inr (exact_unsigned x y h.0, f h.1)

pub lex_of : (v w : List ℕ) → length v ≡ length w → slice_cmp nat_cmp v w ≡ Less → LexLess v w
lex_of [] [] e h = absurd (cc h)
lex_of [] (y ∷ w) e h = absurd (omega arith)
lex_of (x ∷ v) [] e h = absurd (cc h)
lex_of (x ∷ v) (y ∷ w) e h = lex_step x y v w (λ k. lex_of v w (omega arith) k) (then_less (nat_cmp x y) (slice_cmp nat_cmp v w) h)

pub of_lex : (v w : List ℕ) → LexLess v w → slice_cmp nat_cmp v w ≡ Less
of_lex [] w h = absurd h
of_lex (x ∷ v) [] h = absurd h
of_lex (x ∷ v) (y ∷ w) (inl h) = then_first (nat_cmp x y) (slice_cmp nat_cmp v w) (less_nat x y h)
of_lex (x ∷ v) (y ∷ w) (inr h) = then_second (nat_cmp x y) (slice_cmp nat_cmp v w) Less (same_nat x y h.0) (of_lex v w h.1)

pub word_same : (v w : List ℕ) → word_cmp v w ≡ Equal → v ≡ w
word_same v w e = list_same nat_cmp exact_unsigned v w (then_equal (nat_cmp (length v) (length w)) (slice_cmp nat_cmp v w) e).1

pub short_same : (v w : List ℕ) → short_cmp v w ≡ Equal → v ≡ w
short_same v w e = list_same nat_cmp exact_unsigned v w (then_equal (nat_cmp (length w) (length v)) (slice_cmp nat_cmp v w) e).1

pub word_less_of : (v w : List ℕ) → word_cmp v w ≡ Less → WordLess v w
word_less_of v w e = go (then_less (nat_cmp (length v) (length w)) (slice_cmp nat_cmp v w) e)
  where
    go : (nat_cmp (length v) (length w) ≡ Less) ⊎ ((nat_cmp (length v) (length w) ≡ Equal) × (slice_cmp nat_cmp v w ≡ Less)) → WordLess v w
    go (inl h) = inl (nat_less (length v) (length w) h)
    go (inr h) = let s = exact_unsigned (length v) (length w) h.0 in inr (s, lex_of v w s h.1)

pub of_word_less : (v w : List ℕ) → WordLess v w → word_cmp v w ≡ Less
of_word_less v w (inl h) = then_first (nat_cmp (length v) (length w)) (slice_cmp nat_cmp v w) (less_nat (length v) (length w) h)
of_word_less v w (inr h) = then_second (nat_cmp (length v) (length w)) (slice_cmp nat_cmp v w) Less (same_nat (length v) (length w) h.0) (of_lex v w h.1)

pub short_less_of : (v w : List ℕ) → short_cmp v w ≡ Less → ShortLess v w
short_less_of v w e = go (then_less (nat_cmp (length w) (length v)) (slice_cmp nat_cmp v w) e)
  where
    go : (nat_cmp (length w) (length v) ≡ Less) ⊎ ((nat_cmp (length w) (length v) ≡ Equal) × (slice_cmp nat_cmp v w ≡ Less)) → ShortLess v w
    go (inl h) = inl (nat_less (length w) (length v) h)
    go (inr h) = let s = sym (exact_unsigned (length w) (length v) h.0) in inr (s, lex_of v w s h.1)

pub of_short_less : (v w : List ℕ) → ShortLess v w → short_cmp v w ≡ Less
of_short_less v w (inl h) = then_first (nat_cmp (length w) (length v)) (slice_cmp nat_cmp v w) (less_nat (length w) (length v) h)
of_short_less v w (inr h) = then_second (nat_cmp (length w) (length v)) (slice_cmp nat_cmp v w) Less (same_nat (length w) (length v) (sym h.0)) (of_lex v w h.1)

pub turn_greater : (o p : Ordering) → o ≡ ordering_reverse p → o ≡ Greater → p ≡ Less
turn_greater o Less e g = refl
turn_greater o Equal e g = absurd (cc (e, g))
turn_greater o Greater e g = absurd (cc (e, g))

pub is_less : (o : Ordering) → is_lt o ≡ true → o ≡ Less
is_less Less e = refl
is_less Equal e = absurd (cc e)
is_less Greater e = absurd (cc e)
