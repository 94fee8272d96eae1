-- Testing that the leaves of a tree carry 1 to n, each once.
use Rattle.std.specs.Prelude.{is_some}
use Rattle.std.specs.Option.{IfSome, IfNone}
use Rattle.std.proofs.Common.{◌≡◌, ◌≤◌, ◌<◌, ℕ, zero, suc, true, ◌==◌, Option, Some, None, refl, sym, subst, arith}
use Rattle.std.proofs.lemmas.Bool.{false_from_ne_true}
use Rattle.std.proofs.lemmas.Bool.Decides.{Decides-eqb}
use native.Mathlib.Decide.{dec_lt}
use Rattle.labelled_trees.specs.Trees.{Tree}
use Rattle.labelled_trees.specs.Leaves.{leaf_count, occurs}
use Rattle.labelled_trees.specs.Labelled.{IsNumbered}
use Rattle.labelled_trees.proofs.Counts.{only_within, leaf_count-numbered}
use Rattle.presentation_text.specs.TreeReadings.{has_each}
use Rattle.presentation_text.proofs.LineReadingsNumbers.{both_true}

by_place : (n : ℕ) (t : Tree ℕ) (i : ℕ) → i ≤ suc n → Dec (n < i) → (i ≤ n → occurs i t ≡ 1) → occurs (suc n) t ≡ 1 → occurs i t ≡ 1
by_place n t i b (yes l) before last = let same : suc n ≡ i = omega arith in subst (λ j. occurs j t ≡ 1) same last
by_place n t i b (no l) before last = before (omega (arith, l))

pub each-had : (n : ℕ) (t : Tree ℕ) → has_each n t ≡ true → (i : ℕ) → 0 < i → i ≤ n → occurs i t ≡ 1
each-had zero t e i a b = absurd (omega arith)
each-had (suc n) t e i a b =
    let parts = both_true (has_each n t) (occurs (suc n) t == 1) e in
    by_place n t i b (dec_lt n i) (λ l. each-had n t parts.0 i a l) ((Decides-eqb (occurs (suc n) t) 1).0 parts.1)

pub has-each : (n : ℕ) (t : Tree ℕ) → ((i : ℕ) → 0 < i → i ≤ n → occurs i t ≡ 1) → has_each n t ≡ true
has-each zero t each = refl
has-each (suc n) t each =
    let before : has_each n t ≡ true = has-each n t (λ i a b. each i a (omega (arith, b))) in
    let last : (occurs (suc n) t == 1) ≡ true = (Decides-eqb (occurs (suc n) t) 1).1 (each (suc n) (omega arith) (omega arith)) in
    rw (before, last) refl

pub numbered-had : (t : Tree ℕ) → has_each (leaf_count t) t ≡ true → IsNumbered (leaf_count t) t
numbered-had t e = record { each = each-had (leaf_count t) t e; only = only_within (leaf_count t) t refl (each-had (leaf_count t) t e) }

-- whether a tree is numbered
pub numbered-tested : (t : Tree ℕ) (found : Option ℕ) → IfSome found (λ n. IsNumbered n t) → IfNone found ((n : ℕ) → IsNumbered n t → ⊥)
    → is_some found ≡ has_each (leaf_count t) t
numbered-tested t (Some n) h k =
    let numbered : IsNumbered n t = h in
    sym (has-each (leaf_count t) t (λ i a b. numbered.each i a (subst (λ m. i ≤ m) (leaf_count-numbered n t numbered) b)))
numbered-tested t None h k = sym (false_from_ne_true (has_each (leaf_count t) t) (λ e. k (leaf_count t) (numbered-had t e)))
