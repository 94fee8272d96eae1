-- Generators with the leaves 1 to their arity below them, and with two of these exchanged.
use Rattle.std.proofs.Common.{◌≡◌, ℕ, zero, suc, ◌+◌, ◌<◌, ◌≤◌, refl, ap, ◌∙◌, arith}
use native.Mathlib.Decide.{ℕ_discrete}
use Rattle.labelled_trees.specs.Trees.{node, width}
use Rattle.labelled_trees.specs.Leaves.{one_if, occurs_row}
use Rattle.labelled_trees.specs.Labelled.{Fits, FitsRow, IsNumbered, IsLabelled}
use Rattle.labelled_trees.proofs.Leaves.{one_if-yes, one_if-no, at_row}
use Rattle.labelled_trees.proofs.Numbered.{labelled_of_numbered}
use Rattle.operad_ideals.specs.Rules.{numbered, exchanged_at}
use Rattle.operad_ideals.proofs.Exchanged.{numbered_within, width-exchanged, sum_row-exchanged, fits_row-exchanged}

not_before : (a k i : ℕ) → i ≤ a → occurs_row i (numbered a k) ≡ 0
not_before a zero i l = refl
not_before a (suc k) i l =
    let z = one_if-no (ℕ_discrete (suc a) i) (λ e. omega (arith, e, l)) in omega (arith, z, not_before (suc a) k i (omega (arith, l)))

once : (a k i : ℕ) → a < i → i ≤ a + k → occurs_row i (numbered a k) ≡ 1
once a zero i l m = absurd (omega (arith, l, m))
once a (suc k) i l m = go (ℕ_discrete (suc a) i) (λ h. once (suc a) k i h (omega (arith, m)))
  where
    go : Dec (suc a ≡ i) → (suc a < i → occurs_row i (numbered (suc a) k) ≡ 1) → occurs_row i (numbered a (suc k)) ≡ 1
    go (yes e) later = let o = one_if-yes (ℕ_discrete (suc a) i) e in omega (arith, o, not_before (suc a) k i (omega (arith, e)))
    go (no f) later = let z = one_if-no (ℕ_discrete (suc a) i) f in omega (arith, z, later (omega (arith, l, f)))

pub numbered-numbered : (g k : ℕ) → IsNumbered k (node g (numbered 0 k))
numbered-numbered g k = record {
  each = λ i l m. once 0 k i l (omega (arith, m));
  only = λ i o. let w = at_row (numbered 0 k) (λ j. (0 < j) × (j ≤ 0 + k)) i (numbered_within 0 k) o in (w.0, omega (arith, w.1));
}

pub exchanged-numbered : (g k i : ℕ) → IsNumbered k (node g (exchanged_at i (numbered 0 k)))
exchanged-numbered g k i =
    let plain = numbered-numbered g k in
    let same : (j : ℕ) → occurs_row j (exchanged_at i (numbered 0 k)) ≡ occurs_row j (numbered 0 k) = λ j. sum_row-exchanged i (numbered 0 k) (λ n. one_if (ℕ_discrete n j)) in
    record { each = λ j l m. same j ∙ plain.each j l m; only = λ j o. plain.only j (omega (arith, o, same j)) }

pub width-numbered : (a k : ℕ) → width (numbered a k) ≡ k
width-numbered a zero = refl
width-numbered a (suc k) = ap suc (width-numbered (suc a) k)

pub fits-numbered : (arities : ℕ → ℕ) (a k : ℕ) → FitsRow arities (numbered a k)
fits-numbered arities a zero = tt
fits-numbered arities a (suc k) = (tt, fits-numbered arities (suc a) k)

pub numbered-fits : (arities : ℕ → ℕ) (g : ℕ) → 2 ≤ arities g → Fits arities (node g (numbered 0 (arities g)))
numbered-fits arities g l = (l, width-numbered 0 (arities g), fits-numbered arities 0 (arities g))

pub exchanged-fits : (arities : ℕ → ℕ) (g i : ℕ) → 2 ≤ arities g → Fits arities (node g (exchanged_at i (numbered 0 (arities g))))
exchanged-fits arities g i l = (l, width-exchanged i (numbered 0 (arities g)) ∙ width-numbered 0 (arities g), fits_row-exchanged arities i (numbered 0 (arities g)) (fits-numbered arities 0 (arities g)))

-- a generator with the leaves 1 to its arity, and with two of its inputs exchanged
pub corolla_labelled : (arity : ℕ → ℕ) (g : ℕ) → 2 ≤ arity g → IsLabelled arity (arity g) (node g (numbered 0 (arity g)))
corolla_labelled arity g two = labelled_of_numbered (numbered-fits arity g two) (numbered-numbered g (arity g))

pub exchanged_labelled : (arity : ℕ → ℕ) (g i : ℕ) → 2 ≤ arity g → IsLabelled arity (arity g) (node g (exchanged_at i (numbered 0 (arity g))))
exchanged_labelled arity g i two = labelled_of_numbered (exchanged-fits arity g i two) (exchanged-numbered g (arity g) i)
