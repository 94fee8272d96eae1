-- What the checks show together.
use Rattle.std.proofs.Common.{◌≡◌, ℕ, zero, suc, ◌<◌, ◌≤◌, List, replicate, refl, sym, ◌∙◌, subst, arith}
use Rattle.std.specs.Prelude.{slice_index, Option, Some, None, IfSome, IfNone, IsTrue, is_some}
use native.Mathlib.Decide.{dec_lt}
use Rattle.labelled_trees.specs.Trees.{Tree, leaf}
use Rattle.labelled_trees.specs.Leaves.{occurs}
use Rattle.labelled_trees.specs.Insertions.{put, at_zero}
use Rattle.labelled_trees.proofs.Leaves.{at_leaf, AllLeaves-each}
use Rattle.labelled_trees.proofs.Grafts.{graft_leaf}
use Rattle.labelled_trees.proofs.GraftLeaves.{graft_ext}
use Rattle.shuffle_insertions.specs.ShuffleTrees.{IsRising}
use Rattle.shuffle_trees.specs.ValidTrees.{IsValid}
use Rattle.shuffle_trees.specs.Checks.{AddsLeaves, IsTwice, IsOrdered, IsUnordered}
use Rattle.shuffle_trees.proofs.Counts.{no_times}

zero_itself : (i : ℕ) → at_zero (leaf 0) i ≡ leaf i
zero_itself zero = refl
zero_itself (suc i) = refl

-- leaf 0 in place of leaf 0
pub put_zero : (t : Tree ℕ) → put t (leaf 0) ≡ t
put_zero t = graft_ext t (at_zero (leaf 0)) leaf (AllLeaves-each t (λ i. at_zero (leaf 0) i ≡ leaf i) zero_itself) ∙ graft_leaf t

-- how often each number stands, from the counts that began at 0
pub counted : (times : List ℕ) (t : Tree ℕ) → AddsLeaves (replicate 256 0) times t → (k : ℕ) → (occurs k t ≤ 1) × (0 < occurs k t → (k < 256) × (slice_index times k ≡ occurs k t))
counted times t h k = go (dec_lt k 256)
  where
    go : Dec (k < 256) → (occurs k t ≤ 1) × (0 < occurs k t → (k < 256) × (slice_index times k ≡ occurs k t))
    go (yes lt) = let c = h.counts k lt in let z = no_times k in let o = h.once k in (omega (arith, c, z, o), λ _. (lt, omega (arith, c, z)))
    go (no ge) =
        let none : 0 < occurs k t → ⊥ = λ o. ge (at_leaf t (λ i. i < 256) k h.small o) in
        let zero_there : occurs k t ≡ 0 = omega (arith, none) in
        (omega (arith, zero_there), λ o. absurd (none o))

-- a tree in which a number stands twice isn't valid
pub twice_invalid : (t : Tree ℕ) → IsTwice (replicate 256 0) t → IsValid t → ⊥
twice_invalid t h v = h (λ k lt. let z = no_times k in let o = v.once k in omega (arith, z, o))

pub zero_invalid : (times : List ℕ) (t : Tree ℕ) → AddsLeaves (replicate 256 0) times t → (slice_index times 0 ≡ 0 → ⊥) → IsValid t → ⊥
zero_invalid times t h some v = some (let c = h.counts 0 (omega arith) in let z = no_times 0 in let none : 0 < occurs 0 t → ⊥ = λ o. (let w = v.only 0 o in omega (arith, w.0)) in omega (arith, c, z, none))

-- the checks decide validity
pub valid_by : (times : List ℕ) (t : Tree ℕ) (found : Option ℕ) → AddsLeaves (replicate 256 0) times t → slice_index times 0 ≡ 0
    → IfSome found (λ l. IsOrdered t (put t (leaf 0)) l) → IfNone found (IsUnordered t (put t (leaf 0)))
    → (IsTrue (is_some found) → IsValid t) × (IsValid t → IsTrue (is_some found))
valid_by times t None a z s n = (λ e. absurd cc, λ v. absurd (n v.wide (subst IsRising (sym (put_zero t)) v.rising)))
valid_by times t (Some l) a z s n = (
  λ e. record {
    wide = s.wide;
    rising = subst IsRising (put_zero t) s.rising;
    once = λ i. (counted times t a i).0;
    only = λ i o. let w = (counted times t a i).1 o in (positive i o w.1, w.0);
  },
  λ v. refl,
)
  where
    positive : (i : ℕ) → 0 < occurs i t → slice_index times i ≡ occurs i t → 0 < i
    positive zero o e = absurd (omega (arith, z, o, e))
    positive (suc i) o e = omega arith
