-- Patterns whose hanging parts are named by their least leaves.
use Rattle.std.proofs.Common.{◌≡◌, ℕ, ◌<◌, ◌≤◌, arith, subst}
use native.Mathlib.Decide.{ℕ_discrete}
use Rattle.labelled_trees.specs.Trees.{Tree, Row, leaf, node, none, more, graft, graft_row}
use Rattle.shuffle_insertions.specs.ShuffleTrees.{least, IsRising, IsRisingRow}
use Rattle.labelled_trees.specs.Leaves.{AllLeaves, AllRow, one_if, occurs}
use Rattle.labelled_trees.proofs.GraftLeaves.{sum_leaves-graft}
use Rattle.labelled_trees.proofs.Leaves.{sum_leaves-≤, AllLeaves-imp}
use Rattle.shuffle_insertions.proofs.Rising.{least-occurs}

mutual
  -- the hanging parts of a rising tree are rising
  pub parts_rise : {A : Type 0} (t : Tree A) (s : A → Tree ℕ) → IsRising (graft t s) → AllLeaves t (λ a. IsRising (s a))
  parts_rise (leaf a) s h = h
  parts_rise (node l r) s h = parts_rise_row r s h.1

  pub parts_rise_row : {A : Type 0} (r : Row A) (s : A → Tree ℕ) → IsRisingRow (graft_row r s) → AllRow r (λ a. IsRising (s a))
  parts_rise_row none s h = tt
  parts_rise_row (more t r) s h = (parts_rise t s h.0, parts_rise_row r s h.2)

-- a pattern with each hanging part named by its least leaf
abbrev pub named : {A : Type 0} → (A → Tree ℕ) → Tree A → Tree ℕ
named s t = graft t (λ a. leaf (least (s a)))

-- a tree in which its least leaf stands holds i where that leaf is i
pub one_if_le : (i : ℕ) (t : Tree ℕ) (d : Dec (least t ≡ i)) → 0 < occurs (least t) t → one_if d ≤ occurs i t
one_if_le i t (yes e) h = subst (λ k. 1 ≤ occurs k t) e h
one_if_le i t (no _) h = omega arith

pub occurs-named : {A : Type 0} (s : A → Tree ℕ) (t : Tree A) (i : ℕ) → IsRising (graft t s) → occurs i (named s t) ≤ occurs i (graft t s)
occurs-named s t i h =
    rw (sum_leaves-graft t (λ a. leaf (least (s a))) (λ n. one_if (ℕ_discrete n i)), sum_leaves-graft t s (λ n. one_if (ℕ_discrete n i)))
    (sum_leaves-≤ t (λ a. one_if (ℕ_discrete (least (s a)) i)) (λ a. occurs i (s a))
    (AllLeaves-imp t (λ a. IsRising (s a)) (λ a. one_if (ℕ_discrete (least (s a)) i) ≤ occurs i (s a))
    (λ a k. one_if_le i (s a) (ℕ_discrete (least (s a)) i) (least-occurs (s a) k)) (parts_rise t s h)))
