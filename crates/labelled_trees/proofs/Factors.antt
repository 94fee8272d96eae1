-- A tree as another tree with its leaves changed.
use Rattle.std.proofs.Common.{◌≡◌, ℕ, ◌+◌, ◌≤◌, ◌<◌, refl, sym, ◌∙◌, ap, arith}
use mathlib.Core.Path.{ap₂}
use native.Mathlib.Decide.{dec_lt}
use Rattle.std.proofs.Common.{◌≡◌, ℕ, ◌<◌, ◌≤◌, refl, sym, ◌∙◌, ap, arith}
use Rattle.labelled_trees.specs.Trees.{Tree, Row, leaf, node, none, more, graft, graft_row, join}
use Rattle.labelled_trees.specs.Leaves.{AllLeaves, occurs, occurs_row}
use Rattle.labelled_trees.proofs.Contexts.{node-eq, more-eq}
use Rattle.labelled_trees.proofs.Grafts.{graft_assoc}
use Rattle.labelled_trees.proofs.GraftLeaves.{graft_row_ext, graft_ext, agree}
use Rattle.labelled_trees.proofs.Leaves.{by_row, by_leaf, at_leaf}
use Rattle.modular_sums.specs.Lists.{choose}
use Rattle.modular_sums.proofs.Choices.{choose-yes, choose-no}

-- the choice at a row: the first tree's where the number occurs there
unfoldable pub both_ways : {B : Type 0} (t : Tree ℕ) (f g : ℕ → B) → ℕ → B
both_ways t f g i = choose (dec_lt 0 (occurs i t)) (f i) (g i)

pub both_ways_left : {B : Type 0} (t : Tree ℕ) (f g : ℕ → B) → graft t (λ i. leaf (f i)) ≡ graft t (λ i. leaf (both_ways t f g i))
unfolding both_ways
both_ways_left t f g = graft_ext t (λ i. leaf (f i)) (λ i. leaf (both_ways t f g i))
    (by_leaf t (λ i. leaf (f i) ≡ leaf (both_ways t f g i)) (λ i h. ap leaf (sym (choose-yes (dec_lt 0 (occurs i t)) (f i) (g i) h))))

pub both_ways_right : {B : Type 0} (t : Tree ℕ) (r : Row ℕ) (f g : ℕ → B) → ((i : ℕ) → occurs i t + occurs_row i r ≤ 1)
    → graft_row r (λ i. leaf (g i)) ≡ graft_row r (λ i. leaf (both_ways t f g i))
unfolding both_ways
both_ways_right t r f g d = graft_row_ext r (λ i. leaf (g i)) (λ i. leaf (both_ways t f g i))
    (by_row r (λ i. leaf (g i) ≡ leaf (both_ways t f g i)) (λ i h. ap leaf (sym (choose-no (dec_lt 0 (occurs i t)) (f i) (g i) (λ k. absurd (omega (arith, d i, h, k)))))))

mutual
  -- a tree of the shape of t is t with its leaves changed, where t holds no number twice
  pub factor : {B Y : Type 0} (t : Tree ℕ) (x : Tree B) (g : B → Y) (s : ℕ → Y) → B → ((i : ℕ) → occurs i t ≤ 1)
      → graft x (λ b. leaf (g b)) ≡ graft t (λ i. leaf (s i)) → (f : ℕ → B) × (x ≡ graft t (λ i. leaf (f i)))
  factor (leaf n) (leaf b) g s z d e = (λ _. b, refl)
  factor (leaf n) (node l r) g s z d e = absurd (cc e)
  factor (node l r) (leaf b) g s z d e = absurd (cc e)
  factor (node l r) (node m q) g s z d e =
      let h = node-eq m l (graft_row q (λ b. leaf (g b))) (graft_row r (λ i. leaf (s i))) e in
      let k = factor_row r q g s z d h.1 in
      (k.0, ap₂ node h.0 k.1)

  pub factor_row : {B Y : Type 0} (r : Row ℕ) (x : Row B) (g : B → Y) (s : ℕ → Y) → B → ((i : ℕ) → occurs_row i r ≤ 1)
      → graft_row x (λ b. leaf (g b)) ≡ graft_row r (λ i. leaf (s i)) → (f : ℕ → B) × (x ≡ graft_row r (λ i. leaf (f i)))
  factor_row none none g s z d e = (λ _. z, refl)
  factor_row none (more x y) g s z d e = absurd (cc e)
  factor_row (more t r) none g s z d e = absurd (cc e)
  factor_row (more t r) (more x y) g s z d e =
      let h = more-eq (graft x (λ b. leaf (g b))) (graft t (λ i. leaf (s i))) (graft_row y (λ b. leaf (g b))) (graft_row r (λ i. leaf (s i))) e in
      let a = factor t x g s z (λ i. omega (arith, d i)) h.0 in
      let b = factor_row r y g s z (λ i. omega (arith, d i)) h.1 in
      (both_ways t a.0 b.0, ap₂ more (a.1 ∙ both_ways_left t a.0 b.0) (b.1 ∙ both_ways_right t r a.0 b.0 d))

-- a finer pattern over the same vertices: what stands below each leaf
pub record Refined (part : Tree ℕ) (s : ℕ → Tree ℕ) (x : Tree (Tree (Tree ℕ))) : Type 0 where
  pub by : ℕ → Tree (Tree ℕ)
  pub is : x ≡ graft part (λ i. leaf (by i))
  pub joins : (i : ℕ) → join (by i) ≡ s i
  pub bare : (i : ℕ) → occurs i part ≡ 0 → by i ≡ leaf (s i)

pub refine : (part : Tree ℕ) (s : ℕ → Tree ℕ) (x : Tree (Tree (Tree ℕ))) → ((i : ℕ) → occurs i part ≤ 1)
    → graft x (λ v. leaf (join v)) ≡ graft part (λ i. leaf (s i)) → Refined part s x
unfolding both_ways
refine part s x d e = record {
  by = both_ways part f.0 (λ i. leaf (s i));
  is = f.1 ∙ both_ways_left part f.0 (λ i. leaf (s i));
  joins = λ i. joined i (dec_lt 0 (occurs i part));
  bare = λ i z. choose-no (dec_lt 0 (occurs i part)) (f.0 i) (leaf (s i)) (λ k. absurd (omega (arith, z, k)));
}
  where
    f : (f : ℕ → Tree (Tree ℕ)) × (x ≡ graft part (λ i. leaf (f i)))
    f = factor part x join s (leaf (leaf 0)) d e

    same : AllLeaves part (λ i. join (f.0 i) ≡ s i)
    same = agree part (λ i. join (f.0 i)) s (sym (graft_assoc part (λ i. leaf (f.0 i)) (λ v. leaf (join v))) ∙ ap (λ y. graft y (λ v. leaf (join v))) (sym f.1) ∙ e)

    joined : (i : ℕ) (c : Dec (0 < occurs i part)) → join (choose c (f.0 i) (leaf (s i))) ≡ s i
    joined i (yes k) = at_leaf part (λ j. join (f.0 j) ≡ s j) i same k
    joined i (no k) = refl
