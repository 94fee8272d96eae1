-- Places by sets of vertices, and by contexts and patterns.
use Rattle.std.proofs.Common.{◌≡◌, ℕ, suc, ◌+◌, List, [], ◌∷◌, Bool, true, false, cond, refl, sym, ◌∙◌, ap, arith, subst}
use mathlib.Core.List.{◌++◌, append-nil}
use mathlib.Core.Path.{ap₂}
use Rattle.modular_sums.specs.Lists.{Mem, has}
use Rattle.modular_sums.proofs.Lists.{has_mem, mem_has}
use Rattle.labelled_trees.specs.Trees.{Tree, Row, leaf, node, none, more, join, vertices, vertices_row, IsNode}
use Rattle.labelled_trees.specs.Contexts.{Ctx, RowCtx, hole, inside, here, past, fill, fill_row}
use Rattle.shuffle_places.specs.Cuts.{numbers, start, start_row, IsCut}
use Rattle.shuffle_places.specs.Places.{cut, cut_out, cut_out_row, first_or_leaf, at_place, divisor_of, hole_at, hole_at_row, IsPlace}
use Rattle.shuffle_places.proofs.Vertices.{In, numbers_in}
use Rattle.shuffle_places.proofs.Covers.{root_mem}
use Rattle.shuffle_places.proofs.PatternSets.{start_in, start_row_in}
use Rattle.shuffle_places.proofs.Cuts.{cut_again, join_node, cut_of_connected, connected_of_cut}

no_member : (set : List ℕ) (k : ℕ) → (Mem k set → ⊥) → has set k ≡ false
no_member set k f = go (has set k) refl
  where
    go : (b : Bool) → has set k ≡ b → b ≡ false
    go true e = absurd (f (has_mem set k e))
    go false e = refl

-- no member of the set is a number of these vertices
abbrev Misses : List ℕ → ℕ → ℕ → Type 0
Misses set k n = (v : ℕ) → Mem v set → In v k n → ⊥

mutual
  -- nothing is cut from a tree without a vertex in the set
  cut_nothing : (set : List ℕ) (k : ℕ) (t : Tree ℕ) → Misses set k (vertices t) → (cut_out set k t ≡ []) × (hole_at set k t ≡ t)
  cut_nothing set k (leaf n) h = (refl, refl)
  cut_nothing set k (node l r) h =
      let e = no_member set k (λ m. h k m (omega arith)) in
      let i = cut_nothing_row set (suc k) r (λ v m w. h v m (omega (arith, w.0, w.1))) in (
        ap (λ b. cond b (cut (has set) k (node l r) ∷ []) (cut_out_row set (suc k) r)) e ∙ i.0,
        ap (λ b. cond b (leaf 0) (node l (hole_at_row set (suc k) r))) e ∙ ap (node l) i.1,
      )

  cut_nothing_row : (set : List ℕ) (k : ℕ) (r : Row ℕ) → Misses set k (vertices_row r) → (cut_out_row set k r ≡ []) × (hole_at_row set k r ≡ r)
  cut_nothing_row set k none h = (refl, refl)
  cut_nothing_row set k (more t r) h =
      let a = cut_nothing set k t (λ v m w. h v m (omega (arith, w.0, w.1))) in
      let b = cut_nothing_row set (k + vertices t) r (λ v m w. h v m (omega (arith, w.0, w.1))) in
      (ap₂ (λ x y. x ++ y) a.0 b.0, ap₂ more a.1 b.1)

-- each member of the set is a number of these vertices
abbrev Within : List ℕ → ℕ → ℕ → Type 0
Within set k n = (v : ℕ) → Mem v set → In v k n

mutual
  -- what is cut from a context's filling is cut from what fills it
  cut_filling : (set : List ℕ) (k : ℕ) (c : Ctx ℕ) (x : Tree ℕ) → Within set (start k c) (vertices x)
      → (cut_out set k (fill c x) ≡ cut_out set (start k c) x) × (hole_at set k (fill c x) ≡ fill c (hole_at set (start k c) x))
  cut_filling set k hole x h = (refl, refl)
  cut_filling set k (inside l c) x h =
      let s = start_row_in (suc k) c x in
      let e = no_member set k (λ m. let w = h k m in absurd (omega (arith, w.0, s.0))) in
      let i = cut_filling_row set (suc k) c x h in (
        ap (λ b. cond b (cut (has set) k (node l (fill_row c x)) ∷ []) (cut_out_row set (suc k) (fill_row c x))) e ∙ i.0,
        ap (λ b. cond b (leaf 0) (node l (hole_at_row set (suc k) (fill_row c x)))) e ∙ ap (node l) i.1,
      )

  cut_filling_row : (set : List ℕ) (k : ℕ) (c : RowCtx ℕ) (x : Tree ℕ) → Within set (start_row k c) (vertices x)
      → (cut_out_row set k (fill_row c x) ≡ cut_out set (start_row k c) x) × (hole_at_row set k (fill_row c x) ≡ fill_row c (hole_at set (start_row k c) x))
  cut_filling_row set k (here c r) x h =
      let s = start_in k c x in
      let a = cut_filling set k c x h in
      let b = cut_nothing_row set (k + vertices (fill c x)) r (λ v m w. let i = h v m in absurd (omega (arith, i.1, w.0, s.1))) in
      (ap₂ (λ u w. u ++ w) a.0 b.0 ∙ append-nil (cut_out set (start k c) x), ap₂ more a.1 b.1)
  cut_filling_row set k (past t c) x h =
      let s = start_row_in (k + vertices t) c x in
      let a = cut_nothing set k t (λ v m w. let i = h v m in absurd (omega (arith, i.0, w.1, s.0))) in
      let b = cut_filling_row set (k + vertices t) c x h in
      (ap₂ (λ u w. u ++ w) a.0 b.0, ap₂ more a.1 b.1)

root_cut : (set : List ℕ) (k : ℕ) (x : Tree ℕ) → IsNode x → has set k ≡ true → (cut_out set k x ≡ cut (has set) k x ∷ []) × (hole_at set k x ≡ leaf 0)
root_cut set k (leaf a) n e = absurd n
root_cut set k (node l r) n e =
    (ap (λ b. cond b (cut (has set) k (node l r) ∷ []) (cut_out_row set (suc k) r)) e, ap (λ b. cond b (leaf 0) (node l (hole_at_row set (suc k) r))) e)

-- the set of a context's pattern cuts out the pattern, and leaves the context
pub of_pattern : (c : Ctx ℕ) (p : Tree (Tree ℕ)) → IsNode p
    → (at_place (numbers (λ v. v) (start 1 c) p) (fill c (join p)) ≡ p) × (hole_at (numbers (λ v. v) (start 1 c) p) 1 (fill c (join p)) ≡ fill c (leaf 0))
of_pattern c p n =
    let set = numbers (λ v. v) (start 1 c) p in
    let f = cut_filling set 1 c (join p) (λ v m. numbers_in (λ w. w) (start 1 c) p v m) in
    let r = root_cut set (start 1 c) (join p) (join_node p n) (mem_has set (start 1 c) (root_mem (λ v. v) (start 1 c) p n)) in
    (ap first_or_leaf (f.0 ∙ r.0) ∙ cut_again (start 1 c) p set refl, f.1 ∙ ap (fill c) r.1)

pub place_of_cut : (t : Tree ℕ) (set : List ℕ) (d : Tree ℕ) → IsCut t set d → IsPlace t set d
place_of_cut t set d h = record {
  connected = connected_of_cut t set d h;
  divisor_is = ap divisor_of (ap₂ at_place h.set_is h.host_is ∙ (of_pattern h.context h.pattern_at h.is_node).0) ∙ sym h.divisor_is;
}

pub cut_of_place : (t : Tree ℕ) (set : List ℕ) (d : Tree ℕ) → IsPlace t set d → IsCut t set d
cut_of_place t set d h =
    let c = cut_of_connected t set h.connected in
    subst (IsCut t set) (sym (place_of_cut t set c.0 c.1).divisor_is ∙ h.divisor_is) c.1
