-- Two places of a tree, of which the second lies over the first at a vertex, are an overlap.
use Rattle.std.proofs.Common.{◌≡◌, ℕ, ◌≤◌, sym, ◌∙◌, ap, arith, subst, inl, inr, ◌⊎◌}
use Rattle.modular_sums.specs.Lists.{Mem}
use Rattle.labelled_trees.specs.Trees.{Tree, leaf, graft, IsNode, IsLeaf, vertices}
use Rattle.labelled_trees.specs.Contexts.{Ctx, hole, inside, fill, graft_ctx}
use Rattle.labelled_trees.specs.Unions.{union}
use Rattle.labelled_trees.specs.Leaves.{AllLeaves, occurs}
use Rattle.labelled_trees.proofs.Grafts.{graft_assoc}
use Rattle.labelled_trees.proofs.Contexts.{graft-fill}
use Rattle.shuffle_insertions.specs.ShuffleTrees.{IsShuffle}
use Rattle.shuffle_insertions.specs.Slots.{PartsRise}
use Rattle.shuffle_insertions.proofs.LabelSums.{once_of}
use Rattle.shuffle_places.specs.Cuts.{numbers, start}
use Rattle.shuffle_places.specs.Multiples.{IsOverlap}
use Rattle.shuffle_places.specs.Places.{IsPlace}
use Rattle.shuffle_places.proofs.Covers.{self, union_covers, numbers_fill, ctx_covers, root_mem}
use Rattle.shuffle_places.proofs.Frames.{numbers-graft, cut_of_slot}
use Rattle.shuffle_places.proofs.Places.{place_of_cut}
use Rattle.shuffle_places.proofs.Vertices.{In}

-- The tree a with the parts f at its leaves, of which the subtree at the vertex after `front` is b with the parts s;
-- the two patterns have all vertices there, and beside it the parts are leaves.
module _ (n m k : ℕ) (a b : Tree ℕ) (f s : ℕ → Tree ℕ) (front : Ctx ℕ) (part : Tree ℕ) (valid_a : IsShuffle m a) (valid_b : IsShuffle k b) (node_b : IsNode b)
    (a_is : a ≡ fill front part) (shares : IsNode part) (rise_f : PartsRise m f) (rise_s : PartsRise k s) (valid : IsShuffle n (graft a f)) (meet : graft part f ≡ graft b s)
    (all_leaves : AllLeaves (union (graft part (λ i. leaf (f i))) (graft b (λ i. leaf (s i)))) IsLeaf) (bare : (i : ℕ) → occurs i part ≡ 0 → IsLeaf (f i)) where
  first_set : numbers f 1 a ≡ numbers f 1 (fill front part)
  first_set = ap (numbers f 1) a_is

  whole : graft a f ≡ graft (fill front part) f
  whole = ap (λ x. graft x f) a_is

  host_is : graft a f ≡ fill (graft_ctx front f) (graft b s)
  host_is = whole ∙ graft-fill front part f ∙ ap (fill (graft_ctx front f)) meet

  covered : (v : ℕ) → Mem v (numbers f 1 (fill front part)) ⊎ In v (start 1 (graft_ctx front f)) (vertices (graft part f))
      → Mem v (numbers f 1 a) ⊎ Mem v (numbers s (start 1 (graft_ctx front f)) b)
  covered v (inl h) = inl (subst (Mem v) (sym first_set) h)
  covered v (inr h) = either (union_covers (graft part (λ i. leaf (f i))) (graft b (λ i. leaf (s i))) (start 1 (graft_ctx front f)) v
      (graft_assoc part (λ i. leaf (f i)) self ∙ meet ∙ sym (graft_assoc b (λ i. leaf (s i)) self)) all_leaves
      (subst (λ x. In v (start 1 (graft_ctx front f)) (vertices x)) (sym (graft_assoc part (λ i. leaf (f i)) self)) h))
    where
      either : Mem v (numbers self (start 1 (graft_ctx front f)) (graft part (λ i. leaf (f i)))) ⊎ Mem v (numbers self (start 1 (graft_ctx front f)) (graft b (λ i. leaf (s i))))
          → Mem v (numbers f 1 a) ⊎ Mem v (numbers s (start 1 (graft_ctx front f)) b)
      either (inl g) = inl (subst (Mem v) (sym first_set) (numbers_fill f 1 front part v (subst (Mem v) (numbers-graft part f self (start 1 (graft_ctx front f))) g)))
      either (inr g) = inr (subst (Mem v) (numbers-graft b s self (start 1 (graft_ctx front f))) g)

  node_a : (c : Ctx ℕ) (x : Tree ℕ) → IsNode x → IsNode (fill c x)
  node_a hole x n = n
  node_a (inside l c) x n = tt

  pub overlap_of_parts : IsOverlap n a b (graft a f) (numbers f 1 a) (numbers s (start 1 (graft_ctx front f)) b)
  overlap_of_parts = record {
    valid = valid;
    first_at = place_of_cut (graft a f) (numbers f 1 a) a
        (cut_of_slot m (record { context = hole; parts = f }) a valid_a rise_f (subst IsNode (sym a_is) (node_a front part shares)));
    second_at = subst (λ x. IsPlace x (numbers s (start 1 (graft_ctx front f)) b) b) (sym host_is)
        (place_of_cut (fill (graft_ctx front f) (graft b s)) (numbers s (start 1 (graft_ctx front f)) b) b
        (cut_of_slot k (record { context = graft_ctx front f; parts = s }) b valid_b rise_s node_b));
    shared = (
      start 1 (graft_ctx front f),
      subst (Mem (start 1 (graft_ctx front f))) (sym first_set)
          (numbers_fill f 1 front part (start 1 (graft_ctx front f)) (root_mem f (start 1 (graft_ctx front f)) part shares)),
      root_mem s (start 1 (graft_ctx front f)) b node_b,
    );
    covers = λ v p le. covered v (ctx_covers f 1 front part v (λ i. subst (λ x. occurs i x ≤ 1) a_is (once_of m a valid_a i)) bare
        (let e : vertices (graft a f) ≡ vertices (graft (fill front part) f) = ap vertices whole in omega (arith, p, le, e)));
  }
