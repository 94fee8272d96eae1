-- Lists of overlaps put together: vertex by vertex, and the two families of all small common multiples.
use Rattle.std.proofs.Common.{◌≡◌, ℕ, ◌+◌, ◌<◌, ◌≤◌, List, [], refl, sym, ◌∙◌, ap, arith, subst, inl, inr, ◌⊎◌, Bool, true, false}
use mathlib.Core.List.{◌++◌}
use native.Mathlib.Decide.{dec_lt}
use Rattle.std.specs.declared.cmp.Ordering.TheVariants.{Equal}
use Rattle.modular_sums.specs.Lists.{Mem, has}
use Rattle.modular_sums.proofs.Lists.{Distinct-append, mem_left, mem_right, mem_either, has_mem, mem_has}
use Rattle.labelled_trees.specs.Trees.{Tree, leaf, node, IsNode, vertices}
use Rattle.operad_ideals.specs.SpellingOrder.{order}
use Rattle.operad_ideals.proofs.TreeOrder.{order_is_total}
use Rattle.shuffle_places.specs.Multiples.{IsOverlap, IsMultiple}
use Rattle.shuffle_places.proofs.Overlays.{turned}
use Rattle.shuffle_places.proofs.Frames.{slot_at}
use Rattle.shuffle_places.proofs.Places.{cut_of_place}
use Rattle.common_multiples.specs.Listing.{AreOverlapsWhere, AreOverlapsAt, AreOverlapsFrom, AreAllMultiples, multiple_with}
use Rattle.common_multiples.specs.Overlaying.{Begins}
use Rattle.common_multiples.specs.declared.families.Multiple.{Multiple}
use Rattle.common_multiples.proofs.FromOverlaps.{root_begins, some_vertex, not_root, less_is_root_first, root_first_is_less, one_start}

begins_in : (v : ℕ) (l : List ℕ) → Begins v l → Mem v l
begins_in v l h = subst (Mem v) (sym h.1) (inl refl)

abbrev guest_of : Bool → Multiple → List ℕ
guest_of true y = y.first
guest_of false y = y.second

guest_is : (t : Bool) (tree : Tree ℕ) (host guest : List ℕ) → guest_of t (multiple_with t tree host guest) ≡ guest
guest_is true tree host guest = refl
guest_is false tree host guest = refl

-- no overlap is at two vertices
one_vertex_each : (t : Bool) (y : Multiple) (host guest host' guest' : List ℕ) (v w : ℕ) → y ≡ multiple_with t y.tree host guest → y ≡ multiple_with t y.tree host' guest' → Begins v guest → Begins w guest' → v ≡ w
one_vertex_each t y host guest host' guest' v w e f p q =
    let same : guest ≡ guest' = sym (guest_is t y.tree host guest) ∙ ap (guest_of t) (sym e ∙ f) ∙ guest_is t y.tree host' guest' in
    one_start v w guest' (subst (Begins v) same p) q

module _ (n : ℕ) (a b : Tree ℕ) (t : Bool) where
  -- those at the vertices from one to another
  abbrev pub Between : ℕ → ℕ → List Multiple → Type 0
  Between from to = AreOverlapsWhere (λ v. (from ≤ v) × (v < to)) n a b t

  pub none_yet : (from to : ℕ) → to ≤ from → Between from to []
  none_yet from to le = record {
    only = λ y m. absurd m;
    each = λ tree host guest v o root p top. absurd (omega (arith, p.0, p.1, le));
    once = tt;
  }

  pub one_more : (from at : ℕ) (l more : List Multiple) → from ≤ at → Between from at l → AreOverlapsAt n a b at t more → Between from (at + 1) (l ++ more)
  one_more from at l more le h g = record {
    only = λ y m. only y (mem_either y l more m);
    each = λ tree host guest v o root p top. each tree host guest v o root p top (dec_lt v at);
    once = Distinct-append l more h.once g.once (λ y p q.
        let c = h.only y p in
        let d = g.only y q in
        let e = one_vertex_each t y c.0 c.1 d.0 d.1 c.5.0 d.5.0 c.2 d.2 c.5.2 d.5.2 in
        let at_is = d.5.1 in
        let below = c.5.1.1 in
        absurd (omega (arith, below, e, at_is)));
  }
    where
      only : (y : Multiple) → Mem y l ⊎ Mem y more → (host guest : List ℕ) × (y ≡ multiple_with t y.tree host guest) × IsOverlap n a b y.tree host guest × Begins 1 host
          × ((v : ℕ) × ((from ≤ v) × (v < at + 1)) × Begins v guest)
      only y (inl m) = let c = h.only y m in (c.0, c.1, c.2, c.3, c.4, (c.5.0, (c.5.1.0, (let b = c.5.1.1 in omega (arith, b))), c.5.2))
      only y (inr m) = let c = g.only y m in (c.0, c.1, c.2, c.3, c.4, (c.5.0, (let e = c.5.1 in (omega (arith, e, le), omega (arith, e))), c.5.2))

      each : (tree : Tree ℕ) (host guest : List ℕ) (v : ℕ) → IsOverlap n a b tree host guest → Begins 1 host → (from ≤ v) × (v < at + 1) → Begins v guest → Dec (v < at)
          → Mem (multiple_with t tree host guest) (l ++ more)
      each tree host guest v o root p top (yes lt) = mem_left (multiple_with t tree host guest) l more (h.each tree host guest v o root (p.0, lt) top)
      each tree host guest v o root p top (no ge) = mem_right (multiple_with t tree host guest) l more (g.each tree host guest v o root (omega (arith, ge, p.1)) top)

  -- there are no others
  pub all_from : (from to : ℕ) (l : List Multiple) → vertices a < to → Between from to l → AreOverlapsFrom n a b from t l
  all_from from to l lt h = record {
    only = λ y m. let c = h.only y m in (c.0, c.1, c.2, c.3, c.4, (c.5.0, c.5.1.0, c.5.2));
    each = λ tree host guest v o root p top.
        let s = some_vertex n a b tree host guest o (begins_in 1 host root) in
        let e = one_start v s.0 guest top s.3 in
        h.each tree host guest v o root (p, omega (arith, e, s.2, lt)) top;
    once = h.once;
  }

-- where the two trees are one, the second place begins below the root
pub of_one_tree : (n : ℕ) (a b : Tree ℕ) (l : List Multiple) → a ≡ b → AreOverlapsFrom n a b 2 false l → AreAllMultiples n a b l
of_one_tree n a b l e = subst (λ z. AreOverlapsFrom n a z 2 false l → AreAllMultiples n a z l) e (λ h. record {
  only = λ y m.
      let c = h.only y m in
      let first : y.first ≡ c.0 = ap (λ (z : Multiple). z.first) c.2 in
      let second : y.second ≡ c.1 = ap (λ (z : Multiple). z.second) c.2 in
      let o : IsOverlap n a a y.tree y.first y.second = subst (λ k. IsOverlap n a a y.tree y.first k) (sym second) (subst (λ k. IsOverlap n a a y.tree k c.1) (sym first) c.3) in
      record {
        overlap = o;
        ordered = λ _. root_first_is_less n a y.tree y.first y.second o (begins_in 1 y.first (subst (Begins 1) (sym first) c.4)) c.5.0 (let k = c.5.1 in omega (arith, k)) (subst (Begins c.5.0) (sym second) c.5.2);
      };
  each = λ tree first second o.
      let r = less_is_root_first n a tree first second o.overlap (o.ordered refl) in
      h.each tree first second r.1.0 o.overlap (root_begins n a a tree first second o.overlap r.0) (let k = r.1.1 in omega (arith, k)) r.1.2;
  once = h.once;
})

-- Where they differ, either place may have the root: those where the first has it, and those where the second alone has it.
pub of_two_trees : (n : ℕ) (a b : Tree ℕ) (l more : List Multiple) → (a ≡ b → ⊥) → AreOverlapsFrom n a b 1 false l → AreOverlapsFrom n b a 2 true more → AreAllMultiples n a b (l ++ more)
of_two_trees n a b l more apart h g = record {
  only = λ y m. only y (mem_either y l more m);
  each = λ tree first second o. each tree first second o.overlap (has first 1) refl;
  once = Distinct-append l more h.once g.once (λ y p q.
      let c = h.only y p in
      let d = g.only y q in
      let same : c.0 ≡ d.1 = sym (ap (λ (z : Multiple). z.first) c.2) ∙ ap (λ (z : Multiple). z.first) d.2 in
      let e = one_start 1 d.5.0 d.1 (subst (Begins 1) same c.4) d.5.2 in
      let low = d.5.1 in
      absurd (omega (arith, e, low)));
}
  where
    only : (y : Multiple) → Mem y l ⊎ Mem y more → IsMultiple n a b y.tree y.first y.second
    only y (inl m) =
        let c = h.only y m in
        let first : y.first ≡ c.0 = ap (λ (z : Multiple). z.first) c.2 in
        let second : y.second ≡ c.1 = ap (λ (z : Multiple). z.second) c.2 in
        record {
          overlap = subst (λ k. IsOverlap n a b y.tree y.first k) (sym second) (subst (λ k. IsOverlap n a b y.tree k c.1) (sym first) c.3);
          ordered = λ e. absurd (apart e);
        }
    only y (inr m) =
        let c = g.only y m in
        let first : y.first ≡ c.1 = ap (λ (z : Multiple). z.first) c.2 in
        let second : y.second ≡ c.0 = ap (λ (z : Multiple). z.second) c.2 in
        record {
          overlap = subst (λ k. IsOverlap n a b y.tree y.first k) (sym second) (subst (λ k. IsOverlap n a b y.tree k c.0) (sym first) (turned n b a y.tree c.0 c.1 c.3));
          ordered = λ e. absurd (apart e);
        }

    by_first : (tree : Tree ℕ) (first second : List ℕ) → IsOverlap n a b tree first second → Mem 1 first → Mem (multiple_with false tree first second) (l ++ more)
    by_first tree first second o root =
        let s = some_vertex n a b tree first second o root in
        mem_left (multiple_with false tree first second) l more (h.each tree first second s.0 o (root_begins n a b tree first second o root) s.1 s.3)

    by_second : (tree : Tree ℕ) (first second : List ℕ) → IsOverlap n a b tree first second → (Mem 1 first → ⊥) → Mem (multiple_with true tree second first) (l ++ more)
    by_second tree first second o other =
        let r = not_root n a b tree first second o other in
        let back = turned n a b tree first second o in
        mem_right (multiple_with true tree second first) l more
        (g.each tree second first r.1.0 back (root_begins n b a tree second first back r.0) r.1.1 r.1.3)

    each : (tree : Tree ℕ) (first second : List ℕ) → IsOverlap n a b tree first second → (c : Bool) → has first 1 ≡ c → Mem (record { tree = tree; first = first; second = second }) (l ++ more)
    each tree first second o true e = by_first tree first second o (has_mem first 1 e)
    each tree first second o false e = by_second tree first second o (λ m. let k = mem_has first 1 m in let wrong : true ≡ false = sym k ∙ e in cc)

-- trees that compare as equal are one, and others aren't
pub same_tree : (a b : Tree ℕ) → order a b ≡ Equal → a ≡ b
same_tree a b e = (order_is_total.equal a b).0 e

pub other_tree : (a b : Tree ℕ) → (order a b ≡ Equal → ⊥) → a ≡ b → ⊥
other_tree a b f e = f ((order_is_total.equal a b).1 e)

-- ---- a leaf alone

pub node_of_vertex : (t : Tree ℕ) → (vertices t ≡ 0 → ⊥) → IsNode t
node_of_vertex (leaf i) h = h refl
node_of_vertex (node l r) h = tt

no_vertex : (t : Tree ℕ) → vertices t ≡ 0 → IsNode t → ⊥
no_vertex (leaf i) e h = h
no_vertex (node l r) e h = absurd (omega (arith, e))

-- it is the divisor at no place, so it has no multiples
pub none_of_first : (n : ℕ) (a b : Tree ℕ) → vertices a ≡ 0 → AreAllMultiples n a b []
none_of_first n a b e = record {
  only = λ y m. absurd m;
  each = λ tree first second o. absurd (no_vertex a e (slot_at n tree o.overlap.valid first a (cut_of_place tree first a o.overlap.first_at)).is_node);
  once = tt;
}

pub none_of_second : (n : ℕ) (a b : Tree ℕ) → vertices b ≡ 0 → AreAllMultiples n a b []
none_of_second n a b e = record {
  only = λ y m. absurd m;
  each = λ tree first second o. absurd (no_vertex b e (slot_at n tree o.overlap.valid second b (cut_of_place tree second b o.overlap.second_at)).is_node);
  once = tt;
}
