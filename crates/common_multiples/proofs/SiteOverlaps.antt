-- What is listed where one tree is laid over another at a vertex: exactly the overlaps there, each once.
use Rattle.std.proofs.Common.{◌≡◌, ℕ, ◌+◌, ◌<◌, ◌≤◌, List, [], ◌∷◌, map, length, refl, sym, ◌∙◌, ap, arith, subst, inl, inr, ◌⊎◌, Bool}
use Rattle.std.specs.Prelude.{slice_index}
use mathlib.Core.Path.{ap₂}
use Rattle.modular_sums.specs.Lists.{Mem, Distinct}
use Rattle.modular_sums.proofs.Lists.{mem_map, mem_of_map}
use Rattle.labelled_trees.specs.Trees.{Tree, leaf, graft, leaves, IsNode, vertices}
use Rattle.labelled_trees.specs.Leaves.{leaf_count, occurs, times}
use native.Mathlib.Decide.{ℕ_discrete}
use Rattle.labelled_trees.specs.Contexts.{fill}
use Rattle.labelled_trees.specs.Unions.{union}
use Rattle.labelled_trees.proofs.GraftLeaves.{agree as leaves_agree, graft_ext}
use Rattle.labelled_trees.proofs.Leaves.{at_leaf, by_leaf}
use Rattle.labelled_trees.proofs.Permutations.{times-leaves}
use Rattle.shuffle_insertions.specs.ShuffleTrees.{IsShuffle}
use Rattle.shuffle_insertions.specs.Listing.{upto}
use Rattle.shuffle_insertions.proofs.Counted.{mem_times, times_mem}
use Rattle.shuffle_insertions.proofs.Upto.{in_upto, upto_mem}
use Rattle.shuffle_insertions.proofs.LabelSums.{once_of}
use Rattle.shuffle_places.specs.AllPlaces.{lay}
use Rattle.shuffle_places.specs.Cuts.{start}
use Rattle.shuffle_places.specs.Multiples.{IsOverlap}
use Rattle.shuffle_places.proofs.PatternSets.{start_in}
use Rattle.shuffle_places.specs.Overlays.{shape}
use Rattle.shuffle_trees.specs.ValidTrees.{IsValid, IsWide}
use Rattle.shuffle_trees.proofs.Counts.{fewer_vertices, count_of_shuffle}
use Rattle.tree_divisors.specs.Laying.{Covers, IsLaid, numbers_at}
use Rattle.common_multiples.specs.Building.{numbered, over_at}
use Rattle.common_multiples.specs.Listing.{AreOverlapsAt, IsInverse, IsOneToOne, multiple_with}
use Rattle.common_multiples.specs.Merging.{Chains, AreChains, merges, assigned}
use Rattle.common_multiples.specs.Overlaying.{Agree, Begins, IsOverlay, StandsAt, laid_over}
use Rattle.common_multiples.specs.declared.families.Multiple.{Multiple}
use Rattle.common_multiples.proofs.FromOverlaps.{agrees, numbered_from}
use Rattle.common_multiples.proofs.LaidOver.{over_at_laid, laid_leaves, laid_wide}
use Rattle.common_multiples.proofs.Merged.{merged_number, number_merged, merges_once, merged_apart}
use Rattle.common_multiples.proofs.NumberedShapes.{numbered_shape, numbered_leaves, numbered_named}
use Rattle.common_multiples.proofs.Numbering.{leaf_count-shape}
use Rattle.common_multiples.proofs.OverlayPatterns.{pattern_lies, begins_among}
use Rattle.common_multiples.proofs.OverlaidPlaces.{first_in, second_in, first_apart, second_apart, each_leaf, first_begins, second_begins, numbered_overlap}

-- a wide tree with the leaves 1 to n is a tree of the program
pub valid_of_shuffle : (n : ℕ) (t : Tree ℕ) → n < 256 → IsWide t → IsShuffle n t → IsValid t
valid_of_shuffle n t small wide h = record {
  wide = wide;
  rising = h.rising;
  once = once_of n t h;
  only = λ i o. let r = h.only i o in (r.0, omega (arith, r.1, small));
}

module _ (n m k v : ℕ) (a b : Tree ℕ) (turned : Bool) (valid_a : IsShuffle m a) (valid_b : IsShuffle k b) (node_b : IsNode b) (x : Tree ℕ) (stands : StandsAt 1 v a x) where
  at_vertex : (w : ℕ) (l : List ℕ) → w ≡ v → Begins w l → Begins (start 1 stands.context) l
  at_vertex w l e h = subst (λ u. Begins u l) (e ∙ sym stands.number) h

  -- where labels differ, there is no overlap
  pub none_where_apart : (Agree x b → ⊥) → AreOverlapsAt n a b v turned []
  none_where_apart apart = record {
    only = λ y h. absurd h;
    each = λ tree host guest w o root e top. absurd (apart (agrees n a b stands.context x stands.is stands.is_node tree host guest o (root_in root) (at_vertex w guest e top)).0);
    once = tt;
  }
    where
      root_in : {l : List ℕ} → Begins 1 l → Mem 1 l
      root_in h = subst (Mem 1) (sym h.1) (inl refl)

  -- nor where the number of leaves isn't the arity
  pub none_of_arity : (count : ℕ) → count ≡ leaf_count (union (shape x) (shape b)) → (m + count ≡ n + leaf_count x → ⊥) → AreOverlapsAt n a b v turned []
  none_of_arity count is other = record {
    only = λ y h. absurd h;
    each = λ tree host guest w o root e top.
        let fits = (agrees n a b stands.context x stands.is stands.is_node tree host guest o (subst (Mem 1) (sym root.1) (inl refl)) (at_vertex w guest e top)).1 in
        let sum = laid_leaves stands.context x b in
        let whole : leaf_count (fill stands.context x) ≡ m = ap leaf_count (sym stands.is) ∙ count_of_shuffle m a valid_a in
        absurd (other (omega (arith, fits, sum, whole, is)));
    once = tt;
  }

-- ---- numbered trees of one shape

pub numbered_agree : (f g : ℕ → ℕ) (n : ℕ) (s : Tree (Unit {0})) → leaf_count s ≡ n → ((z : ℕ) → 0 < z → z ≤ n → f z ≡ g z) → numbered f 0 s ≡ numbered g 0 s
numbered_agree f g n s e h =
    sym (numbered_named f 0 s)
    ∙ graft_ext (numbered (λ i. i) 0 s) (λ i. leaf (f i)) (λ i. leaf (g i))
    (by_leaf (numbered (λ i. i) 0 s) (λ i. leaf (f i) ≡ leaf (g i)) (λ i o. let r = among i o in ap leaf (h i r.0 r.1)))
    ∙ numbered_named g 0 s
  where
    among : (i : ℕ) → 0 < occurs i (numbered (λ i. i) 0 s) → (0 < i) × (i ≤ n)
    among i o = upto_mem n i (times_mem ℕ_discrete i (upto n) (let t = times-leaves i (numbered (λ i. i) 0 s) in let q : leaves (numbered (λ i. i) 0 s) ≡ upto n = numbered_leaves s ∙ ap upto e in
        subst (λ l. 0 < times ℕ_discrete i l) q (omega (arith, t, o))))

agree_numbered : (f g : ℕ → ℕ) (n : ℕ) (s : Tree (Unit {0})) → leaf_count s ≡ n → numbered f 0 s ≡ numbered g 0 s → (z : ℕ) → 0 < z → z ≤ n → f z ≡ g z
agree_numbered f g n s e h z p le =
    at_leaf (numbered (λ i. i) 0 s) (λ i. f i ≡ g i) z
    (leaves_agree (numbered (λ i. i) 0 s) f g (numbered_named f 0 s ∙ h ∙ sym (numbered_named g 0 s)))
    (let t = times-leaves z (numbered (λ i. i) 0 s) in
    let q : leaves (numbered (λ i. i) 0 s) ≡ upto n = numbered_leaves s ∙ ap upto e in
    let m : 0 < times ℕ_discrete z (leaves (numbered (λ i. i) 0 s)) = subst (λ l. 0 < times ℕ_discrete z l) (sym q) (mem_times ℕ_discrete z (upto n) (in_upto n z p le)) in
    omega (arith, t, m))

-- what is distinct stays so where no two give the same
distinct_map : {X Y : Type 0} (f : X → Y) (l : List X) → ((s r : X) → Mem s l → Mem r l → f s ≡ f r → s ≡ r) → Distinct l → Distinct (map f l)
distinct_map f [] h d = tt
distinct_map f (s ∷ l) h d = (
  λ m. let r = mem_of_map f (f s) l m in d.0 (subst (λ u. Mem u l) (sym (h s r.0 (inl refl) (inr r.1) r.2)) r.1),
  distinct_map f l (λ u w p q. h u w (inr p) (inr q)) d.1,
)

module _ (n m k v : ℕ) (a b : Tree ℕ) (turned : Bool) (valid_a : IsShuffle m a) (valid_b : IsShuffle k b) (node_b : IsNode b) (well_a : IsValid a) (well_b : IsValid b) (small : n < 256)
    (x : Tree ℕ) (stands : StandsAt 1 v a x) (agree : Agree x b) (arity : leaf_count (over_at 1 v (shape a) (shape b)) ≡ n) where
  laid : over_at 1 v (shape a) (shape b) ≡ laid_over stands.context x b
  laid = over_at_laid 1 v a b stands.context x stands.is stands.is_node stands.number

  -- the overlay whose leaves are 1 to n from left to right
  module _ (tree : Tree ℕ) (plain : tree ≡ numbered (λ i. i) 0 (over_at 1 v (shape a) (shape b))) where
    is_overlay : IsOverlay n stands.context x b tree
    is_overlay = record {
      shape_is = ap shape plain ∙ numbered_shape (λ i. i) 0 (over_at 1 v (shape a) (shape b)) ∙ laid;
      leaves_are = ap leaves plain ∙ numbered_leaves (over_at 1 v (shape a) (shape b)) ∙ ap upto arity;
    }

    wide_of : (t : Tree ℕ) → shape t ≡ over_at 1 v (shape a) (shape b) → IsWide t
    wide_of t e = laid_wide stands.context x b t (subst IsWide stands.is well_a.wide) well_b.wide (e ∙ laid)

    pub few_vertices : 1 + vertices tree < 256
    few_vertices =
        let wide = wide_of tree (ap shape plain ∙ numbered_shape (λ i. i) 0 (over_at 1 v (shape a) (shape b))) in
        let count : leaf_count tree ≡ n = sym (leaf_count-shape tree) ∙ ap leaf_count (ap shape plain ∙ numbered_shape (λ i. i) 0 (over_at 1 v (shape a) (shape b))) ∙ arity in
        omega (arith, fewer_vertices tree wide, count, small)

    pub host_lies : Covers a tree
    host_lies = (pattern_lies n m k a b valid_a valid_b node_b stands.context x stands.is stands.is_node agree tree is_overlay).0

    pub has_vertex : v < 1 + vertices tree
    has_vertex =
        let e = stands.number in
        omega (arith, begins_among n m k a b valid_a valid_b node_b stands.context x stands.is stands.is_node agree tree is_overlay, e)

    module _ (inner : Tree ℕ) (at : StandsAt 1 v tree inner) where
      inside : StandsAt 1 (start 1 stands.context) tree inner
      inside = subst (λ w. StandsAt 1 w tree inner) (sym stands.number) at

      pub guest_lies : Covers b inner
      guest_lies = (pattern_lies n m k a b valid_a valid_b node_b stands.context x stands.is stands.is_node agree tree is_overlay).1 inner inside

      pub few_inside : v + vertices inner < 256
      few_inside =
          let i = start_in 1 at.context inner in
          let e : vertices tree ≡ vertices (fill at.context inner) = ap vertices at.is in
          let s = at.number in
          omega (arith, i.1, e, s, few_vertices)

      module _ (before first before' second : List ℕ) (laid_a : IsLaid before first a tree) (laid_b : IsLaid before' second b inner) where
        pub first_once : IsOneToOne m (slice_index first)
        first_once = first_apart n m k a b valid_a valid_b node_b stands.context x stands.is stands.is_node agree tree is_overlay inner inside before first before' second laid_a laid_b

        pub second_once : IsOneToOne k (slice_index second)
        second_once = second_apart n m k a b valid_a valid_b node_b stands.context x stands.is stands.is_node agree tree is_overlay inner inside before first before' second laid_a laid_b

        module _ (on_first on_second : ℕ → ℕ) (back_first : IsInverse m (slice_index first) on_first) (back_second : IsInverse k (slice_index second) on_second) where
          abbrev chains : Chains
          chains = record { first = slice_index first; second = slice_index second; on_first = on_first; on_second = on_second; m = m; k = k }

          are_chains : AreChains chains n
          are_chains = record {
            first_in = first_in n m k a b valid_a valid_b node_b stands.context x stands.is stands.is_node agree tree is_overlay inner inside before first before' second laid_a laid_b;
            first_back = back_first.each;
            first_there = λ z p le q. back_first.only z q;
            second_in = second_in n m k a b valid_a valid_b node_b stands.context x stands.is stands.is_node agree tree is_overlay inner inside before first before' second laid_a laid_b;
            second_back = back_second.each;
            second_there = λ z p le q. back_second.only z q;
            each = λ z p le. on_one z (each_leaf n m k a b valid_a valid_b node_b stands.context x stands.is stands.is_node agree tree is_overlay inner inside before first before' second laid_a laid_b z p le);
          }
            where
              on_one : (z : ℕ) → ((i : ℕ) × (0 < i) × (i ≤ m) × (slice_index first i ≡ z)) ⊎ ((j : ℕ) × (0 < j) × (j ≤ k) × (slice_index second j ≡ z)) → (0 < on_first z) ⊎ (0 < on_second z)
              on_one z (inl h) = let e : on_first z ≡ h.0 = ap on_first (sym h.3) ∙ back_first.each h.0 h.1 h.2 in inl (omega (arith, e, h.1))
              on_one z (inr h) = let e : on_second z ≡ h.0 = ap on_second (sym h.3) ∙ back_second.each h.0 h.1 h.2 in inr (omega (arith, e, h.1))

          module _ (table : List ℕ) (long : length table ≡ 256) where
            room : n < length table
            room = omega (arith, long, small)

            named : (number : ℕ → ℕ) → graft tree (λ i. leaf (number i)) ≡ numbered number 0 (over_at 1 v (shape a) (shape b))
            named number = ap (λ t. graft t (λ i. leaf (number i))) plain ∙ numbered_named number 0 (over_at 1 v (shape a) (shape b))

            -- each sequence of merged leaves makes an overlap
            overlap : (s : List ℕ) → Mem s (merges chains n 1 1)
                → IsOverlap n a b (numbered (slice_index (assigned s 1 table)) 0 (over_at 1 v (shape a) (shape b))) (numbers_at 1 (lay a tree)) (numbers_at v (lay b inner))
            overlap s h =
                let r = merged_number chains n s table are_chains room h in
                subst (λ t. IsOverlap n a b t (numbers_at 1 (lay a tree)) (numbers_at v (lay b inner))) (named (slice_index (assigned s 1 table)))
                (subst (λ w. IsOverlap n a b (graft tree (λ i. leaf (slice_index (assigned s 1 table) i))) (numbers_at 1 (lay a tree)) (numbers_at w (lay b inner))) stands.number
                (numbered_overlap n m k a b valid_a valid_b node_b stands.context x stands.is stands.is_node agree tree is_overlay inner inside before first before' second laid_a laid_b
                (slice_index (assigned s 1 table)) r.first_rise r.second_rise r.into r.onto r.apart))

            pub valid_tree : (s : List ℕ) → Mem s (merges chains n 1 1) → IsValid (numbered (slice_index (assigned s 1 table)) 0 (over_at 1 v (shape a) (shape b)))
            valid_tree s h = valid_of_shuffle n (numbered (slice_index (assigned s 1 table)) 0 (over_at 1 v (shape a) (shape b))) small
                (wide_of (numbered (slice_index (assigned s 1 table)) 0 (over_at 1 v (shape a) (shape b))) (numbered_shape (slice_index (assigned s 1 table)) 0 (over_at 1 v (shape a) (shape b))))
                (overlap s h).valid

            abbrev listed : List ℕ → Multiple
            listed s = multiple_with turned (numbered (slice_index (assigned s 1 table)) 0 (over_at 1 v (shape a) (shape b))) (numbers_at 1 (lay a tree)) (numbers_at v (lay b inner))

            -- and the other way round
            some_sequence : (t : Tree ℕ) (host guest : List ℕ) → IsOverlap n a b t host guest → Begins 1 host → Begins v guest
                → (s : List ℕ) × Mem s (merges chains n 1 1) × (multiple_with turned t host guest ≡ listed s)
            some_sequence t host guest o root top =
                let r = numbered_from n m k a b valid_a valid_b stands.context x stands.is stands.is_node tree is_overlay inner inside before first before' second laid_a laid_b t host guest o
                (subst (Mem 1) (sym root.1) (inl refl)) (subst (λ w. Begins w guest) (sym stands.number) top) in
                let q = number_merged chains n r.number table are_chains room record { first_rise = r.rise_first; second_rise = r.rise_second; into = r.into; onto = r.onto; apart = r.apart } in
                let e : t ≡ numbered (slice_index (assigned q.0 1 table)) 0 (over_at 1 v (shape a) (shape b))
                = r.host_is ∙ named r.number ∙ numbered_agree r.number (slice_index (assigned q.0 1 table)) n (over_at 1 v (shape a) (shape b)) arity (λ z p le. sym (q.2 z p le)) in (
                  q.0,
                  q.1,
                  ap (λ u. multiple_with turned u host guest) e
                      ∙ ap₂ (multiple_with turned (numbered (slice_index (assigned q.0 1 table)) 0 (over_at 1 v (shape a) (shape b)))) r.first_is (r.second_is ∙ ap (λ w. numbers_at w (lay b inner)) stands.number),
                )

            pub all_overlaps : AreOverlapsAt n a b v turned (map listed (merges chains n 1 1))
            all_overlaps = record {
              only = λ y h.
                  let r = mem_of_map listed y (merges chains n 1 1) h in
                  let e : y.tree ≡ numbered (slice_index (assigned r.0 1 table)) 0 (over_at 1 v (shape a) (shape b)) = ap (λ (z : Multiple). z.tree) r.2 in (
                    numbers_at 1 (lay a tree),
                    numbers_at v (lay b inner),
                    r.2 ∙ ap (λ u. multiple_with turned u (numbers_at 1 (lay a tree)) (numbers_at v (lay b inner))) (sym e),
                    subst (λ u. IsOverlap n a b u (numbers_at 1 (lay a tree)) (numbers_at v (lay b inner))) (sym e) (overlap r.0 r.1),
                    first_begins n m k a b valid_a valid_b node_b stands.context x stands.is stands.is_node agree tree is_overlay inner inside before first before' second laid_a laid_b,
                    (
                      v,
                      refl,
                      subst (λ w. Begins w (numbers_at w (lay b inner))) stands.number
                          (second_begins n m k a b valid_a valid_b node_b stands.context x stands.is stands.is_node agree tree is_overlay inner inside before first before' second laid_a laid_b),
                    ),
                  );
              each = λ t host guest w o root e top.
                  let r = some_sequence t host guest o root (subst (λ u. Begins u guest) e top) in
                  subst (λ y. Mem y (map listed (merges chains n 1 1))) (sym r.2) (mem_map listed r.0 (merges chains n 1 1) r.1);
              once = distinct_map listed (merges chains n 1 1)
                  (λ s r p q e. merged_apart chains n s r table are_chains room p q
                  (agree_numbered (slice_index (assigned s 1 table)) (slice_index (assigned r 1 table)) n (over_at 1 v (shape a) (shape b)) arity (ap (λ (z : Multiple). z.tree) e)))
                  (merges_once chains n are_chains);
            }
