-- The list of all shuffle trees has each of them once, and no others.
use Rattle.std.proofs.Common.{◌≡◌, ◌≢◌, ℕ, zero, suc, ◌+◌, ◌-◌, ◌*◌, ◌<◌, ◌≤◌, List, [], ◌∷◌, map, refl, sym, ◌∙◌, ap, arith, subst, inl, inr, ◌⊎◌}
use mathlib.Core.Path.{ap₂}
use native.Mathlib.Decide.{ℕ_discrete, dec_lt}
use Rattle.labelled_trees.specs.Trees.{Tree, Row, leaf, node, none, more, vertices, vertices_row, width}
use Rattle.shuffle_insertions.specs.ShuffleTrees.{IsShuffleTree, least, least_row, IsRising, IsRisingRow, IsBefore, HasInput, IsShuffle}
use Rattle.labelled_trees.specs.Leaves.{times, one_if, occurs, occurs_row, sum_leaves, sum_row}
use Rattle.labelled_trees.specs.Labelled.{Fits, FitsRow}
use Rattle.modular_sums.specs.Lists.{Mem, Rises}
use Rattle.shuffle_insertions.specs.Labels.{AreLabels}
use Rattle.shuffle_insertions.specs.Listing.{joined_below, each_with_each, rows, lone, shuffles, upto, all_trees, IsListing}
use Rattle.labelled_trees.proofs.Leaves.{by_leaf, at_row, one_if-no, one_if-yes}
use Rattle.labelled_trees.specs.RangeSums.{range_sum}
use Rattle.labelled_trees.proofs.RangeSums.{range_sum-none, range_sum-one, range_sum-past, range_sum_ext, by_counts}
use Rattle.shuffle_insertions.proofs.Rising.{least-occurs, least_row-le}
use Rattle.modular_sums.proofs.Lists.{tail_same}
use Rattle.shuffle_insertions.proofs.Splits.{Split, count, split_count, mem_left_split, mem_right_split, left_rises, right_rises, times-splits, times-below, sum_zero, sum_some, sum_one}
use Rattle.shuffle_insertions.proofs.LabelSums.{once_of}
use Rattle.shuffle_insertions.proofs.ListedRows.{zero_times, one_times, lead_occurs, empty_list, times_node, none_each, node_lone, leaf_node, times_each}
use Rattle.shuffle_insertions.proofs.Upto.{upto_rises, upto_count}
use Rattle.shuffle_insertions.proofs.Counted.{distinct_times, times_mem, mem_times}
use Rattle.labelled_trees.proofs.Permutations.{times-append}

-- a tree over the leaf numbers of a list
pub record Good (arity : ℕ → ℕ) (l : List ℕ) (t : Tree ℕ) : Type 0 where
  pub rising : IsRising t
  pub belongs : Fits arity t
  pub counts : (i : ℕ) → occurs i t ≡ count i l
  pub others : List ℕ
  pub first_is : l ≡ least t ∷ others

pub record GoodRow (arity : ℕ → ℕ) (k : ℕ) (l : List ℕ) (r : Row ℕ) : Type 0 where
  pub rising : IsRisingRow r
  pub belongs : FitsRow arity r
  pub counts : (i : ℕ) → occurs_row i r ≡ count i l
  pub inputs_are : width r ≡ k
  pub first : 0 < k → (others : List ℕ) × (l ≡ least_row r ∷ others)

abbrev AllInputs : Row ℕ → (Tree ℕ → Type 0) → Type 0
AllInputs none P = Unit {0}
AllInputs (more t r) P = P t × AllInputs r P

pub has_input : (r : Row ℕ) → 0 < width r → HasInput r
has_input none h = absurd (omega arith)
has_input (more t r) h = tt

pub pos_left : (a b c : ℕ) → c ≡ a * b → 0 < c → 0 < a
pos_left zero b c e h = absurd (let z : 0 * b ≡ 0 = omega arith in omega (arith, e, z))
pos_left (suc a) b c e h = omega arith

pub pos_right : (a b c : ℕ) → c ≡ a * b → 0 < c → 0 < b
pos_right a zero c e h = absurd (let z : a * 0 ≡ 0 = omega arith in omega (arith, e, z))
pos_right a (suc b) c e h = omega arith

-- a rising list with the counts of a rising row begins with the row's least leaf
pub first_of : (l : List ℕ) (r : Row ℕ) → Rises l → IsRisingRow r → HasInput r → ((i : ℕ) → occurs_row i r ≡ count i l) → (others : List ℕ) × (l ≡ least_row r ∷ others)
first_of l none h g n e = absurd n
first_of [] (more t r) h g n e = absurd (omega (arith, e (least t), least-occurs t g.0))
first_of (a ∷ l) (more t r) h g n e =
    let low : least t ≤ a = at_row (more t r) (λ i. least t ≤ i) a (least_row-le (more t r) g) (let c = e a in let o = mem_times ℕ_discrete a (a ∷ l) (inl refl) in omega (arith, c, o)) in
    let high : a ≤ least t = member (times_mem ℕ_discrete (least t) (a ∷ l) (let c = e (least t) in let o = least-occurs t g.0 in omega (arith, c, o))) in
    let same : a ≡ least t = omega arith in
    (l, ap (λ x. x ∷ l) same)
  where
    member : (least t ≡ a) ⊎ Mem (least t) l → a ≤ least t
    member (inl e) = omega arith
    member (inr m) = let k = h.0 (least t) m in omega arith

module _ (labels : ℕ) (arity : ℕ → ℕ) (are : AreLabels labels arity) (dec : Discrete (Tree ℕ)) (decr : Discrete (Row ℕ)) where
  times_leaf : (d n : ℕ) (l : List ℕ) → times dec (leaf n) (shuffles labels arity (suc d) l) ≡ times dec (leaf n) (lone l)
  times_leaf d n l =
      times-append dec (leaf n) (lone l) (joined_below labels (λ g. map (λ r. node g r) (rows (shuffles labels arity d) (arity g) l)))
      ∙ ap (λ m. times dec (leaf n) (lone l) + m) (times-below dec (leaf n) labels (λ g. map (λ r. node g r) (rows (shuffles labels arity d) (arity g) l))
      ∙ range_sum-none labels (λ g. times dec (leaf n) (map (λ r. node g r) (rows (shuffles labels arity d) (arity g) l))) (λ g. leaf_node dec decr n g (rows (shuffles labels arity d) (arity g) l)))
      ∙ let k : times dec (leaf n) (lone l) + 0 ≡ times dec (leaf n) (lone l) = omega arith in k

  times_vertex : (d g : ℕ) (r : Row ℕ) (l : List ℕ) → times dec (node g r) (shuffles labels arity (suc d) l) ≡ range_sum labels (λ h. one_if (ℕ_discrete g h) * times decr r (rows (shuffles labels arity d) (arity h) l))
  times_vertex d g r l =
      times-append dec (node g r) (lone l) (joined_below labels (λ h. map (λ s. node h s) (rows (shuffles labels arity d) (arity h) l)))
      ∙ ap₂ (λ m n. m + n) (node_lone dec decr g r l) (times-below dec (node g r) labels (λ h. map (λ s. node h s) (rows (shuffles labels arity d) (arity h) l))
      ∙ range_sum_ext labels (λ h. times dec (node g r) (map (λ s. node h s) (rows (shuffles labels arity d) (arity h) l))) (λ h. one_if (ℕ_discrete g h) * times decr r (rows (shuffles labels arity d) (arity h) l))
      (λ h. times_node dec decr g r h (rows (shuffles labels arity d) (arity h) l)))
      ∙ let k : 0 + range_sum labels (λ h. one_if (ℕ_discrete g h) * times decr r (rows (shuffles labels arity d) (arity h) l)) ≡ range_sum labels (λ h. one_if (ℕ_discrete g h) * times decr r (rows (shuffles labels arity d) (arity h) l)) = omega arith in k

  module _ (t_of : List ℕ → List (Tree ℕ)) (only : (l : List ℕ) (t : Tree ℕ) → Rises l → 0 < times dec t (t_of l) → Good arity l t) where
    -- the counts of a first input and the rest
    join_good : (k a : ℕ) (l b c : List ℕ) (t : Tree ℕ) (r : Row ℕ) → Rises (a ∷ l) → Split l b c → Good arity (a ∷ b) t → GoodRow arity k c r → GoodRow arity (suc k) (a ∷ l) (more t r)
    join_good k a l b c t r h s g gr =
        let same : a ≡ least t = (tail_same a (least t) b g.others g.first_is).0 in
        record {
          rising = (g.rising, before r gr same, gr.rising);
          belongs = (g.belongs, gr.belongs);
          counts = λ i. omega (arith, g.counts i, gr.counts i, split_count s i);
          inputs_are = ap suc gr.inputs_are;
          first = λ p. (l, ap (λ x. x ∷ l) same);
        }
      where
        before : (r : Row ℕ) → GoodRow arity k c r → a ≡ least t → IsBefore t r
        before none gr e = tt
        before (more u q) gr e =
            let f = gr.first (let i : suc (width q) ≡ k = gr.inputs_are in omega arith) in
            let m = h.0 (least u) (mem_right_split s (least u) (subst (Mem (least u)) (sym f.1) (inl refl))) in
            omega (arith, m, e)

    pub only_rows : (k : ℕ) (l : List ℕ) (r : Row ℕ) → Rises l → 0 < times decr r (rows t_of k l) → GoodRow arity k l r
    only_rows zero [] none h p = record { rising = tt; belongs = tt; counts = λ i. refl; inputs_are = refl; first = λ q. absurd (omega arith) }
    only_rows zero [] (more t r) h p = let e = one_if-no (decr none (more t r)) (λ q. cc q) in absurd (omega (arith, e, p))
    only_rows zero (a ∷ l) r h p = absurd (omega arith)
    only_rows (suc k) [] r h p = absurd (omega arith)
    only_rows (suc k) (a ∷ l) none h p =
        let z = sum_zero l (λ b c. times decr none (each_with_each (t_of (a ∷ b)) (rows t_of k c))) (λ b c s. none_each dec decr (t_of (a ∷ b)) (rows t_of k c)) in
        let e = times-splits decr none l (λ b c. each_with_each (t_of (a ∷ b)) (rows t_of k c)) in
        absurd (omega (arith, z, e, p))
    only_rows (suc k) (a ∷ l) (more t r) h p =
        let e = times-splits decr (more t r) l (λ b c. each_with_each (t_of (a ∷ b)) (rows t_of k c)) in
        let s = sum_some l (λ b c. times decr (more t r) (each_with_each (t_of (a ∷ b)) (rows t_of k c))) (omega (arith, e, p)) in
        let m = times_each dec decr t r (t_of (a ∷ s.first)) (rows t_of k s.second) in
        let tp = pos_left (times dec t (t_of (a ∷ s.first))) (times decr r (rows t_of k s.second)) (times decr (more t r) (each_with_each (t_of (a ∷ s.first)) (rows t_of k s.second))) m s.some in
        let rp = pos_right (times dec t (t_of (a ∷ s.first))) (times decr r (rows t_of k s.second)) (times decr (more t r) (each_with_each (t_of (a ∷ s.first)) (rows t_of k s.second))) m s.some in
        join_good k a l s.first s.second t r h s.split
        (only (a ∷ s.first) t (λ u q. h.0 u (mem_left_split s.split u q), left_rises s.split h.1) tp)
        (only_rows k s.second r (right_rises s.split h.1) rp)

    module _ (P : Tree ℕ → Type 0) (each : (l : List ℕ) (t : Tree ℕ) → Rises l → Good arity l t → P t → times dec t (t_of l) ≡ 1) where
      -- the first input of a good row
      first_good : (k a : ℕ) (l b c : List ℕ) (t : Tree ℕ) (r : Row ℕ) → least t ≡ a → GoodRow arity (suc k) (a ∷ l) (more t r) → ((i : ℕ) → count i b ≡ occurs i t - one_if (ℕ_discrete a i))
          → ((i : ℕ) → one_if (ℕ_discrete a i) ≤ occurs i t) → Good arity (a ∷ b) t
      first_good k a l b c t r e g m le = record {
        rising = g.rising.0;
        belongs = g.belongs.0;
        counts = λ i. omega (arith, m i, le i);
        others = b;
        first_is = ap (λ x. x ∷ b) (sym e);
      }

      rest_good : (k : ℕ) (c : List ℕ) (t : Tree ℕ) (r : Row ℕ) → Rises c → IsRisingRow r → FitsRow arity r → width r ≡ k → ((i : ℕ) → count i c ≡ occurs_row i r) → GoodRow arity k c r
      rest_good k c t r h g b i e = record {
        rising = g;
        belongs = b;
        counts = λ i. sym (e i);
        inputs_are = i;
        first = λ p. first_of c r h g (has_input r (omega (arith, p, i))) (λ i. sym (e i));
      }

      at_more : (k a : ℕ) (l : List ℕ) (t : Tree ℕ) (r : Row ℕ) → Rises (a ∷ l) → GoodRow arity (suc k) (a ∷ l) (more t r) → P t
          → ((c : List ℕ) → Rises c → GoodRow arity k c r → times decr r (rows t_of k c) ≡ 1) → least t ≡ a → times decr (more t r) (rows t_of (suc k) (a ∷ l)) ≡ 1
      at_more k a l t r h g pt ih e =
          let le = lead_occurs a t e g.rising.0 in
          times-splits decr (more t r) l (λ b c. each_with_each (t_of (a ∷ b)) (rows t_of k c))
          ∙ sum_one l h.1 (λ i. occurs i t - one_if (ℕ_discrete a i)) (λ i. occurs_row i r) (λ b c. times decr (more t r) (each_with_each (t_of (a ∷ b)) (rows t_of k c)))
          (λ i. omega (arith, g.counts i, le i))
          (λ b c s m n. one_times (times dec t (t_of (a ∷ b))) (times decr r (rows t_of k c)) (times decr (more t r) (each_with_each (t_of (a ∷ b)) (rows t_of k c)))
          (times_each dec decr t r (t_of (a ∷ b)) (rows t_of k c))
          (each (a ∷ b) t (λ u q. h.0 u (mem_left_split s u q), left_rises s h.1) (first_good k a l b c t r e g m le) pt)
          (ih c (right_rises s h.1) (rest_good k c t r (right_rises s h.1) g.rising.2 g.belongs.1 (let i : suc (width r) ≡ suc k = g.inputs_are in omega arith) n)))
          (λ b c s i ne. zero_times (times dec t (t_of (a ∷ b))) (times decr r (rows t_of k c)) (times decr (more t r) (each_with_each (t_of (a ∷ b)) (rows t_of k c)))
          (times_each dec decr t r (t_of (a ∷ b)) (rows t_of k c)) (not_there b c s i ne (dec_lt 0 (times dec t (t_of (a ∷ b))))))
        where
          not_there : (b c : List ℕ) → Split l b c → (i : ℕ) → (count i b ≢ occurs i t - one_if (ℕ_discrete a i)) → Dec (0 < times dec t (t_of (a ∷ b))) → times dec t (t_of (a ∷ b)) ≡ 0
          not_there b c s i ne (yes p) =
              let q = only (a ∷ b) t (λ u q. h.0 u (mem_left_split s u q), left_rises s h.1) p in
              absurd (ne (let o = q.counts i in omega (arith, o)))
          not_there b c s i ne (no z) = omega (arith, z)

      first_list : (k : ℕ) (l : List ℕ) (t : Tree ℕ) (r : Row ℕ) → Rises l → GoodRow arity k l (more t r) → (Rises l → (j a : ℕ) (m : List ℕ) → Rises (a ∷ m) → GoodRow arity (suc j) (a ∷ m) (more t r) → least t ≡ a → times decr (more t r) (rows t_of (suc j) (a ∷ m)) ≡ 1)
          → times decr (more t r) (rows t_of k l) ≡ 1
      first_list zero l t r h g f = absurd (let i : suc (width r) ≡ 0 = g.inputs_are in omega arith)
      first_list (suc k) [] t r h g f = absurd (let q = (g.first (omega arith)).1 in cc q)
      first_list (suc k) (a ∷ l) t r h g f = f h k a l h g (sym (tail_same a (least t) l (g.first (omega arith)).0 (g.first (omega arith)).1).0)

      pub each_row : (r : Row ℕ) (k : ℕ) (l : List ℕ) → Rises l → GoodRow arity k l r → AllInputs r P → times decr r (rows t_of k l) ≡ 1
      each_row none k l h g q =
          let z : k ≡ 0 = sym g.inputs_are in
          let e = empty_list l g.counts in
          rw (z, e) (let o = one_if-yes (decr none none) refl in omega (arith, o))
      each_row (more t r) k l h g q = first_list k l t r h g (λ h' j a m h'' g' e. at_more j a m t r h'' g' q.0 (λ c hc gc. each_row r j c hc gc q.1) e)

  label_in : (g b : ℕ) (h : ℕ → ℕ) → Dec (g < b) → 0 < range_sum b (λ i. one_if (ℕ_discrete g i) * h i) → (g < b) × (0 < h g)
  label_in g b h (yes lt) p = (lt, let e = range_sum-one b g h lt in omega (arith, e, p))
  label_in g b h (no ge) p = absurd (let e = range_sum-past b g h (omega (arith, ge)) in omega (arith, e, p))

  lone_good : (n : ℕ) (l : List ℕ) → 0 < times dec (leaf n) (lone l) → Good arity l (leaf n)
  lone_good n [] p = absurd (omega arith)
  lone_good n (a ∷ []) p = go (dec (leaf a) (leaf n)) p
    where
      go : (d : Dec (leaf a ≡ leaf n)) → 0 < one_if d + 0 → Good arity (a ∷ []) (leaf n)
      go (yes e) p =
          let q : a ≡ n = cc in
          record { rising = tt; belongs = tt; counts = λ i. subst (λ m. one_if (ℕ_discrete n i) ≡ one_if (ℕ_discrete m i) + 0) (sym q) (omega arith); others = []; first_is = ap (λ x. x ∷ []) q }
      go (no _) p = absurd (omega arith)
  lone_good n (a ∷ (b ∷ l)) p = absurd (omega arith)

  -- the list has shuffle trees over the labels alone
  pub only_good : (d : ℕ) (l : List ℕ) (t : Tree ℕ) → Rises l → 0 < times dec t (shuffles labels arity d l) → Good arity l t
  only_good zero l t h p = absurd (omega arith)
  only_good (suc d) l (leaf n) h p = lone_good n l (let e = times_leaf d n l in omega (arith, e, p))
  only_good (suc d) l (node g r) h p =
      let q = label_in g labels (λ k. times decr r (rows (shuffles labels arity d) (arity k) l)) (dec_lt g labels) (let e = times_vertex d g r l in omega (arith, e, p)) in
      let w = are.wide g q.0 in
      let k = only_rows (shuffles labels arity d) (λ m t hm pm. only_good d m t hm pm) (arity g) l r h q.1 in
      let f = k.first (omega (arith, w)) in
      record { rising = (has_input r (let i = k.inputs_are in omega (arith, i, w)), k.rising); belongs = (w, k.inputs_are, k.belongs); counts = k.counts; others = f.0; first_is = f.1 }

  pub lone_each : (n : ℕ) (l : List ℕ) → Good arity l (leaf n) → times dec (leaf n) (lone l) ≡ 1
  lone_each n [] g = absurd (let q = g.first_is in cc q)
  lone_each n (a ∷ []) g = let q = tail_same a n [] g.others g.first_is in let o = one_if-yes (dec (leaf a) (leaf n)) (ap leaf q.0) in omega (arith, o)
  lone_each n (a ∷ (b ∷ l)) g = absurd (two a b (g.counts b) (tail_same a n (b ∷ l) g.others g.first_is).0 (g.counts a))
    where
      two : (a b : ℕ) → one_if (ℕ_discrete n b) ≡ count b (a ∷ (b ∷ l)) → a ≡ n → one_if (ℕ_discrete n a) ≡ count a (a ∷ (b ∷ l)) → ⊥
      two a b e q f = go (ℕ_discrete b a)
        where
          go : Dec (b ≡ a) → ⊥
          go (yes s) =
              let o : one_if (ℕ_discrete b a) ≡ 1 = one_if-yes (ℕ_discrete b a) s in
              let o' : one_if (ℕ_discrete a a) ≡ 1 = one_if-yes (ℕ_discrete a a) refl in
              let o'' : one_if (ℕ_discrete n a) ≡ 1 = one_if-yes (ℕ_discrete n a) (sym q) in
              omega (arith, f, o, o', o'')
          go (no s) =
              let z : one_if (ℕ_discrete n b) ≡ 0 = one_if-no (ℕ_discrete n b) (λ k. s (sym k ∙ sym q)) in
              let o : one_if (ℕ_discrete b b) ≡ 1 = one_if-yes (ℕ_discrete b b) refl in
              omega (arith, e, z, o)

  small_inputs : (d : ℕ) (r : Row ℕ) → vertices_row r < d → AllInputs r (λ t. vertices t < d)
  small_inputs d none h = tt
  small_inputs d (more t r) h = (omega arith, small_inputs d r (omega arith))

  is_label : (g : ℕ) → 2 ≤ arity g → Dec (g < labels) → g < labels
  is_label g w (yes h) = h
  is_label g w (no h) = absurd (let z : arity g ≡ 0 = are.none g (omega (arith, h)) in omega (arith, w, z))

  -- and each of them once
  pub each_good : (d : ℕ) (l : List ℕ) (t : Tree ℕ) → Rises l → Good arity l t → vertices t < d → times dec t (shuffles labels arity d l) ≡ 1
  each_good zero l t h g v = absurd (omega arith)
  each_good (suc d) l (leaf n) h g v = times_leaf d n l ∙ lone_each n l g
  each_good (suc d) l (node k r) h g v =
      times_vertex d k r l ∙ range_sum-one labels k (λ m. times decr r (rows (shuffles labels arity d) (arity m) l)) (is_label k g.belongs.0 (dec_lt k labels))
      ∙ each_row (shuffles labels arity d) (λ m t hm pm. only_good d m t hm pm) (λ t. vertices t < d) (λ m t hm gm vm. each_good d m t hm gm vm) r (arity k) l h
      record { rising = g.rising.1; belongs = g.belongs.2; counts = g.counts; inputs_are = g.belongs.1; first = λ p. (g.others, g.first_is) } (small_inputs d r (omega arith))

  mutual
    few_vertices : (t : Tree ℕ) → Fits arity t → vertices t < sum_leaves t (λ i. 1)
    few_vertices (leaf n) b = omega arith
    few_vertices (node g r) b = let h = few_vertices_row r b.2 in let w = b.0 in let i = b.1 in omega (arith, h, w, i)

    few_vertices_row : (r : Row ℕ) → FitsRow arity r → width r + vertices_row r ≤ sum_row r (λ i. 1)
    few_vertices_row none b = omega arith
    few_vertices_row (more t r) b = omega (arith, few_vertices t b.0, few_vertices_row r b.1)

  few_leaves : (b : ℕ) (t : Tree ℕ) → occurs 0 t ≡ 0 → ((i : ℕ) → occurs i t ≤ 1) → range_sum (suc b) (λ i. occurs i t * 1) ≤ b
  few_leaves zero t z o = omega (arith, z)
  few_leaves (suc b) t z o = omega (arith, few_leaves b t z o, o (suc b))

  shuffle_of : (n : ℕ) (t : Tree ℕ) → Good arity (upto n) t → IsShuffle n t × Fits arity t
  shuffle_of n t g = (
    record {
      rising = g.rising;
      each = λ i p le. g.counts i ∙ (upto_count n i).0 p le;
      only = λ i o. (upto_count n i).1 (let e = g.counts i in omega (arith, e, o));
    },
    g.belongs,
  )

  good_of : (n : ℕ) (t : Tree ℕ) → IsShuffle n t → Fits arity t → Good arity (upto n) t
  good_of n t h b = record { rising = h.rising; belongs = b; counts = counts; others = f.0; first_is = f.1 }
    where
      counts : (i : ℕ) → occurs i t ≡ count i (upto n)
      counts i = go (dec_lt 0 (occurs i t)) (dec_lt 0 (count i (upto n)))
        where
          go : Dec (0 < occurs i t) → Dec (0 < count i (upto n)) → occurs i t ≡ count i (upto n)
          go (yes o) d = let r = h.only i o in h.each i r.0 r.1 ∙ sym ((upto_count n i).0 r.0 r.1)
          go (no z) (yes p) = let r = (upto_count n i).1 p in h.each i r.0 r.1 ∙ sym ((upto_count n i).0 r.0 r.1)
          go (no z) (no w) = omega (arith, z, w)

      f : (others : List ℕ) × (upto n ≡ least t ∷ others)
      f = first_of (upto n) (more t none) (upto_rises n) (h.rising, tt, tt) tt (λ i. let e = counts i in omega (arith, e))

  leaves_few : (n : ℕ) (t : Tree ℕ) → IsShuffle n t → sum_leaves t (λ i. 1) ≤ n
  leaves_few n t h =
      let e = by_counts (suc n) t (λ i. 1) (by_leaf t (λ i. i < suc n) (λ i o. let r = h.only i o in omega (arith, r.1))) in
      let z : occurs 0 t ≡ 0 = zero_out (dec_lt 0 (occurs 0 t)) in
      let k = few_leaves n t z (once_of n t h) in
      omega (arith, e, k)
    where
      zero_out : Dec (0 < occurs 0 t) → occurs 0 t ≡ 0
      zero_out (yes o) = let r = h.only 0 o in absurd (omega (arith, r.0))
      zero_out (no w) = omega (arith, w)

  -- every shuffle tree on 1 to n that belongs to the labels, each once
  -- the list has shuffle trees over the labels alone
  listed_only : (n : ℕ) (t : Tree ℕ) → 0 < times dec t (all_trees labels arity n) → IsShuffleTree arity n t
  listed_only n t p = let h = shuffle_of n t (only_good n (upto n) t (upto_rises n) p) in record { fits = h.1; shuffle = h.0 }

  -- and each of them once
  listed_once : (n : ℕ) (t : Tree ℕ) → IsShuffleTree arity n t → times dec t (all_trees labels arity n) ≡ 1
  listed_once n t h = each_good n (upto n) t (upto_rises n) (good_of n t h.shuffle h.fits) (let v = few_vertices t h.fits in let k = leaves_few n t h.shuffle in omega (arith, v, k))

  at_most_once : (n : ℕ) (t : Tree ℕ) → Dec (0 < times dec t (all_trees labels arity n)) → times dec t (all_trees labels arity n) ≤ 1
  at_most_once n t (yes p) = let e = listed_once n t (listed_only n t p) in omega (arith, e)
  at_most_once n t (no z) = omega (arith, z)

  pub all_listed : (n : ℕ) → IsListing arity n (all_trees labels arity n)
  all_listed n = record {
    distinct = distinct_times dec (all_trees labels arity n) (λ t. at_most_once n t (dec_lt 0 (times dec t (all_trees labels arity n))));
    only = λ t m. listed_only n t (mem_times dec t (all_trees labels arity n) m);
    each = λ t h. times_mem dec t (all_trees labels arity n) (let e = listed_once n t h in omega (arith, e));
  }
