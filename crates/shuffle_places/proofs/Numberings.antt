-- Each shuffle tree of a shape stands once in the list of its numberings.
use Rattle.std.proofs.Common.{◌≡◌, ◌≢◌, ℕ, ◌+◌, ◌-◌, ◌*◌, ◌<◌, ◌≤◌, List, [], ◌∷◌, map, refl, sym, ◌∙◌, ap, arith, subst, inl}
use mathlib.Core.Path.{ap₂}
use native.Mathlib.Decide.{ℕ_discrete, dec_lt}
use Rattle.labelled_trees.specs.Trees.{Tree, Row, leaf, node, none, more}
use Rattle.shuffle_insertions.specs.ShuffleTrees.{least, least_row, IsRising, IsRisingRow, IsBefore, HasInput, IsShuffle}
use Rattle.labelled_trees.specs.Leaves.{times, one_if, occurs, occurs_row}
use Rattle.labelled_trees.specs.Equality.{row_discrete}
use Rattle.modular_sums.specs.Lists.{Mem, Rises}
use Rattle.shuffle_insertions.specs.Listing.{each_with_each, lone, upto}
use Rattle.shuffle_places.specs.Overlays.{shape, shape_row}
use Rattle.shuffle_places.specs.Numberings.{numberings, numberings_row}
use Rattle.labelled_trees.proofs.Leaves.{one_if-no, one_if-yes}
use Rattle.modular_sums.proofs.Lists.{tail_same}
use Rattle.labelled_trees.proofs.Contexts.{node-eq, more-eq}
use Rattle.shuffle_insertions.proofs.Splits.{Split, count, split_count, mem_left_split, mem_right_split, left_rises, right_rises, times-splits, sum_zero, sum_some, sum_one}
use Rattle.shuffle_insertions.proofs.Listing.{first_of, pos_left, pos_right}
use Rattle.shuffle_insertions.proofs.ListedRows.{zero_times, empty_list, lead_occurs, one_times, times_each, none_each, times_node, leaf_node}
use Rattle.shuffle_insertions.proofs.Upto.{upto_rises, upto_count}

-- the list has each shuffle tree of the shape once, and nothing else
pub record IsNumbering (n : ℕ) (form : Tree (Unit {0})) (dec : Discrete (Tree ℕ)) (l : List (Tree ℕ)) : Type 0 where
  pub only : (t : Tree ℕ) → 0 < times dec t l → IsShuffle n t × (shape t ≡ form)
  pub each : (t : Tree ℕ) → IsShuffle n t → shape t ≡ form → times dec t l ≡ 1

-- a tree over the leaf numbers of a list
pub record Plain (l : List ℕ) (t : Tree ℕ) : Type 0 where
  pub rising : IsRising t
  pub counts : (i : ℕ) → occurs i t ≡ count i l
  pub others : List ℕ
  pub first_is : l ≡ least t ∷ others

pub record PlainRow (l : List ℕ) (r : Row ℕ) : Type 0 where
  pub rising : IsRisingRow r
  pub counts : (i : ℕ) → occurs_row i r ≡ count i l
  pub first : HasInput r → (others : List ℕ) × (l ≡ least_row r ∷ others)

join_plain : (a : ℕ) (l b c : List ℕ) (t : Tree ℕ) (r : Row ℕ) → Rises (a ∷ l) → Split l b c → Plain (a ∷ b) t → PlainRow c r → PlainRow (a ∷ l) (more t r)
join_plain a l b c t r h s g gr =
    let same : a ≡ least t = (tail_same a (least t) b g.others g.first_is).0 in
    record {
      rising = (g.rising, before r gr same, gr.rising);
      counts = λ i. omega (arith, g.counts i, gr.counts i, split_count s i);
      first = λ p. (l, ap (λ x. x ∷ l) same);
    }
  where
    before : (r : Row ℕ) → PlainRow c r → a ≡ least t → IsBefore t r
    before none gr e = tt
    before (more u q) gr e =
        let f = gr.first tt in
        let m = h.0 (least u) (mem_right_split s (least u) (subst (Mem (least u)) (sym f.1) (inl refl))) in
        omega (arith, m, e)

lone_plain : (dec : Discrete (Tree ℕ)) (t : Tree ℕ) (l : List ℕ) → 0 < times dec t (lone l) → Plain l t × (shape t ≡ leaf tt)
lone_plain dec t [] p = absurd (omega arith)
lone_plain dec t (a ∷ []) p = go (dec (leaf a) t) p
  where
    go : (d : Dec (leaf a ≡ t)) → 0 < one_if d + 0 → Plain (a ∷ []) t × (shape t ≡ leaf tt)
    go (yes e) p = subst (λ x. Plain (a ∷ []) x × (shape x ≡ leaf tt)) e (record { rising = tt; counts = λ i. omega arith; others = []; first_is = refl }, refl)
    go (no _) p = absurd (omega arith)
lone_plain dec t (a ∷ (b ∷ l)) p = absurd (omega arith)

lone_once : (dec : Discrete (Tree ℕ)) (n : ℕ) (l : List ℕ) → Plain l (leaf n) → times dec (leaf n) (lone l) ≡ 1
lone_once dec n [] g = absurd (let q = g.first_is in cc q)
lone_once dec n (a ∷ []) g = let q = tail_same a n [] g.others g.first_is in let o = one_if-yes (dec (leaf a) (leaf n)) (ap leaf q.0) in omega (arith, o)
lone_once dec n (a ∷ (b ∷ l)) g = absurd (two (tail_same a n (b ∷ l) g.others g.first_is).0 (ℕ_discrete b a))
  where
    two : a ≡ n → Dec (b ≡ a) → ⊥
    two q (yes s) =
        let o : one_if (ℕ_discrete b a) ≡ 1 = one_if-yes (ℕ_discrete b a) s in
        let o' : one_if (ℕ_discrete a a) ≡ 1 = one_if-yes (ℕ_discrete a a) refl in
        let o'' : one_if (ℕ_discrete n a) ≡ 1 = one_if-yes (ℕ_discrete n a) (sym q) in
        omega (arith, g.counts a, o, o', o'')
    two q (no s) =
        let z : one_if (ℕ_discrete n b) ≡ 0 = one_if-no (ℕ_discrete n b) (λ k. s (sym k ∙ sym q)) in
        let o : one_if (ℕ_discrete b b) ≡ 1 = one_if-yes (ℕ_discrete b b) refl in
        omega (arith, g.counts b, z, o)

module _ (dec : Discrete (Tree ℕ)) (decr : Discrete (Row ℕ)) where
  node_in : (t : Tree ℕ) (g : ℕ) (rs : List (Row ℕ)) → 0 < times dec t (map (λ s. node g s) rs) → (r : Row ℕ) × (t ≡ node g r) × (0 < times decr r rs)
  node_in (leaf n) g rs p = absurd (let z = leaf_node dec decr n g rs in omega (arith, z, p))
  node_in (node h r) g rs p =
      let e = times_node dec decr h r g rs in
      let a = pos_left (one_if (ℕ_discrete h g)) (times decr r rs) (times dec (node h r) (map (λ s. node g s) rs)) e p in
      let b = pos_right (one_if (ℕ_discrete h g)) (times decr r rs) (times dec (node h r) (map (λ s. node g s) rs)) e p in
      (r, ap (λ k. node k r) (same (ℕ_discrete h g) a), b)
    where
      same : (d : Dec (h ≡ g)) → 0 < one_if d → h ≡ g
      same (yes e) p = e
      same (no _) p = absurd (omega arith)

  vertex_plain : (g : ℕ) (f : Tree (Unit {0})) (fs : Row (Unit {0})) (l : List ℕ) (r : Row ℕ) → PlainRow l r → shape_row r ≡ more f fs → Plain l (node g r) × (shape (node g r) ≡ node g (more f fs))
  vertex_plain g f fs l none k e = absurd (cc e)
  vertex_plain g f fs l (more t r) k e = let o = k.first tt in (record { rising = (tt, k.rising); counts = k.counts; others = o.0; first_is = o.1 }, ap (node g) e)

  mutual
    only_plain : (f : Tree (Unit {0})) (l : List ℕ) (t : Tree ℕ) → Rises l → 0 < times dec t (numberings f l) → Plain l t × (shape t ≡ f)
    only_plain (leaf u) l t h p = lone_plain dec t l p
    only_plain (node g none) l t h p = absurd (omega arith)
    only_plain (node g (more f fs)) l t h p =
        let q = node_in t g (numberings_row (more f fs) l) p in
        let k = only_plain_row (more f fs) l q.0 h q.2 in
        subst (λ x. Plain l x × (shape x ≡ node g (more f fs))) (sym q.1) (vertex_plain g f fs l q.0 k.0 k.1)

    only_plain_row : (f : Row (Unit {0})) (l : List ℕ) (r : Row ℕ) → Rises l → 0 < times decr r (numberings_row f l) → PlainRow l r × (shape_row r ≡ f)
    only_plain_row none [] none h p = (record { rising = tt; counts = λ i. refl; first = λ i. absurd i }, refl)
    only_plain_row none [] (more t r) h p = let e = one_if-no (decr none (more t r)) (λ q. cc q) in absurd (omega (arith, e, p))
    only_plain_row none (a ∷ l) r h p = absurd (omega arith)
    only_plain_row (more f fs) [] r h p = absurd (omega arith)
    only_plain_row (more f fs) (a ∷ l) none h p =
        let z = sum_zero l (λ b c. times decr none (each_with_each (numberings f (a ∷ b)) (numberings_row fs c))) (λ b c s. none_each dec decr (numberings f (a ∷ b)) (numberings_row fs c)) in
        let e = times-splits decr none l (λ b c. each_with_each (numberings f (a ∷ b)) (numberings_row fs c)) in
        absurd (omega (arith, z, e, p))
    only_plain_row (more f fs) (a ∷ l) (more t r) h p =
        let e = times-splits decr (more t r) l (λ b c. each_with_each (numberings f (a ∷ b)) (numberings_row fs c)) in
        let s = sum_some l (λ b c. times decr (more t r) (each_with_each (numberings f (a ∷ b)) (numberings_row fs c))) (omega (arith, e, p)) in
        let m = times_each dec decr t r (numberings f (a ∷ s.first)) (numberings_row fs s.second) in
        let tp = pos_left (times dec t (numberings f (a ∷ s.first))) (times decr r (numberings_row fs s.second)) (times decr (more t r) (each_with_each (numberings f (a ∷ s.first)) (numberings_row fs s.second))) m s.some in
        let rp = pos_right (times dec t (numberings f (a ∷ s.first))) (times decr r (numberings_row fs s.second)) (times decr (more t r) (each_with_each (numberings f (a ∷ s.first)) (numberings_row fs s.second))) m s.some in
        let x = only_plain f (a ∷ s.first) t (λ u q. h.0 u (mem_left_split s.split u q), left_rises s.split h.1) tp in
        let y = only_plain_row fs s.second r (right_rises s.split h.1) rp in
        (join_plain a l s.first s.second t r h s.split x.0 y.0, ap₂ more x.1 y.1)

  -- one way to divide the numbers among the first input and the rest
  at_more : (f : Tree (Unit {0})) (fs : Row (Unit {0})) (a : ℕ) (l : List ℕ) (t : Tree ℕ) (r : Row ℕ) → Rises (a ∷ l) → PlainRow (a ∷ l) (more t r) → least t ≡ a
      → ((b : List ℕ) → Rises (a ∷ b) → Plain (a ∷ b) t → times dec t (numberings f (a ∷ b)) ≡ 1)
      → ((c : List ℕ) → Rises c → PlainRow c r → times decr r (numberings_row fs c) ≡ 1)
      → times decr (more t r) (numberings_row (more f fs) (a ∷ l)) ≡ 1
  at_more f fs a l t r h g e once rest =
      let le = lead_occurs a t e g.rising.0 in
      times-splits decr (more t r) l (λ b c. each_with_each (numberings f (a ∷ b)) (numberings_row fs c))
      ∙ sum_one l h.1 (λ i. occurs i t - one_if (ℕ_discrete a i)) (λ i. occurs_row i r) (λ b c. times decr (more t r) (each_with_each (numberings f (a ∷ b)) (numberings_row fs c)))
      (λ i. omega (arith, g.counts i, le i))
      (λ b c s m n. one_times (times dec t (numberings f (a ∷ b))) (times decr r (numberings_row fs c)) (times decr (more t r) (each_with_each (numberings f (a ∷ b)) (numberings_row fs c)))
      (times_each dec decr t r (numberings f (a ∷ b)) (numberings_row fs c))
      (once b (λ u q. h.0 u (mem_left_split s u q), left_rises s h.1) record { rising = g.rising.0; counts = λ i. omega (arith, m i, le i); others = b; first_is = ap (λ x. x ∷ b) (sym e) })
      (rest c (right_rises s h.1) record { rising = g.rising.2; counts = λ i. sym (n i); first = λ p. first_of c r (right_rises s h.1) g.rising.2 p (λ i. sym (n i)) }))
      (λ b c s i ne. zero_times (times dec t (numberings f (a ∷ b))) (times decr r (numberings_row fs c)) (times decr (more t r) (each_with_each (numberings f (a ∷ b)) (numberings_row fs c)))
      (times_each dec decr t r (numberings f (a ∷ b)) (numberings_row fs c)) (not_there b c s i ne (dec_lt 0 (times dec t (numberings f (a ∷ b))))))
    where
      not_there : (b c : List ℕ) → Split l b c → (i : ℕ) → (count i b ≢ occurs i t - one_if (ℕ_discrete a i)) → Dec (0 < times dec t (numberings f (a ∷ b))) → times dec t (numberings f (a ∷ b)) ≡ 0
      not_there b c s i ne (yes p) =
          let q = only_plain f (a ∷ b) t (λ u q. h.0 u (mem_left_split s u q), left_rises s h.1) p in
          absurd (ne (let o = q.0.counts i in omega (arith, o)))
      not_there b c s i ne (no z) = omega (arith, z)

  first_list : (f : Tree (Unit {0})) (fs : Row (Unit {0})) (l : List ℕ) (t : Tree ℕ) (r : Row ℕ) → Rises l → PlainRow l (more t r)
      → ((b : List ℕ) → Rises b → Plain b t → times dec t (numberings f b) ≡ 1) → ((c : List ℕ) → Rises c → PlainRow c r → times decr r (numberings_row fs c) ≡ 1)
      → times decr (more t r) (numberings_row (more f fs) l) ≡ 1
  first_list f fs [] t r h g once rest = absurd (let q = (g.first tt).1 in cc q)
  first_list f fs (a ∷ l) t r h g once rest = at_more f fs a l t r h g (sym (tail_same a (least t) l (g.first tt).0 (g.first tt).1).0) (λ b. once (a ∷ b)) rest

  mutual
    once_plain : (f : Tree (Unit {0})) (l : List ℕ) (t : Tree ℕ) → Rises l → Plain l t → shape t ≡ f → times dec t (numberings f l) ≡ 1
    once_plain (leaf u) l (leaf n) h g e = lone_once dec n l g
    once_plain (leaf u) l (node k r) h g e = absurd (cc e)
    once_plain (node k f) l (leaf n) h g e = absurd (cc e)
    once_plain (node k none) l (node m none) h g e = absurd g.rising.0
    once_plain (node k none) l (node m (more t r)) h g e = absurd (cc e)
    once_plain (node k (more f fs)) l (node m r) h g e =
        let d = node-eq m k (shape_row r) (more f fs) e in
        times_node dec decr m r k (numberings_row (more f fs) l)
        ∙ let o = one_if-yes (ℕ_discrete m k) d.0 in
        let p = once_plain_row (more f fs) l r h record { rising = g.rising.1; counts = g.counts; first = λ i. (g.others, g.first_is) } d.1 in
        one_times (one_if (ℕ_discrete m k)) (times decr r (numberings_row (more f fs) l)) (one_if (ℕ_discrete m k) * times decr r (numberings_row (more f fs) l)) refl o p

    once_plain_row : (f : Row (Unit {0})) (l : List ℕ) (r : Row ℕ) → Rises l → PlainRow l r → shape_row r ≡ f → times decr r (numberings_row f l) ≡ 1
    once_plain_row none l none h g e =
        let z = empty_list l g.counts in
        rw z (let o = one_if-yes (decr none none) refl in omega (arith, o))
    once_plain_row none l (more t r) h g e = absurd (cc e)
    once_plain_row (more f fs) l none h g e = absurd (cc e)
    once_plain_row (more f fs) l (more t r) h g e =
        let d = more-eq (shape t) f (shape_row r) fs e in
        first_list f fs l t r h g (λ b hb gb. once_plain f b t hb gb d.0) (λ c hc gc. once_plain_row fs c r hc gc d.1)

-- every shuffle tree on 1 to n of the shape, each once
pub all_numbered : (n : ℕ) (form : Tree (Unit {0})) (dec : Discrete (Tree ℕ)) → IsNumbering n form dec (numberings form (upto n))
all_numbered n form dec = record {
  only = λ t p. let g = only_plain dec row_discrete form (upto n) t rises p in (
    record {
      rising = g.0.rising;
      each = λ i q le. g.0.counts i ∙ (in_range i).0 q le;
      only = λ i o. (in_range i).1 (let e = g.0.counts i in omega (arith, e, o));
    },
    g.1,
  );
  each = λ t h e. once_plain dec row_discrete form (upto n) t rises (plain t h) e;
}
  where
    rises : Rises (upto n)
    rises = upto_rises n

    in_range : (i : ℕ) → (0 < i → i ≤ n → count i (upto n) ≡ 1) × (0 < count i (upto n) → (0 < i) × (i ≤ n))
    in_range i = upto_count n i

    counts : (t : Tree ℕ) → IsShuffle n t → (i : ℕ) → occurs i t ≡ count i (upto n)
    counts t h i = go (dec_lt 0 (occurs i t)) (dec_lt 0 (count i (upto n)))
      where
        go : Dec (0 < occurs i t) → Dec (0 < count i (upto n)) → occurs i t ≡ count i (upto n)
        go (yes o) d = let r = h.only i o in h.each i r.0 r.1 ∙ sym ((in_range i).0 r.0 r.1)
        go (no z) (yes p) = let r = (in_range i).1 p in h.each i r.0 r.1 ∙ sym ((in_range i).0 r.0 r.1)
        go (no z) (no w) = omega (arith, z, w)

    plain : (t : Tree ℕ) → IsShuffle n t → Plain (upto n) t
    plain t h =
        let f = first_of (upto n) (more t none) rises (h.rising, tt, tt) tt (λ i. let e = counts t h i in omega (arith, e)) in
        record { rising = h.rising; counts = counts t h; others = f.0; first_is = f.1 }
