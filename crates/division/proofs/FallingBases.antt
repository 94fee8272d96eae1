-- The elements of a basis that falls, as ids: they are given for its setting, which fits.
use Rattle.std.proofs.Common.{◌≡◌, ℕ, zero, suc, ◌-◌, ◌<◌, List, [], ◌∷◌, length, map, refl, sym, ◌∙◌, ap, arith, subst, inl, inr, Some, slice_get}
use Rattle.std.specs.List.{All, AllByRecursion}
use Rattle.std.specs.declared.cmp.Ordering.{Ordering}
use Rattle.std.specs.declared.cmp.Ordering.TheVariants.{Less, Equal, Greater}
use Rattle.std.specs.Ordering.{ordering_reverse}
use Rattle.modular_sums.specs.Lists.{Mem, Distinct}
use Rattle.modular_sums.proofs.Lists.{mem_map, mem_of_map}
use Rattle.modular_sums.specs.Sums.{AllTerms, moved}
use Rattle.modular_sums.specs.Falling.{Falls, IsFalling, IsStrict}
use Rattle.modular_sums.proofs.OneSum.{all_less}
use Rattle.labelled_trees.specs.Equality.{tree_discrete}
use Rattle.labelled_trees.specs.Trees.{Tree, IsNode}
use Rattle.labelled_trees.specs.Leaves.{leaf_count}
use Rattle.shuffle_insertions.specs.ShuffleTrees.{IsShuffle, IsShuffleTree}
use Rattle.shuffle_insertions.specs.Orders.{IsTreeOrder}
use Rattle.shuffle_trees.specs.LabelLists.{arity_in}
use Rattle.shuffle_trees.proofs.Counts.{count_of_shuffle}
use Rattle.shuffle_bases.specs.Elements.{Element, IsMonic, AreMonic}
use Rattle.tree_store.specs.Stores.{tree_at}
use Rattle.tree_store.proofs.Trees.{one_place}
use Rattle.shuffle_sums.specs.Shelves.{Shelf, HasKey, IsShelf}
use Rattle.shuffle_sums.specs.Sums.{over, AreTrees, FallsBy, HaveKeys}
use Rattle.shuffle_sums.proofs.Arities.{within_shelf}
use Rattle.division.specs.declared.reducer.Reducer.{Reducer}
use Rattle.division.specs.Bases.{BasisFalls, IsMonicSum, element_of, first_id, setting_over}
use Rattle.division.specs.Dividers.{AreReducers, HaveRoom}
use Rattle.division.specs.Given.{AreGiven, IsFitSetting, behind, coefs_of, numbers_in, reducer_of}
use Rattle.division.specs.Insertions.{IsReducer}
use Rattle.division.specs.Laws.{IsReducerOf, trees_in}
use Rattle.division.proofs.Indexed.{few_leaves}

abbrev Ids : Type 0
Ids = List (ℕ × ℕ)

reversed : (o : Ordering) → o ≡ ordering_reverse o → o ≡ Less → ⊥
reversed Less e h = cc e
reversed Equal e h = cc h
reversed Greater e h = cc h

-- ---- entries

entry_mem : {X : Type 0} (xs : List X) (e : ℕ) (x : X) → slice_get xs e ≡ Some x → Mem x xs
entry_mem [] e x h = absurd (cc h)
entry_mem (y ∷ xs) zero x h = inl (sym (let s : y ≡ x = cc h in s))
entry_mem (y ∷ xs) (suc e) x h = inr (entry_mem xs e x h)

mem_entry : {X : Type 0} (xs : List X) (x : X) → Mem x xs → (e : ℕ) × (slice_get xs e ≡ Some x)
mem_entry [] x m = absurd m
mem_entry (y ∷ xs) x (inl h) = (0, ap Some (sym h))
mem_entry (y ∷ xs) x (inr m) = let r = mem_entry xs x m in (suc r.0, r.1)

pub entry_mapped : {X Y : Type 0} (f : X → Y) (xs : List X) (e : ℕ) (x : X) → slice_get xs e ≡ Some x → slice_get (map f xs) e ≡ Some (f x)
entry_mapped f [] e x h = absurd (cc h)
entry_mapped f (y ∷ xs) zero x h = let s : y ≡ x = cc h in ap (λ z. Some (f z)) s
entry_mapped f (y ∷ xs) (suc e) x h = entry_mapped f xs e x h

pub mapped_entry : {X Y : Type 0} (f : X → Y) (xs : List X) (e : ℕ) (y : Y) → slice_get (map f xs) e ≡ Some y → (x : X) × (slice_get xs e ≡ Some x) × (y ≡ f x)
mapped_entry f [] e y h = absurd (cc h)
mapped_entry f (x ∷ xs) zero y h = (x, refl, (let s : f x ≡ y = cc h in sym s))
mapped_entry f (x ∷ xs) (suc e) y h = mapped_entry f xs e y h

all_mem : {X : Type 0} (P : X → Type 0) (xs : List X) (x : X) → AllByRecursion P xs → Mem x xs → P x
all_mem P [] x h m = absurd m
all_mem P (y ∷ xs) x h (inl e) = subst P (sym e) h.0
all_mem P (y ∷ xs) x h (inr m) = all_mem P xs x h.1 m

-- two members with one image are one, where no image stands twice
one_image : {X Y : Type 0} (f : X → Y) (xs : List X) (x y : X) → Distinct (map f xs) → Mem x xs → Mem y xs → f x ≡ f y → x ≡ y
one_image f [] x y d m k e = absurd m
one_image f (z ∷ xs) x y d (inl a) (inl b) e = a ∙ sym b
one_image f (z ∷ xs) x y d (inl a) (inr k) e = absurd (d.0 (subst (λ v. Mem v (map f xs)) (sym e ∙ ap f a) (mem_map f y xs k)))
one_image f (z ∷ xs) x y d (inr m) (inl b) e = absurd (d.0 (subst (λ v. Mem v (map f xs)) (e ∙ ap f b) (mem_map f x xs m)))
one_image f (z ∷ xs) x y d (inr m) (inr k) e = one_image f xs x y d.1 m k e

-- ---- the terms of a sum

tail_trees : (trees : List (Tree ℕ)) (l : Ids) → trees_in (moved (tree_at trees) l) ≡ map (tree_at trees) (map (λ x. x.1) l)
tail_trees trees [] = refl
tail_trees trees (x ∷ l) = ap (λ ts. tree_at trees x.1 ∷ ts) (tail_trees trees l)

tail_numbers : (trees : List (Tree ℕ)) (l : Ids) → numbers_in (moved (tree_at trees) l) ≡ map (λ x. x.0) l
tail_numbers trees [] = refl
tail_numbers trees (x ∷ l) = ap (λ ts. x.0 ∷ ts) (tail_numbers trees l)

pub all_front : {X : Type 0} (P : X → Type 0) (x : X) (xs : List X) → P x → All P xs → All P (x ∷ xs)
all_front P x xs p h zero d lt = p
all_front P x xs p h (suc k) d lt = h k d (omega (arith, lt))

all_ids : (P : ℕ → Type 0) (l : Ids) → AllTerms l P → All P (map (λ x. x.1) l)
all_ids P [] h = λ k d lt. absurd (omega (arith, lt))
all_ids P (x ∷ l) h = all_front P x.1 (map (λ y. y.1) l) h.0 (all_ids P l h.1)

over_terms : (P : Tree ℕ → Type 0) (trees : List (Tree ℕ)) (l : Ids) → AllTerms l (λ id. P (tree_at trees id)) → AllTerms (moved (tree_at trees) l) P
over_terms P trees [] h = tt
over_terms P trees (x ∷ l) h = (h.0, over_terms P trees l h.1)

weaker_terms : {X : Type 0} (P Q : X → Type 0) (l : List (ℕ × X)) → ((x : X) → P x → Q x) → AllTerms l P → AllTerms l Q
weaker_terms P Q [] f h = tt
weaker_terms P Q (x ∷ l) f h = (f x.1 h.0, weaker_terms P Q l f h.1)

both_terms : {X : Type 0} (P Q : X → Type 0) (l : List (ℕ × X)) → AllTerms l P → AllTerms l Q → AllTerms l (λ x. P x × Q x)
both_terms P Q [] h k = tt
both_terms P Q (x ∷ l) h k = ((h.0, k.0), both_terms P Q l h.1 k.1)

module _ (compare : Tree ℕ → Tree ℕ → Ordering) (p : ℕ) (shelf : Shelf) (is_shelf : IsShelf shelf) where
  module _ (sum : Ids) (monic : IsMonicSum sum) (falls : FallsBy compare p shelf sum) (vertex : IsNode (tree_at shelf.trees (first_id sum))) where
    abbrev lead : Tree ℕ
    lead = tree_at shelf.trees (first_id sum)

    first_key : (k : Ids) → IsMonicSum k → HaveKeys shelf k → HasKey shelf (first_id k)
    first_key [] m h = absurd m
    first_key (x ∷ k) m h = h.0

    first_tree : (k : Ids) → IsMonicSum k → (n : ℕ) → AreTrees shelf n k → IsShuffleTree (arity_in shelf.labels) n (tree_at shelf.trees (first_id k))
    first_tree [] m n h = absurd m
    first_tree (x ∷ k) m n h = h.0

    behind_terms : (P : ℕ → Type 0) (k : Ids) → AllTerms k P → AllTerms (behind k) P
    behind_terms P [] h = tt
    behind_terms P (x ∷ k) h = h.1

    arity_is : falls.arity ≡ leaf_count lead
    arity_is = sym (count_of_shuffle falls.arity lead (first_tree sum monic falls.arity falls.trees).shuffle)

    trees_are : AreTrees shelf (leaf_count lead) sum
    trees_are = subst (λ n. AreTrees shelf n sum) arity_is falls.trees

    pub as_reducer : IsReducer shelf.trees (reducer_of shelf.trees sum)
    as_reducer = record {
      lead_low = within_shelf shelf (first_id sum) is_shelf (first_key sum monic falls.stands);
      lead_valid = (first_tree sum monic (leaf_count lead) trees_are).shuffle;
      lead_node = vertex;
      tail_low = all_ids (λ i. i < length shelf.trees) (behind sum) (weaker_terms (HasKey shelf) (λ i. i < length shelf.trees) (behind sum) (λ i k. within_shelf shelf i is_shelf k) (behind_terms (HasKey shelf) sum falls.stands));
      tail_valid = all_ids (λ i. IsShuffle (leaf_count lead) (tree_at shelf.trees i)) (behind sum)
          (weaker_terms (λ i. IsShuffleTree (arity_in shelf.labels) (leaf_count lead) (tree_at shelf.trees i)) (λ i. IsShuffle (leaf_count lead) (tree_at shelf.trees i)) (behind sum) (λ i h. h.shuffle)
          (behind_terms (λ i. IsShuffleTree (arity_in shelf.labels) (leaf_count lead) (tree_at shelf.trees i)) sum trees_are));
    }

    pub has_room : leaf_count lead < 10
    has_room = few_leaves shelf (first_id sum) is_shelf (first_key sum monic falls.stands)

    -- it is the sum over ids of the element
    pub reducer_is : (k : Ids) → IsMonicSum k → IsReducerOf shelf.trees (reducer_of shelf.trees k) (element_of (over shelf k)) × ((element_of (over shelf k)).arity ≡ (reducer_of shelf.trees k).arity) × (numbers_in (element_of (over shelf k)).tail ≡ coefs_of k)
    reducer_is [] m = absurd m
    reducer_is (x ∷ k) m = (record { lead_is = refl; tail_is = tail_trees shelf.trees k }, refl, tail_numbers shelf.trees k)

    module _ (order : IsTreeOrder (arity_in shelf.labels) compare) where
      strict : IsStrict compare
      strict = record { transitive = order.transitive; turned = λ t h. reversed (compare t t) (order.turned t t) h }

      tail_below : (k : Ids) → IsMonicSum k → (n : ℕ) → AreTrees shelf n k → Falls compare (over shelf k)
          → AllTerms (element_of (over shelf k)).tail (λ t. IsShuffleTree (arity_in shelf.labels) n t × (compare t (element_of (over shelf k)).lead ≡ Less))
      tail_below [] m n h f = absurd m
      tail_below (x ∷ k) m n h f =
          both_terms (IsShuffleTree (arity_in shelf.labels) n) (λ t. compare t (tree_at shelf.trees x.1) ≡ Less) (over shelf k)
          (over_terms (IsShuffleTree (arity_in shelf.labels) n) shelf.trees k h.1) (all_less compare tree_discrete strict (tree_at shelf.trees x.1) (over shelf k) f.0 f.1)

      tail_falls : (k : Ids) → IsMonicSum k → IsFalling compare p (over shelf k) → IsFalling compare (suc (p - 1)) (element_of (over shelf k)).tail
      tail_falls [] m f = absurd m
      tail_falls (x ∷ k) m f =
          let low = f.residues.1 in
          let positive : p ≡ suc (p - 1) = omega (arith, low) in
          subst (λ r. IsFalling compare r (over shelf k)) positive record { residues = f.residues.2; falls = f.falls.1 }

      lead_of : (k : Ids) → IsMonicSum k → (element_of (over shelf k)).lead ≡ tree_at shelf.trees (first_id k)
      lead_of [] m = absurd m
      lead_of (x ∷ k) m = refl

      arity_of : (k : Ids) → IsMonicSum k → (element_of (over shelf k)).arity ≡ leaf_count (tree_at shelf.trees (first_id k))
      arity_of [] m = absurd m
      arity_of (x ∷ k) m = refl

      pub as_monic : (basis : List Ids) → IsMonic (setting_over compare p shelf basis) (element_of (over shelf sum))
      as_monic basis = record {
        lead_valid = subst (λ n. IsShuffleTree (arity_in shelf.labels) n (element_of (over shelf sum)).lead) (sym (arity_of sum monic)) (subst (IsShuffleTree (arity_in shelf.labels) (leaf_count lead)) (sym (lead_of sum monic)) (first_tree sum monic (leaf_count lead) trees_are));
        lead_node = subst IsNode (sym (lead_of sum monic)) vertex;
        tail_valid = subst (λ n. AllTerms (element_of (over shelf sum)).tail (λ t. IsShuffleTree (arity_in shelf.labels) n t × (compare t (element_of (over shelf sum)).lead ≡ Less))) (sym (arity_of sum monic))
            (tail_below sum monic (leaf_count lead) trees_are falls.falling.falls);
      }

      pub falls_as : IsFalling compare (suc (p - 1)) (element_of (over shelf sum)).tail
      falls_as = tail_falls sum monic falls.falling

  -- ---- all elements

  module _ (basis : List Ids) (b : BasisFalls compare p shelf basis) where
    monic_of : (sum : Ids) → Mem sum basis → IsMonicSum sum
    monic_of sum m = all_mem IsMonicSum basis sum b.leads.monic m

    falls_of : (sum : Ids) → Mem sum basis → FallsBy compare p shelf sum
    falls_of sum m = all_mem (FallsBy compare p shelf) basis sum b.falls m

    vertex_of : (sum : Ids) → Mem sum basis → IsNode (tree_at shelf.trees (first_id sum))
    vertex_of sum m = all_mem (λ k. IsNode (tree_at shelf.trees (first_id k))) basis sum b.nodes m

    pub basis_reducers : AreReducers shelf.trees (map (reducer_of shelf.trees) basis)
    basis_reducers e r h =
        let s = mapped_entry (reducer_of shelf.trees) basis e r h in
        let m = entry_mem basis e s.0 s.1 in
        subst (IsReducer shelf.trees) (sym s.2) (as_reducer s.0 (monic_of s.0 m) (falls_of s.0 m) (vertex_of s.0 m))

    pub basis_room : HaveRoom (map (reducer_of shelf.trees) basis) 10
    basis_room e r h =
        let s = mapped_entry (reducer_of shelf.trees) basis e r h in
        let m = entry_mem basis e s.0 s.1 in
        subst (λ (k : Reducer). k.arity < 10) (sym s.2) (has_room s.0 (monic_of s.0 m) (falls_of s.0 m) (vertex_of s.0 m))

    abbrev element : Ids → Element
    element sum = element_of (over shelf sum)

    pub basis_given : AreGiven shelf.trees (map (reducer_of shelf.trees) basis) (map coefs_of basis) (setting_over compare p shelf basis)
    basis_given = record {
      each = λ g m.
          let s = mem_of_map element g basis m in
          let e = mem_entry basis s.0 s.1 in
          let k = monic_of s.0 s.1 in (
            e.0,
            reducer_of shelf.trees s.0,
            entry_mapped (reducer_of shelf.trees) basis e.0 s.0 e.1,
            subst (IsReducerOf shelf.trees (reducer_of shelf.trees s.0)) (sym s.2) (reducer_is s.0 k (falls_of s.0 s.1) (vertex_of s.0 s.1) s.0 k).0,
          );
      only = λ e r h.
          let s = mapped_entry (reducer_of shelf.trees) basis e r h in
          let m = entry_mem basis e s.0 s.1 in
          let k = monic_of s.0 m in
          let is = reducer_is s.0 k (falls_of s.0 m) (vertex_of s.0 m) s.0 k in (
            element s.0,
            mem_map element s.0 basis m,
            subst (λ q. IsReducerOf shelf.trees q (element s.0)) (sym s.2) is.0,
            is.1 ∙ ap (λ (q : Reducer). q.arity) (sym s.2),
            entry_mapped coefs_of basis e s.0 s.1 ∙ ap Some (sym is.2),
          );
    }

    module _ (order : IsTreeOrder (arity_in shelf.labels) compare) where
      first_low : (sum : Ids) → Mem sum basis → first_id sum < length shelf.trees
      first_low sum m = (as_reducer sum (monic_of sum m) (falls_of sum m) (vertex_of sum m)).lead_low

      lead_is : (k : Ids) → IsMonicSum k → (element k).lead ≡ tree_at shelf.trees (first_id k)
      lead_is [] m = absurd m
      lead_is (x ∷ k) m = refl

      one_lead : (sum other : Ids) → Mem sum basis → Mem other basis → (element sum).lead ≡ (element other).lead → sum ≡ other
      one_lead sum other m k e =
          one_image first_id basis sum other b.leads.apart m k
          (one_place shelf.trees (first_id sum) (first_id other) _ is_shelf.store.distinct (first_low sum m) (first_low other k)
          (sym (lead_is sum (monic_of sum m)) ∙ e ∙ lead_is other (monic_of other k)))

      pub basis_monic : AreMonic (setting_over compare p shelf basis)
      basis_monic = record {
        each = λ g m.
            let s = mem_of_map element g basis m in
            subst (IsMonic (setting_over compare p shelf basis)) (sym s.2) (as_monic s.0 (monic_of s.0 s.1) (falls_of s.0 s.1) (vertex_of s.0 s.1) order basis);
        apart = λ g h m k e.
            let s = mem_of_map element g basis m in
            let t = mem_of_map element h basis k in
            let same : (element s.0).lead ≡ (element t.0).lead = ap (λ (x : Element). x.lead) (sym s.2) ∙ e ∙ ap (λ (x : Element). x.lead) t.2 in
            s.2 ∙ ap element (one_lead s.0 t.0 s.1 t.1 same) ∙ sym t.2;
      }

      -- the setting of the basis fits
      pub basis_fits : IsFitSetting (setting_over compare p shelf basis)
      basis_fits = record {
        order = order;
        monic = basis_monic;
        falls = λ g m.
            let s = mem_of_map element g basis m in
            subst (λ (x : Element). IsFalling compare (suc (p - 1)) x.tail) (sym s.2) (falls_as s.0 (monic_of s.0 s.1) (falls_of s.0 s.1) (vertex_of s.0 s.1) order);
      }
