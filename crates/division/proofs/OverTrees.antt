-- Gathered and sorted trees with their rules: a table over trees.
use Rattle.std.specs.Prelude.{slice_index, slice_index_or}
use Rattle.std.proofs.Common.{◌≡◌, ℕ, ◌%◌, ◌<◌, List, [], ◌∷◌, zero, suc, length, map, refl, sym, ◌∙◌, ap, arith, subst, Option, Some, None, slice_get, inl, inr, ◌⊎◌}
use mathlib.Core.Path.{ap₂}
use native.Mathlib.Decide.{dec_lt}
use Rattle.std.specs.List.{All, zip, range_with_len}
use Rattle.std.specs.declared.cmp.Ordering.{Ordering}
use Rattle.std.specs.declared.cmp.Ordering.TheVariants.{Less, Equal, Greater}
use Rattle.std.specs.Ordering.{nat_cmp, ordering_reverse}
use Rattle.std.proofs.lemmas.Option.{slice_get-get_or, slice_get_within, get_or_from_slice_get}
use Rattle.std.proofs.lemmas.List.{get_or-map}
use Rattle.std.proofs.Math.ListN.{length-map}
use Rattle.std.proofs.lemmas.List.FromFn.{length-range_with_len}
use Rattle.std.proofs.lemmas.List.Sorted.{length_permutation}
use Rattle.modular_sums.specs.Sums.{AllTerms, coef, moved}
use Rattle.modular_sums.proofs.Images.{AllTerms-imp}
use Rattle.labelled_trees.specs.Trees.{Tree, leaf}
use Rattle.labelled_trees.specs.Equality.{tree_discrete}
use Rattle.shuffle_insertions.specs.ShuffleTrees.{IsShuffle, IsShuffleTree}
use Rattle.shuffle_insertions.specs.Frames.{insert, IsFrame}
use Rattle.shuffle_insertions.proofs.Laws.{keeps}
use Rattle.shuffle_places.specs.Places.{frame_at, IsPlace}
use Rattle.shuffle_places.proofs.Laws.{place_frames}
use Rattle.shuffle_places.proofs.Sizes.{one_size}
use Rattle.shuffle_bases.specs.Elements.{Setting, IsLess, Insertion, value_of}
use Rattle.shuffle_normal_forms.specs.FreeTrees.{IsFree}
use Rattle.shuffle_normal_forms.proofs.Insertions.{value_is, rest_lower}
use Rattle.modular_sums.specs.Falling.{IsFalling}
use Rattle.modular_sums.specs.RuleTables.{Table, HasRule, IsUnruled}
use Rattle.row_sweeps.proofs.TailsThatFall.{falling_tail}
use Rattle.tree_store.specs.Stores.{tree_at}
use Rattle.division.specs.declared.reducer.Reducer.{Reducer}
use Rattle.division.specs.Dividers.{AreReducers, AreDividers}
use Rattle.division.specs.Gathered.{AreGathered, AreOver, AllOver, IsGatheredAt, StandAt}
use Rattle.division.specs.Laws.{trees_in, AreElementsOf}
use Rattle.division.proofs.Elements.{free_told}
use Rattle.shuffle_sums.specs.Sorting.{trees_at, Rise}
use Rattle.shuffle_sums.proofs.RisingBlocks.{position_within}
use Rattle.shuffle_reductions.specs.Swept.{tree_in, IsRuleOf, IsTableOver}
use Rattle.division.specs.Given.{numbers_in, AreGiven, IsFitSetting}
use Rattle.division.specs.Ranks.{tail_at, AreRanks, AreRules, CanRule}
use Rattle.division.proofs.Agreeing.{agreeing_moved, agreeing_length, agreeing_residues, agreeing_falls, agreeing_below, all_cons, below_all}

-- things of some kind for all numbers below n make a list
abbrev AreListed : {X : Type 0} → (ℕ → X → Type 0) → ℕ → List X → Type 0
AreListed {X} P n l = (p : ℕ) → p < n → (x : X) × (slice_get l p ≡ Some x) × P p x

listed_cons : {X : Type 0} (P : ℕ → X → Type 0) (n : ℕ) (x : X) (l : List X) → P 0 x → AreListed (λ p y. P (suc p) y) n l → AreListed P (suc n) (x ∷ l)
listed_cons P n x l a h zero lt = (x, refl, a)
listed_cons P n x l a h (suc p) lt = h p (omega (arith, lt))

pub listed : {X : Type 0} (P : ℕ → X → Type 0) (n : ℕ) → ((p : ℕ) → p < n → (x : X) × P p x) → (l : List X) × (length l ≡ n) × AreListed P n l
listed P zero h = ([], refl, λ p lt. absurd (omega (arith, lt)))
listed {X = X} P (suc n) h =
    let first = h 0 (omega arith) in
    let rest = listed (λ p (x : X). P (suc p) x) n (λ p lt. h (suc p) (omega (arith, lt))) in
    (first.0 ∷ rest.0, ap suc rest.1, listed_cons P n first.0 rest.0 first.1 rest.2)

-- what holds of each tree of a sum holds of the trees of its ids
pub ids_of : (P : Tree ℕ → Type 0) (f : ℕ → Tree ℕ) (l : List (ℕ × Tree ℕ)) (ids : List ℕ) → trees_in l ≡ map f ids → AllTerms l P → (k i : ℕ) → slice_get ids k ≡ Some i → P (f i)
ids_of P f l [] e h k i q = absurd (cc q)
ids_of P f [] (j ∷ ids) e h k i q = absurd (cc e)
ids_of P f (x ∷ l) (j ∷ ids) e h zero i q = let here : x.1 ≡ f j = cc e in let is : j ≡ i = cc q in subst (λ m. P (f m)) is (subst P here h.0)
ids_of P f (x ∷ l) (j ∷ ids) e h (suc k) i q = let rest : trees_in l ≡ map f ids = cc e in ids_of P f l ids rest h.1 k i q

-- the trees at the places where ids stand
stand_trees : (f : ℕ → Tree ℕ) (ids places tail : List ℕ) → StandAt ids places tail → map (λ j. f (slice_index ids j)) places ≡ map f tail
stand_trees f ids [] [] e = refl
stand_trees f ids [] (x ∷ tail) e = absurd (cc e)
stand_trees f ids (j ∷ places) [] e = absurd (cc e)
stand_trees f ids (j ∷ places) (x ∷ tail) e =
    let here : slice_get ids j ≡ Some x = cc e in
    let rest : map (slice_get ids) places ≡ map Some tail = cc e in
    ap₂ (λ u v. u ∷ v) (ap f (get_or_from_slice_get ids j x 0 here)) (stand_trees f ids places tail rest)

stand_low : (ids places tail : List ℕ) → StandAt ids places tail → All (λ j. j < length ids) places
stand_low ids [] tail e = λ k d lt. absurd (omega (arith, lt))
stand_low ids (j ∷ places) [] e = absurd (cc e)
stand_low ids (j ∷ places) (x ∷ tail) e =
    let here : slice_get ids j ≡ Some x = cc e in
    let rest : map (slice_get ids) places ≡ map Some tail = cc e in
    all_cons (length ids) j places (slice_get_within ids j x here) (stand_low ids places tail rest)

-- the elements belong to the labels
pub elements_over : (trees : List (Tree ℕ)) (reducers : List Reducer) (coefs : List (List ℕ)) (s : Setting) → IsFitSetting s → AreGiven trees reducers coefs s → AreOver s.arity trees reducers
elements_over trees reducers coefs s fit are e r q =
    let a = are.only e r q in
    let m = fit.monic.each a.0 a.1 in (
      subst (λ k. IsShuffleTree s.arity k (tree_at trees r.lead)) a.3 (subst (IsShuffleTree s.arity a.0.arity) a.2.lead_is m.lead_valid),
      λ k i u. subst (λ k. IsShuffleTree s.arity k (tree_at trees i)) a.3
          (ids_of (IsShuffleTree s.arity a.0.arity) (tree_at trees) a.0.tail r.tail a.2.tail_is
          (AllTerms-imp (λ x. IsShuffleTree s.arity a.0.arity x × IsLess s x a.0.lead) (IsShuffleTree s.arity a.0.arity) a.0.tail (λ x h. h.0) m.tail_valid) k i u),
    )

reversed : (o : Ordering) → o ≡ ordering_reverse o → o ≡ Less → ⊥
reversed Less e h = cc e
reversed Equal e h = cc h
reversed Greater e h = cc h

module _ (trees : List (Tree ℕ)) (reducers : List Reducer) (coefs : List (List ℕ)) (found : List (Option ℕ)) (given ids : List ℕ) (tails : List (List ℕ)) (order ranks : List ℕ)
    (s : Setting) (n : ℕ) (fit : IsFitSetting s) (are : AreGiven trees reducers coefs s) (hr : AreReducers trees reducers) (hd : AreDividers trees reducers found)
    (gathered : AreGathered trees reducers found given ids tails) (given_over : AllOver s.arity n trees given)
    (rise : Rise s.compare (trees_at trees ids order)) (are_ranks : AreRanks order ranks (length ids)) where
  -- each gathered tree is a shuffle tree of the arity
  pub all_valid : AllOver s.arity n trees ids
  all_valid = gathered.over s.arity n (elements_over trees reducers coefs s fit are) given_over

  abbrev sorted : List (Tree ℕ)
  sorted = trees_at trees ids order

  abbrev id_of : ℕ → ℕ
  id_of p = slice_index ids (slice_index order p)

  order_length : length order ≡ length ids
  order_length = length_permutation (range_with_len 0 (length ids)) order are_ranks.each ∙ length-range_with_len 0 (length ids)

  pub sorted_length : length sorted ≡ length ids
  sorted_length = length-map order (λ p. tree_at trees (slice_index ids p)) ∙ order_length

  pub order_low : (p : ℕ) → p < length ids → slice_index order p < length ids
  order_low p lt = position_within (length ids) order p are_ranks.each (let l = order_length in omega (arith, l, lt))

  pub sorted_at : (p : ℕ) → p < length ids → tree_in sorted p ≡ tree_at trees (id_of p)
  sorted_at p lt = get_or-map (λ k. tree_at trees (slice_index ids k)) order p 0 (leaf 0) (let l = order_length in omega (arith, l, lt))

  pub at_rank : (k : ℕ) → k < length ids → tree_in sorted (slice_index ranks k) ≡ tree_at trees (slice_index ids k)
  at_rank k lt = sorted_at (slice_index ranks k) (are_ranks.within k lt) ∙ ap (λ j. tree_at trees (slice_index ids j)) (are_ranks.back k lt)

  valid_at : (k : ℕ) → k < length ids → IsShuffleTree s.arity n (tree_at trees (slice_index ids k))
  valid_at k lt = all_valid k (slice_index ids k) (slice_get-get_or ids k 0 lt)

  pub sorted_valid : (p : ℕ) → p < length ids → IsShuffleTree s.arity n (tree_in sorted p)
  sorted_valid p lt = subst (IsShuffleTree s.arity n) (sym (sorted_at p lt)) (valid_at (slice_index order p) (order_low p lt))

  not_less : (x : Tree ℕ) → IsLess s x x → ⊥
  not_less x h = reversed (s.compare x x) (fit.order.turned x x) h

  -- lesser trees have lower positions
  pub lower : (p q : ℕ) → p < length ids → q < length ids → s.compare (tree_in sorted p) (tree_in sorted q) ≡ Less → p < q
  lower p q hp hq h = go (dec_lt p q)
    where
      same_or_less : (p ≡ q) ⊎ (q < p) → ⊥
      same_or_less (inl e) = not_less (tree_in sorted q) (subst (λ r. s.compare (tree_in sorted r) (tree_in sorted q) ≡ Less) e h)
      same_or_less (inr gt) = not_less (tree_in sorted q) (fit.order.transitive (tree_in sorted q) (tree_in sorted p) (tree_in sorted q) (rise q p (leaf 0) gt (let l = sorted_length in omega (arith, l, hp))) h)

      go : Dec (p < q) → p < q
      go (yes lt) = lt
      go (no no_lt) = absurd (same_or_less (let o : (p ≡ q) ⊎ (q < p) = grind arith in o))

  -- the insertion at a place whose id has an element
  pub record IsDividedAt (k e : ℕ) : Type 0 where
    pub insertion : Insertion s n
    pub tree_is : insertion.tree ≡ tree_at trees (slice_index ids k)
    pub coefs_are : slice_get coefs e ≡ Some (numbers_in insertion.of.tail)
    pub places_low : All (λ j. j < length ids) (slice_index_or tails k [])
    pub agree : map (insert (frame_at insertion.set insertion.tree)) (trees_in insertion.of.tail) ≡ map (λ j. tree_at trees (slice_index ids j)) (slice_index_or tails k [])

  gathered_at : (k : ℕ) → k < length ids → IsGatheredAt trees reducers found ids (slice_index ids k) (slice_index_or tails k [])
  gathered_at k lt = gathered.steps k (slice_index ids k) (slice_index_or tails k []) (slice_get-get_or ids k 0 lt) (slice_get-get_or tails k [] (let l = gathered.as_many in omega (arith, l, lt)))

  pub places_low : (k : ℕ) → k < length ids → All (λ j. j < length ids) (slice_index_or tails k [])
  places_low k lt = by (gathered_at k lt)
    where
      by : IsGatheredAt trees reducers found ids (slice_index ids k) (slice_index_or tails k []) → All (λ j. j < length ids) (slice_index_or tails k [])
      by (inl h) = subst (All (λ j. j < length ids)) (sym h.1) (λ i d l. absurd (omega (arith, l)))
      by (inr h) = stand_low ids (slice_index_or tails k []) h.0 h.2

  pub entry_there : (k : ℕ) → k < length ids → slice_index ids k < length found
  entry_there k lt = by (gathered_at k lt)
    where
      by : IsGatheredAt trees reducers found ids (slice_index ids k) (slice_index_or tails k []) → slice_index ids k < length found
      by (inl h) = slice_get_within found (slice_index ids k) None h.0.found_is
      by (inr h) = slice_get_within found (slice_index ids k) (Some h.1.element) h.1.found_is

  pub divided_at : (k e : ℕ) → k < length ids → slice_get found (slice_index ids k) ≡ Some (Some e) → IsDividedAt k e
  divided_at k e lt q = by (gathered_at k lt)
    where
      by : IsGatheredAt trees reducers found ids (slice_index ids k) (slice_index_or tails k []) → IsDividedAt k e
      by (inl h) = let f = h.0.found_is in absurd (cc (q, f))
      by (inr h) =
          let t = h.1 in
          let f = t.found_is in
          let same : t.element ≡ e = cc (q, f) in
          let a = are.only t.element t.reducer t.reducer_is in record {
            insertion = record { of = a.0; member = a.1; tree = tree_at trees (slice_index ids k); set = t.inserted.set; valid = valid_at k lt; place = subst (IsPlace (tree_at trees (slice_index ids k)) t.inserted.set) (sym a.2.lead_is) t.inserted.place };
            tree_is = refl;
            coefs_are = subst (λ j. slice_get coefs j ≡ Some (numbers_in a.0.tail)) same a.4;
            places_low = stand_low ids (slice_index_or tails k []) h.0 h.2;
            agree = ap (map (insert (frame_at t.inserted.set (tree_at trees (slice_index ids k))))) a.2.tail_is ∙ sym t.inserted.are ∙ sym (stand_trees (tree_at trees) ids (slice_index_or tails k []) h.0 h.2);
          }

  ranks_agree : (places : List ℕ) → All (λ j. j < length ids) places → map (λ j. tree_at trees (slice_index ids j)) places ≡ map (tree_in sorted) (map (slice_index ranks) places)
  ranks_agree [] h = refl
  ranks_agree (j ∷ places) h = let b = below_all (length ids) j places h in ap₂ (λ u v. u ∷ v) (sym (at_rank j b.0)) (ranks_agree places b.1)

  ranks_low : (places : List ℕ) → All (λ j. j < length ids) places → All (λ p. p < length ids) (map (slice_index ranks) places)
  ranks_low [] h = λ k d lt. absurd (omega (arith, lt))
  ranks_low (j ∷ places) h =
      let b = below_all (length ids) j places h in all_cons (length ids) (slice_index ranks j) (map (slice_index ranks) places) (are_ranks.within j b.0) (ranks_low places b.1)

  -- the rule of a position whose id has an element: that of an insertion there
  pub record IsDividedBy (p e : ℕ) : Type 0 where
    pub insertion : Insertion s n
    pub tree_is : insertion.tree ≡ tree_in sorted p
    pub coefs_are : slice_get coefs e ≡ Some (numbers_in insertion.of.tail)
    pub long : length (numbers_in insertion.of.tail) ≡ length (tail_at tails ranks (slice_index order p))
    pub falling : IsFalling nat_cmp (suc s.q) (zip (numbers_in insertion.of.tail) (tail_at tails ranks (slice_index order p)))
    pub below : AllTerms (zip (numbers_in insertion.of.tail) (tail_at tails ranks (slice_index order p))) (λ t. t < p)
    pub value : value_of insertion ≡ (1, tree_in sorted p) ∷ moved (tree_in sorted) (zip (numbers_in insertion.of.tail) (tail_at tails ranks (slice_index order p)))

  module _ (p e : ℕ) (lt : p < length ids) (d : IsDividedAt (slice_index order p) e) where
    abbrev here : Insertion s n
    here = d.insertion

    abbrev put : Tree ℕ → Tree ℕ
    put = insert (frame_at d.insertion.set d.insertion.tree)

    abbrev poss : List ℕ
    poss = tail_at tails ranks (slice_index order p)

    put_agrees : map put (trees_in here.of.tail) ≡ map (tree_in sorted) poss
    put_agrees = d.agree ∙ ranks_agree (slice_index_or tails (slice_index order p) []) d.places_low

    poss_low : All (λ j. j < length ids) poss
    poss_low = ranks_low (slice_index_or tails (slice_index order p) []) d.places_low

    tree_there : here.tree ≡ tree_in sorted p
    tree_there = d.tree_is ∙ sym (sorted_at p lt)

    frames : (k : ℕ) × IsShuffle k here.of.lead × IsFrame k (frame_at here.set here.tree) × (insert (frame_at here.set here.tree) here.of.lead ≡ here.tree)
    frames = let f = place_frames.0 n here.tree here.set here.of.lead here.valid.shuffle here.place in (f.0, f.1, f.2, f.3)

    fits : IsFrame here.of.arity (frame_at here.set here.tree)
    fits = subst (λ k. IsFrame k (frame_at here.set here.tree)) (one_size frames.0 here.of.arity here.of.lead frames.1 (fit.monic.each here.of here.member).lead_valid.shuffle) frames.2

    put_valid : (x : Tree ℕ) → IsShuffleTree s.arity here.of.arity x → IsShuffleTree s.arity n (insert (frame_at here.set here.tree) x)
    put_valid x v = (keeps here.of.arity n (frame_at here.set here.tree) here.of.lead x fits).1 s.arity (fit.monic.each here.of here.member).lead_valid v (subst (IsShuffleTree s.arity n) (sym frames.3) here.valid)

    put_kept : (x y : Tree ℕ) → IsShuffleTree s.arity here.of.arity x → IsShuffleTree s.arity here.of.arity y → s.compare (put x) (put y) ≡ s.compare x y
    put_kept x y v w = fit.order.kept here.of.arity n (frame_at here.set here.tree) x y fits v.shuffle w.shuffle (put_valid x v).shuffle

    tail_over : AllTerms here.of.tail (IsShuffleTree s.arity here.of.arity)
    tail_over = AllTerms-imp (λ x. IsShuffleTree s.arity here.of.arity x × IsLess s x here.of.lead) (IsShuffleTree s.arity here.of.arity) here.of.tail (λ x h. h.0) (fit.monic.each here.of here.member).tail_valid

    put_below : AllTerms (moved put here.of.tail) (λ y. s.compare y (tree_in sorted p) ≡ Less)
    put_below = AllTerms-imp (λ x. IsShuffleTree s.arity n x × IsLess s x here.tree) (λ y. s.compare y (tree_in sorted p) ≡ Less) (moved put here.of.tail) (λ x h. subst (λ t. s.compare x t ≡ Less) tree_there h.1) (rest_lower s fit.order fit.monic n here)

    pub divided_by : IsDividedBy p e
    divided_by = record {
      insertion = here;
      tree_is = tree_there;
      coefs_are = d.coefs_are;
      long = agreeing_length put (tree_in sorted) here.of.tail poss put_agrees;
      falling = record {
        residues = agreeing_residues (suc s.q) here.of.tail poss (fit.falls here.of here.member).residues;
        falls = agreeing_falls s.compare put (tree_in sorted) (length ids) lower (IsShuffleTree s.arity here.of.arity) put_kept here.of.tail poss tail_over poss_low put_agrees (fit.falls here.of here.member).falls;
      };
      below = agreeing_below s.compare put (tree_in sorted) (length ids) lower p lt here.of.tail poss poss_low put_agrees put_below;
      value = value_is s fit.order fit.monic n here ∙ ap₂ (λ t l. (1, t) ∷ l) tree_there (agreeing_moved put (tree_in sorted) here.of.tail poss put_agrees);
    }

  -- what the rules are made of
  pub can_rule : CanRule s.q coefs found ids tails order ranks
  can_rule = record {
    ranks_are = are_ranks;
    as_many = gathered.as_many;
    entries = entry_there;
    places = places_low;
    tails_are = λ p e lt q.
        let b = divided_by p e lt (divided_at (slice_index order p) e (order_low p lt) q) in
        (numbers_in b.insertion.of.tail, b.coefs_are, b.long, falling_tail s.q p (zip (numbers_in b.insertion.of.tail) (tail_at tails ranks (slice_index order p))) b.falling b.below);
  }

  elements : AreElementsOf trees reducers s
  elements = record { each = are.each; only = λ e r q. let a = are.only e r q in (a.0, a.1, a.2) }

  module _ (rules : Table) (h : AreRules coefs found ids tails order ranks rules) where
    -- a position has no rule, and its tree is free; or it has the rule of an insertion
    abbrev IsAt : ℕ → Option (Insertion s n) → Type 0
    IsAt p None = IsUnruled rules p × IsFree s (tree_in sorted p)
    IsAt p (Some i) = (tail : List (ℕ × ℕ)) × HasRule rules p tail × AllTerms tail (λ t. t < p) × IsRuleOf s n sorted p tail i

    at_position : (p : ℕ) → p < length ids → (o : Option (Insertion s n)) × IsAt p o
    at_position p lt = by (slice_get found (id_of p)) refl
      where
        by : (o : Option (Option ℕ)) → slice_get found (id_of p) ≡ o → (o : Option (Insertion s n)) × IsAt p o
        by None q = let g = slice_get-get_or found (id_of p) None (entry_there (slice_index order p) (order_low p lt)) in absurd (cc (g, q))
        by (Some None) q = (None, ((h.each p lt).none q, subst (IsFree s) (sym (sorted_at p lt)) ((free_told trees reducers s (tree_at trees (id_of p)) elements).0 (hd (id_of p) None q))))
        by (Some (Some e)) q =
            let b = divided_by p e lt (divided_at (slice_index order p) e (order_low p lt) q) in
            let z = zip (numbers_in b.insertion.of.tail) (tail_at tails ranks (slice_index order p)) in
            (Some b.insertion, (z, (h.each p lt).some e (numbers_in b.insertion.of.tail) q b.coefs_are, b.below, record { tree = b.tree_is; value = λ t. ap (λ l. coef tree_discrete l t % suc s.q) b.value }))

    all_there : (l : List (Option (Insertion s n))) × (length l ≡ length ids) × AreListed IsAt (length ids) l
    all_there = listed IsAt (length ids) at_position

    there : (p : ℕ) (o : Option (List (ℕ × ℕ))) → slice_get rules p ≡ Some o → (x : Option (Insertion s n)) × (slice_get all_there.0 p ≡ Some x) × IsAt p x
    there p o q = all_there.2 p (let w = slice_get_within rules p o q in let z = h.sized in omega (arith, w, z))

    ruled : (at : ℕ) (tail : List (ℕ × ℕ)) → HasRule rules at tail → ((i : Insertion s n) × (slice_get all_there.0 at ≡ Some (Some i)) × IsRuleOf s n sorted at tail i) × AllTerms tail (λ t. t < at)
    ruled at tail q = by (there at (Some tail) q)
      where
        by : (x : Option (Insertion s n)) × (slice_get all_there.0 at ≡ Some x) × IsAt at x → ((i : Insertion s n) × (slice_get all_there.0 at ≡ Some (Some i)) × IsRuleOf s n sorted at tail i) × AllTerms tail (λ t. t < at)
        by (None, e, w) = let u = w.0 in absurd (cc (q, u))
        by (Some i, e, w) =
            let u = w.1 in
            let same : w.0 ≡ tail = cc (q, u) in ((i, e, subst (λ l. IsRuleOf s n sorted at l i) same w.3), subst (λ l. AllTerms l (λ t. t < at)) same w.2)

    free : (at : ℕ) → IsUnruled rules at → IsFree s (tree_in sorted at)
    free at q = by (there at None q)
      where
        by : (x : Option (Insertion s n)) × (slice_get all_there.0 at ≡ Some x) × IsAt at x → IsFree s (tree_in sorted at)
        by (None, e, w) = w.1
        by (Some i, e, w) = let u = w.1 in absurd (cc (q, u))

    -- the rules are a table over the sorted trees
    pub table_over : (insertions : List (Option (Insertion s n))) × IsTableOver s n sorted insertions rules
    table_over = (
      all_there.0,
      record {
        rises = λ j k lt w. rise j k (leaf 0) lt w;
        sized = h.sized ∙ sym sorted_length;
        aligned = all_there.1 ∙ sym sorted_length;
        lower = λ at tail q. (ruled at tail q).1;
        ruled = λ at tail q. (ruled at tail q).0;
        free = free;
      },
    )
