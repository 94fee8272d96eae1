-- Tails while the store grows, and how a tail comes from that of an input.
use Rattle.std.proofs.Common.{◌≡◌, ℕ, ◌<◌, ◌≤◌, List, length, map, get_or, sym, ◌∙◌, ap, arith, subst, Option, Some, None, slice_get, inl, inr}
use Rattle.std.specs.List.{All}
use Rattle.std.proofs.lemmas.Option.{slice_get_within, slice_get-get_or, get_or_from_slice_get}
use Rattle.labelled_trees.specs.Trees.{Tree, IsNode, node, row}
use Rattle.labelled_trees.specs.Leaves.{occurs}
use Rattle.shuffle_insertions.specs.ShuffleTrees.{IsShuffle}
use Rattle.shuffle_places.specs.Places.{IsPlace}
use Rattle.tree_store.specs.Stores.{tree_at, IsStore}
use Rattle.shuffle_places.specs.RootPlaces.{DividesRoot}
use Rattle.shuffle_sums.specs.Putting.{Keeps}
use Rattle.shuffle_sums.specs.Shelves.{Shelf, IsShelf}
use Rattle.division.specs.declared.reducer.Reducer.{Reducer}
use Rattle.division.specs.Insertions.{CanReplace, with_other, AreMade, AreInserted, AddsInsertion, IsReducer}
use Rattle.division.specs.Dividers.{Divides, IsFirstDivider, AreReducers, AreDividers}
use Rattle.division.specs.KeptTails.{IsInsertionTail, AddsTail, AreKept, IsDividedInput, NoDividedInput}
use Rattle.shuffle_places.proofs.InputPlaces.{leaf_no_place}
use Rattle.division.proofs.Builds.{less_held}
use Rattle.division.proofs.FirstDividers.{root_only}
use Rattle.division.proofs.InputTrees.{kept_can, kept_inserted}
use Rattle.division.proofs.MadeTrees.{grown_tree, grown_ids, grown_held, grows_length}

-- ---- growing stores

pub reducer_later : (a b : List (Tree ℕ)) (r : Reducer) → Keeps a b → IsReducer a r → IsReducer b r
reducer_later a b r g h = record {
  lead_low = let l = grows_length a b g in let x = h.lead_low in omega (arith, l, x);
  lead_valid = subst (IsShuffle r.arity) (sym (grown_tree a b g r.lead h.lead_low)) h.lead_valid;
  lead_node = subst IsNode (sym (grown_tree a b g r.lead h.lead_low)) h.lead_node;
  tail_low = grown_held a b g r.tail h.tail_low;
  tail_valid = λ n d lt. subst (IsShuffle r.arity) (sym (grown_tree a b g (get_or r.tail n d) (h.tail_low n d lt))) (h.tail_valid n d lt);
}

pub reducers_later : (a b : List (Tree ℕ)) (reducers : List Reducer) → Keeps a b → AreReducers a reducers → AreReducers b reducers
reducers_later a b reducers g h = λ e r s. reducer_later a b r g (h e r s)

module _ (a b : List (Tree ℕ)) (reducers : List Reducer) (g : Keeps a b) (hr : AreReducers a reducers) where
  divides_back : (t : Tree ℕ) (e : ℕ) → Divides b reducers t e → Divides a reducers t e
  divides_back t e d = (d.0, d.1, (d.2.0, subst (λ l. IsPlace t d.2.0 l) (grown_tree a b g d.0.lead (hr e d.0 d.1).lead_low) d.2.1))

  divides_later : (t : Tree ℕ) (e : ℕ) → Divides a reducers t e → Divides b reducers t e
  divides_later t e d = (d.0, d.1, (d.2.0, subst (λ l. IsPlace t d.2.0 l) (sym (grown_tree a b g d.0.lead (hr e d.0 d.1).lead_low)) d.2.1))

  first_later : (t : Tree ℕ) (o : Option ℕ) → IsFirstDivider a reducers t o → IsFirstDivider b reducers t o
  first_later t None h = λ e d. h e (divides_back t e d)
  first_later t (Some e) h = (divides_later t e h.0, λ i lt d. h.1 i lt (divides_back t i d))

  pub dividers_later : (found : List (Option ℕ)) → length found ≤ length a → AreDividers a reducers found → AreDividers b reducers found
  dividers_later found few h = λ id o s.
      let low = slice_get_within found id o s in
      subst (λ t. IsFirstDivider b reducers t o) (sym (grown_tree a b g id (omega (arith, low, few)))) (first_later (tree_at a id) o (h id o s))

  pub inserted_later : (host lead : Tree ℕ) (tail : List (Tree ℕ)) (ids : List ℕ) → AreInserted a host lead tail ids → AreInserted b host lead tail ids
  inserted_later host lead tail ids h = record {
    set = h.set;
    place = h.place;
    held = grown_held a b g ids h.held;
    are = grown_ids a b g ids h.held ∙ h.are;
    leaves = λ n d lt. λ i. ap (occurs i) (grown_tree a b g (get_or ids n d) (h.held n d lt)) ∙ h.leaves n d lt i;
  }

  -- leads and tails stay
  terms_later : (e : ℕ) (r : Reducer) → slice_get reducers e ≡ Some r → (tree_at b r.lead ≡ tree_at a r.lead) × (map (tree_at b) r.tail ≡ map (tree_at a) r.tail)
  terms_later e r s = (grown_tree a b g r.lead (hr e r s).lead_low, grown_ids a b g r.tail (hr e r s).tail_low)

  -- an insertion told by the old trees
  pub told_later : (e id : ℕ) (r : Reducer) (ids : List ℕ) → slice_get reducers e ≡ Some r → id < length a → AreInserted b (tree_at a id) (tree_at a r.lead) (map (tree_at a) r.tail) ids
      → AreInserted b (tree_at b id) (tree_at b r.lead) (map (tree_at b) r.tail) ids
  told_later e id r ids s low h =
      let k = terms_later e r s in
      subst (λ t. AreInserted b t (tree_at b r.lead) (map (tree_at b) r.tail) ids) (sym (grown_tree a b g id low))
      (subst (λ t. AreInserted b (tree_at a id) t (map (tree_at b) r.tail) ids) (sym k.0)
      (subst (λ l. AreInserted b (tree_at a id) (tree_at a r.lead) l ids) (sym k.1) h))

  pub kept_later : (found : List (Option ℕ)) (kept : List (Option (List ℕ))) → length found ≤ length a → AreKept a reducers found kept → AreKept b reducers found kept
  kept_later found kept few h = λ id ids s.
      let t = h id ids s in
      let low = slice_get_within found id (Some t.element) t.found_is in
      record {
        element = t.element;
        reducer = t.reducer;
        found_is = t.found_is;
        reducer_is = t.reducer_is;
        inserted = told_later t.element id t.reducer ids t.reducer_is (omega (arith, low, few)) (inserted_later (tree_at a id) (tree_at a t.reducer.lead) (map (tree_at a) t.reducer.tail) ids t.inserted);
      }

-- ---- one step

-- the divider that was read
pub found_host : (found : List (Option ℕ)) (host at element : ℕ) → ((e : ℕ) × (slice_get found host ≡ Some (Some e))) → at ≡ host → get_or found at None ≡ Some element → slice_get found host ≡ Some (Some element)
found_host found host at element d same is =
    slice_get-get_or found host None (slice_get_within found host (Some d.0) d.1) ∙ ap Some (ap (λ k. get_or found k None) (sym same) ∙ is)

module _ (trees : List (Tree ℕ)) (reducers : List Reducer) (found : List (Option ℕ)) (store : IsStore trees) (hr : AreReducers trees reducers) (hf : AreDividers trees reducers found) (few : length found ≤ length trees)
    (host element : ℕ) (is : slice_get found host ≡ Some (Some element)) where
  pub long : host < length found
  long = slice_get_within found host (Some element) is

  pub low : host < length trees
  low = let l = long in omega (arith, l, few)

  first : IsFirstDivider trees reducers (tree_at trees host) (Some element)
  first = hf host (Some element) is

  pub element_low : element < length reducers
  element_low = slice_get_within reducers element first.0.0 first.0.1

  pub at_root : (r : Reducer) → slice_get reducers element ≡ Some r → NoDividedInput trees found host element → (s : ℕ → Tree ℕ) × DividesRoot r.arity (tree_at trees r.lead) (tree_at trees host) s
  at_root r stands (inl h) = absurd (leaf_no_place h.0 first.0.2.0 (tree_at trees first.0.0.lead) (subst (λ t. IsPlace t first.0.2.0 (tree_at trees first.0.0.lead)) h.1 first.0.2.1))
  at_root r stands (inr h) =
      let d = root_only trees reducers found host h.0 h.1 store hr hf low h.2 element first h.3 long h.4 in
      let same : d.0 ≡ r = cc (d.1, stands) in
      (d.2.0, subst (λ x. DividesRoot x.arity (tree_at trees x.lead) (tree_at trees host) d.2.0) same d.2.1)

  -- the element was inserted at the root
  pub root_tail : (new : List (Tree ℕ)) → Keeps trees new → (r : Reducer) → slice_get reducers element ≡ Some r → (before after : List ℕ)
      → AddsInsertion new (tree_at trees host) (tree_at trees r.lead) (map (tree_at trees) r.tail) before after → AddsTail new reducers found host before after
  root_tail new g r stands before after m = (
    m.made,
    m.after_is,
    record {
      element = element;
      reducer = r;
      found_is = is;
      reducer_is = stands;
      inserted = told_later trees new reducers g hr element host r m.made stands low m.inserted;
    },
  )

-- a step in an input, whose tail is kept in a later store
module _ (old : List (Tree ℕ)) (shelf : Shelf) (reducers : List Reducer) (found : List (Option ℕ)) (grown : Keeps old shelf.trees) (is_shelf : IsShelf shelf) (hr : AreReducers shelf.trees reducers) (few : length found ≤ length old)
    (host element at child : ℕ) (is : slice_get found host ≡ Some (Some element)) (h : IsDividedInput old found host element at child) (kept : List ℕ) (t : IsInsertionTail shelf.trees reducers found child kept) where
  abbrev trees : List (Tree ℕ)
  trees = shelf.trees

  host_low : host < length old
  host_low = let l = slice_get_within found host (Some element) is in omega (arith, l, few)

  low_now : host < length trees
  low_now = let l = host_low in let g = grows_length old trees grown in omega (arith, l, g)

  root_now : tree_at trees host ≡ node h.label (row (map (tree_at trees) h.ids))
  root_now = grown_tree old trees grown host host_low ∙ h.is
      ∙ ap (λ ts. node h.label (row ts)) (sym (grown_ids old trees grown h.ids (less_held host (length old) h.ids (let l = host_low in omega (arith, l)) h.lower)))

  child_is : child ≡ get_or h.ids at child
  child_is = sym (get_or_from_slice_get h.ids at child child h.child_is)

  pub input_can : All (CanReplace shelf host at) kept
  input_can = kept_can shelf host h.label h.ids at child is_shelf low_now root_now h.within child_is (tree_at trees t.reducer.lead) (map (tree_at trees) t.reducer.tail) kept t.inserted

  pub input_tail : (new : List (Tree ℕ)) → Keeps trees new → (before after : List ℕ) → AreMade new (with_other trees host at) kept before after → AddsTail new reducers found host before after
  input_tail new g before after m =
      let i = kept_inserted shelf host h.label h.ids at child is_shelf low_now root_now h.within child_is (tree_at trees t.reducer.lead) (map (tree_at trees) t.reducer.tail) kept t.inserted new before after m in
      let same : element ≡ t.element = cc (h.found_is, t.found_is) in (
        i.made,
        i.after_is,
        record {
          element = t.element;
          reducer = t.reducer;
          found_is = is ∙ ap (λ e. Some (Some e)) same;
          reducer_is = t.reducer_is;
          inserted = told_later trees new reducers g hr t.element host t.reducer i.made t.reducer_is low_now i.inserted;
        },
      )
