-- Trees that are made one after the other, while the store grows.
use Rattle.std.proofs.Common.{◌≡◌, ℕ, ◌+◌, ◌<◌, ◌≤◌, zero, suc, List, [], ◌∷◌, length, map, take, get_or, refl, sym, ◌∙◌, ap, arith, subst, Some, slice_get}
use mathlib.Core.List.{◌++◌}
use mathlib.Core.Path.{ap₂}
use Rattle.std.specs.List.{All}
use Rattle.std.proofs.lemmas.List.{map_more, map-append, take_all, length-append, append_assoc, append-nil}
use Rattle.std.proofs.lemmas.List.Elements.{All-head, All-tail, All-push}
use Rattle.std.proofs.lemmas.Option.{slice_get_within, get_or_from_slice_get}
use Rattle.labelled_trees.specs.Trees.{Tree, leaf, graft}
use Rattle.labelled_trees.specs.Leaves.{occurs}
use Rattle.labelled_trees.proofs.GraftLeaves.{graft_ext}
use Rattle.labelled_trees.proofs.Leaves.{by_leaf}
use Rattle.shuffle_insertions.specs.Frames.{insert}
use Rattle.shuffle_places.specs.Places.{frame_at}
use Rattle.shuffle_places.specs.Cuts.{numbers}
use Rattle.tree_store.specs.Stores.{tree_at}
use Rattle.tree_store.proofs.Trees.{tree_at-append, ids-append, mem_at}
use Rattle.shuffle_sums.specs.Putting.{Keeps}
use Rattle.shuffle_sums.specs.Shelves.{Shelf, HasLeavesAmong, IsShelf, KeepsShelf}
use Rattle.shuffle_sums.proofs.Kept.{keeps_both, keeps_itself}
use Rattle.shuffle_places.specs.RootPlaces.{DividesRoot}
use Rattle.shuffle_places.proofs.RootPlaces.{root_place, root_insert}
use Rattle.division.specs.Parts.{part_at, AreHeld, built, replaced}
use Rattle.division.specs.Insertions.{CanBuild, with_other, AreMade, AddsInsertion, IsReducer}
use Rattle.division.specs.declared.reducer.Reducer.{Reducer}
use Rattle.division.proofs.WholeTrees.{root_leaves, root_belongs}

-- ---- growing stores

pub grows_same : (trees : List (Tree ℕ)) → Keeps trees trees
grows_same trees = ([], sym (append-nil trees))

pub grows_both : (a b c : List (Tree ℕ)) → Keeps a b → Keeps b c → Keeps a c
grows_both a b c h g = (h.0 ++ g.0, g.1 ∙ ap (λ ts. ts ++ g.0) h.1 ∙ append_assoc a h.0 g.0)

pub grows_length : (a b : List (Tree ℕ)) → Keeps a b → length a ≤ length b
grows_length a b h = let e = ap length h.1 in let l = length-append a h.0 in omega (arith, e, l)

pub grown_tree : (a b : List (Tree ℕ)) → Keeps a b → (id : ℕ) → id < length a → tree_at b id ≡ tree_at a id
grown_tree a b h id lt = ap (λ ts. tree_at ts id) h.1 ∙ tree_at-append a h.0 id lt

pub grown_ids : (a b : List (Tree ℕ)) → Keeps a b → (ids : List ℕ) → All (λ i. i < length a) ids → map (tree_at b) ids ≡ map (tree_at a) ids
grown_ids a b h ids k = ap (λ ts. map (tree_at ts) ids) h.1 ∙ ids-append a h.0 ids k

pub grown_held : (a b : List (Tree ℕ)) → Keeps a b → (ids : List ℕ) → All (λ i. i < length a) ids → All (λ i. i < length b) ids
grown_held a b h ids k = λ n d lt. let x = k n d lt in let l = grows_length a b h in omega (arith, x, l)

pub grown_built : (a b : List (Tree ℕ)) (parts : List ℕ) (t : ℕ) → Keeps a b → t < length a → AreHeld a parts (tree_at a t) → built b parts t ≡ built a parts t
grown_built a b parts t h low held =
    ap (λ u. graft u (part_at b parts)) (grown_tree a b h t low)
    ∙ graft_ext (tree_at a t) (part_at b parts) (part_at a parts) (by_leaf (tree_at a t) (λ n. part_at b parts n ≡ part_at a parts n) (λ n o. grown_tree a b h (get_or parts n 0) (held n o)))

-- what belongs to a shelf belongs to a later one
pub belongs_later : (a b : Shelf) → KeepsShelf a b → (t : Tree ℕ) → HasLeavesAmong a.labels a.most t → HasLeavesAmong b.labels b.most t
belongs_later a b h t c = subst (λ ls. HasLeavesAmong ls b.most t) (sym h.labels) (subst (λ n. HasLeavesAmong a.labels n t) (sym h.most) c)

-- the trees of a shelf belong to it
pub held_belongs : (shelf : Shelf) (id : ℕ) → IsShelf shelf → id < length shelf.trees → HasLeavesAmong shelf.labels shelf.most (tree_at shelf.trees id)
held_belongs shelf id h low = h.among (tree_at shelf.trees id) (mem_at shelf.trees id (leaf 0) low)

pub can_later : (a b : Shelf) (parts : List ℕ) (t : ℕ) → KeepsShelf a b → CanBuild a parts t → CanBuild b parts t
can_later a b parts t h c =
    let l = grows_length a.trees b.trees h.trees in
    let e = grown_tree a.trees b.trees h.trees t c.low in
    record {
      low = let x = c.low in omega (arith, x, l);
      room = λ n o. c.room n (subst (λ u. 0 < occurs n u) e o);
      held = λ n o. let x = c.held n (subst (λ u. 0 < occurs n u) e o) in omega (arith, x, l);
      belongs = subst (HasLeavesAmong b.labels b.most) (sym (grown_built a.trees b.trees parts t h.trees c.low c.held)) (belongs_later a b h (built a.trees parts t) c.belongs);
    }

pub grown_other : (a b : List (Tree ℕ)) (host at other : ℕ) → Keeps a b → host < length a → other < length a → with_other b host at other ≡ with_other a host at other
grown_other a b host at other h l m = ap₂ (λ t u. replaced t at u) (grown_tree a b h host l) (grown_tree a b h other m)

-- ---- one more tree

-- What holds on the way: the shelf grew, and the trees of these things were made.
pub record IsMaking (old now : Shelf) (f : ℕ → Tree ℕ) (things before after : List ℕ) : Type 0 where
  pub keeps : KeepsShelf old now
  pub keys : now.whole ≡ old.whole
  pub shelf : IsShelf now
  pub so_far : AreMade now.trees f things before after

pub making_none : (old : Shelf) (f : ℕ → Tree ℕ) (out : List ℕ) → IsShelf old → IsMaking old old f [] out out
making_none old f out s = record {
  keeps = keeps_itself old;
  keys = refl;
  shelf = s;
  so_far = record { made = []; after_is = sym (append-nil out); held = λ n d lt. absurd (omega arith); are = refl };
}

made_more : (now later : List (Tree ℕ)) (f : ℕ → Tree ℕ) (things before after : List ℕ) (k x id : ℕ) → AreMade now f (take k things) before after → k < length things → x ≡ get_or things k x
    → Keeps now later → slice_get later id ≡ Some (f x) → AreMade later f (take (k + 1) things) before (after ++ (id ∷ []))
made_more now later f things before after k x id h lt e g found = record {
  made = h.made ++ (id ∷ []);
  after_is = ap (λ l. l ++ (id ∷ [])) h.after_is ∙ append_assoc before h.made (id ∷ []);
  held = All-push (λ i. i < length later) h.made id (grown_held now later g h.made h.held) (slice_get_within later id (f x) found);
  are =
      map-append (tree_at later) h.made (id ∷ [])
      ∙ ap₂ (λ ts t. ts ++ (t ∷ [])) (grown_ids now later g h.made h.held ∙ h.are) (get_or_from_slice_get later id (f x) (leaf 0) found ∙ ap f e)
      ∙ sym (map_more f things k x lt);
}

pub making_more : (old now later : Shelf) (f : ℕ → Tree ℕ) (things before after : List ℕ) (k x id : ℕ) → IsMaking old now f (take k things) before after → k < length things → x ≡ get_or things k x
    → KeepsShelf now later → later.whole ≡ now.whole → IsShelf later → slice_get later.trees id ≡ Some (f x) → IsMaking old later f (take (k + 1) things) before (after ++ (id ∷ []))
making_more old now later f things before after k x id h lt e g w s found = record {
  keeps = keeps_both old now later h.keeps g;
  keys = w ∙ h.keys;
  shelf = s;
  so_far = made_more now.trees later.trees f things before after k x id h.so_far lt e g.trees found;
}

pub making_all : (old now : Shelf) (f : ℕ → Tree ℕ) (things before after : List ℕ) (k : ℕ) → IsMaking old now f (take k things) before after → length things ≤ k → AreMade now.trees f things before after
making_all old now f things before after k h le = subst (λ l. AreMade now.trees f l before after) (take_all k things le) h.so_far

-- ---- an insertion at the root

pub same_lists : (f g : ℕ → Tree ℕ) (ids : List ℕ) → All (λ i. f i ≡ g i) ids → map f ids ≡ map g ids
same_lists f g [] h = refl
same_lists f g (i ∷ ids) h = ap₂ (λ t ts. t ∷ ts) (All-head (λ j. f j ≡ g j) i ids h) (same_lists f g ids (All-tail (λ j. f j ≡ g j) i ids h))

pub map_map : (f : Tree ℕ → Tree ℕ) (g : ℕ → Tree ℕ) (ids : List ℕ) → map f (map g ids) ≡ map (λ i. f (g i)) ids
map_map f g [] = refl
map_map f g (i ∷ ids) = ap (λ ts. f (g i) ∷ ts) (map_map f g ids)

-- what holds of the trees of a list holds at each id
pub on_ids : (trees : List (Tree ℕ)) (P : Tree ℕ → Type 0) (f : ℕ → Tree ℕ) (made things : List ℕ) → map (tree_at trees) made ≡ map f things → All (λ i. P (f i)) things → All (λ i. P (tree_at trees i)) made
on_ids trees P f [] things e h = λ n d lt. absurd (omega arith)
on_ids trees P f (i ∷ made) [] e h = absurd (cc e)
on_ids trees P f (i ∷ made) (x ∷ things) e h = λ n d lt. at n d lt (on_ids trees P f made things (cc e) (All-tail (λ j. P (f j)) x things h))
  where
    first : tree_at trees i ≡ f x
    first = cc e

    at : (n d : ℕ) → n < length (i ∷ made) → All (λ j. P (tree_at trees j)) made → P (tree_at trees (get_or (i ∷ made) n d))
    at zero d lt r = subst P (sym first) (All-head (λ j. P (f j)) x things h)
    at (suc n) d lt r = r n d (omega arith)

module _ (shelf : Shelf) (r : Reducer) (host : ℕ) (parts : List ℕ) (is_shelf : IsShelf shelf) (h : IsReducer shelf.trees r) (low : host < length shelf.trees)
    (d : DividesRoot r.arity (tree_at shelf.trees r.lead) (tree_at shelf.trees host) (part_at shelf.trees parts)) where
  abbrev old : List (Tree ℕ)
  old = shelf.trees

  host_belongs : HasLeavesAmong shelf.labels shelf.most (tree_at old host)
  host_belongs = held_belongs shelf host is_shelf low

  pub tail_can : r.arity < length parts → ((i : ℕ) → 0 < i → i ≤ r.arity → get_or parts i 0 < length old) → All (CanBuild shelf parts) r.tail
  tail_can room held = λ n e lt.
      let t = get_or r.tail n e in
      let y = h.tail_valid n e lt in
      record {
        low = h.tail_low n e lt;
        room = λ i o. let q = y.only i o in omega (arith, q.1, room);
        held = λ i o. let q = y.only i o in held i q.0 q.1;
        belongs = root_belongs r.arity (tree_at old r.lead) (tree_at old host) (part_at old parts) host_belongs.valid h.lead_valid d (tree_at old t) y shelf.labels shelf.most host_belongs
            (held_belongs shelf t is_shelf (h.tail_low n e lt));
      }

  pub root_inserted : (new : List (Tree ℕ)) (before after : List ℕ) → AreMade new (built old parts) r.tail before after → AddsInsertion new (tree_at old host) (tree_at old r.lead) (map (tree_at old) r.tail) before after
  root_inserted new before after m = record {
    made = m.made;
    after_is = m.after_is;
    inserted = record {
      set = numbers (part_at old parts) 1 (tree_at old r.lead);
      place = root_place r.arity (tree_at old host) (tree_at old r.lead) host_belongs.valid.rising h.lead_valid h.lead_node (part_at old parts) d;
      held = m.held;
      are = m.are
          ∙ same_lists (built old parts) (λ i. insert (frame_at (numbers (part_at old parts) 1 (tree_at old r.lead)) (tree_at old host)) (tree_at old i)) r.tail
          (λ n e lt. sym (root_insert r.arity (tree_at old host) (tree_at old r.lead) host_belongs.valid.rising h.lead_valid h.lead_node (part_at old parts) d (tree_at old (get_or r.tail n e)) (h.tail_valid n e lt)))
          ∙ sym (map_map (insert (frame_at (numbers (part_at old parts) 1 (tree_at old r.lead)) (tree_at old host))) (tree_at old) r.tail);
      leaves = on_ids new (λ t. (n : ℕ) → occurs n t ≡ occurs n (tree_at old host)) (built old parts) m.made r.tail m.are
          (λ n e lt. root_leaves r.arity (tree_at old r.lead) (tree_at old host) (part_at old parts) host_belongs.valid h.lead_valid d (tree_at old (get_or r.tail n e)) (h.tail_valid n e lt));
    };
  }
