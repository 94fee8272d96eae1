-- What insertion in an input makes.
use Rattle.std.proofs.Common.{◌≡◌, ℕ, ◌<◌, ◌≤◌, zero, suc, List, [], ◌∷◌, length, map, get_or, refl, sym, ◌∙◌, ap, arith, subst}
use mathlib.Core.List.{◌++◌}
use mathlib.Core.Path.{ap₂}
use native.Mathlib.Decide.{ℕ_discrete}
use Rattle.std.specs.List.{All}
use Rattle.std.proofs.lemmas.List.{length-map, get_or-map}
use Rattle.labelled_trees.specs.Trees.{Tree, leaf, node, more, row}
use Rattle.labelled_trees.specs.Contexts.{Ctx, hole, inside, fill}
use Rattle.labelled_trees.specs.Leaves.{occurs, one_if}
use Rattle.labelled_trees.specs.Labelled.{Fits}
use Rattle.labelled_trees.proofs.ContextLeaves.{sum-fill}
use Rattle.labelled_trees.proofs.Fitting.{fits-fill}
use Rattle.labelled_trees.proofs.Rows.{width-replace}
use Rattle.shuffle_insertions.specs.ShuffleTrees.{IsRising}
use Rattle.shuffle_insertions.specs.Frames.{insert}
use Rattle.shuffle_insertions.proofs.Rising.{rising-fill, least_same}
use Rattle.shuffle_places.specs.Places.{frame_at}
use Rattle.shuffle_trees.specs.ValidTrees.{IsValid, IsWide, AreWide}
use Rattle.shuffle_trees.specs.LabelLists.{arity_in}
use Rattle.tree_store.specs.Stores.{tree_at}
use Rattle.tree_store.proofs.Subtrees.{valid_input}
use Rattle.shuffle_places.specs.RootPlaces.{count_before, shifted}
use Rattle.shuffle_places.proofs.InputPlaces.{place_in_input, insert_in_input, stands_there}
use Rattle.shuffle_places.proofs.Shifts.{among, fill_row-among}
use Rattle.shuffle_sums.specs.Shelves.{Shelf, HasLeavesAmong, IsShelf}
use Rattle.division.specs.Parts.{replaced, replaced_row}
use Rattle.division.specs.Insertions.{CanReplace, with_other, AreMade, AreInserted, AddsInsertion}
use Rattle.division.proofs.MadeTrees.{same_lists, map_map, on_ids, held_belongs}
use Rattle.division.proofs.WholeTrees.{valid_zero}

-- a list around one of its entries
record Around (ts : List (Tree ℕ)) (at : ℕ) (t : Tree ℕ) : Type 0 where
  front : List (Tree ℕ)
  back : List (Tree ℕ)
  is : ts ≡ front ++ (t ∷ back)
  size : length front ≡ at

around : (ts : List (Tree ℕ)) (at : ℕ) (d : Tree ℕ) → at < length ts → Around ts at (get_or ts at d)
around [] at d h = absurd (omega arith)
around (t ∷ ts) zero d h = record { front = []; back = ts; is = refl; size = refl }
around (t ∷ ts) (suc at) d h = let a = around ts at d (omega arith) in record { front = t ∷ a.front; back = a.back; is = ap (λ us. t ∷ us) a.is; size = ap suc a.size }

replaced_row-append : (front : List (Tree ℕ)) (t : Tree ℕ) (back : List (Tree ℕ)) (x : Tree ℕ) → replaced_row (row (front ++ (t ∷ back))) (length front) x ≡ row (front ++ (x ∷ back))
replaced_row-append [] t back x = refl
replaced_row-append (u ∷ front) t back x = ap (more u) (replaced_row-append front t back x)

wide_other : (front : List (Tree ℕ)) (t x : Tree ℕ) (back : List (Tree ℕ)) → IsWide x → AreWide (row (front ++ (t ∷ back))) → AreWide (row (front ++ (x ∷ back)))
wide_other [] t x back w h = (w, h.1)
wide_other (u ∷ front) t x back w h = (h.0, wide_other front t x back w h.1)

-- an input is replaced by a tree with the same leaves
module _ (l : ℕ) (front : List (Tree ℕ)) (t x : Tree ℕ) (back : List (Tree ℕ)) (valid : IsValid (node l (row (front ++ (t ∷ back))))) (hx : IsValid x) (same : (n : ℕ) → occurs n x ≡ occurs n t) where
  ctx : Ctx ℕ
  ctx = inside l (among front hole back)

  filled : (y : Tree ℕ) → fill ctx y ≡ node l (row (front ++ (y ∷ back)))
  unfolding ctx
  filled y = ap (node l) (fill_row-among front hole back y)

  pub other_leaves : (n : ℕ) → occurs n (node l (row (front ++ (x ∷ back)))) ≡ occurs n (node l (row (front ++ (t ∷ back))))
  other_leaves n = ap (occurs n) (sym (filled x)) ∙ sum-fill ctx x t (λ m. one_if (ℕ_discrete m n)) (same n) ∙ ap (occurs n) (filled t)

  other_valid : IsValid (node l (row (front ++ (x ∷ back))))
  other_valid = record {
    wide = (subst (λ n. 2 ≤ n) (width-replace front t x back) valid.wide.0, wide_other front t x back hx.wide valid.wide.1);
    rising = subst IsRising (filled x) (rising-fill ctx t x (least_same t x (valid_input l (row (front ++ (t ∷ back))) t valid (stands_there front t back)).rising hx.rising (λ n. sym (same n))) hx.rising
        (subst IsRising (sym (filled t)) valid.rising));
    once = λ i. let e = other_leaves i in let o = valid.once i in omega (arith, e, o);
    only = λ i o. let e = other_leaves i in valid.only i (omega (arith, e, o));
  }

  pub other_belongs : (labels : List ℕ) (most : ℕ) → HasLeavesAmong labels most (node l (row (front ++ (t ∷ back)))) → Fits (arity_in labels) x → HasLeavesAmong labels most (node l (row (front ++ (x ∷ back))))
  other_belongs labels most h own = record {
    fits = subst (Fits (arity_in labels)) (filled x) (fits-fill (arity_in labels) ctx t x (subst (Fits (arity_in labels)) (sym (filled t)) h.fits) own);
    valid = other_valid;
    among = λ i o. h.among i (let e = other_leaves i in omega (arith, e, o));
  }

module _ (shelf : Shelf) (host l : ℕ) (ids : List ℕ) (at child : ℕ) (is_shelf : IsShelf shelf) (low : host < length shelf.trees) (is : tree_at shelf.trees host ≡ node l (row (map (tree_at shelf.trees) ids)))
    (less : at < length ids) (child_is : child ≡ get_or ids at child) (lead : Tree ℕ) (tail : List (Tree ℕ)) (kept : List ℕ) (h : AreInserted shelf.trees (tree_at shelf.trees child) lead tail kept) where
  abbrev old : List (Tree ℕ)
  old = shelf.trees

  entry : get_or (map (tree_at old) ids) at (leaf 0) ≡ tree_at old child
  entry = get_or-map (tree_at old) ids at child (leaf 0) less ∙ ap (tree_at old) (sym child_is)

  parts : Around (map (tree_at old) ids) at (tree_at old child)
  parts = subst (Around (map (tree_at old) ids) at) entry (around (map (tree_at old) ids) at (leaf 0) (let e = length-map ids (tree_at old) in omega (arith, e, less)))

  with_this : Tree ℕ → Tree ℕ
  with_this x = node l (row (parts.front ++ (x ∷ parts.back)))

  host_is : tree_at old host ≡ with_this (tree_at old child)
  unfolding with_this
  host_is = is ∙ ap (λ ts. node l (row ts)) parts.is

  other_is : (x : ℕ) → with_other old host at x ≡ with_this (tree_at old x)
  unfolding with_this
  other_is x =
      ap (λ t. replaced t at (tree_at old x)) host_is
      ∙ ap (λ k. node l (replaced_row (row (parts.front ++ (tree_at old child ∷ parts.back))) k (tree_at old x))) (sym parts.size)
      ∙ ap (node l) (replaced_row-append parts.front (tree_at old child) parts.back (tree_at old x))

  host_belongs : HasLeavesAmong shelf.labels shelf.most (with_this (tree_at old child))
  host_belongs = subst (HasLeavesAmong shelf.labels shelf.most) host_is (held_belongs shelf host is_shelf low)

  kept_belongs : (n d : ℕ) → n < length kept → HasLeavesAmong shelf.labels shelf.most (tree_at old (get_or kept n d))
  kept_belongs n d lt = held_belongs shelf (get_or kept n d) is_shelf (h.held n d lt)

  pub kept_can : All (CanReplace shelf host at) kept
  unfolding with_this
  kept_can = λ n d lt. record {
    low = h.held n d lt;
    belongs = subst (HasLeavesAmong shelf.labels shelf.most) (sym (other_is (get_or kept n d)))
        (other_belongs l parts.front (tree_at old child) (tree_at old (get_or kept n d)) parts.back host_belongs.valid (kept_belongs n d lt).valid (h.leaves n d lt) shelf.labels shelf.most host_belongs
        (kept_belongs n d lt).fits);
  }

  child_zero : occurs 0 (tree_at old child) ≡ 0
  unfolding with_this
  child_zero = valid_zero (tree_at old child) (valid_input l (row (parts.front ++ (tree_at old child ∷ parts.back))) (tree_at old child) host_belongs.valid (stands_there parts.front (tree_at old child) parts.back))

  moved_in : (ys : List (Tree ℕ)) → map with_this (map (insert (frame_at h.set (tree_at old child))) ys) ≡ map (insert (frame_at (shifted (count_before parts.front) h.set) (with_this (tree_at old child)))) ys
  unfolding with_this
  moved_in [] = refl
  moved_in (y ∷ ys) = ap₂ (λ t ts. t ∷ ts)
      (sym (insert_in_input l parts.front (tree_at old child) parts.back h.set lead h.place (valid_zero (with_this (tree_at old child)) host_belongs.valid) child_zero y))
      (moved_in ys)

  pub kept_inserted : (new : List (Tree ℕ)) (before after : List ℕ) → AreMade new (with_other old host at) kept before after → AddsInsertion new (tree_at old host) lead tail before after
  unfolding with_this
  kept_inserted new before after m = record {
    made = m.made;
    after_is = m.after_is;
    inserted = subst (λ t. AreInserted new t lead tail m.made) (sym host_is) record {
      set = shifted (count_before parts.front) h.set;
      place = place_in_input l parts.front (tree_at old child) parts.back h.set lead h.place;
      held = m.held;
      are =
          m.are ∙ same_lists (with_other old host at) (λ x. with_this (tree_at old x)) kept (λ n d lt. other_is (get_or kept n d))
          ∙ sym (map_map with_this (tree_at old) kept) ∙ ap (map with_this) h.are
          ∙ moved_in tail;
      leaves = on_ids new (λ t. (n : ℕ) → occurs n t ≡ occurs n (with_this (tree_at old child))) (with_other old host at) m.made kept m.are
          (λ n d lt. λ i. ap (occurs i) (other_is (get_or kept n d)) ∙ other_leaves l parts.front (tree_at old child) (tree_at old (get_or kept n d)) parts.back host_belongs.valid (kept_belongs n d lt).valid (h.leaves n d lt) i);
    };
  }
