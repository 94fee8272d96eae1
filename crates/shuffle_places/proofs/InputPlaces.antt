-- Places in the inputs of a vertex.
use Rattle.std.proofs.Common.{◌≡◌, ℕ, ◌+◌, List, [], ◌∷◌, refl, sym, ◌∙◌, ap, arith, subst, inl, inr, ◌⊎◌}
use mathlib.Core.List.{◌++◌}
use mathlib.Core.Path.{ap₂}
use Rattle.modular_sums.specs.Lists.{Mem}
use Rattle.labelled_trees.specs.Trees.{Tree, Row, leaf, node, none, more, graft, join, row, inputs, IsNode, vertices_row}
use Rattle.labelled_trees.specs.Contexts.{Ctx, hole, inside, fill, fill_row}
use Rattle.labelled_trees.specs.Leaves.{occurs}
use Rattle.labelled_trees.specs.Insertions.{item}
use Rattle.labelled_trees.proofs.Insertions.{put-fill}
use Rattle.labelled_trees.proofs.ContextLeaves.{zero_once}
use Rattle.shuffle_insertions.specs.Frames.{insert}
use Rattle.shuffle_places.specs.Cuts.{numbers, start, start_row, IsCut}
use Rattle.shuffle_places.specs.Places.{divisor_of, pattern_inputs, frame_at, IsPlace}
use Rattle.shuffle_places.proofs.Places.{of_pattern, place_of_cut, cut_of_place}
use Rattle.shuffle_places.proofs.Covers.{root_mem}
use Rattle.shuffle_places.specs.RootPlaces.{IsInInput, count_before, shifted}
use Rattle.shuffle_places.proofs.Shifts.{numbers-shift, start-shift, among, fill_row-among, start_row-among, as_among}

-- the frame at a place that a context and a pattern make
pub frame_of_cut : (c : Ctx ℕ) (p : Tree (Tree ℕ)) → IsNode p
    → frame_at (numbers (λ v. v) (start 1 c) p) (fill c (join p)) ≡ record { hole = fill c (leaf 0); inputs = pattern_inputs p }
frame_of_cut c p n = let o = of_pattern c p n in ap₂ (λ h q. record { hole = h; inputs = pattern_inputs q }) o.1 o.0

-- insertion at such a place
pub insert_at_cut : (c : Ctx ℕ) (p : Tree (Tree ℕ)) → IsNode p → occurs 0 (fill c (join p)) ≡ 0 → (y : Tree ℕ)
    → insert (frame_at (numbers (λ v. v) (start 1 c) p) (fill c (join p))) y ≡ fill c (graft y (item (pattern_inputs p)))
insert_at_cut c p n z y =
    ap (λ f. insert f y) (frame_of_cut c p n)
    ∙ put-fill c (graft y (item (pattern_inputs p))) (let o = (zero_once c (join p) z).0 in omega (arith, o))

-- a tree and a set of vertices that a context and a pattern make
insert_at : (t : Tree ℕ) (set : List ℕ) (c : Ctx ℕ) (p : Tree (Tree ℕ)) → IsNode p → t ≡ fill c (join p) → set ≡ numbers (λ v. v) (start 1 c) p → occurs 0 t ≡ 0 → (y : Tree ℕ)
    → insert (frame_at set t) y ≡ fill c (graft y (item (pattern_inputs p)))
insert_at t set c p n e f z y = ap (λ g. insert g y) (ap₂ frame_at f e) ∙ insert_at_cut c p n (ap (occurs 0) (sym e) ∙ z) y

-- the numbers of an input's pattern are shifted ones
among_numbers : (front : List (Tree ℕ)) (c : Ctx ℕ) (back : List (Tree ℕ)) (p : Tree (Tree ℕ))
    → numbers (λ v. v) (start_row 2 (among front c back)) p ≡ shifted (count_before front) (numbers (λ v. v) (start 1 c) p)
among_numbers front c back p =
    let e : 2 + vertices_row (row front) ≡ count_before front + 1 = omega arith in
    ap (λ k. numbers (λ v. v) k p) (start_row-among 2 front c back ∙ ap (λ j. start j c) e ∙ start-shift (count_before front) 1 c)
    ∙ numbers-shift (λ v. v) (count_before front) (start 1 c) p

module _ (l : ℕ) (front : List (Tree ℕ)) (t : Tree ℕ) (back : List (Tree ℕ)) (set : List ℕ) (d : Tree ℕ) (place : IsPlace t set d) where
  cut_in_input : IsCut (node l (row (front ++ (t ∷ back)))) (shifted (count_before front) set) d
  cut_in_input =
      let p = cut_of_place t set d place in
      record {
        context = inside l (among front p.context back);
        pattern_at = p.pattern_at;
        is_node = p.is_node;
        host_is = ap (λ x. node l (row (front ++ (x ∷ back)))) p.host_is ∙ ap (node l) (sym (fill_row-among front p.context back (join p.pattern_at)));
        set_is = ap (shifted (count_before front)) p.set_is ∙ sym (among_numbers front p.context back p.pattern_at);
        divisor_is = p.divisor_is;
      }

  pub place_in_input : IsPlace (node l (row (front ++ (t ∷ back)))) (shifted (count_before front) set) d
  place_in_input = place_of_cut (node l (row (front ++ (t ∷ back)))) (shifted (count_before front) set) d cut_in_input

  pub insert_in_input : occurs 0 (node l (row (front ++ (t ∷ back)))) ≡ 0 → occurs 0 t ≡ 0 → (y : Tree ℕ)
      → insert (frame_at (shifted (count_before front) set) (node l (row (front ++ (t ∷ back))))) y ≡ node l (row (front ++ (insert (frame_at set t) y ∷ back)))
  insert_in_input z w y =
      let p = cut_of_place t set d place in
      insert_at (node l (row (front ++ (t ∷ back)))) (shifted (count_before front) set) (inside l (among front p.context back)) p.pattern_at p.is_node
      (ap (λ x. node l (row (front ++ (x ∷ back)))) p.host_is ∙ ap (node l) (sym (fill_row-among front p.context back (join p.pattern_at))))
      (ap (shifted (count_before front)) p.set_is ∙ sym (among_numbers front p.context back p.pattern_at)) z y
      ∙ ap (node l) (fill_row-among front p.context back (graft y (item (pattern_inputs p.pattern_at))))
      ∙ ap (λ x. node l (row (front ++ (x ∷ back)))) (sym (insert_at t set p.context p.pattern_at p.is_node p.host_is p.set_is w y))

-- ---- each place has the root or lies in an input

split_cut : (l : ℕ) (r : Row ℕ) (set : List ℕ) (d : Tree ℕ) (c : Ctx ℕ) (p : Tree (Tree ℕ)) → IsNode p → node l r ≡ fill c (join p) → set ≡ numbers (λ v. v) (start 1 c) p → d ≡ divisor_of p
    → Mem 1 set ⊎ IsInInput r set d
split_cut l r set d hole p n e f g = inl (subst (Mem 1) (sym f) (root_mem (λ v. v) 1 p n))
split_cut l r set d (inside m c) p n e f g =
    let a = as_among c in
    let row_is : r ≡ fill_row c (join p) = cc e in
    inr record {
      front = a.front;
      input = fill a.inner (join p);
      back = a.back;
      inner = numbers (λ v. v) (start 1 a.inner) p;
      row_is = row_is ∙ ap (λ x. fill_row x (join p)) a.is ∙ fill_row-among a.front a.inner a.back (join p);
      set_is = f ∙ ap (λ x. numbers (λ v. v) (start_row 2 x) p) a.is ∙ among_numbers a.front a.inner a.back p;
      place = place_of_cut (fill a.inner (join p)) (numbers (λ v. v) (start 1 a.inner) p) d record { context = a.inner; pattern_at = p; is_node = n; host_is = refl; set_is = refl; divisor_is = g };
    }

pub split_place : (l : ℕ) (r : Row ℕ) (set : List ℕ) (d : Tree ℕ) → IsPlace (node l r) set d → Mem 1 set ⊎ IsInInput r set d
split_place l r set d h = let p = cut_of_place (node l r) set d h in split_cut l r set d p.context p.pattern_at p.is_node p.host_is p.set_is p.divisor_is

no_cut : (i : ℕ) (c : Ctx ℕ) (p : Tree (Tree ℕ)) → IsNode p → leaf i ≡ fill c (join p) → ⊥
no_cut i hole (leaf t) n e = n
no_cut i hole (node l r) n e = cc e
no_cut i (inside l c) p n e = cc e

pub leaf_no_place : (i : ℕ) (set : List ℕ) (d : Tree ℕ) → IsPlace (leaf i) set d → ⊥
leaf_no_place i set d h = let p = cut_of_place (leaf i) set d h in no_cut i p.context p.pattern_at p.is_node p.host_is

-- ---- the inputs of a row

-- an input with those before and behind it
pub record Standing (r : Row ℕ) (t : Tree ℕ) : Type 0 where
  pub front : List (Tree ℕ)
  pub back : List (Tree ℕ)
  pub is : r ≡ row (front ++ (t ∷ back))

pub standing : (r : Row ℕ) (t : Tree ℕ) → Mem t (inputs r) → Standing r t
standing none t m = absurd m
standing (more u r) t (inl e) = record { front = []; back = inputs r; is = ap₂ more (sym e) (sym (rows r)) }
  where
    rows : (s : Row ℕ) → row (inputs s) ≡ s
    rows none = refl
    rows (more w s) = ap (more w) (rows s)
standing (more u r) t (inr m) = let a = standing r t m in record { front = u ∷ a.front; back = a.back; is = ap (more u) a.is }

pub stands_there : (front : List (Tree ℕ)) (t : Tree ℕ) (back : List (Tree ℕ)) → Mem t (inputs (row (front ++ (t ∷ back))))
stands_there [] t back = inl refl
stands_there (u ∷ front) t back = inr (stands_there front t back)
