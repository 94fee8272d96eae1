-- Contexts and inputs of valid instances in a small arity.
use Rattle.std.proofs.Common.{◌≡◌, ℕ, zero, suc, ◌+◌, ◌<◌, ◌≤◌, true, List, [], ◌∷◌, length, get_or, refl, sym, ap, ◌∙◌, subst, arith}
use Rattle.std.specs.List.{All}
use native.Mathlib.Decide.{ℕ_discrete}
use Rattle.labelled_trees.specs.Trees.{Tree, leaf, graft}
use Rattle.labelled_trees.specs.Contexts.{fill}
use Rattle.labelled_trees.specs.Insertions.{IsContext, item, put}
use Rattle.labelled_trees.specs.Leaves.{AllLeaves, leaf_count, occurs, one_if}
use Rattle.labelled_trees.proofs.ContextLeaves.{adds, all_of_fill}
use Rattle.labelled_trees.proofs.Counts.{leaf_count-labelled}
use Rattle.labelled_trees.proofs.Fitting.{fits-fill, fits_of_fill, fits_parts}
use Rattle.labelled_trees.proofs.GraftLeaves.{AllLeaves_of_graft, sum_leaves-graft}
use Rattle.labelled_trees.proofs.Holes.{At, hole_at}
use Rattle.labelled_trees.proofs.Insertions.{put-fill}
use Rattle.labelled_trees.proofs.Leaves.{AllLeaves-≤, at_leaf, by_leaf}
use Rattle.operad_ideals.specs.Laws.{arity}
use Rattle.symmetric_trees.specs.Generators.{parts_at}
use Rattle.symmetric_trees.specs.Trees.{Fits, IsLabelled}
use Rattle.symmetric_trees.specs.declared.generators.Generator.{Generator}
use Rattle.presentation_text.specs.Accepted.{IsDemanded}
use Rattle.presentation_text.specs.TreeReadings.{any_arity}
use Rattle.presentation_text.proofs.NestedTrees.{nested_less}

-- a tree of at most nine leaves with small numbers may be read where leaf numbers are free
demanded : (generators : List Generator) (t : Tree ℕ) → Fits generators t → leaf_count t ≤ 9 → AllLeaves t (λ n. n ≤ 99) → IsDemanded generators (any_arity true) t
demanded generators t fits narrow small =
    let deep = nested_less (arity (parts_at generators)) t fits in
    record {
      fits = fits;
      shallow = omega (arith, deep, narrow);
      narrow = narrow;
      small = small;
      numbered = λ e. absurd cc;
      least = omega (arith, deep);
      arity = λ n e. absurd cc;
    }

item-get : (ts : List (Tree ℕ)) (i : ℕ) (d : Tree ℕ) → i < length ts → item ts (suc i) ≡ get_or ts i d
item-get [] i d l = absurd (omega (arith, l))
item-get (t ∷ ts) zero d l = refl
item-get (t ∷ ts) (suc i) d l = item-get ts i d (omega (arith, l))

not_zero : (i : ℕ) → (0 ≡ i → ⊥) → one_if (ℕ_discrete 0 i) ≡ 0
not_zero i n = go (ℕ_discrete 0 i) where
  go : (d : Dec (0 ≡ i)) → one_if d ≡ 0
  go (yes e) = absurd (n e)
  go (no _) = refl

module _ (generators : List Generator) (k n : ℕ) (short : n ≤ 9) (context : Tree ℕ) (inputs : List (Tree ℕ)) (x : Tree ℕ) (is_context : IsContext context) (long : length inputs ≡ k)
    (own : IsLabelled generators k x) (placed : IsLabelled generators n (put context (graft x (item inputs)))) where
  -- the context around its hole
  filled : (c : At 0 context) → put context (graft x (item inputs)) ≡ fill c.around (graft x (item inputs))
  filled c =
      let once : occurs 0 (fill c.around (leaf 0)) ≡ 1 = subst (λ t. occurs 0 t ≡ 1) c.is is_context in
      ap (λ t. put t (graft x (item inputs))) c.is ∙ put-fill c.around (graft x (item inputs)) (omega (arith, once))

  whole : (c : At 0 context) → IsLabelled generators n (fill c.around (graft x (item inputs)))
  whole c = subst (IsLabelled generators n) (filled c) placed

  part_fits : (c : At 0 context) → Fits generators (graft x (item inputs))
  part_fits c = fits_of_fill (arity (parts_at generators)) c.around (graft x (item inputs)) (whole c).fits

  part_small : (c : At 0 context) → leaf_count (graft x (item inputs)) ≤ n
  part_small c =
      let all = leaf_count-labelled (arity (parts_at generators)) n (fill c.around (graft x (item inputs))) (whole c) in
      let a = (adds c.around (λ (i : ℕ). 1)).is (graft x (item inputs)) in
      omega (arith, all, a)

  by_hole : At 0 context → IsDemanded generators (any_arity true) context
  by_hole c =
      let all = leaf_count-labelled (arity (parts_at generators)) n (fill c.around (graft x (item inputs))) (whole c) in
      let a = adds c.around (λ (i : ℕ). 1) in
      let full = a.is (graft x (item inputs)) in
      let bare : leaf_count (fill c.around (leaf 0)) ≡ a.count + 1 = a.is (leaf 0) in
      let some = nested_less (arity (parts_at generators)) (graft x (item inputs)) (part_fits c) in
      let narrow : leaf_count (fill c.around (leaf 0)) ≤ 9 = omega (arith, all, full, bare, some, short) in
      let numbers : (i : ℕ) → 0 < occurs i (fill c.around (leaf 0)) → i ≤ 99 =
      λ i o. number i c o (ℕ_discrete 0 i) in
      subst (IsDemanded generators (any_arity true)) (sym c.is)
      (demanded generators (fill c.around (leaf 0)) (fits-fill (arity (parts_at generators)) c.around (graft x (item inputs)) (leaf 0) (whole c).fits tt) narrow
      (by_leaf (fill c.around (leaf 0)) (λ i. i ≤ 99) numbers))
    where
      number : (i : ℕ) (c : At 0 context) → 0 < occurs i (fill c.around (leaf 0)) → Dec (0 ≡ i) → i ≤ 99
      number i c o (yes e) = omega (arith, e)
      number i c o (no z) =
          let a = adds c.around (λ (m : ℕ). one_if (ℕ_discrete m i)) in
          let bare = a.is (leaf 0) in
          let full = a.is (graft x (item inputs)) in
          let none = not_zero i z in
          let w = (whole c).only i (omega (arith, o, bare, full, none)) in
          omega (arith, w, short)

  pub context_demanded : IsDemanded generators (any_arity true) context
  context_demanded = by_hole (hole_at 0 context (omega (arith, is_context)))

  by_input : At 0 context → (j : ℕ) → 0 < j → j ≤ k → IsDemanded generators (any_arity true) (item inputs j)
  by_input c j positive within =
      let there : occurs j x ≡ 1 = own.each j positive within in
      let stands : 0 < occurs j x = omega (arith, there) in
      let fits = at_leaf x (λ a. Fits generators (item inputs a)) j (fits_parts (arity (parts_at generators)) x (item inputs) (part_fits c)) stands in
      let size = sum_leaves-graft x (item inputs) (λ (i : ℕ). 1) in
      let most = part_small c in
      let counts = at_leaf x (λ a. leaf_count (item inputs a) ≤ n) j (AllLeaves-≤ x (λ a. leaf_count (item inputs a)) n (omega (arith, size, most))) stands in
      let numbers : AllLeaves (fill c.around (graft x (item inputs))) (λ i. i ≤ 99) = by_leaf (fill c.around (graft x (item inputs))) (λ i. i ≤ 99) (λ i o. let w = (whole c).only i o in omega (arith, w, short)) in
      let small = at_leaf x (λ a. AllLeaves (item inputs a) (λ i. i ≤ 99)) j
      (AllLeaves_of_graft x (item inputs) (λ i. i ≤ 99) (all_of_fill c.around (graft x (item inputs)) (λ i. i ≤ 99) numbers)) stands in
      demanded generators (item inputs j) fits (omega (arith, counts, short)) small

  pub inputs_demanded : All (IsDemanded generators (any_arity true)) inputs
  inputs_demanded j d l =
      subst (IsDemanded generators (any_arity true)) (item-get inputs j d l) (by_input (hole_at 0 context (omega (arith, is_context))) (suc j) (omega arith) (omega (arith, l, long)))
