-- Building a tree with parts at its leaves, and replacing an input.
use Rattle.std.proofs.Common.{◌≡◌, ℕ, ◌+◌, ◌<◌, ◌≤◌, zero, suc, List, [], ◌∷◌, length, map, take, set, get_or, refl, sym, ◌∙◌, ap, arith, subst, Some, slice_get, inl, inr}
use mathlib.Core.List.{◌++◌}
use native.Mathlib.Decide.{ℕ_discrete}
use Rattle.std.specs.List.{All}
use Rattle.std.proofs.lemmas.List.{map_more, take_all, length-append}
use Rattle.std.proofs.lemmas.List.Elements.{All-tail}
use Rattle.modular_sums.specs.Lists.{Mem}
use Rattle.labelled_trees.specs.Trees.{Tree, leaf, node, more, row, inputs, graft}
use Rattle.labelled_trees.specs.Leaves.{occurs, occurs_row, one_if}
use Rattle.labelled_trees.proofs.GraftLeaves.{graft_ext}
use Rattle.labelled_trees.proofs.Leaves.{by_leaf}
use Rattle.tree_store.specs.Stores.{tree_at, AddsSubtrees, IsSubtree}
use Rattle.tree_store.proofs.Subtrees.{AreInputs, inputs_more, inputs_start, adds_both, adds_for_input, subtree_of_input}
use Rattle.tree_store.proofs.Trees.{tree_at-append}
use Rattle.shuffle_sums.specs.Shelves.{Shelf, HasLeavesAmong, KeepsShelf}
use Rattle.shuffle_sums.proofs.FewTrees.{among_subtree}
use Rattle.shuffle_sums.proofs.Kept.{keeps_both, keeps_itself}
use Rattle.division.specs.Parts.{part_at, AreHeld, HasRoom, built, replaced, replaced_row}
use Rattle.division.proofs.LaidParts.{grafts_of, sum_taken, sum_taken_le}

-- the input with this number is one of the row
input_stands : (f : ℕ → Tree ℕ) (ids : List ℕ) (k i : ℕ) → k < length ids → i ≡ get_or ids k i → Mem (f i) (inputs (row (map f ids)))
input_stands f [] k i h e = absurd (omega arith)
input_stands f (j ∷ ids) zero i h e = inl (ap f e)
input_stands f (j ∷ ids) (suc k) i h e = inr (input_stands f ids k i (omega arith) e)

-- a tree is a subtree of itself
subtree_itself : (t : Tree ℕ) → IsSubtree t t
subtree_itself (leaf i) = refl
subtree_itself (node l r) = inl refl

-- What holds on the way: the shelf grew by these inputs of the tree.
pub record IsBuilding (before now : Shelf) (whole : Tree ℕ) (done : List (Tree ℕ)) (ids : List ℕ) : Type 0 where
  pub so_far : AreInputs before.trees now.trees whole done ids
  pub keeps : KeepsShelf before now
  pub keys : now.whole ≡ before.whole

pub building_none : (shelf : Shelf) (whole : Tree ℕ) → IsBuilding shelf shelf whole [] []
building_none shelf whole = record { so_far = inputs_start shelf.trees whole; keeps = keeps_itself shelf; keys = refl }

-- The tree with this id is the vertex with this label and these inputs, whose ids are less.
pub record HasInputs (trees : List (Tree ℕ)) (tree l : ℕ) (ids : List ℕ) : Type 0 where
  pub is : tree_at trees tree ≡ node l (row (map (tree_at trees) ids))
  pub lower : All (λ i. i < tree) ids

-- a root that was read, and a copy of the ids
pub copied_root : (read trees : List (Tree ℕ)) (tree l : ℕ) (inputs ids : List ℕ) → read ≡ trees → ids ≡ inputs → (tree_at read tree ≡ node l (row (map (tree_at read) inputs))) × All (λ i. i < tree) inputs → HasInputs trees tree l ids
copied_root read trees tree l inputs ids e f h = subst (λ ts. HasInputs ts tree l ids) e (subst (HasInputs read tree l) (sym f) record { is = h.0; lower = h.1 })

module _ (before : List (Tree ℕ)) (tree l : ℕ) (ids parts : List ℕ) (root : HasInputs before tree l ids)
    (low : tree < length before) (room : HasRoom parts (tree_at before tree)) (held : AreHeld before parts (tree_at before tree)) where
  -- the tree that is built
  pub whole_is : built before parts tree ≡ node l (row (map (built before parts) ids))
  whole_is = ap (λ t. graft t (part_at before parts)) root.is ∙ ap (node l) (grafts_of (tree_at before) ids (part_at before parts))

  -- the next input
  module _ (k i : ℕ) (less : k < length ids) (item : i ≡ get_or ids k i) where
    pub among : (n : ℕ) → occurs n (tree_at before i) ≤ occurs n (tree_at before tree)
    among n =
        let a = sum_taken (tree_at before) ids k i (λ m. one_if (ℕ_discrete m n)) less in
        let b = sum_taken_le (tree_at before) ids (k + 1) (λ m. one_if (ℕ_discrete m n)) in
        let e : occurs n (tree_at before (get_or ids k i)) ≡ occurs n (tree_at before i) = ap (λ j. occurs n (tree_at before j)) (sym item) in
        let w : occurs n (tree_at before tree) ≡ occurs_row n (row (map (tree_at before) ids)) = ap (occurs n) root.is in
        omega (arith, a, b, e, w)

    pub input_lower : i < tree
    input_lower = subst (λ j. j < tree) (sym item) (root.lower k i less)

    pub input_now : (added now : List (Tree ℕ)) → now ≡ before ++ added → tree_at now i ≡ tree_at before i
    input_now added now e = ap (λ ts. tree_at ts i) e ∙ tree_at-append before added i (let a = input_lower in omega (arith, a, low))

    pub part_now : (added now : List (Tree ℕ)) → now ≡ before ++ added → (n : ℕ) → 0 < occurs n (tree_at before i) → part_at now parts n ≡ part_at before parts n
    part_now added now e n o = ap (λ ts. part_at ts parts n) e ∙ tree_at-append before added (get_or parts n 0) (held n (omega (arith, o, among n)))

    pub built_now : (added now : List (Tree ℕ)) → now ≡ before ++ added → built now parts i ≡ built before parts i
    built_now added now e =
        ap (λ t. graft t (part_at now parts)) (input_now added now e)
        ∙ graft_ext (tree_at before i) (part_at now parts) (part_at before parts) (by_leaf (tree_at before i) (λ n. part_at now parts n ≡ part_at before parts n) (part_now added now e))

    longer : (added now : List (Tree ℕ)) → now ≡ before ++ added → length before ≤ length now
    longer added now e = let a = ap length e in let b = length-append before added in omega (arith, a, b)

    pub next_low : (added now : List (Tree ℕ)) → now ≡ before ++ added → i < length now
    next_low added now e = omega (arith, longer added now e, input_lower, low)

    pub next_room : (added now : List (Tree ℕ)) → now ≡ before ++ added → HasRoom parts (tree_at now i)
    next_room added now e = λ n o. room n (let a = ap (occurs n) (input_now added now e) in omega (arith, o, a, among n))

    pub next_held : (added now : List (Tree ℕ)) → now ≡ before ++ added → AreHeld now parts (tree_at now i)
    next_held added now e = λ n o. let h = held n (let a = ap (occurs n) (input_now added now e) in omega (arith, o, a, among n)) in omega (arith, longer added now e, h)

    stands : Mem (built before parts i) (inputs (row (map (built before parts) ids)))
    stands = input_stands (built before parts) ids k i less item

    pub next_belongs : (labels : List ℕ) (most : ℕ) (added now : List (Tree ℕ)) → now ≡ before ++ added → HasLeavesAmong labels most (built before parts tree) → HasLeavesAmong labels most (built now parts i)
    next_belongs labels most added now e h = subst (HasLeavesAmong labels most) (sym (built_now added now e))
        (among_subtree labels most (built before parts tree) (built before parts i)
        (subst (IsSubtree (built before parts i)) (sym whole_is) (subtree_of_input l (row (map (built before parts) ids)) (built before parts i) (built before parts i) stands (subtree_itself (built before parts i)))) h)

    -- it was built
    pub next_built : (now later : List (Tree ℕ)) (out : List ℕ) (id : ℕ) → AreInputs before now (built before parts tree) (map (built before parts) (take k ids)) out
        → AddsSubtrees now later (built now parts i) → slice_get later id ≡ Some (built now parts i)
        → AreInputs before later (built before parts tree) (map (built before parts) (take (k + 1) ids)) (out ++ (id ∷ []))
    next_built now later out id h a found =
        let same = built_now h.added.0 now h.added.1 in
        let old = subst (λ w. AreInputs before now w (map (built before parts) (take k ids)) out) whole_is h in
        let new = inputs_more before now later l (row (map (built before parts) ids)) (map (built before parts) (take k ids)) out (built before parts i) id old stands
        (subst (AddsSubtrees now later) same a) (found ∙ ap Some same) in
        let done : map (built before parts) (take (k + 1) ids) ≡ map (built before parts) (take k ids) ++ (built before parts i ∷ []) =
        map_more (built before parts) ids k i less ∙ ap (λ j. map (built before parts) (take k ids) ++ (built before parts j ∷ [])) (sym item) in
        subst (λ w. AreInputs before later w (map (built before parts) (take (k + 1) ids)) (out ++ (id ∷ []))) (sym whole_is)
        (subst (λ d. AreInputs before later (node l (row (map (built before parts) ids))) d (out ++ (id ∷ []))) (sym done) new)

    -- what was put before and for it
    pub added_so_far : (now later : List (Tree ℕ)) → AddsSubtrees before now (built before parts tree) → AddsSubtrees now later (built now parts i) → AddsSubtrees before later (built before parts tree)
    added_so_far now later h a = adds_both before now later (built before parts tree) h
        (subst (AddsSubtrees now later) (sym whole_is) (adds_for_input l (row (map (built before parts) ids)) (built before parts i) now later stands (subst (AddsSubtrees now later) (built_now h.0 now h.1) a)))

  -- the vertex, where all inputs were built
  pub vertex_is : (now : List (Tree ℕ)) (k : ℕ) (out : List ℕ) → length ids ≤ k → AreInputs before now (built before parts tree) (map (built before parts) (take k ids)) out
      → node l (row (map (tree_at now) out)) ≡ built before parts tree
  vertex_is now k out le h = ap (λ us. node l (row us)) (h.are ∙ ap (map (built before parts)) (take_all k ids le)) ∙ sym whole_is

-- the next input was built
pub building_more : (before now later : Shelf) (whole : Tree ℕ) (done later_done : List (Tree ℕ)) (ids others : List ℕ) → IsBuilding before now whole done ids → KeepsShelf now later → later.whole ≡ now.whole
    → AreInputs before.trees later.trees whole later_done others → IsBuilding before later whole later_done others
building_more before now later whole done later_done ids others h g w a = record { so_far = a; keeps = keeps_both before now later h.keeps g; keys = w ∙ h.keys }

-- ---- replacing

pub replaced_ids : (f : ℕ → Tree ℕ) (ids : List ℕ) (at x : ℕ) → row (map f (set ids at x)) ≡ replaced_row (row (map f ids)) at (f x)
replaced_ids f [] at x = refl
replaced_ids f (i ∷ ids) zero x = refl
replaced_ids f (i ∷ ids) (suc at) x = ap (more (f i)) (replaced_ids f ids at x)

pub set_held : (n : ℕ) (ids : List ℕ) (at x : ℕ) → x < n → All (λ i. i < n) ids → All (λ i. i < n) (set ids at x)
set_held n [] at x h a = a
set_held n (i ∷ ids) zero x h a = λ k d lt. first k d lt
  where
    first : (k d : ℕ) → k < length (x ∷ ids) → get_or (x ∷ ids) k d < n
    first zero d lt = h
    first (suc k) d lt = a (suc k) d lt
set_held n (i ∷ ids) (suc at) x h a = λ k d lt. rest k d lt (set_held n ids at x h (All-tail (λ j. j < n) i ids a))
  where
    rest : (k d : ℕ) → k < length (i ∷ set ids at x) → All (λ j. j < n) (set ids at x) → get_or (i ∷ set ids at x) k d < n
    rest zero d lt b = a 0 d (omega arith)
    rest (suc k) d lt b = b k d (omega arith)

pub less_held : (m n : ℕ) (ids : List ℕ) → m ≤ n → All (λ i. i < m) ids → All (λ i. i < n) ids
less_held m n ids h a = λ k d lt. let b = a k d lt in omega (arith, b, h)

pub replaced_vertex : (trees : List (Tree ℕ)) (host l : ℕ) (ids : List ℕ) (at x : ℕ) (new : List ℕ) → HasInputs trees host l ids → new ≡ set ids at x
    → node l (row (map (tree_at trees) new)) ≡ replaced (tree_at trees host) at (tree_at trees x)
replaced_vertex trees host l ids at x new root e =
    ap (λ is. node l (row (map (tree_at trees) is))) e ∙ ap (node l) (replaced_ids (tree_at trees) ids at x) ∙ ap (λ t. replaced t at (tree_at trees x)) (sym root.is)
