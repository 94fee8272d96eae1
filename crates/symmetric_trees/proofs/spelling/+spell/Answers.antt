use Rattle.std.proofs.Common.{◌≡◌, ◌∙◌, ◌++◌, ◌∷◌, ◌+◌, ◌<◌, ◌≤◌, ℕ, List, length, map, take, drop, sym, ap, arith, refl, subst, rules, length-drop, []}
use Rattle.std.proofs.Math.Seq.{take-append_seam}
use Rattle.std.proofs.lemmas.List.{take_all, length-map}
use Rattle.std.proofs.lemmas.List.Elements.{All-from_recursion}
use Rattle.std.proofs.lemmas.List.Sums.{get_or-le-sum_by}
use Rattle.std.specs.List.{AllByRecursion, sum_by}
use native.Mathlib.Decide.{ℕ_discrete}
use Rattle.labelled_trees.specs.Leaves.{occurs, one_if}
use Rattle.labelled_trees.specs.Trees.{row}
use Rattle.labelled_trees.specs.Meaning.{tree_of}
use Rattle.labelled_trees.specs.declared.Tree as program
use Rattle.labelled_trees.specs.declared.Tree.TheVariants.{Node}
use Rattle.labelled_trees.specs.declared.Tree.TheViews.{the_lemmas}
use Rattle.labelled_trees.proofs.ProgramTrees.{fits-inputs, sum_leaves-node}
use Rattle.operad_ideals.specs.Laws.{arity}
use Rattle.operad_ideals.specs.Parts as math
use Rattle.operad_ideals.specs.Sorting as plain
use Rattle.operad_ideals.proofs.SortedLists.{apart-at}
use Rattle.operad_ideals.proofs.SortedParts.{length-sort_parts}
use Rattle.symmetric_trees.specs.Generators.{parts_at, part_of}
use Rattle.symmetric_trees.specs.Spelling.{trees_of, least_leaves, meaning_of}
use Rattle.symmetric_trees.specs.Trees.{Fits}
use Rattle.symmetric_trees.specs.declared.branch.Branch.{Branch}
use Rattle.symmetric_trees.specs.declared.generators.Part.{Part}
use Rattle.symmetric_trees.proofs.Tables.{parts_at-held, sizes-held, held_if_wide}
use Rattle.symmetric_trees.proofs.Branches.{no_inputs_left, vertex-apart, vertex-spelled, vertex-sign}
use Rattle.symmetric_trees.proofs.spelling.+spell.Goals as goal

-- an input's leaves are among those of the vertex
once_inside : (g : ℕ) (ts : List program.Tree) (i : ℕ) (t : program.Tree) → i < length ts → t ≡ Rattle.std.proofs.Common.get_or ts i t
    → ((k : ℕ) → occurs k (tree_of (Node g ts)) ≤ 1) → (k : ℕ) → occurs k (tree_of t) ≤ 1
once_inside g ts i t l e once k =
    let whole = sum_leaves-node g ts (λ n. one_if (ℕ_discrete n k)) in
    let part = get_or-le-sum_by (λ (u : program.Tree). occurs k (tree_of u)) ts i t l in
    let here : occurs k (tree_of t) ≤ occurs k (tree_of (Node g ts)) = omega (arith, whole, subst (λ u. occurs k (tree_of u) ≤ sum_by (λ (x : program.Tree). occurs k (tree_of x)) ts) (sym e) part) in
    omega (arith, here, once k)

pub spell-requires : goal.spell-requires
spell-requires t c =
    let g = c.in-Node.generator in
    let ts = c.in-Node.inputs in
    let fits = fits-inputs (arity (parts_at c.args.table.now)) g ts (subst (λ u. Fits c.args.table.now (tree_of u)) c.in-Node.is c.requires.fits) in
    let all = All-from_recursion (λ u. Fits c.args.table.now (tree_of u)) c.as_slice-input-items.result.now
    (subst (AllByRecursion (λ u. Fits c.args.table.now (tree_of u))) (sym c.as_slice-input-items.ensures) fits.2) in
    let input_fits : Fits c.args.table.now (tree_of c.input-item.result) =
    subst (λ u. Fits c.args.table.now (tree_of u)) (sym c.input-item.is) (all c.loop-input.input-index c.input-item.result c.loop-input-test.true) in
    let input_once : (k : ℕ) → occurs k (tree_of c.input-item.result) ≤ 1 =
    once_inside g c.as_slice-input-items.result.now c.loop-input.input-index c.input-item.result c.loop-input-test.true c.input-item.is
    (subst (λ u. (k : ℕ) → occurs k (tree_of u) ≤ 1) (c.in-Node.is ∙ ap (Node g) (sym c.as_slice-input-items.ensures)) c.requires.once) in
    search (rules, the_lemmas)

pub get-requires : goal.get-requires
get-requires t c =
    let fits = fits-inputs (arity (parts_at c.args.table.now)) c.in-Node.generator c.in-Node.inputs (subst (λ u. Fits c.args.table.now (tree_of u)) c.in-Node.is c.requires.fits) in
    record { held = held_if_wide c.args.table.now c.in-Node.generator fits.0 }

all_trees : (parts : ℕ → List math.Part) (items ts : List program.Tree) (i : ℕ) (bs : List Branch) → length items ≤ i → items ≡ ts
    → trees_of bs ≡ map (λ t. plain.spelled parts (tree_of t)) (take i items) → trees_of bs ≡ map (λ t. plain.spelled parts (tree_of t)) ts
all_trees parts items ts i bs l e is = is ∙ ap (map (λ t. plain.spelled parts (tree_of t))) (take_all i items l ∙ e)

as_many : (parts : ℕ → List math.Part) (ts : List program.Tree) (bs : List Branch) → trees_of bs ≡ map (λ t. plain.spelled parts (tree_of t)) ts → length bs ≡ length ts
as_many parts ts bs e = sym (length-map bs (λ (b : Branch). tree_of b.tree)) ∙ ap length e ∙ length-map ts (λ t. plain.spelled parts (tree_of t))

pub sort_parts-moved-requires-clause-sizes : goal.sort_parts-moved-requires-clause-sizes
sort_parts-moved-requires-clause-sizes t c =
    let gens = c.args.table.now in
    let g = c.in-Node.generator in
    let ts = c.in-Node.inputs in
    let fits = fits-inputs (arity (parts_at gens)) g ts (subst (λ u. Fits gens (tree_of u)) c.in-Node.is c.requires.fits) in
    let trees = all_trees (parts_at gens) c.as_slice-input-items.result.now ts c.loop-input.input-index c.loop-input.branches.items c.loop-input-test.false c.as_slice-input-items.ensures c.loop-input.invariant.trees in
    ap (sum_by (λ (part : Part). part.size)) c.as_slice.ensures ∙ sym (sizes-held gens g c.get.result.now c.get.ensures.found) ∙ sym fits.1 ∙ sym (as_many (parts_at gens) ts c.loop-input.branches.items trees)
    ∙ ap length (sym c.as_mut_slice.ensures.value)

pub sort_parts-moved-requires-clause-apart : goal.sort_parts-moved-requires-clause-apart
sort_parts-moved-requires-clause-apart t c =
    let gens = c.args.table.now in
    let g = c.in-Node.generator in
    let ts = c.in-Node.inputs in
    let trees = all_trees (parts_at gens) c.as_slice-input-items.result.now ts c.loop-input.input-index c.loop-input.branches.items c.loop-input-test.false c.as_slice-input-items.ensures c.loop-input.invariant.trees in
    let apart = vertex-apart gens g ts c.loop-input.branches.items (subst (λ u. Fits gens (tree_of u)) c.in-Node.is c.requires.fits) (subst (λ u. (k : ℕ) → occurs k (tree_of u) ≤ 1) c.in-Node.is c.requires.once) trees in
    apart-at (λ (b : Branch). b.least) c.as_mut_slice.result.now (subst (λ bs. Rattle.operad_ideals.proofs.SortedLists.Apart (λ (b : Branch). b.least) bs) (sym c.as_mut_slice.ensures.value) apart)

-- what the list holds after the slice was sorted
written : (new items : List Branch) (n : ℕ) → length new ≡ length items → n ≡ length items → take n (new ++ drop (length new) items) ≡ new
written new items n e f = ap (λ m. take m (new ++ drop (length new) items)) (f ∙ sym e) ∙ take-append_seam new (drop (length new) items)

-- the list after the sort, and that it has something
sorted_is : (bs mid new : List Branch) (parts : List math.Part) (n : ℕ) → mid ≡ bs → n ≡ length bs → new ≡ plain.sort_parts (λ (b : Branch). b.least) parts mid
    → take n (new ++ drop (length new) bs) ≡ plain.sort_parts (λ (b : Branch). b.least) parts bs
sorted_is bs mid new parts n m f is =
    let len : length new ≡ length bs = ap length is ∙ length-sort_parts (λ (b : Branch). b.least) parts mid ∙ ap length m in
    written new bs n len f ∙ is ∙ ap (plain.sort_parts (λ (b : Branch). b.least) parts) m

pub vertex-requires : goal.vertex-requires
vertex-requires t c =
    let gens = c.args.table.now in
    let g = c.in-Node.generator in
    let ts = c.in-Node.inputs in
    let bs = c.loop-input.branches.items in
    let fits = fits-inputs (arity (parts_at gens)) g ts (subst (λ u. Fits gens (tree_of u)) c.in-Node.is c.requires.fits) in
    let trees = all_trees (parts_at gens) c.as_slice-input-items.result.now ts c.loop-input.input-index bs c.loop-input-test.false c.as_slice-input-items.ensures c.loop-input.invariant.trees in
    let sorted = sorted_is bs c.as_mut_slice.result.now c.sort_parts-moved.new.items (map part_of c.as_slice.result.now) c.loop-input.branches.len c.as_mut_slice.ensures.value c.loop-input.branches.ok.0 c.sort_parts-moved.ensures.order in
    omega (arith, ap length sorted, length-sort_parts (λ (b : Branch). b.least) (map part_of c.as_slice.result.now) bs, as_many (parts_at gens) ts bs trees, fits.1, fits.0)

pub returns-in_ok-vertex-in-Node-clause-sign : goal.returns-in_ok-vertex-in-Node-clause-sign
returns-in_ok-vertex-in-Node-clause-sign t c =
    let gens = c.args.table.now in
    let g = c.in-Node.generator in
    let ts = c.in-Node.inputs in
    let bs = c.loop-input.branches.items in
    let items = c.as_slice-input-items.result.now in
    let trees = all_trees (parts_at gens) items ts c.loop-input.input-index bs c.loop-input-test.false c.as_slice-input-items.ensures c.loop-input.invariant.trees in
    let parts : parts_at gens g ≡ map part_of c.as_slice.result.now = parts_at-held gens g c.get.result.now c.get.ensures.found ∙ ap (map part_of) (sym c.as_slice.ensures) in
    let before : meaning_of c.loop-input.sign ≡ plain.spelled_sign_row (parts_at gens) (row (map tree_of ts)) =
    no_inputs_left (parts_at gens) items c.loop-input.input-index (meaning_of c.loop-input.sign) (plain.spelled_sign_row (parts_at gens) (row (map tree_of items))) c.loop-input-test.false c.loop-input.invariant.sign
    ∙ ap (λ us. plain.spelled_sign_row (parts_at gens) (row (map tree_of us))) c.as_slice-input-items.ensures in
    vertex-sign gens g ts bs (map part_of c.as_slice.result.now) (meaning_of c.loop-input.sign) (meaning_of c.sort_parts-moved.result) (meaning_of c.times.result) parts trees before
    (c.sort_parts-moved.ensures.sign ∙ ap (λ xs. plain.parts_sign (map part_of c.as_slice.result.now) (least_leaves xs)) c.as_mut_slice.ensures.value) c.times.ensures.product
    ∙ ap (λ u. plain.spelled_sign (parts_at gens) (tree_of u)) (sym c.in-Node.is)

pub returns-in_ok-vertex-in-Node-clause-tree : goal.returns-in_ok-vertex-in-Node-clause-tree
returns-in_ok-vertex-in-Node-clause-tree t c =
    let gens = c.args.table.now in
    let g = c.in-Node.generator in
    let ts = c.in-Node.inputs in
    let bs = c.loop-input.branches.items in
    let trees = all_trees (parts_at gens) c.as_slice-input-items.result.now ts c.loop-input.input-index bs c.loop-input-test.false c.as_slice-input-items.ensures c.loop-input.invariant.trees in
    let parts : parts_at gens g ≡ map part_of c.as_slice.result.now = parts_at-held gens g c.get.result.now c.get.ensures.found ∙ ap (map part_of) (sym c.as_slice.ensures) in
    let sorted = sorted_is bs c.as_mut_slice.result.now c.sort_parts-moved.new.items (map part_of c.as_slice.result.now) c.loop-input.branches.len c.as_mut_slice.ensures.value c.loop-input.branches.ok.0
    c.sort_parts-moved.ensures.order in
    c.in_ok-vertex-in-Node.ensures ∙ vertex-spelled gens g ts bs _ (map part_of c.as_slice.result.now) parts trees sorted ∙ ap (λ u. plain.spelled (parts_at gens) (tree_of u)) (sym c.in-Node.is)
