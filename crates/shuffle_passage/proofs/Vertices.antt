-- Vertices on the way there and back.
use Rattle.std.proofs.Common.{◌≡◌, ℕ, ◌+◌, ◌-◌, ◌<◌, ◌≤◌, List, length, map, get_or, sym, ap, ap₂, ◌∙◌, subst, arith}
use Rattle.std.specs.List.{sum_by}
use Rattle.std.proofs.Math.ListN.{length-map}
use Rattle.std.proofs.lemmas.List.Elements.{All-from_recursion}
use Rattle.std.proofs.lemmas.List.Sums.{get_or-le-sum_by}
use Rattle.std.proofs.lemmas.Simd.{map-map}
use native.Mathlib.Decide.{ℕ_discrete}
use Rattle.labelled_trees.specs.Trees.{Tree, node, row}
use Rattle.labelled_trees.specs.Leaves.{occurs, one_if}
use Rattle.labelled_trees.specs.Labelled.{Fits}
use Rattle.labelled_trees.specs.Insertions.{item}
use Rattle.labelled_trees.specs.Meaning.{tree_of}
use Rattle.labelled_trees.specs.declared.Tree as program
use Rattle.labelled_trees.specs.declared.Tree.TheVariants.{Leaf, Node}
use Rattle.labelled_trees.proofs.ProgramTrees.{tree_of-leaf, tree_of-node, fits-inputs, sum_leaves-node}
use Rattle.labelled_trees.proofs.Rows.{inputs-row}
use Rattle.operad_ideals.specs.Laws.{arity}
use Rattle.shuffle_transfer.specs.Labels.{gen, word, inputs_of, symmetric_tree}
use Rattle.shuffle_transfer.proofs.TreesOfShuffleTrees.{to_symmetric_row-map}
use Rattle.shuffle_insertions.specs.Listing.{upto}
use Rattle.symmetric_trees.specs.Generators.{parts_at, generators_of}
use Rattle.symmetric_trees.specs.declared.generators.Generator.{Generator}
use Rattle.shuffle_passage.specs.Words.{bounds_of, endings, first_label, digits_of, chosen}
use Rattle.shuffle_passage.proofs.LabelNumbers.{letter_of_number, map-chosen, chosen_items}
use Rattle.shuffle_passage.proofs.WordTables.{length-generators}

-- an input of a vertex that fits
pub input_fits : (arity : ℕ → ℕ) (g : ℕ) (ts : List program.Tree) (i : ℕ) (t : program.Tree) → i < length ts → t ≡ get_or ts i t → Fits arity (tree_of (Node g ts)) → Fits arity (tree_of t)
input_fits arity g ts i t l e h =
    subst (λ u. Fits arity (tree_of u)) (sym e) (All-from_recursion (λ u. Fits arity (tree_of u)) ts ((fits-inputs arity g ts h).2) i t l)

-- an input's leaves are among those of the vertex
pub input_once : (g : ℕ) (ts : List program.Tree) (i : ℕ) (t : program.Tree) → i < length ts → t ≡ get_or ts i t → ((k : ℕ) → occurs k (tree_of (Node g ts)) ≤ 1) → (k : ℕ) → occurs k (tree_of t) ≤ 1
input_once g ts i t l e once k =
    let whole = sum_leaves-node g ts (λ n. one_if (ℕ_discrete n k)) in
    let part = get_or-le-sum_by (λ (u : program.Tree). occurs k (tree_of u)) ts i t l in
    let here : occurs k (tree_of t) ≤ occurs k (tree_of (Node g ts)) = omega (arith, whole, subst (λ u. occurs k (tree_of u) ≤ sum_by (λ (x : program.Tree). occurs k (tree_of x)) ts) (sym e) part) in
    omega (arith, here, once k)

-- the vertex of a generator over the trees of the inputs, arranged by the word of the label
pub back_vertex : (gens : List Generator) (l g : ℕ) (ts made ordered : List program.Tree) → map tree_of made ≡ map (λ t. symmetric_tree (generators_of gens) (tree_of t)) ts → length ts ≡ inputs_of (generators_of gens) l
    → g < length gens → g ≡ gen (generators_of gens) l → first_label (generators_of gens) g ≤ l → l < first_label (generators_of gens) g + endings (bounds_of (parts_at gens g)) 0
    → ordered ≡ chosen (Leaf 0) made (digits_of (bounds_of (parts_at gens g)) 0 (l - first_label (generators_of gens) g))
    → tree_of (Node g ordered) ≡ symmetric_tree (generators_of gens) (tree_of (Node l ts))
back_vertex gens l g ts made ordered m size held gen_is low high o =
    let generators = generators_of gens in
    let n = l - first_label (generators_of gens) g in
    let ds = digits_of (bounds_of (parts_at gens g)) 0 n in
    let us : List (Tree ℕ) = map (λ t. symmetric_tree generators (tree_of t)) ts in
    let back : first_label (generators_of gens) g + n ≡ l = omega (arith, low) in
    let k = letter_of_number generators g n (let e = length-generators gens in omega (arith, e, held)) (omega (arith, low, high)) in
    let many : arity (parts_at gens) g ≡ length us = ap (arity (parts_at gens)) gen_is ∙ sym size ∙ sym (length-map ts (λ t. symmetric_tree generators (tree_of t))) in
    let word_is : word generators l ≡ chosen 0 (upto (length us)) ds = ap (word generators) (sym back) ∙ k.1 ∙ ap (λ a. chosen 0 (upto a) ds) many in
    let inputs_are : Rattle.shuffle_transfer.specs.ShuffleForms.to_symmetric_row (gen generators) (word generators) (row (map tree_of ts)) ≡ us =
    to_symmetric_row-map (gen generators) (word generators) (row (map tree_of ts)) ∙ ap (map (symmetric_tree generators)) (inputs-row (map tree_of ts)) ∙ map-map (symmetric_tree generators) tree_of ts in
    tree_of-node g ordered
    ∙ ap₂ (λ h vs. node h (row vs)) gen_is
    (ap (map tree_of) o ∙ map-chosen tree_of (Leaf 0) made ds ∙ ap₂ (λ e vs. chosen e vs ds) (tree_of-leaf 0) m ∙ sym (chosen_items us ds)
    ∙ ap₂ (λ vs w. map (item vs) w) (sym inputs_are) (sym word_is))
    ∙ ap (symmetric_tree generators) (sym (tree_of-node l ts))
