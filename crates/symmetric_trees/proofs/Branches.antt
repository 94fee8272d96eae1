-- Spelled inputs of a vertex, with their least leaves.
use Rattle.std.proofs.Common.{◌≡◌, ℕ, ◌≤◌, List, [], ◌∷◌, drop, length, map, refl, ap, ap₂, sym, ◌∙◌, subst}
use Rattle.std.specs.List.{AllByRecursion}
use Rattle.std.proofs.lemmas.List.{drop_all}
use Rattle.labelled_trees.specs.Trees.{row}
use Rattle.labelled_trees.specs.Leaves.{occurs}
use Rattle.labelled_trees.specs.Meaning.{tree_of}
use Rattle.labelled_trees.specs.declared.Tree as program
use Rattle.labelled_trees.specs.declared.Tree.TheVariants.{Node}
use Rattle.labelled_trees.proofs.ProgramTrees.{tree_of-node}
use Rattle.operad_ideals.specs.Parts.{Part, Sign, times}
use Rattle.operad_ideals.specs.Spelling.{least_leaf}
use Rattle.operad_ideals.specs.Sorting as plain
use Rattle.operad_ideals.proofs.Signs.{times-plus}
use Rattle.operad_ideals.proofs.SortedLists.{Apart, apart-from_map}
use Rattle.operad_ideals.proofs.SortedParts.{map-sort_parts}
use Rattle.operad_ideals.proofs.Spellings.{spelled_row-row, inputs_apart}
use Rattle.symmetric_trees.specs.Trees.{Fits}
use Rattle.symmetric_trees.specs.Generators.{parts_at}
use Rattle.symmetric_trees.specs.Spelling.{trees_of, least_leaves, vertex_of}
use Rattle.symmetric_trees.specs.declared.branch.Branch.{Branch}
use Rattle.symmetric_trees.specs.declared.generators.Generator.{Generator}

-- the keys of branches are the least leaves of their trees
pub keys_are : (bs : List Branch) → least_leaves bs ≡ map least_leaf (trees_of bs)
keys_are [] = refl
keys_are (b ∷ bs) = ap (λ k. k ∷ least_leaves bs) b.least_is ∙ ap (λ ks. least_leaf (tree_of b.tree) ∷ ks) (keys_are bs)

pub keys_low : (bs : List Branch) → AllByRecursion (λ k. k ≤ 255) (least_leaves bs)
keys_low [] = tt
keys_low (b ∷ bs) = (b.small, keys_low bs)

each_spelled : (parts : ℕ → List Part) (ts : List program.Tree) → map (plain.spelled parts) (map tree_of ts) ≡ map (λ t. plain.spelled parts (tree_of t)) ts
each_spelled parts [] = refl
each_spelled parts (t ∷ ts) = ap (λ us. plain.spelled parts (tree_of t) ∷ us) (each_spelled parts ts)

-- the branches are the spelled inputs of the vertex
row_is : (parts : ℕ → List Part) (ts : List program.Tree) (bs : List Branch) → trees_of bs ≡ map (λ t. plain.spelled parts (tree_of t)) ts → trees_of bs ≡ plain.spelled_row parts (row (map tree_of ts))
row_is parts ts bs e = e ∙ sym (spelled_row-row parts (map tree_of ts) ∙ each_spelled parts ts)

-- their least leaves differ
pub vertex-apart : (generators : List Generator) (g : ℕ) (ts : List program.Tree) (bs : List Branch) → Fits generators (tree_of (Node g ts)) → ((i : ℕ) → occurs i (tree_of (Node g ts)) ≤ 1)
    → trees_of bs ≡ map (λ t. plain.spelled (parts_at generators) (tree_of t)) ts → Apart (λ (b : Branch). b.least) bs
vertex-apart generators g ts bs fits once e =
    let apart = inputs_apart (parts_at generators) g (row (map tree_of ts)) (subst (Fits generators) (tree_of-node g ts) fits) (subst (λ t. (i : ℕ) → occurs i t ≤ 1) (tree_of-node g ts) once) in
    apart-from_map (λ (b : Branch). tree_of b.tree) (λ (b : Branch). b.least) least_leaf (λ (b : Branch). b.least_is) bs (subst (Apart least_leaf) (sym (row_is (parts_at generators) ts bs e)) apart)

-- sorted by parts they make the spelled vertex
pub vertex-spelled : (generators : List Generator) (g : ℕ) (ts : List program.Tree) (bs sorted : List Branch) (parts : List Part) → parts_at generators g ≡ parts
    → trees_of bs ≡ map (λ t. plain.spelled (parts_at generators) (tree_of t)) ts → sorted ≡ plain.sort_parts (λ (b : Branch). b.least) parts bs
    → vertex_of g (trees_of sorted) ≡ plain.spelled (parts_at generators) (tree_of (Node g ts))
vertex-spelled generators g ts bs sorted parts p e is =
    ap (vertex_of g)
    (ap trees_of is ∙ map-sort_parts (λ (b : Branch). tree_of b.tree) (λ (b : Branch). b.least) least_leaf (λ (b : Branch). b.least_is) parts bs
    ∙ ap₂ (plain.sort_parts least_leaf) (sym p) (row_is (parts_at generators) ts bs e))
    ∙ ap (plain.spelled (parts_at generators)) (sym (tree_of-node g ts))

-- the sign of the vertex
pub vertex-sign : (generators : List Generator) (g : ℕ) (ts : List program.Tree) (bs : List Branch) (parts : List Part) (before moved whole : Sign) → parts_at generators g ≡ parts
    → trees_of bs ≡ map (λ t. plain.spelled (parts_at generators) (tree_of t)) ts → before ≡ plain.spelled_sign_row (parts_at generators) (row (map tree_of ts))
    → moved ≡ plain.parts_sign parts (least_leaves bs) → whole ≡ times before moved → whole ≡ plain.spelled_sign (parts_at generators) (tree_of (Node g ts))
vertex-sign generators g ts bs parts before moved whole p e b m w =
    w ∙ ap₂ times b (m ∙ ap₂ plain.parts_sign (sym p) (keys_are bs ∙ ap (map least_leaf) (row_is (parts_at generators) ts bs e))) ∙ ap (plain.spelled_sign (parts_at generators)) (sym (tree_of-node g ts))

-- the sign over all inputs, where none is left
pub no_inputs_left : (parts : ℕ → List Part) (items : List program.Tree) (i : ℕ) (s whole : Sign) → length items ≤ i
    → times s (plain.spelled_sign_row parts (row (map tree_of (drop i items)))) ≡ whole → s ≡ whole
no_inputs_left parts items i s whole l e =
    sym (times-plus s) ∙ ap (λ us. times s (plain.spelled_sign_row parts (row (map tree_of us)))) (sym (drop_all i items l)) ∙ e
