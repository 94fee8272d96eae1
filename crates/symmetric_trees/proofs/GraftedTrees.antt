-- Grafts of the program's trees.
use Rattle.std.proofs.Common.{◌≡◌, ℕ, zero, suc, ◌+◌, ◌<◌, ◌≤◌, List, [], ◌∷◌, length, map, get_or, refl, ap, sym, ◌∙◌, subst, arith}
use Rattle.std.specs.List.{All}
use Rattle.std.proofs.lemmas.List.Elements.{All-from_recursion}
use Rattle.labelled_trees.specs.Leaves.{AllLeaves}
use Rattle.labelled_trees.specs.Trees.{Tree, node, row, graft}
use Rattle.labelled_trees.specs.Insertions.{item}
use Rattle.labelled_trees.specs.Meaning.{tree_of}
use Rattle.labelled_trees.specs.declared.Tree as program
use Rattle.labelled_trees.specs.declared.Tree.TheVariants.{Leaf, Node}
use Rattle.labelled_trees.proofs.ProgramTrees.{tree_of-leaf, tree_of-node, graft_row-trees, all_row-trees}

-- a vertex over the grafted inputs is the grafted vertex
pub graft-node : (g : ℕ) (ts us : List program.Tree) (s : ℕ → Tree ℕ) → map tree_of us ≡ map (λ t. graft (tree_of t) s) ts → tree_of (Node g us) ≡ graft (tree_of (Node g ts)) s
graft-node g ts us s e = tree_of-node g us ∙ ap (λ vs. node g (row vs)) e ∙ ap (node g) (sym (graft_row-trees ts s)) ∙ ap (λ t. graft t s) (sym (tree_of-node g ts))

-- what holds of the leaves of a vertex holds of those of each input
pub leaves-inputs : (g : ℕ) (ts : List program.Tree) (P : ℕ → Type 0) → AllLeaves (tree_of (Node g ts)) P → All (λ t. AllLeaves (tree_of t) P) ts
leaves-inputs g ts P h = All-from_recursion (λ t. AllLeaves (tree_of t) P) ts (all_row-trees ts P (subst (λ t. AllLeaves t P) (tree_of-node g ts) h))

-- the input with a number
pub item-at : (ts : List program.Tree) (i : ℕ) (d : program.Tree) → i < length ts → item (map tree_of ts) (suc i) ≡ tree_of (get_or ts i d)
item-at [] i d l = absurd (omega (arith, l))
item-at (t ∷ ts) zero d l = refl
item-at (t ∷ ts) (suc i) d l = item-at ts i d (omega (arith, l))

-- the input that stands for a leaf
pub leaf-grafted : (ts : List program.Tree) (n i : ℕ) (u : program.Tree) → 0 < n → n ≤ length ts → i + 1 ≡ n → u ≡ get_or ts i u → tree_of u ≡ graft (tree_of (Leaf n)) (item (map tree_of ts))
leaf-grafted ts n i u positive within e is =
    let s : n ≡ suc i = omega (arith, e) in
    ap tree_of is ∙ sym (item-at ts i u (omega (arith, within, e))) ∙ ap (item (map tree_of ts)) (sym s) ∙ ap (λ t. graft t (item (map tree_of ts))) (sym (tree_of-leaf n))
