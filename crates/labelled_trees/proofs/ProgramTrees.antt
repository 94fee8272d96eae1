-- The program's trees: folds, induction, and the equations of their meaning.
use Rattle.std.proofs.Common.{◌≡◌, ℕ, ◌+◌, ◌≤◌, List, [], ◌∷◌, length, map, refl, ap, sym, ◌∙◌, subst}
use Rattle.std.specs.List.{AllByRecursion, sum_by}
use Rattle.std.proofs.lemmas.List.{length-map}
use Rattle.std.proofs.lemmas.List.Sums.{sum_by-cons}
use Rattle.labelled_trees.specs.Trees.{Tree, leaf, node, more, row, graft, graft_row}
use Rattle.labelled_trees.specs.Leaves.{sum_leaves, sum_row, AllLeaves, AllRow}
use Rattle.labelled_trees.specs.Labelled.{Fits, FitsRow}
use Rattle.labelled_trees.proofs.Rows.{width-row}
use Rattle.labelled_trees.specs.Meaning.{tree_step, tree_of, OneToOne}
use Rattle.labelled_trees.specs.declared.Tree as program
use Rattle.labelled_trees.specs.declared.Tree.TheOpen.{Tree-F}
use Rattle.labelled_trees.specs.declared.Tree.TheFolds.{fold-Tree, fold-roll-Tree, ind-Tree, map-Tree}
use Rattle.labelled_trees.specs.declared.Tree.TheViews.{roll-Tree}
use Rattle.labelled_trees.specs.declared.Tree.TheVariants.{Leaf, Node, rolls-Leaf, rolls-Node}

-- what a fold gives at a leaf and at a vertex
pub fold-leaf : (A : Type 0) (step : Tree-F A → A) (i : ℕ) → fold-Tree A step (Leaf i) ≡ step (Tree-F.Leaf i)
fold-leaf A step i = ap (fold-Tree A step) (sym (rolls-Leaf i)) ∙ fold-roll-Tree A step (Tree-F.Leaf i)

pub fold-node : (A : Type 0) (step : Tree-F A → A) (g : ℕ) (ts : List program.Tree) → fold-Tree A step (Node g ts) ≡ step (Tree-F.Node g (map (fold-Tree A step) ts))
fold-node A step g ts = ap (fold-Tree A step) (sym (rolls-Node g ts)) ∙ fold-roll-Tree A step (Tree-F.Node g ts)

all_held : {X : Type 0} (P : X → Type 0) (xs : List ((x : X) × P x)) → AllByRecursion P (map (λ e. e.0) xs)
all_held P [] = tt
all_held P (x ∷ xs) = (x.1, all_held P xs)

one_layer : (P : program.Tree → Type 0) → ((i : ℕ) → P (Leaf i)) → ((g : ℕ) (ts : List program.Tree) → AllByRecursion P ts → P (Node g ts))
    → (y : Tree-F ((t : program.Tree) × P t)) → P (roll-Tree (map-Tree ((t : program.Tree) × P t) program.Tree (λ e. e.0) y))
one_layer P at_leaf at_node (Tree-F.Leaf i) = subst P (sym (rolls-Leaf i)) (at_leaf i)
one_layer P at_leaf at_node (Tree-F.Node g es) = subst P (sym (rolls-Node g (map (λ e. e.0) es))) (at_node g (map (λ e. e.0) es) (all_held P es))

-- induction: a fact of each leaf, and of each vertex whose inputs have it, is a fact of each tree
pub induction : (P : program.Tree → Type 0) → ((i : ℕ) → P (Leaf i)) → ((g : ℕ) (ts : List program.Tree) → AllByRecursion P ts → P (Node g ts)) → (t : program.Tree) → P t
induction P at_leaf at_node = ind-Tree P (λ x y is. subst (λ z. P (roll-Tree z)) is (one_layer P at_leaf at_node y))

pub tree_of-leaf : (i : ℕ) → tree_of (Leaf i) ≡ leaf i
tree_of-leaf i = fold-leaf (Tree ℕ) tree_step i

pub tree_of-node : (g : ℕ) (ts : List program.Tree) → tree_of (Node g ts) ≡ node g (row (map tree_of ts))
tree_of-node g ts = fold-node (Tree ℕ) tree_step g ts

pub ruleset meanings = (tree_of-leaf, tree_of-node)

-- ---- the meaning is one-to-one

abbrev IsAlone : program.Tree → Type 0
IsAlone t = (u : program.Tree) → tree_of t ≡ tree_of u → t ≡ u

rows_apart : (ts us : List program.Tree) → AllByRecursion IsAlone ts → row (map tree_of ts) ≡ row (map tree_of us) → ts ≡ us
rows_apart [] [] h e = refl
rows_apart [] (u ∷ us) h e = absurd cc
rows_apart (t ∷ ts) [] h e = absurd cc
rows_apart (t ∷ ts) (u ∷ us) h e =
    let first : t ≡ u = h.0 u cc in
    let others : ts ≡ us = rows_apart ts us h.1 cc in cc

leaf_alone : (i : ℕ) → IsAlone (Leaf i)
leaf_alone i = induction (λ u. tree_of (Leaf i) ≡ tree_of u → Leaf i ≡ u)
    (λ j e. let same : leaf i ≡ leaf j = sym (tree_of-leaf i) ∙ e ∙ tree_of-leaf j in let number : i ≡ j = cc in ap Leaf number)
    (λ g us h e. let same : leaf i ≡ node g (row (map tree_of us)) = sym (tree_of-leaf i) ∙ e ∙ tree_of-node g us in absurd cc)

node_alone : (g : ℕ) (ts : List program.Tree) → AllByRecursion IsAlone ts → IsAlone (Node g ts)
node_alone g ts k = induction (λ u. tree_of (Node g ts) ≡ tree_of u → Node g ts ≡ u)
    (λ j e. let same : node g (row (map tree_of ts)) ≡ leaf j = sym (tree_of-node g ts) ∙ e ∙ tree_of-leaf j in absurd cc)
    (λ l us h e.
    let same : node g (row (map tree_of ts)) ≡ node l (row (map tree_of us)) = sym (tree_of-node g ts) ∙ e ∙ tree_of-node l us in
    let number : g ≡ l = cc in
    let inputs : ts ≡ us = rows_apart ts us k cc in cc)

pub one_to_one : OneToOne
one_to_one = induction IsAlone leaf_alone node_alone

-- ---- sums and facts over the inputs of a vertex

pub sum_row-row : (ts : List program.Tree) (f : ℕ → ℕ) → sum_row (row (map tree_of ts)) f ≡ sum_by (λ t. sum_leaves (tree_of t) f) ts
sum_row-row [] f = refl
sum_row-row (t ∷ ts) f = ap (λ n. sum_leaves (tree_of t) f + n) (sum_row-row ts f) ∙ sym (sum_by-cons (λ u. sum_leaves (tree_of u) f) t ts)

-- the sum over the leaves of a vertex is that over its inputs
pub sum_leaves-node : (g : ℕ) (ts : List program.Tree) (f : ℕ → ℕ) → sum_leaves (tree_of (Node g ts)) f ≡ sum_by (λ t. sum_leaves (tree_of t) f) ts
sum_leaves-node g ts f = ap (λ t. sum_leaves t f) (tree_of-node g ts) ∙ sum_row-row ts f

pub all_row-row : (ts : List program.Tree) (P : ℕ → Type 0) → AllByRecursion (λ t. AllLeaves (tree_of t) P) ts → AllRow (row (map tree_of ts)) P
all_row-row [] P h = tt
all_row-row (t ∷ ts) P h = (h.0, all_row-row ts P h.1)

-- a row fits where each input does
pub fits_row-row : (arity : ℕ → ℕ) (ts : List program.Tree) → AllByRecursion (λ t. Fits arity (tree_of t)) ts → FitsRow arity (row (map tree_of ts))
fits_row-row arity [] h = tt
fits_row-row arity (t ∷ ts) h = (h.0, fits_row-row arity ts h.1)

pub fits_each : (arity : ℕ → ℕ) (ts : List program.Tree) → FitsRow arity (row (map tree_of ts)) → AllByRecursion (λ t. Fits arity (tree_of t)) ts
fits_each arity [] h = tt
fits_each arity (t ∷ ts) h = (h.0, fits_each arity ts h.1)

pub all_leaves-node : (g : ℕ) (ts : List program.Tree) (P : ℕ → Type 0) → AllByRecursion (λ t. AllLeaves (tree_of t) P) ts → AllLeaves (tree_of (Node g ts)) P
all_leaves-node g ts P h = subst (λ t. AllLeaves t P) (sym (tree_of-node g ts)) (all_row-row ts P h)

-- a vertex fits where it has the arity of its generator and each input fits
pub fits-node : (arity : ℕ → ℕ) (g : ℕ) (ts : List program.Tree) → 2 ≤ arity g → length ts ≡ arity g → AllByRecursion (λ t. Fits arity (tree_of t)) ts → Fits arity (tree_of (Node g ts))
fits-node arity g ts wide as_many h = subst (Fits arity) (sym (tree_of-node g ts)) (wide, width-row (map tree_of ts) ∙ length-map ts tree_of ∙ as_many, fits_row-row arity ts h)

pub fits-inputs : (arity : ℕ → ℕ) (g : ℕ) (ts : List program.Tree) → Fits arity (tree_of (Node g ts)) → (2 ≤ arity g) × (length ts ≡ arity g) × AllByRecursion (λ t. Fits arity (tree_of t)) ts
fits-inputs arity g ts h =
    let f = subst (Fits arity) (tree_of-node g ts) h in
    (f.0, sym (width-row (map tree_of ts) ∙ length-map ts tree_of) ∙ f.1, fits_each arity ts f.2)

-- the inputs of a vertex, grafted
pub graft_row-trees : (ts : List program.Tree) (s : ℕ → Tree ℕ) → graft_row (row (map tree_of ts)) s ≡ row (map (λ t. graft (tree_of t) s) ts)
graft_row-trees [] s = refl
graft_row-trees (t ∷ ts) s = ap (more (graft (tree_of t) s)) (graft_row-trees ts s)

-- what holds at all leaves of the inputs holds at those of each input
pub all_row-trees : (ts : List program.Tree) (P : ℕ → Type 0) → AllRow (row (map tree_of ts)) P → AllByRecursion (λ t. AllLeaves (tree_of t) P) ts
all_row-trees [] P h = tt
all_row-trees (t ∷ ts) P h = (h.0, all_row-trees ts P h.1)
