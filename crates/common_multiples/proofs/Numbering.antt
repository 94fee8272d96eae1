-- Numbered trees: what is left of the inputs of a vertex, and what a numbering keeps.
use Rattle.std.proofs.Common.{◌≡◌, ℕ, suc, ◌+◌, ◌<◌, ◌≤◌, List, [], ◌∷◌, length, map, drop, get_or, refl, sym, ◌∙◌, ap, arith, subst, append_assoc}
use mathlib.Core.List.{◌++◌, append-nil}
use mathlib.Core.Path.{ap₂}
use native.Mathlib.Decide.{ℕ_discrete}
use Rattle.std.proofs.lemmas.List.{map-append}
use Rattle.modular_sums.proofs.Choices.{choose-no}
use Rattle.labelled_trees.specs.Trees.{Tree, Row, leaf, node, none, more, row, inputs, vertices, vertices_row}
use Rattle.labelled_trees.specs.Leaves.{leaf_count, leaf_count_row}
use Rattle.labelled_trees.specs.Meaning.{tree_of}
use Rattle.labelled_trees.specs.Unions.{union, union_row}
use Rattle.labelled_trees.specs.declared.Tree as program
use Rattle.labelled_trees.specs.declared.Tree.TheVariants.{Node, Leaf}
use Rattle.labelled_trees.proofs.ProgramTrees.{tree_of-leaf, tree_of-node}
use Rattle.labelled_trees.proofs.GraftLeaves.{sum_leaves-graft}
use Rattle.labelled_trees.proofs.Rows.{row-inputs}
use Rattle.shuffle_places.specs.Overlays.{shape, shape_row}
use Rattle.shuffle_places.proofs.Overlays.{vertices-named}
use Rattle.shuffle_trees.proofs.Walking.{left_from, none_left}
use Rattle.tree_divisors.proofs.LaidPatterns.{rows}
use Rattle.tree_divisors.proofs.MarkedCuts.{as_node}
use Rattle.common_multiples.specs.Building.{numbered, numbered_row, over_at, over_at_row}

-- ---- the shapes of the inputs

pub shape_leaf : (t : program.Tree) (i : ℕ) → t ≡ Leaf i → shape (tree_of t) ≡ leaf tt
shape_leaf t i e = ap shape (ap tree_of e ∙ tree_of-leaf i)

pub shape_node : (t : program.Tree) (g : ℕ) (ts items : List program.Tree) → t ≡ Node g ts → items ≡ ts → shape (tree_of t) ≡ node g (shape_row (rows items))
shape_node t g ts items e s = ap shape (as_node g t ts items e s)

pub leaf_count-shape : {A : Type 0} (t : Tree A) → leaf_count (shape t) ≡ leaf_count t
leaf_count-shape t = sum_leaves-graft t (λ a. leaf tt) (λ u. 1)

pub count_inside : (t : program.Tree) (g : ℕ) (ts items : List program.Tree) → t ≡ Node g ts → items ≡ ts → leaf_count_row (shape_row (rows items)) ≡ leaf_count (tree_of t)
count_inside t g ts items e s = sym (ap leaf_count (shape_node t g ts items e s)) ∙ leaf_count-shape (tree_of t)

-- the shapes of the inputs from one on
abbrev pub shapes_from : ℕ → List program.Tree → Row (Unit {0})
shapes_from i items = shape_row (rows (drop i items))

pub shapes_more : (items : List program.Tree) (i : ℕ) (t : program.Tree) → i < length items → t ≡ get_or items i t → shapes_from i items ≡ more (shape (tree_of t)) (shapes_from (i + 1) items)
shapes_more items i t lt e = ap (λ us. shape_row (rows us)) (left_from items i t lt e)

pub shapes_none : (items : List program.Tree) (i : ℕ) → length items ≤ i → shapes_from i items ≡ none
shapes_none items i le = ap (λ us. shape_row (rows us)) (none_left items i le)

-- ---- the loops over the inputs

-- The trees that are made, with the numbered trees of what is left behind them, are the numbered trees of the whole.
pub record RowLeft (f : ℕ → ℕ) (first : ℕ) (all : Row (Unit {0})) (made : List program.Tree) (placed : ℕ) (left : Row (Unit {0})) : Type 0 where
  pub rest : map tree_of made ++ inputs (numbered_row f placed left) ≡ inputs (numbered_row f first all)
  pub ends : placed + leaf_count_row left ≡ first + leaf_count_row all

pub row_next : (f : ℕ → ℕ) (first : ℕ) (all : Row (Unit {0})) (made after : List program.Tree) (x : program.Tree) (placed n : ℕ) (left : Row (Unit {0})) (t : Tree (Unit {0})) (r : Row (Unit {0})) → left ≡ more t r
    → RowLeft f first all made placed left → tree_of x ≡ numbered f placed t → n ≡ placed + leaf_count t → after ≡ made ++ x ∷ [] → RowLeft f first all after n r
row_next f first all made after x placed n left t r e h ex en ea =
    let s = subst (RowLeft f first all made placed) e h in
    subst (λ m. RowLeft f first all after m r) (sym en) record {
      rest =
          ap (λ l. l ++ inputs (numbered_row f (placed + leaf_count t) r)) (ap (map tree_of) ea ∙ map-append tree_of made (x ∷ []) ∙ ap (λ u. map tree_of made ++ u ∷ []) ex)
          ∙ append_assoc (map tree_of made) (numbered f placed t ∷ []) (inputs (numbered_row f (placed + leaf_count t) r)) ∙ s.rest;
      ends = (let o = s.ends in omega (arith, o));
    }

pub row_fits : (f : ℕ → ℕ) (first : ℕ) (all : Row (Unit {0})) (made : List program.Tree) (placed : ℕ) (left : Row (Unit {0})) (t : Tree (Unit {0})) (r : Row (Unit {0})) → left ≡ more t r
    → RowLeft f first all made placed left → placed + leaf_count t ≤ first + leaf_count_row all
row_fits f first all made placed left t r e h = let o = (subst (RowLeft f first all made placed) e h).ends in omega (arith, o)

pub row_end : (f : ℕ → ℕ) (first : ℕ) (all : Row (Unit {0})) (made : List program.Tree) (placed g : ℕ) (left : Row (Unit {0})) (t : Tree (Unit {0})) → left ≡ none → t ≡ node g all
    → RowLeft f first all made placed left → (tree_of (Node g made) ≡ numbered f first t) × (placed ≡ first + leaf_count t)
row_end f first all made placed g left t e is h =
    let s = subst (RowLeft f first all made placed) e h in (
      tree_of-node g made ∙ ap (λ us. node g (row us)) (sym (append-nil (map tree_of made)) ∙ s.rest) ∙ ap (node g) (row-inputs (numbered_row f first all)) ∙ ap (numbered f first) (sym is),
      (let o = s.ends in let c = ap leaf_count is in omega (arith, o, c)),
    )

-- ---- the inputs of two vertices laid over each other

pub union_leaf : (x : Tree (Unit {0})) → union x (leaf tt) ≡ x
union_leaf (leaf u) = refl
union_leaf (node l r) = refl

pub union_none : {X : Type 0} (r : Row X) → union_row r none ≡ r
union_none none = refl
union_none (more t r) = refl

pub unions_more : (items parts : List program.Tree) (i : ℕ) (t p : program.Tree) → i < length items → t ≡ get_or items i t → i < length parts → p ≡ get_or parts i p
    → union_row (shapes_from i items) (shapes_from i parts) ≡ more (union (shape (tree_of t)) (shape (tree_of p))) (union_row (shapes_from (i + 1) items) (shapes_from (i + 1) parts))
unions_more items parts i t p lt e lp ep = ap₂ union_row (shapes_more items i t lt e) (shapes_more parts i p lp ep)

pub unions_alone : (items parts : List program.Tree) (i : ℕ) (t : program.Tree) → i < length items → t ≡ get_or items i t → length parts ≤ i
    → union_row (shapes_from i items) (shapes_from i parts) ≡ more (shape (tree_of t)) (union_row (shapes_from (i + 1) items) (shapes_from (i + 1) parts))
unions_alone items parts i t lt e le =
    ap₂ union_row (shapes_more items i t lt e) (shapes_none parts i le)
    ∙ ap (more (shape (tree_of t))) (sym (ap (union_row (shapes_from (i + 1) items)) (shapes_none parts (i + 1) (omega (arith, le))) ∙ union_none (shapes_from (i + 1) items)))

pub unions_none : (items parts : List program.Tree) (i : ℕ) → length items ≤ i → union_row (shapes_from i items) (shapes_from i parts) ≡ none
unions_none items parts i le = ap (λ r. union_row r (shapes_from i parts)) (shapes_none items i le)

-- where one of the two is a leaf
pub union_first : (h g : program.Tree) (i : ℕ) → h ≡ Leaf i → union (shape (tree_of h)) (shape (tree_of g)) ≡ shape (tree_of g)
union_first h g i e = ap (λ x. union x (shape (tree_of g))) (shape_leaf h i e)

pub union_second : (h g : program.Tree) (i : ℕ) → g ≡ Leaf i → union (shape (tree_of h)) (shape (tree_of g)) ≡ shape (tree_of h)
union_second h g i e = ap (union (shape (tree_of h))) (shape_leaf g i e) ∙ union_leaf (shape (tree_of h))

pub union_nodes : (h g : program.Tree) (l m : ℕ) (ts items parts : List program.Tree) → h ≡ Node l ts → items ≡ ts → g ≡ Node m parts
    → union (shape (tree_of h)) (shape (tree_of g)) ≡ node l (union_row (shape_row (rows items)) (shape_row (rows parts)))
union_nodes h g l m ts items parts eh e eg = ap₂ union (shape_node h l ts items eh e) (shape_node g m parts parts eg refl)

pub count_first : (h g : program.Tree) (i : ℕ) → h ≡ Leaf i → leaf_count (tree_of g) ≡ leaf_count (union (shape (tree_of h)) (shape (tree_of g)))
count_first h g i e = sym (ap leaf_count (union_first h g i e) ∙ leaf_count-shape (tree_of g))

pub count_second : (h g : program.Tree) (i : ℕ) → g ≡ Leaf i → leaf_count (tree_of h) ≡ leaf_count (union (shape (tree_of h)) (shape (tree_of g)))
count_second h g i e = sym (ap leaf_count (union_second h g i e) ∙ leaf_count-shape (tree_of h))

-- ---- one tree laid over a vertex of another

pub vertices-shape : {A : Type 0} (t : Tree A) → vertices (shape t) ≡ vertices t
vertices-shape t = vertices-named t (λ a. tt)

pub over_inside : (k v : ℕ) (h g : program.Tree) (l : ℕ) (ts items : List program.Tree) → (k ≡ v → ⊥) → h ≡ Node l ts → items ≡ ts
    → over_at k v (shape (tree_of h)) (shape (tree_of g)) ≡ node l (over_at_row (suc k) v (shape_row (rows items)) (shape (tree_of g)))
over_inside k v h g l ts items other e s =
    let b = shape (tree_of g) in
    ap (λ x. over_at k v x b) (shape_node h l ts items e s) ∙ choose-no (ℕ_discrete k v) (union (node l (shape_row (rows items))) b) (node l (over_at_row (suc k) v (shape_row (rows items)) b)) other

pub overs_more : (k n v : ℕ) (b : Tree (Unit {0})) (items : List program.Tree) (i : ℕ) (t : program.Tree) → i < length items → t ≡ get_or items i t → n ≡ k + vertices (tree_of t)
    → over_at_row k v (shapes_from i items) b ≡ more (over_at k v (shape (tree_of t)) b) (over_at_row n v (shapes_from (i + 1) items) b)
overs_more k n v b items i t lt e next =
    ap (λ r. over_at_row k v r b) (shapes_more items i t lt e)
    ∙ ap (λ m. more (over_at k v (shape (tree_of t)) b) (over_at_row m v (shapes_from (i + 1) items) b)) (ap (λ m. k + m) (vertices-shape (tree_of t)) ∙ sym next)

pub overs_none : (k v : ℕ) (b : Tree (Unit {0})) (items : List program.Tree) (i : ℕ) → length items ≤ i → over_at_row k v (shapes_from i items) b ≡ none
overs_none k v b items i le = ap (λ r. over_at_row k v r b) (shapes_none items i le)

-- the numbers of the vertices that are left
abbrev pub EndsAt : ℕ → ℕ → ℕ → List program.Tree → Type 0
EndsAt total next i items = next + vertices_row (rows (drop i items)) ≡ total

pub ends_next : (total next n i : ℕ) (items : List program.Tree) (t : program.Tree) → i < length items → t ≡ get_or items i t → EndsAt total next i items → n ≡ next + vertices (tree_of t) → EndsAt total n (i + 1) items
ends_next total next n i items t lt e h is = let s = subst (λ us. next + vertices_row (rows us) ≡ total) (left_from items i t lt e) h in omega (arith, s, is)

pub ends_all : (total next i : ℕ) (items : List program.Tree) → length items ≤ i → EndsAt total next i items → next ≡ total
ends_all total next i items le h = let s = subst (λ us. next + vertices_row (rows us) ≡ total) (none_left items i le) h in omega (arith, s)
