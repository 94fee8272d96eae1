-- Counting the leaves of a tree, and of two trees laid over each other.
use Rattle.std.proofs.Common.{◌≡◌, ℕ, zero, suc, ◌+◌, ◌<◌, ◌≤◌, List, [], ◌∷◌, length, drop, get_or, refl, sym, ◌∙◌, ap, arith, subst}
use Rattle.labelled_trees.specs.Trees.{Tree, Row, leaf, node, none, more}
use Rattle.labelled_trees.specs.Leaves.{leaf_count, leaf_count_row}
use Rattle.labelled_trees.specs.Meaning.{tree_of}
use Rattle.labelled_trees.specs.Unions.{union, union_row}
use Rattle.labelled_trees.specs.declared.Tree as program
use Rattle.labelled_trees.specs.declared.Tree.TheVariants.{Node, Leaf}
use Rattle.labelled_trees.proofs.ProgramTrees.{tree_of-leaf}
use Rattle.shuffle_places.specs.Overlays.{shape, shape_row}
use Rattle.shuffle_trees.proofs.Walking.{left_from, none_left}
use Rattle.tree_divisors.proofs.LaidPatterns.{rows}
use Rattle.tree_divisors.proofs.MarkedCuts.{as_node}
use Rattle.common_multiples.specs.Overlaying.{Agree, AgreeRow}
use Rattle.common_multiples.proofs.Numbering.{leaf_count-shape}

-- ---- one tree

pub leaves_of_node : (t : program.Tree) (g : ℕ) (ts items : List program.Tree) → t ≡ Node g ts → items ≡ ts → leaf_count_row (rows items) ≡ leaf_count (tree_of t)
leaves_of_node t g ts items e s = sym (ap leaf_count (as_node g t ts items e s))

-- What the inputs from one on still add to the count.
abbrev pub CountsTo : ℕ → ℕ → ℕ → List program.Tree → Type 0
CountsTo total count i items = count + leaf_count_row (rows (drop i items)) ≡ total

-- ---- two trees laid over each other

mutual
  pub union_leaves : {X : Type 0} (t u : Tree X) → leaf_count (union t u) ≤ leaf_count t + leaf_count u
  union_leaves (leaf i) u = omega arith
  union_leaves (node l r) (leaf j) = omega arith
  union_leaves (node l r) (node m s) = union_row_leaves r s

  union_row_leaves : {X : Type 0} (r s : Row X) → leaf_count_row (union_row r s) ≤ leaf_count_row r + leaf_count_row s
  union_row_leaves none s = omega arith
  union_row_leaves (more t r) none = omega arith
  union_row_leaves (more t r) (more u s) = omega (arith, union_leaves t u, union_row_leaves r s)

-- no more leaves than the two have together
pub few_over : (h g : program.Tree) → leaf_count (union (shape (tree_of h)) (shape (tree_of g))) ≤ leaf_count (tree_of h) + leaf_count (tree_of g)
few_over h g = omega (arith, union_leaves (shape (tree_of h)) (shape (tree_of g)), leaf_count-shape (tree_of h), leaf_count-shape (tree_of g))

input_leaves : (items : List program.Tree) (i : ℕ) (t : program.Tree) → i < length items → t ≡ get_or items i t → leaf_count (tree_of t) ≤ leaf_count_row (rows items)
input_leaves [] i t lt e = absurd (omega arith)
input_leaves (u ∷ items) zero t lt e = let same = ap (λ v. leaf_count (tree_of v)) e in omega (arith, same)
input_leaves (u ∷ items) (suc i) t lt e = omega (arith, input_leaves items i t (omega arith) e)

-- an input has no more leaves than the tree
pub few_inside : (tree : program.Tree) (g : ℕ) (ts items : List program.Tree) (i : ℕ) (t : program.Tree) → tree ≡ Node g ts → items ≡ ts → i < length items → t ≡ get_or items i t → leaf_count (tree_of t) ≤ leaf_count (tree_of tree)
few_inside tree g ts items i t et s lt e = omega (arith, input_leaves items i t lt e, leaves_of_node tree g ts items et s)

agree_leaf : (u : Tree ℕ) (i : ℕ) → Agree u (leaf i)
agree_leaf (leaf j) i = tt
agree_leaf (node l r) i = tt

pub agree_first : (h g : program.Tree) (i : ℕ) → h ≡ Leaf i → Agree (tree_of h) (tree_of g)
agree_first h g i e = let u : Agree (leaf i) (tree_of g) = tt in subst (λ t. Agree t (tree_of g)) (sym (ap tree_of e ∙ tree_of-leaf i)) u

pub agree_second : (h g : program.Tree) (i : ℕ) → g ≡ Leaf i → Agree (tree_of h) (tree_of g)
agree_second h g i e = subst (Agree (tree_of h)) (sym (ap tree_of e ∙ tree_of-leaf i)) (agree_leaf (tree_of h) i)

pub agree_inputs : (h g : program.Tree) (l m : ℕ) (ts items us : List program.Tree) → h ≡ Node l ts → items ≡ ts → g ≡ Node m us → Agree (tree_of h) (tree_of g) → (l ≡ m) × AgreeRow (rows items) (rows us)
agree_inputs h g l m ts items us eh s eg a = subst (Agree (node l (rows items))) (as_node m g us us eg refl) (subst (λ t. Agree t (tree_of g)) (as_node l h ts items eh s) a)

pub inputs_agree : (h g : program.Tree) (l m : ℕ) (ts items us : List program.Tree) → h ≡ Node l ts → items ≡ ts → g ≡ Node m us → (l ≡ m) × AgreeRow (rows items) (rows us) → Agree (tree_of h) (tree_of g)
inputs_agree h g l m ts items us eh s eg a = subst (λ t. Agree t (tree_of g)) (sym (as_node l h ts items eh s)) (subst (Agree (node l (rows items))) (sym (as_node m g us us eg refl)) a)

agree_length : (ts us : List program.Tree) → AgreeRow (rows ts) (rows us) → length ts ≡ length us
agree_length [] [] a = refl
agree_length [] (u ∷ us) a = absurd a
agree_length (t ∷ ts) [] a = absurd a
agree_length (t ∷ ts) (u ∷ us) a = ap suc (agree_length ts us a.1)

pub other_length : (h g : program.Tree) (l m : ℕ) (ts us : List program.Tree) → h ≡ Node l ts → g ≡ Node m us → (length ts ≡ length us → ⊥) → Agree (tree_of h) (tree_of g) → ⊥
other_length h g l m ts us eh eg f a = f (agree_length ts us (agree_inputs h g l m ts ts us eh refl eg a).1)

-- What the inputs that are left still have to say: whether they agree, and how many leaves they add to the count.
pub record OverLeft (items parts : List program.Tree) (count : ℕ) (ts us : List program.Tree) : Type 0 where
  pub then : AgreeRow (rows ts) (rows us) → AgreeRow (rows items) (rows parts)
  pub only : AgreeRow (rows items) (rows parts) → AgreeRow (rows ts) (rows us)
  pub counted : count + leaf_count_row (union_row (shape_row (rows ts)) (shape_row (rows us))) ≡ leaf_count_row (union_row (shape_row (rows items)) (shape_row (rows parts)))

over_split : (items parts : List program.Tree) (count i : ℕ) (t u : program.Tree) → i < length items → t ≡ get_or items i t → i < length parts → u ≡ get_or parts i u → OverLeft items parts count (drop i items) (drop i parts)
    → OverLeft items parts count (t ∷ drop (i + 1) items) (u ∷ drop (i + 1) parts)
over_split items parts count i t u lt e lu eu h =
    subst (λ us. OverLeft items parts count (t ∷ drop (i + 1) items) us) (left_from parts i u lu eu) (subst (λ ts. OverLeft items parts count ts (drop i parts)) (left_from items i t lt e) h)

pub over_apart : (items parts : List program.Tree) (count i : ℕ) (t u : program.Tree) → i < length items → t ≡ get_or items i t → i < length parts → u ≡ get_or parts i u → OverLeft items parts count (drop i items) (drop i parts)
    → (Agree (tree_of t) (tree_of u) → ⊥) → AgreeRow (rows items) (rows parts) → ⊥
over_apart items parts count i t u lt e lu eu h f a = f ((over_split items parts count i t u lt e lu eu h).only a).0

pub over_fits : (items parts : List program.Tree) (count i : ℕ) (t u : program.Tree) → i < length items → t ≡ get_or items i t → i < length parts → u ≡ get_or parts i u → OverLeft items parts count (drop i items) (drop i parts)
    → count + leaf_count (union (shape (tree_of t)) (shape (tree_of u))) ≤ leaf_count_row (union_row (shape_row (rows items)) (shape_row (rows parts)))
over_fits items parts count i t u lt e lu eu h = let k = (over_split items parts count i t u lt e lu eu h).counted in omega (arith, k)

pub over_all : (items parts : List program.Tree) (count i : ℕ) → length items ≡ length parts → length items ≤ i → OverLeft items parts count (drop i items) (drop i parts)
    → AgreeRow (rows items) (rows parts) × (count ≡ leaf_count_row (union_row (shape_row (rows items)) (shape_row (rows parts))))
over_all items parts count i same le h =
    let s = subst (λ us. OverLeft items parts count [] us) (none_left parts i (omega (arith, le, same))) (subst (λ ts. OverLeft items parts count ts (drop i parts)) (none_left items i le) h) in
    (s.then tt, (let k = s.counted in omega (arith, k)))
