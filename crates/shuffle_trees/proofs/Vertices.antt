-- Vertices of the program's trees: their width, and whether their inputs rise.
use Rattle.std.proofs.Common.{◌≡◌, ℕ, zero, suc, ◌+◌, ◌<◌, ◌≤◌, List, [], ◌∷◌, length, map, take, drop, get_or, refl, ap, sym, ◌∙◌, subst, arith, drop-cons, length-drop}
use Rattle.std.specs.List.{AllByRecursion}
use Rattle.std.proofs.lemmas.List.{length-map, nil_from_length}
use Rattle.std.proofs.lemmas.List.Elements.{All-from_recursion}
use Rattle.labelled_trees.specs.Trees.{Tree, node, more, graft, graft_row, row, width}
use Rattle.labelled_trees.specs.Insertions.{put, at_zero}
use Rattle.labelled_trees.specs.Leaves.{AllLeaves, AllRow}
use Rattle.labelled_trees.specs.Meaning.{tree_of}
use Rattle.labelled_trees.specs.declared.Tree as program
use Rattle.labelled_trees.specs.declared.Tree.TheVariants.{Node}
use Rattle.labelled_trees.proofs.ProgramTrees.{tree_of-node, graft_row-trees, all_row-trees}
use Rattle.labelled_trees.proofs.Rows.{width-row}
use Rattle.shuffle_insertions.specs.ShuffleTrees.{least, least_row, IsRising, IsRisingRow}
use Rattle.shuffle_trees.specs.ValidTrees.{IsWide, AreWide}

-- ---- the inputs of a vertex as trees

-- the inputs of a vertex, with x in place of leaf 0
abbrev pub with_hole : Tree ℕ → List program.Tree → List (Tree ℕ)
with_hole x ts = map (λ t. put (tree_of t) x) ts

pub graft-node : (g : ℕ) (ts : List program.Tree) (s : ℕ → Tree ℕ) → graft (tree_of (Node g ts)) s ≡ node g (row (map (λ t. graft (tree_of t) s) ts))
graft-node g ts s = ap (λ u. graft u s) (tree_of-node g ts) ∙ ap (node g) (graft_row-trees ts s)

pub put-node : (g : ℕ) (ts : List program.Tree) (x : Tree ℕ) → put (tree_of (Node g ts)) x ≡ node g (row (with_hole x ts))
put-node g ts x = graft-node g ts (at_zero x)

-- a vertex over the grafts of the inputs
pub node-graft : (g : ℕ) (ts made : List program.Tree) (s : ℕ → Tree ℕ) → map tree_of made ≡ map (λ t. graft (tree_of t) s) ts → tree_of (Node g made) ≡ graft (tree_of (Node g ts)) s
node-graft g ts made s e = tree_of-node g made ∙ ap (λ us. node g (row us)) e ∙ sym (graft-node g ts s)

-- ---- width

wide_row : (ts : List program.Tree) → AllByRecursion (λ t. IsWide (tree_of t)) ts → AreWide (row (map tree_of ts))
wide_row [] h = tt
wide_row (t ∷ ts) h = (h.0, wide_row ts h.1)

wide_each : (ts : List program.Tree) → AreWide (row (map tree_of ts)) → AllByRecursion (λ t. IsWide (tree_of t)) ts
wide_each [] h = tt
wide_each (t ∷ ts) h = (h.0, wide_each ts h.1)

count_inputs : (ts : List program.Tree) → width (row (map tree_of ts)) ≡ length ts
count_inputs ts = width-row (map tree_of ts) ∙ length-map ts tree_of

pub wide-node : (g : ℕ) (ts : List program.Tree) → 2 ≤ length ts → AllByRecursion (λ t. IsWide (tree_of t)) ts → IsWide (tree_of (Node g ts))
wide-node g ts two h = let c = count_inputs ts in subst IsWide (sym (tree_of-node g ts)) (omega (arith, c), wide_row ts h)

pub wide-inputs : (g : ℕ) (ts : List program.Tree) → IsWide (tree_of (Node g ts)) → (2 ≤ length ts) × AllByRecursion (λ t. IsWide (tree_of t)) ts
wide-inputs g ts h = let k = subst IsWide (tree_of-node g ts) h in let c = count_inputs ts in (omega (arith, c, k.0), wide_each ts k.1)

-- ---- rising inputs

-- the trees rise, and so do their least leaves, from b on
abbrev pub RisesFrom : ℕ → List (Tree ℕ) → Type 0
RisesFrom b [] = Unit {0}
RisesFrom b (t ∷ ts) = IsRising t × (b ≤ least t) × RisesFrom (suc (least t)) ts

pub row_of_rises : (b : ℕ) (ts : List (Tree ℕ)) → RisesFrom b ts → IsRisingRow (row ts)
row_of_rises b [] h = tt
row_of_rises b (t ∷ []) h = (h.0, tt, tt)
row_of_rises b (t ∷ (u ∷ ts)) h = (h.0, h.2.1, row_of_rises (suc (least t)) (u ∷ ts) h.2)

rises_of_cons : (b : ℕ) (t : Tree ℕ) (ts : List (Tree ℕ)) → b ≤ least t → IsRisingRow (row (t ∷ ts)) → RisesFrom b (t ∷ ts)
rises_of_cons b t [] p h = (h.0, p, tt)
rises_of_cons b t (u ∷ ts) p h = (h.0, p, rises_of_cons (suc (least t)) u ts h.1 h.2)

pub rises_of_row : (ts : List (Tree ℕ)) → IsRisingRow (row ts) → RisesFrom 0 ts
rises_of_row [] h = tt
rises_of_row (t ∷ ts) h = rises_of_cons 0 t ts (omega arith) h

pub rising-node : (g : ℕ) (ts : List program.Tree) (x : Tree ℕ) → 2 ≤ length ts → RisesFrom 0 (with_hole x ts) → IsRising (put (tree_of (Node g ts)) x)
rising-node g [] x two h = absurd (omega arith)
rising-node g (t ∷ ts) x two h = subst IsRising (sym (put-node g (t ∷ ts) x)) (tt, row_of_rises 0 (with_hole x (t ∷ ts)) h)

pub rising-inputs : (g : ℕ) (ts : List program.Tree) (x : Tree ℕ) → IsRising (put (tree_of (Node g ts)) x) → RisesFrom 0 (with_hole x ts)
rising-inputs g ts x h = rises_of_row (with_hole x ts) (subst IsRising (put-node g ts x) h).1

-- the least leaf of the first input
pub least-node : (g : ℕ) (ts : List program.Tree) (x : Tree ℕ) → least (put (tree_of (Node g ts)) x) ≡ least_row (row (with_hole x ts))
least-node g ts x = ap least (put-node g ts x)

-- the input at i, and those after it
pub next_input : (b i : ℕ) (ts : List program.Tree) (t : program.Tree) (x : Tree ℕ) → i < length ts → t ≡ get_or ts i t
    → (RisesFrom b (with_hole x (drop i ts)) → IsRising (put (tree_of t) x) × (b ≤ least (put (tree_of t) x)) × RisesFrom (suc (least (put (tree_of t) x))) (with_hole x (drop (i + 1) ts)))
    × (IsRising (put (tree_of t) x) → b ≤ least (put (tree_of t) x) → RisesFrom (suc (least (put (tree_of t) x))) (with_hole x (drop (i + 1) ts)) → RisesFrom b (with_hole x (drop i ts)))
next_input b i ts t x lt e =
    let split : drop i ts ≡ t ∷ drop (i + 1) ts = drop-cons ts i t lt ∙ ap (λ u. u ∷ drop (suc i) ts) (sym e) ∙ ap (λ n. t ∷ drop n ts) (let s : suc i ≡ i + 1 = omega arith in s) in
    (λ h. subst (λ us. RisesFrom b (with_hole x us)) split h, λ h p k. subst (λ us. RisesFrom b (with_hole x us)) (sym split) (h, p, k))

pub no_more : (b i : ℕ) (ts : List program.Tree) (x : Tree ℕ) → length ts ≤ i → RisesFrom b (with_hole x (drop i ts))
no_more b i ts x le = subst (λ us. RisesFrom b (with_hole x us)) (sym (nil_from_length (drop i ts) (let d = length-drop i ts in omega (arith, d, le)))) tt

pub input_wide : (ts : List program.Tree) (i : ℕ) (t : program.Tree) → i < length ts → t ≡ get_or ts i t → AllByRecursion (λ u. IsWide (tree_of u)) ts → IsWide (tree_of t)
input_wide ts i t lt e h = subst (λ u. IsWide (tree_of u)) (sym e) (All-from_recursion (λ u. IsWide (tree_of u)) ts h i t lt)

wide_next : (ts : List program.Tree) (i : ℕ) (t : program.Tree) → i < length ts → t ≡ get_or ts i t → AllByRecursion (λ u. IsWide (tree_of u)) (take i ts) → IsWide (tree_of t)
    → AllByRecursion (λ u. IsWide (tree_of u)) (take (suc i) ts)
wide_next [] i t lt e h w = absurd (omega arith)
wide_next (u ∷ ts) zero t lt e h w = (subst (λ v. IsWide (tree_of v)) e w, tt)
wide_next (u ∷ ts) (suc i) t lt e h w = (h.0, wide_next ts i t (omega arith) e h.1 w)

pub wide_more : (ts : List program.Tree) (i : ℕ) (t : program.Tree) → i < length ts → t ≡ get_or ts i t → AllByRecursion (λ u. IsWide (tree_of u)) (take i ts) → IsWide (tree_of t)
    → AllByRecursion (λ u. IsWide (tree_of u)) (take (i + 1) ts)
wide_more ts i t lt e h w = subst (λ n. AllByRecursion (λ u. IsWide (tree_of u)) (take n ts)) (let s : suc i ≡ i + 1 = omega arith in s) (wide_next ts i t lt e h w)

-- the first input's least leaf, from the first step on
pub first_least : (ts : List program.Tree) (i : ℕ) (t : program.Tree) (x : Tree ℕ) (first found now : ℕ) → i < length ts → t ≡ get_or ts i t → found ≡ least (put (tree_of t) x)
    → (0 < i → first ≡ least_row (row (with_hole x ts))) → (i ≡ 0 → now ≡ found) → (0 < i → now ≡ first) → now ≡ least_row (row (with_hole x ts))
first_least [] i t x first found now lt e is before start later = absurd (omega arith)
first_least (u ∷ ts) zero t x first found now lt e is before start later = start refl ∙ is ∙ ap (λ v. least (put (tree_of v) x)) e
first_least (u ∷ ts) (suc i) t x first found now lt e is before start later = later (omega arith) ∙ before (omega arith)

-- ---- facts of leaves

-- what holds at the leaves of a vertex holds at those of an input
pub input_all : (g : ℕ) (ts : List program.Tree) (i : ℕ) (t : program.Tree) (P : ℕ → Type 0) → i < length ts → t ≡ get_or ts i t → AllLeaves (tree_of (Node g ts)) P → AllLeaves (tree_of t) P
input_all g ts i t P lt e h =
    subst (λ u. AllLeaves (tree_of u) P) (sym e) (All-from_recursion (λ u. AllLeaves (tree_of u) P) ts (all_row-trees ts P (subst (λ u. AllLeaves u P) (tree_of-node g ts) h)) i t lt)
