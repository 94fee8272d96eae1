-- The search for a vertex by its number.
use Rattle.std.proofs.Common.{◌≡◌, ℕ, suc, ◌+◌, ◌<◌, ◌≤◌, List, length, drop, get_or, refl, sym, ◌∙◌, ap, arith, subst}
use native.Mathlib.Decide.{dec_lt}
use Rattle.labelled_trees.specs.Trees.{Tree, Row, node, more, vertices, vertices_row}
use Rattle.labelled_trees.specs.Contexts.{RowCtx, hole, inside, here, past, fill_row}
use Rattle.labelled_trees.specs.Meaning.{tree_of}
use Rattle.labelled_trees.specs.declared.Tree as program
use Rattle.labelled_trees.specs.declared.Tree.TheVariants.{Node}
use Rattle.shuffle_places.specs.Cuts.{start_row}
use Rattle.shuffle_trees.proofs.Walking.{left_from}
use Rattle.tree_divisors.proofs.LaidPatterns.{rows}
use Rattle.tree_divisors.proofs.MarkedCuts.{as_node}
use Rattle.common_multiples.specs.Overlaying.{StandsAt}

-- no vertex of so many from number k on has number v
abbrev pub IsOutside : ℕ → ℕ → ℕ → Type 0
IsOutside k v n = k ≤ v → v < k + n → ⊥

-- What is found among the inputs that are left is found in the whole, and the vertex is in none of the others.
pub record SearchLeft (v first : ℕ) (whole : Row ℕ) (k : ℕ) (r : Row ℕ) (total : ℕ) : Type 0 where
  pub wrap : (c : RowCtx ℕ) (x : Tree ℕ) → r ≡ fill_row c x → (d : RowCtx ℕ) × (whole ≡ fill_row d x) × (start_row first d ≡ start_row k c)
  pub seen : first ≤ v → v < k → ⊥
  pub ends : k + vertices_row r ≡ total

search_next : (v first : ℕ) (whole : Row ℕ) (k n : ℕ) (t : Tree ℕ) (r : Row ℕ) (total : ℕ) → SearchLeft v first whole k (more t r) total → IsOutside k v (vertices t) → n ≡ k + vertices t → SearchLeft v first whole n r total
search_next v first whole k n t r total h u e = subst (λ m. SearchLeft v first whole m r total) (sym e) record {
  wrap = λ c x is. h.wrap (past t c) x (ap (more t) is);
  seen = λ a b. go a b (dec_lt v k);
  ends = (let o = h.ends in omega (arith, o));
}
  where
    go : first ≤ v → v < k + vertices t → Dec (v < k) → ⊥
    go a b (yes lt) = h.seen a lt
    go a b (no ge) = u (omega (arith, ge)) b

search_found : (v k l : ℕ) (whole : Row ℕ) (n : ℕ) (t : Tree ℕ) (r : Row ℕ) (total : ℕ) (x : Tree ℕ) → SearchLeft v (suc k) whole n (more t r) total → StandsAt n v t x → StandsAt k v (node l whole) x
search_found v k l whole n t r total x h f =
    let w = h.wrap (here f.context r) x (ap (λ u. more u r) f.is) in
    record { context = inside l w.0; is_node = f.is_node; is = ap (node l) w.1; number = w.2 ∙ f.number }

-- ---- the loop over the inputs

pub next_search : (v first : ℕ) (whole : Row ℕ) (k n total : ℕ) (items : List program.Tree) (i : ℕ) (t : program.Tree) → i < length items → t ≡ get_or items i t → SearchLeft v first whole k (rows (drop i items)) total
    → IsOutside k v (vertices (tree_of t)) → n ≡ k + vertices (tree_of t) → SearchLeft v first whole n (rows (drop (i + 1) items)) total
next_search v first whole k n total items i t lt e h u is =
    search_next v first whole k n (tree_of t) (rows (drop (i + 1) items)) total (subst (λ us. SearchLeft v first whole k (rows us) total) (left_from items i t lt e) h) u is

pub found_here : (v k g : ℕ) (tree : program.Tree) (ts : List program.Tree) → tree ≡ Node g ts → k ≡ v → StandsAt k v (tree_of tree) (tree_of tree)
found_here v k g tree ts et e =
    let at_root : StandsAt k v (node g (rows ts)) (node g (rows ts)) = record { context = hole; is_node = tt; is = refl; number = e } in
    subst (λ u. StandsAt k v u u) (sym (as_node g tree ts ts et refl)) at_root

pub found_inside : (v k g next : ℕ) (tree : program.Tree) (ts items : List program.Tree) (i : ℕ) (t : program.Tree) (x : Tree ℕ) → tree ≡ Node g ts → items ≡ ts → i < length items → t ≡ get_or items i t
    → SearchLeft v (suc k) (rows items) next (rows (drop i items)) (k + vertices (tree_of tree)) → StandsAt next v (tree_of t) x → StandsAt k v (tree_of tree) x
found_inside v k g next tree ts items i t x et ei lt e h f =
    let split = subst (λ us. SearchLeft v (suc k) (rows items) next (rows us) (k + vertices (tree_of tree))) (left_from items i t lt e) h in
    subst (λ u. StandsAt k v u x) (sym (as_node g tree ts items et ei)) (search_found v k g (rows items) next (tree_of t) (rows (drop (i + 1) items)) (k + vertices (tree_of tree)) x split f)
