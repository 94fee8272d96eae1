-- Trees that are put into a store.
use Rattle.std.proofs.Common.{◌≡◌, ℕ, ◌+◌, ◌<◌, ◌≤◌, List, [], ◌∷◌, length, map, take, get_or, refl, ap, sym, ◌∙◌, subst, arith, Some, slice_get}
use mathlib.Core.List.{◌++◌}
use mathlib.Core.Path.{ap₂}
use Rattle.std.specs.List.{All}
use Rattle.std.proofs.Math.ListN.{length-map}
use Rattle.std.proofs.lemmas.List.{length-append, map-append, take_more, get_or-map}
use Rattle.std.proofs.lemmas.List.Elements.{All-push, All-from_get_or}
use Rattle.std.proofs.lemmas.Option.{slice_get_within, get_or_from_slice_get}
use Rattle.modular_sums.specs.Lists.{Mem, Distinct}
use Rattle.modular_sums.proofs.Lists.{mem_map}
use Rattle.labelled_trees.specs.Trees.{Tree, leaf}
use Rattle.shuffle_insertions.specs.ShuffleTrees.{IsShuffleTree}
use Rattle.shuffle_insertions.specs.Listing.{IsListing}
use Rattle.tree_store.specs.Stores.{tree_at, AddsSubtrees}
use Rattle.tree_store.proofs.Trees.{ids-append, mem_at}
use Rattle.shuffle_sums.specs.Putting.{ArePut}
use Rattle.shuffle_sums.specs.Sorting.{AreOfOneArity}

pub none_put : (held : List (Tree ℕ)) → ArePut held [] []
none_put held = record { within = λ k d h. absurd (omega arith); are = refl }

longer : (ids : List ℕ) (m n : ℕ) → m ≤ n → All (λ i. i < m) ids → All (λ i. i < n) ids
longer ids m n h a = λ k d l. let s = a k d l in omega (arith, s)

-- the next tree was put
pub put_more : (now later trees : List (Tree ℕ)) (ids ids_later : List ℕ) (k id : ℕ) (t whole : Tree ℕ) → ArePut now (take k trees) ids → AddsSubtrees now later whole → slice_get later id ≡ Some t
    → k < length trees → t ≡ get_or trees k t → ids_later ≡ ids ++ (id ∷ []) → ArePut later (take (k + 1) trees) ids_later
put_more now later trees ids ids_later k id t whole h a found lt is e =
    let grown : length later ≡ length now + length a.0 = ap length a.1 ∙ length-append now a.0 in
    let within = slice_get_within later id t found in
    let old : map (tree_at later) ids ≡ take k trees = ap (λ ts. map (tree_at ts) ids) a.1 ∙ ids-append now a.0 ids h.within ∙ h.are in
    let here : tree_at later id ≡ get_or trees k t = get_or_from_slice_get later id t (leaf 0) found ∙ is in
    subst (ArePut later (take (k + 1) trees)) (sym e) (record {
      within = All-push (λ i. i < length later) ids id (longer ids (length now) (length later) (omega (arith, grown)) h.within) within;
      are = map-append (tree_at later) ids (id ∷ []) ∙ ap₂ (λ ts u. ts ++ (u ∷ [])) old here ∙ sym (take_more trees k t lt);
    })

-- ids of different trees differ
distinct_ids : (f : ℕ → Tree ℕ) (ids : List ℕ) → Distinct (map f ids) → Distinct ids
distinct_ids f [] h = tt
distinct_ids f (i ∷ ids) h = (λ m. h.0 (mem_map f i ids m), distinct_ids f ids h.1)

-- a listing that was put can be sorted
pub listing_put : (arity : ℕ → ℕ) (n : ℕ) (held trees : List (Tree ℕ)) (ids : List ℕ) → n ≤ 16 → IsListing arity n trees → ArePut held trees ids → AreOfOneArity held ids
listing_put arity n held trees ids few listing put = record {
  arity = arity;
  leaves = n;
  few = few;
  held = put.within;
  are = All-from_get_or (λ id. IsShuffleTree arity n (tree_at held id)) ids 0 (λ i within.
      let size = length-map ids (tree_at held) in
      let place : get_or (map (tree_at held) ids) i (leaf 0) ≡ tree_at held (get_or ids i 0) = get_or-map (tree_at held) ids i 0 (leaf 0) within in
      let inside : Mem (get_or (map (tree_at held) ids) i (leaf 0)) (map (tree_at held) ids) = mem_at (map (tree_at held) ids) i (leaf 0) (omega (arith, size, within)) in
      subst (IsShuffleTree arity n) place (listing.only (get_or (map (tree_at held) ids) i (leaf 0)) (subst (Mem (get_or (map (tree_at held) ids) i (leaf 0))) put.are inside)));
}

pub listing_distinct : (arity : ℕ → ℕ) (n : ℕ) (held trees : List (Tree ℕ)) (ids : List ℕ) → IsListing arity n trees → ArePut held trees ids → Distinct ids
listing_distinct arity n held trees ids listing put = distinct_ids (tree_at held) ids (subst Distinct (sym put.are) listing.distinct)
