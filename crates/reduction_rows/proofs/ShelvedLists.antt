-- Trees that are shelved one after another.
use Rattle.std.proofs.Common.{◌≡◌, ℕ, ◌+◌, ◌-◌, ◌<◌, List, [], ◌∷◌, length, map, take, drop, get_or, ap, sym, ◌∙◌, subst, arith}
use mathlib.Core.List.{◌++◌}
use mathlib.Core.Path.{ap₂}
use Rattle.std.specs.List.{All}
use Rattle.std.proofs.lemmas.List.{length-append, map-append, take_more}
use Rattle.std.proofs.lemmas.List.Elements.{All-drop, All-push, All-take}
use Rattle.labelled_trees.specs.Trees.{Tree}
use Rattle.shuffle_sums.specs.Putting.{ArePut}
use Rattle.shuffle_sums.specs.Shelves.{Shelf, IsShelf, IsShelved, KeepsShelf}
use Rattle.shuffle_sums.proofs.Arities.{within_shelf}
use Rattle.tree_store.specs.Stores.{tree_at}
use Rattle.tree_store.proofs.Trees.{ids-append}

-- the next tree was shelved
pub shelved_more : (now later : Shelf) (trees : List (Tree ℕ)) (ids ids_later : List ℕ) (k id : ℕ) (t : Tree ℕ) → ArePut now.trees (take k trees) ids → KeepsShelf now later → IsShelf later → IsShelved later id t
    → k < length trees → t ≡ get_or trees k t → ids_later ≡ ids ++ (id ∷ []) → ArePut later.trees (take (k + 1) trees) ids_later
shelved_more now later trees ids ids_later k id t h keeps shelf found lt is e =
    let added = keeps.trees.0 in
    let grown : length later.trees ≡ length now.trees + length added = ap length keeps.trees.1 ∙ length-append now.trees added in
    let old : map (tree_at later.trees) ids ≡ take k trees = ap (λ ts. map (tree_at ts) ids) keeps.trees.1 ∙ ids-append now.trees added ids h.within ∙ h.are in
    let kept : All (λ i. i < length later.trees) ids = λ j d l. let s = h.within j d l in omega (arith, s, grown) in
    subst (ArePut later.trees (take (k + 1) trees)) (sym e) (record {
      within = All-push (λ i. i < length later.trees) ids id kept (within_shelf later id shelf found.0);
      are = map-append (tree_at later.trees) ids (id ∷ []) ∙ ap₂ (λ ts u. ts ++ (u ∷ [])) old (found.1 ∙ is) ∙ sym (take_more trees k t lt);
    })

-- the ids behind the first are held
pub held_tail : (store trees : List (Tree ℕ)) (ids items : List ℕ) → store ≡ trees → ids ≡ items → All (λ i. i < length trees) items → All (λ i. i < length store) (take (length ids - 1) (drop 1 ids))
held_tail store trees ids items same is held =
    let all : All (λ i. i < length store) ids = subst (λ ts. All (λ i. i < length ts) ids) (sym same) (subst (All (λ i. i < length trees)) (sym is) held) in
    All-take (λ i. i < length store) (length ids - 1) (drop 1 ids) (All-drop (λ i. i < length store) 1 ids all)
