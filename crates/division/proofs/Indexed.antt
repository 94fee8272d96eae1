-- Bases that are indexed by a shelf.
use Rattle.std.proofs.Common.{◌≡◌, ℕ, zero, suc, ◌<◌, List, [], ◌∷◌, length, map, set, get_or, refl, sym, ◌∙◌, ap, arith, subst, Option, Some, slice_get}
use mathlib.Core.List.{◌++◌}
use mathlib.Core.Path.{ap₂}
use Rattle.std.specs.List.{AllByRecursion}
use Rattle.std.proofs.lemmas.List.{map-append}
use Rattle.labelled_trees.specs.Trees.{Tree, leaf, node}
use Rattle.labelled_trees.specs.Leaves.{leaf_count}
use Rattle.shuffle_trees.proofs.Counts.{count_of_shuffle}
use Rattle.tree_store.specs.Stores.{tree_at, HasLabel}
use Rattle.shuffle_sums.specs.Shelves.{Shelf, HasKey, IsShelf, KeepsShelf}
use Rattle.shuffle_sums.specs.Sums.{HaveKeys}
use Rattle.shuffle_sums.proofs.Kept.{tree_kept}
use Rattle.division.specs.declared.root.Root.{Root}
use Rattle.division.specs.Roots.{ArePositions, HasRoot, labelled, root_label, root_of}
use Rattle.division.specs.Bases.{AllStand, AreLeadsWith, Basis, HasLead, IsIndexedBy, IsMonicSum, first_id, lead_at, tailed}

abbrev Ids : Type 0
Ids = List (ℕ × ℕ)

-- ---- entries of a list whose things were each replaced

pub entry_of_map : {X Y : Type 0} (f : X → Y) (xs : List X) (e : ℕ) (y : Y) (d : X) → slice_get (map f xs) e ≡ Some y → (e < length xs) × (f (get_or xs e d) ≡ y)
entry_of_map f [] e y d h = absurd (cc h)
entry_of_map f (x ∷ xs) zero y d h = (omega arith, cc h)
entry_of_map f (x ∷ xs) (suc e) y d h = let r = entry_of_map f xs e y d h in (omega (arith, r.0), r.1)

pub map_entry : {X Y : Type 0} (f : X → Y) (xs : List X) (e : ℕ) (d : X) → e < length xs → slice_get (map f xs) e ≡ Some (f (get_or xs e d))
map_entry f [] e d h = absurd (omega (arith, h))
map_entry f (x ∷ xs) zero d h = refl
map_entry f (x ∷ xs) (suc e) d h = map_entry f xs e d (omega (arith, h))

-- ---- roots

label_there : (t : Tree ℕ) (label : ℕ) → root_label t ≡ Some label → HasLabel label t
label_there (leaf i) label h = absurd (cc h)
label_there (node l r) label h = let e : l ≡ label = cc h in (r, ap (λ k. node k r) e)

there_label : (t : Tree ℕ) (label : ℕ) → HasLabel label t → root_label t ≡ Some label
there_label t label h = ap root_label h.1

as_root : (t : Tree ℕ) (label arity : ℕ) → root_label t ≡ Some label → leaf_count t ≡ arity → root_of t ≡ labelled label arity
as_root t label arity e f = ap₂ of e f
  where
    of : Option ℕ → ℕ → Root
    of o a = record { label = o; arity = a }

-- the trees of keys have few leaves
pub few_leaves : (shelf : Shelf) (id : ℕ) → IsShelf shelf → HasKey shelf id → leaf_count (tree_at shelf.trees id) < 10
few_leaves shelf id h k = let w = h.whole id k in let c = count_of_shuffle w.0 (tree_at shelf.trees id) w.2.shuffle in omega (arith, c, w.1, h.nine)

pub first_has_key : (shelf : Shelf) (sum : Ids) (x : ℕ × ℕ) → HaveKeys shelf sum → slice_get sum 0 ≡ Some x → HasKey shelf x.1
first_has_key shelf [] x h e = absurd (cc e)
first_has_key shelf (y ∷ sum) x h e = let same : y ≡ x = cc e in subst (λ (z : ℕ × ℕ). HasKey shelf z.1) same h.0

module _ (shelf : Shelf) (basis : Basis) (indexed : IsIndexedBy shelf basis) where
  root_there : (e : ℕ) (root : Root) → slice_get basis.roots e ≡ Some root → (e < length basis.elements) × (root_of (lead_at shelf basis.elements e) ≡ root)
  root_there e root h = entry_of_map (λ sum. root_of (tree_at shelf.trees (first_id sum))) basis.elements e root [] (ap (λ (l : List Root). slice_get l e) (sym indexed) ∙ h)

  there_root : (e : ℕ) → e < length basis.elements → slice_get basis.roots e ≡ Some (root_of (lead_at shelf basis.elements e))
  there_root e h = ap (λ (l : List Root). slice_get l e) indexed ∙ map_entry (λ sum. root_of (tree_at shelf.trees (first_id sum))) basis.elements e [] h

  pub lead_of_root : (label arity e : ℕ) → HasRoot basis.roots label arity e → HasLead shelf basis.elements label arity e
  lead_of_root label arity e h =
      let r = root_there e (labelled label arity) h in
      record { within = r.0; label_is = label_there (lead_at shelf basis.elements e) label (ap (λ (r : Root). r.label) r.1); arity_is = ap (λ (r : Root). r.arity) r.1 }

  pub root_of_lead : (label arity e : ℕ) → HasLead shelf basis.elements label arity e → HasRoot basis.roots label arity e
  root_of_lead label arity e h = there_root e h.within ∙ ap Some (as_root (lead_at shelf basis.elements e) label arity (there_label (lead_at shelf basis.elements e) label h.label_is) h.arity_is)

  pub leads_with : (label arity : ℕ) (positions : List ℕ) → ArePositions basis.roots label arity positions → AreLeadsWith shelf basis.elements label arity positions
  leads_with label arity positions h = record { rising = h.rising; only = λ e m. lead_of_root label arity e (h.only e m); each = λ e l. h.each e (root_of_lead label arity e l) }

-- an element more, with its root
pub indexed_more : (shelf : Shelf) (elements : List Ids) (roots : List Root) (sum : Ids) (root : Root) → roots ≡ map (λ sum. root_of (tree_at shelf.trees (first_id sum))) elements
    → root ≡ root_of (tree_at shelf.trees (first_id sum)) → roots ++ (root ∷ []) ≡ map (λ sum. root_of (tree_at shelf.trees (first_id sum))) (elements ++ (sum ∷ []))
indexed_more shelf elements roots sum root h e = ap₂ (λ l r. l ++ (r ∷ [])) h e ∙ sym (map-append (λ sum. root_of (tree_at shelf.trees (first_id sum))) elements (sum ∷ []))

-- another tail leaves the roots
pub roots_again : (shelf : Shelf) (elements : List Ids) (at : ℕ) (sum tail : Ids) → AllByRecursion IsMonicSum elements → at < length elements → sum ≡ get_or elements at sum
    → map (λ sum. root_of (tree_at shelf.trees (first_id sum))) (set elements at (tailed sum tail)) ≡ map (λ sum. root_of (tree_at shelf.trees (first_id sum))) elements
roots_again shelf [] at sum tail h l e = absurd (omega (arith, l))
roots_again shelf (s ∷ elements) zero sum tail h l e = ap (λ r. r ∷ map (λ sum. root_of (tree_at shelf.trees (first_id sum))) elements) (go sum (subst IsMonicSum (sym e) h.0) ∙ ap (λ sum. root_of (tree_at shelf.trees (first_id sum))) e)
  where
    go : (k : Ids) → IsMonicSum k → root_of (tree_at shelf.trees (first_id (tailed k tail))) ≡ root_of (tree_at shelf.trees (first_id k))
    go [] m = absurd m
    go (x ∷ k) m = refl
roots_again shelf (s ∷ elements) (suc at) sum tail h l e = ap (λ r. root_of (tree_at shelf.trees (first_id s)) ∷ r) (roots_again shelf elements at sum tail h.1 (omega (arith, l)) e)

-- a shelf that grows keeps the roots of the leading trees
module _ (old new : Shelf) (keeps : KeepsShelf old new) (shelf : IsShelf old) where
  lead_kept : (sum : Ids) → IsMonicSum sum → HaveKeys old sum → tree_at new.trees (first_id sum) ≡ tree_at old.trees (first_id sum)
  lead_kept [] m h = absurd m
  lead_kept (x ∷ sum) m h = tree_kept old new keeps shelf x.1 h.0

  pub roots_kept : (elements : List Ids) → AllByRecursion IsMonicSum elements → AllStand old elements → map (λ sum. root_of (tree_at new.trees (first_id sum))) elements ≡ map (λ sum. root_of (tree_at old.trees (first_id sum))) elements
  roots_kept [] m h = refl
  roots_kept (sum ∷ elements) m h = ap₂ (λ r l. r ∷ l) (ap root_of (lead_kept sum m.0 h.0)) (roots_kept elements m.1 h.1)

  pub indexed_kept : (basis : Basis) → AllByRecursion IsMonicSum basis.elements → AllStand old basis.elements → IsIndexedBy old basis → IsIndexedBy new basis
  indexed_kept basis m h i = i ∙ sym (roots_kept basis.elements m h)
