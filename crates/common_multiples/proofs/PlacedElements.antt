-- Elements at places, over a shelf that grows.
use Rattle.std.proofs.Common.{◌≡◌, ℕ, ◌-◌, List, [], ◌∷◌, Some, slice_get, ap, sym, ◌∙◌, subst}
use Rattle.std.proofs.lemmas.Option.{same_Some}
use mathlib.Core.List.{◌++◌}
use mathlib.Core.Path.{ap₂}
use Rattle.std.specs.declared.cmp.Ordering.{Ordering}
use Rattle.modular_sums.specs.Sums.{AllTerms, Same, scale}
use Rattle.modular_sums.proofs.Images.{AllTerms-imp}
use Rattle.modular_sums.proofs.Sums.{AllTerms-moved}
use Rattle.labelled_trees.specs.Trees.{Tree}
use Rattle.labelled_trees.specs.Equality.{tree_discrete}
use Rattle.labelled_trees.specs.Leaves.{leaf_count}
use Rattle.shuffle_insertions.specs.ShuffleTrees.{IsShuffleTree}
use Rattle.shuffle_places.specs.Places.{IsPlace}
use Rattle.shuffle_trees.specs.LabelLists.{arity_in}
use Rattle.shuffle_trees.proofs.Counts.{count_of_shuffle}
use Rattle.tree_store.specs.Stores.{tree_at}
use Rattle.shuffle_sums.specs.Shelves.{Shelf, IsShelf, IsShelved, KeepsShelf}
use Rattle.shuffle_sums.specs.Sums.{over, HaveKeys, FallsBy}
use Rattle.shuffle_sums.specs.Inserting.{FitPlace, inserted_at}
use Rattle.shuffle_sums.proofs.Kept.{over_kept, tree_kept}
use Rattle.common_multiples.specs.SElements.{HasLeadAt, IsSElementOf}
use Rattle.common_multiples.specs.declared.families.Multiple as found

-- a tree that was put into the shelf stays at its id
pub shelved_later : (old now : Shelf) (id : ℕ) (t : Tree ℕ) → IsShelf old → KeepsShelf old now → IsShelved old id t → tree_at now.trees id ≡ t
shelved_later old now id t shelf keeps found = tree_kept old now keeps shelf id found.0 ∙ found.1

-- each tree of an element has as many leaves as the divisor that its leading tree is
fits_place : (compare : Tree ℕ → Tree ℕ → Ordering) (p : ℕ) (shelf : Shelf) (t : Tree ℕ) (place : List ℕ) (sum : List (ℕ × ℕ))
    → FallsBy compare p shelf sum → HasLeadAt shelf t place sum → FitPlace place t (over shelf sum)
fits_place compare p shelf t place sum falls lead =
    let n = falls.arity in
    let trees : AllTerms (over shelf sum) (IsShuffleTree (arity_in shelf.labels) n) = AllTerms-moved (tree_at shelf.trees) sum (IsShuffleTree (arity_in shelf.labels) n) falls.trees in
    let of_element = subst (λ l. AllTerms l (IsShuffleTree (arity_in shelf.labels) n)) lead.terms_are trees in
    let count = ap leaf_count lead.at.divisor_is ∙ count_of_shuffle n lead.element.lead of_element.0.shuffle in
    AllTerms-imp (IsShuffleTree (arity_in shelf.labels) n) _ (over shelf sum) (λ u h. count_of_shuffle n u h.shuffle ∙ sym count) trees

-- and in a later shelf, at an id of the tree
pub fits_place_later : (compare : Tree ℕ → Tree ℕ → Ordering) (p : ℕ) (old now : Shelf) (t : Tree ℕ) (place : List ℕ) (sum : List (ℕ × ℕ)) (host : ℕ)
    → IsShelf old → KeepsShelf old now → tree_at now.trees host ≡ t → FallsBy compare p old sum → HasLeadAt old t place sum → FitPlace place (tree_at now.trees host) (over now sum)
fits_place_later compare p old now t place sum host shelf keeps host_is falls lead =
    subst (λ u. FitPlace place u (over now sum)) (sym host_is) (subst (FitPlace place t) (sym (over_kept old now keeps shelf sum falls.stands)) (fits_place compare p old t place sum falls lead))

-- what is inserted in a later shelf, seen in one still later
pub inserted_later : (old now new last : Shelf) (t : Tree ℕ) (place : List ℕ) (sum made : List (ℕ × ℕ)) (host : ℕ)
    → IsShelf old → KeepsShelf old now → IsShelf new → KeepsShelf new last → tree_at now.trees host ≡ t → HaveKeys old sum → HaveKeys new made
    → over new made ≡ inserted_at place (tree_at now.trees host) (over now sum) → over last made ≡ inserted_at place t (over old sum)
inserted_later old now new last t place sum made host shelf keeps shelf_new keeps_new host_is stands stands_new inserted =
    over_kept new last keeps_new shelf_new made stands_new ∙ inserted ∙ ap₂ (inserted_at place) host_is (over_kept old now keeps shelf sum stands)

-- the difference of both insertions is the S-element
pub is_s_element : (p : ℕ) (multiple : found.Multiple) (old last : Shelf) (one other first second made : List (ℕ × ℕ))
    → over last first ≡ inserted_at multiple.first multiple.tree (over old one) → over last second ≡ inserted_at multiple.second multiple.tree (over old other)
    → Same tree_discrete (p - 1) (over last made) (over last first ++ scale (p - 1) (over last second)) → IsSElementOf p multiple old one other last made
is_s_element p multiple old last one other first second made first_is second_is same g h g_is h_is =
    let inserted = first_is ∙ ap (inserted_at multiple.first multiple.tree) g_is in
    let inserted_too = second_is ∙ ap (inserted_at multiple.second multiple.tree) h_is in
    subst (Same tree_discrete (p - 1) (over last made)) (ap₂ (λ k l. k ++ scale (p - 1) l) inserted inserted_too) same

-- a sum that begins with coefficient 1 has its first tree as leading tree
pub has_lead_at : (shelf : Shelf) (t : Tree ℕ) (place : List ℕ) (sum : List (ℕ × ℕ)) (id : ℕ) → slice_get sum 0 ≡ Some (1, id) → IsPlace t place (tree_at shelf.trees id) → HasLeadAt shelf t place sum
has_lead_at shelf t place [] id is at = absurd (cc is)
has_lead_at shelf t place (x ∷ sum) id is at = record {
  element = record { arity = leaf_count (tree_at shelf.trees id); lead = tree_at shelf.trees id; tail = over shelf sum };
  terms_are = ap (λ (y : ℕ × ℕ). (y.0, tree_at shelf.trees y.1) ∷ over shelf sum) (same_Some x (1, id) is);
  at = at;
}
