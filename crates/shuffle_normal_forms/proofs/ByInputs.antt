-- A tree is free where its inputs are and nothing divides it at the root; the list of the free trees is made so.
use Rattle.std.proofs.Common.{◌≡◌, ℕ, zero, suc, ◌+◌, List, [], ◌∷◌, Bool, true, false, cond, map, refl, sym, ◌∙◌, ap}
use mathlib.Core.List.{◌++◌}
use mathlib.Core.Path.{ap₂}
use Rattle.std.specs.List.{filter}
use Rattle.labelled_trees.specs.Trees.{Tree, Row, leaf, node, none, more, vertices}
use Rattle.labelled_trees.specs.Equality.{tree_discrete}
use Rattle.shuffle_insertions.specs.Listing.{joined_below, rows, lone, shuffles, upto}
use Rattle.shuffle_places.specs.Cuts.{numbers}
use Rattle.shuffle_places.specs.Places.{divisor_of}
use Rattle.shuffle_places.specs.AllPlaces.{lay, with_divisor, places, places_row}
use Rattle.shuffle_bases.specs.Elements.{Element, Setting}
use Rattle.shuffle_normal_forms.specs.FreeTrees.{is_empty, has_no_place}
use Rattle.shuffle_normal_forms.specs.FreeTreeLists.{undivided, free_on, FreeTreesByInputs}
use Rattle.shuffle_normal_forms.proofs.Filters.{filter-append, filter-ext, filter-both, filter-map, filter-below, below-ext, each_passes, filter-rows, rows-ext}
use Rattle.modular_sums.specs.Lists.{choose}

-- ---- which lists are empty

abbrev both : Bool → Bool → Bool
both b c = cond b c false

pub empty_joined : {X : Type 0} (k l : List X) → is_empty (k ++ l) ≡ both (is_empty k) (is_empty l)
empty_joined [] l = refl
empty_joined (x ∷ k) l = refl

module _ (a : Tree ℕ) where
  pub empty_where : {A X : Type 0} (d : Dec A) (x y : X) → is_empty (choose d (x ∷ []) []) ≡ is_empty (choose d (y ∷ []) [])
  empty_where (yes _) x y = refl
  empty_where (no _) x y = refl

  -- whether there are places doesn't depend on the root's number
  divisors_empty : (k j : ℕ) (l : List (Tree (Tree ℕ))) → is_empty (with_divisor a k l) ≡ is_empty (with_divisor a j l)
  divisors_empty k j [] = refl
  divisors_empty k j (q ∷ l) =
      empty_joined (choose (tree_discrete (divisor_of q) a) (numbers (λ v. v) k q ∷ []) []) (with_divisor a k l)
      ∙ ap₂ both (empty_where (tree_discrete (divisor_of q) a) (numbers (λ v. v) k q) (numbers (λ v. v) j q)) (divisors_empty k j l)
      ∙ sym (empty_joined (choose (tree_discrete (divisor_of q) a) (numbers (λ v. v) j q ∷ []) []) (with_divisor a j l))

  mutual
    places_empty : (k j : ℕ) (t : Tree ℕ) → is_empty (places a k t) ≡ is_empty (places a j t)
    places_empty k j (leaf n) = refl
    places_empty k j (node l r) =
        empty_joined (with_divisor a k (lay a (node l r))) (places_row a (suc k) r)
        ∙ ap₂ both (divisors_empty k j (lay a (node l r))) (row_empty (suc k) r ∙ sym (row_empty (suc j) r))
        ∙ sym (empty_joined (with_divisor a j (lay a (node l r))) (places_row a (suc j) r))

    row_empty : (k : ℕ) (r : Row ℕ) → is_empty (places_row a k r) ≡ each_passes (λ t. is_empty (places a 1 t)) r
    row_empty k none = refl
    row_empty k (more t r) = empty_joined (places a k t) (places_row a (k + vertices t) r) ∙ ap₂ both (places_empty k 1 t) (row_empty (k + vertices t) r)

-- ---- a tree is free where its inputs are, and nothing divides it at the root

both_pairs : (a b c d : Bool) → both (both a b) (both c d) ≡ both (both a c) (both b d)
both_pairs true b true d = refl
both_pairs true true false d = refl
both_pairs true false false d = refl
both_pairs false b c d = refl

inputs_pass : (x : Element) (l : List Element) (r : Row ℕ)
    → each_passes (has_no_place (x ∷ l)) r ≡ both (each_passes (λ t. is_empty (places x.lead 1 t)) r) (each_passes (has_no_place l) r)
inputs_pass x l none = refl
inputs_pass x l (more t r) =
    ap (both (has_no_place (x ∷ l) t)) (inputs_pass x l r)
    ∙ both_pairs (is_empty (places x.lead 1 t)) (has_no_place l t) (each_passes (λ u. is_empty (places x.lead 1 u)) r) (each_passes (has_no_place l) r)

all_pass : (r : Row ℕ) → true ≡ each_passes (has_no_place []) r
all_pass none = refl
all_pass (more t r) = all_pass r

pub free_by_inputs : (l : List Element) (g : ℕ) (r : Row ℕ) → has_no_place l (node g r) ≡ both (undivided l (node g r)) (each_passes (has_no_place l) r)
free_by_inputs [] g r = all_pass r
free_by_inputs (x ∷ l) g r =
    ap₂ both (empty_joined (with_divisor x.lead 1 (lay x.lead (node g r))) (places_row x.lead 2 r) ∙ ap (both (is_empty (with_divisor x.lead 1 (lay x.lead (node g r))))) (row_empty x.lead 2 r))
    (free_by_inputs l g r)
    ∙ both_pairs (is_empty (with_divisor x.lead 1 (lay x.lead (node g r)))) (each_passes (λ t. is_empty (places x.lead 1 t)) r) (undivided l (node g r)) (each_passes (has_no_place l) r)
    ∙ ap (both (both (is_empty (with_divisor x.lead 1 (lay x.lead (node g r)))) (undivided l (node g r)))) (sym (inputs_pass x l r))

pub leaf_free : (l : List Element) (n : ℕ) → has_no_place l (leaf n) ≡ true
leaf_free [] n = refl
leaf_free (x ∷ l) n = leaf_free l n

-- ---- the list

module _ (labels : ℕ) (s : Setting) where
  abbrev free : Tree ℕ → Bool
  free t = has_no_place s.elements t

  lone_free : (l : List ℕ) → filter free (lone l) ≡ lone l
  lone_free [] = refl
  lone_free (a ∷ []) = ap (λ b. cond b (leaf a ∷ []) []) (leaf_free s.elements a)
  lone_free (a ∷ (b ∷ l)) = refl

  -- the free ones among trees with a label at the root
  label_free : (g : ℕ) (rs : List (Row ℕ)) → filter free (map (λ r. node g r) rs) ≡ filter (undivided s.elements) (map (λ r. node g r) (filter (each_passes free) rs))
  label_free g rs =
      filter-map free (λ r. node g r) rs
      ∙ ap (map (λ r. node g r))
      (filter-ext (λ r. free (node g r)) (λ r. both (undivided s.elements (node g r)) (each_passes free r)) (λ r. free_by_inputs s.elements g r) rs
      ∙ filter-both (λ r. undivided s.elements (node g r)) (each_passes free) rs)
      ∙ sym (filter-map (undivided s.elements) (λ r. node g r) (filter (each_passes free) rs))

  one_label : (d g : ℕ) (l : List ℕ) → ((m : List ℕ) → free_on labels s d m ≡ filter free (shuffles labels s.arity d m))
      → filter (undivided s.elements) (map (λ r. node g r) (rows (free_on labels s d) (s.arity g) l)) ≡ filter free (map (λ r. node g r) (rows (shuffles labels s.arity d) (s.arity g) l))
  one_label d g l ih =
      ap (λ rs. filter (undivided s.elements) (map (λ r. node g r) rs))
      (rows-ext (free_on labels s d) (λ m. filter free (shuffles labels s.arity d m)) ih (s.arity g) l
      ∙ sym (filter-rows free (shuffles labels s.arity d) (s.arity g) l))
      ∙ sym (label_free g (rows (shuffles labels s.arity d) (s.arity g) l))

  pub free_of_all : (levels : ℕ) (l : List ℕ) → free_on labels s levels l ≡ filter free (shuffles labels s.arity levels l)
  free_of_all zero l = refl
  free_of_all (suc d) l =
      ap₂ (λ k m. k ++ m) (sym (lone_free l))
      (below-ext labels (λ g. filter (undivided s.elements) (map (λ r. node g r) (rows (free_on labels s d) (s.arity g) l)))
      (λ g. filter free (map (λ r. node g r) (rows (shuffles labels s.arity d) (s.arity g) l))) (λ g. one_label d g l (free_of_all d))
      ∙ sym (filter-below free labels (λ g. map (λ r. node g r) (rows (shuffles labels s.arity d) (s.arity g) l))))
      ∙ sym (filter-append free (lone l) (joined_below labels (λ g. map (λ r. node g r) (rows (shuffles labels s.arity d) (s.arity g) l))))

pub by_inputs : FreeTreesByInputs
by_inputs labels s n = free_of_all labels s n (upto n)
