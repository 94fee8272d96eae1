-- The image of composed trees is the composition of their images.
use Rattle.std.proofs.Common.{◌≡◌, ℕ, zero, suc, ◌<◌, ◌≤◌, List, [], ◌∷◌, length, map, get_or, refl, sym, ap, ◌∙◌, subst, arith}
use Rattle.std.proofs.lemmas.List.{length-map}
use native.Mathlib.Decide.{ℕ_discrete}
use Rattle.modular_sums.specs.Sums.{AllTerms}
use Rattle.modular_sums.proofs.Replacements.{sum_over, sum_over_ext, sum_over_swap}
use Rattle.labelled_trees.specs.Trees.{Tree, Row, leaf, node, none, more, graft, graft_row, width}
use Rattle.labelled_trees.specs.Leaves.{one_if}
use Rattle.labelled_trees.specs.Equality.{tree_discrete}
use Rattle.labelled_trees.specs.Labelled.{Fits, FitsRow, IsNumbered, IsLabelled}
use Rattle.labelled_trees.specs.Insertions.{IsContext, at_zero, put, item}
use Rattle.labelled_trees.proofs.Leaves.{by_leaf, AllLeaves-each}
use Rattle.labelled_trees.proofs.Numbered.{numbered_of_labelled}
use Rattle.operad_ideals.specs.Presentations.{Presentation, arity_of}
use Rattle.operad_morphisms.specs.Compositions.{product, choices, composed}
use Rattle.operad_morphisms.specs.Images.{image, image_row, image_sum}
use Rattle.operad_morphisms.specs.Maps.{IsMap}
use Rattle.operad_morphisms.specs.Laws.{ImagesCompose}
use Rattle.modular_sums.proofs.Counted.{CountAlike, same-count, count-one, count-expand, count_eq}
use Rattle.operad_morphisms.proofs.Products.{count-product, AllTerms-product, count-choices}
use Rattle.operad_morphisms.proofs.Grafts.{grafts, grafts_eq, grafts_one, grafts_twice, grafts_at, instead, instead_same, instead_other, items, choices-grafts}
use Rattle.operad_morphisms.proofs.ImageLeaves.{generator_terms, IsOver, image_over, image_labelled}

pub length-image_row : (images : List (List (ℕ × Tree ℕ))) (r : Row ℕ) → length (image_row images r) ≡ width r
length-image_row images none = refl
length-image_row images (more t r) = ap suc (length-image_row images r)

width-graft_row : (r : Row ℕ) (s : ℕ → Tree ℕ) → width (graft_row r s) ≡ width r
width-graft_row none s = refl
width-graft_row (more t r) s = ap suc (width-graft_row r s)

items-map : (images : List (List (ℕ × Tree ℕ))) (ts : List (Tree ℕ)) (i : ℕ) → items (map (image images) ts) i ≡ image images (item ts i)
items-map images [] i = refl
items-map images (t ∷ ts) zero = refl
items-map images (t ∷ ts) (suc zero) = refl
items-map images (t ∷ ts) (suc (suc i)) = items-map images ts (suc i)

pub always : {A : Type 0} (e : List (ℕ × A)) → AllTerms e (λ x. Unit {0})
always [] = tt
always (x ∷ e) = (tt, always e)

-- each choice has as many trees as there are sums
pub choices-length : {A : Type 0} (es : List (List (ℕ × A))) → AllTerms (choices es) (λ ts. length ts ≡ length es)
choices-length [] = (refl, tt)
choices-length (e ∷ es) = AllTerms-product (λ x xs. x ∷ xs) (λ x. Unit {0}) (λ xs. length xs ≡ length es) (λ xs. length xs ≡ suc (length es)) e (choices es) (always e) (choices-length es) (λ x xs a b. ap suc b)

module _ (from to : Presentation) (images : List (List (ℕ × Tree ℕ))) (given : IsMap from to images) where
  -- of what is chosen for a vertex, each leaf's tree with trees on its leaves
  vertex_image : (g : ℕ) (r : Row ℕ) (s : ℕ → Tree ℕ) (h : Tree ℕ → ℕ) → 2 ≤ arity_of from g → width r ≡ arity_of from g
      → ((i : ℕ) → 0 < i → i ≤ width r → (k : Tree ℕ → ℕ) → sum_over (items (image_row images (graft_row r s)) i) k ≡ sum_over (items (image_row images r) i) (λ y. sum_over (grafts y (λ j. image images (s j))) k))
      → sum_over (image images (node g (graft_row r s))) h ≡ sum_over (image images (node g r)) (λ z. sum_over (grafts z (λ j. image images (s j))) h)
  vertex_image g r s h two w each =
      count-product (λ x ts. graft x (item ts)) (get_or images g []) (choices (image_row images (graft_row r s))) h
      ∙ count_eq (IsLabelled (arity_of to) (arity_of from g)) (get_or images g [])
      (λ x. sum_over (choices (image_row images (graft_row r s))) (λ us. h (graft x (item us))))
      (λ x. sum_over (choices (image_row images r)) (λ us. sum_over (grafts (graft x (item us)) (λ j. image images (s j))) h)) (generator_terms from to images given g two) at
      ∙ sym (count-product (λ x ts. graft x (item ts)) (get_or images g []) (choices (image_row images r)) (λ z. sum_over (grafts z (λ j. image images (s j))) h))
    where
      at : (x : Tree ℕ) → IsLabelled (arity_of to) (arity_of from g) x
          → sum_over (choices (image_row images (graft_row r s))) (λ us. h (graft x (item us))) ≡ sum_over (choices (image_row images r)) (λ us. sum_over (grafts (graft x (item us)) (λ j. image images (s j))) h)
      at x l =
          let k = arity_of from g in
          let few : length (image_row images r) ≡ k = length-image_row images r ∙ w in
          let many : length (image_row images (graft_row r s)) ≡ k = length-image_row images (graft_row r s) ∙ width-graft_row r s ∙ w in
          choices-grafts x (image_row images (graft_row r s)) (subst (λ m. IsNumbered m x) (sym many) (numbered_of_labelled l)) h
          ∙ grafts_twice x (items (image_row images (graft_row r s))) (items (image_row images r)) (λ j. image images (s j))
          (by_leaf x (λ i. (f : Tree ℕ → ℕ) → sum_over (items (image_row images (graft_row r s)) i) f ≡ sum_over (items (image_row images r) i) (λ y. sum_over (grafts y (λ j. image images (s j))) f))
          (λ i o. let b = l.only i o in each i b.0 (omega (arith, b.1, w)))) h
          ∙ sym (choices-grafts x (image_row images r) (subst (λ m. IsNumbered m x) (sym few) (numbered_of_labelled l)) (λ y. sum_over (grafts y (λ j. image images (s j))) h))

  mutual
    -- the image of a tree with trees on its leaves
    pub image-graft : (t : Tree ℕ) → Fits (arity_of from) t → (s : ℕ → Tree ℕ) (h : Tree ℕ → ℕ) → sum_over (image images (graft t s)) h ≡ sum_over (image images t) (λ z. sum_over (grafts z (λ i. image images (s i))) h)
    image-graft (leaf i) f s h = sym (count-one (leaf i) (λ z. sum_over (grafts z (λ j. image images (s j))) h))
    image-graft (node g r) f s h = vertex_image g r s h f.0 f.1 (λ i a b k. items-graft r f.2 s i a b k)

    items-graft : (r : Row ℕ) → FitsRow (arity_of from) r → (s : ℕ → Tree ℕ) (i : ℕ) → 0 < i → i ≤ width r
        → (k : Tree ℕ → ℕ) → sum_over (items (image_row images (graft_row r s)) i) k ≡ sum_over (items (image_row images r) i) (λ y. sum_over (grafts y (λ j. image images (s j))) k)
    items-graft none f s i a b k = absurd (omega (arith, a, b))
    items-graft (more t r) f s zero a b k = absurd (omega (arith, a))
    items-graft (more t r) f s (suc zero) a b k = image-graft t f.0 s k
    items-graft (more t r) f s (suc (suc i)) a b k = items-graft r f.1 s (suc i) (omega arith) (omega (arith, b)) k

  -- composition, counted
  pub image-grafted : (t : Tree ℕ) (ts : List (Tree ℕ)) → IsLabelled (arity_of from) (length ts) t
      → (h : Tree ℕ → ℕ) → sum_over (image images (graft t (item ts))) h ≡ sum_over (image images t) (λ z. sum_over (choices (map (image images) ts)) (λ us. h (graft z (item us))))
  image-grafted t ts l h =
      image-graft t l.fits (item ts) h
      ∙ count_eq (IsLabelled (arity_of to) (length ts)) (image images t) (λ z. sum_over (grafts z (λ i. image images (item ts i))) h) (λ z. sum_over (choices (map (image images) ts)) (λ us. h (graft z (item us))))
      (image_labelled from to images given (length ts) t l) each
    where
      each : (z : Tree ℕ) → IsLabelled (arity_of to) (length ts) z → sum_over (grafts z (λ i. image images (item ts i))) h ≡ sum_over (choices (map (image images) ts)) (λ us. h (graft z (item us)))
      each z k =
          let size : length (map (image images) ts) ≡ length ts = length-map ts (image images) in
          grafts_eq z (λ i. image images (item ts i)) (items (map (image images) ts))
          (AllLeaves-each z (λ i. CountAlike (image images (item ts i)) (items (map (image images) ts) i)) (λ i f. ap (λ e. sum_over e f) (sym (items-map images ts i)))) h
          ∙ sym (choices-grafts z (map (image images) ts) (subst (λ m. IsNumbered m z) (sym size) (numbered_of_labelled k)) h)

  -- contexts, counted
  pub image-put : (c x : Tree ℕ) → Fits (arity_of from) c → IsContext c → (h : Tree ℕ → ℕ) → sum_over (image images (put c x)) h ≡ sum_over (image images c) (λ z. sum_over (image images x) (λ y. h (put z y)))
  image-put c x f o h =
      image-graft c f (at_zero x) h
      ∙ count_eq (IsOver from to images given c) (image images c) (λ z. sum_over (grafts z (λ i. image images (at_zero x i))) h) (λ z. sum_over (image images x) (λ y. h (put z y))) (image_over from to images given c f) each
    where
      one : (y : Tree ℕ) (i : ℕ) → CountAlike (instead (λ j. image images (at_zero x j)) 0 ((1, y) ∷ []) i) ((1, at_zero y i) ∷ [])
      one y zero k = ap (λ e. sum_over e k) (instead_same (λ j. image images (at_zero x j)) 0 ((1, y) ∷ []))
      one y (suc i) k = ap (λ e. sum_over e k) (instead_other (λ j. image images (at_zero x j)) 0 ((1, y) ∷ []) (suc i) (λ e. omega (arith, e)))

      each : (z : Tree ℕ) → IsOver from to images given c z → sum_over (grafts z (λ i. image images (at_zero x i))) h ≡ sum_over (image images x) (λ y. h (put z y))
      each z k =
          grafts_at 0 z (λ i. image images (at_zero x i)) (k.leaves (λ m. one_if (ℕ_discrete m 0)) ∙ o) h
          ∙ sum_over_ext (image images x) (λ y. sum_over (grafts z (instead (λ i. image images (at_zero x i)) 0 ((1, y) ∷ []))) h) (λ y. h (put z y))
          (λ y. grafts_one z (instead (λ i. image images (at_zero x i)) 0 ((1, y) ∷ [])) (at_zero y) (one y) h ∙ count-one (graft z (at_zero y)) h)

  -- composition of elements, counted
  pub image-composed : (e : List (ℕ × Tree ℕ)) (es : List (List (ℕ × Tree ℕ))) → AllTerms e (IsLabelled (arity_of from) (length es)) → CountAlike (image_sum images (composed e es)) (composed (image_sum images e) (map (image_sum images) es))
  image-composed e es l h =
      count-expand (image images) (composed e es) h
      ∙ count-product (λ x ts. graft x (item ts)) e (choices es) (λ y. sum_over (image images y) h)
      ∙ count_eq (IsLabelled (arity_of from) (length es)) e (λ x. sum_over (choices es) (λ ts. sum_over (image images (graft x (item ts))) h))
      (λ x. sum_over (image images x) (λ z. sum_over (choices (map (image_sum images) es)) (λ us. h (graft z (item us))))) l each
      ∙ sym (count-expand (image images) e (λ z. sum_over (choices (map (image_sum images) es)) (λ us. h (graft z (item us)))))
      ∙ sym (count-product (λ x ts. graft x (item ts)) (image_sum images e) (choices (map (image_sum images) es)) h)
    where
      each : (x : Tree ℕ) → IsLabelled (arity_of from) (length es) x
          → sum_over (choices es) (λ ts. sum_over (image images (graft x (item ts))) h) ≡ sum_over (image images x) (λ z. sum_over (choices (map (image_sum images) es)) (λ us. h (graft z (item us))))
      each x k =
          count_eq (λ ts. length ts ≡ length es) (choices es) (λ ts. sum_over (image images (graft x (item ts))) h) (λ ts. sum_over (image images x) (λ z. sum_over (choices (map (image images) ts)) (λ us. h (graft z (item us)))))
          (choices-length es) (λ ts s. image-grafted x ts (subst (λ m. IsLabelled (arity_of from) m x) (sym s) k) h)
          ∙ sum_over_swap (choices es) (image images x) (λ ts z. sum_over (choices (map (image images) ts)) (λ us. h (graft z (item us))))
          ∙ sum_over_ext (image images x) (λ z. sum_over (choices es) (λ ts. sum_over (choices (map (image images) ts)) (λ us. h (graft z (item us))))) (λ z. sum_over (choices (map (image_sum images) es)) (λ us. h (graft z (item us))))
          (λ z. sym (count-choices (image images) es (λ us. h (graft z (item us)))))

pub images_compose : ImagesCompose
images_compose from to images given = record {
  grafted = λ t ts l. same-count tree_discrete to.q (image images (graft t (item ts))) (composed (image images t) (map (image images) ts))
      (λ h. image-grafted from to images given t ts l h ∙ sym (count-product (λ x us. graft x (item us)) (image images t) (choices (map (image images) ts)) h));
  elements = λ e es l. same-count tree_discrete to.q (image_sum images (composed e es)) (composed (image_sum images e) (map (image_sum images) es)) (image-composed from to images given e es l);
  in_context = λ c x f o. same-count tree_discrete to.q (image images (put c x)) (product put (image images c) (image images x))
      (λ h. image-put from to images given c x f o h ∙ sym (count-product put (image images c) (image images x) h));
}
