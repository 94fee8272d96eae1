-- The image under one map after another is the image of the image.
use Rattle.std.proofs.Common.{◌≡◌, ℕ, zero, suc, List, [], ◌∷◌, length, map, get_or, refl, sym, ap, ◌∙◌, subst}
use Rattle.std.proofs.lemmas.List.{length-map}
use Rattle.modular_sums.specs.Sums.{expand, AllTerms}
use Rattle.modular_sums.proofs.Replacements.{sum_over, sum_over_ext, sum_over_swap}
use Rattle.labelled_trees.specs.Trees.{Tree, Row, leaf, node, none, more, graft}
use Rattle.labelled_trees.specs.Equality.{tree_discrete}
use Rattle.labelled_trees.specs.Labelled.{Fits, FitsRow, IsLabelled}
use Rattle.labelled_trees.specs.Insertions.{item}
use Rattle.operad_ideals.specs.Presentations.{Presentation, arity_of}
use Rattle.operad_ideals.proofs.Ideals.{ideal-same}
use Rattle.operad_morphisms.specs.Compositions.{choices}
use Rattle.operad_morphisms.specs.Images.{image, image_row, image_sum, composite}
use Rattle.operad_morphisms.specs.Maps.{IsMap}
use Rattle.operad_morphisms.specs.Laws.{MapsCompose}
use Rattle.modular_sums.proofs.Counted.{CountAlike, same-count, count-one, count-expand, count_eq}
use Rattle.operad_morphisms.proofs.Products.{count-product, count-choices}
use Rattle.operad_morphisms.proofs.ImageLeaves.{generator_terms}
use Rattle.operad_morphisms.proofs.ImageSums.{images_of_labelled_trees}
use Rattle.operad_morphisms.proofs.Composing.{length-image_row, choices-length, image-grafted}

-- the image of the generator g under the composite
generator-composite : (second first : List (List (ℕ × Tree ℕ))) (g : ℕ) → get_or (composite first second) g [] ≡ image_sum second (get_or first g [])
unfolding expand
generator-composite second [] g = refl
generator-composite second (e ∷ first) zero = refl
generator-composite second (e ∷ first) (suc g) = generator-composite second first g

module _ (from between to : Presentation) (first second : List (List (ℕ × Tree ℕ))) (one : IsMap from between first) (other : IsMap between to second) where
  composite_map : IsMap from to (composite first second)
  composite_map = record {
    one_prime = one.one_prime ∙ other.one_prime;
    one_each = length-map first (image_sum second) ∙ one.one_each;
    labelled = λ g l. subst (λ e. AllTerms e (IsLabelled (arity_of to) (arity_of from g))) (sym (generator-composite second first g))
        ((images_of_labelled_trees between to second other).element (arity_of from g) (get_or first g []) (one.labelled g l));
  }

  -- at a vertex, where the choices for its inputs count alike
  vertex_twice : (g : ℕ) (r : Row ℕ) → Fits (arity_of from) (node g r) → CountAlike (choices (image_row (composite first second) r)) (choices (map (image_sum second) (image_row first r)))
      → CountAlike (image (composite first second) (node g r)) (image_sum second (image first (node g r)))
  vertex_twice g r f same h =
      count-product (λ z us. graft z (item us)) (get_or (composite first second) g []) (choices (image_row (composite first second) r)) h
      ∙ ap (λ e. sum_over e (λ z. sum_over (choices (image_row (composite first second) r)) (λ us. h (graft z (item us))))) (generator-composite second first g)
      ∙ count-expand (image second) (get_or first g []) (λ z. sum_over (choices (image_row (composite first second) r)) (λ us. h (graft z (item us))))
      ∙ sym (count_eq (IsLabelled (arity_of between) (arity_of from g)) (get_or first g []) (λ x. sum_over (choices (image_row first r)) (λ ts. sum_over (image second (graft x (item ts))) h))
      (λ x. sum_over (image second x) (λ z. sum_over (choices (image_row (composite first second) r)) (λ us. h (graft z (item us))))) (generator_terms from between first one g f.0) each)
      ∙ sym (count-product (λ x ts. graft x (item ts)) (get_or first g []) (choices (image_row first r)) (λ y. sum_over (image second y) h))
      ∙ sym (count-expand (image second) (image first (node g r)) h)
    where
      each : (x : Tree ℕ) → IsLabelled (arity_of between) (arity_of from g) x
          → sum_over (choices (image_row first r)) (λ ts. sum_over (image second (graft x (item ts))) h) ≡ sum_over (image second x) (λ z. sum_over (choices (image_row (composite first second) r)) (λ us. h (graft z (item us))))
      each x l =
          count_eq (λ ts. length ts ≡ length (image_row first r)) (choices (image_row first r)) (λ ts. sum_over (image second (graft x (item ts))) h)
          (λ ts. sum_over (image second x) (λ z. sum_over (choices (map (image second) ts)) (λ us. h (graft z (item us))))) (choices-length (image_row first r))
          (λ ts s. image-grafted between to second other x ts (subst (λ m. IsLabelled (arity_of between) m x) (sym (s ∙ length-image_row first r ∙ f.1)) l) h)
          ∙ sum_over_swap (choices (image_row first r)) (image second x) (λ ts z. sum_over (choices (map (image second) ts)) (λ us. h (graft z (item us))))
          ∙ sum_over_ext (image second x) (λ z. sum_over (choices (image_row first r)) (λ ts. sum_over (choices (map (image second) ts)) (λ us. h (graft z (item us)))))
          (λ z. sum_over (choices (image_row (composite first second) r)) (λ us. h (graft z (item us))))
          (λ z. sym (same (λ us. h (graft z (item us))) ∙ count-choices (image second) (image_row first r) (λ us. h (graft z (item us)))))

  mutual
    image-twice : (t : Tree ℕ) → Fits (arity_of from) t → CountAlike (image (composite first second) t) (image_sum second (image first t))
    image-twice (leaf i) f h = sym (count-expand (image second) ((1, leaf i) ∷ []) h ∙ count-one (leaf i) (λ y. sum_over (image second y) h))
    image-twice (node g r) f h = vertex_twice g r f (λ k. choices-twice r f.2 k) h

    choices-twice : (r : Row ℕ) → FitsRow (arity_of from) r → CountAlike (choices (image_row (composite first second) r)) (choices (map (image_sum second) (image_row first r)))
    choices-twice none f h = refl
    choices-twice (more t r) f h =
        count-product (λ u us. u ∷ us) (image (composite first second) t) (choices (image_row (composite first second) r)) h
        ∙ image-twice t f.0 (λ u. sum_over (choices (image_row (composite first second) r)) (λ us. h (u ∷ us)))
        ∙ sum_over_ext (image_sum second (image first t)) (λ u. sum_over (choices (image_row (composite first second) r)) (λ us. h (u ∷ us))) (λ u. sum_over (choices (map (image_sum second) (image_row first r))) (λ us. h (u ∷ us)))
        (λ u. choices-twice r f.1 (λ us. h (u ∷ us)))
        ∙ sym (count-product (λ u us. u ∷ us) (image_sum second (image first t)) (choices (map (image_sum second) (image_row first r))) h)

  sum-twice : (n : ℕ) (e : List (ℕ × Tree ℕ)) → AllTerms e (IsLabelled (arity_of from) n) → CountAlike (image_sum (composite first second) e) (image_sum second (image_sum first e))
  sum-twice n e l h =
      count-expand (image (composite first second)) e h
      ∙ count_eq (IsLabelled (arity_of from) n) e (λ x. sum_over (image (composite first second) x) h) (λ x. sum_over (image first x) (λ y. sum_over (image second y) h)) l
      (λ x k. image-twice x k.fits h ∙ count-expand (image second) (image first x) h)
      ∙ sym (count-expand (image second) (image_sum first e) h ∙ count-expand (image first) e (λ y. sum_over (image second y) h))

pub maps_compose : MapsCompose
maps_compose from between to first second one other = record {
  is_map = composite_map from between to first second one other;
  image_of_image = λ n e l. same-count tree_discrete to.q (image_sum (composite first second) e) (image_sum second (image_sum first e)) (sum-twice from between to first second one other n e l);
  morphism = λ sends further n e l h.
      ideal-same to n (image_sum (composite first second) e) (image_sum second (image_sum first e))
      (same-count tree_discrete to.q (image_sum (composite first second) e) (image_sum second (image_sum first e)) (sum-twice from between to first second one other n e l))
      (further n (image_sum first e) ((images_of_labelled_trees from between first one).element n e l) (sends n e l h));
}
