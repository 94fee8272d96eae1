-- Images of sums: arities, sameness, and relabelling.
use Rattle.std.proofs.Common.{◌≡◌, ℕ, zero, suc, ◌*◌, ◌<◌, ◌≤◌, List, [], ◌∷◌, length, map, get_or, refl, sym, ap, ◌∙◌, arith}
use mathlib.Core.List.{◌++◌}
use mathlib.Core.Path.{ap₂}
use Rattle.modular_sums.specs.Sums.{scale, expand, moved, AllTerms}
use Rattle.modular_sums.proofs.Images.{moved-append, moved-scale}
use Rattle.labelled_trees.specs.Trees.{Tree, Row, leaf, node, none, more, graft, graft_row, map_tree}
use Rattle.labelled_trees.specs.Equality.{tree_discrete}
use Rattle.labelled_trees.specs.Labelled.{Fits, FitsRow, IsLabelled}
use Rattle.labelled_trees.specs.Insertions.{item}
use Rattle.labelled_trees.proofs.Grafts.{graft_assoc}
use Rattle.labelled_trees.proofs.GraftLeaves.{graft_ext}
use Rattle.labelled_trees.proofs.Leaves.{by_leaf}
use Rattle.operad_ideals.specs.Presentations.{Presentation, arity_of}
use Rattle.operad_morphisms.specs.Compositions.{product, choices}
use Rattle.operad_morphisms.specs.Images.{image, image_row, image_sum}
use Rattle.operad_morphisms.specs.Maps.{IsMap}
use Rattle.operad_morphisms.specs.Laws.{ImagesOfLabelledTrees}
use Rattle.modular_sums.proofs.Counted.{AllTerms-expand, expand-append, expand-scale, same-expand}
use Rattle.operad_morphisms.proofs.ImageLeaves.{generator_terms, image_labelled}
use Rattle.operad_morphisms.proofs.Composing.{length-image_row, always, choices-length}

-- ---- relabelling

moved-multiples : {B C D E : Type 0} (k : ℕ) (f : D → E) (g : B → C) (b : B → D) (c : C → E) (Q : B → Type 0) (e : List (ℕ × B)) → AllTerms e Q → ((y : B) → Q y → f (b y) ≡ c (g y))
    → map (λ y. (k * y.0, f y.1)) (moved b e) ≡ moved c (map (λ y. (k * y.0, g y.1)) e)
moved-multiples k f g b c Q [] a h = refl
moved-multiples k f g b c Q (y ∷ e) a h = ap₂ (λ x l. (k * y.0, x) ∷ l) (h y.1 a.0) (moved-multiples k f g b c Q e a.1 h)

-- a product of changed sums
product-moved : {A B C D E F : Type 0} (f : D → E → F) (g : A → B → C) (a : A → D) (b : B → E) (c : C → F) (P : A → Type 0) (Q : B → Type 0) (d : List (ℕ × A)) (e : List (ℕ × B))
    → AllTerms d P → AllTerms e Q → ((x : A) (y : B) → P x → Q y → f (a x) (b y) ≡ c (g x y)) → product f (moved a d) (moved b e) ≡ moved c (product g d e)
product-moved f g a b c P Q [] e u v h = refl
product-moved f g a b c P Q (x ∷ d) e u v h =
    ap₂ (λ k l. k ++ l) (moved-multiples x.0 (f (a x.1)) (g x.1) b c Q e v (λ y. h x.1 y u.0)) (product-moved f g a b c P Q d e u.1 v h)
    ∙ sym (moved-append c (map (λ y. (x.0 * y.0, g x.1 y.1)) e) (product g d e))

pub moved-itself : {A : Type 0} (e : List (ℕ × A)) → moved (λ x. x) e ≡ e
moved-itself [] = refl
moved-itself (x ∷ e) = ap (λ l. x ∷ l) (moved-itself e)

item-map : (f : Tree ℕ → Tree ℕ) (ts : List (Tree ℕ)) (i : ℕ) → 0 < i → i ≤ length ts → item (map f ts) i ≡ f (item ts i)
item-map f [] i a b = absurd (omega (arith, a, b))
item-map f (t ∷ ts) zero a b = absurd (omega (arith, a))
item-map f (t ∷ ts) (suc zero) a b = refl
item-map f (t ∷ ts) (suc (suc i)) a b = item-map f ts (suc i) (omega arith) (omega (arith, b))

module _ (from to : Presentation) (images : List (List (ℕ × Tree ℕ))) (given : IsMap from to images) (f : ℕ → ℕ) where
  relabelled_graft : (n : ℕ) (x : Tree ℕ) (ts : List (Tree ℕ)) → IsLabelled (arity_of to) n x → length ts ≡ n → graft x (item (map (map_tree f) ts)) ≡ map_tree f (graft x (item ts))
  relabelled_graft n x ts l s =
      graft_ext x (item (map (map_tree f) ts)) (λ i. map_tree f (item ts i))
      (by_leaf x (λ i. item (map (map_tree f) ts) i ≡ map_tree f (item ts i)) (λ i o. let w = l.only i o in item-map (map_tree f) ts i w.0 (omega (arith, w.1, s))))
      ∙ sym (graft_assoc x (item ts) (λ a. leaf (f a)))

  mutual
    image-relabelled : (t : Tree ℕ) → Fits (arity_of from) t → image images (map_tree f t) ≡ moved (map_tree f) (image images t)
    image-relabelled (leaf i) h = refl
    image-relabelled (node g r) h =
        ap₂ (λ d e. product (λ x ts. graft x (item ts)) d e) (sym (moved-itself (get_or images g []))) (choices-relabelled r h.2)
        ∙ product-moved (λ x ts. graft x (item ts)) (λ x ts. graft x (item ts)) (λ x. x) (map (map_tree f)) (map_tree f) (IsLabelled (arity_of to) (arity_of from g)) (λ ts. length ts ≡ length (image_row images r))
        (get_or images g []) (choices (image_row images r)) (generator_terms from to images given g h.0) (choices-length (image_row images r))
        (λ x ts l s. relabelled_graft (arity_of from g) x ts l (s ∙ length-image_row images r ∙ h.1))

    choices-relabelled : (r : Row ℕ) → FitsRow (arity_of from) r → choices (image_row images (graft_row r (λ a. leaf (f a)))) ≡ moved (map (map_tree f)) (choices (image_row images r))
    choices-relabelled none h = refl
    choices-relabelled (more t r) h =
        ap₂ (λ d e. product (λ x xs. x ∷ xs) d e) (image-relabelled t h.0) (choices-relabelled r h.1)
        ∙ product-moved (λ x xs. x ∷ xs) (λ x xs. x ∷ xs) (map_tree f) (map (map_tree f)) (map (map_tree f)) (λ x. Unit {0}) (λ x. Unit {0}) (image images t) (choices (image_row images r))
        (always (image images t)) (always (choices (image_row images r))) (λ x xs a b. refl)

  element-relabelled : (n : ℕ) (e : List (ℕ × Tree ℕ)) → AllTerms e (IsLabelled (arity_of from) n) → image_sum images (moved (map_tree f) e) ≡ moved (map_tree f) (image_sum images e)
  unfolding expand
  element-relabelled n [] l = refl
  element-relabelled n (x ∷ e) l =
      ap₂ (λ a b. a ++ b) (ap (scale x.0) (image-relabelled x.1 l.0.fits) ∙ sym (moved-scale (map_tree f) x.0 (image images x.1))) (element-relabelled n e l.1)
      ∙ sym (moved-append (map_tree f) (scale x.0 (image images x.1)) (expand (image images) e))

pub images_of_labelled_trees : ImagesOfLabelledTrees
images_of_labelled_trees from to images given = record {
  labelled = image_labelled from to images given;
  element = λ n e h. AllTerms-expand (image images) (IsLabelled (arity_of from) n) (IsLabelled (arity_of to) n) e h (λ t l. image_labelled from to images given n t l);
  added = expand-append (image images);
  scaled = expand-scale (image images);
  same = same-expand tree_discrete tree_discrete to.q (image images);
  relabelled = image-relabelled from to images given;
  relabelled_element = element-relabelled from to images given;
}
