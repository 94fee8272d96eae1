-- The identity map changes nothing.
use Rattle.std.proofs.Common.{◌≡◌, ℕ, zero, suc, ◌+◌, ◌*◌, ◌<◌, List, [], ◌∷◌, length, get_or, refl, sym, ap, ◌∙◌, subst, arith}
use mathlib.Core.List.{◌++◌}
use mathlib.Core.Path.{ap₂}
use Rattle.modular_sums.specs.Sums.{scale, expand, AllTerms}
use Rattle.labelled_trees.specs.Trees.{Tree, Row, leaf, node, none, more, graft, inputs}
use Rattle.labelled_trees.specs.Labelled.{Fits, FitsRow, IsLabelled}
use Rattle.labelled_trees.specs.Insertions.{item}
use Rattle.operad_ideals.specs.Parts.{Part, total, parts_of}
use Rattle.operad_ideals.specs.Presentations.{Presentation, arity_of}
use Rattle.operad_ideals.specs.Rules.{numbered}
use Rattle.operad_ideals.specs.Ideals.{InIdeal}
use Rattle.operad_morphisms.specs.Compositions.{product, choices}
use Rattle.operad_morphisms.specs.Images.{image, image_row, image_sum, corollas, identity}
use Rattle.operad_morphisms.specs.Laws.{IdentityMap}
use Rattle.operad_morphisms.proofs.ImageLeaves.{numbered-items, in_range}
use Rattle.operad_ideals.proofs.Corollas.{corolla_labelled}

length-corollas : (a : ℕ) (generators : List (List Part)) → length (corollas a generators) ≡ length generators
length-corollas a [] = refl
length-corollas a (p ∷ generators) = ap suc (length-corollas (suc a) generators)

corolla_at : (a : ℕ) (generators : List (List Part)) (g : ℕ) → g < length generators → get_or (corollas a generators) g [] ≡ (1, node (a + g) (numbered 0 (total (parts_of generators g)))) ∷ []
corolla_at a [] g l = absurd (omega (arith, l))
corolla_at a (p ∷ generators) zero l = let z : a ≡ a + 0 = omega arith in ap (λ h. (1, node h (numbered 0 (total p))) ∷ []) z
corolla_at a (p ∷ generators) (suc g) l =
    let z : suc a + g ≡ a + suc g = omega arith in
    corolla_at (suc a) generators g (omega (arith, l)) ∙ ap (λ h. (1, node h (numbered 0 (total (parts_of generators g)))) ∷ []) z

module _ (p : Presentation) where
  generator_is : (g : ℕ) → g < length p.generators → get_or (identity p) g [] ≡ (1, node g (numbered 0 (arity_of p g))) ∷ []
  generator_is g l = let z : 0 + g ≡ g = omega arith in corolla_at 0 p.generators g l ∙ ap (λ h. (1, node h (numbered 0 (arity_of p g))) ∷ []) z

  mutual
    image-identity : (t : Tree ℕ) → Fits (arity_of p) t → image (identity p) t ≡ (1, t) ∷ []
    image-identity (leaf i) f = refl
    image-identity (node g r) f =
        ap₂ (λ d e. product (λ x ts. graft x (item ts)) d e) (generator_is g (in_range p.generators g f.0)) (choices-identity r f.2)
        ∙ ap (λ s. (1, node g s) ∷ []) (numbered-items (arity_of p g) r f.1)

    choices-identity : (r : Row ℕ) → FitsRow (arity_of p) r → choices (image_row (identity p) r) ≡ (1, inputs r) ∷ []
    choices-identity none f = refl
    choices-identity (more t r) f = ap₂ (λ d e. product (λ x xs. x ∷ xs) d e) (image-identity t f.0) (choices-identity r f.1)

  sum-identity : (n : ℕ) (e : List (ℕ × Tree ℕ)) → AllTerms e (IsLabelled (arity_of p) n) → image_sum (identity p) e ≡ e
  unfolding expand scale
  sum-identity n [] l = refl
  sum-identity n (x ∷ e) l =
      let z : x.0 * 1 ≡ x.0 = omega arith in
      ap₂ (λ a b. scale x.0 a ++ b) (image-identity x.1 l.0.fits) (sum-identity n e l.1) ∙ ap (λ c. (c, x.1) ∷ e) z

pub identity_law : IdentityMap
identity_law p wide = record {
  is_map = record {
    one_prime = refl;
    one_each = length-corollas 0 p.generators;
    labelled = λ g l. subst (λ e. AllTerms e (IsLabelled (arity_of p) (arity_of p g))) (sym (generator_is p g l)) (corolla_labelled (arity_of p) g (wide g l), tt);
  };
  unchanged = sum-identity p;
  morphism = λ n e l h. subst (InIdeal p n) (sym (sum-identity p n e l)) h;
}
