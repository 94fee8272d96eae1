-- What holds of maps between operads.
use Rattle.std.specs.Prelude.{ℕ, ◌≡◌, ◌↔◌, List, [], ◌++◌, ◌+◌, ◌-◌, ◌<◌, length, map, sum_by, count_by}
use Rattle.modular_sums.specs.Lists.{Mem}
use Rattle.modular_sums.specs.Sums.{scale, Same, moved, AllTerms}
use Rattle.labelled_trees.specs.Trees.{Tree, graft, map_tree}
use Rattle.labelled_trees.specs.Equality.{tree_discrete}
use Rattle.labelled_trees.specs.Labelled.{Fits, IsLabelled}
use Rattle.labelled_trees.specs.Insertions.{IsContext, put, item}
use Rattle.operad_ideals.specs.Parts.{Sign, InOnePart}
use Rattle.operad_ideals.specs.Presentations.{Presentation, parts, arity_of, IsWide, IsSound}
use Rattle.operad_ideals.specs.Rules.{Rule, rule_arity, rule_terms}
use Rattle.operad_ideals.specs.Ideals.{InIdeal}
use Rattle.operad_morphisms.specs.Compositions.{product, composed}
use Rattle.operad_morphisms.specs.Images.{image, image_sum, composite, identity}
use Rattle.operad_morphisms.specs.Maps.{IsMap, AreMet, SendsIdeal}
use Rattle.operad_morphisms.specs.Obligations.{Obligation, relation_at, swap, rel, obligations, obligation_arity, obligation_terms, ObligationsAreInOrder, swap_count, has_terms}

-- The map is a morphism of free operads: it keeps composition.
pub record CompositionLaw (from to : Presentation) (images : List (List (ℕ × Tree ℕ))) : Type 0 where
  -- the image of a tree with trees on its leaves is the composition of the images
  pub grafted : (t : Tree ℕ) (ts : List (Tree ℕ)) → IsLabelled (arity_of from) (length ts) t
      → Same tree_discrete to.q (image images (graft t (item ts))) (composed (image images t) (map (image images) ts))
  -- so is the image of elements that are composed
  pub elements : (e : List (ℕ × Tree ℕ)) (es : List (List (ℕ × Tree ℕ))) → AllTerms e (IsLabelled (arity_of from) (length es))
      → Same tree_discrete to.q (image_sum images (composed e es)) (composed (image_sum images e) (map (image_sum images) es))
  -- the image of a tree in a context is each tree of its image in each context of the context's image
  pub in_context : (c x : Tree ℕ) → Fits (arity_of from) c → IsContext c
      → Same tree_discrete to.q (image images (put c x)) (product put (image images c) (image images x))

abbrev pub ImagesCompose : Type 0
ImagesCompose = (from to : Presentation) (images : List (List (ℕ × Tree ℕ))) → IsMap from to images → CompositionLaw from to images

-- Images keep arities, sums and multiples, depend on coefficients alone, and what relabels the leaves of a tree relabels those of its image.
pub record ImageLaw (from to : Presentation) (images : List (List (ℕ × Tree ℕ))) : Type 0 where
  pub labelled : (n : ℕ) (t : Tree ℕ) → IsLabelled (arity_of from) n t → AllTerms (image images t) (IsLabelled (arity_of to) n)
  pub element : (n : ℕ) (e : List (ℕ × Tree ℕ)) → AllTerms e (IsLabelled (arity_of from) n) → AllTerms (image_sum images e) (IsLabelled (arity_of to) n)
  pub added : (e f : List (ℕ × Tree ℕ)) → image_sum images (e ++ f) ≡ image_sum images e ++ image_sum images f
  pub scaled : (c : ℕ) (e : List (ℕ × Tree ℕ)) → image_sum images (scale c e) ≡ scale c (image_sum images e)
  pub same : (e f : List (ℕ × Tree ℕ)) → Same tree_discrete to.q e f → Same tree_discrete to.q (image_sum images e) (image_sum images f)
  pub relabelled : (f : ℕ → ℕ) (t : Tree ℕ) → Fits (arity_of from) t → image images (map_tree f t) ≡ moved (map_tree f) (image images t)
  pub relabelled_element : (f : ℕ → ℕ) (n : ℕ) (e : List (ℕ × Tree ℕ)) → AllTerms e (IsLabelled (arity_of from) n)
      → image_sum images (moved (map_tree f) e) ≡ moved (map_tree f) (image_sum images e)

abbrev pub ImagesOfLabelledTrees : Type 0
ImagesOfLabelledTrees = (from to : Presentation) (images : List (List (ℕ × Tree ℕ))) → IsMap from to images → ImageLaw from to images

-- All obligations are met exactly where the image of every rule lies in the ideal, and exactly where the map sends the ideal into
-- the ideal; then it does so too for elements in which trees that aren't labelled cancel.
pub record MorphismLaw (from to : Presentation) (images : List (List (ℕ × Tree ℕ))) : Type 0 where
  pub every_rule : AreMet from to images ↔ ((rule : Rule from) → InIdeal to (rule_arity from rule) (image_sum images (rule_terms from rule)))
  pub exactly : AreMet from to images ↔ SendsIdeal from to images
  pub any_element : AreMet from to images → (n : ℕ) (e : List (ℕ × Tree ℕ)) → InIdeal from n e → InIdeal to n (image_sum images e)

abbrev pub Morphism : Type 0
Morphism = (from to : Presentation) (images : List (List (ℕ × Tree ℕ))) → IsSound from → IsSound to → IsMap from to images → MorphismLaw from to images

-- The obligations are the rules with terms, each once, in their order. A part that isn't free gives one less than it has inputs. They
-- count the inputs of a generator and the relations from 1; `InOnePart` counts inputs from 0.
pub record ObligationLaw (p : Presentation) : Type 0 where
  pub swaps : (g i : ℕ) (s : Sign) → Mem (swap g i s) (obligations p) ↔ ((0 < i) × InOnePart (parts p g) (i - 1) s)
  pub rels : (k : ℕ) → Mem (rel k) (obligations p) ↔ ((relation_at p.relations k).terms ≡ [] → ⊥)
  pub in_order : ObligationsAreInOrder (obligations p)
  pub count : length (obligations p) ≡ sum_by (λ parts. sum_by (λ part. swap_count part.kind part.size) parts) p.generators + count_by (λ r. has_terms r.terms) p.relations
  pub each_rule : (rule : Rule p) → (rule_terms p rule ≡ [] → ⊥)
      → (o : Obligation) × Mem o (obligations p) × (obligation_arity p o ≡ rule_arity p rule) × (obligation_terms p o ≡ rule_terms p rule)
  pub only_rules : (o : Obligation) → Mem o (obligations p)
      → (rule : Rule p) × (rule_terms p rule ≡ [] → ⊥) × (obligation_arity p o ≡ rule_arity p rule) × (obligation_terms p o ≡ rule_terms p rule)

abbrev pub ObligationCount : Type 0
ObligationCount = (p : Presentation) → ObligationLaw p

-- The image under a composite map is the image of the image, and the composite of morphisms is a morphism.
pub record CompositeLaw (from between to : Presentation) (first second : List (List (ℕ × Tree ℕ))) : Type 0 where
  pub is_map : IsMap from to (composite first second)
  pub image_of_image : (n : ℕ) (e : List (ℕ × Tree ℕ)) → AllTerms e (IsLabelled (arity_of from) n)
      → Same tree_discrete to.q (image_sum (composite first second) e) (image_sum second (image_sum first e))
  pub morphism : SendsIdeal from between first → SendsIdeal between to second → SendsIdeal from to (composite first second)

abbrev pub MapsCompose : Type 0
MapsCompose = (from between to : Presentation) (first second : List (List (ℕ × Tree ℕ))) → IsMap from between first → IsMap between to second
    → CompositeLaw from between to first second

-- The identity is a morphism, and the image of an element is that element.
pub record IdentityLaw (p : Presentation) : Type 0 where
  pub is_map : IsMap p p (identity p)
  pub unchanged : (n : ℕ) (e : List (ℕ × Tree ℕ)) → AllTerms e (IsLabelled (arity_of p) n) → image_sum (identity p) e ≡ e
  pub morphism : SendsIdeal p p (identity p)

abbrev pub IdentityMap : Type 0
IdentityMap = (p : Presentation) → IsWide p → IdentityLaw p
