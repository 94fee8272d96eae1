-- The leaves of images: each tree of an image fits the second generators and has the leaves of the tree that it comes from.
use Rattle.std.proofs.Common.{◌≡◌, ℕ, zero, suc, ◌+◌, ◌<◌, ◌≤◌, List, [], ◌∷◌, length, map, get_or, refl, sym, ap, ◌∙◌, arith}
use Rattle.std.specs.List.{AllByRecursion}
use native.Mathlib.Decide.{ℕ_discrete}
use Rattle.modular_sums.specs.Sums.{AllTerms}
use Rattle.modular_sums.proofs.Images.{AllTerms-imp}
use Rattle.labelled_trees.specs.Trees.{Tree, Row, leaf, node, none, more, graft, graft_row, inputs, width}
use Rattle.labelled_trees.specs.Leaves.{one_if, sum_leaves, sum_row, occurs}
use Rattle.labelled_trees.specs.Labelled.{Fits, FitsRow, IsLabelled}
use Rattle.labelled_trees.specs.Insertions.{item}
use Rattle.labelled_trees.proofs.Fitting.{fits-graft}
use Rattle.labelled_trees.proofs.GraftLeaves.{graft_row_ext, sum_leaves-graft, sum_row-graft}
use Rattle.labelled_trees.proofs.Leaves.{AllLeaves-each, AllRow-imp, sum_leaves-same}
use Rattle.labelled_trees.proofs.Numbered.{numbered_of_labelled, numbered_sums}
use Rattle.operad_ideals.specs.Parts.{Part, total, parts_of}
use Rattle.operad_ideals.specs.Presentations.{Presentation, arity_of}
use Rattle.operad_ideals.specs.Rules.{numbered}
use Rattle.operad_ideals.proofs.Corollas.{numbered-numbered}
use Rattle.operad_ideals.proofs.Exchanged.{input_at, for_leaf, numbered-for_leaf, numbered_within}
use Rattle.operad_morphisms.specs.Compositions.{choices}
use Rattle.operad_morphisms.specs.Images.{image, image_row}
use Rattle.operad_morphisms.specs.Maps.{IsMap}
use Rattle.operad_morphisms.proofs.Products.{AllTerms-product}

item_input : (r : Row ℕ) (i : ℕ) → item (inputs r) (suc i) ≡ input_at r i
item_input none i = refl
item_input (more t r) zero = refl
item_input (more t r) (suc i) = item_input r i

item_for_leaf : (r : Row ℕ) (i : ℕ) → 0 < i → item (inputs r) i ≡ for_leaf r i
item_for_leaf r zero l = absurd (omega (arith, l))
item_for_leaf r (suc i) l = item_input r i

-- the leaves 1 to k, with the inputs of a row in their place, are that row
pub numbered-items : (k : ℕ) (r : Row ℕ) → width r ≡ k → graft_row (numbered 0 k) (item (inputs r)) ≡ r
numbered-items k r e =
    graft_row_ext (numbered 0 k) (item (inputs r)) (for_leaf r) (AllRow-imp (numbered 0 k) (λ i. (0 < i) × (i ≤ 0 + k)) (λ i. item (inputs r) i ≡ for_leaf r i) (λ i h. item_for_leaf r i h.0) (numbered_within 0 k))
    ∙ numbered-for_leaf k r e

-- where a vertex has inputs, there is its generator
pub in_range : (generators : List (List Part)) (g : ℕ) → 2 ≤ total (parts_of generators g) → g < length generators
in_range [] g h = absurd (omega (arith, h))
in_range (p ∷ generators) zero h = omega arith
in_range (p ∷ generators) (suc g) h = omega (arith, in_range generators g h)

module _ (from to : Presentation) (images : List (List (ℕ × Tree ℕ))) (given : IsMap from to images) where
  pub generator_terms : (g : ℕ) → 2 ≤ arity_of from g → AllTerms (get_or images g []) (IsLabelled (arity_of to) (arity_of from g))
  generator_terms g h = given.labelled g (in_range from.generators g h)

  -- a tree fits the second generators and has the leaves of t
  pub record IsOver (t z : Tree ℕ) : Type 0 where
    pub fits : Fits (arity_of to) z
    pub leaves : (f : ℕ → ℕ) → sum_leaves z f ≡ sum_leaves t f

  -- each tree of a list is over its like
  abbrev pub AreOver : List (Tree ℕ) → List (Tree ℕ) → Type 0
  AreOver [] [] = Unit {0}
  AreOver [] (u ∷ us) = ⊥
  AreOver (t ∷ ts) [] = ⊥
  AreOver (t ∷ ts) (u ∷ us) = IsOver t u × AreOver ts us

  pub item_over : (ts us : List (Tree ℕ)) → AreOver ts us → (i : ℕ) → IsOver (item ts i) (item us i)
  item_over [] [] h i = record { fits = tt; leaves = λ f. refl }
  item_over [] (u ∷ us) h i = absurd h
  item_over (t ∷ ts) [] h i = absurd h
  item_over (t ∷ ts) (u ∷ us) h zero = record { fits = tt; leaves = λ f. refl }
  item_over (t ∷ ts) (u ∷ us) h (suc zero) = h.0
  item_over (t ∷ ts) (u ∷ us) h (suc (suc i)) = item_over ts us h.1 (suc i)

  -- where the trees on the leaves are over the others, so is what is grafted
  pub graft_over : (x : Tree ℕ) (ts us : List (Tree ℕ)) → Fits (arity_of to) x → AreOver ts us → Fits (arity_of to) (graft x (item us)) × ((f : ℕ → ℕ) → sum_leaves (graft x (item us)) f ≡ sum_leaves (graft x (item ts)) f)
  graft_over x ts us b h = (
    fits-graft (arity_of to) x (item us) b (AllLeaves-each x (λ i. Fits (arity_of to) (item us i)) (λ i. (item_over ts us h i).fits)),
    λ f. sum_leaves-graft x (item us) f
        ∙ sum_leaves-same x (λ i. sum_leaves (item us i) f) (λ i. sum_leaves (item ts i) f) (AllLeaves-each x (λ i. sum_leaves (item us i) f ≡ sum_leaves (item ts i) f) (λ i. (item_over ts us h i).leaves f))
        ∙ sym (sum_leaves-graft x (item ts) f),
  )

  -- a tree that is numbered as a vertex's inputs are, with what is over them
  vertex_over : (g : ℕ) (r : Row ℕ) → width r ≡ arity_of from g → (x : Tree ℕ) (us : List (Tree ℕ)) → IsLabelled (arity_of to) (arity_of from g) x → AreOver (inputs r) us → IsOver (node g r) (graft x (item us))
  vertex_over g r w x us l h =
      let o = graft_over x (inputs r) us l.fits h in
      let k = arity_of from g in
      record {
        fits = o.0;
        leaves = λ f. o.1 f
            ∙ sum_leaves-graft x (item (inputs r)) f
            ∙ numbered_sums (numbered_of_labelled l) (numbered-numbered g k) (λ i. sum_leaves (item (inputs r) i) f)
            ∙ sym (sum_row-graft (numbered 0 k) (item (inputs r)) f)
            ∙ ap (λ s. sum_row s f) (numbered-items k r w);
      }

  mutual
    pub image_over : (t : Tree ℕ) → Fits (arity_of from) t → AllTerms (image images t) (IsOver t)
    image_over (leaf i) h = (record { fits = tt; leaves = λ f. refl }, tt)
    image_over (node g r) h =
        AllTerms-product (λ x ts. graft x (item ts)) (IsLabelled (arity_of to) (arity_of from g)) (AreOver (inputs r)) (IsOver (node g r)) (get_or images g []) (choices (image_row images r))
        (generator_terms g h.0) (choices_over r h.2) (λ x us l k. vertex_over g r h.1 x us l k)

    pub choices_over : (r : Row ℕ) → FitsRow (arity_of from) r → AllTerms (choices (image_row images r)) (AreOver (inputs r))
    choices_over none h = (tt, tt)
    choices_over (more t r) h =
        AllTerms-product (λ u us. u ∷ us) (IsOver t) (AreOver (inputs r)) (AreOver (t ∷ inputs r)) (image images t) (choices (image_row images r))
        (image_over t h.0) (choices_over r h.1) (λ u us a b. (a, b))

  pub choices_list_over : (ts : List (Tree ℕ)) → AllByRecursion (Fits (arity_of from)) ts → AllTerms (choices (map (image images) ts)) (AreOver ts)
  choices_list_over [] h = (tt, tt)
  choices_list_over (t ∷ ts) h =
      AllTerms-product (λ u us. u ∷ us) (IsOver t) (AreOver ts) (AreOver (t ∷ ts)) (image images t) (choices (map (image images) ts))
      (image_over t h.0) (choices_list_over ts h.1) (λ u us a b. (a, b))

  pub labelled_over : (n : ℕ) (t z : Tree ℕ) → IsLabelled (arity_of from) n t → IsOver t z → IsLabelled (arity_of to) n z
  labelled_over n t z l o =
      let same : (i : ℕ) → occurs i z ≡ occurs i t = λ i. o.leaves (λ m. one_if (ℕ_discrete m i)) in
      record { fits = o.fits; each = λ i a b. same i ∙ l.each i a b; only = λ i a. l.only i (omega (arith, a, same i)) }

  pub image_labelled : (n : ℕ) (t : Tree ℕ) → IsLabelled (arity_of from) n t → AllTerms (image images t) (IsLabelled (arity_of to) n)
  image_labelled n t l = AllTerms-imp (IsOver t) (IsLabelled (arity_of to) n) (image images t) (λ z o. labelled_over n t z l o) (image_over t l.fits)
