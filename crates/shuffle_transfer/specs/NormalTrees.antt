-- Normal trees and normal forms.
use Rattle.std.specs.Prelude.{ℕ, ◌≡◌, ◌↔◌, List, [], ◌∷◌, ◌++◌, map, filter}
use Rattle.std.proofs.Common.{suc}
use Rattle.std.specs.declared.cmp.Ordering.{Ordering}
use Rattle.std.specs.declared.cmp.Ordering.TheVariants.{Less}
use Rattle.modular_sums.specs.Residues.{IsCongruent}
use Rattle.modular_sums.specs.Lists.{Mem, Distinct}
use Rattle.modular_sums.specs.Sums.{coef, Same, scale, AllTerms}
use Rattle.labelled_trees.specs.Trees.{Tree}
use Rattle.labelled_trees.specs.Equality.{tree_discrete}
use Rattle.labelled_trees.specs.Labelled.{IsLabelled}
use Rattle.shuffle_insertions.specs.ShuffleTrees.{IsShuffleTree}
use Rattle.shuffle_insertions.specs.Keys.{key, path, pathshort, leafpath, weightpath}
use Rattle.shuffle_insertions.specs.Listing.{all_trees}
use Rattle.shuffle_bases.specs.Elements.{Element}
use Rattle.shuffle_normal_forms.specs.FreeTrees.{has_no_place}
use Rattle.operad_ideals.specs.Parts.{Part}
use Rattle.operad_ideals.specs.Spelling.{IsSorted}
use Rattle.operad_ideals.specs.Presentations.{Presentation, parts, arity_of}
use Rattle.operad_ideals.specs.Ideals.{InIdeal}
use Rattle.operad_ideals.specs.Collected.{IsReduced}
use Rattle.shuffle_transfer.specs.Labels.{labels, gen, inputs_of, shuffle_form, symmetric_tree}
use Rattle.shuffle_transfer.specs.Transfer.{shuffled}

-- The four orders; the weights of `by_weightpath` are those of the generators.
pub data OneOrder : Type 0 where
  by_path : OneOrder
  by_pathshort : OneOrder
  by_leafpath : OneOrder
  by_weightpath : (ℕ → ℕ) → OneOrder

-- the comparison of shuffle trees over the labels of generators
abbrev pub compare : List (List Part) → OneOrder → Tree ℕ → Tree ℕ → Ordering
compare generators by_path x y = path (key (λ l. 0) x) (key (λ l. 0) y)
compare generators by_pathshort x y = pathshort (key (λ l. 0) x) (key (λ l. 0) y)
compare generators by_leafpath x y = leafpath (key (λ l. 0) x) (key (λ l. 0) y)
compare generators (by_weightpath weights) x y = weightpath (key (λ l. weights (gen generators l)) x) (key (λ l. weights (gen generators l)) y)

-- The listing of arity n: the trees of all shuffle trees over the labels that no leading tree divides.
abbrev pub normal_list : List (List Part) → List Element → ℕ → List (Tree ℕ)
normal_list generators elements n = map (symmetric_tree generators) (filter (has_no_place elements) (all_trees (labels generators) (inputs_of generators) n))

module _ (p : Presentation) where
  -- The list consists of trees labelled by 1 to n.
  abbrev pub HasLabelledTrees : ℕ → List (Tree ℕ) → Type 0
  HasLabelledTrees n l = (t : Tree ℕ) → Mem t l → IsLabelled (arity_of p) n t

  -- The list of labelled trees is independent modulo the ideal: no tree stands twice, and an element of the ideal on trees of the list
  -- is zero.
  pub record IsIndependent (n : ℕ) (l : List (Tree ℕ)) : Type 0 where
    pub labelled : HasLabelledTrees n l
    pub distinct : Distinct l
    pub zero : (e : List (ℕ × Tree ℕ)) → AllTerms e (λ t. Mem t l) → InIdeal p n e → Same tree_discrete p.q e []

  -- The list of labelled trees is spanning modulo the ideal: each labelled tree less some element on trees of the list is in the ideal.
  pub record IsSpanning (n : ℕ) (l : List (Tree ℕ)) : Type 0 where
    pub labelled : HasLabelledTrees n l
    pub spans : (t : Tree ℕ) → IsLabelled (arity_of p) n t → (e : List (ℕ × Tree ℕ)) × AllTerms e (λ u. Mem u l) × InIdeal p n ((1, t) ∷ scale p.q e)

  -- Modulo the ideal e is the combination f of trees of the list: an element on trees of the list, with e less f in the ideal.
  pub record IsCombination (n : ℕ) (l : List (Tree ℕ)) (e f : List (ℕ × Tree ℕ)) : Type 0 where
    pub on_list : AllTerms f (λ t. Mem t l)
    pub rest : InIdeal p n (e ++ scale p.q f)

  module _ (cmp : Tree ℕ → Tree ℕ → Ordering) (n : ℕ) where
    -- t is the leading tree of the element: the greatest tree of its collected form. It is a sorted labelled tree, its shuffle form
    -- stands in that of the element, and no greater tree does (Bremner and Dotsenko 2016, leading monomials).
    pub record IsLead (e : List (ℕ × Tree ℕ)) (t : Tree ℕ) : Type 0 where
      pub labelled : IsLabelled (arity_of p) n t
      pub sorted : IsSorted (parts p) t
      pub there : IsCongruent p.q (coef tree_discrete (shuffled p e) (shuffle_form p.generators t)) 0 → ⊥
      pub above : (s : Tree ℕ) → IsShuffleTree (inputs_of p.generators) n s → cmp (shuffle_form p.generators t) s ≡ Less → IsCongruent p.q (coef tree_discrete (shuffled p e) s) 0

    -- A normal tree: a sorted labelled tree that is the leading tree of no element of the ideal
    -- (Bremner and Dotsenko 2016, normal monomials).
    pub record IsNormalTree (t : Tree ℕ) : Type 0 where
      pub labelled : IsLabelled (arity_of p) n t
      pub sorted : IsSorted (parts p) t
      pub leads_none : (e : List (ℕ × Tree ℕ)) → AllTerms e (IsLabelled (arity_of p) n) → InIdeal p n e → IsLead e t → ⊥

    -- The list has the normal trees, each once, in any order.
    pub record HasNormalTrees (l : List (Tree ℕ)) : Type 0 where
      pub distinct : Distinct l
      pub normal : (t : Tree ℕ) → Mem t l ↔ IsNormalTree t

    -- As a sum, f is the normal form of e: it is on normal trees, and e less f is in the ideal.
    pub record IsNormalSum (e f : List (ℕ × Tree ℕ)) : Type 0 where
      pub normal : AllTerms f IsNormalTree
      pub rest : InIdeal p n (e ++ scale p.q f)

    -- The normal form of e is f: the collected element on normal trees whose difference from e is in the ideal
    -- (Bremner and Dotsenko 2016, normal forms).
    pub record IsNormalForm (e f : List (ℕ × Tree ℕ)) : Type 0 where
      pub as_sum : IsNormalSum e f
      pub collected : IsReduced (suc p.q) (parts p) f
