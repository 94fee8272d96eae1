-- Relabelled relations.
use Rattle.std.specs.Prelude.{ℕ, ◌≡◌, ◌<◌, List, [], ◌∷◌, ◌++◌, length}
use Rattle.std.specs.List.{All}
use Rattle.labelled_trees.specs.Meaning.{tree_of}
use Rattle.labelled_trees.specs.Trees.{Tree, graft}
use Rattle.labelled_trees.specs.Insertions.{item}
use Rattle.shuffle_transfer.specs.Orderings.{IsOrdering}
use Rattle.symmetric_trees.specs.Trees.{IsLabelled}
use Rattle.symmetric_trees.specs.declared.generators.Generator.{Generator}
use Rattle.shuffle_transfer.specs.Transfer.{relabelled}
use Rattle.symmetric_trees.specs.Generators.{parts_at}
use Rattle.operad_ideals.specs.Collected.{IsCollected}
use Rattle.symmetric_sums.specs.Terms.{HaveArity, HaveResidues, terms_of}
use Rattle.symmetric_sums.specs.declared.term.Term.{Term}

-- the list is a permutation of 1 to the arity of the terms, if there are any
abbrev pub IsPermutationFor : List Term → List ℕ → Type 0
IsPermutationFor terms v = (n : ℕ) → 0 < length terms → HaveArity n terms → IsOrdering n v

-- behind the terms there is one more: the number of the term beside its tree, with a tree of the list in place of each leaf
pub record RenamedTo (generators : List Generator) (n : ℕ) (leaves : List (Tree ℕ)) (term : Term) (before after : List Term) : Type 0 where
  pub last : Term
  pub behind : after ≡ before ++ last ∷ []
  pub coef_is : last.coef ≡ term.coef
  pub tree_is : tree_of last.tree ≡ graft (tree_of term.tree) (item leaves)
  pub labelled : IsLabelled generators n (tree_of last.tree)

-- The sum is the collected form of the terms in which leaf i became the i-th number of the list.
pub record IsRelabelledSum (p : ℕ) (generators : List Generator) (terms : List Term) (v : List ℕ) (sum : List Term) : Type 0 where
  pub collected : IsCollected p (parts_at generators) (relabelled v (terms_of terms)) (terms_of sum)
  pub residues : HaveResidues p sum
  pub labelled : (n : ℕ) → HaveArity n terms → 0 < length terms → All (λ term. IsLabelled generators n (tree_of term.tree)) sum
