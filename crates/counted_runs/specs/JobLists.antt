-- The jobs of an arity, as a list.
use Rattle.std.specs.Prelude.{ℕ, ◌≡◌, List, [], ◌∷◌, ◌++◌, map}
use Rattle.std.proofs.Common.{suc, Bool, true, false}
use native.Mathlib.Decide.{ℕ_discrete}
use Rattle.labelled_trees.specs.Trees.{Tree}
use Rattle.shuffle_bases.specs.Elements.{Element}
use Rattle.shuffle_normal_forms.specs.FreeTrees.{is_empty}
use Rattle.operad_ideals.specs.Presentations.{Relation}
use Rattle.shuffle_transfer.specs.Orderings.{orderings}
use Rattle.counted_runs.specs.Jobs.{Job, relabel, combine}

-- the jobs of one relation, where it has arity n and terms: one for each permutation
abbrev pub jobs_of_one : (n k : ℕ) (r : Relation) → Dec (r.arity ≡ n) → Bool → List Job
jobs_of_one n k r (no _) b = []
jobs_of_one n k r (yes _) true = []
jobs_of_one n k r (yes _) false = map (λ v. relabel k r v) (orderings n)

-- the jobs of relations of which the first has the number k
abbrev pub relation_jobs : ℕ → ℕ → List Relation → List Job
relation_jobs n k [] = []
relation_jobs n k (r ∷ rels) = jobs_of_one n k r (ℕ_discrete r.arity n) (is_empty r.terms) ++ relation_jobs n (suc k) rels

-- the job is one of two elements
pub record IsPair (j : Job) : Type 0 where
  pub first : Element
  pub second : Element
  pub tree : Tree ℕ
  pub first_at : List ℕ
  pub second_at : List ℕ
  pub is : j ≡ combine first second tree first_at second_at
