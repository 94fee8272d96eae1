-- What is reduced in an arity of the completion.
use Rattle.std.specs.Prelude.{ℕ, ◌≡◌, ◌<◌, List, map}
use Rattle.std.proofs.Common.{◌⊎◌, false}
use Rattle.modular_sums.specs.Lists.{Mem, Distinct, Nth}
use Rattle.labelled_trees.specs.Trees.{Tree}
use Rattle.shuffle_places.specs.Multiples.{IsMultiple}
use Rattle.shuffle_bases.specs.Elements.{Element}
use Rattle.shuffle_normal_forms.specs.FreeTrees.{is_empty}
use Rattle.operad_ideals.specs.Presentations.{Relation, Presentation}
use Rattle.shuffle_transfer.specs.Orderings.{orderings}
use Rattle.shuffle_completion.specs.Completion.{Task, relation, multiple, task_sum}
use Rattle.counted_runs.specs.Items.{completion, Item, relabelling, two_places}

-- A job of the completion: a relation, with its number, relabelled by a permutation; or two elements with a small common multiple
-- of their leading trees and its two places.
pub data Job : Type 0 where
  relabel : ℕ → Relation → List ℕ → Job
  combine : Element → Element → Tree ℕ → List ℕ → List ℕ → Job

-- the task that the job solves
abbrev pub task_of : Job → Task
task_of (relabel k r v) = relation r v
task_of (combine g h t first second) = multiple g h t first second

-- the item of the counted run that it is
abbrev pub item_of : Job → Item
item_of (relabel k r v) = relabelling completion k v
item_of (combine g h t first second) = two_places completion t first second

-- the sum that it reduces
abbrev pub row_of : Presentation → Job → List (ℕ × Tree ℕ)
row_of p j = task_sum p (task_of j)

-- It is a job of arity n, where these are the elements of lower arity.
abbrev pub IsJob : Presentation → List Element → ℕ → Job → Type 0
IsJob p lower n (relabel k r v) = Nth k p.relations r × (r.arity ≡ n) × (is_empty r.terms ≡ false) × Mem v (orderings n)
IsJob p lower n (combine g h t first second) = Mem g lower × Mem h lower × (g.arity < n) × (h.arity < n) × IsMultiple n g.lead h.lead t first second

-- These are the jobs of arity n: each is one, no two are the same item, each relation with terms stands there with each permutation,
-- and each two elements of lower arity, in one order or the other, with each small common multiple.
pub record AreJobs (p : Presentation) (lower : List Element) (n : ℕ) (jobs : List Job) : Type 0 where
  pub each : (j : Job) → Mem j jobs → IsJob p lower n j
  pub once : Distinct (map item_of jobs)
  pub relations : (k : ℕ) (r : Relation) → Nth k p.relations r → r.arity ≡ n → is_empty r.terms ≡ false → (v : List ℕ) → Mem v (orderings n) → Mem (relabel k r v) jobs
  pub multiples : (g h : Element) → Mem g lower → Mem h lower → (t : Tree ℕ) (first second : List ℕ) → IsMultiple n g.lead h.lead t first second
      → Mem (combine g h t first second) jobs ⊎ Mem (combine h g t second first) jobs
