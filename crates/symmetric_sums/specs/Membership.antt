-- The ideal of relations that are sums.
use Rattle.std.specs.Prelude.{ℕ, ◌-◌, ◌<◌, List, map}
use Rattle.std.specs.List.{All}
use Rattle.modular_sums.specs.Sums.{AllTerms}
use Rattle.labelled_trees.specs.Trees.{Tree}
use Rattle.operad_ideals.specs.Presentations.{Relation, Presentation}
use Rattle.operad_ideals.specs.Ideals.{InIdeal}
use Rattle.symmetric_trees.specs.Generators.{generators_of}
use Rattle.symmetric_trees.specs.Trees.{IsLabelled}
use Rattle.symmetric_trees.specs.declared.generators.Generator.{Generator}
use Rattle.symmetric_sums.specs.Terms.{terms_of}
use Rattle.symmetric_sums.specs.Instances.{element_arity, rule_element, IsValidInstance, instance_element}
use Rattle.symmetric_sums.specs.declared.term.Term.{Term}
use Rattle.symmetric_sums.specs.declared.instance.Instance.{Instance}

-- a relation of the arity of its terms
abbrev pub relation_of : List Term → Relation
relation_of terms = record { arity = element_arity (terms_of terms); terms = terms_of terms }

-- the presentation that a prime, the generators of a table and relations make
abbrev pub presentation_of : ℕ → List Generator → List (List Term) → Presentation
presentation_of p generators rels = record { q = p - 1; generators = generators_of generators; relations = map relation_of rels }

-- each tree of the element is labelled by 1 to its arity
abbrev pub IsElement : List Generator → List (ℕ × Tree ℕ) → Type 0
IsElement generators e = AllTerms e (IsLabelled generators (element_arity e))

-- an element is in the ideal of its arity
pub record IsMember (p : ℕ) (generators : List Generator) (rels : List (List Term)) (e : List (ℕ × Tree ℕ)) : Type 0 where
  pub element : IsElement generators e
  pub in_ideal : InIdeal (presentation_of p generators rels) (element_arity e) e

-- Where the steps are in the ideal of the relations, each valid instance of a relation, of a symmetry rule or of a step has an
-- element in the ideal.
abbrev pub InstancesAreMembers : Type 0
InstancesAreMembers = (p : ℕ) (generators : List Generator) (rels steps : List (List Term)) (n : ℕ) (instance : Instance) → 0 < p
    → All (λ rel. IsElement generators (terms_of rel)) rels → All (λ step. IsMember p generators rels (terms_of step)) steps
    → IsValidInstance generators (rule_element p generators rels steps instance.rule) n instance
    → InIdeal (presentation_of p generators rels) n (instance_element p (rule_element p generators rels steps instance.rule) instance)
