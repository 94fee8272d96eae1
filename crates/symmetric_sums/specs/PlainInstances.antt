-- Instances of the program as instances of the definitions.
use Rattle.std.specs.Prelude.{ℕ, ◌≡◌, ◌-◌, ◌<◌, List, [], map, Result, Ok, Err}
use Rattle.std.proofs.Common.{suc}
use Rattle.modular_sums.specs.Lists.{Nth}
use Rattle.modular_sums.specs.Sums.{Same}
use Rattle.labelled_trees.specs.Equality.{tree_discrete}
use Rattle.labelled_trees.specs.Meaning.{tree_of}
use Rattle.operad_ideals.specs.Rules as plain_rules
use Rattle.operad_ideals.specs.Rules.{relation, symmetry, rule_terms}
use Rattle.operad_ideals.specs.Ideals.{Instance as PlainInstance, element}
use Rattle.symmetric_trees.specs.declared.generators.Generator.{Generator}
use Rattle.symmetric_sums.specs.Terms.{terms_of}
use Rattle.symmetric_sums.specs.Instances.{rule_element, IsValidInstance, instance_element, IsExpanded}
use Rattle.symmetric_sums.specs.Membership.{relation_of, presentation_of}
use Rattle.symmetric_sums.specs.declared.term.Term.{Term}
use Rattle.symmetric_sums.specs.declared.instance.Rule.{Rule}
use Rattle.symmetric_sums.specs.declared.instance.Rule.TheVariants.{Rel, Swap, Step}
use Rattle.symmetric_sums.specs.declared.instance.Instance.{Instance}
use Rattle.symmetric_sums.specs.declared.expanding.ExpandFail.{ExpandFail}
use Rattle.symmetric_sums.specs.declared.expanding.ExpandFail.TheVariants.{Unfit, NoMemory}

-- a relation or a symmetry rule, and no step
abbrev pub IsNoStep : Rule → Type 0
IsNoStep (Rel k) = Unit {0}
IsNoStep (Swap g at) = Unit {0}
IsNoStep (Step k) = ⊥

-- Which rule of the definitions a rule of the program names: the k-th relation, counted from 1, or the symmetry rule of the
-- inputs at and at + 1 of a generator, counted from 1; a step is no rule of the presentation.
abbrev pub Names : (p : ℕ) (generators : List Generator) (rels : List (List Term)) → Rule → plain_rules.Rule (presentation_of p generators rels) → Type 0
Names p generators rels (Rel k) (relation r m) = Nth k (map relation_of rels) r
Names p generators rels (Rel k) (symmetry h i s o) = ⊥
Names p generators rels (Swap g at) (relation r m) = ⊥
Names p generators rels (Swap g at) (symmetry h i s o) = (g ≡ h) × (at ≡ suc i)
Names p generators rels (Step k) rule = ⊥

-- An instance of the definitions and one of the program have the same residue, context, rule and inputs.
pub record AreOneInstance (p : ℕ) (generators : List Generator) (rels : List (List Term)) (n : ℕ) (plain : PlainInstance (presentation_of p generators rels) n) (instance : Instance) : Type 0 where
  pub residue : plain.residue ≡ instance.coef
  pub context : plain.context ≡ tree_of instance.context
  pub rule : Names p generators rels instance.rule plain.rule
  pub inputs : plain.inputs ≡ map tree_of instance.inputs

-- Where the instance is valid in arity n, there is an instance of the definitions with its parts; each such instance of the
-- definitions has its element, and makes it valid, unless the rule has no terms. (Around a relation without terms there are
-- instances of every arity, all with the element zero; the program refuses these.)
pub record InstanceLaw (p : ℕ) (generators : List Generator) (rels steps : List (List Term)) (n : ℕ) (instance : Instance) : Type 0 where
  pub found : IsValidInstance generators (rule_element p generators rels steps instance.rule) n instance
      → (plain : PlainInstance (presentation_of p generators rels) n) × AreOneInstance p generators rels n plain instance
  pub valid : (plain : PlainInstance (presentation_of p generators rels) n) → AreOneInstance p generators rels n plain instance
      → (rule_terms (presentation_of p generators rels) plain.rule ≡ [] → ⊥) → IsValidInstance generators (rule_element p generators rels steps instance.rule) n instance
  pub same_element : (plain : PlainInstance (presentation_of p generators rels) n) → AreOneInstance p generators rels n plain instance
      → Same tree_discrete (p - 1) (instance_element p (rule_element p generators rels steps instance.rule) instance) (element (presentation_of p generators rels) n plain)

-- what an answer of `expand` says of instances of the definitions: it is the element of one, or there is none whose rule has terms
abbrev pub AnswersInstance : ℕ → List Generator → List (List Term) → Instance → Result (List Term) ExpandFail → Type 0
AnswersInstance p generators rels instance (Ok sum) =
    (n : ℕ) × (plain : PlainInstance (presentation_of p generators rels) n) × AreOneInstance p generators rels n plain instance
    × Same tree_discrete (p - 1) (terms_of sum) (element (presentation_of p generators rels) n plain)
AnswersInstance p generators rels instance (Err Unfit) =
    (n : ℕ) (plain : PlainInstance (presentation_of p generators rels) n) → AreOneInstance p generators rels n plain instance
    → rule_terms (presentation_of p generators rels) plain.rule ≡ []
AnswersInstance p generators rels instance (Err NoMemory) = Unit {0}

-- Valid instances of relations and symmetry rules are the instances of the definitions around rules with terms, and `expand`
-- answers exactly by these.
abbrev pub ExpandAnswersInstances : Type 0
ExpandAnswersInstances = (p : ℕ) (generators : List Generator) (rels steps : List (List Term)) (instance : Instance) → 0 < p → IsNoStep instance.rule
    → ((n : ℕ) → InstanceLaw p generators rels steps n instance)
    × ((answer : Result (List Term) ExpandFail) → IsExpanded p generators (rule_element p generators rels steps instance.rule) instance answer → AnswersInstance p generators rels instance answer)
