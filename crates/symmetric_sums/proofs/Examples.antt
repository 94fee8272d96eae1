-- An instance of a symmetry rule, and one of a relation without terms.
use Rattle.std.proofs.Common.{◌≡◌, ℕ, List, [], ◌∷◌, refl, sym, ap, ap₂, arith, inl, inr}
use native.Mathlib.Decide.{ℕ_discrete}
use Rattle.modular_sums.specs.Lists.{Mem}
use Rattle.modular_sums.specs.Sums.{scale, Same}
use Rattle.labelled_trees.specs.Trees.{Tree, leaf, node, none, more}
use Rattle.labelled_trees.specs.Equality.{tree_discrete}
use Rattle.labelled_trees.specs.Leaves.{occurs}
use Rattle.labelled_trees.specs.declared.Tree.TheVariants.{Leaf}
use Rattle.labelled_trees.proofs.ProgramTrees.{tree_of-leaf}
use Rattle.operad_ideals.specs.Parts.{minus}
use Rattle.operad_ideals.specs.Presentations.{arity_of}
use Rattle.operad_ideals.specs.Rules.{relation, symmetry}
use Rattle.operad_ideals.specs.Ideals.{Instance as PlainInstance}
use Rattle.operad_ideals.proofs.Corollas.{corolla_labelled, exchanged_labelled}
use Rattle.symmetric_trees.specs.declared.generators.PartKind.TheVariants.{Alt}
use Rattle.symmetric_trees.specs.declared.generators.Generator.{Generator}
use Rattle.symmetric_sums.specs.Instances.{rule_element, IsValidInstance, instance_element}
use Rattle.symmetric_sums.specs.Membership.{presentation_of}
use Rattle.symmetric_sums.specs.PlainInstances.{AreOneInstance, InstanceLaw}
use Rattle.symmetric_sums.specs.declared.term.Term.{Term}
use Rattle.symmetric_sums.specs.declared.instance.Rule.TheVariants.{Rel, Swap}
use Rattle.symmetric_sums.specs.declared.instance.Instance.{Instance}
use Rattle.symmetric_sums.proofs.PlainInstances.{expand_answers_instances}

-- one skew bracket l
abbrev generators : List Generator
generators = record { name = 108 ∷ []; arity = 2; parts = record { kind = Alt; size = 2 } ∷ [] } ∷ []

abbrev bracket : ℕ → ℕ → Tree ℕ
bracket i j = node 0 (more (leaf i) (more (leaf j) none))

-- ---- three times l(1,2) + l(2,1)

abbrev exchange : Instance
exchange = record { coef = 3; context = Leaf 0; rule = Swap 0 1; inputs = Leaf 1 ∷ (Leaf 2 ∷ []) }

plain_exchange : PlainInstance (presentation_of 101 generators []) 2
unfolding ℕ_discrete
plain_exchange = record {
  residue = 3;
  context = leaf 0;
  rule = symmetry 0 0 minus (inl (omega arith, refl));
  inputs = leaf 1 ∷ (leaf 2 ∷ []);
  is_context = refl;
  as_many = refl;
  no_zero = no_zero;
  labelled = (corolla_labelled (arity_of (presentation_of 101 generators [])) 0 (omega arith), (exchanged_labelled (arity_of (presentation_of 101 generators [])) 0 0 (omega arith), tt));
}
  where
    no_zero : (t : Tree ℕ) → Mem t (leaf 1 ∷ (leaf 2 ∷ [])) → occurs 0 t ≡ 0
    no_zero t (inl e) = ap (occurs 0) e
    no_zero t (inr (inl e)) = ap (occurs 0) e
    no_zero t (inr (inr m)) = absurd m

one_exchange : AreOneInstance 101 generators [] 2 plain_exchange exchange
unfolding plain_exchange
one_exchange = record { residue = refl; context = sym (tree_of-leaf 0); rule = (refl, refl); inputs = ap₂ (λ t u. t ∷ (u ∷ [])) (sym (tree_of-leaf 1)) (sym (tree_of-leaf 2)) }

exchange_law : InstanceLaw 101 generators [] [] 2 exchange
exchange_law = (expand_answers_instances 101 generators [] [] exchange (omega arith) tt).0 2

exchange_valid : IsValidInstance generators (rule_element 101 generators [] [] (Swap 0 1)) 2 exchange
unfolding plain_exchange
exchange_valid = exchange_law.valid plain_exchange one_exchange (λ e. cc e)

exchange_element : Same tree_discrete 100 (instance_element 101 (rule_element 101 generators [] [] (Swap 0 1)) exchange) ((3, bracket 1 2) ∷ ((3, bracket 2 1) ∷ []))
unfolding plain_exchange scale
exchange_element = exchange_law.same_element plain_exchange one_exchange

-- ---- around a relation without terms there is an instance of each arity, and none is valid

abbrev empty_relation : List (List Term)
empty_relation = [] ∷ []

abbrev empty : Instance
empty = record { coef = 1; context = Leaf 0; rule = Rel 1; inputs = [] }

around_nothing : (n : ℕ) → (plain : PlainInstance (presentation_of 101 generators empty_relation) n) × AreOneInstance 101 generators empty_relation n plain empty
unfolding ℕ_discrete
around_nothing n = (
  record { residue = 1; context = leaf 0; rule = relation (record { arity = 0; terms = [] }) (inl refl); inputs = []; is_context = refl; as_many = refl; no_zero = λ t m. absurd m; labelled = tt },
  record { residue = refl; context = sym (tree_of-leaf 0); rule = refl; inputs = refl },
)

nothing_valid : (n : ℕ) → IsValidInstance generators (rule_element 101 generators empty_relation [] (Rel 1)) n empty → ⊥
nothing_valid n v = v.has_terms refl
