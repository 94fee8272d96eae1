-- Rules, instances around them, and the elements of instances. An element is a list of terms, a number beside a tree each.
use Rattle.std.specs.Prelude.{ℕ, ◌≡◌, ◌+◌, ◌*◌, ◌-◌, ◌%◌, ◌==◌, nat_lt, List, [], ◌∷◌, length, map, Option, Some, None, Result, Ok, Err, if◌then◌else◌}
use Rattle.std.specs.List.{All}
use Rattle.std.proofs.Common.{zero, suc}
use Rattle.modular_sums.specs.Lists.{nth_or}
use Rattle.modular_sums.specs.Sums.{moved, AllTerms}
use Rattle.labelled_trees.specs.Trees.{Tree, node}
use Rattle.labelled_trees.specs.Leaves.{occurs, leaf_count}
use Rattle.labelled_trees.specs.Insertions.{IsContext}
use Rattle.labelled_trees.specs.Meaning.{tree_of}
use Rattle.operad_ideals.specs.Laws.{arity}
use Rattle.operad_ideals.specs.Parts.{Part, Kind, symmetric, skew, free, Sign, plus, minus, times}
use Rattle.operad_ideals.specs.Presentations.{residue_of}
use Rattle.operad_ideals.specs.Rules.{numbered, exchanged_at}
use Rattle.operad_ideals.specs.Ideals.{placed}
use Rattle.symmetric_trees.specs.Generators.{parts_at}
use Rattle.symmetric_trees.specs.Trees.{IsLabelled}
use Rattle.symmetric_trees.specs.declared.generators.Generator.{Generator}
use Rattle.symmetric_sums.specs.Terms.{terms_of}
use Rattle.symmetric_sums.specs.declared.term.Term.{Term}
use Rattle.symmetric_sums.specs.declared.instance.Rule.{Rule}
use Rattle.symmetric_sums.specs.declared.instance.Rule.TheVariants.{Rel, Swap, Step}
use Rattle.symmetric_sums.specs.declared.instance.Instance.{Instance}
use Rattle.symmetric_sums.specs.declared.expanding.ExpandFail.{ExpandFail}
use Rattle.symmetric_sums.specs.declared.expanding.ExpandFail.TheVariants.{Unfit, NoMemory}
use Rattle.symmetric_sums.specs.declared.expanding.Expanded.{Expanded}

-- ---- the elements of rules

-- the k-th sum, counted from 1; nothing where there is none
abbrev pub sum_at : List (List Term) → ℕ → List (ℕ × Tree ℕ)
sum_at sums k = nth_or [] (map terms_of sums) k

-- the sign of the exchange of two inputs of a part of this kind; none where they can't change places
abbrev pub kind_sign : Kind → Option Sign
kind_sign symmetric = Some plus
kind_sign skew = Some minus
kind_sign free = None

-- the sign of the exchange of the inputs i and i + 1, counted from 0; none where they aren't two inputs of one symmetric or skew part
abbrev pub exchange_sign : List Part → ℕ → Option Sign
exchange_sign [] i = None
exchange_sign (part ∷ parts) i =
    if nat_lt i part.size then (if nat_lt (i + 1) part.size then kind_sign part.kind else None) else exchange_sign parts (i - part.size)

-- the sign of the exchange of the inputs at and at + 1 of a generator, counted from 1
abbrev pub rule_sign : List Generator → ℕ → ℕ → Option Sign
rule_sign generators g zero = None
rule_sign generators g (suc i) = exchange_sign (parts_at generators g) i

-- g(1,..,k) less the sign times g(1,..,at + 1,at,..,k); nothing where there is no sign
abbrev pub symmetry_terms : ℕ → List Generator → ℕ → ℕ → Option Sign → List (ℕ × Tree ℕ)
symmetry_terms p generators g at None = []
symmetry_terms p generators g at (Some sign) =
    (1, node g (numbered 0 (arity (parts_at generators) g)))
    ∷ ((residue_of (p - 1) (times minus sign), node g (exchanged_at (at - 1) (numbered 0 (arity (parts_at generators) g)))) ∷ [])

-- the symmetry rule of the inputs at and at + 1, counted from 1; nothing where they can't change places
abbrev pub symmetry_rule : ℕ → List Generator → ℕ → ℕ → List (ℕ × Tree ℕ)
symmetry_rule p generators g at = symmetry_terms p generators g at (rule_sign generators g at)

-- the element that a rule names among relations and steps; nothing where it names none
abbrev pub rule_element : ℕ → List Generator → List (List Term) → List (List Term) → Rule → List (ℕ × Tree ℕ)
rule_element p generators rels steps (Rel k) = sum_at rels k
rule_element p generators rels steps (Swap g at) = symmetry_rule p generators g at
rule_element p generators rels steps (Step k) = sum_at steps k

-- ---- instances around an element

-- the number of leaves of the first tree; 0 where there are no terms
abbrev pub element_arity : List (ℕ × Tree ℕ) → ℕ
element_arity [] = 0
element_arity (x ∷ e) = leaf_count x.1

-- a tree in the context, with the inputs at its leaves
abbrev pub in_place : Instance → Tree ℕ → Tree ℕ
in_place instance = placed (tree_of instance.context) (map tree_of instance.inputs)

-- An instance around an element is valid in arity n: the element has terms, there are as many inputs as its arity, leaf 0
-- stands in the context once and in no input, and each tree of the element, filled in, is labelled by 1 to n.
pub record IsValidInstance (generators : List Generator) (e : List (ℕ × Tree ℕ)) (n : ℕ) (instance : Instance) : Type 0 where
  pub has_terms : e ≡ [] → ⊥
  pub as_many : length instance.inputs ≡ element_arity e
  pub is_context : IsContext (tree_of instance.context)
  pub no_zero : All (λ t. occurs 0 (tree_of t) ≡ 0) instance.inputs
  pub labelled : AllTerms (moved (in_place instance) e) (IsLabelled generators n)

-- c times each number, modulo p
abbrev pub products : ℕ → ℕ → List (ℕ × Tree ℕ) → List (ℕ × Tree ℕ)
products p c = map (λ x. ((c * x.0) % p, x.1))

abbrev pub without_zeros : List (ℕ × Tree ℕ) → List (ℕ × Tree ℕ)
without_zeros [] = []
without_zeros (x ∷ e) = if x.0 == 0 then without_zeros e else x ∷ without_zeros e

-- the element of an instance around an element: for each term the product of the residues beside the filled tree, without zeros
abbrev pub instance_element : ℕ → List (ℕ × Tree ℕ) → Instance → List (ℕ × Tree ℕ)
instance_element p e instance = without_zeros (products p instance.coef (moved (in_place instance) e))

-- ---- the answers of `expand`, each with its cause; want of memory is free

-- the answer, with the arity of the filled trees
abbrev pub IsExpandedTo : ℕ → List Generator → List (ℕ × Tree ℕ) → Instance → Result Expanded ExpandFail → Type 0
IsExpandedTo p generators e instance (Ok expanded) = IsValidInstance generators e expanded.arity instance × (terms_of expanded.sum ≡ instance_element p e instance)
IsExpandedTo p generators e instance (Err Unfit) = (n : ℕ) → IsValidInstance generators e n instance → ⊥
IsExpandedTo p generators e instance (Err NoMemory) = Unit {0}

abbrev pub IsExpanded : ℕ → List Generator → List (ℕ × Tree ℕ) → Instance → Result (List Term) ExpandFail → Type 0
IsExpanded p generators e instance (Ok sum) = ((n : ℕ) × IsValidInstance generators e n instance) × (terms_of sum ≡ instance_element p e instance)
IsExpanded p generators e instance (Err Unfit) = (n : ℕ) → IsValidInstance generators e n instance → ⊥
IsExpanded p generators e instance (Err NoMemory) = Unit {0}
