-- An example: the Lie presentation modulo 3, a presentation over a field, and what there is for it.
use Rattle.std.proofs.Common.{◌≡◌, ℕ, zero, suc, ◌*◌, ◌%◌, ◌<◌, ◌≤◌, List, [], refl, sym, arith, subst, inl, inr, ◌⊎◌}
use Rattle.std.proofs.lemmas.Nat.{mod_below}
use Rattle.std.specs.declared.cmp.Ordering.{Ordering}
use Rattle.modular_sums.specs.Residues.{IsCongruent}
use Rattle.modular_sums.proofs.Residues.{congruent_mul}
use Rattle.labelled_trees.specs.Trees.{Tree}
use Rattle.shuffle_insertions.specs.Orders.{IsTreeOrder}
use Rattle.shuffle_bases.specs.Elements.{Element}
use Rattle.operad_ideals.specs.Presentations.{Relation, Presentation, IsProper}
use Rattle.shuffle_transfer.specs.Labels.{inputs_of}
use Rattle.shuffle_transfer.specs.NormalTrees.{by_path, compare, IsNormalTree, IsIndependent, IsSpanning, IsNormalForm}
use Rattle.shuffle_transfer.proofs.NormalTrees.{order_of}
use Rattle.shuffle_transfer.proofs.Jacobi.{jacobi_relation, lie, wide, sound}
use Rattle.shuffle_completion.specs.Completion.{IsCompletedThrough}
use Rattle.shuffle_completion.specs.ReducedBases.{IsMinimal}
use Rattle.shuffle_completion.specs.Existence.{HasInverses, IsOverField, AreThose}
use mathlib.Core.List.{◌++◌}
use Rattle.modular_sums.specs.Sums.{scale}
use Rattle.operad_ideals.specs.Ideals.{InIdeal}
use Rattle.shuffle_completion.proofs.Laws.{normal_forms_decide}
use Rattle.shuffle_completion.proofs.ExistenceLaws.{elements_exist, forms_exist, trees_exist, trees_are_a_basis, minimal_exist}

abbrev pub modulo_three : Presentation
modulo_three = record lie { q = 2 }

abbrev cmp : Tree ℕ → Tree ℕ → Ordering
cmp = compare modulo_three.generators by_path

order : IsTreeOrder (inputs_of modulo_three.generators) cmp
order = order_of modulo_three.generators by_path

-- 1 and 2 are their own inverses modulo 3
inverses : HasInverses 2
inverses c nonzero = (c, go (c % 3) refl (mod_below c 3 (omega arith)))
  where
    go : (r : ℕ) → c % 3 ≡ r → r < 3 → IsCongruent 2 (c * c) 1
    go zero e low = absurd (nonzero e)
    go (suc zero) e low = congruent_mul 2 c 1 c 1 e e
    go (suc (suc zero)) e low = congruent_mul 2 c 2 c 2 e e
    go (suc (suc (suc r))) e low = absurd (omega (arith, low))

proper : IsProper modulo_three
proper r (inl e) = subst (λ (x : Relation). (x.terms ≡ []) ⊎ (2 ≤ x.arity)) (sym e) (inr (omega arith))
proper r (inr m) = absurd m

pub over_field : IsOverField modulo_three
over_field = record { not_zero = omega arith; inverses = inverses; wide = wide; sound = sound; proper = proper }

through_four : (elements : List Element) × IsCompletedThrough modulo_three cmp elements 4
through_four = elements_exist modulo_three over_field cmp order 4

-- the relation has a normal form
relation_form : (f : List (ℕ × Tree ℕ)) × IsNormalForm modulo_three cmp 3 jacobi_relation.terms f
relation_form = forms_exist modulo_three over_field cmp order 3 jacobi_relation.terms (sound jacobi_relation (inl refl))

-- which is one with itself, so the relation less itself is in the ideal
nothing_left : InIdeal modulo_three 3 (jacobi_relation.terms ++ scale 2 jacobi_relation.terms)
nothing_left = (normal_forms_decide modulo_three sound cmp order 3 jacobi_relation.terms jacobi_relation.terms relation_form.0 relation_form.0 relation_form.1 relation_form.1).1 refl

normal_trees : (l : List (Tree ℕ)) × AreThose (IsNormalTree modulo_three cmp 3) l
normal_trees = trees_exist modulo_three over_field cmp order 3

are_a_basis : IsIndependent modulo_three 3 normal_trees.0 × IsSpanning modulo_three 3 normal_trees.0
are_a_basis = trees_are_a_basis modulo_three over_field cmp order 3 normal_trees.0 normal_trees.1

minimal_trees : (l : List (Tree ℕ)) × AreThose (IsMinimal modulo_three cmp 3) l
minimal_trees = minimal_exist modulo_three over_field cmp order 3 (omega arith)
