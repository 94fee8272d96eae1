use Rattle.std.proofs.Common.{◌≡◌, ◌∙◌, ℕ, ◌<◌, ◌≤◌, [], ◌∷◌, Some, refl, ap, subst, arith, inl, inr}
use Rattle.modular_sums.specs.Lists.{Mem}
use Rattle.shuffle_transfer.specs.Orderings.{IsOrdering}
use Rattle.symmetric_sums.specs.Terms.{ArityIs}
use Rattle.symmetric_sums.proofs.Numberings.{one_arity}
use Rattle.call_rows.proofs.passing.turn_round.Goals as goal

two_one : IsOrdering 2 (2 ∷ 1 ∷ [])
two_one = record { length_is = refl; within = λ u m. low u m; distinct = (λ m. apart m, (λ m. absurd m, tt)) }
  where
    low : (u : ℕ) → Mem u (2 ∷ 1 ∷ []) → (0 < u) × (u ≤ 2)
    low u (inl e) = (omega (arith, e), omega (arith, e))
    low u (inr (inl e)) = (omega (arith, e), omega (arith, e))
    low u (inr (inr m)) = absurd m

    apart : Mem {X = ℕ} 2 (1 ∷ []) → ⊥
    apart (inl e) = omega (arith, e)
    apart (inr m) = absurd m

pub relabelled-requires-clause-permutation : goal.relabelled-requires-clause-permutation
relabelled-requires-clause-permutation c n some h =
    let e : 2 ≡ n = one_arity c.args.rel.now 2 n (subst (ArityIs c.args.rel.now) (c.in-Some-eq2.is ∙ ap Some c.in-Some-eq2.field-0-test) c.arity.ensures.arity) h in
    subst (λ m. IsOrdering m (2 ∷ 1 ∷ [])) e two_one
