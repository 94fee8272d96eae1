-- Chains may begin and end in any sums that are the same, and are joined.
use Rattle.std.proofs.Common.{ℕ, ◌*◌, List, [], ◌∷◌, refl, sym, ◌∙◌}
use mathlib.Core.List.{◌++◌}
use native.Mathlib.Decide.{ℕ_discrete}
use Rattle.modular_sums.specs.Sums.{coef, scale, Same}
use Rattle.modular_sums.proofs.Residues.{congruent_add}
use Rattle.modular_sums.proofs.Sums.{coef-append}
use Rattle.modular_sums.specs.RuleTables.{Table, rule_at}
use Rattle.modular_sums.specs.PositionChains.{HasPosition, IsPositionStep, IsPositionChain}

abbrev pub Sum : Type 0
Sum = List (ℕ × ℕ)

module _ (q : ℕ) where
  pub stands_same : (d e : Sum) → Same ℕ_discrete q d e → (t : ℕ) → HasPosition q d t → HasPosition q e t
  stands_same d e h t s z = s (h t ∙ z)

  pub same_added : (d e f : Sum) → Same ℕ_discrete q d e → Same ℕ_discrete q (d ++ f) (e ++ f)
  same_added d e f h t = rw (coef-append ℕ_discrete d f t, coef-append ℕ_discrete e f t) (congruent_add q _ _ (coef ℕ_discrete f t) (coef ℕ_discrete f t) (h t) refl)

  module _ (table : Table) where
    -- the last sum may be written anew
    pub last_same : (steps e f g : Sum) → Same ℕ_discrete q f g → IsPositionChain q table e steps f → IsPositionChain q table e steps g
    last_same [] e f g h c = λ t. c t ∙ h t
    last_same (x ∷ l) e f g h c = (c.0, last_same l (e ++ scale (q * x.0) (rule_at table x.1)) f g h c.1)

    step_same : (d e : Sum) (c at : ℕ) → Same ℕ_discrete q d e → IsPositionStep q table e c at → IsPositionStep q table d c at
    step_same d e c at h k = record {
      there = stands_same e d (λ t. sym (h t)) at k.there;
      ruled = k.ruled;
      greatest = λ t m. k.greatest t (stands_same d e h t m);
      coefficient = k.coefficient ∙ sym (h at);
    }

    -- and so may the first
    pub first_same : (steps d e f : Sum) → Same ℕ_discrete q d e → IsPositionChain q table e steps f → IsPositionChain q table d steps f
    first_same [] d e f h c = λ t. h t ∙ c t
    first_same (x ∷ l) d e f h c = (
      step_same d e x.0 x.1 h c.0,
      first_same l (d ++ scale (q * x.0) (rule_at table x.1)) (e ++ scale (q * x.0) (rule_at table x.1)) f
          (same_added d e (scale (q * x.0) (rule_at table x.1)) h) c.1,
    )

    pub joined : (first second e f g : Sum) → IsPositionChain q table e first f → IsPositionChain q table f second g → IsPositionChain q table e (first ++ second) g
    joined [] second e f g c k = first_same second e f g c k
    joined (x ∷ l) second e f g c k = (c.0, joined l second (e ++ scale (q * x.0) (rule_at table x.1)) f g c.1 k)
