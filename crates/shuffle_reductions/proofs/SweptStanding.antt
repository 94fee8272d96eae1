-- Sums over positions and the sums of trees that they stand for have the same coefficients.
use Rattle.std.proofs.Common.{◌≡◌, ℕ, ◌<◌, List, [], ◌∷◌, length, Option, Some, None, arith, refl, sym, ap, subst, inl, inr, ◌⊎◌}
use native.Mathlib.Decide.{ℕ_discrete}
use Rattle.std.specs.declared.cmp.Ordering.{Ordering}
use Rattle.std.specs.declared.cmp.Ordering.TheVariants.{Less, Equal, Greater}
use Rattle.std.specs.Ordering.{ordering_reverse}
use Rattle.std.specs.List.{slice_get}
use Rattle.std.proofs.lemmas.Option.{slice_get-get_or}
use Rattle.modular_sums.specs.Residues.{IsCongruent}
use Rattle.modular_sums.specs.Sums.{coef, AllTerms}
use Rattle.modular_sums.proofs.Sums.{AllTerms-moved}
use Rattle.modular_sums.proofs.Images.{AllTerms-imp}
use Rattle.labelled_trees.specs.Trees.{Tree}
use Rattle.labelled_trees.specs.Equality.{tree_discrete}
use Rattle.shuffle_insertions.specs.Orders.{IsTreeOrder}
use Rattle.shuffle_bases.specs.Elements.{Setting, IsLess}
use Rattle.shuffle_reductions.proofs.Standing.{has_all}
use Rattle.modular_sums.specs.RuleTables.{Table, IsRuled, IsUnruled}
use Rattle.shuffle_reductions.specs.Swept.{tree_in, on_trees, RisesBy, IsOnPositions}
use Rattle.modular_sums.specs.Lists.{choose}
use Rattle.modular_sums.proofs.Choices.{choose-yes, choose-no}

-- a position of a table has a rule or has none
pub ruled_or_not : (table : Table) (k : ℕ) → k < length table → IsRuled table k ⊎ IsUnruled table k
ruled_or_not table k lt = go (slice_get table k) refl
  where
    go : (o : Option (Option (List (ℕ × ℕ)))) → slice_get table k ≡ o → IsRuled table k ⊎ IsUnruled table k
    go None e = let h = slice_get-get_or table k None lt in absurd (cc (h, e))
    go (Some None) e = inr e
    go (Some (Some tail)) e = inl (tail, e)

reversed : (o : Ordering) → o ≡ ordering_reverse o → o ≡ Less → ⊥
reversed Less e h = cc e
reversed Equal e h = cc h
reversed Greater e h = cc h

module _ (s : Setting) (order : IsTreeOrder s.arity s.compare) (trees : List (Tree ℕ)) (rises : RisesBy s trees) where
  -- nothing is less than itself
  not_less : (x : Tree ℕ) → IsLess s x x → ⊥
  not_less x h = reversed (s.compare x x) (order.turned x x) h

  apart : (j k : ℕ) → j < k → k < length trees → tree_in trees j ≡ tree_in trees k → ⊥
  apart j k lt h e = not_less (tree_in trees k) (subst (λ t. IsLess s t (tree_in trees k)) e (rises j k lt h))

  -- two positions with one tree are one
  pub one_position : (j k : ℕ) → j < length trees → k < length trees → tree_in trees j ≡ tree_in trees k → j ≡ k
  one_position j k hj hk e = go (ℕ_discrete j k)
    where
      lower : (j < k) ⊎ (k < j) → ⊥
      lower (inl lt) = apart j k lt hk e
      lower (inr gt) = apart k j gt hj (sym e)

      go : Dec (j ≡ k) → j ≡ k
      go (yes p) = p
      go (no n) = absurd (lower (let o : (j < k) ⊎ (k < j) = grind arith in o))

  same_hit : (c j k : ℕ) → j < length trees → k < length trees → choose (tree_discrete (tree_in trees j) (tree_in trees k)) c 0 ≡ choose (ℕ_discrete j k) c 0
  same_hit c j k hj hk = go (ℕ_discrete j k)
    where
      go : (d : Dec (j ≡ k)) → choose (tree_discrete (tree_in trees j) (tree_in trees k)) c 0 ≡ choose d c 0
      go (yes p) = choose-yes (tree_discrete (tree_in trees j) (tree_in trees k)) c 0 (ap (tree_in trees) p)
      go (no n) = choose-no (tree_discrete (tree_in trees j) (tree_in trees k)) c 0 (λ e. n (one_position j k hj hk e))

  -- a tree has the coefficient of its position
  pub coef-over : (e : List (ℕ × ℕ)) (k : ℕ) → IsOnPositions trees e → k < length trees → coef tree_discrete (on_trees trees e) (tree_in trees k) ≡ coef ℕ_discrete e k
  unfolding coef
  coef-over [] k h hk = refl
  coef-over (x ∷ e) k h hk = rw (same_hit x.0 x.1 k h.0 hk, coef-over e k h.1 hk) refl

  -- the tree is one of the list
  abbrev IsIn : Tree ℕ → Type 0
  IsIn t = (k : ℕ) × (k < length trees) × (tree_in trees k ≡ t)

  all_in : (e : List (ℕ × ℕ)) → IsOnPositions trees e → AllTerms (on_trees trees e) IsIn
  all_in e h = AllTerms-moved (tree_in trees) e IsIn (AllTerms-imp (λ t. t < length trees) (λ t. IsIn (tree_in trees t)) e (λ k lt. (k, lt, refl)) h)

  -- what stands in the sum of trees is the tree of a position that stands in the sum
  pub position_of : (e : List (ℕ × ℕ)) → IsOnPositions trees e → (t : Tree ℕ) → (IsCongruent s.q (coef tree_discrete (on_trees trees e) t) 0 → ⊥)
      → (k : ℕ) × (k < length trees) × (tree_in trees k ≡ t) × (IsCongruent s.q (coef ℕ_discrete e k) 0 → ⊥)
  position_of e h t st =
      let r : IsIn t = has_all tree_discrete s.q IsIn (on_trees trees e) (all_in e h) t st in (
        r.0,
        r.1,
        r.2,
        λ z. st (subst (λ u. IsCongruent s.q (coef tree_discrete (on_trees trees e) u) 0) r.2 (rw (coef-over e r.0 h r.1) z)),
      )

  -- and the tree of a position that stands in the sum stands there
  pub stands_over : (e : List (ℕ × ℕ)) (k : ℕ) → IsOnPositions trees e → k < length trees → (IsCongruent s.q (coef ℕ_discrete e k) 0 → ⊥)
      → IsCongruent s.q (coef tree_discrete (on_trees trees e) (tree_in trees k)) 0 → ⊥
  stands_over e k h hk st z = st (rw (coef-over e k h hk) at z)
