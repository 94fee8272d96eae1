-- Chains over positions, through the list of trees.
use Rattle.std.proofs.Common.{◌≡◌, ℕ, ◌*◌, ◌<◌, ◌≤◌, List, [], ◌∷◌, length, Option, Some, arith, refl, sym, ap, subst, inl, inr, ◌⊎◌}
use mathlib.Core.List.{◌++◌}
use native.Mathlib.Decide.{ℕ_discrete}
use Rattle.std.proofs.lemmas.Option.{slice_get_within}
use Rattle.modular_sums.specs.Sums.{coef, scale, AllTerms, Same}
use Rattle.modular_sums.proofs.Residues.{congruent_add, congruent_mul}
use Rattle.modular_sums.proofs.Sums.{coef-append, coef-scale, AllTerms-append, AllTerms-scale}
use Rattle.modular_sums.proofs.Images.{AllTerms-imp, Same-moved, moved-append, moved-scale}
use Rattle.labelled_trees.specs.Trees.{Tree}
use Rattle.labelled_trees.specs.Equality.{tree_discrete}
use Rattle.shuffle_insertions.specs.Orders.{IsTreeOrder}
use Rattle.shuffle_places.specs.Places.{IsPlace}
use Rattle.shuffle_bases.specs.Elements.{Setting, Insertion, value_of}
use Rattle.shuffle_normal_forms.specs.FreeTrees.{IsFree}
use Rattle.shuffle_normal_forms.specs.NormalForms.{IsAtMost}
use Rattle.shuffle_reductions.specs.Divided.{IsDivided}
use Rattle.shuffle_reductions.specs.Chains.{StandsIn, HasNoZeros, IsStep, IsChain, IsFinished, IsStopped}
use Rattle.shuffle_reductions.proofs.Chains.{first_same}
use Rattle.modular_sums.specs.RuleTables.{Table, HasRule, IsRuled, IsUnruled, tail_of, rule_at}
use Rattle.modular_sums.specs.PositionChains.{HasPosition as StandsInThere, HasNoZeroPositions as HasNoZerosThere, IsPositionStep as IsStepThere, IsPositionChain as IsChainThere, HasNoRuledPosition as IsFinishedThere, HasRuledPosition as IsStoppedThere}
use Rattle.shuffle_reductions.specs.Swept.{tree_in, on_trees, IsOnPositions, IsTableOver, AreUses}
use Rattle.shuffle_reductions.specs.SweepLaws.{SweptChains}
use Rattle.shuffle_reductions.proofs.SweptStanding.{ruled_or_not, coef-over, position_of, stands_over}

-- the rule of a position that has one
pub rule_is : (table : Table) (at : ℕ) (tail : List (ℕ × ℕ)) → HasRule table at tail → rule_at table at ≡ (1, at) ∷ tail
rule_is table at tail h = ap (λ o. (1, at) ∷ tail_of o) h

same_scaled : {M : Type 0} (dec : Discrete M) (q c : ℕ) (e f g : List (ℕ × M)) → Same dec q f g → Same dec q (e ++ scale c f) (e ++ scale c g)
same_scaled dec q c e f g h t = rw (coef-append dec e (scale c f) t, coef-append dec e (scale c g) t, coef-scale dec c f t, coef-scale dec c g t)
    (congruent_add q (coef dec e t) (coef dec e t) _ _ refl (congruent_mul q c c _ _ refl (h t)))

module _ (s : Setting) (order : IsTreeOrder s.arity s.compare) (n : ℕ) (trees : List (Tree ℕ)) (insertions : List (Option (Insertion s n))) (table : Table) (t : IsTableOver s n trees insertions table) where
  abbrev Sum : Type 0
  Sum = List (ℕ × ℕ)

  inside : (at : ℕ) → IsRuled table at → at < length trees
  inside at r = subst (λ m. at < m) t.sized (slice_get_within table at (Some r.0) r.1)

  -- the tree of a ruled position is divided
  divided : (at : ℕ) → IsRuled table at → IsDivided s (tree_in trees at)
  divided at r =
      let k = t.ruled at r.0 r.1 in
      record { by = k.0.of; member = k.0.member; set = k.0.set; place = subst (λ u. IsPlace u k.0.set k.0.of.lead) k.2.tree k.0.place }

  -- a position with a divided tree is ruled
  ruled_of_divided : (k : ℕ) → k < length trees → IsDivided s (tree_in trees k) → IsRuled table k
  ruled_of_divided k lt d = go (ruled_or_not table k (subst (λ m. k < m) (sym t.sized) lt))
    where
      go : IsRuled table k ⊎ IsUnruled table k → IsRuled table k
      go (inl r) = r
      go (inr u) = absurd (t.free k u d.by d.member d.set d.place)

  at_most : (j k : ℕ) → j ≤ k → k < length trees → IsAtMost s (tree_in trees j) (tree_in trees k)
  at_most j k le lt = go (ℕ_discrete j k)
    where
      go : Dec (j ≡ k) → IsAtMost s (tree_in trees j) (tree_in trees k)
      go (yes p) = inl (ap (tree_in trees) p)
      go (no ne) = inr (t.rises j k (omega arith) lt)

  step_over : (e : Sum) (c at : ℕ) → IsOnPositions trees e → (step : IsStepThere s.q table e c at) → (i : Insertion s n) → i.tree ≡ tree_in trees at → IsStep s n (on_trees trees e) c i
  step_over e c at h step i p =
      let lt : at < length trees = inside at step.ruled in
      record {
        there = subst (StandsIn s.q (on_trees trees e)) (sym p) (stands_over s order trees t.rises e at h lt step.there);
        greatest = λ u st d. greatest u d (position_of s order trees t.rises e h u st) lt;
        coefficient = rw (p, coef-over s order trees t.rises e at h lt) step.coefficient;
      }
    where
      greatest : (u : Tree ℕ) → IsDivided s u → (k : ℕ) × (k < length trees) × (tree_in trees k ≡ u) × StandsInThere s.q e k → at < length trees → IsAtMost s u i.tree
      greatest u d r lt =
          let le : r.0 ≤ at = step.greatest r.0 r.3 (ruled_of_divided r.0 r.1 (subst (IsDivided s) (sym r.2) d)) in
          subst (IsAtMost s u) (sym p) (subst (λ v. IsAtMost s v (tree_in trees at)) r.2 (at_most r.0 at le lt))

  rule_within : (at : ℕ) → IsRuled table at → IsOnPositions trees (rule_at table at)
  rule_within at r =
      let lt : at < length trees = inside at r in
      subst (IsOnPositions trees) (sym (rule_is table at r.0 r.1)) (lt, AllTerms-imp (λ k. k < at) (λ k. k < length trees) r.0 (λ k h. omega arith) (t.lower at r.0 r.1))

  -- the sum after a step, over trees
  over_after : (e : Sum) (c at : ℕ) (tail : Sum) → HasRule table at tail → (i : Insertion s n) → Same tree_discrete s.q (value_of i) (on_trees trees ((1, at) ∷ tail))
      → Same tree_discrete s.q (on_trees trees e ++ scale c (value_of i)) (on_trees trees (e ++ scale c (rule_at table at)))
  over_after e c at tail r i v = rw (rule_is table at tail r, moved-append (tree_in trees) e (scale c ((1, at) ∷ tail)), moved-scale (tree_in trees) c ((1, at) ∷ tail))
      (same_scaled tree_discrete s.q c (on_trees trees e) (value_of i) (on_trees trees ((1, at) ∷ tail)) v)

  abbrev Chain : Sum → Sum → Sum → Type 0
  Chain e steps f = (uses : List (ℕ × Insertion s n)) × AreUses insertions steps uses × IsChain s n (on_trees trees e) uses (on_trees trees f)

  pub chain_over : (steps e f : Sum) → IsOnPositions trees e → IsChainThere s.q table e steps f → Chain e steps f
  chain_over [] e f h c = ([], tt, Same-moved ℕ_discrete tree_discrete s.q (tree_in trees) e f c)
  chain_over (x ∷ l) e f h c =
      let r = t.ruled x.1 c.0.ruled.0 c.0.ruled.1 in
      let e2 : Sum = e ++ scale (s.q * x.0) (rule_at table x.1) in
      let w : IsOnPositions trees e2
      = AllTerms-append e (scale (s.q * x.0) (rule_at table x.1)) (λ k. k < length trees) h (AllTerms-scale (s.q * x.0) (rule_at table x.1) (λ k. k < length trees) (rule_within x.1 c.0.ruled)) in
      let ih : Chain e2 l f = chain_over l e2 f w c.1 in (
        (x.0, r.0) ∷ ih.0,
        (refl, r.1, ih.1),
        (
          step_over e x.0 x.1 h c.0 r.0 r.2.tree,
          first_same s n ih.0 (on_trees trees e ++ scale (s.q * x.0) (value_of r.0)) (on_trees trees e2) (on_trees trees f)
              (over_after e (s.q * x.0) x.1 c.0.ruled.0 c.0.ruled.1 r.0 r.2.value) ih.2,
        ),
      )

  pub finished_over : (f : Sum) → IsOnPositions trees f → IsFinishedThere s.q table f → IsFinished s (on_trees trees f)
  finished_over f h done u st =
      let r = position_of s order trees t.rises f h u st in
      go r.0 r.1 r.2 (done r.0 r.3) (ruled_or_not table r.0 (subst (λ m. r.0 < m) (sym t.sized) r.1))
    where
      go : (k : ℕ) → k < length trees → tree_in trees k ≡ u → (IsRuled table k → ⊥) → IsRuled table k ⊎ IsUnruled table k → IsFree s u
      go k lt p not (inl r) = absurd (not r)
      go k lt p not (inr r) = subst (IsFree s) p (t.free k r)

  pub stopped_over : (f : Sum) → IsOnPositions trees f → IsStoppedThere s.q table f → IsStopped s (on_trees trees f)
  stopped_over f h stop = record {
    at = tree_in trees stop.at;
    there = stands_over s order trees t.rises f stop.at h (inside stop.at stop.ruled) stop.there;
    divided = divided stop.at stop.ruled;
  }

  -- of some terms of a sum, in which they stand
  some_stand : (f l : Sum) → IsOnPositions trees f → IsOnPositions trees l → AllTerms l (StandsInThere s.q f) → AllTerms (on_trees trees l) (StandsIn s.q (on_trees trees f))
  some_stand f [] h w st = tt
  some_stand f (x ∷ l) h w st = (stands_over s order trees t.rises f x.1 h w.0 st.0, some_stand f l h w.1 st.1)

  pub no_zeros_over : (f : Sum) → IsOnPositions trees f → HasNoZerosThere s.q f → HasNoZeros s.q (on_trees trees f)
  no_zeros_over f h st = some_stand f f h h st

pub swept : SweptChains
swept s order n trees insertions table t = record {
  chain = λ e steps f h c. chain_over s order n trees insertions table t steps e f h c;
  finished = λ f h done. finished_over s order n trees insertions table t f h done;
  stopped = λ f h stop. stopped_over s order n trees insertions table t f h stop;
  no_zeros = λ f h st. no_zeros_over s order n trees insertions table t f h st;
}
