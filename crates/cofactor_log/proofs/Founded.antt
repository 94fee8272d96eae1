-- Entries cite only those before them.
use Rattle.std.proofs.Common.{◌≡◌, ℕ, zero, suc, ◌+◌, ◌-◌, ◌<◌, ◌≤◌, ◌⊎◌, inl, inr, List, [], ◌∷◌, length, get_or, take, refl, sym, subst, ap, ◌∙◌, arith}
use Rattle.std.proofs.lemmas.List.{length-map, length-take-le}
use Rattle.std.proofs.lemmas.List.Elements.{recursion_from_All}
use Rattle.symmetric_sums.specs.Instances.{sum_at, rule_element}
use Rattle.symmetric_sums.proofs.Expansions.{sum_at-past}
use Rattle.symmetric_sums.specs.declared.instance.Instance.{Instance}
use Rattle.symmetric_sums.specs.declared.instance.Rule.TheVariants.{Step}
use Rattle.symmetric_sums.specs.declared.term.Term.{Term}
use Rattle.symmetric_trees.specs.declared.generators.Generator.{Generator}
use Rattle.cofactor_log.specs.Entries.{KeepRule, KeepsRule, elements_of}
use Rattle.cofactor_log.specs.Marks.{CitesWithin, IsFounded}
use Rattle.cofactor_log.specs.Resting.{CiteEntry, uses_at}
use Rattle.symmetric_sums.specs.Uses.{AreGoodUses, IsGoodUse}
use Rattle.cofactor_log.specs.declared.entry.Entry.{Entry}
use Rattle.cofactor_log.proofs.Citing.{citing, uses-found, uses-within}

sum_at-zero : (sums : List (List Term)) → sum_at sums 0 ≡ []
sum_at-zero [] = refl
sum_at-zero (x ∷ xs) = refl

split : (m k : ℕ) → (m < k) ⊎ (k ≤ m)
split m zero = inr (omega arith)
split zero (suc k) = inl (omega arith)
split (suc m) (suc k) = further (split m k) where
  further : (m < k) ⊎ (k ≤ m) → (suc m < suc k) ⊎ (suc k ≤ suc m)
  further (inl l) = inl (omega (arith, l))
  further (inr l) = inr (omega (arith, l))

-- a sum that isn't 0 has a number within the list
pub numbered_within : (sums : List (List Term)) (k : ℕ) → (sum_at sums k ≡ [] → ⊥) → (0 < k) × (k ≤ length sums)
numbered_within sums k some = (above, by_size (split (length sums) k)) where
  above : 0 < k
  above = by_zero k some where
    by_zero : (k : ℕ) → (sum_at sums k ≡ [] → ⊥) → 0 < k
    by_zero zero some = absurd (some (sum_at-zero sums))
    by_zero (suc k) some = omega arith

  by_size : (length sums < k) ⊎ (k ≤ length sums) → k ≤ length sums
  by_size (inl l) = absurd (some (sum_at-past sums k above (omega (arith, l))))
  by_size (inr l) = l

module _ (p : ℕ) (generators : List Generator) (rels : List (List Term)) where
  -- good uses cite elements that are there
  pub good_within : (earlier : List (List Term)) (uses : List Instance) → AreGoodUses p generators rels earlier uses → CitesWithin (length earlier) uses
  good_within earlier uses good k c = found (citing (IsGoodUse p generators rels earlier good.0) uses k (recursion_from_All (IsGoodUse p generators rels earlier good.0) uses good.1) c) where
    found : (item : Instance) × IsGoodUse p generators rels earlier good.0 item × (item.rule ≡ Step k) → (0 < k) × (k ≤ length earlier)
    found (item, good_use, e) = numbered_within earlier k (λ z. good_use.valid.has_terms (ap (rule_element p generators rels earlier) e ∙ z))

  pub kept-founded : (entries : List Entry) → KeepRule p generators rels entries → IsFounded entries
  kept-founded entries kept i k c = at_place (uses-within entries i k c) where
    at_place : (j : ℕ) × (i ≡ suc j) × (j < length entries) → (0 < k) × (k < i)
    at_place (j, e, l) =
        let d : Entry = record { element = []; uses = [] } in
        let c2 : CiteEntry (get_or entries j d).uses k = subst (λ u. CiteEntry u k) (ap (uses_at entries) e ∙ uses-found entries j d l) c in
        let w = good_within (elements_of (take j entries)) (get_or entries j d).uses (kept j d l).uses k c2 in
        let n = length-map (take j entries) (λ (x : Entry). x.element) in
        let m = length-take-le j entries (omega (arith, l)) in
        (w.0, omega (arith, w, n, m, e))
