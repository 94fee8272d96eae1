-- The steps of the block hold.
use Rattle.std.proofs.Common.{◌≡◌, ℕ, zero, suc, ◌-◌, ◌<◌, ◌≤◌, List, [], ◌∷◌, ◌++◌, inl, inr, length, get_or, map, take, refl, sym, subst, ap, ◌∙◌, arith, append-nil, append_assoc}
use Rattle.std.proofs.lemmas.List.{map-append, length-map, length-take-le, get_or-take}
use Rattle.std.proofs.Math.Seq.{take-length}
use Rattle.modular_sums.specs.Lists.{Mem, Rises}
use Rattle.modular_sums.proofs.Lists.{mem_right}
use Rattle.symmetric_trees.specs.declared.generators.Generator.{Generator}
use Rattle.symmetric_trees.specs.Generators.{parts_at}
use Rattle.operad_ideals.specs.Collected.{HaveOneForm}
use Rattle.symmetric_sums.specs.Instances.{sum_at}
use Rattle.symmetric_sums.specs.Terms.{terms_of}
use Rattle.symmetric_sums.specs.declared.term.Term.{Term}
use Rattle.symmetric_sums.proofs.Expansions.{sum_at-found}
use Rattle.cofactor_log.specs.Entries as log
use Rattle.cofactor_log.specs.Marks.{IsFounded}
use Rattle.cofactor_log.specs.Resting.{CiteEntry, ListsReached, UsesRestOn, first, through, uses_at}
use Rattle.cofactor_log.specs.declared.entry.Entry.{Entry}
use Rattle.cofactor_log.proofs.Citing.{uses-found}
use Rattle.certificate_check.specs.Blocks.{BlockHolds, StepHolds, StepsHold, elements_of}
use Rattle.certificate_check.proofs.HeldSteps.{holds-push, last-is}
use Rattle.identity_queries.specs.Renumbering.{AreWithin, entry_at, place_in, renumbered_step, steps_at}
use Rattle.identity_queries.proofs.Places.{place-before, rising_front, sum-placed}
use Rattle.identity_queries.proofs.SameUses.{all_good, same_sum}

step-elements : (number : ℕ → ℕ) (entries : List Entry) (l : List ℕ) → elements_of (steps_at number entries l) ≡ map (λ k. (entry_at entries k).element) l
step-elements number entries [] = refl
step-elements number entries (x ∷ l) = ap (λ t. (entry_at entries x).element ∷ t) (step-elements number entries l)

-- the sum of an entry among the first ones
sum-of_entry : (entries : List Entry) (m k : ℕ) → 0 < k → k ≤ m → m ≤ length entries → sum_at (log.elements_of (take m entries)) k ≡ terms_of (entry_at entries k).element
sum-of_entry entries m k positive below within =
    let nothing : Entry = record { element = []; uses = [] } in
    let short = length-take-le m entries within in
    let long = length-map (take m entries) (λ (x : Entry). x.element) in
    let here : get_or (take m entries) (k - 1) nothing ≡ entry_at entries k = get_or-take m entries (k - 1) nothing (omega (arith, positive, below)) in
    let at : (entry_at entries k).element ≡ get_or (log.elements_of (take m entries)) (k - 1) (entry_at entries k).element =
    sym (ap (λ (x : Entry). x.element) here) ∙ map-get (take m entries) (k - 1) nothing (entry_at entries k).element (omega (arith, positive, below, short)) in
    sum_at-found (log.elements_of (take m entries)) k (entry_at entries k).element positive (omega (arith, positive, below, short, long)) at
  where
    map-get : (l : List Entry) (i : ℕ) (d : Entry) (e : List Term) → i < length l → (get_or l i d).element ≡ get_or (log.elements_of l) i e
    map-get [] i d e h = absurd (omega (arith, h))
    map-get (x ∷ l) zero d e h = refl
    map-get (x ∷ l) (suc i) d e h = map-get l i d e (omega (arith, h))

module _ (p : ℕ) (generators : List Generator) (rels : List (List Term)) (entries : List Entry) (kept : log.KeepRule p generators rels entries) (founded : IsFounded entries) (last : Entry)
    (last_kept : log.KeepsRule p generators rels (log.elements_of entries) last) (found : List ℕ) (rest : ListsReached (UsesRestOn entries last.uses) found) (within : AreWithin (length entries) found) where
  -- what an entry that was found cites was found
  closed : (k j : ℕ) → Mem k found → CiteEntry (uses_at entries k) j → Mem j found
  closed k j m c = (rest.exactly j).1 (through k j ((rest.exactly k).0 m) c)

  step_holds : (front : List ℕ) (m : ℕ) (entry : Entry) → m ≤ length entries → log.KeepsRule p generators rels (log.elements_of (take m entries)) entry
      → ((j : ℕ) → CiteEntry entry.uses j → Mem j front × (0 < j) × (j ≤ m)) → ((j : ℕ) → Mem j front → place_in found j ≡ place_in front j)
      → StepHolds p generators rels (elements_of (steps_at (place_in found) entries front)) (renumbered_step (place_in found) entry)
  step_holds front m entry short k cites places =
      let new = elements_of (steps_at (place_in found) entries front) in
      let old = log.elements_of (take m entries) in
      let same : (j : ℕ) → CiteEntry entry.uses j → sum_at new (place_in found j) ≡ sum_at old j =
      λ j c.
      let at = cites j c in
      ap (sum_at new) (places j at.0) ∙ ap (λ l. sum_at l (place_in front j)) (step-elements (place_in found) entries front)
      ∙ sum-placed (λ k. (entry_at entries k).element) front j at.0 ∙ sym (sum-of_entry entries m j at.1 at.2 short) in
      record {
        uses = all_good p generators rels old new (place_in found) entry.uses same k.uses;
        same = subst (HaveOneForm p (parts_at generators) (terms_of entry.element)) (sym (same_sum p generators rels old new (place_in found) entry.uses same)) k.same;
      }

  -- the steps so far, and those to come
  steps-hold : (front back : List ℕ) → front ++ back ≡ found → StepsHold p generators rels [] (steps_at (place_in found) entries front) → StepsHold p generators rels [] (steps_at (place_in found) entries found)
  steps-hold front [] e h = subst (λ l. StepsHold p generators rels [] (steps_at (place_in found) entries l)) (sym (append-nil front) ∙ e) h
  steps-hold front (k ∷ back) e h =
      let nothing : Entry = record { element = []; uses = [] } in
      let member : Mem k found = subst (Mem k) e (mem_right k front (k ∷ back) (inl refl)) in
      let at = within k member in
      let own : log.KeepsRule p generators rels (log.elements_of (take (k - 1) entries)) (entry_at entries k) = kept (k - 1) nothing (omega (arith, at)) in
      let n : suc (k - 1) ≡ k = omega (arith, at) in
      let uses : uses_at entries k ≡ (entry_at entries k).uses = ap (uses_at entries) (sym n) ∙ uses-found entries (k - 1) nothing (omega (arith, at)) in
      let cites : (j : ℕ) → CiteEntry (entry_at entries k).uses j → Mem j front × (0 < j) × (j ≤ k - 1) =
      λ j c.
      let d = subst (λ u. CiteEntry u j) (sym uses) c in
      let b = founded k j d in
      (rising_front front k back (subst Rises (sym e) rest.rises) j (subst (Mem j) (sym e) (closed k j member d)) b.1, b.0, omega (arith, b)) in
      let places : (j : ℕ) → Mem j front → place_in found j ≡ place_in front j = λ j m. ap (λ l. place_in l j) (sym e) ∙ place-before front (k ∷ back) j m in
      let step = step_holds front (k - 1) (entry_at entries k) (omega (arith, at)) own cites places in
      steps-hold (front ++ k ∷ []) back (append_assoc front (k ∷ []) back ∙ e)
      (subst (StepsHold p generators rels []) (sym (map-append (λ k. renumbered_step (place_in found) (entry_at entries k)) front (k ∷ [])))
      (holds-push p generators rels [] (steps_at (place_in found) entries front) (renumbered_step (place_in found) (entry_at entries k)) h step))

  pub block-holds : BlockHolds p generators rels last.element (steps_at (place_in found) entries found ++ renumbered_step (place_in found) last ∷ [])
  block-holds =
      let all : take (length entries) entries ≡ entries = take-length entries in
      let front = steps_at (place_in found) entries found in
      let step = renumbered_step (place_in found) last in
      let cites : (j : ℕ) → CiteEntry last.uses j → Mem j found × (0 < j) × (j ≤ length entries) =
      λ j c.
      let m = (rest.exactly j).1 (first j c) in
      let b = within j m in
      (m, b.0, b.1) in
      let last_step = step_holds found (length entries) last (omega arith) (subst (λ l. log.KeepsRule p generators rels (log.elements_of l) last) (sym all) last_kept) cites (λ j m. refl) in
      record {
        steps_hold = holds-push p generators rels [] front step (steps-hold [] found refl tt) last_step;
        wanted = subst (HaveOneForm p (parts_at generators) (terms_of last.element)) (sym (last-is front step)) (last_kept.same.0, last_kept.same.1, last_kept.same.1);
      }
