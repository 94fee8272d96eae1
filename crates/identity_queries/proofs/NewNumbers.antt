-- The list of new numbers, and steps that are renumbered by it.
use Rattle.std.proofs.Common.{◌≡◌, ◌≢◌, ℕ, zero, suc, ◌+◌, ◌-◌, ◌<◌, ◌≤◌, List, [], ◌∷◌, ◌++◌, inl, inr, length, get_or, take, drop, refl, sym, subst, ap, ◌∙◌, arith}
use mathlib.Core.Path.{ap₂}
use Rattle.std.proofs.Math.ListN.{set}
use Rattle.std.proofs.Math.Seq.{drop-cons}
use Rattle.std.proofs.lemmas.List.{get_or-set_same, get_or-set_other, length-take-le, take-append-drop, take_more}
use native.Mathlib.Decide.{ℕ_discrete}
use Rattle.modular_sums.specs.Lists.{Mem, Rises}
use Rattle.symmetric_sums.specs.declared.instance.Instance.{Instance}
use Rattle.cofactor_log.specs.Marks.{CitesWithin, IsFounded}
use Rattle.cofactor_log.specs.Resting.{CiteEntry, IsReached, first, through, uses_at}
use Rattle.cofactor_log.specs.declared.entry.Entry.{Entry}
use Rattle.cofactor_log.proofs.Citing.{uses-found, uses-within}
use Rattle.certificate_text.specs.declared.block.Step.{Step}
use Rattle.identity_queries.specs.Renumbering.{AreNewPlaces, AreWithin, entry_at, number_in, place_in, renumbered_step, steps_at}
use Rattle.identity_queries.proofs.Places.{place-last, place-other, rising_before, rising_few}
use Rattle.identity_queries.proofs.SameUses.{same_numbers}

pub mem-get : (l : List ℕ) (i : ℕ) → i < length l → Mem (get_or l i 0) l
mem-get [] i h = absurd (omega (arith, h))
mem-get (x ∷ l) zero h = inl refl
mem-get (x ∷ l) (suc i) h = inr (mem-get l i (omega (arith, h)))

-- rising numbers from 1 to n are no more than n
pub few_within : (found : List ℕ) (n : ℕ) → Rises found → AreWithin n found → length found ≤ n
few_within found n r w = let l = rising_few found 0 n (omega arith) r w in omega (arith, l)

-- the next number stands at the next place
pub place-step : (found numbers : List ℕ) (i place count : ℕ) → i < length found → Rises found → AreWithin count found → length numbers ≡ count → place ≡ i
    → AreNewPlaces (take i found) numbers → AreNewPlaces (take (i + 1) found) (set numbers (get_or found i 0 - 1) (place + 1))
place-step found numbers i place count l rises within long at places k = subst (λ f. get_or (set numbers (get_or found i 0 - 1) (place + 1)) k 0 ≡ place_in f (suc k)) (sym more) (by_number (ℕ_discrete (get_or found i 0) (suc k))) where
  more : take (i + 1) found ≡ take i found ++ get_or found i 0 ∷ []
  more = take_more found i 0 l

  here : (0 < get_or found i 0) × (get_or found i 0 ≤ count)
  here = within (get_or found i 0) (mem-get found i l)

  whole : found ≡ take i found ++ get_or found i 0 ∷ drop (suc i) found
  whole = sym (take-append-drop i found) ∙ ap (λ back. take i found ++ back) (drop-cons found i 0 l)

  new : Mem (get_or found i 0) (take i found) → ⊥
  new m =
      let below = rising_before (take i found) (get_or found i 0) (drop (suc i) found) (subst Rises whole rises) (get_or found i 0) m in
      omega (arith, below)

  by_number : Dec (get_or found i 0 ≡ suc k) → get_or (set numbers (get_or found i 0 - 1) (place + 1)) k 0 ≡ place_in (take i found ++ get_or found i 0 ∷ []) (suc k)
  by_number (yes e) =
      let same : get_or found i 0 - 1 ≡ k = omega (arith, e) in
      let short = length-take-le i found (omega (arith, l)) in
      let value : place + 1 ≡ suc (length (take i found)) = omega (arith, short, at) in
      subst (λ j. get_or (set numbers j (place + 1)) k 0 ≡ place + 1) (sym same) (get_or-set_same numbers k (place + 1) 0 (omega (arith, here, long, e)))
      ∙ value ∙ sym (place-last (take i found) (get_or found i 0) new) ∙ ap (place_in (take i found ++ get_or found i 0 ∷ [])) e
  by_number (no different) =
      let apart : k ≢ get_or found i 0 - 1 = λ e. different (omega (arith, e, here)) in
      get_or-set_other numbers (get_or found i 0 - 1) k (place + 1) 0 apart ∙ places k ∙ sym (place-other (take i found) (get_or found i 0) (suc k) different)

-- ---- steps

numbers-same : (found numbers : List ℕ) (k : ℕ) → AreNewPlaces found numbers → 0 < k → number_in numbers k ≡ place_in found k
numbers-same found numbers k h positive =
    let n : suc (k - 1) ≡ k = omega (arith, positive) in
    h (k - 1) ∙ ap (place_in found) n

step-same : (found numbers : List ℕ) (entry : Entry) → AreNewPlaces found numbers → ((k : ℕ) → CiteEntry entry.uses k → 0 < k)
    → renumbered_step (number_in numbers) entry ≡ renumbered_step (place_in found) entry
step-same found numbers entry h cites =
    ap (λ (uses : List Instance). let step : Step = record { element = entry.element; uses = uses } in step) (same_numbers (number_in numbers) (place_in found) entry.uses (λ k c. numbers-same found numbers k h (cites k c)))

-- what an entry cites
entry-cites : (entries : List Entry) (k : ℕ) → IsFounded entries → 0 < k → k ≤ length entries → (j : ℕ) → CiteEntry (entry_at entries k).uses j → 0 < j
entry-cites entries k founded positive within j c =
    let nothing : Entry = record { element = []; uses = [] } in
    let n : suc (k - 1) ≡ k = omega (arith, positive) in
    let uses : uses_at entries k ≡ (entry_at entries k).uses = ap (uses_at entries) (sym n) ∙ uses-found entries (k - 1) nothing (omega (arith, positive, within)) in
    (founded k j (subst (λ u. CiteEntry u j) (sym uses) c)).0

pub steps-same : (entries : List Entry) (found numbers l : List ℕ) → IsFounded entries → AreWithin (length entries) l → AreNewPlaces found numbers
    → steps_at (number_in numbers) entries l ≡ steps_at (place_in found) entries l
steps-same entries found numbers [] founded within h = refl
steps-same entries found numbers (k ∷ l) founded within h =
    let here = within k (inl refl) in
    ap₂ (λ (s : Step) (t : List Step). s ∷ t) (step-same found numbers (entry_at entries k) h (entry-cites entries k founded here.0 here.1)) (steps-same entries found numbers l founded (λ j m. within j (inr m)) h)

-- the steps of the block, with the places for the new numbers
pub steps-are : (entries : List Entry) (last : Entry) (found numbers : List ℕ) → IsFounded entries → AreWithin (length entries) found → CitesWithin (length entries) last.uses → AreNewPlaces found numbers
    → steps_at (number_in numbers) entries found ++ renumbered_step (number_in numbers) last ∷ [] ≡ steps_at (place_in found) entries found ++ renumbered_step (place_in found) last ∷ []
steps-are entries last found numbers founded within cites h =
    ap₂ (λ (s : List Step) (t : Step). s ++ t ∷ []) (steps-same entries found numbers found founded within h) (step-same found numbers last h (λ k c. (cites k c).0))

-- what is reached lies in the log
pub reached-within : (entries : List Entry) (IsFirst : ℕ → Type 0) → IsFounded entries → ((k : ℕ) → IsFirst k → (0 < k) × (k ≤ length entries)) → (k : ℕ) → IsReached entries IsFirst k → (0 < k) × (k ≤ length entries)
reached-within entries IsFirst founded firsts _ (first k h) = firsts k h
reached-within entries IsFirst founded firsts _ (through i k r c) =
    let below = founded i k c in
    let held = uses-within entries i k c in
    (below.0, omega (arith, below, held.1, held.2))
