-- Entries of permutations: of lists put together, of the identity, of inverses and composites.
use Rattle.std.proofs.Common.{◌≡◌, ℕ, zero, suc, ◌+◌, ◌<◌, ◌≤◌, List, [], ◌∷◌, length, refl, sym, ◌∙◌, ap, arith}
use mathlib.Core.List.{◌++◌}
use native.Mathlib.Decide.{ℕ_discrete, dec_lt}
use Rattle.shuffle_insertions.specs.Listing.{upto}
use Rattle.shuffle_insertions.proofs.Counting.{length-upto}
use Rattle.shuffle_insertions.proofs.Upto.{in_upto}
use Rattle.shuffle_transfer.specs.Orderings.{IsOrdering, entry}
use Rattle.shuffle_transfer.proofs.Permutes.{permutes_each}
use Rattle.shuffle_transfer.proofs.Orderings.{ordering_permutes, mem_entry, as_list, entry_within}
use Rattle.shuffle_transfer.proofs.TransferLaw.{entry_apart}
use Rattle.shuffle_transfer.proofs.RelabelledIdeals.{entry_zero}
use Rattle.action_characters.proofs.Choices.{chosen}

pub entry-append_left : (k l : List ℕ) (i : ℕ) → i ≤ length k → entry (k ++ l) i ≡ entry k i
entry-append_left [] l zero le = entry_zero l
entry-append_left [] l (suc i) le = absurd (omega arith)
entry-append_left (x ∷ k) l zero le = refl
entry-append_left (x ∷ k) l (suc zero) le = refl
entry-append_left (x ∷ k) l (suc (suc i)) le = entry-append_left k l (suc i) (omega (arith, le))

pub entry-append_right : (k l : List ℕ) (i : ℕ) → entry (k ++ l) (suc (length k + i)) ≡ entry l (suc i)
entry-append_right [] l i = let e : suc (0 + i) ≡ suc i = omega arith in ap (entry l) e
entry-append_right (x ∷ k) l i = let e : suc (suc (length k) + i) ≡ suc (suc (length k + i)) = omega arith in ap (entry (x ∷ (k ++ l))) e ∙ entry-append_right k l i

pub entry-append_behind : (k l : List ℕ) (i : ℕ) → 0 < i → entry (k ++ l) (length k + i) ≡ entry l i
entry-append_behind k l zero p = absurd (omega (arith, p))
entry-append_behind k l (suc i) p = let e : length k + suc i ≡ suc (length k + i) = omega arith in ap (entry (k ++ l)) e ∙ entry-append_right k l i

-- the identity
pub entry-upto : (n i : ℕ) → 0 < i → i ≤ n → entry (upto n) i ≡ i
entry-upto zero i p le = absurd (omega (arith, p, le))
entry-upto (suc n) i p le = go (dec_lt n i) (λ h. entry-upto n i p h)
  where
    go : Dec (n < i) → (i ≤ n → entry (upto n) i ≡ i) → entry (upto n ++ (suc n ∷ [])) i ≡ i
    go (yes h) ih =
        let e : i ≡ suc (length (upto n) + 0) = omega (arith, h, le, length-upto n) in
        let f : i ≡ suc n = omega (arith, h, le) in
        ap (entry (upto n ++ (suc n ∷ []))) e ∙ entry-append_right (upto n) (suc n ∷ []) 0 ∙ sym f
    go (no h) ih = entry-append_left (upto n) (suc n ∷ []) i (omega (arith, h, length-upto n)) ∙ ih (omega (arith, h))

module _ (n : ℕ) where
  -- a permutation sends different numbers to different ones
  pub entry_one : (v : List ℕ) → IsOrdering n v → (i j : ℕ) → 0 < i → i ≤ n → 0 < j → j ≤ n → entry v i ≡ entry v j → i ≡ j
  entry_one v o zero j p a r b e = absurd (omega (arith, p))
  entry_one v o (suc i) zero p a r b e = absurd (omega (arith, r))
  entry_one v o (suc i) (suc j) p a r b e = let m : length v ≡ n = o.length_is in ap suc (entry_apart v o.distinct i j (omega (arith, m, a)) (omega (arith, m, b)) e)

  pub record Inverse (v : List ℕ) : Type 0 where
    pub list : List ℕ
    pub is : IsOrdering n list
    pub after : (i : ℕ) → 0 < i → i ≤ n → entry v (entry list i) ≡ i
    pub before : (i : ℕ) → 0 < i → i ≤ n → entry list (entry v i) ≡ i

  -- where a number stands in a list
  record Place (v : List ℕ) (j i : ℕ) : Type 0 where
    holds : j ≡ entry v i
    low : 0 < i
    high : i ≤ n

  pub inverse : (v : List ℕ) → IsOrdering n v → Inverse v
  inverse v o =
      let c = chosen ℕ_discrete v 0 (Place v)
      (λ j m. let k = mem_entry v j m in (suc k.0, record { holds = k.1; low = omega arith; high = let lt : k.0 < length v = k.2 in let s : length v ≡ n = o.length_is in omega (arith, lt, s) })) in
      let f : ℕ → ℕ = c.0 in
      let at : (j : ℕ) → 0 < j → j ≤ n → Place v j (f j) = λ j p le. c.1 j (permutes_each (upto n) v (ordering_permutes n v o) j (in_upto n j p le)) in
      let u = as_list n f (λ i p le. let k = at i p le in (k.low, k.high)) (λ i j p a r b e. (at i p a).holds ∙ ap (entry v) e ∙ sym (at j r b).holds) in
      record {
        list = u.0;
        is = u.1;
        after = λ i p le. ap (entry v) (u.2 i p le) ∙ sym (at i p le).holds;
        before = λ i p le.
            let w = entry_within n v o i p le in
            let k = at (entry v i) w.0 w.1 in
            u.2 (entry v i) w.0 w.1 ∙ sym (entry_one v o i (f (entry v i)) p le k.low k.high k.holds);
      }

  pub record Composite (v w : List ℕ) : Type 0 where
    pub list : List ℕ
    pub is : IsOrdering n list
    pub at : (i : ℕ) → 0 < i → i ≤ n → entry list i ≡ entry v (entry w i)

  -- one permutation after another
  pub composite : (v w : List ℕ) → IsOrdering n v → IsOrdering n w → Composite v w
  composite v w a b =
      let u = as_list n (λ i. entry v (entry w i)) (λ i p le. let k = entry_within n w b i p le in entry_within n v a (entry w i) k.0 k.1)
      (λ i j p x r y e.
      let k = entry_within n w b i p x in
      let m = entry_within n w b j r y in
      entry_one w b i j p x r y (entry_one v a (entry w i) (entry w j) k.0 k.1 m.0 m.1 e)) in
      record { list = u.0; is = u.1; at = u.2 }
