-- Entries that are carried through a completion.
use Rattle.std.proofs.Common.{◌≡◌, ℕ, zero, suc, ◌+◌, ◌<◌, ◌≤◌, List, [], ◌∷◌, ◌++◌, length, refl, sym, ap, ◌∙◌, subst, arith, length-append}
use Rattle.std.specs.Prelude.{slice_get, slice_index, Some}
use Rattle.operad_ideals.specs.Presentations.{Presentation}
use Rattle.shuffle_bases.specs.Elements.{Element, terms}
use Rattle.symmetric_sums.specs.Instances.{sum_at}
use Rattle.symmetric_sums.specs.Terms.{terms_of}
use Rattle.symmetric_sums.specs.declared.term.Term.{Term}
use Rattle.logged_steps.specs.Standing.{StandsFor}
use Rattle.arity_completion.specs.Laws.{EntriesAreCarried}
use Rattle.arity_completion.specs.Trails.{AreEntriesOf}

-- ---- sums by their numbers

old_sum : (earlier : List (List Term)) (sum : List Term) (k : ℕ) → k ≤ length earlier → sum_at (earlier ++ sum ∷ []) k ≡ sum_at earlier k
old_sum [] sum zero l = refl
old_sum [] sum (suc k) l = absurd (omega (arith, l))
old_sum (e ∷ earlier) sum zero l = refl
old_sum (e ∷ earlier) sum (suc zero) l = refl
old_sum (e ∷ earlier) sum (suc (suc k)) l = old_sum earlier sum (suc k) (omega (arith, l))

new_sum : (earlier : List (List Term)) (sum : List Term) → sum_at (earlier ++ sum ∷ []) (suc (length earlier)) ≡ terms_of sum
new_sum [] sum = refl
new_sum (e ∷ earlier) sum = new_sum earlier sum

-- ---- numbers beside elements

module _ (p : Presentation) where
  record Stands (earlier : List (List Term)) (k : ℕ) (g : Element) : Type 0 where
    pub within : k ≤ length earlier
    pub stands : StandsFor p g.arity (sum_at earlier k) (terms g)

  abbrev AllStand : List (List Term) → List ℕ → List Element → Type 0
  AllStand earlier [] [] = Unit {0}
  AllStand earlier [] (g ∷ elements) = ⊥
  AllStand earlier (k ∷ numbers) [] = ⊥
  AllStand earlier (k ∷ numbers) (g ∷ elements) = Stands earlier k g × AllStand earlier numbers elements

  to_all : (earlier : List (List Term)) (numbers : List ℕ) (elements : List Element) → length numbers ≡ length elements → ((k : ℕ) → k < length numbers → slice_index numbers k ≤ length earlier)
      → ((k : ℕ) (g : Element) → slice_get elements k ≡ Some g → StandsFor p g.arity (sum_at earlier (slice_index numbers k)) (terms g)) → AllStand earlier numbers elements
  to_all earlier [] [] e w s = tt
  to_all earlier [] (g ∷ elements) e w s = absurd (omega (arith, e))
  to_all earlier (k ∷ numbers) [] e w s = absurd (omega (arith, e))
  to_all earlier (k ∷ numbers) (g ∷ elements) e w s =
      (record { within = w 0 (omega arith); stands = s 0 g refl }, to_all earlier numbers elements (omega (arith, e)) (λ i l. w (suc i) (omega (arith, l))) (λ i h f. s (suc i) h f))

  as_many_of : (earlier : List (List Term)) (numbers : List ℕ) (elements : List Element) → AllStand earlier numbers elements → length numbers ≡ length elements
  as_many_of earlier [] [] h = refl
  as_many_of earlier [] (g ∷ elements) h = absurd h
  as_many_of earlier (k ∷ numbers) [] h = absurd h
  as_many_of earlier (k ∷ numbers) (g ∷ elements) h = ap suc (as_many_of earlier numbers elements h.1)

  within_of : (earlier : List (List Term)) (numbers : List ℕ) (elements : List Element) → AllStand earlier numbers elements → (i : ℕ) → i < length numbers → slice_index numbers i ≤ length earlier
  within_of earlier [] elements h i l = absurd (omega (arith, l))
  within_of earlier (k ∷ numbers) [] h i l = absurd h
  within_of earlier (k ∷ numbers) (g ∷ elements) h zero l = h.0.within
  within_of earlier (k ∷ numbers) (g ∷ elements) h (suc i) l = within_of earlier numbers elements h.1 i (omega (arith, l))

  stand_of : (earlier : List (List Term)) (numbers : List ℕ) (elements : List Element) → AllStand earlier numbers elements → (i : ℕ) (x : Element) → slice_get elements i ≡ Some x
      → StandsFor p x.arity (sum_at earlier (slice_index numbers i)) (terms x)
  stand_of earlier numbers [] h i x e = absurd (cc e)
  stand_of earlier [] (g ∷ elements) h i x e = absurd h
  stand_of earlier (k ∷ numbers) (g ∷ elements) h zero x e = subst (λ (y : Element). StandsFor p y.arity (sum_at earlier k) (terms y)) (cc e) h.0.stands
  stand_of earlier (k ∷ numbers) (g ∷ elements) h (suc i) x e = stand_of earlier numbers elements h.1 i x e

  from_all : (earlier : List (List Term)) (numbers : List ℕ) (elements : List Element) → AllStand earlier numbers elements → AreEntriesOf p earlier numbers elements
  from_all earlier numbers elements h = record { as_many = as_many_of earlier numbers elements h; within = within_of earlier numbers elements h; stand = stand_of earlier numbers elements h }

  all_of : (earlier : List (List Term)) (numbers : List ℕ) (elements : List Element) → AreEntriesOf p earlier numbers elements → AllStand earlier numbers elements
  all_of earlier numbers elements h = to_all earlier numbers elements h.as_many h.within h.stand

  module _ (earlier : List (List Term)) (sum : List Term) where
    abbrev more : List (List Term)
    more = earlier ++ sum ∷ []

    one_more : length (earlier ++ sum ∷ []) ≡ suc (length earlier)
    one_more = length-append earlier (sum ∷ []) ∙ omega arith

    still : (k : ℕ) (g : Element) → Stands earlier k g → Stands (earlier ++ sum ∷ []) k g
    still k g h = record {
      within = let w = h.within in let o = one_more in omega (arith, w, o);
      stands = subst (λ e. StandsFor p g.arity e (terms g)) (sym (old_sum earlier sum k h.within)) h.stands;
    }

    now : (g : Element) → StandsFor p g.arity (terms_of sum) (terms g) → Stands (earlier ++ sum ∷ []) (length earlier + 1) g
    now g h =
        let e : suc (length earlier) ≡ length earlier + 1 = omega arith in
        record {
          within = let o = one_more in omega (arith, o);
          stands = subst (λ k. StandsFor p g.arity (sum_at (earlier ++ sum ∷ []) k) (terms g)) e (subst (λ l. StandsFor p g.arity l (terms g)) (sym (new_sum earlier sum)) h);
        }

    all_still : (numbers : List ℕ) (elements : List Element) → AllStand earlier numbers elements → AllStand (earlier ++ sum ∷ []) numbers elements
    all_still [] [] h = tt
    all_still [] (g ∷ elements) h = absurd h
    all_still (k ∷ numbers) [] h = absurd h
    all_still (k ∷ numbers) (g ∷ elements) h = (still k g h.0, all_still numbers elements h.1)

    add : (numbers : List ℕ) (elements : List Element) (g : Element) → StandsFor p g.arity (terms_of sum) (terms g) → AllStand earlier numbers elements
        → AllStand (earlier ++ sum ∷ []) (numbers ++ (length earlier + 1) ∷ []) (elements ++ g ∷ [])
    add [] [] g s h = (now g s, tt)
    add [] (x ∷ elements) g s h = absurd h
    add (k ∷ numbers) [] g s h = absurd h
    add (k ∷ numbers) (x ∷ elements) g s h = (still k x h.0, add numbers elements g s h.1)

    replace : (before after : List ℕ) (k : ℕ) (front back : List Element) (g h : Element) → StandsFor p h.arity (terms_of sum) (terms h) → length before ≡ length front
        → AllStand earlier (before ++ k ∷ after) (front ++ g ∷ back) → AllStand (earlier ++ sum ∷ []) (before ++ (length earlier + 1) ∷ after) (front ++ h ∷ back)
    replace [] after k [] back g h s e a = (now h s, all_still after back a.1)
    replace [] after k (x ∷ front) back g h s e a = absurd (omega (arith, e))
    replace (n ∷ before) after k [] back g h s e a = absurd (omega (arith, e))
    replace (n ∷ before) after k (x ∷ front) back g h s e a = (still n x a.0, replace before after k front back g h s (omega (arith, e)) a.1)

pub carried_law : EntriesAreCarried
carried_law p = record {
  none = λ earlier. from_all p earlier [] [] tt;
  added = λ earlier numbers elements sum g h s. from_all p (earlier ++ sum ∷ []) (numbers ++ (length earlier + 1) ∷ []) (elements ++ g ∷ []) (add p earlier sum numbers elements g s (all_of p earlier numbers elements h));
  replaced = λ earlier before after k front back g h sum a e s. from_all p (earlier ++ sum ∷ []) (before ++ (length earlier + 1) ∷ after) (front ++ h ∷ back)
      (replace p earlier sum before after k front back g h s e (all_of p earlier (before ++ k ∷ after) (front ++ g ∷ back) a));
}
