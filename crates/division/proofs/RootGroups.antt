-- Positions of roots, grouped by label and arity.
use Rattle.std.specs.Prelude.{slice_index}
use Rattle.std.proofs.Common.{◌≡◌, ℕ, zero, suc, ◌<◌, ◌≤◌, List, [], ◌∷◌, length, set, refl, sym, ◌∙◌, ap, arith, subst, Option, Some, None, slice_get, inl, inr, ◌⊎◌}
use mathlib.Core.List.{◌++◌}
use mathlib.Core.Path.{ap₂}
use native.Mathlib.Decide.{ℕ_discrete, dec_lt}
use Rattle.std.proofs.lemmas.List.{length-append, get_or_append_left, get_or-set_same, get_or-set_other}
use Rattle.std.proofs.lemmas.Option.{slice_get_within}
use Rattle.std.proofs.Math.Seq.{get_or-append_seam}
use Rattle.modular_sums.specs.Lists.{Mem}
use Rattle.modular_sums.proofs.Lists.{mem_left, mem_right, mem_either}
use Rattle.tree_store.proofs.Trees.{mem_at}
use Rattle.division.proofs.KeptLists.{entry_pushed}
use Rattle.division.specs.declared.root.Root.{Root}
use Rattle.division.specs.Roots.{ArePositions, AreGrouped, EntersAt, EntersLabel, HasRoot, IsSmallRoot, SameGroups, group_at, group_place, labelled}

-- ---- groups

-- an empty group more changes no group
pub group_at-pushed : (groups : List (List ℕ)) (place : ℕ) → group_at (groups ++ ([] ∷ [])) place ≡ group_at groups place
group_at-pushed [] zero = refl
group_at-pushed [] (suc place) = refl
group_at-pushed (g ∷ groups) zero = refl
group_at-pushed (g ∷ groups) (suc place) = group_at-pushed groups place

pub entered_at : (old wide new : List (List ℕ)) (place position : ℕ) → SameGroups old wide → place < length wide → new ≡ set wide place (group_at wide place ++ (position ∷ [])) → EntersAt old new place position
entered_at old wide new place position same low is = record {
  there = ap (λ l. group_at l place) is ∙ get_or-set_same wide place (group_at wide place ++ (position ∷ [])) [] low ∙ ap (λ g. g ++ (position ∷ [])) (same place);
  others = λ other apart. ap (λ l. group_at l other) is ∙ get_or-set_other wide place other (group_at wide place ++ (position ∷ [])) [] apart ∙ same other;
}

-- ---- positions

still_there : (roots : List Root) (more : Root) (e : ℕ) (root : Root) → slice_get roots e ≡ Some root → slice_get (roots ++ (more ∷ [])) e ≡ Some root
still_there [] more e root h = absurd (cc h)
still_there (r ∷ roots) more zero root h = h
still_there (r ∷ roots) more (suc e) root h = still_there roots more e root h

last_there : (roots : List Root) (more : Root) → slice_get (roots ++ (more ∷ [])) (length roots) ≡ Some more
last_there [] more = refl
last_there (r ∷ roots) more = last_there roots more

-- where the root that is put behind is another, the positions stay
other_root : (roots : List Root) (more : Root) (label arity : ℕ) (positions : List ℕ) → ArePositions roots label arity positions → (more ≡ labelled label arity → ⊥)
    → ArePositions (roots ++ (more ∷ [])) label arity positions
other_root roots more label arity positions h apart = record {
  rising = h.rising;
  only = λ e m. still_there roots more e (labelled label arity) (h.only e m);
  each = λ e r. by e (entry_pushed roots more e (labelled label arity) r);
}
  where
    by : (e : ℕ) → (slice_get roots e ≡ Some (labelled label arity)) ⊎ ((e ≡ length roots) × (more ≡ labelled label arity)) → Mem e positions
    by e (inl r) = h.each e r
    by e (inr r) = absurd (apart r.1)

-- where it is this one, its position comes behind the others
same_root : (roots : List Root) (label arity : ℕ) (positions : List ℕ) → ArePositions roots label arity positions
    → ArePositions (roots ++ (labelled label arity ∷ [])) label arity (positions ++ (length roots ∷ []))
same_root roots label arity positions h = record {
  rising = λ j k less low. rises j k less low (dec_lt k (length positions));
  only = λ e m. only e (mem_either e positions (length roots ∷ []) m);
  each = λ e r. each e (entry_pushed roots (labelled label arity) e (labelled label arity) r);
}
  where
    rises : (j k : ℕ) → j < k → k < length (positions ++ (length roots ∷ [])) → Dec (k < length positions) → slice_index (positions ++ (length roots ∷ [])) j < slice_index (positions ++ (length roots ∷ [])) k
    rises j k less low (yes front) =
        let a : slice_index (positions ++ (length roots ∷ [])) j ≡ slice_index positions j = get_or_append_left positions (length roots ∷ []) 0 j (omega (arith, less, front)) in
        let b : slice_index (positions ++ (length roots ∷ [])) k ≡ slice_index positions k = get_or_append_left positions (length roots ∷ []) 0 k front in
        let c = h.rising j k less front in omega (arith, a, b, c)
    rises j k less low (no back) =
        let last : k ≡ length positions = omega (arith, low, back, length-append positions (length roots ∷ [])) in
        let front : j < length positions = omega (arith, less, last) in
        let a : slice_index (positions ++ (length roots ∷ [])) j ≡ slice_index positions j = get_or_append_left positions (length roots ∷ []) 0 j front in
        let b : slice_index (positions ++ (length roots ∷ [])) k ≡ length roots = ap (slice_index (positions ++ (length roots ∷ []))) last ∙ get_or-append_seam positions (length roots) [] 0 in
        let c = slice_get_within roots (slice_index positions j) (labelled label arity) (h.only (slice_index positions j) (mem_at positions j 0 front)) in omega (arith, a, b, c)

    only : (e : ℕ) → Mem e positions ⊎ Mem e (length roots ∷ []) → HasRoot (roots ++ ((labelled label arity) ∷ [])) label arity e
    only e (inl m) = still_there roots (labelled label arity) e (labelled label arity) (h.only e m)
    only e (inr (inl s)) = ap (slice_get (roots ++ ((labelled label arity) ∷ []))) s ∙ last_there roots (labelled label arity)
    only e (inr (inr f)) = absurd f

    each : (e : ℕ) → (slice_get roots e ≡ Some (labelled label arity)) ⊎ ((e ≡ length roots) × ((labelled label arity) ≡ (labelled label arity))) → Mem e (positions ++ (length roots ∷ []))
    each e (inl r) = mem_left e positions (length roots ∷ []) (h.each e r)
    each e (inr r) = mem_right e positions (length roots ∷ []) (inl r.0)

-- ---- a root more

small_more : (roots : List Root) (more : Root) → ((e : ℕ) (root : Root) → slice_get roots e ≡ Some root → IsSmallRoot root) → IsSmallRoot more → (e : ℕ) (root : Root) → slice_get (roots ++ (more ∷ [])) e ≡ Some root → IsSmallRoot root
small_more roots more h small e root r = by (entry_pushed roots more e root r)
  where
    by : (slice_get roots e ≡ Some root) ⊎ ((e ≡ length roots) × (more ≡ root)) → IsSmallRoot root
    by (inl q) = h e root q
    by (inr q) = subst IsSmallRoot q.1 small

abbrev as_root : Option ℕ → ℕ → Root
as_root label arity = record { label = label; arity = arity }

one_place : (l m a b : ℕ) → a < 10 → b < 10 → group_place l a ≡ group_place m b → (l ≡ m) × (a ≡ b)
one_place l m a b ha hb e = (omega (arith, ha, hb, e), omega (arith, ha, hb, e))

pub grouped_more : (roots : List Root) (old new : List (List ℕ)) (more : Root) → AreGrouped roots old → IsSmallRoot more → EntersLabel old new more.label more.arity (length roots) → AreGrouped (roots ++ (more ∷ [])) new
grouped_more roots old new more h small enters = record { small = small_more roots more h.small small; each = by more.label more.arity refl refl small enters }
  where
    by : (o : Option ℕ) (a : ℕ) → more.label ≡ o → more.arity ≡ a → a < 10 → EntersLabel old new o a (length roots) → (label arity : ℕ) → arity < 10 → ArePositions (roots ++ (more ∷ [])) label arity (group_at new (group_place label arity))
    by None a e f sm same label arity lt =
        subst (ArePositions (roots ++ (more ∷ [])) label arity) (sym (same (group_place label arity)))
        (other_root roots more label arity (group_at old (group_place label arity)) (h.each label arity lt) (λ q. let n : None ≡ Some label = sym e ∙ ap (λ (r : Root). r.label) q in absurd (cc n)))
    by (Some l) a e f sm at label arity lt = choose (ℕ_discrete (group_place label arity) (group_place l a))
      where
        choose : Dec (group_place label arity ≡ group_place l a) → ArePositions (roots ++ (more ∷ [])) label arity (group_at new (group_place label arity))
        choose (yes q) =
            let same = one_place label l arity a lt sm q in
            let is : labelled label arity ≡ more = root_is (same.0) (same.1) in
            subst (λ r. ArePositions (roots ++ (r ∷ [])) label arity (group_at new (group_place label arity))) is
            (subst (ArePositions (roots ++ (labelled label arity ∷ [])) label arity) (sym (ap (group_at new) q ∙ at.there ∙ ap (λ p. group_at old p ++ (length roots ∷ [])) (sym q)))
            (same_root roots label arity (group_at old (group_place label arity)) (h.each label arity lt)))
          where
            root_is : label ≡ l → arity ≡ a → labelled label arity ≡ more
            root_is p r = ap₂ as_root (ap Some p ∙ sym e) (r ∙ sym f)
        choose (no apart) =
            subst (ArePositions (roots ++ (more ∷ [])) label arity) (sym (at.others (group_place label arity) apart))
            (other_root roots more label arity (group_at old (group_place label arity)) (h.each label arity lt) (λ q. apart (place_is q)))
          where
            place_is : more ≡ labelled label arity → group_place label arity ≡ group_place l a
            place_is q =
                let x : Some l ≡ Some label = sym e ∙ ap (λ (r : Root). r.label) q in
                let y : a ≡ arity = sym f ∙ ap (λ (r : Root). r.arity) q in
                let z : l ≡ label = cc x in omega (arith, y, z)

-- ---- what is looked up

pub none_small : (roots : List Root) (groups : List (List ℕ)) (label arity : ℕ) → AreGrouped roots groups → 10 ≤ arity → ArePositions roots label arity []
none_small roots groups label arity h le = record {
  rising = λ j k less low. absurd (omega (arith, low));
  only = λ e m. absurd m;
  each = λ e r. let s = h.small e (labelled label arity) r in absurd (omega (arith, s, le));
}

pub group_found : (roots : List Root) (groups : List (List ℕ)) (label arity place : ℕ) (group : List ℕ) → AreGrouped roots groups → arity < 10 → place ≡ group_place label arity → group ≡ group_at groups place
    → ArePositions roots label arity group
group_found roots groups label arity place group h lt at is = subst (ArePositions roots label arity) (sym (is ∙ ap (group_at groups) at)) (h.each label arity lt)
