-- Sums over positions that agree, term by term, with sums of trees.
use Rattle.std.proofs.Common.{◌≡◌, ℕ, ◌<◌, List, [], ◌∷◌, zero, suc, length, map, refl, sym, ◌∙◌, ap, arith, get_or}
use mathlib.Core.Path.{ap₂}
use Rattle.std.specs.List.{All, zip}
use Rattle.std.specs.declared.cmp.Ordering.{Ordering}
use Rattle.std.specs.declared.cmp.Ordering.TheVariants.{Less}
use Rattle.std.specs.Ordering.{nat_cmp}
use Rattle.std.specs.Cmp.{nat_cmp_is}
use Rattle.modular_sums.specs.Sums.{AllTerms, moved}
use Rattle.labelled_trees.specs.Trees.{Tree}
use Rattle.modular_sums.specs.Falling.{IsAbove, Falls, AreNonzeroResidues}
use Rattle.division.specs.Laws.{trees_in}
use Rattle.division.specs.Given.{numbers_in}

pub below_all : (n j : ℕ) (l : List ℕ) → All (λ i. i < n) (j ∷ l) → (j < n) × All (λ i. i < n) l
below_all n j l h = (h 0 0 (omega arith), λ k d lt. h (suc k) d (omega (arith, lt)))

pub all_cons : (n j : ℕ) (l : List ℕ) → j < n → All (λ i. i < n) l → All (λ i. i < n) (j ∷ l)
all_cons n j l a h = λ k d lt. by k d lt
  where
    by : (k d : ℕ) → k < suc (length l) → get_or (j ∷ l) k d < n
    by zero d lt = a
    by (suc k) d lt = h k d (omega (arith, lt))

-- sums whose trees agree are one
pub agreeing_moved : (f : Tree ℕ → Tree ℕ) (t : ℕ → Tree ℕ) (l : List (ℕ × Tree ℕ)) (ps : List ℕ) → map f (trees_in l) ≡ map t ps → moved f l ≡ moved t (zip (numbers_in l) ps)
agreeing_moved f t [] ps e = refl
agreeing_moved f t (x ∷ l) [] e = absurd (cc e)
agreeing_moved f t (x ∷ l) (p ∷ ps) e =
    let here : f x.1 ≡ t p = cc e in
    let rest : map f (trees_in l) ≡ map t ps = cc e in
    ap₂ (λ u v. u ∷ v) (ap (λ y. (x.0, y)) here) (agreeing_moved f t l ps rest)

pub agreeing_length : (f : Tree ℕ → Tree ℕ) (t : ℕ → Tree ℕ) (l : List (ℕ × Tree ℕ)) (ps : List ℕ) → map f (trees_in l) ≡ map t ps → length (numbers_in l) ≡ length ps
agreeing_length f t [] [] e = refl
agreeing_length f t [] (p ∷ ps) e = absurd (cc e)
agreeing_length f t (x ∷ l) [] e = absurd (cc e)
agreeing_length f t (x ∷ l) (p ∷ ps) e = let rest : map f (trees_in l) ≡ map t ps = cc e in ap suc (agreeing_length f t l ps rest)

pub agreeing_residues : (q : ℕ) (l : List (ℕ × Tree ℕ)) (ps : List ℕ) → AreNonzeroResidues q l → AreNonzeroResidues q (zip (numbers_in l) ps)
agreeing_residues q [] ps h = tt
agreeing_residues q (x ∷ l) [] h = tt
agreeing_residues q (x ∷ l) (p ∷ ps) h = (h.0, h.1, agreeing_residues q l ps h.2)

module _ (compare : Tree ℕ → Tree ℕ → Ordering) (f : Tree ℕ → Tree ℕ) (t : ℕ → Tree ℕ) (n : ℕ)
    (lower : (p q : ℕ) → p < n → q < n → compare (t p) (t q) ≡ Less → p < q) where
  pub agreeing_falls : (P : Tree ℕ → Type 0) → ((x y : Tree ℕ) → P x → P y → compare (f x) (f y) ≡ compare x y) → (l : List (ℕ × Tree ℕ)) (ps : List ℕ) → AllTerms l P → All (λ i. i < n) ps
      → map f (trees_in l) ≡ map t ps → Falls compare l → Falls nat_cmp (zip (numbers_in l) ps)
  agreeing_falls P kept [] ps v w e h = tt
  agreeing_falls P kept (x ∷ l) [] v w e h = tt
  agreeing_falls P kept (x ∷ l) (p ∷ ps) v w e h =
      let here : f x.1 ≡ t p = cc e in
      let rest : map f (trees_in l) ≡ map t ps = cc e in
      let b = below_all n p ps w in (above l ps v.1 b.1 rest here b.0 h.0, agreeing_falls P kept l ps v.1 b.1 rest h.1)
    where
      above : (l : List (ℕ × Tree ℕ)) (ps : List ℕ) → AllTerms l P → All (λ i. i < n) ps → map f (trees_in l) ≡ map t ps → f x.1 ≡ t p → p < n → IsAbove compare x.1 l → IsAbove nat_cmp p (zip (numbers_in l) ps)
      above [] ps u w e here low h = tt
      above (y ∷ l) [] u w e here low h = tt
      above (y ∷ l) (r ∷ ps) u w e here low h =
          let next : f y.1 ≡ t r = cc e in
          let less : compare (t r) (t p) ≡ Less = ap₂ compare (sym next) (sym here) ∙ kept y.1 x.1 u.0 v.0 ∙ h in
          sym (nat_cmp_is r p Less (lower r p (below_all n r ps w).0 low less))

  pub agreeing_below : (host : ℕ) → host < n → (l : List (ℕ × Tree ℕ)) (ps : List ℕ) → All (λ i. i < n) ps → map f (trees_in l) ≡ map t ps
      → AllTerms (moved f l) (λ y. compare y (t host) ≡ Less) → AllTerms (zip (numbers_in l) ps) (λ p. p < host)
  agreeing_below host lt [] ps w e h = tt
  agreeing_below host lt (x ∷ l) [] w e h = tt
  agreeing_below host lt (x ∷ l) (p ∷ ps) w e h =
      let here : f x.1 ≡ t p = cc e in
      let rest : map f (trees_in l) ≡ map t ps = cc e in
      let b = below_all n p ps w in (
        lower p host b.0 lt (ap (λ y. compare y (t host)) (sym here) ∙ h.0),
        agreeing_below host lt l ps b.1 rest h.1,
      )
