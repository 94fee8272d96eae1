-- More levels than there are numbers give no more free trees.
use Rattle.std.proofs.Common.{◌≡◌, ℕ, zero, suc, ◌+◌, ◌<◌, ◌≤◌, List, [], ◌∷◌, length, map, refl, sym, ◌∙◌, ap, arith}
use mathlib.Core.List.{◌++◌}
use mathlib.Core.Path.{ap₂}
use native.Mathlib.Decide.{dec_lt}
use Rattle.std.specs.List.{filter}
use Rattle.labelled_trees.specs.Trees.{Tree, node}
use Rattle.shuffle_insertions.specs.Labels.{AreLabels}
use Rattle.shuffle_insertions.specs.Listing.{joined_below, joined_splits, each_with_each, rows, lone}
use Rattle.shuffle_bases.specs.Elements.{Setting}
use Rattle.shuffle_normal_forms.specs.FreeTreeLists.{undivided, free_on, LevelsSuffice}

each_with_none : {X : Type 0} (ts : List (Tree X)) → each_with_each ts [] ≡ []
each_with_none [] = refl
each_with_none (t ∷ ts) = each_with_none ts

splits_agree : {X : Type 0} (l : List ℕ) (f g : List ℕ → List ℕ → List X) → ((b c : List ℕ) → length b + length c ≡ length l → f b c ≡ g b c) → joined_splits l f ≡ joined_splits l g
splits_agree [] f g h = h [] [] (omega arith)
splits_agree (x ∷ l) f g h =
    ap₂ (λ k m. k ++ m)
    (splits_agree l (λ b c. f (x ∷ b) c) (λ b c. g (x ∷ b) c) (λ b c e. h (x ∷ b) c (omega (arith, e))))
    (splits_agree l (λ b c. f b (x ∷ c)) (λ b c. g b (x ∷ c)) (λ b c e. h b (x ∷ c) (omega (arith, e))))

below_agree : {X : Type 0} (b : ℕ) (f g : ℕ → List X) → ((i : ℕ) → i < b → f i ≡ g i) → joined_below b f ≡ joined_below b g
below_agree zero f g h = refl
below_agree (suc b) f g h = ap₂ (λ k m. k ++ m) (below_agree b f g (λ i lt. h i (omega arith))) (h b (omega arith))

module _ (n : ℕ) (f g : List ℕ → List (Tree ℕ)) (agree : (m : List ℕ) → length m ≤ n → f m ≡ g m) where
  rows_agree : (k : ℕ) (l : List ℕ) → length l ≤ n → rows f k l ≡ rows g k l
  rows_agree zero [] h = refl
  rows_agree zero (a ∷ l) h = refl
  rows_agree (suc k) [] h = refl
  rows_agree (suc k) (a ∷ l) h =
      splits_agree l (λ b c. each_with_each (f (a ∷ b)) (rows f k c)) (λ b c. each_with_each (g (a ∷ b)) (rows g k c))
      (λ b c e. ap₂ each_with_each (agree (a ∷ b) (omega (arith, e, h))) (rows_agree k c (omega (arith, e, h))))

  -- with two or more inputs, each has fewer numbers
  one_split : (k a : ℕ) (b c : List ℕ) → length b + length c ≤ n → each_with_each (f (a ∷ b)) (rows f (suc k) c) ≡ each_with_each (g (a ∷ b)) (rows g (suc k) c)
  one_split k a b [] h = each_with_none (f (a ∷ b)) ∙ sym (each_with_none (g (a ∷ b)))
  one_split k a b (x ∷ c) h = ap₂ each_with_each (agree (a ∷ b) (omega (arith, h))) (rows_agree (suc k) (x ∷ c) (omega (arith, h)))

  wide_agree : (k : ℕ) (l : List ℕ) → 2 ≤ k → length l ≤ suc n → rows f k l ≡ rows g k l
  wide_agree zero l w h = absurd (omega (arith, w))
  wide_agree (suc zero) l w h = absurd (omega (arith, w))
  wide_agree (suc (suc k)) [] w h = refl
  wide_agree (suc (suc k)) (a ∷ l) w h =
      splits_agree l (λ b c. each_with_each (f (a ∷ b)) (rows f (suc k) c)) (λ b c. each_with_each (g (a ∷ b)) (rows g (suc k) c))
      (λ b c e. one_split k a b c (omega (arith, e, h)))

no_rows : (f : List ℕ → List (Tree ℕ)) (k : ℕ) → 2 ≤ k → rows f k [] ≡ []
no_rows f zero w = absurd (omega (arith, w))
no_rows f (suc k) w = refl

none_joined : (b : ℕ) → joined_below {X = Tree ℕ} b (λ i. []) ≡ []
none_joined zero = refl
none_joined (suc b) = ap (λ m. m ++ []) (none_joined b)

no_numbers : (l : List ℕ) → length l ≤ 0 → l ≡ []
no_numbers [] h = refl
no_numbers (x ∷ l) h = absurd (omega (arith, h))

module _ (labels : ℕ) (s : Setting) (are : AreLabels labels s.arity) where
  no_trees : (d : ℕ) → free_on labels s (suc d) [] ≡ []
  no_trees d =
      below_agree labels (λ g. filter (undivided s.elements) (map (λ r. node g r) (rows (free_on labels s d) (s.arity g) []))) (λ g. [])
      (λ g lt. ap (λ rs. filter (undivided s.elements) (map (λ r. node g r) rs)) (no_rows (free_on labels s d) (s.arity g) (are.wide g lt)))
      ∙ none_joined labels

  one_more : (d : ℕ) (l : List ℕ) → length l ≤ d → free_on labels s (suc d) l ≡ free_on labels s d l
  one_more zero l h = let e = no_numbers l h in ap (free_on labels s 1) e ∙ no_trees 0
  one_more (suc d) l h =
      ap (λ m. lone l ++ m)
      (below_agree labels (λ g. filter (undivided s.elements) (map (λ r. node g r) (rows (free_on labels s (suc d)) (s.arity g) l)))
      (λ g. filter (undivided s.elements) (map (λ r. node g r) (rows (free_on labels s d) (s.arity g) l)))
      (λ g lt. ap (λ rs. filter (undivided s.elements) (map (λ r. node g r) rs))
      (wide_agree d (free_on labels s (suc d)) (free_on labels s d) (one_more d) (s.arity g) l (are.wide g lt) h)))

  same_or_more : (d : ℕ) (l : List ℕ) → length l ≤ suc d → Dec (d < length l) → (length l ≤ d → free_on labels s d l ≡ free_on labels s (length l) l)
      → free_on labels s (suc d) l ≡ free_on labels s (length l) l
  same_or_more d l h (yes lt) ih = let e : suc d ≡ length l = omega (arith, h, lt) in ap (λ k. free_on labels s k l) e
  same_or_more d l h (no ge) ih = let le : length l ≤ d = omega (arith, ge) in one_more d l le ∙ ih le

  suffice : (d : ℕ) (l : List ℕ) → length l ≤ d → free_on labels s d l ≡ free_on labels s (length l) l
  suffice zero l h = let e : 0 ≡ length l = omega (arith, h) in ap (λ k. free_on labels s k l) e
  suffice (suc d) l h = same_or_more d l h (dec_lt d (length l)) (suffice d l)

pub levels_suffice : LevelsSuffice
levels_suffice labels s are d l h = suffice labels s are d l h
