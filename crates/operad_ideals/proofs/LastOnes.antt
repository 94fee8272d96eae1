-- Facts of the things of a list, where one comes to the end or is taken from it.
use Rattle.std.proofs.Common.{◌≡◌, suc, List, [], ◌∷◌, ◌++◌, refl, ap, arith, ◌⊎◌, inl, inr}
use Rattle.std.specs.List.{AllByRecursion, AllPairs}
use Rattle.std.proofs.lemmas.List.Elements.{All-from_recursion, recursion_from_All}
use Rattle.std.proofs.lemmas.List.Kept.{AllPairs-cons}
use Rattle.operad_ideals.specs.Pairs.{Pairs}

module _ {X : Type 0} where
  pub each-push : (P : X → Type 0) (xs : List X) (y : X) → AllByRecursion P xs → P y → AllByRecursion P (xs ++ y ∷ [])
  each-push P [] y h k = (k, tt)
  each-push P (x ∷ xs) y h k = (h.0, each-push P xs y h.1 k)

  pub each-pop : (P : X → Type 0) (xs : List X) (y : X) → AllByRecursion P (xs ++ y ∷ []) → AllByRecursion P xs × P y
  each-pop P [] y h = (tt, h.0)
  each-pop P (x ∷ xs) y h = let k : AllByRecursion P xs × P y = each-pop P xs y h.1 in ((h.0, k.0), k.1)

  pub pairs-push : (R : X → X → Type 0) (xs : List X) (y : X) → Pairs R xs → AllByRecursion (λ x. R x y) xs → Pairs R (xs ++ y ∷ [])
  pairs-push R [] y h k = (tt, tt)
  pairs-push R (x ∷ xs) y h k = (each-push (R x) xs y h.0 k.0, pairs-push R xs y h.1 k.1)

  pub pairs-pop : (R : X → X → Type 0) (xs : List X) (y : X) → Pairs R (xs ++ y ∷ []) → Pairs R xs × AllByRecursion (λ x. R x y) xs
  pairs-pop R [] y h = (tt, tt)
  pairs-pop R (x ∷ xs) y h =
      let first : AllByRecursion (R x) xs × R x y = each-pop (R x) xs y h.0 in
      let rest : Pairs R xs × AllByRecursion (λ z. R z y) xs = pairs-pop R xs y h.1 in
      ((first.0, rest.0), (first.1, rest.1))

  pub last_one : (xs : List X) → (xs ≡ []) ⊎ ((front : List X) × (last : X) × (xs ≡ front ++ last ∷ []))
  last_one [] = inl refl
  last_one (x ∷ xs) = inr (go (last_one xs))
    where
      go : (xs ≡ []) ⊎ ((front : List X) × (last : X) × (xs ≡ front ++ last ∷ [])) → (front : List X) × (last : X) × (x ∷ xs ≡ front ++ last ∷ [])
      go (inl e) = ([], x, ap (λ ys. x ∷ ys) e)
      go (inr h) = (x ∷ h.0, h.1, ap (λ ys. x ∷ ys) h.2)

  -- between pairs of indices and pairs by recursion
  pub pairs_from_AllPairs : (R : X → X → Type 0) (xs : List X) → AllPairs R xs → Pairs R xs
  pairs_from_AllPairs R [] h = tt
  pairs_from_AllPairs R (x ∷ xs) h = (
    recursion_from_All (R x) xs (λ k d l. h 0 (suc k) d (omega arith) (omega (arith, l))),
    pairs_from_AllPairs R xs (λ i j d l m. h (suc i) (suc j) d (omega (arith, l)) (omega (arith, m))),
  )

  pub AllPairs-from_pairs : (R : X → X → Type 0) (xs : List X) → Pairs R xs → AllPairs R xs
  AllPairs-from_pairs R [] h = λ i j d l m. absurd (omega (arith, m))
  AllPairs-from_pairs R (x ∷ xs) h = AllPairs-cons R x xs (All-from_recursion (R x) xs h.0) (AllPairs-from_pairs R xs h.1)

  no_end : (ys : List X) (y : X) → [] ≡ ys ++ y ∷ [] → ⊥
  no_end [] y e = cc e
  no_end (b ∷ ys) y e = cc e

  -- a list has one last thing
  pub one_last : (xs ys : List X) (x y : X) → xs ++ x ∷ [] ≡ ys ++ y ∷ [] → x ≡ y
  one_last [] [] x y e = cc
  one_last [] (b ∷ ys) x y e = let k : [] ≡ ys ++ y ∷ [] = cc in absurd (no_end ys y k)
  one_last (a ∷ xs) [] x y e = let k : [] ≡ xs ++ x ∷ [] = cc in absurd (no_end xs x k)
  one_last (a ∷ xs) (b ∷ ys) x y e = let k : xs ++ x ∷ [] ≡ ys ++ y ∷ [] = cc in one_last xs ys x y k
