-- Lists that stand one after another in one list.
use Rattle.std.specs.Prelude.{slice_range}
use Rattle.std.proofs.Common.{◌≡◌, ℕ, zero, suc, ◌+◌, ◌-◌, ◌<◌, ◌≤◌, List, [], ◌∷◌, length, take, drop, get_or, refl, ap, sym, ◌∙◌, subst, arith, length-append}
use mathlib.Core.List.{◌++◌}
use mathlib.Core.Path.{ap₂}
use Rattle.path_orders.specs.Joined.{parts, start_of, AreEnds}

pub length-parts : (a : ℕ) (ends numbers : List ℕ) → length (parts a ends numbers) ≡ length ends
length-parts a [] numbers = refl
length-parts a (e ∷ ends) numbers = ap suc (length-parts e ends numbers)

-- ---- what lies within the first of two lists

take_front : {X : Type 0} (n : ℕ) (xs ys : List X) → n ≤ length xs → take n (xs ++ ys) ≡ take n xs
take_front zero xs ys h = refl
take_front (suc n) [] ys h = absurd (omega (arith, h))
take_front (suc n) (x ∷ xs) ys h = ap (λ l. x ∷ l) (take_front n xs ys (omega (arith, h)))

within_front : {X : Type 0} (a n : ℕ) (xs ys : List X) → a + n ≤ length xs → take n (drop a (xs ++ ys)) ≡ take n (drop a xs)
within_front zero n xs ys h = take_front n xs ys (omega (arith, h))
within_front (suc a) n [] ys h = absurd (omega (arith, h))
within_front (suc a) n (x ∷ xs) ys h = within_front a n xs ys (omega (arith, h))

take_whole : {X : Type 0} (n : ℕ) (xs : List X) → n ≡ length xs → take n xs ≡ xs
take_whole zero [] e = refl
take_whole zero (x ∷ xs) e = absurd (omega (arith, e))
take_whole (suc n) [] e = absurd (omega (arith, e))
take_whole (suc n) (x ∷ xs) e = ap (λ l. x ∷ l) (take_whole n xs (omega (arith, e)))

behind : {X : Type 0} (a n : ℕ) (xs ys : List X) → a ≡ length xs → n ≡ length ys → take n (drop a (xs ++ ys)) ≡ ys
behind zero n [] ys e h = take_whole n ys h
behind zero n (x ∷ xs) ys e h = absurd (omega (arith, e))
behind (suc a) n [] ys e h = absurd (omega (arith, e))
behind (suc a) n (x ∷ xs) ys e h = behind a n xs ys (omega (arith, e)) h

-- ---- ends

pub ends_within : (a n : ℕ) (ends : List ℕ) → AreEnds a ends n → a ≤ n
ends_within a n [] h = omega (arith, h)
ends_within a n (e ∷ ends) h = let rest = ends_within e n ends h.1 in let first = h.0 in omega (arith, rest, first)

pub ends_push : (a n m : ℕ) (ends : List ℕ) → AreEnds a ends n → n ≤ m → AreEnds a (ends ++ (m ∷ [])) m
ends_push a n m [] h le = (omega (arith, h, le), refl)
ends_push a n m (e ∷ ends) h le = (h.0, ends_push e n m ends h.1 le)

-- one more list
pub parts_push : (a m : ℕ) (ends xs ys : List ℕ) → AreEnds a ends (length xs) → m ≡ length xs + length ys → parts a (ends ++ (m ∷ [])) (xs ++ ys) ≡ parts a ends xs ++ (ys ∷ [])
parts_push a m [] xs ys h e = ap (λ l. l ∷ []) (behind a (m - a) xs ys h (omega (arith, h, e)))
parts_push a m (end ∷ ends) xs ys h e =
    let far = ends_within end (length xs) ends h.1 in
    let first = h.0 in
    ap₂ (λ l ls. l ∷ ls) (within_front a (end - a) xs ys (omega (arith, far, first))) (parts_push end m ends xs ys h.1 e)

-- ---- the list at a place

pub starts_before : (a n : ℕ) (ends : List ℕ) (k : ℕ) → AreEnds a ends n → k < length ends → (start_of a ends k ≤ get_or ends k 0) × (get_or ends k 0 ≤ n)
starts_before a n [] k h lt = absurd (omega (arith, lt))
starts_before a n (e ∷ ends) zero h lt = (h.0, ends_within e n ends h.1)
starts_before a n (e ∷ ends) (suc zero) h lt = starts_before e n ends zero h.1 (omega (arith, lt))
starts_before a n (e ∷ ends) (suc (suc k)) h lt = starts_before e n ends (suc k) h.1 (omega (arith, lt))

pub part_at : (a : ℕ) (ends numbers : List ℕ) (k : ℕ) → k < length ends → get_or (parts a ends numbers) k [] ≡ slice_range numbers (start_of a ends k) (get_or ends k 0)
part_at a [] numbers k lt = absurd (omega (arith, lt))
part_at a (e ∷ ends) numbers zero lt = refl
part_at a (e ∷ ends) numbers (suc zero) lt = part_at e ends numbers zero (omega (arith, lt))
part_at a (e ∷ ends) numbers (suc (suc k)) lt = part_at e ends numbers (suc k) (omega (arith, lt))

-- ends and numbers with one more list
pub pushed : (ends numbers ends_now numbers_now ys : List ℕ) (m : ℕ) → AreEnds 0 ends (length numbers) → ends_now ≡ ends ++ (m ∷ []) → numbers_now ≡ numbers ++ ys → m ≡ length numbers_now
    → AreEnds 0 ends_now (length numbers_now) × (parts 0 ends_now numbers_now ≡ parts 0 ends numbers ++ (ys ∷ []))
pushed ends numbers ends_now numbers_now ys m h e f last =
    let size : m ≡ length numbers + length ys = last ∙ ap length f ∙ length-append numbers ys in
    let rises : AreEnds 0 (ends ++ (m ∷ [])) m = ends_push 0 (length numbers) m ends h (omega (arith, size)) in (
      subst (AreEnds 0 ends_now) last (subst (λ k. AreEnds 0 k m) (sym e) rises),
      ap₂ (parts 0) e f ∙ parts_push 0 m ends numbers ys h size,
    )
