-- What a write does to the bytes that a sink has, where it tells them.
use Rattle.std.specs.Prelude.{ℕ, ◌≡◌, ◌<◌, ◌≤◌, List, ◌++◌, length, take, ⊤, Option, Some, None, Result, Ok, MatchResult, IfOk}

-- where the bytes are told afterwards they were told before, and grew by bs
abbrev pub Takes : Option (List ℕ) → Option (List ℕ) → List ℕ → Type 0
Takes old None bs = ⊤
Takes None (Some ys) bs = ⊥
Takes (Some xs) (Some ys) bs = ys ≡ xs ++ bs

-- at Ok(n) the first n bytes of the piece are taken, and at a refusal nothing changes
abbrev pub WriteTakes : {E : Type 0} → Option (List ℕ) → Option (List ℕ) → Result ℕ E → List ℕ → Type 0
WriteTakes old new result piece = MatchResult result (λ n. Takes old new (take n piece)) (λ _. new ≡ old)

-- at Ok(n) the n bytes are no more than the piece, and at least one unless it is empty
abbrev pub WritesSome : {E : Type 0} → Result ℕ E → List ℕ → Type 0
WritesSome result piece = IfOk result (λ n. (n ≤ length piece) × (0 < length piece → 0 < n))

-- an empty piece is answered by Ok(0), and neither the bytes nor the count of faults change
abbrev pub SkipsEmpty : {E : Type 0} → Option (List ℕ) → Option (List ℕ) → ℕ → ℕ → Result ℕ E → List ℕ → Type 0
SkipsEmpty old new before now result piece = length piece ≡ 0 → (result ≡ Ok 0) × (new ≡ old) × (now ≡ before)
