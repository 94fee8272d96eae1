-- Generators whose inputs fall into parts, and signs.
use Rattle.std.specs.Prelude.{ℕ, ◌+◌, ◌≡◌, ◌<◌, ◌⊎◌, List, [], ◌∷◌}
use Rattle.std.proofs.Common.{zero, suc}

-- the inputs of a symmetric part may change places, those of a skew part change the sign, those of a free part stay
pub data Kind : Type 0 where
  symmetric : Kind
  skew : Kind
  free : Kind

-- A part: consecutive inputs of a generator. A generator is the list of its parts
-- (Bremner and Dotsenko 2016, generators with an action of the symmetric group; here of a product of such groups).
pub record Part : Type 0 where
  pub kind : Kind
  pub size : ℕ

-- how many inputs all parts have: the arity of the generator
abbrev pub total : List Part → ℕ
total [] = 0
total (p ∷ parts) = p.size + total parts

pub data Sign : Type 0 where
  plus : Sign
  minus : Sign

abbrev pub times : Sign → Sign → Sign
times plus s = s
times minus plus = minus
times minus minus = plus

-- the sign of so many changes of sign
abbrev pub sign_of : ℕ → Sign
sign_of zero = plus
sign_of (suc n) = times minus (sign_of n)

-- what it does to the sign where two neighbours in a part of this kind change places; in a free part they can't
abbrev pub Turns : Kind → Sign → Type 0
Turns symmetric s = s ≡ plus
Turns skew s = s ≡ minus
Turns free s = ⊥

-- inputs i and i + 1, counted from 0, belong to one symmetric or skew part; the sign is that of their exchange
abbrev pub InOnePart : List Part → ℕ → Sign → Type 0
InOnePart [] i s = ⊥
InOnePart (p ∷ parts) i s = ((suc i < p.size) × Turns p.kind s) ⊎ ((j : ℕ) × (i ≡ p.size + j) × InOnePart parts j s)

-- the parts of generator g of a list of generators; none where there is no such generator
abbrev pub parts_of : List (List Part) → ℕ → List Part
parts_of [] g = []
parts_of (p ∷ generators) zero = p
parts_of (p ∷ generators) (suc g) = parts_of generators g
