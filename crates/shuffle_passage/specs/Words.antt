-- Words of generators, counted and numbered without a list of them.
use Rattle.std.specs.Prelude.{ℕ, ◌-◌, ◌+◌, List, [], ◌∷◌, ◌++◌, length, replicate, nat_lt, count_by}
use Rattle.std.proofs.Common.{zero, suc, Bool, true, false, cond, get_or}
use Rattle.operad_ideals.specs.Parts.{Kind, symmetric, skew, free, Part}

-- whether the numbers of a part of this kind rise
abbrev pub is_rising : Kind → Bool
is_rising symmetric = true
is_rising skew = true
is_rising free = false

-- for each place of a part, whether its number must be above the one before it
abbrev pub part_bounds : Kind → ℕ → List Bool
part_bounds kind zero = []
part_bounds kind (suc n) = false ∷ replicate n (is_rising kind)

-- for each place of a generator, whether its number must be above the one before it
abbrev pub bounds_of : List Part → List Bool
bounds_of [] = []
bounds_of (p ∷ ps) = part_bounds p.kind p.size ++ bounds_of ps

-- the first of the numbers left that may stand at a place, where so many of them are below the last number
abbrev pub first_place : Bool → ℕ → ℕ
first_place bound below = cond bound below 0

-- the sum of so many values of f, from f a on
abbrev pub sum_from : (ℕ → ℕ) → ℕ → ℕ → ℕ
sum_from f a zero = 0
sum_from f a (suc n) = f a + sum_from f (suc a) n

-- in how many ways a word is ended, where so many of the numbers left are below the last number
abbrev pub endings : List Bool → ℕ → ℕ
endings [] below = 1
endings (b ∷ bs) below = sum_from (endings bs) (first_place b below) (suc (length bs) - first_place b below)

-- for each number, how many of those after it are smaller: its place among the numbers that were left
abbrev pub digits : List ℕ → List ℕ
digits [] = []
digits (k ∷ ks) = count_by (λ m. nat_lt m k) ks ∷ digits ks

-- how many words stand before the one with these digits, in lexicographic order
abbrev pub word_number : List Bool → ℕ → List ℕ → ℕ
word_number [] below ds = 0
word_number (b ∷ bs) below [] = 0
word_number (b ∷ bs) below (d ∷ ds) = sum_from (endings bs) (first_place b below) (d - first_place b below) + word_number bs d ds

-- a place, and what is left of a number
pub record FoundPlace : Type 0 where
  pub at : ℕ
  pub over : ℕ

-- the first place from `a` on whose endings, with those of the places before it, are more than n
abbrev pub find_place : (ℕ → ℕ) → ℕ → ℕ → ℕ → FoundPlace
find_place f a n zero = record { at = a; over = n }
find_place f a n (suc k) = cond (nat_lt n (f a)) (record { at = a; over = n }) (find_place f (suc a) (n - f a) k)

-- the digits of the word with the number n
abbrev pub digits_of : List Bool → ℕ → ℕ → List ℕ
digits_of [] below n = []
digits_of (b ∷ bs) below n =
    (find_place (endings bs) (first_place b below) n (suc (length bs) - first_place b below)).at
    ∷ digits_of bs (find_place (endings bs) (first_place b below) n (suc (length bs) - first_place b below)).at
    (find_place (endings bs) (first_place b below) n (suc (length bs) - first_place b below)).over

-- the list without the entry at a place
abbrev pub without : {X : Type 0} → List X → ℕ → List X
without [] i = []
without (x ∷ l) zero = l
without (x ∷ l) (suc i) = x ∷ without l i

-- the entries that the digits choose, each among those that are left
abbrev pub chosen : {X : Type 0} → X → List X → List ℕ → List X
chosen e l [] = []
chosen e l (d ∷ ds) = get_or l d e ∷ chosen e (without l d) ds

-- the label of the first word of a generator
abbrev pub first_label : List (List Part) → ℕ → ℕ
first_label [] g = 0
first_label (ps ∷ generators) zero = 0
first_label (ps ∷ generators) (suc g) = endings (bounds_of ps) 0 + first_label generators g
