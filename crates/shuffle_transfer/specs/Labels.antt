-- Shuffle labels: the words of generators, numbered.
use Rattle.std.specs.Prelude.{ℕ, ◌≡◌, List, [], ◌∷◌, ◌++◌, map, length, take, drop, nat_lt}
use Rattle.std.proofs.Common.{zero, suc, refl, ap, Bool, true, false, cond}
use mathlib.Core.Path.{ap₂}
use native.Mathlib.Decide.{ℕ_discrete}
use Rattle.operad_ideals.specs.Parts.{Kind, symmetric, skew, free, Part, total, parts_of}
use Rattle.operad_ideals.specs.Sorting.{sort_parts}
use Rattle.operad_ideals.specs.Laws.{arity}
use Rattle.labelled_trees.specs.Trees.{Tree}
use Rattle.shuffle_transfer.specs.Orderings.{orderings}
use Rattle.shuffle_transfer.specs.ShuffleForms.{form, to_symmetric}

-- whether each number is below the next one
abbrev pub rises : List ℕ → Bool
rises [] = true
rises (x ∷ []) = true
rises (x ∷ (y ∷ w)) = cond (nat_lt x y) (rises (y ∷ w)) false

-- whether a part of this kind lets the numbers stand so
abbrev pub part_rises : Kind → List ℕ → Bool
part_rises symmetric w = rises w
part_rises skew w = rises w
part_rises free w = true

-- Whether a word rises within each symmetric and each skew part.
abbrev pub parts_rise : List Part → List ℕ → Bool
parts_rise [] w = true
parts_rise (p ∷ ps) w = cond (part_rises p.kind (take p.size w)) (parts_rise ps (drop p.size w)) false

-- those of the words that rise within the parts
abbrev pub rising_words : List Part → List (List ℕ) → List (List ℕ)
rising_words ps [] = []
rising_words ps (w ∷ ws) = cond (parts_rise ps w) (w ∷ rising_words ps ws) (rising_words ps ws)

-- The words of a generator with these parts: the permutations of 1 to its arity that rise within each symmetric and each
-- skew part, in lexicographic order.
abbrev pub words_of : List Part → List (List ℕ)
words_of ps = rising_words ps (orderings (total ps))

-- a generator's number and a word
pub record Letter : Type 0 where
  pub gen : ℕ
  pub word : List ℕ

-- whether two words are one, where it is known of their first numbers and of the others
unfoldable pub same_cons : (x y : ℕ) (v w : List ℕ) → Dec (x ≡ y) → Dec (v ≡ w) → Dec (x ∷ v ≡ y ∷ w)
same_cons x y v w (yes e) (yes f) = yes (ap₂ (λ a b. a ∷ b) e f)
same_cons x y v w (no e) d = no (λ p. e (cc p))
same_cons x y v w (yes e) (no f) = no (λ p. f (cc p))

-- whether two words are one
unfoldable pub word_discrete : (v w : List ℕ) → Dec (v ≡ w)
unfolding same_cons
word_discrete [] [] = yes refl
word_discrete [] (y ∷ w) = no (λ e. cc e)
word_discrete (x ∷ v) [] = no (λ e. cc e)
word_discrete (x ∷ v) (y ∷ w) = same_cons x y v w (ℕ_discrete x y) (word_discrete v w)

-- whether two letters are one, where it is known of their generators and of their words
unfoldable pub same_letter : (x y : Letter) → Dec (x.gen ≡ y.gen) → Dec (x.word ≡ y.word) → Dec (x ≡ y)
same_letter x y (yes e) (yes f) = yes (ap₂ (λ g w. record { gen = g; word = w }) e f)
same_letter x y (no e) d = no (λ p. e (ap (λ z. z.gen) p))
same_letter x y (yes e) (no f) = no (λ p. f (ap (λ z. z.word) p))

-- whether two letters are one
unfoldable pub letter_discrete : (x y : Letter) → Dec (x ≡ y)
unfolding same_letter
letter_discrete x y = same_letter x y (ℕ_discrete x.gen y.gen) (word_discrete x.word y.word)

-- The letters of generators of which the first has number g: the generators in their order, and of each its words.
abbrev pub letters : ℕ → List (List Part) → List Letter
letters g [] = []
letters g (ps ∷ generators) = map (λ w. record { gen = g; word = w }) (words_of ps) ++ letters (suc g) generators

-- 0 where a decided fact holds, else n
abbrev pub zero_if : {A : Type 0} → Dec A → ℕ → ℕ
zero_if (yes _) n = 0
zero_if (no _) n = n

-- the place of a letter in a list, counted from 0
abbrev pub place_of : Letter → List Letter → ℕ
place_of x [] = 0
place_of x (y ∷ l) = zero_if (letter_discrete y x) (suc (place_of x l))

-- the letter at a place, or else the first one
abbrev pub letter_at : Letter → ℕ → List Letter → Letter
letter_at d i [] = d
letter_at d zero (x ∷ l) = x
letter_at d (suc i) (x ∷ l) = letter_at d i l

module _ (generators : List (List Part)) where
  -- Labels are the places of the letters of a list of generators, counted from 0; there are so many.
  abbrev pub labels : ℕ
  labels = length (letters 0 generators)

  -- the label of generator g with a word: that of its sorted spelling, where the word doesn't rise in each part
  abbrev pub label : ℕ → List ℕ → ℕ
  label g w = place_of (record { gen = g; word = sort_parts (λ n. n) (parts_of generators g) w }) (letters 0 generators)

  -- the letter of a label; no generator has the number that stands where there is no such label
  abbrev pub letter : ℕ → Letter
  letter l = letter_at (record { gen = length generators; word = [] }) l (letters 0 generators)

  -- the generator and the word of a label
  abbrev pub gen : ℕ → ℕ
  gen l = (letter l).gen

  abbrev pub word : ℕ → List ℕ
  word l = (letter l).word

  -- how many inputs a label has: as many as its generator
  abbrev pub inputs_of : ℕ → ℕ
  inputs_of l = arity (parts_of generators) (gen l)

  -- The shuffle form of a tree over the generators, and the tree of a shuffle form.
  abbrev pub shuffle_form : Tree ℕ → Tree ℕ
  shuffle_form = form label

  abbrev pub symmetric_tree : Tree ℕ → Tree ℕ
  symmetric_tree = to_symmetric gen word
