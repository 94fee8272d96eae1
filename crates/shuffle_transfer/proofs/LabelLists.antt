-- Lists with an entry for each label, put together generator by generator.
use Rattle.std.proofs.Common.{◌≡◌, ℕ, zero, suc, ◌+◌, ◌*◌, ◌-◌, ◌≤◌, List, [], ◌∷◌, ◌++◌, length, map, replicate, slice_index, refl, sym, ap, ap₂, ◌∙◌, arith, subst, length-append}
use Rattle.std.specs.List.{All, AllByRecursion}
use Rattle.std.proofs.Math.ListN.{length-map}
use Rattle.std.proofs.Math.Nat.{mul_comm, mul-le-mul, mul-le-mul_left}
use Rattle.std.proofs.lemmas.List.{map-append}
use Rattle.std.proofs.lemmas.List.Elements.{All-nil, All-append, All-replicate}
use Rattle.operad_ideals.specs.Parts.{Kind, symmetric, skew, free, Part, total, parts_of}
use Rattle.operad_ideals.specs.Laws.{arity}
use Rattle.shuffle_insertions.specs.Counting.{factorial}
use Rattle.shuffle_insertions.specs.Listing.{upto}
use Rattle.shuffle_insertions.proofs.Counting.{length-upto}
use Rattle.shuffle_insertions.proofs.Upto.{upto_rises}
use Rattle.shuffle_transfer.specs.Orderings.{orderings}
use Rattle.shuffle_transfer.specs.Labels.{words_of, parts_rise, Letter, letters, letter_at, labels, gen, inputs_of}
use Rattle.shuffle_transfer.specs.LabelCounts.{kind_orders, part_orders}
use Rattle.shuffle_transfer.proofs.Labels.{lettered}
use Rattle.shuffle_transfer.proofs.WordCounts.{words_counted, length_rising, counted}

-- the entries of a list of pairs of an entry and a number
abbrev firsts : List (ℕ × ℕ) → List ℕ
firsts = map (λ kind. kind.0)

-- the arity of a generator is the entry beside it
arity_at : (gens : List (List Part)) (g : ℕ) → slice_index (map total gens) g ≡ arity (parts_of gens) g
arity_at [] g = refl
arity_at (ps ∷ gens) zero = refl
arity_at (ps ∷ gens) (suc g) = arity_at gens g

past_firsts : (xs : List ℕ) → slice_index xs (length xs) ≡ 0
past_firsts [] = refl
past_firsts (x ∷ xs) = past_firsts xs

entry_at : (f : ℕ → ℕ) (d : Letter) → f d.gen ≡ 0 → (xs : List Letter) (l : ℕ) → slice_index (map (λ (x : Letter). f x.gen) xs) l ≡ f (letter_at d l xs).gen
entry_at f d z [] l = sym z
entry_at f d z (x ∷ xs) zero = refl
entry_at f d z (x ∷ xs) (suc l) = entry_at f d z xs l

as_many : (s a : ℕ) (f : ℕ → ℕ) (ws : List (List ℕ)) → f s ≡ a → replicate (length ws) a ≡ map (λ (x : Letter). f x.gen) (map (lettered s) ws)
as_many s a f [] h = refl
as_many s a f (w ∷ ws) h = ap₂ (λ x xs. x ∷ xs) (sym h) (as_many s a f ws h)

-- a list with so many copies of the entry of each pair, pair by pair
module _ (copies : List (ℕ × ℕ) → List ℕ) (none : copies [] ≡ []) (more : (kind : ℕ × ℕ) (kinds : List (ℕ × ℕ)) → copies (kind ∷ kinds) ≡ replicate kind.1 kind.0 ++ copies kinds) where
  -- the copies, pair by pair, are the entries of the letters' generators
  copies_letters : (s : ℕ) (f : ℕ → ℕ) (gens : List (List Part)) (kinds : List (ℕ × ℕ)) → map (λ kind. kind.1) kinds ≡ map (λ ps. length (words_of ps)) gens
      → ((i : ℕ) → f (s + i) ≡ slice_index (firsts kinds) i) → copies kinds ≡ map (λ (x : Letter). f x.gen) (letters s gens)
  copies_letters s f [] [] e h = none
  copies_letters s f [] (kind ∷ kinds) e h = absurd cc
  copies_letters s f (ps ∷ gens) [] e h = absurd cc
  copies_letters s f (ps ∷ gens) (kind ∷ kinds) e h =
      let own : kind.1 ≡ length (words_of ps) = cc in
      let others : map (λ k. k.1) kinds ≡ map (λ qs. length (words_of qs)) gens = cc in
      let z : s ≡ s + 0 = omega arith in
      more kind kinds
      ∙ ap₂ (λ xs ys. xs ++ ys)
      (ap (λ n. replicate n kind.0) own ∙ as_many s kind.0 f (words_of ps) (ap f z ∙ h 0))
      (copies_letters (suc s) f gens kinds others (λ i. let n : suc s + i ≡ s + suc i = omega arith in ap f n ∙ h (suc i)))
      ∙ sym (map-append (λ (x : Letter). f x.gen) (map (lettered s) (words_of ps)) (letters (suc s) gens))

  -- what holds of each entry holds of each copy
  pub each_copy : (P : ℕ → Type 0) (kinds : List (ℕ × ℕ)) → AllByRecursion P (firsts kinds) → All P (copies kinds)
  each_copy P [] h = subst (All P) (sym none) (All-nil P)
  each_copy P (kind ∷ kinds) h = subst (All P) (sym (more kind kinds)) (All-append P (replicate kind.1 kind.0) (copies kinds) (All-replicate P kind.1 kind.0 h.0) (each_copy P kinds h.1))

  module _ (gens : List (List Part)) (kinds : List (ℕ × ℕ)) (counts : map (λ kind. kind.1) kinds ≡ map (λ ps. length (words_of ps)) gens) where
    all_copies : copies kinds ≡ map (λ (x : Letter). slice_index (firsts kinds) x.gen) (letters 0 gens)
    all_copies = copies_letters 0 (slice_index (firsts kinds)) gens kinds counts (λ i. let z : 0 + i ≡ i = omega arith in ap (slice_index (firsts kinds)) z)

    -- where each generator has as many copies as words, there are as many as labels
    pub copies_are_labels : length (copies kinds) ≡ labels gens
    copies_are_labels = ap length all_copies ∙ length-map (letters 0 gens) (λ (x : Letter). slice_index (firsts kinds) x.gen)

    same_length : length (firsts kinds) ≡ length gens
    same_length = length-map kinds (λ k. k.0) ∙ sym (length-map kinds (λ k. k.1)) ∙ ap length counts ∙ length-map gens (λ ps. length (words_of ps))

    -- and the entry of a label is that of its generator
    pub copy_of_label : (l : ℕ) → slice_index (copies kinds) l ≡ slice_index (firsts kinds) (gen gens l)
    copy_of_label l =
        ap (λ xs. slice_index xs l) all_copies
        ∙ entry_at (slice_index (firsts kinds)) (lettered (length gens) []) (ap (slice_index (firsts kinds)) (sym same_length) ∙ past_firsts (firsts kinds)) (letters 0 gens) l

    -- which is its number of inputs, where the entries are the arities
    pub arity_of_label : firsts kinds ≡ map total gens → (l : ℕ) → slice_index (copies kinds) l ≡ inputs_of gens l
    arity_of_label arities l = copy_of_label l ∙ ap (λ xs. slice_index xs (gen gens l)) arities ∙ arity_at gens (gen gens l)

-- ---- there are few labels

factorial_rises : (n k : ℕ) → factorial n ≤ factorial (n + k)
factorial_rises n zero = let e : n + 0 ≡ n = omega arith in omega (arith, ap factorial e)
factorial_rises n (suc k) =
    let e : n + suc k ≡ suc (n + k) = omega arith in
    let q : factorial (n + suc k) ≡ suc (n + k) * factorial (n + k) = ap factorial e in
    omega (arith, q, factorial_rises n k)

pub factorial_least : (n : ℕ) → 1 ≤ factorial n
factorial_least n = let z : 0 + n ≡ n = omega arith in let k = factorial_rises 0 n in omega (arith, k, ap factorial z)

pub factorial_most : (n : ℕ) → n ≤ 6 → factorial n ≤ 720
factorial_most n h = let e : n + (6 - n) ≡ 6 = omega (arith, h) in let k = factorial_rises n (6 - n) in let q : factorial (n + (6 - n)) ≡ 720 = ap factorial e in omega (arith, k, q)

pub kind_orders_least : (kind : Kind) (n : ℕ) → 1 ≤ kind_orders kind n
kind_orders_least symmetric n = factorial_least n
kind_orders_least skew n = factorial_least n
kind_orders_least free n = omega arith

part_orders_least : (ps : List Part) → 1 ≤ part_orders ps
part_orders_least [] = omega arith
part_orders_least (p ∷ ps) = mul-le-mul {n₁ = 1} {m₁ = 1} {n₂ = kind_orders p.kind p.size} {m₂ = part_orders ps} (kind_orders_least p.kind p.size) (part_orders_least ps)

-- a generator of k inputs has k! words divided by the factorials of the sizes of its symmetric and skew parts
pub words_divide : (ps : List Part) → length (words_of ps) * part_orders ps ≡ factorial (total ps)
words_divide ps =
    let n : length (words_of ps) ≡ counted (parts_rise ps) (orderings (total ps)) = length_rising ps (orderings (total ps)) in
    let e = words_counted ps (upto (total ps)) (upto_rises (total ps)) (length-upto (total ps)) in
    mul_comm (length (words_of ps)) (part_orders ps) ∙ ap (λ m. part_orders ps * m) n ∙ e

pub words_most : (ps : List Part) → total ps ≤ 6 → length (words_of ps) ≤ 720
words_most ps h =
    let few = mul-le-mul_left {m = 1} {n = part_orders ps} (length (words_of ps)) (part_orders_least ps) in
    omega (arith, few, words_divide ps, factorial_most (total ps) h)

letters_most : (s : ℕ) (gens : List (List Part)) → AllByRecursion (λ ps. total ps ≤ 6) gens → length (letters s gens) ≤ length gens * 720
letters_most s [] h = omega arith
letters_most s (ps ∷ gens) h =
    let n = length-append (map (lettered s) (words_of ps)) (letters (suc s) gens) in
    let m = length-map (words_of ps) (lettered s) in
    let e : suc (length gens) * 720 ≡ 720 + length gens * 720 = omega arith in
    omega (arith, n, m, e, words_most ps h.0, letters_most (suc s) gens h.1)

-- generators of at most six inputs have at most 720 labels each
pub labels_most : (gens : List (List Part)) → AllByRecursion (λ ps. total ps ≤ 6) gens → labels gens ≤ length gens * 720
labels_most gens h = letters_most 0 gens h
