-- Labels stand one to one for the generators with their words.
use Rattle.std.proofs.Common.{◌≡◌, ◌⊎◌, inl, inr, ⊎_elim, ℕ, zero, suc, ◌+◌, ◌<◌, ◌≤◌, List, [], ◌∷◌, map, length, refl, sym, ap, ◌∙◌, subst, arith}
use Rattle.std.specs.declared.cmp.Ordering.TheVariants.{Less}
use Rattle.std.specs.Ordering.{nat_cmp}
use Rattle.std.specs.Cmp.Lexicographic.{slice_cmp}
use Rattle.modular_sums.specs.Lists.{Mem, Distinct}
use Rattle.modular_sums.proofs.Lists.{mem_left, mem_right, mem_either, mem_map, mem_of_map, Distinct-append}
use Rattle.operad_ideals.specs.Parts.{Part, total, parts_of}
use Rattle.operad_ideals.specs.Sorting.{sort_parts}
use Rattle.operad_ideals.specs.Presentations.{Presentation, IsWide}
use Rattle.operad_ideals.specs.Laws.{arity}
use Rattle.operad_ideals.proofs.SortedLists.{tested}
use Rattle.shuffle_insertions.specs.Labels.{AreLabels}
use Rattle.shuffle_places.specs.PlaceOrder.{IsInOrder, AreRising}
use Rattle.shuffle_places.proofs.PlaceOrder.{in_order-append}
use Rattle.shuffle_transfer.specs.Orderings.{IsOrdering}
use Rattle.shuffle_transfer.specs.Labels.{words_of, Letter, letter_discrete, letters, zero_if, place_of, letter_at, labels, label, letter, gen, word, inputs_of}
use Rattle.shuffle_transfer.specs.Laws.{IsWordOf, LabelsAreWords}
use Rattle.shuffle_transfer.proofs.Orderings.{ascending_distinct}
use Rattle.shuffle_transfer.proofs.Ranks.{ordering_apart}
use Rattle.shuffle_transfer.proofs.Words.{parts_same, sorted_rises, sorted_ordering, words_ascend, mem_words, words_mem}

-- ---- the letters

abbrev pub lettered : ℕ → List ℕ → Letter
lettered g w = record { gen = g; word = w }

mem_letters : (g j : ℕ) (gens : List (List Part)) (w : List ℕ) → j < length gens → Mem w (words_of (parts_of gens j)) → (i : ℕ) → i ≡ g + j → Mem (lettered i w) (letters g gens)
mem_letters g j [] w p h i e = absurd (omega (arith, p))
mem_letters g zero (ps ∷ gens) w p h i e =
    let f : i ≡ g = omega (arith, e) in
    mem_left (lettered i w) (map (lettered g) (words_of ps)) (letters (suc g) gens) (subst (λ k. Mem (lettered k w) (map (lettered g) (words_of ps))) (sym f) (mem_map (lettered g) w (words_of ps) h))
mem_letters g (suc j) (ps ∷ gens) w p h i e =
    mem_right (lettered i w) (map (lettered g) (words_of ps)) (letters (suc g) gens) (mem_letters (suc g) j gens w (omega (arith, p)) h i (omega (arith, e)))

record Found (g : ℕ) (gens : List (List Part)) (x : Letter) : Type 0 where
  at : ℕ
  gen_is : x.gen ≡ g + at
  in_range : at < length gens
  in_words : Mem x.word (words_of (parts_of gens at))

letters_found : (g : ℕ) (gens : List (List Part)) (x : Letter) → Mem x (letters g gens) → Found g gens x
letters_found g [] x h = absurd h
letters_found g (ps ∷ gens) x h = go (mem_either x (map (lettered g) (words_of ps)) (letters (suc g) gens) h) (λ b. letters_found (suc g) gens x b)
  where
    go : Mem x (map (lettered g) (words_of ps)) ⊎ Mem x (letters (suc g) gens) → (Mem x (letters (suc g) gens) → Found (suc g) gens x) → Found g (ps ∷ gens) x
    go (inl a) ih =
        let k = mem_of_map (lettered g) x (words_of ps) a in
        let e : x.gen ≡ g = ap (λ z. z.gen) k.2 in
        record { at = 0; gen_is = omega (arith, e); in_range = omega arith; in_words = subst (λ w. Mem w (words_of ps)) (sym (ap (λ z. z.word) k.2)) k.1 }
    go (inr b) ih = let k = ih b in let e : x.gen ≡ suc g + k.at = k.gen_is in record { at = suc k.at; gen_is = omega (arith, e); in_range = let r = k.in_range in omega (arith, r); in_words = k.in_words }

distinct_lettered : (g : ℕ) (ws : List (List ℕ)) → Distinct ws → Distinct (map (lettered g) ws)
distinct_lettered g [] h = tt
distinct_lettered g (w ∷ ws) h = (
  λ m. let k = mem_of_map (lettered g) (lettered g w) ws m in h.0 (subst (λ v. Mem v ws) (sym (ap (λ z. z.word) k.2)) k.1),
  distinct_lettered g ws h.1,
)

distinct_letters : (g : ℕ) (gens : List (List Part)) → Distinct (letters g gens)
distinct_letters g [] = tt
distinct_letters g (ps ∷ gens) = Distinct-append (map (lettered g) (words_of ps)) (letters (suc g) gens)
    (distinct_lettered g (words_of ps) (ascending_distinct (words_of ps) (words_ascend ps)))
    (distinct_letters (suc g) gens)
    (λ x i j.
    let a = mem_of_map (lettered g) x (words_of ps) i in
    let e : x.gen ≡ g = ap (λ z. z.gen) a.2 in
    let b = letters_found (suc g) gens x j in let f : x.gen ≡ suc g + b.at = b.gen_is in absurd (omega (arith, e, f)))

-- the letters stand in order: by generators, and then by words
abbrev Before : Letter → Letter → Type 0
Before x y = (x.gen < y.gen) ⊎ ((x.gen ≡ y.gen) × (slice_cmp nat_cmp x.word y.word ≡ Less))

words_in_order : (g : ℕ) (ws : List (List ℕ)) → AreRising ws → IsInOrder Before (map (lettered g) ws)
words_in_order g [] h = tt
words_in_order g (w ∷ ws) h = (
  λ y m. let k = mem_of_map (lettered g) y ws m in
      inr (sym (ap (λ z. z.gen) k.2), ap (slice_cmp nat_cmp w) (ap (λ z. z.word) k.2) ∙ h.0 k.0 k.1),
  words_in_order g ws h.1,
)

letters_in_order : (g : ℕ) (gens : List (List Part)) → IsInOrder Before (letters g gens)
letters_in_order g [] = tt
letters_in_order g (ps ∷ gens) = in_order-append Before (map (lettered g) (words_of ps)) (letters (suc g) gens) (words_in_order g (words_of ps) (words_ascend ps)) (letters_in_order (suc g) gens)
    (λ x y i j.
    let a = mem_of_map (lettered g) x (words_of ps) i in
    let e : x.gen ≡ g = ap (λ z. z.gen) a.2 in
    let b = letters_found (suc g) gens y j in let f : y.gen ≡ suc g + b.at = b.gen_is in inl (omega (arith, e, f)))

-- ---- places in a list

at_place : (d x : Letter) (l : List Letter) → Mem x l → letter_at d (place_of x l) l ≡ x
at_place d x [] h = absurd h
at_place d x (y ∷ l) h = go (letter_discrete y x) h (λ k. at_place d x l k)
  where
    go : (c : Dec (y ≡ x)) → Mem x (y ∷ l) → (Mem x l → letter_at d (place_of x l) l ≡ x) → letter_at d (zero_if c (suc (place_of x l))) (y ∷ l) ≡ x
    go (yes e) k ih = e
    go (no f) (inl e) ih = absurd (f (sym e))
    go (no f) (inr k) ih = ih k

place_below : (x : Letter) (l : List Letter) → Mem x l → place_of x l < length l
place_below x [] h = absurd h
place_below x (y ∷ l) h = go (letter_discrete y x) h (λ k. place_below x l k)
  where
    go : (c : Dec (y ≡ x)) → Mem x (y ∷ l) → (Mem x l → place_of x l < length l) → zero_if c (suc (place_of x l)) < suc (length l)
    go (yes e) k ih = omega arith
    go (no f) (inl e) ih = absurd (f (sym e))
    go (no f) (inr k) ih = let b = ih k in omega (arith, b)

mem_at : (d : Letter) (i : ℕ) (l : List Letter) → i < length l → Mem (letter_at d i l) l
mem_at d i [] h = absurd (omega arith)
mem_at d zero (x ∷ l) h = inl refl
mem_at d (suc i) (x ∷ l) h = inr (mem_at d i l (omega (arith, h)))

past_end : (d : Letter) (i : ℕ) (l : List Letter) → length l ≤ i → letter_at d i l ≡ d
past_end d i [] h = refl
past_end d zero (x ∷ l) h = absurd (omega arith)
past_end d (suc i) (x ∷ l) h = past_end d i l (omega (arith, h))

place_at : (d : Letter) (i : ℕ) (l : List Letter) → Distinct l → i < length l → place_of (letter_at d i l) l ≡ i
place_at d i [] o h = absurd (omega arith)
place_at d zero (x ∷ l) o h = go (letter_discrete x x)
  where
    go : (c : Dec (x ≡ x)) → zero_if c (suc (place_of x l)) ≡ 0
    go (yes e) = refl
    go (no f) = absurd (f refl)
place_at d (suc i) (x ∷ l) o h = go (letter_discrete x (letter_at d i l)) (place_at d i l o.1 (omega (arith, h)))
  where
    go : (c : Dec (x ≡ letter_at d i l)) → place_of (letter_at d i l) l ≡ i → zero_if c (suc (place_of (letter_at d i l) l)) ≡ suc i
    go (yes e) ih = absurd (o.0 (subst (λ y. Mem y l) (sym e) (mem_at d i l (omega (arith, h)))))
    go (no f) ih = ap suc ih

at_in_order : (d : Letter) (i j : ℕ) (l : List Letter) → IsInOrder Before l → i < j → j < length l → Before (letter_at d i l) (letter_at d j l)
at_in_order d i j [] o lt h = absurd (omega (arith, h))
at_in_order d i zero (x ∷ l) o lt h = absurd (omega (arith, lt))
at_in_order d zero (suc j) (x ∷ l) o lt h = o.0 (letter_at d j l) (mem_at d j l (omega (arith, h)))
at_in_order d (suc i) (suc j) (x ∷ l) o lt h = at_in_order d i j l o.1 (omega (arith, lt)) (omega (arith, h))

no_parts : (gens : List (List Part)) → parts_of gens (length gens) ≡ []
no_parts [] = refl
no_parts (ps ∷ gens) = no_parts gens

generator_below : (gens : List (List Part)) (g : ℕ) → 2 ≤ total (parts_of gens g) → g < length gens
generator_below [] g h = absurd (omega (arith, h))
generator_below (ps ∷ gens) zero h = omega arith
generator_below (ps ∷ gens) (suc g) h = let k = generator_below gens g h in omega (arith, k)

-- ---- the labels of generators

module _ (generators : List (List Part)) where
  -- the word, sorted within the parts of the generator
  abbrev pub sorted_word : ℕ → List ℕ → List ℕ
  sorted_word g w = sort_parts (λ n. n) (parts_of generators g) w

  word_mem : (g : ℕ) (w : List ℕ) → g < length generators → IsOrdering (arity (parts_of generators) g) w → Mem (lettered g (sorted_word g w)) (letters 0 generators)
  word_mem g w b h = mem_letters 0 g generators (sorted_word g w) b
      (mem_words (parts_of generators g) (sorted_word g w) (sorted_ordering (arity (parts_of generators) g) (parts_of generators g) w h) (sorted_rises (parts_of generators g) w (let n : length w ≡ arity (parts_of generators) g = h.length_is in omega (arith, n)) (ordering_apart w h.distinct))) g (omega arith)

  letter_of : (g : ℕ) (w : List ℕ) → g < length generators → IsOrdering (arity (parts_of generators) g) w → letter generators (label generators g w) ≡ lettered g (sorted_word g w)
  letter_of g w b h = at_place (lettered (length generators) []) (lettered g (sorted_word g w)) (letters 0 generators) (word_mem g w b h)

  label_lt : (g : ℕ) (w : List ℕ) → g < length generators → IsOrdering (arity (parts_of generators) g) w → label generators g w < labels generators
  label_lt g w b h = place_below (lettered g (sorted_word g w)) (letters 0 generators) (word_mem g w b h)

  word_at : (l : ℕ) → l < labels generators → IsWordOf generators (gen generators l) (word generators l)
  word_at l h =
      let f = letters_found 0 generators (letter generators l) (mem_at (lettered (length generators) []) l (letters 0 generators) h) in
      let e : f.at ≡ gen generators l = omega (arith, f.gen_is) in
      let w = words_mem (parts_of generators (gen generators l)) (word generators l) (subst (λ g. Mem (word generators l) (words_of (parts_of generators g))) e f.in_words) in
      record { generator = omega (arith, e, f.in_range); ordering = w.0; rises = w.1 }

  label_of : (l : ℕ) → l < labels generators → label generators (gen generators l) (word generators l) ≡ l
  label_of l h =
      ap (λ v. place_of (lettered (gen generators l) v) (letters 0 generators)) (parts_same (parts_of generators (gen generators l)) (word generators l) ((word_at l h).rises))
      ∙ place_at (lettered (length generators) []) l (letters 0 generators) (distinct_letters 0 generators) h

  -- what isn't a label has no inputs
  none_past : (l : ℕ) → labels generators ≤ l → inputs_of generators l ≡ 0
  none_past l h =
      let e : letter generators l ≡ lettered (length generators) [] = past_end (lettered (length generators) []) l (letters 0 generators) h in
      ap (λ x. arity (parts_of generators) x.gen) e ∙ ap total (no_parts generators)

  -- what has inputs is a label
  pub label_below : (l : ℕ) → 2 ≤ inputs_of generators l → l < labels generators
  label_below l h = ⊎_elim (λ k. k) (λ k. let z : inputs_of generators l ≡ 0 = none_past l k in absurd (omega (arith, z, h))) (tested l (labels generators))

  pub label_gen : (g : ℕ) (w : List ℕ) → 2 ≤ arity (parts_of generators) g → IsOrdering (arity (parts_of generators) g) w → gen generators (label generators g w) ≡ g
  label_gen g w b h = ap (λ x. x.gen) (letter_of g w (generator_below generators g b) h)

  pub label_word : (g : ℕ) (w : List ℕ) → 2 ≤ arity (parts_of generators) g → IsOrdering (arity (parts_of generators) g) w → word generators (label generators g w) ≡ sorted_word g w
  label_word g w b h = ap (λ x. x.word) (letter_of g w (generator_below generators g b) h)

  pub word_of_label : (l : ℕ) → 2 ≤ inputs_of generators l → IsWordOf generators (gen generators l) (word generators l)
  word_of_label l h = word_at l (label_below l h)

  pub label_is : (l : ℕ) → 2 ≤ inputs_of generators l → label generators (gen generators l) (word generators l) ≡ l
  label_is l h = label_of l (label_below l h)

-- the labels of a presentation of wide generators
pub are_labels : (p : Presentation) → IsWide p → AreLabels (labels p.generators) (inputs_of p.generators)
are_labels p wide = record { wide = λ l h. wide (gen p.generators l) ((word_at p.generators l h).generator); none = none_past p.generators }

pub labels_are_words : LabelsAreWords
labels_are_words generators = record {
  of_word = λ g w h.
      let e = letter_of generators g w h.generator h.ordering in (
        label_lt generators g w h.generator h.ordering,
        ap (λ x. x.gen) e,
        ap (λ x. x.word) e ∙ parts_same (parts_of generators g) w h.rises,
      );
  of_label = λ l h. (word_at generators l h, label_of generators l h);
  in_order = λ l m lt h. at_in_order (lettered (length generators) []) l m (letters 0 generators) (letters_in_order 0 generators) lt h;
}
