-- Labels and their words, by numbers.
use Rattle.std.proofs.Common.{◌≡◌, ⊎_elim, ℕ, zero, suc, ◌+◌, ◌*◌, ◌-◌, ◌<◌, ◌≤◌, Bool, true, false, cond, List, [], ◌∷◌, length, map, get_or, refl, sym, ap, ap₂, ◌∙◌, subst, arith, lt-ltb, le-ltb, nat_lt, count_by, length-append}
use Rattle.std.proofs.Math.ListN.{length-map, get_or-map, get_or-append}
use Rattle.std.proofs.lemmas.List.{get_or-append-add, map-id}
use Rattle.std.proofs.lemmas.List as lists
use Rattle.std.proofs.lemmas.List.Sums.{count_by-le-length}
use Rattle.std.proofs.Math.Nat.{mul-le-mul_right}
use Rattle.std.specs.List.{AllByRecursion}
use Rattle.modular_sums.specs.Lists.{Mem, Rises}
use Rattle.modular_sums.proofs.Lists.{both_true}
use Rattle.operad_ideals.specs.Parts.{Part, total, parts_of}
use Rattle.operad_ideals.specs.Sorting.{sort_parts}
use Rattle.operad_ideals.specs.Laws.{arity}
use Rattle.operad_ideals.proofs.SortedLists.{Apart, tested, below, below_less, below_more, below_none, in_itself}
use Rattle.operad_ideals.proofs.SortedParts.{map-sort_parts, every_sort_parts}
use Rattle.operad_ideals.proofs.SameOrder.{sort_parts-order, below-order}
use Rattle.shuffle_insertions.specs.Counting.{factorial}
use Rattle.shuffle_insertions.specs.Listing.{upto}
use Rattle.shuffle_insertions.proofs.Upto.{upto_rises}
use Rattle.shuffle_insertions.proofs.Counting.{length-upto}
use Rattle.labelled_trees.specs.Trees.{Tree, leaf}
use Rattle.labelled_trees.specs.Insertions.{item}
use Rattle.shuffle_transfer.specs.Orderings.{IsOrdering}
use Rattle.shuffle_transfer.specs.ShuffleForms.{ranks}
use Rattle.shuffle_transfer.specs.Labels.{parts_rise, words_of, Letter, letters, letter_at, labels, label, letter, gen, word}
use Rattle.shuffle_transfer.proofs.Labels.{labels_are_words}
use Rattle.shuffle_transfer.proofs.Orderings.{ordering_permutes}
use Rattle.shuffle_transfer.proofs.Permutes.{Permutes, done, begin, Picked, now, later, pick_mem, rest_rises}
use Rattle.shuffle_transfer.proofs.Ranks.{every_mem, below_cons, below_mono, below_less_mem, ranks_ordering, ordering_apart, items_all}
use Rattle.shuffle_transfer.proofs.Words.{parts_same, sorted_rises, sorted_ordering}
use Rattle.shuffle_passage.specs.Words.{bounds_of, first_place, sum_from, endings, word_number, digits, FoundPlace, find_place, digits_of, without, chosen, first_label}
use Rattle.shuffle_passage.proofs.WordLists.{AreDigits, word_number-below, word_at}
use Rattle.shuffle_passage.proofs.WordBounds.{keeps, parts_keep, length-bounds, words_are, count_words}

-- ---- the letter with a number

pub at_is : (d : Letter) (i : ℕ) (l : List Letter) → letter_at d i l ≡ get_or l i d
at_is d i [] = refl
at_is d zero (x ∷ l) = refl
at_is d (suc i) (x ∷ l) = at_is d i l

abbrev pub lettered : ℕ → List ℕ → Letter
lettered g w = record { gen = g; word = w }

number_below : (s : ℕ) (gens : List (List Part)) (g k : ℕ) → g < length gens → k < endings (bounds_of (parts_of gens g)) 0 → first_label gens g + k < length (letters s gens)
number_below s [] g k l h = absurd (omega (arith, l))
number_below s (ps ∷ gens) zero k l h =
    let n = length-append (map (lettered s) (words_of ps)) (letters (suc s) gens) in
    let m = length-map (words_of ps) (lettered s) in
    omega (arith, h, n, m, count_words ps)
number_below s (ps ∷ gens) (suc g) k l h =
    let n = length-append (map (lettered s) (words_of ps)) (letters (suc s) gens) in
    let m = length-map (words_of ps) (lettered s) in
    omega (arith, number_below (suc s) gens g k (omega (arith, l)) h, n, m, count_words ps)

letter_number : (s : ℕ) (gens : List (List Part)) (g k : ℕ) (d : Letter) → g < length gens → k < endings (bounds_of (parts_of gens g)) 0
    → get_or (letters s gens) (first_label gens g + k) d ≡ lettered (s + g) (get_or (words_of (parts_of gens g)) k [])
letter_number s [] g k d l h = absurd (omega (arith, l))
letter_number s (ps ∷ gens) zero k d l h =
    let m = length-map (words_of ps) (lettered s) in
    let c = count_words ps in
    let z : 0 + k ≡ k = omega arith in
    let e : s ≡ s + 0 = omega arith in
    ap (λ i. get_or (letters s (ps ∷ gens)) i d) z
    ∙ get_or-append (map (lettered s) (words_of ps)) (letters (suc s) gens) d k (omega (arith, h, m, c))
    ∙ lists.get_or-map (lettered s) (words_of ps) k [] d (omega (arith, h, c))
    ∙ ap (λ j. lettered j (get_or (words_of ps) k [])) e
letter_number s (ps ∷ gens) (suc g) k d l h =
    let m = length-map (words_of ps) (lettered s) in
    let e : endings (bounds_of ps) 0 + first_label gens g + k ≡ length (map (lettered s) (words_of ps)) + (first_label gens g + k) = omega (arith, m, count_words ps) in
    let f : suc s + g ≡ s + suc g = omega arith in
    ap (λ i. get_or (letters s (ps ∷ gens)) i d) e
    ∙ get_or-append-add (map (lettered s) (words_of ps)) (letters (suc s) gens) (first_label gens g + k) d
    ∙ letter_number (suc s) gens g k d (omega (arith, l)) h
    ∙ ap (λ j. lettered j (get_or (words_of (parts_of gens g)) k [])) f

-- ---- digits

pub length-digits : (ks : List ℕ) → length (digits ks) ≡ length ks
length-digits [] = refl
length-digits (k ∷ ks) = ap suc (length-digits ks)

first_tested : (b : Bool) (x y : ℕ) → cond b (nat_lt x y) true ≡ true → (ks : List ℕ) → first_place b (below x (y ∷ ks)) ≤ below y ks
first_tested false x y h ks = omega arith
first_tested true x y h ks = ⊎_elim
    (λ l. omega (arith, below_more x y ks (omega (arith, l)), below_mono x y ks (omega (arith, l))))
    (λ l. absurd (let e : false ≡ true = sym (le-ltb x y l) ∙ h in cc))
    (tested x y)

-- the digits of a word that keeps the bounds
keeps_digits : (bs : List Bool) (x : ℕ) (w : List ℕ) → length w ≡ length bs → keeps bs x w ≡ true → AreDigits bs (below x w) (digits w)
keeps_digits [] x [] e h = tt
keeps_digits [] x (y ∷ w) e h = absurd (omega (arith, e))
keeps_digits (b ∷ bs) x [] e h = absurd (omega (arith, e))
keeps_digits (b ∷ bs) x (y ∷ w) e h =
    let k = both_true (cond b (nat_lt x y) true) (keeps bs y w) h in
    (first_tested b x y k.0 w, (let l = count_by-le-length (λ m. nat_lt m y) w in omega (arith, l, e)), keeps_digits bs y w (omega (arith, e)) k.1)

below_zero : (ks : List ℕ) → below 0 ks ≡ 0
below_zero [] = refl
below_zero (k ∷ ks) = below_more 0 k ks (omega arith) ∙ below_zero ks

pub word_digits : (ps : List Part) (w : List ℕ) → length w ≡ total ps → parts_rise ps w ≡ true → AreDigits (bounds_of ps) 0 (digits w)
word_digits ps w e h =
    subst (λ a. AreDigits (bounds_of ps) a (digits w)) (below_zero w) (keeps_digits (bounds_of ps) 0 w (e ∙ sym (length-bounds ps)) (sym (parts_keep ps 0 w e) ∙ h))

-- ---- a permutation is chosen by its digits

below_exchange : (k x y : ℕ) (ks : List ℕ) → below k (x ∷ (y ∷ ks)) ≡ below k (y ∷ (x ∷ ks))
below_exchange k x y ks = ⊎_elim
    (λ a. ⊎_elim
    (λ b. let p = below_less k x (y ∷ ks) a in let q = below_less k y ks b in let r = below_less k y (x ∷ ks) b in let s = below_less k x ks a in omega (arith, p, q, r, s))
    (λ b. let p = below_less k x (y ∷ ks) a in let q = below_more k y ks b in let r = below_more k y (x ∷ ks) b in let s = below_less k x ks a in omega (arith, p, q, r, s)) (tested y k))
    (λ a. ⊎_elim
    (λ b. let p = below_more k x (y ∷ ks) a in let q = below_less k y ks b in let r = below_less k y (x ∷ ks) b in let s = below_more k x ks a in omega (arith, p, q, r, s))
    (λ b. let p = below_more k x (y ∷ ks) a in let q = below_more k y ks b in let r = below_more k y (x ∷ ks) b in let s = below_more k x ks a in omega (arith, p, q, r, s)) (tested y k))
    (tested x k)

picked_below : (k x : ℕ) (l r : List ℕ) → Picked x l r → below k l ≡ below k (x ∷ r)
picked_below k x l r now = refl
picked_below k x l r (later y {l = m} {r = s} h) = below_cons k y m (x ∷ s) (picked_below k x m s h) ∙ below_exchange k y x s

permutes_below : (k : ℕ) (l v : List ℕ) → Permutes l v → below k l ≡ below k v
permutes_below k l v done = refl
permutes_below k l v (begin x {r = r} {v = w} p h) = picked_below k x l r p ∙ below_cons k x r w (permutes_below k r w h)

picked_at : (x : ℕ) (l r : List ℕ) → Picked x l r → Rises l → (get_or l (below x r) 0 ≡ x) × (without l (below x r) ≡ r)
picked_at x l r now h =
    let z : below x r ≡ 0 = below_none x r (every_mem (λ y. x < y) r h.0) in
    (ap (λ i. get_or (x ∷ r) i 0) z, ap (without (x ∷ r)) z)
picked_at x l r (later y {l = m} {r = s} p) h =
    let z : below x (y ∷ s) ≡ suc (below x s) = below_less x y s (h.0 x (pick_mem x m s p)) in
    let k = picked_at x m s p h.1 in
    (ap (λ i. get_or (y ∷ m) i 0) z ∙ k.0, ap (without (y ∷ m)) z ∙ ap (λ t. y ∷ t) k.1)

chosen_digits : (l v : List ℕ) → Rises l → Permutes l v → chosen 0 l (digits v) ≡ v
chosen_digits l v h done = refl
chosen_digits l v h (begin x {r = r} {v = w} p k) =
    let e : below x w ≡ below x r = sym (permutes_below x r w k) in
    let a = picked_at x l r p h in
    ap (λ i. get_or l i 0 ∷ chosen 0 (without l i) (digits w)) e
    ∙ ap₂ (λ y m. y ∷ chosen 0 m (digits w)) a.0 a.1 ∙ ap (λ u. x ∷ u) (chosen_digits r w (rest_rises x l r p h) k)

-- ---- the label of a word

-- the generator and the word of the label with a number
pub label_at : (generators : List (List Part)) (g : ℕ) (ds : List ℕ) → g < length generators → AreDigits (bounds_of (parts_of generators g)) 0 ds
    → letter generators (first_label generators g + word_number (bounds_of (parts_of generators g)) 0 ds) ≡ lettered g (chosen 0 (upto (arity (parts_of generators) g)) ds)
label_at generators g ds l h =
    let k = word_number (bounds_of (parts_of generators g)) 0 ds in
    let none = lettered (length generators) [] in
    let z : 0 + g ≡ g = omega arith in
    at_is none (first_label generators g + k) (letters 0 generators)
    ∙ letter_number 0 generators g k none l (word_number-below (bounds_of (parts_of generators g)) 0 ds h)
    ∙ ap₂ (λ i w. lettered i w) z (ap (λ ws. get_or ws k []) (words_are (parts_of generators g))
    ∙ word_at (bounds_of (parts_of generators g)) 0 (upto (arity (parts_of generators) g)) ds [] (length-upto (arity (parts_of generators) g) ∙ sym (length-bounds (parts_of generators g))) h)

pub label_of_word : (generators : List (List Part)) (g : ℕ) (w : List ℕ) → g < length generators → IsOrdering (arity (parts_of generators) g) w → parts_rise (parts_of generators g) w ≡ true
    → label generators g w ≡ first_label generators g + word_number (bounds_of (parts_of generators g)) 0 (digits w)
label_of_word generators g w l o h =
    let ds = word_digits (parts_of generators g) w o.length_is h in
    let at = label_at generators g (digits w) l ds in
    let n = first_label generators g + word_number (bounds_of (parts_of generators g)) 0 (digits w) in
    let own : (gen generators n ≡ g) × (word generators n ≡ w) = (ap (λ x. x.gen) at, ap (λ x. x.word) at ∙ chosen_digits (upto (arity (parts_of generators) g)) w (upto_rises (arity (parts_of generators) g)) (ordering_permutes (arity (parts_of generators) g) w o)) in
    let law = ((labels_are_words generators).of_label n (number_below 0 generators g (word_number (bounds_of (parts_of generators g)) 0 (digits w)) l (word_number-below (bounds_of (parts_of generators g)) 0 (digits w) ds))).1 in
    sym (ap₂ (label generators) own.0 own.1) ∙ law

-- ---- the label of keys

ranks_up : (ks : List ℕ) (x y : ℕ) → Mem x ks → Mem y ks → x < y → suc (below x ks) < suc (below y ks)
ranks_up ks x y a b l = let k = below_less_mem x y ks l a in omega (arith, k)

ranks_down : (ks : List ℕ) (x y : ℕ) → Mem x ks → Mem y ks → suc (below x ks) < suc (below y ks) → x < y
ranks_down ks x y a b l = ⊎_elim (λ m. m) (λ le. absurd (omega (arith, l, below_mono y x ks le))) (tested x y)

rank_digits : (ks ls : List ℕ) → AllByRecursion (λ k. Mem k ks) ls → digits (map (λ k. suc (below k ks)) ls) ≡ digits ls
rank_digits ks [] h = refl
rank_digits ks (l ∷ ls) h =
    ap₂ (λ d ds. d ∷ ds)
    (below-order (λ k. Mem k ks) (λ k. suc (below k ks)) (λ k. k) (ranks_down ks) (ranks_up ks) l ls h.0 h.1 ∙ ap (below l) (map-id ls))
    (rank_digits ks ls h.1)

-- the ranks of keys, sorted within the parts, have the digits of the keys, sorted so
sorted_ranks : (ps : List Part) (ks : List ℕ) → digits (sort_parts (λ n. n) ps (ranks ks)) ≡ digits (sort_parts (λ n. n) ps ks)
sorted_ranks ps ks =
    ap digits (sym (map-sort_parts (λ k. suc (below k ks)) (λ k. suc (below k ks)) (λ n. n) (λ k. refl) ps ks)
    ∙ ap (map (λ k. suc (below k ks))) (sort_parts-order (λ k. Mem k ks) (λ k. suc (below k ks)) (λ k. k) (ranks_down ks) (ranks_up ks) ps ks (in_itself ks)))
    ∙ rank_digits ks (sort_parts (λ n. n) ps ks) (every_sort_parts (λ n. n) (λ k. Mem k ks) ps ks (in_itself ks))

-- The label of a generator with the ranks of different keys, from the keys sorted within its parts.
pub label_of_keys : (generators : List (List Part)) (g : ℕ) (ks : List ℕ) → g < length generators → length ks ≡ arity (parts_of generators) g → Apart (λ n. n) ks
    → label generators g (ranks ks) ≡ first_label generators g + word_number (bounds_of (parts_of generators g)) 0 (digits (sort_parts (λ n. n) (parts_of generators g) ks))
label_of_keys generators g ks l e apart =
    let ps = parts_of generators g in
    let own : IsOrdering (length ks) (ranks ks) = subst (λ v. IsOrdering (length ks) (ranks v)) (map-id ks) (ranks_ordering (λ n. n) ks apart) in
    let o : IsOrdering (arity (parts_of generators) g) (ranks ks) = subst (λ n. IsOrdering n (ranks ks)) e own in
    let w : List ℕ = sort_parts (λ n. n) ps (ranks ks) in
    let size : total ps ≤ length (ranks ks) = let n : length (ranks ks) ≡ arity (parts_of generators) g = o.length_is in omega (arith, n) in
    let rises : parts_rise ps w ≡ true = sorted_rises ps (ranks ks) size (ordering_apart (ranks ks) o.distinct) in
    ap (λ v. Rattle.shuffle_transfer.specs.Labels.place_of (lettered g v) (letters 0 generators)) (sym (parts_same ps w rises))
    ∙ label_of_word generators g w l (sorted_ordering (arity (parts_of generators) g) ps (ranks ks) o) rises
    ∙ ap (λ ds. first_label generators g + word_number (bounds_of ps) 0 ds) (sorted_ranks ps ks)

-- ---- the word with a number

pub record Finds (f : ℕ → ℕ) (a n m : ℕ) (s : FoundPlace) : Type 0 where
  pub low : a ≤ s.at
  pub high : s.at < a + m
  pub sum : sum_from f a (s.at - a) + s.over ≡ n
  pub rest : s.over < f s.at

finds_here : (f : ℕ → ℕ) (a n m : ℕ) → n < f a → 0 < m → Finds f a n m (record { at = a; over = n })
finds_here f a n m h l = let z : a - a ≡ 0 = omega arith in
    record { low = omega arith; high = omega (arith, l); sum = ap (λ k. sum_from f a k + n) z ∙ omega arith; rest = h }

finds_later : (f : ℕ → ℕ) (a n m : ℕ) (s : FoundPlace) → f a ≤ n → Finds f (suc a) (n - f a) m s → Finds f a n (suc m) s
finds_later f a n m s h k =
    let z : s.at - a ≡ suc (s.at - suc a) = let l = k.low in omega (arith, l) in
    record {
      low = let l = k.low in omega (arith, l);
      high = let l = k.high in omega (arith, l);
      sum = ap (λ j. sum_from f a j + s.over) z ∙ (let e = k.sum in omega (arith, e, h));
      rest = k.rest;
    }

pub finds : (f : ℕ → ℕ) (a n m : ℕ) → n < sum_from f a m → Finds f a n m (find_place f a n m)
finds f a n zero h = absurd (omega (arith, h))
finds f a n (suc m) h = ⊎_elim
    (λ l. subst (λ b. Finds f a n (suc m) (cond b (record { at = a; over = n }) (find_place f (suc a) (n - f a) m))) (sym (lt-ltb n (f a) l)) (finds_here f a n (suc m) l (omega arith)))
    (λ l. subst (λ b. Finds f a n (suc m) (cond b (record { at = a; over = n }) (find_place f (suc a) (n - f a) m))) (sym (le-ltb n (f a) l))
    (finds_later f a n m (find_place f (suc a) (n - f a) m) l (finds f (suc a) (n - f a) m (omega (arith, h, l)))))
    (tested n (f a))

pub digits_number : (bs : List Bool) (below n : ℕ) → n < endings bs below → AreDigits bs below (digits_of bs below n) × (word_number bs below (digits_of bs below n) ≡ n)
digits_number [] below n h = (tt, omega (arith, h))
digits_number (b ∷ bs) below n h =
    let a = first_place b below in
    let s = find_place (endings bs) a n (suc (length bs) - a) in
    let k = finds (endings bs) a n (suc (length bs) - a) h in
    let inner = digits_number bs s.at s.over k.rest in (
      (k.low, (let l = k.high in omega (arith, l)), inner.0),
      ap (λ m. sum_from (endings bs) a (s.at - a) + m) inner.1 ∙ k.sum,
    )

-- The generator and the word of a label, from its number among the words of the generator.
pub letter_of_number : (generators : List (List Part)) (g n : ℕ) → g < length generators → n < endings (bounds_of (parts_of generators g)) 0
    → (gen generators (first_label generators g + n) ≡ g) × (word generators (first_label generators g + n) ≡ chosen 0 (upto (arity (parts_of generators) g)) (digits_of (bounds_of (parts_of generators g)) 0 n))
letter_of_number generators g n l h =
    let k = digits_number (bounds_of (parts_of generators g)) 0 n h in
    let at = ap (λ m. letter generators (first_label generators g + m)) (sym k.1) ∙ label_at generators g (digits_of (bounds_of (parts_of generators g)) 0 n) l k.0 in
    (ap (λ x. x.gen) at, ap (λ x. x.word) at)

map-without : {X Y : Type 0} (f : X → Y) (l : List X) (d : ℕ) → map f (without l d) ≡ without (map f l) d
map-without f [] d = refl
map-without f (x ∷ l) zero = refl
map-without f (x ∷ l) (suc d) = ap (λ t. f x ∷ t) (map-without f l d)

pub map-chosen : {X Y : Type 0} (f : X → Y) (e : X) (l : List X) (ds : List ℕ) → map f (chosen e l ds) ≡ chosen (f e) (map f l) ds
map-chosen f e l [] = refl
map-chosen f e l (d ∷ ds) = ap₂ (λ x xs. x ∷ xs) (sym (get_or-map f l d e)) (map-chosen f e (without l d) ds ∙ ap (λ m. chosen (f e) m ds) (map-without f l d))

item_zero : (us : List (Tree ℕ)) → item us 0 ≡ leaf 0
item_zero [] = refl
item_zero (u ∷ us) = refl

-- inputs, arranged by a word, are those that its digits choose
pub chosen_items : (us : List (Tree ℕ)) (ds : List ℕ) → map (item us) (chosen 0 (upto (length us)) ds) ≡ chosen (leaf 0) us ds
chosen_items us ds = map-chosen (item us) 0 (upto (length us)) ds ∙ ap₂ (λ e l. chosen e l ds) (item_zero us) (items_all us)

-- ---- no number is great

pub sum_from-most : (f : ℕ → ℕ) (a n m : ℕ) → ((i : ℕ) → f i ≤ m) → sum_from f a n ≤ n * m
sum_from-most f a zero m h = omega arith
sum_from-most f a (suc n) m h = let k = sum_from-most f (suc a) n m h in let q = h a in let e : suc n * m ≡ m + n * m = omega arith in omega (arith, k, q, e)

pub endings-most : (bs : List Bool) (below : ℕ) → endings bs below ≤ factorial (length bs)
endings-most [] below = omega arith
endings-most (b ∷ bs) below =
    let a = first_place b below in
    let k = sum_from-most (endings bs) a (suc (length bs) - a) (factorial (length bs)) (endings-most bs) in
    let q = mul-le-mul_right {m = suc (length bs) - a} {n = suc (length bs)} (factorial (length bs)) (omega arith) in
    omega (arith, k, q)

pub factorial-mono : (m n : ℕ) → m ≤ n → factorial m ≤ factorial n
factorial-mono zero zero h = omega arith
factorial-mono zero (suc n) h = let k = factorial-mono zero n (omega arith) in let e : suc n * factorial n ≡ factorial n + n * factorial n = omega arith in omega (arith, k, e)
factorial-mono (suc m) zero h = absurd (omega (arith, h))
factorial-mono (suc m) (suc n) h =
    let k = factorial-mono m n (omega (arith, h)) in
    let q = mul-le-mul_right {m = suc m} {n = suc n} (factorial m) h in
    let r = mul-le-mul_right {m = factorial m} {n = factorial n} (suc n) k in
    let e : factorial m * suc n ≡ suc n * factorial m = omega arith in
    let f : factorial n * suc n ≡ suc n * factorial n = omega arith in
    omega (arith, q, r, e, f)

pub few_endings : (bs : List Bool) (below n : ℕ) → length bs ≤ n → endings bs below ≤ factorial n
few_endings bs below n h = let k = endings-most bs below in let q = factorial-mono (length bs) n h in omega (arith, k, q)

-- the number of a word is below that of all permutations, whatever its bounds
pub word_number-most : (bs : List Bool) (below : ℕ) (ks : List ℕ) → length ks ≡ length bs → suc (word_number bs below (digits ks)) ≤ factorial (length bs)
word_number-most [] below [] e = omega arith
word_number-most [] below (k ∷ ks) e = absurd (omega (arith, e))
word_number-most (b ∷ bs) below [] e = absurd (omega (arith, e))
word_number-most (b ∷ bs) below (k ∷ ks) e =
    let a = first_place b below in
    let d = count_by (λ m. nat_lt m k) ks in
    let q = sum_from-most (endings bs) a (d - a) (factorial (length bs)) (endings-most bs) in
    let l = count_by-le-length (λ m. nat_lt m k) ks in
    let r = mul-le-mul_right {m = d - a} {n = length bs} (factorial (length bs)) (omega (arith, l, e)) in
    let ih = word_number-most bs d ks (omega (arith, e)) in
    let f : suc (length bs) * factorial (length bs) ≡ factorial (length bs) + length bs * factorial (length bs) = omega arith in
    omega (arith, q, r, ih, f)

pub few_before : (bs : List Bool) (below : ℕ) (ks : List ℕ) → length ks ≡ length bs → length bs ≤ 6 → word_number bs below (digits ks) < 720
few_before bs below ks e l = let k = word_number-most bs below ks e in let q = factorial-mono (length bs) 6 l in omega (arith, k, q)
