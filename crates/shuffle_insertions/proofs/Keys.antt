-- The words of the key.
use Rattle.std.proofs.Math.ListN.{length-map}
use Rattle.std.proofs.Common.{◌≡◌, ℕ, zero, suc, ◌+◌, ◌<◌, ◌≤◌, List, [], ◌∷◌, length, map, refl, sym, ◌∙◌, ap, arith, subst, inl, inr, ◌⊎◌, length-append}
use mathlib.Core.Path.{ap₂}
use mathlib.Core.List.{◌++◌}
use native.Mathlib.Decide.{ℕ_discrete, dec_lt}
use Rattle.std.specs.declared.cmp.Ordering.{Ordering}
use Rattle.std.specs.declared.cmp.Ordering.TheVariants.{Less, Equal}
use Rattle.std.specs.Ordering.{ordering_then}
use Rattle.std.specs.Cmp.{IsTotalOrder}
use Rattle.std.specs.Cmp.Lexicographic.{slice_cmp}
use Rattle.labelled_trees.specs.Trees.{Tree, Row, leaf, node, none, more}
use Rattle.labelled_trees.specs.Leaves.{one_if, occurs, occurs_row}
use Rattle.shuffle_insertions.specs.ShuffleTrees.{IsShuffle}
use Rattle.shuffle_insertions.proofs.PathWords.{HasWord, HasWordRow, SameWord, LessByWords}
use Rattle.shuffle_insertions.specs.Keys.{words_at, words_at_row, words_below}
use Rattle.shuffle_insertions.proofs.LabelSums.{same_counts, once_of}
use Rattle.shuffle_insertions.proofs.Paths.{word_of, word-occurs, word-occurs_row}
use Rattle.shuffle_insertions.proofs.Comparing.{then_less, then_first, then_second, list_same, itself, slice_cmp-append}
use Rattle.modular_sums.proofs.Lists.{tail_same}
use Rattle.modular_sums.specs.Lists.{choose}

length_only : (n j : ℕ) (d : Dec (n ≡ j)) → length (choose {B = List (List ℕ)} d ([] ∷ []) []) ≡ one_if d
length_only n j (yes _) = refl
length_only n j (no _) = refl

mutual
  pub length-words_at : (j : ℕ) (t : Tree ℕ) → length (words_at j t) ≡ occurs j t
  length-words_at j (leaf n) = length_only n j (ℕ_discrete n j)
  length-words_at j (node l r) = length-map (words_at_row j r) (λ w. l ∷ w) ∙ length-words_at_row j r

  pub length-words_at_row : (j : ℕ) (r : Row ℕ) → length (words_at_row j r) ≡ occurs_row j r
  length-words_at_row j none = refl
  length-words_at_row j (more t r) = length-append (words_at j t) (words_at_row j r) ∙ ap₂ (λ a b. a + b) (length-words_at j t) (length-words_at_row j r)

no_length : {A : Type 0} (k : List A) → length k ≡ 0 → k ≡ []
no_length [] e = refl
no_length (x ∷ k) e = absurd (omega arith)

only_yes : (n j : ℕ) (d : Dec (n ≡ j)) → n ≡ j → choose {B = List (List ℕ)} d ([] ∷ []) [] ≡ [] ∷ []
only_yes n j (yes _) e = refl
only_yes n j (no f) e = absurd (f e)

yes_only : (n j : ℕ) (w : List ℕ) (d : Dec (n ≡ j)) → choose {B = List (List ℕ)} d ([] ∷ []) [] ≡ w ∷ [] → (n ≡ j) × (w ≡ [])
yes_only n j w (yes e) h = (e, cc)
yes_only n j w (no f) h = absurd (cc h)

at_first : (k l : List (List ℕ)) (w : List ℕ) → k ≡ w ∷ [] → l ≡ [] → k ++ l ≡ w ∷ []
at_first k l w e f = rw (e, f) refl

at_second : (k l : List (List ℕ)) (w : List ℕ) → k ≡ [] → l ≡ w ∷ [] → k ++ l ≡ w ∷ []
at_second k l w e f = rw (e, f) refl

mutual
  -- a leaf number that stands once has its word alone
  pub has_at : (t : Tree ℕ) (j : ℕ) (w : List ℕ) → occurs j t ≤ 1 → HasWord t j w → words_at j t ≡ w ∷ []
  has_at (leaf n) j w o h = only_yes n j (ℕ_discrete n j) h.0 ∙ ap (λ v. v ∷ []) (sym h.1)
  has_at (node l r) j w o h = ap (map (λ v. l ∷ v)) (has_at_row r j h.0 o h.2) ∙ ap (λ v. v ∷ []) (sym h.1)

  pub has_at_row : (r : Row ℕ) (j : ℕ) (w : List ℕ) → occurs_row j r ≤ 1 → HasWordRow r j w → words_at_row j r ≡ w ∷ []
  has_at_row none j w o h = absurd h
  has_at_row (more t r) j w o (inl h) = at_first (words_at j t) (words_at_row j r) w (has_at t j w (omega arith) h)
      (no_length (words_at_row j r) (length-words_at_row j r ∙ let z : occurs_row j r ≡ 0 = omega (arith, word-occurs t j w h) in z))
  has_at_row (more t r) j w o (inr h) = at_second (words_at j t) (words_at_row j r) w
      (no_length (words_at j t) (length-words_at j t ∙ let z : occurs j t ≡ 0 = omega (arith, word-occurs_row r j w h) in z)) (has_at_row r j w (omega arith) h)

pub split_same : {A : Type 0} (k l m n : List A) → length k ≡ length l → k ++ m ≡ l ++ n → (k ≡ l) × (m ≡ n)
split_same [] [] m n h e = (refl, e)
split_same [] (y ∷ l) m n h e = absurd (omega arith)
split_same (x ∷ k) [] m n h e = absurd (omega arith)
split_same (x ∷ k) (y ∷ l) m n h e =
    let a = tail_same x y (k ++ m) (l ++ n) e in
    let b = split_same k l m n (omega arith) a.1 in
    (ap₂ (λ c d. c ∷ d) a.0 b.0, b.1)

module _ (n : ℕ) (x y : Tree ℕ) (hx : IsShuffle n x) (hy : IsShuffle n y) where
  same_lengths : (j : ℕ) → length (words_at j x) ≡ length (words_at j y)
  same_lengths j = length-words_at j x ∙ same_counts n x y hx hy j ∙ sym (length-words_at j y)

  below_lengths : (b : ℕ) → length (words_below b x) ≡ length (words_below b y)
  below_lengths zero = refl
  below_lengths (suc b) =
      length-append (words_below b x) (words_at b x) ∙ ap₂ (λ a c. a + c) (below_lengths b) (same_lengths b) ∙ sym (length-append (words_below b y) (words_at b y))

  -- equal words at a number
  pub same_of_at : (j : ℕ) → words_at j x ≡ words_at j y → SameWord x y j
  same_of_at j e v w hv hw =
      (tail_same v w [] [] (sym (has_at x j v (once_of n x hx j) hv) ∙ e ∙ has_at y j w (once_of n y hy j) hw)).0

  pub at_of_same : (j : ℕ) → SameWord x y j → words_at j x ≡ words_at j y
  at_of_same j s = go (dec_lt 0 (occurs j x))
    where
      go : Dec (0 < occurs j x) → words_at j x ≡ words_at j y
      go (yes o) =
          let v = word_of x j o in
          let w = word_of y j (subst (λ m. 0 < m) (same_counts n x y hx hy j) o) in
          has_at x j v.0 (once_of n x hx j) v.1 ∙ ap (λ u. u ∷ []) (s v.0 w.0 v.1 w.1) ∙ sym (has_at y j w.0 (once_of n y hy j) w.1)
      go (no z) =
          no_length (words_at j x) (length-words_at j x ∙ let e : occurs j x ≡ 0 = omega (arith, z) in e)
          ∙ sym (no_length (words_at j y) (length-words_at j y ∙ let e : occurs j y ≡ 0 = omega (arith, z, same_counts n x y hx hy j) in e))

  below_step : (b j : ℕ) → (j < b → words_at j x ≡ words_at j y) → words_at b x ≡ words_at b y → Dec (j < b) → j < suc b → words_at j x ≡ words_at j y
  below_step b j ih e (yes h) lt = ih h
  below_step b j ih e (no h) lt = let k : b ≡ j = omega (arith, h) in subst (λ m. words_at m x ≡ words_at m y) k e

  -- equal words below b
  pub at_of_below : (b : ℕ) → words_below b x ≡ words_below b y → (j : ℕ) → j < b → words_at j x ≡ words_at j y
  at_of_below zero e j lt = absurd (omega arith)
  at_of_below (suc b) e j lt =
      let s = split_same (words_below b x) (words_below b y) (words_at b x) (words_at b y) (below_lengths b) e in
      below_step b j (λ h. at_of_below b s.0 j h) s.1 (dec_lt j b) lt

  pub below_of_at : (b : ℕ) → ((j : ℕ) → j < b → words_at j x ≡ words_at j y) → words_below b x ≡ words_below b y
  below_of_at zero h = refl
  below_of_at (suc b) h = ap₂ (λ k l. k ++ l) (below_of_at b (λ j lt. h j (omega arith))) (h b (omega arith))

  -- words that agree below n + 1 agree at all numbers
  pub all_same : words_below (suc n) x ≡ words_below (suc n) y → (j : ℕ) → SameWord x y j
  all_same e j v w hv hw =
      let r = hx.only j (word-occurs x j v hv) in
      same_of_at j (at_of_below (suc n) e j (omega (arith, r.1))) v w hv hw

  pub at_all : words_below (suc n) x ≡ words_below (suc n) y → (j : ℕ) → words_at j x ≡ words_at j y
  at_all e j = at_of_same j (all_same e j)

  pub below_of_same : ((j : ℕ) → SameWord x y j) → (b : ℕ) → words_below b x ≡ words_below b y
  below_of_same s b = below_of_at b (λ j lt. at_of_same j (s j))

  module _ (R : List ℕ → List ℕ → Ordering) (total : IsTotalOrder R) (only : (v w : List ℕ) → R v w ≡ Equal → v ≡ w) where
    abbrev Before : List ℕ → List ℕ → Type 0
    Before v w = R v w ≡ Less

    of_one : (v w : List ℕ) → slice_cmp R (v ∷ []) (w ∷ []) ≡ Less → R v w ≡ Less
    of_one v w e = go (then_less (R v w) Equal e)
      where
        go : (R v w ≡ Less) ⊎ ((R v w ≡ Equal) × (◌≡◌ {A = Ordering} Equal Less)) → R v w ≡ Less
        go (inl h) = h
        go (inr h) = absurd (cc h.1)

    here_less : (b : ℕ) → words_below b x ≡ words_below b y → slice_cmp R (words_at b x) (words_at b y) ≡ Less → Dec (0 < occurs b x) → LessByWords Before x y
    here_less b e h (yes o) =
        let v = word_of x b o in
        let w = word_of y b (subst (λ m. 0 < m) (same_counts n x y hx hy b) o) in
        record {
          at = b;
          first_word = v.0;
          second_word = w.0;
          has_first = v.1;
          has_second = w.1;
          before = λ j lt. same_of_at j (at_of_below b e j lt);
          less = of_one v.0 w.0 (rw (has_at x b v.0 (once_of n x hx b) v.1, has_at y b w.0 (once_of n y hy b) w.1) at h);
        }
    here_less b e h (no z) =
        let ex : words_at b x ≡ [] = no_length (words_at b x) (length-words_at b x ∙ let k : occurs b x ≡ 0 = omega (arith, z) in k) in
        let ey : words_at b y ≡ [] = no_length (words_at b y) (length-words_at b y ∙ let k : occurs b y ≡ 0 = omega (arith, z, same_counts n x y hx hy b) in k) in
        let k : slice_cmp R [] [] ≡ Less = rw (ex, ey) at h in
        absurd (cc k)

    pub less_of : (b : ℕ) → slice_cmp R (words_below b x) (words_below b y) ≡ Less → LessByWords Before x y
    less_of zero h = absurd (cc h)
    less_of (suc b) h =
        step (λ e. less_of b e) (then_less (slice_cmp R (words_below b x) (words_below b y)) (slice_cmp R (words_at b x) (words_at b y))
        (sym (slice_cmp-append R (words_below b x) (words_below b y) (words_at b x) (words_at b y) (below_lengths b)) ∙ h))
      where
        step : (slice_cmp R (words_below b x) (words_below b y) ≡ Less → LessByWords Before x y)
            → (slice_cmp R (words_below b x) (words_below b y) ≡ Less) ⊎ ((slice_cmp R (words_below b x) (words_below b y) ≡ Equal) × (slice_cmp R (words_at b x) (words_at b y) ≡ Less)) → LessByWords Before x y
        step ih (inl e) = ih e
        step ih (inr e) = here_less b (list_same R only (words_below b x) (words_below b y) e.0) e.1 (dec_lt 0 (occurs b x))

    pub of_less : (b : ℕ) (h : LessByWords Before x y) → h.at < b → slice_cmp R (words_below b x) (words_below b y) ≡ Less
    of_less zero h lt = absurd (omega arith)
    of_less (suc b) h lt = slice_cmp-append R (words_below b x) (words_below b y) (words_at b x) (words_at b y) (below_lengths b) ∙ step (λ k. of_less b h k) (dec_lt h.at b)
      where
        at_it : h.at ≡ b → slice_cmp R (words_at b x) (words_at b y) ≡ Less
        at_it e = subst (λ m. slice_cmp R (words_at m x) (words_at m y) ≡ Less) e
            (rw (has_at x h.at h.first_word (once_of n x hx h.at) h.has_first, has_at y h.at h.second_word (once_of n y hy h.at) h.has_second)
            (then_first (R h.first_word h.second_word) Equal h.less))

        step : (h.at < b → slice_cmp R (words_below b x) (words_below b y) ≡ Less) → Dec (h.at < b)
            → ordering_then (slice_cmp R (words_below b x) (words_below b y)) (slice_cmp R (words_at b x) (words_at b y)) ≡ Less
        step ih (yes k) = then_first (slice_cmp R (words_below b x) (words_below b y)) (slice_cmp R (words_at b x) (words_at b y)) (ih k)
        step ih (no k) =
            let e : h.at ≡ b = omega (arith, k) in
            then_second (slice_cmp R (words_below b x) (words_below b y)) (slice_cmp R (words_at b x) (words_at b y)) Less
            (itself (slice_cmp R) (Rattle.std.proofs.lemmas.Cmp.lists_total total) (words_below b x) (words_below b y) (below_of_at b (λ j jlt. at_of_same j (h.before j (omega arith))))) (at_it e)
