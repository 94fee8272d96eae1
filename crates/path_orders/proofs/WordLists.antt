-- Lists of words of two trees.
use Rattle.std.specs.Prelude.{Bool, true, false, List, [], ◌∷◌, ◌++◌}
use Rattle.std.proofs.Common.{◌≡◌, ◌≢◌, ℕ, zero, suc, ◌+◌, ◌<◌, ◌≤◌, length, drop, refl, ap, sym, ◌∙◌, subst, arith, length-drop, append_assoc}
use mathlib.Core.List.{append-nil}
use mathlib.Core.Path.{ap₂}
use Rattle.std.specs.declared.cmp.Ordering.{Ordering}
use Rattle.std.specs.declared.cmp.Ordering.TheVariants.{Less, Equal, Greater}
use Rattle.std.specs.Ordering.{ordering_then}
use Rattle.std.specs.Cmp.{IsTotalOrder}
use Rattle.std.specs.Cmp.Lexicographic.{slice_cmp}
use Rattle.std.proofs.lemmas.List.{nil_from_length}
use Rattle.labelled_trees.specs.Trees.{Tree, Row, leaf, node, none, more, leaves, leaves_row}
use Rattle.labelled_trees.specs.Leaves.{occurs, leaf_count, leaf_count_row}
use Rattle.shuffle_insertions.specs.ShuffleTrees.{IsShuffle}
use Rattle.shuffle_insertions.specs.Keys.{words_at, words_below}
use Rattle.shuffle_insertions.proofs.Comparing.{word_total, short_total, word_same, short_same, itself, slice_cmp-append}
use Rattle.shuffle_insertions.proofs.Keys.{length-words_at}
use Rattle.shuffle_trees.proofs.Counts.{count_of_shuffle}
use Rattle.path_orders.specs.Comparing.{words_by}

words_total : (short : Bool) → IsTotalOrder (words_by short)
words_total true = short_total
words_total false = word_total

words_same : (short : Bool) (v w : List ℕ) → words_by short v w ≡ Equal → v ≡ w
words_same true v w e = short_same v w e
words_same false v w e = word_same v w e

less_at_end : {X : Type 0} (R : X → X → Ordering) (m n : List X) → m ≡ [] → 0 < length n → Less ≡ slice_cmp R m n
less_at_end R [] [] e p = absurd (omega arith)
less_at_end R [] (y ∷ n) e p = refl
less_at_end R (x ∷ m) n e p = absurd (cc e)

-- the first list has ended, and the second not
pub ended_less : {X : Type 0} (R : X → X → Ordering) (k l : List X) (i : ℕ) → length k ≤ i → i < length l → Less ≡ slice_cmp R (drop i k) (drop i l)
ended_less R k l i a b = less_at_end R (drop i k) (drop i l) (nil_from_length (drop i k) (let d = length-drop i k in omega (arith, d, a))) (let d = length-drop i l in omega (arith, d, b))

-- ---- the words of shuffle trees

pub word_alone : (j : ℕ) (t : Tree ℕ) → occurs j t ≡ 1 → (v : List ℕ) × (words_at j t ≡ v ∷ [])
word_alone j t o = go (words_at j t) (length-words_at j t ∙ o)
  where
    go : (ws : List (List ℕ)) → length ws ≡ 1 → (v : List ℕ) × (ws ≡ v ∷ [])
    go [] e = absurd (omega arith)
    go (v ∷ []) e = (v, refl)
    go (v ∷ (w ∷ ws)) e = absurd (omega arith)

no_first : (n : ℕ) (t : Tree ℕ) → IsShuffle n t → words_below 1 t ≡ []
no_first n t h = nil_from_length (words_at 0 t) (length-words_at 0 t ∙ let none : 0 < occurs 0 t → ⊥ = λ o. (let w = h.only 0 o in omega (arith, w.0)) in let z : occurs 0 t ≡ 0 = omega (arith, none) in z)

pub words_begin : (n : ℕ) (a b : Tree ℕ) → IsShuffle n a → IsShuffle n b → words_below 1 a ≡ words_below 1 b
words_begin n a b ha hb = no_first n a ha ∙ sym (no_first n b hb)

-- the words from a leaf on
rest_below : (j k : ℕ) (t : Tree ℕ) → (rest : List (List ℕ)) × (words_below (suc (j + k)) t ≡ words_below j t ++ (words_at j t ++ rest))
rest_below j zero t = ([], ap (λ m. words_below m t) (let s : suc (j + 0) ≡ suc j = omega arith in s) ∙ ap (λ l. words_below j t ++ l) (sym (append-nil (words_at j t))))
rest_below j (suc k) t =
    let h = rest_below j k t in (
      h.0 ++ words_at (suc (j + k)) t,
      ap (λ m. words_below m t) (let s : suc (j + suc k) ≡ suc (suc (j + k)) = omega arith in s) ∙ ap (λ l. l ++ words_at (suc (j + k)) t) h.1
          ∙ append_assoc (words_below j t) (words_at j t ++ h.0) (words_at (suc (j + k)) t)
          ∙ ap (λ l. words_below j t ++ l) (append_assoc (words_at j t) h.0 (words_at (suc (j + k)) t)),
    )

decided : (o p : Ordering) → o ≢ Equal → ordering_then o p ≡ o
decided Less p h = refl
decided Equal p h = absurd (h refl)
decided Greater p h = refl

module _ (short : Bool) (n : ℕ) (a b : Tree ℕ) (ha : IsShuffle n a) (hb : IsShuffle n b) where
  abbrev R : List ℕ → List ℕ → Ordering
  R = words_by short

  -- the words of leaf j are compared, where those of the leaves before it are the same
  pub words_step : (j : ℕ) (v w : List ℕ) → words_at j a ≡ v ∷ [] → words_at j b ≡ w ∷ [] → words_below j a ≡ words_below j b → words_by short v w ≡ Equal → words_below (suc j) a ≡ words_below (suc j) b
  words_step j v w ea eb same e = ap₂ (λ k l. k ++ l) same (ea ∙ ap (λ x. x ∷ []) (words_same short v w e) ∙ sym eb)

  pub words_differ : (j k : ℕ) (v w : List ℕ) (o : Ordering) → words_at j a ≡ v ∷ [] → words_at j b ≡ w ∷ [] → words_below j a ≡ words_below j b → o ≡ words_by short v w → (o ≡ Equal → ⊥)
      → o ≡ slice_cmp (words_by short) (words_below (suc (j + k)) a) (words_below (suc (j + k)) b)
  words_differ j k v w o ea eb same is ne =
      let x = rest_below j k a in
      let y = rest_below j k b in
      let front : slice_cmp R (words_below j a) (words_below j b) ≡ Equal = itself (slice_cmp R) (Rattle.std.proofs.lemmas.Cmp.lists_total (words_total short)) (words_below j a) (words_below j b) same in
      let back : slice_cmp R (words_at j a ++ x.0) (words_at j b ++ y.0) ≡ ordering_then (R v w) (slice_cmp R x.0 y.0) = ap₂ (λ p q. slice_cmp R (p ++ x.0) (q ++ y.0)) ea eb in
      sym (ap₂ (slice_cmp R) x.1 y.1 ∙ slice_cmp-append R (words_below j a) (words_below j b) (words_at j a ++ x.0) (words_at j b ++ y.0) (ap length same)
      ∙ ap₂ ordering_then front back ∙ decided (R v w) (slice_cmp R x.0 y.0) (λ e. ne (is ∙ e)) ∙ sym is)

  pub words_agree : (k l : List (List ℕ)) → k ≡ l → Equal ≡ slice_cmp (words_by short) k l
  words_agree k l e = sym (itself (slice_cmp R) (Rattle.std.proofs.lemmas.Cmp.lists_total (words_total short)) k l e)

-- ---- how many leaves

mutual
  pub length-leaves : (t : Tree ℕ) → length (leaves t) ≡ leaf_count t
  length-leaves (leaf n) = refl
  length-leaves (node l r) = length-leaves_row r

  length-leaves_row : (r : Row ℕ) → length (leaves_row r) ≡ leaf_count_row r
  length-leaves_row none = refl
  length-leaves_row (more t r) = Rattle.std.proofs.Common.length-append (leaves t) (leaves_row r) ∙ ap₂ (λ m n. m + n) (length-leaves t) (length-leaves_row r)

pub one_number : (m n : ℕ) (t : Tree ℕ) → IsShuffle m t → IsShuffle n t → m ≡ n
one_number m n t h k = sym (count_of_shuffle m t h) ∙ count_of_shuffle n t k
