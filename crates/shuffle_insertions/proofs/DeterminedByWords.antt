-- Words and leaf row together determine the tree.
use Rattle.std.proofs.Common.{◌≡◌, ℕ, List, [], ◌∷◌, length, refl, sym, ◌∙◌, ap, arith, inl, inr, append_assoc, length-append}
use mathlib.Core.Path.{ap₂}
use mathlib.Core.List.{◌++◌}
use Rattle.labelled_trees.specs.Trees.{Tree, Row, leaf, node, none, more, leaves, leaves_row, width}
use Rattle.shuffle_insertions.proofs.Words.{under, words, words_row, under-append, under-under}
use Rattle.shuffle_insertions.specs.ShuffleTrees.{HasInput, IsRising, IsRisingRow}
use Rattle.shuffle_insertions.proofs.PathWords.{HasWord, HasWordRow}
use Rattle.labelled_trees.specs.Labelled.{Fits, FitsRow}
use Rattle.modular_sums.proofs.Lists.{tail_same}

-- each leaf of a row with its word
abbrev pub tag : (ℕ → List ℕ) → List ℕ → List (ℕ × List ℕ)
tag f [] = []
tag f (i ∷ l) = (i, f i) ∷ tag f l

tag-append : (f : ℕ → List ℕ) (k l : List ℕ) → tag f (k ++ l) ≡ tag f k ++ tag f l
tag-append f [] l = refl
tag-append f (i ∷ k) l = ap (λ m. (i, f i) ∷ m) (tag-append f k l)

snoc_word : (p : List ℕ) (l : ℕ) (w : List ℕ) → (p ++ (l ∷ [])) ++ w ≡ p ++ (l ∷ w)
snoc_word p l w = append_assoc p (l ∷ []) w

mutual
  pub words_tagged : (t : Tree ℕ) (p : List ℕ) (f : ℕ → List ℕ) → ((j : ℕ) (w : List ℕ) → HasWord t j w → f j ≡ p ++ w) → under p (words t) ≡ tag f (leaves t)
  words_tagged (leaf n) p f h = ap (λ v. (n, v) ∷ []) (sym (h n [] (refl, refl)))
  words_tagged (node l r) p f h =
      under-under p (l ∷ []) (words_row r)
      ∙ words_row_tagged r (p ++ (l ∷ [])) f (λ j w k. h j (l ∷ w) (w, refl, k) ∙ sym (snoc_word p l w))

  pub words_row_tagged : (r : Row ℕ) (p : List ℕ) (f : ℕ → List ℕ) → ((j : ℕ) (w : List ℕ) → HasWordRow r j w → f j ≡ p ++ w) → under p (words_row r) ≡ tag f (leaves_row r)
  words_row_tagged none p f h = refl
  words_row_tagged (more t r) p f h =
      under-append p (words t) (words_row r)
      ∙ ap₂ (λ k l. k ++ l) (words_tagged t p f (λ j w k. h j w (inl k))) (words_row_tagged r p f (λ j w k. h j w (inr k)))
      ∙ sym (tag-append f (leaves t) (leaves_row r))

-- the first leaf and its word
abbrev First : List (ℕ × List ℕ) → List ℕ → Type 0
First l p = (n : ℕ) × (v : List ℕ) × (k : List (ℕ × List ℕ)) × (l ≡ (n, p ++ v) ∷ k)

mutual
  first_word : (t : Tree ℕ) (p : List ℕ) → IsRising t → First (under p (words t)) p
  first_word (leaf n) p h = (n, [], [], refl)
  first_word (node l r) p h =
      let f = first_word_row r (p ++ (l ∷ [])) h.0 h.1 in
      (f.0, l ∷ f.1, f.2, under-under p (l ∷ []) (words_row r) ∙ f.3 ∙ ap (λ v. (f.0, v) ∷ f.2) (snoc_word p l f.1))

  first_word_row : (r : Row ℕ) (p : List ℕ) → HasInput r → IsRisingRow r → First (under p (words_row r)) p
  first_word_row none p h g = absurd h
  first_word_row (more t r) p h g =
      let f = first_word t p g.0 in
      (f.0, f.1, f.2 ++ under p (words_row r), under-append p (words t) (words_row r) ∙ ap (λ k. k ++ under p (words_row r)) f.3)

pair_same : (m n : ℕ) (v w : List ℕ) (k l : List (ℕ × List ℕ)) → ◌≡◌ {A = List (ℕ × List ℕ)} ((m, v) ∷ k) ((n, w) ∷ l) → (m ≡ n) × (v ≡ w) × (k ≡ l)
pair_same m n v w k l e = let h = tail_same (m, v) (n, w) k l e in (ap (λ (x : ℕ × List ℕ). x.0) h.0, ap (λ (x : ℕ × List ℕ). x.1) h.0, h.1)

-- two words with one front that are one have one next letter
next_letter : (p : List ℕ) (l m : ℕ) (v w : List ℕ) → p ++ (l ∷ v) ≡ p ++ (m ∷ w) → l ≡ m
next_letter [] l m v w e = (tail_same l m v w e).0
next_letter (x ∷ p) l m v w e = next_letter p l m v w (tail_same x x (p ++ (l ∷ v)) (p ++ (m ∷ w)) e).1

no_letter : (p : List ℕ) (m : ℕ) (w : List ℕ) → p ++ [] ≡ p ++ (m ∷ w) → ⊥
no_letter p m w e = let h : length (p ++ []) ≡ length (p ++ (m ∷ w)) = ap length e in
    absurd (omega (arith, h, length-append p [], length-append p (m ∷ w)))

-- the first letters of what stands at the head of two lists
root_same : (p : List ℕ) (l m : ℕ) (r s : Row ℕ) (k k' : List (ℕ × List ℕ)) → IsRising (node l r) → IsRising (node m s)
    → under p (words (node l r)) ++ k ≡ under p (words (node m s)) ++ k' → l ≡ m
root_same p l m r s k k' hx hy e =
    let a = first_word_row r (p ++ (l ∷ [])) hx.0 hx.1 in
    let b = first_word_row s (p ++ (m ∷ [])) hy.0 hy.1 in
    let ea = under-under p (l ∷ []) (words_row r) ∙ a.3 ∙ ap (λ v. (a.0, v) ∷ a.2) (snoc_word p l a.1) in
    let eb = under-under p (m ∷ []) (words_row s) ∙ b.3 ∙ ap (λ v. (b.0, v) ∷ b.2) (snoc_word p m b.1) in
    let h = pair_same a.0 b.0 (p ++ (l ∷ a.1)) (p ++ (m ∷ b.1)) (a.2 ++ k) (b.2 ++ k') (ap (λ z. z ++ k) (sym ea) ∙ e ∙ ap (λ z. z ++ k') eb) in
    next_letter p l m a.1 b.1 h.1

leaf_not_node : (p : List ℕ) (n m : ℕ) (s : Row ℕ) (k k' : List (ℕ × List ℕ)) → IsRising (node m s) → under p (words (leaf n)) ++ k ≡ under p (words (node m s)) ++ k' → ⊥
leaf_not_node p n m s k k' hy e =
    let b = first_word_row s (p ++ (m ∷ [])) hy.0 hy.1 in
    let eb = under-under p (m ∷ []) (words_row s) ∙ b.3 ∙ ap (λ v. (b.0, v) ∷ b.2) (snoc_word p m b.1) in
    let h = pair_same n b.0 (p ++ []) (p ++ (m ∷ b.1)) k (b.2 ++ k') (e ∙ ap (λ z. z ++ k') eb) in
    no_letter p m b.1 h.1

module _ (arity : ℕ → ℕ) where
  mutual
    -- what stands at the head of a list of leaves with their words is one tree
    pub parse : (x y : Tree ℕ) (p : List ℕ) (k k' : List (ℕ × List ℕ)) → IsRising x → IsRising y → Fits arity x → Fits arity y
        → under p (words x) ++ k ≡ under p (words y) ++ k' → (x ≡ y) × (k ≡ k')
    parse (leaf m) (leaf n) p k k' hx hy bx by e = let h = pair_same m n (p ++ []) (p ++ []) k k' e in (ap leaf h.0, h.2)
    parse (leaf n) (node m s) p k k' hx hy bx by e = absurd (leaf_not_node p n m s k k' hy e)
    parse (node l r) (leaf n) p k k' hx hy bx by e = absurd (leaf_not_node p n l r k' k hx (sym e))
    parse (node l r) (node m s) p k k' hx hy bx by e =
        let lm = root_same p l m r s k k' hx hy e in
        let h = parse_row r s (p ++ (l ∷ [])) k k' hx.1 hy.1 bx.2 by.2 (bx.1 ∙ ap arity lm ∙ sym by.1)
        (ap (λ z. z ++ k) (sym (under-under p (l ∷ []) (words_row r))) ∙ e ∙ ap (λ z. z ++ k') (under-under p (m ∷ []) (words_row s))
        ∙ ap (λ z. under (p ++ (z ∷ [])) (words_row s) ++ k') (sym lm)) in
        (ap₂ node lm h.0, h.1)

    pub parse_row : (r s : Row ℕ) (p : List ℕ) (k k' : List (ℕ × List ℕ)) → IsRisingRow r → IsRisingRow s → FitsRow arity r → FitsRow arity s → width r ≡ width s
        → under p (words_row r) ++ k ≡ under p (words_row s) ++ k' → (r ≡ s) × (k ≡ k')
    parse_row none none p k k' hx hy bx by i e = (refl, e)
    parse_row none (more u s) p k k' hx hy bx by i e = absurd (omega arith)
    parse_row (more t r) none p k k' hx hy bx by i e = absurd (omega arith)
    parse_row (more t r) (more u s) p k k' hx hy bx by i e =
        let a = parse t u p (under p (words_row r) ++ k) (under p (words_row s) ++ k') hx.0 hy.0 bx.0 by.0
        (sym (append_assoc (under p (words t)) (under p (words_row r)) k) ∙ ap (λ z. z ++ k) (sym (under-append p (words t) (words_row r))) ∙ e
        ∙ ap (λ z. z ++ k') (under-append p (words u) (words_row s)) ∙ append_assoc (under p (words u)) (under p (words_row s)) k') in
        let b = parse_row r s p k k' hx.2 hy.2 bx.1 by.1 (omega arith) a.1 in
        (ap₂ more a.0 b.0, b.1)

  -- the leaves from left to right with their words determine the tree
  pub determined : (x y : Tree ℕ) → IsRising x → IsRising y → Fits arity x → Fits arity y → words x ≡ words y → x ≡ y
  determined x y hx hy bx by e =
      (parse x y [] [] [] hx hy bx by (ap (λ z. under [] z ++ []) e)).0
