-- The words of the leaves of a graft.
use Rattle.std.specs.Prelude.{ℕ, List, [], ◌∷◌, ◌++◌}
use Rattle.std.proofs.Common.{◌≡◌, ℕ, List, [], ◌∷◌, refl, sym, ◌∙◌, ap, append_assoc}
use mathlib.Core.List.{◌++◌, append-nil}
use mathlib.Core.Path.{ap₂}
use Rattle.labelled_trees.specs.Trees.{Tree, Row, leaf, node, none, more, graft, graft_row}

-- a word before the word of each leaf
abbrev pub under : {A : Type 0} → List ℕ → List (A × List ℕ) → List (A × List ℕ)
under w [] = []
under w (x ∷ l) = (x.0, w ++ x.1) ∷ under w l

-- the leaves from left to right, each with its word
abbrev mutual
  pub words : {A : Type 0} → Tree A → List (A × List ℕ)
  words (leaf a) = (a, []) ∷ []
  words (node l r) = under (l ∷ []) (words_row r)

  pub words_row : {A : Type 0} → Row A → List (A × List ℕ)
  words_row none = []
  words_row (more t r) = words t ++ words_row r

-- in place of each leaf the leaves of the tree that stands for it, each under the leaf's word
abbrev pub words_of_parts : {A B : Type 0} → (A → Tree B) → List (A × List ℕ) → List (B × List ℕ)
words_of_parts s [] = []
words_of_parts s (x ∷ l) = under x.1 (words (s x.0)) ++ words_of_parts s l

pub under-append : {A : Type 0} (w : List ℕ) (k l : List (A × List ℕ)) → under w (k ++ l) ≡ under w k ++ under w l
under-append w [] l = refl
under-append w (x ∷ k) l = ap (λ m. (x.0, w ++ x.1) ∷ m) (under-append w k l)

pub under-under : {A : Type 0} (v w : List ℕ) (l : List (A × List ℕ)) → under v (under w l) ≡ under (v ++ w) l
under-under v w [] = refl
under-under v w (x ∷ l) = ap₂ (λ y m. (x.0, y) ∷ m) (sym (append_assoc v w x.1)) (under-under v w l)

pub under-nil : {A : Type 0} (l : List (A × List ℕ)) → under [] l ≡ l
under-nil [] = refl
under-nil (x ∷ l) = ap (λ m. (x.0, x.1) ∷ m) (under-nil l)

words_of_parts-append : {A B : Type 0} (s : A → Tree B) (k l : List (A × List ℕ)) → words_of_parts s (k ++ l) ≡ words_of_parts s k ++ words_of_parts s l
words_of_parts-append s [] l = refl
words_of_parts-append s (x ∷ k) l =
    ap (λ m. under x.1 (words (s x.0)) ++ m) (words_of_parts-append s k l) ∙ sym (append_assoc (under x.1 (words (s x.0))) (words_of_parts s k) (words_of_parts s l))

words_of_parts-under : {A B : Type 0} (s : A → Tree B) (w : List ℕ) (l : List (A × List ℕ)) → words_of_parts s (under w l) ≡ under w (words_of_parts s l)
words_of_parts-under s w [] = refl
words_of_parts-under s w (x ∷ l) =
    ap₂ (λ y m. y ++ m) (sym (under-under w x.1 (words (s x.0)))) (words_of_parts-under s w l)
    ∙ sym (under-append w (under x.1 (words (s x.0))) (words_of_parts s l))

mutual
  -- the words of a graft: the word of the leaf, then the word in its part
  pub words-graft : {A B : Type 0} (t : Tree A) (s : A → Tree B) → words (graft t s) ≡ words_of_parts s (words t)
  words-graft (leaf a) s = sym (append-nil (under [] (words (s a))) ∙ under-nil (words (s a)))
  words-graft (node l r) s = ap (under (l ∷ [])) (words_row-graft r s) ∙ sym (words_of_parts-under s (l ∷ []) (words_row r))

  pub words_row-graft : {A B : Type 0} (r : Row A) (s : A → Tree B) → words_row (graft_row r s) ≡ words_of_parts s (words_row r)
  words_row-graft none s = refl
  words_row-graft (more t r) s = ap₂ (λ k l. k ++ l) (words-graft t s) (words_row-graft r s) ∙ sym (words_of_parts-append s (words t) (words_row r))
