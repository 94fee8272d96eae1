-- Lists of the program's trees and rows.
use Rattle.std.specs.Prelude.{List, [], ◌∷◌, ◌++◌, map, Result, Ok, Err, IfOk, OnOk, ◌==◌, true}
use Rattle.std.proofs.Common.{◌≡◌, ℕ, zero, suc, ◌+◌, ◌<◌, ◌≤◌, ◌-◌, length, get_or, take, drop, refl, ap, sym, ◌∙◌, subst, arith, append_assoc, inl, inr}
use mathlib.Core.List.{append-nil}
use mathlib.Core.Path.{ap₂}
use Rattle.std.specs.List.{AllByRecursion}
use Rattle.std.proofs.lemmas.List.{map-append, nil_from_length, take_all}
use Rattle.std.proofs.lemmas.Bool.{eqb-true}
use Rattle.labelled_trees.specs.Trees.{Tree, Row, leaf, node, none, more}
use Rattle.labelled_trees.specs.Labelled.{Fits, FitsRow}
use Rattle.labelled_trees.specs.Meaning.{tree_of}
use Rattle.labelled_trees.specs.declared.Tree as program
use Rattle.labelled_trees.proofs.ProgramTrees.{tree_of-node}
use Rattle.modular_sums.specs.Lists.{Mem}
use Rattle.shuffle_insertions.specs.ShuffleTrees.{IsShuffleTree}
use Rattle.shuffle_insertions.specs.Listing.{joined_below, joined_splits, each_with_each, rows, lone, shuffles}
use Rattle.shuffle_insertions.proofs.LabelSums.{once_of}
use Rattle.shuffle_insertions.proofs.Splits.{Split, done, left, right, split_length}
use Rattle.shuffle_trees.specs.Rows.{row_of, rows_from, each_row, vertices_over, RowsBySplits}
use Rattle.shuffle_trees.specs.ValidTrees.{IsWide, AreWide, IsValid}

pub if_ok : {A E : Type 0} (r : Result A E) (P Q : A → Type 0) → ((x : A) → P x → Q x) → IfOk r P → IfOk r Q
if_ok (Ok x) P Q f h = f x h
if_ok (Err e) P Q f h = tt

pub on_ok : {A E : Type 0} (r : Result A E) (P Q : Type 0) → (P → Q) → OnOk r P → OnOk r Q
on_ok (Ok x) P Q f h = f h
on_ok (Err e) P Q f h = tt

-- ---- lists

pub no_items : {X : Type 0} (n : ℕ) (xs : List X) → (n == 0) ≡ true → n ≡ length xs → xs ≡ []
no_items n xs e f = nil_from_length xs (sym f ∙ eqb-true n 0 e)

pub first_and_rest : (l : List ℕ) → 1 ≤ length l → l ≡ get_or l 0 0 ∷ take (length l - 1) (drop 1 l)
first_and_rest [] le = absurd (omega arith)
first_and_rest (x ∷ l) le = ap (λ m. x ∷ m) (sym (let e : length (x ∷ l) - 1 ≡ length l = omega arith in ap (λ n. take n l) e ∙ take_all (length l) l (omega arith)))

-- ---- rows and vertices as what they stand for

rows_from-is : (t : program.Tree) (rs : List (List program.Tree)) → map row_of (rows_from t rs) ≡ map (λ r. more (tree_of t) r) (map row_of rs)
rows_from-is t [] = refl
rows_from-is t (r ∷ rs) = ap (λ l. more (tree_of t) (row_of r) ∷ l) (rows_from-is t rs)

pub each_row-is : (ts : List program.Tree) (rs : List (List program.Tree)) → map row_of (each_row ts rs) ≡ each_with_each (map tree_of ts) (map row_of rs)
each_row-is [] rs = refl
each_row-is (t ∷ ts) rs = map-append row_of (rows_from t rs) (each_row ts rs) ∙ ap₂ (λ k l. k ++ l) (rows_from-is t rs) (each_row-is ts rs)

pub vertices-is : (g : ℕ) (rs : List (List program.Tree)) → map tree_of (vertices_over g rs) ≡ map (λ r. node g r) (map row_of rs)
vertices-is g [] = refl
vertices-is g (r ∷ rs) = ap₂ (λ t l. t ∷ l) (tree_of-node g r) (vertices-is g rs)

pub rows_with : (t : program.Tree) (r : List program.Tree) (rs : List (List program.Tree)) → rows_from t (r ∷ rs) ≡ (t ∷ r) ∷ rows_from t rs
rows_with t r rs = refl

-- ---- divided numbers

pub each_none : (ts : List (Tree ℕ)) → each_with_each {X = ℕ} ts [] ≡ []
each_none [] = refl
each_none (t ∷ ts) = each_none ts

splits_none : {X : Type 0} (l : List ℕ) (f : List ℕ → List ℕ → List X) → ((b c : List ℕ) → Split l b c → f b c ≡ []) → joined_splits l f ≡ []
splits_none [] f h = h [] [] done
splits_none (x ∷ l) f h = ap₂ (λ k m. k ++ m) (splits_none l (λ b c. f (x ∷ b) c) (λ b c s. h (x ∷ b) c (left s))) (splits_none l (λ b c. f b (x ∷ c)) (λ b c s. h b (x ∷ c) (right s)))

splits_ext : {X : Type 0} (l : List ℕ) (f g : List ℕ → List ℕ → List X) → ((b c : List ℕ) → f b c ≡ g b c) → joined_splits l f ≡ joined_splits l g
splits_ext [] f g h = h [] []
splits_ext (x ∷ l) f g h = ap₂ (λ k m. k ++ m) (splits_ext l (λ b c. f (x ∷ b) c) (λ b c. g (x ∷ b) c) (λ b c. h (x ∷ b) c)) (splits_ext l (λ b c. f b (x ∷ c)) (λ b c. g b (x ∷ c)) (λ b c. h b (x ∷ c)))

-- fewer leaves than inputs
pub few_rows : (t : List ℕ → List (Tree ℕ)) (k : ℕ) (l : List ℕ) → length l < k → rows t k l ≡ []
few_rows t zero l lt = absurd (omega arith)
few_rows t (suc k) [] lt = refl
few_rows t (suc k) (a ∷ l) lt = splits_none l (λ b c. each_with_each (t (a ∷ b)) (rows t k c))
    (λ b c s. ap (each_with_each (t (a ∷ b))) (few_rows t k c (let n = split_length s in omega (arith, n, lt))) ∙ each_none (t (a ∷ b)))

below_none : {X : Type 0} (b : ℕ) (f : ℕ → List X) → ((g : ℕ) → g < b → f g ≡ []) → joined_below b f ≡ []
below_none zero f h = refl
below_none (suc b) f h = ap₂ (λ k l. k ++ l) (below_none b f (λ g lt. h g (omega arith))) (h b (omega arith))

-- over fewer than two leaves there is the leaf alone at most
pub lone_alone : (labels : ℕ) (arity : ℕ → ℕ) (levels : ℕ) (l : List ℕ) → ((g : ℕ) → g < labels → 2 ≤ arity g) → length l < 2 → lone l ≡ shuffles labels arity (suc levels) l
lone_alone labels arity levels l wide lt =
    sym (append-nil (lone l))
    ∙ ap (λ m. lone l ++ m) (sym (below_none labels (λ g. map (λ r. node g r) (rows (shuffles labels arity levels) (arity g) l))
    (λ g h. ap (map (λ r. node g r)) (few_rows (shuffles labels arity levels) (arity g) l (omega (arith, wide g h, lt))))))

-- ---- the steps of the list

module _ (t : List ℕ → List (Tree ℕ)) (k : ℕ) (first later : List ℕ) where
  pub split_end : (before : List (List program.Tree)) (trees : List program.Tree) (rs after : List (List program.Tree)) → map tree_of trees ≡ t first → map row_of rs ≡ rows t k later
      → after ≡ before ++ each_row trees rs → RowsBySplits t k [] first later before after
  split_end before trees rs after e f is =
      ap (map row_of) is ∙ map-append row_of before (each_row trees rs)
      ∙ ap (λ l. map row_of before ++ l) (each_row-is trees rs ∙ ap₂ each_with_each (e ∙ ap t (sym (append-nil first))) (f ∙ ap (rows t k) (sym (append-nil later))))

  pub split_none : (before rs : List (List program.Tree)) → map row_of rs ≡ rows t k later → rs ≡ [] → RowsBySplits t k [] first later before before
  split_none before rs f z =
      sym (append-nil (map row_of before))
      ∙ ap (λ l. map row_of before ++ l) (sym (ap (each_with_each (t (first ++ []))) (ap (rows t k) (append-nil later) ∙ sym f ∙ ap (map row_of) z) ∙ each_none (t (first ++ []))))

  pub split_next : (x : ℕ) (l : List ℕ) (before middle after : List (List program.Tree)) → RowsBySplits t k l (first ++ x ∷ []) later before middle → RowsBySplits t k l first (later ++ x ∷ []) middle after
      → RowsBySplits t k (x ∷ l) first later before after
  split_next x l before middle after p q =
      q ∙ ap (λ m. m ++ joined_splits l (λ b c. each_with_each (t (first ++ b)) (rows t k ((later ++ x ∷ []) ++ c)))) p
      ∙ append_assoc (map row_of before) (joined_splits l (λ b c. each_with_each (t ((first ++ x ∷ []) ++ b)) (rows t k (later ++ c)))) (joined_splits l (λ b c. each_with_each (t (first ++ b)) (rows t k ((later ++ x ∷ []) ++ c))))
      ∙ ap (λ m. map row_of before ++ m) (ap₂ (λ m n. m ++ n)
      (splits_ext l (λ b c. each_with_each (t ((first ++ x ∷ []) ++ b)) (rows t k (later ++ c))) (λ b c. each_with_each (t (first ++ x ∷ b)) (rows t k (later ++ c)))
      (λ b c. ap (λ m. each_with_each (t m) (rows t k (later ++ c))) (append_assoc first (x ∷ []) b)))
      (splits_ext l (λ b c. each_with_each (t (first ++ b)) (rows t k ((later ++ x ∷ []) ++ c))) (λ b c. each_with_each (t (first ++ b)) (rows t k (later ++ x ∷ c)))
      (λ b c. ap (λ m. each_with_each (t (first ++ b)) (rows t k m)) (append_assoc later (x ∷ []) c))))

pub at_end : (t : List ℕ → List (Tree ℕ)) (k : ℕ) (numbers first later : List ℕ) (before after : List (List program.Tree)) → length numbers ≡ 0 → RowsBySplits t k [] first later before after → RowsBySplits t k numbers first later before after
at_end t k numbers first later before after e h = subst (λ l. RowsBySplits t k l first later before after) (sym (nil_from_length numbers e)) h

-- the vertices of one more label
pub label_next : (labels : ℕ) (arity : ℕ → ℕ) (levels i : ℕ) (leaves : List ℕ) (made after : List program.Tree) (rs : List (List program.Tree)) (a : ℕ) → a ≡ arity i
    → map tree_of made ≡ lone leaves ++ joined_below i (λ g. map (λ r. node g r) (rows (shuffles labels arity levels) (arity g) leaves))
    → map row_of rs ≡ rows (shuffles labels arity levels) a leaves → after ≡ made ++ vertices_over i rs
    → map tree_of after ≡ lone leaves ++ joined_below (i + 1) (λ g. map (λ r. node g r) (rows (shuffles labels arity levels) (arity g) leaves))
label_next labels arity levels i leaves made after rs a e before is put =
    ap (map tree_of) put ∙ map-append tree_of made (vertices_over i rs)
    ∙ ap₂ (λ k l. k ++ l) before (vertices-is i rs ∙ ap (map (λ r. node i r)) (is ∙ ap (λ m. rows (shuffles labels arity levels) m leaves) e))
    ∙ append_assoc (lone leaves) (joined_below i (λ g. map (λ r. node g r) (rows (shuffles labels arity levels) (arity g) leaves))) (map (λ r. node i r) (rows (shuffles labels arity levels) (arity i) leaves))
    ∙ ap (λ n. lone leaves ++ joined_below n (λ g. map (λ r. node g r) (rows (shuffles labels arity levels) (arity g) leaves))) (let s : suc i ≡ i + 1 = omega arith in s)

-- ---- valid trees

mutual
  pub fits_wide : (arity : ℕ → ℕ) (t : Tree ℕ) → Fits arity t → IsWide t
  fits_wide arity (leaf n) h = tt
  fits_wide arity (node l r) h = (omega (arith, h.0, h.1), fits_row_wide arity r h.2)

  pub fits_row_wide : (arity : ℕ → ℕ) (r : Row ℕ) → FitsRow arity r → AreWide r
  fits_row_wide arity none h = tt
  fits_row_wide arity (more t r) h = (fits_wide arity t h.0, fits_row_wide arity r h.1)

pub shuffle_valid : (arity : ℕ → ℕ) (n : ℕ) (t : Tree ℕ) → n < 256 → IsShuffleTree arity n t → IsValid t
shuffle_valid arity n t lt h = record {
  wide = fits_wide arity t h.fits;
  rising = h.shuffle.rising;
  once = once_of n t h.shuffle;
  only = λ i o. let w = h.shuffle.only i o in (w.0, omega (arith, w.1, lt));
}

pub all_valid : (arity : ℕ → ℕ) (n : ℕ) (l : List (Tree ℕ)) → n < 256 → ((t : Tree ℕ) → Mem t l → IsShuffleTree arity n t) → AllByRecursion IsValid l
all_valid arity n [] lt h = tt
all_valid arity n (t ∷ l) lt h = (shuffle_valid arity n t lt (h t (inl refl)), all_valid arity n l lt (λ u m. h u (inr m)))
