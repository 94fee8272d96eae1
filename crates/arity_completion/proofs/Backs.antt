-- Sums of shuffle trees, passed back and collected.
use Rattle.std.proofs.Common.{◌≡◌, ℕ, zero, suc, ◌+◌, ◌*◌, ◌-◌, ◌%◌, ◌<◌, ◌≤◌, List, [], ◌∷◌, ◌++◌, length, take, get_or, refl, sym, ap, ap₂, ◌∙◌, subst, arith}
use Rattle.std.specs.Prelude.{Result, Ok, Err, IfOk}
use Rattle.std.specs.List.{All, AllByRecursion}
use Rattle.std.proofs.lemmas.List.Elements.{recursion_from_All, All-from_recursion}
use Rattle.modular_sums.specs.Sums.{Same, moved, AllTerms, coef}
use Rattle.modular_sums.proofs.Images.{Same-moved}
use Rattle.labelled_trees.specs.Trees.{Tree, leaf}
use Rattle.labelled_trees.specs.Equality.{tree_discrete}
use Rattle.labelled_trees.specs.Labelled.{IsLabelled}
use Rattle.labelled_trees.specs.Meaning.{tree_of}
use Rattle.labelled_trees.proofs.Numbered.{numbered_of_labelled}
use Rattle.operad_ideals.specs.Presentations.{Presentation, residue_of, parts, arity_of}
use Rattle.operad_ideals.specs.Sorting.{spelled_sign}
use Rattle.operad_ideals.specs.SpelledSums.{spelled_sum}
use Rattle.operad_ideals.specs.Spelling.{IsSorted}
use Rattle.operad_ideals.proofs.Spellings.{sorted_spelling}
use Rattle.shuffle_insertions.specs.ShuffleTrees.{IsShuffleTree}
use Rattle.shuffle_transfer.specs.Labels.{inputs_of, shuffle_form, symmetric_tree}
use Rattle.shuffle_transfer.specs.Transfer.{shuffled}
use Rattle.shuffle_transfer.proofs.ShuffleFormsFit.{spelling, back_law}
use Rattle.shuffle_transfer.proofs.Spanning.{all_forms, all_labelled}
use Rattle.symmetric_trees.specs.Trees as table
use Rattle.symmetric_trees.specs.Generators.{parts_at, generators_of}
use Rattle.symmetric_trees.specs.declared.generators.Generator.{Generator}
use Rattle.operad_ideals.specs.Collected.{IsCollected}
use Rattle.symmetric_sums.specs.Membership.{presentation_of}
use Rattle.symmetric_sums.specs.Terms.{HaveArity, HaveResidues, terms_of}
use Rattle.symmetric_sums.specs.declared.term.Term.{Term}
use Rattle.arity_completion.specs.Uses.{IsElementFor}
use Rattle.shuffle_transfer.proofs.SortedForms.{collected_same}

-- ---- sums whose terms were passed back

abbrev first : List (ℕ × Tree ℕ) → ℕ × Tree ℕ
first [] = (0, leaf 0)
first (x ∷ l) = x

abbrev behind : List (ℕ × Tree ℕ) → List (ℕ × Tree ℕ)
behind [] = []
behind (x ∷ l) = l

module _ (m : ℕ) (gens : List Generator) (n : ℕ) where
  abbrev back : Tree ℕ → Tree ℕ
  back = symmetric_tree (generators_of gens)

  labels_back : (sum : List Term) (l : List (ℕ × Tree ℕ)) → terms_of sum ≡ moved (symmetric_tree (generators_of gens)) l → AllTerms l (IsShuffleTree (inputs_of (generators_of gens)) n)
      → AllByRecursion (λ (t : Term). table.IsLabelled gens n (tree_of t.tree)) sum
  labels_back [] l e h = tt
  labels_back (t ∷ sum) [] e h = absurd (cc e)
  labels_back (t ∷ sum) (x ∷ l) e h =
      (subst (table.IsLabelled gens n) (sym (ap (λ k. (first k).1) e)) (back_law (generators_of gens) n x.1 h.0).0, labels_back sum l (ap behind e) h.1)

  small_back : (sum : List Term) (l : List (ℕ × Tree ℕ)) → terms_of sum ≡ moved (symmetric_tree (generators_of gens)) l → AllByRecursion (λ (x : ℕ × Tree ℕ). (0 < x.0) × (x.0 < m)) l
      → AllByRecursion (λ (t : Term). t.coef < m) sum
  small_back [] l e h = tt
  small_back (t ∷ sum) [] e h = absurd (cc e)
  small_back (t ∷ sum) (x ∷ l) e h = (subst (λ c. c < m) (sym (ap (λ k. (first k).0) e)) h.0.1, small_back sum l (ap behind e) h.1)

  pub are_labelled : (sum : List Term) (l : List (ℕ × Tree ℕ)) → terms_of sum ≡ moved (symmetric_tree (generators_of gens)) l → AllTerms l (IsShuffleTree (inputs_of (generators_of gens)) n) → All (λ (t : Term). table.IsLabelled gens n (tree_of t.tree)) sum
  are_labelled sum l e h = All-from_recursion (λ (t : Term). table.IsLabelled gens n (tree_of t.tree)) sum (labels_back sum l e h)

  pub are_fit : (sum : List Term) (l : List (ℕ × Tree ℕ)) → terms_of sum ≡ moved (symmetric_tree (generators_of gens)) l → AllTerms l (IsShuffleTree (inputs_of (generators_of gens)) n) → All (λ (t : Term). table.Fits gens (tree_of t.tree)) sum
  are_fit sum l e h k d less = (are_labelled sum l e h k d less).fits

  pub have_arity : (sum : List Term) (l : List (ℕ × Tree ℕ)) → terms_of sum ≡ moved (symmetric_tree (generators_of gens)) l → AllTerms l (IsShuffleTree (inputs_of (generators_of gens)) n) → HaveArity n sum
  have_arity sum l e h k d less = numbered_of_labelled (are_labelled sum l e h k d less)

  pub have_residues : (sum : List Term) (l : List (ℕ × Tree ℕ)) → terms_of sum ≡ moved (symmetric_tree (generators_of gens)) l → All (λ (x : ℕ × Tree ℕ). (0 < x.0) × (x.0 < m)) l → HaveResidues m sum
  have_residues sum l e h = All-from_recursion (λ (t : Term). t.coef < m) sum (small_back sum l e (recursion_from_All (λ (x : ℕ × Tree ℕ). (0 < x.0) × (x.0 < m)) l h))

-- the first terms
pub take_terms : (P : Tree ℕ → Type 0) (i : ℕ) (l : List (ℕ × Tree ℕ)) → AllTerms l P → AllTerms (take i l) P
take_terms P zero l h = tt
take_terms P (suc i) [] h = tt
take_terms P (suc i) (x ∷ l) h = (h.0, take_terms P i l h.1)

pub term_at : (P : Tree ℕ → Type 0) (i : ℕ) (l : List (ℕ × Tree ℕ)) (d : ℕ × Tree ℕ) → i < length l → AllTerms l P → P (get_or l i d).1
term_at P i [] d less h = absurd (omega (arith, less))
term_at P zero (x ∷ l) d less h = h.0
term_at P (suc i) (x ∷ l) d less h = term_at P i l d (omega (arith, less)) h.1

-- one term more
pub back_more : (f : Tree ℕ → Tree ℕ) (l : List (ℕ × Tree ℕ)) (i : ℕ) (x : ℕ × Tree ℕ) (sum next : List (ℕ × Tree ℕ)) → i < length l → x ≡ get_or l i x → sum ≡ moved f (take i l) → next ≡ sum ++ (x.0, f x.1) ∷ [] → next ≡ moved f (take (i + 1) l)
back_more f l i x sum next less at is n = n ∙ ap (λ k. k ++ (x.0, f x.1) ∷ []) is ∙ go l i less at ∙ (let e : suc i ≡ i + 1 = omega arith in ap (λ k. moved f (take k l)) e) where
  go : (l : List (ℕ × Tree ℕ)) (i : ℕ) → i < length l → x ≡ get_or l i x → moved f (take i l) ++ (x.0, f x.1) ∷ [] ≡ moved f (take (suc i) l)
  go [] i less at = absurd (omega (arith, less))
  go (y ∷ l) zero less at = ap (λ (z : ℕ × Tree ℕ). (z.0, f z.1) ∷ []) at
  go (y ∷ l) (suc i) less at = ap (λ k. (y.0, f y.1) ∷ k) (go l i (omega (arith, less)) at)

pub element_law : (m : ℕ) (gens : List Generator) (rels : List (List Term)) (k : ℕ) (l : List (ℕ × Tree ℕ)) (sum element : List Term) → AllTerms l (IsShuffleTree (inputs_of (generators_of gens)) k)
    → terms_of sum ≡ moved (symmetric_tree (generators_of gens)) l → IsCollected m (parts_at gens) (terms_of sum) (terms_of element) → HaveResidues m element
    → ((n : ℕ) → HaveArity n sum → All (λ (t : Term). table.IsLabelled gens n (tree_of t.tree)) element) → IsElementFor m gens rels l element
element_law m gens rels k l sum element valid is c small labelled = record {
  fits = record { residues = small; trees = λ i d less. (labelled k (have_arity m gens k sum l is valid) i d less).fits };
  reduced = c.reduced;
  stands = λ n h.
      let p = presentation_of m gens rels in
      let from_sum : AllTerms (terms_of sum) (IsLabelled (arity_of p) n) = subst (λ e. AllTerms e (IsLabelled (arity_of p) n)) (sym is) (all_labelled p n l h) in
      record {
        labelled = of_terms (table.IsLabelled gens n) element (recursion_from_All (λ (t : Term). table.IsLabelled gens n (tree_of t.tree)) element (labelled n (have_arity m gens n sum l is h)));
        same = λ t. collected_same (presentation_of m gens rels) m n (terms_of sum) (terms_of element) refl from_sum c t
            ∙ ap (λ e. coef tree_discrete e t % suc (m - 1)) (ap (shuffled (presentation_of m gens rels)) is ∙ all_forms (presentation_of m gens rels) n l h);
      };
}
  where
    of_terms : (P : Tree ℕ → Type 0) (sum : List Term) → AllByRecursion (λ (t : Term). P (tree_of t.tree)) sum → AllTerms (terms_of sum) P
    of_terms P [] h = tt
    of_terms P (t ∷ sum) h = (h.0, of_terms P sum h.1)

-- all terms
pub taken_all : (l : List (ℕ × Tree ℕ)) (i : ℕ) → length l ≤ i → take i l ≡ l
taken_all [] zero less = refl
taken_all [] (suc i) less = refl
taken_all (x ∷ l) zero less = absurd (omega (arith, less))
taken_all (x ∷ l) (suc i) less = ap (λ k. x ∷ k) (taken_all l i (omega (arith, less)))

-- the same of what `collected` answers, for a field and a table that are these
pub collected_element : {E : Type 0} (m field : ℕ) (gens found : List Generator) (rels : List (List Term)) (k : ℕ) (l : List (ℕ × Tree ℕ)) (sum : List Term) → field ≡ m → found ≡ gens
    → AllTerms l (IsShuffleTree (inputs_of (generators_of gens)) k) → terms_of sum ≡ moved (symmetric_tree (generators_of gens)) l
    → (answer : Result (List Term) E) → IfOk answer (λ form. IsCollected field (parts_at found) (terms_of sum) (terms_of form)) → IfOk answer (HaveResidues field)
    → ((n : ℕ) → HaveArity n sum → IfOk answer (All (λ (t : Term). table.IsLabelled found n (tree_of t.tree)))) → IfOk answer (IsElementFor m gens rels l)
collected_element m field gens found rels k l sum f t valid is (Ok form) c small labelled =
    element_law m gens rels k l sum form valid is
    (subst (λ p. IsCollected p (parts_at gens) (terms_of sum) (terms_of form)) f (subst (λ g. IsCollected field (parts_at g) (terms_of sum) (terms_of form)) t c))
    (subst (λ p. HaveResidues p form) f small)
    (λ n h. subst (λ g. All (λ (t : Term). table.IsLabelled g n (tree_of t.tree)) form) t (labelled n h))
collected_element m field gens found rels k l sum f t valid is (Err e) c small labelled = tt
