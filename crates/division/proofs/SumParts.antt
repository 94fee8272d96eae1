-- The leading term of a sum and the terms behind it.
use Rattle.std.proofs.Common.{◌≡◌, ℕ, ◌≤◌, ◌-◌, List, [], ◌∷◌, length, map, take, drop, get_or, refl, sym, ◌∙◌, ap, arith}
use Rattle.std.proofs.lemmas.List.{take_all}
use Rattle.labelled_trees.specs.Trees.{Tree}
use Rattle.labelled_trees.specs.Leaves.{leaf_count}
use Rattle.tree_store.specs.Stores.{tree_at}
use Rattle.shuffle_sums.specs.Sums.{pairs}
use Rattle.shuffle_sums.specs.declared.sum.Term.{Term}
use Rattle.division.specs.declared.reducer.Reducer.{Reducer}
use Rattle.division.specs.Given.{coefs_of, reducer_of}

ids_again : (l : List Term) → map (λ (term : Term). term.tree) l ≡ map (λ x. x.1) (pairs l)
ids_again [] = refl
ids_again (x ∷ l) = ap (λ is. x.tree ∷ is) (ids_again l)

residues_again : (l : List Term) → map (λ (term : Term). term.coef) l ≡ map (λ x. x.0) (pairs l)
residues_again [] = refl
residues_again (x ∷ l) = ap (λ is. x.coef ∷ is) (residues_again l)

whole : (y : Term) (terms : List Term) → take (length (y ∷ terms) - 1) terms ≡ terms
whole y terms = take_all (length (y ∷ terms) - 1) terms (omega arith)

-- a monic element from the parts of a sum
abbrev parts : ℕ → ℕ → List ℕ → Reducer
parts arity lead tail = record { arity = arity; lead = lead; tail = tail }

pub reducer_made : (trees : List (Tree ℕ)) (sum : List (ℕ × ℕ)) (terms : List Term) (x : Term) (n : ℕ) (ids : List ℕ) → pairs terms ≡ sum → 1 ≤ length terms → x ≡ get_or terms 0 x
    → n ≡ leaf_count (tree_at trees x.tree) → ids ≡ map (λ (term : Term). term.tree) (take (length terms - 1) (drop 1 terms)) → parts n x.tree ids ≡ reducer_of trees sum
reducer_made trees sum [] x n ids p low is m e = absurd (omega (arith, low))
reducer_made trees sum (y ∷ terms) x n ids p low is m e =
    let one : parts n x.tree ids ≡ parts (leaf_count (tree_at trees x.tree)) x.tree ids = ap (λ k. parts k x.tree ids) m in
    let two : parts (leaf_count (tree_at trees x.tree)) x.tree ids ≡ parts (leaf_count (tree_at trees y.tree)) y.tree ids = ap (λ (z : Term). parts (leaf_count (tree_at trees z.tree)) z.tree ids) is in
    let three : parts (leaf_count (tree_at trees y.tree)) y.tree ids ≡ reducer_of trees (pairs (y ∷ terms)) = ap (parts (leaf_count (tree_at trees y.tree)) y.tree) (e ∙ ap (map (λ (term : Term). term.tree)) (whole y terms) ∙ ids_again terms) in
    one ∙ two ∙ three ∙ ap (reducer_of trees) p

pub coefs_made : (sum : List (ℕ × ℕ)) (terms : List Term) (x : Term) (residues : List ℕ) → pairs terms ≡ sum → 1 ≤ length terms → x ≡ get_or terms 0 x
    → residues ≡ map (λ (term : Term). term.coef) (take (length terms - 1) (drop 1 terms)) → residues ≡ coefs_of sum
coefs_made sum [] x residues p low is e = absurd (omega (arith, low))
coefs_made sum (y ∷ terms) x residues p low is e = e ∙ ap (map (λ (term : Term). term.coef)) (whole y terms) ∙ residues_again terms ∙ ap coefs_of p

-- the first term of a monic sum
pub first_term : (terms : List Term) (x : Term) → 1 ≤ length terms → x ≡ get_or terms 0 x → (rest : List Term) × (terms ≡ x ∷ rest)
first_term [] x low is = absurd (omega (arith, low))
first_term (y ∷ terms) x low is = (terms, ap (λ z. z ∷ terms) (sym is))
