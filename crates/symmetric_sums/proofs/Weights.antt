-- The coefficients of lists of terms.
use Rattle.std.proofs.Common.{◌≡◌, ℕ, ◌+◌, List, [], ◌∷◌, ◌++◌, refl, ap, sym, ◌∙◌, arith, IsPermutation}
use Rattle.std.specs.List.{sum_by}
use Rattle.std.proofs.lemmas.List.Sums.{sum_by-cons}
use Rattle.std.proofs.lemmas.List.Sorted.{sum_by-IsPermutation}
use Rattle.modular_sums.specs.Residues.{IsCongruent}
use Rattle.modular_sums.specs.Sums.{coef}
use Rattle.labelled_trees.specs.Trees.{Tree}
use Rattle.labelled_trees.specs.Equality.{tree_discrete}
use Rattle.labelled_trees.specs.Meaning.{tree_of}
use Rattle.symmetric_sums.specs.Terms.{terms_of}
use Rattle.symmetric_sums.specs.declared.term.Term.{Term}
use Rattle.modular_sums.specs.Lists.{choose}

-- the coefficient of t in the terms
abbrev pub weight : List Term → Tree ℕ → ℕ
weight terms t = coef tree_discrete (terms_of terms) t

-- what one term adds to it
abbrev pub share : Term → Tree ℕ → ℕ
share term t = choose (tree_discrete (tree_of term.tree) t) term.coef 0

pub weight-nil : (t : Tree ℕ) → weight [] t ≡ 0
unfolding coef
weight-nil t = refl

pub weight-cons : (x : Term) (xs : List Term) (t : Tree ℕ) → weight (x ∷ xs) t ≡ share x t + weight xs t
unfolding coef
weight-cons x xs t = refl

pub weight-append : (xs ys : List Term) (t : Tree ℕ) → weight (xs ++ ys) t ≡ weight xs t + weight ys t
weight-append [] ys t = omega (arith, weight-nil t)
weight-append (x ∷ xs) ys t = omega (arith, weight-cons x (xs ++ ys) t, weight-cons x xs t, weight-append xs ys t)

pub weight-push : (xs : List Term) (y : Term) (t : Tree ℕ) → weight (xs ++ y ∷ []) t ≡ weight xs t + share y t
weight-push xs y t = omega (arith, weight-append xs (y ∷ []) t, weight-cons y [] t, weight-nil t)

weight-sum : (xs : List Term) (t : Tree ℕ) → weight xs t ≡ sum_by (λ x. share x t) xs
weight-sum [] t = weight-nil t
weight-sum (x ∷ xs) t = weight-cons x xs t ∙ ap (λ n. share x t + n) (weight-sum xs t) ∙ sym (sum_by-cons (λ y. share y t) x xs)

pub weight-permutation : (xs ys : List Term) (t : Tree ℕ) → IsPermutation xs ys → weight ys t ≡ weight xs t
weight-permutation xs ys t h = weight-sum ys t ∙ sum_by-IsPermutation (λ x. share x t) xs ys h ∙ sym (weight-sum xs t)

pub congruent_choose : {A : Type 0} (q : ℕ) (d : Dec A) (a b : ℕ) → IsCongruent q a b → IsCongruent q (choose d a 0) (choose d b 0)
congruent_choose q (yes _) a b h = h
congruent_choose q (no _) a b h = refl

pub two_hits : {A : Type 0} (q : ℕ) (d : Dec A) (c a b : ℕ) → IsCongruent q c (a + b) → IsCongruent q (choose d c 0) (choose d a 0 + choose d b 0)
two_hits q (yes _) c a b h = h
two_hits q (no _) c a b h = refl
