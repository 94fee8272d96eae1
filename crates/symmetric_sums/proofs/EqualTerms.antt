-- Lists of terms that are compared place by place.
use Rattle.std.proofs.Common.{◌≡◌, ℕ, zero, suc, ◌+◌, ◌<◌, List, [], ◌∷◌, ◌++◌, length, take, get_or, ap, ap₂, sym, ◌∙◌, arith}
use Rattle.std.proofs.lemmas.List.{map-append, length-map}
use Rattle.labelled_trees.specs.Trees.{Tree}
use Rattle.labelled_trees.specs.Meaning.{tree_of}
use Rattle.symmetric_sums.specs.Terms.{terms_of}
use Rattle.symmetric_sums.specs.declared.term.Term.{Term}
use Rattle.symmetric_sums.proofs.SpelledTerms.{taken}

-- equal lists have equal terms at each place
pub terms-at : (xs ys : List Term) (i : ℕ) (x y : Term) → i < length xs → i < length ys → x ≡ get_or xs i x → y ≡ get_or ys i y → terms_of xs ≡ terms_of ys → (x.coef ≡ y.coef) × (tree_of x.tree ≡ tree_of y.tree)
terms-at [] ys i x y l m e f h = absurd (omega (arith, l))
terms-at (a ∷ xs) [] i x y l m e f h = absurd (omega (arith, m))
terms-at (a ∷ xs) (b ∷ ys) zero x y l m e f h =
    let first : (a.coef, tree_of a.tree) ≡ (b.coef, tree_of b.tree) = cc h in
    (ap (λ (t : Term). t.coef) e ∙ ap (λ (p : ℕ × Tree ℕ). p.0) first ∙ sym (ap (λ (t : Term). t.coef) f), ap (λ (t : Term). tree_of t.tree) e ∙ ap (λ (p : ℕ × Tree ℕ). p.1) first ∙ sym (ap (λ (t : Term). tree_of t.tree) f))
terms-at (a ∷ xs) (b ∷ ys) (suc i) x y l m e f h =
    let rest : terms_of xs ≡ terms_of ys = cc h in
    terms-at xs ys i x y (omega (arith, l)) (omega (arith, m)) e f rest

pub lengths-differ : (xs ys : List Term) → (length xs ≡ length ys → ⊥) → terms_of xs ≡ terms_of ys → ⊥
lengths-differ xs ys f h = f (sym (length-map xs (λ (t : Term). (t.coef, tree_of t.tree))) ∙ ap length h ∙ length-map ys (λ (t : Term). (t.coef, tree_of t.tree)))

-- one more place
pub terms-more : (xs ys : List Term) (i : ℕ) (x y : Term) → i < length xs → i < length ys → x ≡ get_or xs i x → y ≡ get_or ys i y → terms_of (take i xs) ≡ terms_of (take i ys)
    → x.coef ≡ y.coef → tree_of x.tree ≡ tree_of y.tree → terms_of (take (i + 1) xs) ≡ terms_of (take (i + 1) ys)
terms-more xs ys i x y l m e f h coef tree =
    ap terms_of (taken xs i x l e) ∙ map-append (λ (t : Term). (t.coef, tree_of t.tree)) (take i xs) (x ∷ [])
    ∙ ap₂ (λ ts (p : ℕ × Tree ℕ). ts ++ p ∷ []) h (ap₂ (λ (c : ℕ) (t : Tree ℕ). (c, t)) coef tree)
    ∙ sym (ap terms_of (taken ys i y m f) ∙ map-append (λ (t : Term). (t.coef, tree_of t.tree)) (take i ys) (y ∷ []))
