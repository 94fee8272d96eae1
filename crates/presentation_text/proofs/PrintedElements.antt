-- The text of a sum is read back by the reading of elements.
use Rattle.std.proofs.Common.{◌≡◌, ℕ, ◌<◌, ◌≤◌, ◌^◌, List, [], ◌∷◌, ◌++◌, get_or, map, Option, Some, ap, arith, subst}
use Rattle.std.specs.List.{All}
use Rattle.std.proofs.lemmas.List.Elements.{All-nil, All-cons, All-head, All-tail, All-weaker}
use Rattle.labelled_trees.specs.Trees.{Tree}
use Rattle.labelled_trees.specs.Leaves.{AllLeaves}
use Rattle.labelled_trees.proofs.Leaves.{by_leaf}
use Rattle.symmetric_trees.specs.declared.generators.Generator.{Generator}
use Rattle.presentation_text.specs.declared.lexing.Token.{Token}
use Rattle.presentation_text.specs.Elements.{Written, IsElementTree}
use Rattle.presentation_text.specs.SumText.{IsPrintable}
use Rattle.presentation_text.specs.Laws.{IsSumReadBack}
use Rattle.presentation_text.specs.Accepted.{EndsBefore, AreDemanded, ElementsAreAccepted}
use Rattle.presentation_text.specs.PrintedElements.{IsWrittenTerm, IsWrittenOver, EndsElements, PrintedElementsAreRead}
use Rattle.presentation_text.proofs.PrintedSums.{read_back}

small : (generators : List Generator) (n : ℕ) (t : Tree ℕ) → IsElementTree generators n t → AllLeaves t (λ i. (0 < i) × (i < 10 ^ 18))
small generators n t h = by_leaf t (λ i. (0 < i) × (i < 10 ^ 18)) (λ i l. let range = h.labelled.only i l in let narrow = h.narrow in (range.0, omega arith))

pub printable : (p : ℕ) (generators : List Generator) (n : ℕ) (e : List (ℕ × Tree ℕ)) → IsWrittenOver p generators n e → IsPrintable p generators e
printable p generators n e h = λ k d l. let x = h k d l in (x.nonzero, x.residue, x.tree.labelled.fits, small generators n (get_or e k d).1 x.tree)

-- the trees of the written terms are those of the sum
pub trees-of : (generators : List Generator) (n : ℕ) (terms : List Written) (e : List (ℕ × Tree ℕ)) → map (λ (term : Written). term.tree) terms ≡ map (λ (x : ℕ × Tree ℕ). x.1) e
    → All (λ x. IsElementTree generators n x.1) e → All (λ term. IsElementTree generators n term.tree) terms
trees-of generators n [] e same all = All-nil (λ (term : Written). IsElementTree generators n term.tree)
trees-of generators n (term ∷ terms) [] same all = absurd cc
trees-of generators n (term ∷ terms) (x ∷ e) same all =
    let tree : x.1 ≡ term.tree = cc in
    let others : map (λ (term : Written). term.tree) terms ≡ map (λ (x : ℕ × Tree ℕ). x.1) e = cc in
    All-cons (λ (term : Written). IsElementTree generators n term.tree) term terms (subst (IsElementTree generators n) tree (All-head (λ (x : ℕ × Tree ℕ). IsElementTree generators n x.1) x e all))
    (trees-of generators n terms e others (All-tail (λ (x : ℕ × Tree ℕ). IsElementTree generators n x.1) x e all))

pub demanded : (generators : List Generator) (least n : ℕ) (arity : Option ℕ) (terms : List Written) → least ≤ n → ((m : ℕ) → arity ≡ Some m → n ≡ m)
    → All (λ term. IsElementTree generators n term.tree) terms → AreDemanded generators least arity terms
demanded generators least n arity [] enough same all = tt
demanded generators least n arity (term ∷ terms) enough same all = record { n = n; trees = all; least_is = enough; arity_is = same }

ends : (terms : List Written) (rest : List Token) → EndsElements rest → EndsBefore terms rest
ends [] rest h = h.0
ends (term ∷ terms) rest h = (h.1, h.2, λ _. h.0)

pub printed_read : ElementsAreAccepted → PrintedElementsAreRead
printed_read accepted p generators prime table words least n arity enough same e may rest behind =
    let back : IsSumReadBack p generators e = (read_back p generators prime table words).read_back e (printable p generators n e may) in
    let trees = trees-of generators n back.terms e back.trees
    (All-weaker (IsWrittenTerm p generators n) (λ (x : ℕ × Tree ℕ). IsElementTree generators n x.1) (λ x h. h.tree) e may) in
    record {
      terms = back.terms;
      reading_is = (accepted generators table least arity _ rest back.terms).1 (ap (λ ts. ts ++ rest) back.read, demanded generators least n arity back.terms enough same trees, ends back.terms rest behind);
      says = back.same;
    }
