-- Tokens are those of at most one list of terms, also where these are more than may be read.
use Rattle.std.proofs.Common.{◌≡◌, ℕ, ◌<◌, Bool, true, false, List, [], ◌∷◌, ◌++◌, length, Option, Some, None, refl, ap, sym, ◌∙◌, subst, arith}
use Rattle.std.specs.Prelude.{if◌then◌else◌}
use Rattle.std.specs.List.{All}
use Rattle.std.proofs.lemmas.List.Elements.{All-nil, All-head, All-tail, All-weaker}
use Rattle.labelled_trees.specs.Trees.{Tree}
use Rattle.labelled_trees.specs.Leaves.{AllLeaves}
use Rattle.symmetric_trees.specs.Generators.{IsTable}
use Rattle.labelled_trees.proofs.Leaves.{by_leaf}
use Rattle.symmetric_trees.specs.Trees.{Fits}
use Rattle.symmetric_trees.specs.declared.generators.Generator.{Generator}
use Rattle.presentation_text.specs.declared.lexing.Token.{Token}
use Rattle.presentation_text.specs.TreeReadings.{begins_with}
use Rattle.presentation_text.specs.TreeText.{tree_tokens}
use Rattle.presentation_text.specs.Elements.{Written, term_tokens, further_tokens, element_tokens, IsElementTree, WrittenHaveArity}
use Rattle.presentation_text.specs.ElementReadings.{behind_one, is_nothing, coefficient, behind_coefficient, sign}
use Rattle.presentation_text.specs.Laws.{ElementsAreReadOnce}
use Rattle.presentation_text.specs.Accepted.{NotMarked}
use Rattle.presentation_text.proofs.ElementFronts.{coefficient-is, behind-is, sign-is, sign-no-star, nothing-there, something-there, minus-there, minus-behind}
use Rattle.presentation_text.proofs.TreeTokens.{read_once}
use Rattle.symmetric_sums.proofs.Expansions.{one_label}

-- a tree that fits the table, without leaf 0
pub record IsPositive (generators : List Generator) (t : Tree ℕ) : Type 0 where
  pub fits : Fits generators t
  pub leaves : AllLeaves t (λ i. 0 < i)

abbrev pub ArePositive : List Generator → List Written → Type 0
ArePositive generators = All (λ term. IsPositive generators term.tree)

same-written : (a b : Written) → a.negative ≡ b.negative → a.coefficient ≡ b.coefficient → a.tree ≡ b.tree → a ≡ b
same-written a b n c t =
    let by_sign : Bool → Written = λ x. record { negative = x; coefficient = a.coefficient; tree = a.tree } in
    let by_number : Option ℕ → Written = λ x. record { negative = b.negative; coefficient = x; tree = a.tree } in
    let by_tree : Tree ℕ → Written = λ x. record { negative = b.negative; coefficient = b.coefficient; tree = x } in
    ap by_sign n ∙ ap by_number c ∙ ap by_tree t

same-some : (a b : Bool) → Some a ≡ Some b → a ≡ b
same-some a b e = cc

pub further-no-star : (generators : List Generator) (terms : List Written) → NotMarked 42 (further_tokens generators terms)
further-no-star generators [] = tt
further-no-star generators (term ∷ terms) = sign-no-star term.negative (term_tokens generators term ++ further_tokens generators terms)

module _ (generators : List Generator) (table : IsTable generators) where
  -- a term, and what is behind it
  term-once : (term other : Written) (r s : List Token) → IsPositive generators term.tree → IsPositive generators other.tree → NotMarked 42 r → NotMarked 42 s
      → term.negative ≡ other.negative → term_tokens generators term ++ r ≡ term_tokens generators other ++ s → (term ≡ other) × (r ≡ s)
  term-once term other r s ft fu nr ns sign e =
      let number : term.coefficient ≡ other.coefficient = sym (coefficient-is generators term.coefficient term.tree r (λ _. nr)) ∙ ap coefficient e ∙ coefficient-is generators other.coefficient other.tree s (λ _. ns) in
      let behind : tree_tokens generators term.tree ++ r ≡ tree_tokens generators other.tree ++ s = sym (behind-is generators term.coefficient term.tree r) ∙ ap (behind_coefficient term.coefficient) e
      ∙ ap (λ c. behind_coefficient c (term_tokens generators other ++ s)) number ∙ behind-is generators other.coefficient other.tree s in
      let one = read_once generators table term.tree other.tree r s ft.fits fu.fits behind in
      (same-written term other sign number one.0, one.1)

  -- terms, where the first ones have one sign and stand before further ones
  terms-behind : (term other : Written) (terms others : List Written) → ArePositive generators (term ∷ terms) → ArePositive generators (other ∷ others)
      → term.negative ≡ other.negative → term_tokens generators term ++ further_tokens generators terms ≡ term_tokens generators other ++ further_tokens generators others
      → (further_tokens generators terms ≡ further_tokens generators others → terms ≡ others) → term ∷ terms ≡ other ∷ others
  terms-behind term other terms others ft fu sign e behind =
      let one = term-once term other (further_tokens generators terms) (further_tokens generators others) (All-head (λ (x : Written). IsPositive generators x.tree) term terms ft)
      (All-head (λ (x : Written). IsPositive generators x.tree) other others fu) (further-no-star generators terms) (further-no-star generators others) sign e in
      ap (λ x. x ∷ terms) one.0 ∙ ap (λ xs. other ∷ xs) (behind one.1)

  further-once : (terms others : List Written) → ArePositive generators terms → ArePositive generators others → further_tokens generators terms ≡ further_tokens generators others → terms ≡ others
  further-once [] [] ft fu e = refl
  further-once [] (other ∷ others) ft fu e = absurd cc
  further-once (term ∷ terms) [] ft fu e = absurd cc
  further-once (term ∷ terms) (other ∷ others) ft fu e =
      let behind = term_tokens generators term ++ further_tokens generators terms in
      let behind_other = term_tokens generators other ++ further_tokens generators others in
      let signs : Some term.negative ≡ Some other.negative = sym (sign-is term.negative behind) ∙ ap sign e ∙ sign-is other.negative behind_other in
      terms-behind term other terms others ft fu (same-some term.negative other.negative signs) (ap behind_one e)
      (further-once terms others (All-tail (λ (x : Written). IsPositive generators x.tree) term terms ft) (All-tail (λ (x : Written). IsPositive generators x.tree) other others fu))

  -- an element that isn't 0 is more than the number 0
  zero-apart : (term : Written) (terms : List Written) → ArePositive generators (term ∷ terms) → element_tokens generators [] ≡ element_tokens generators (term ∷ terms) → ⊥
  zero-apart term terms ft e =
      let tree : IsPositive generators term.tree = All-head (λ (x : Written). IsPositive generators x.tree) term terms ft in
      let zero : is_nothing (element_tokens generators []) ≡ true = nothing-there [] tt in
      let more : is_nothing (element_tokens generators (term ∷ terms)) ≡ false =
      something-there generators term.negative term.coefficient term.tree (further_tokens generators terms) tree.leaves in
      let apart : true ≡ false = sym zero ∙ ap is_nothing e ∙ more in
      absurd cc

  -- tokens are those of one list of terms
  pub terms-once : (terms others : List Written) → ArePositive generators terms → ArePositive generators others → element_tokens generators terms ≡ element_tokens generators others → terms ≡ others
  terms-once [] [] ft fu e = refl
  terms-once [] (other ∷ others) ft fu e = absurd (zero-apart other others fu e)
  terms-once (term ∷ terms) [] ft fu e = absurd (zero-apart term terms ft (sym e))
  terms-once (term ∷ terms) (other ∷ others) ft fu e =
      let front = term_tokens generators term ++ further_tokens generators terms in
      let other_front = term_tokens generators other ++ further_tokens generators others in
      let sign : term.negative ≡ other.negative = minus-there generators term.negative term.coefficient term.tree (further_tokens generators terms) ∙ ap (begins_with 45) e
      ∙ sym (minus-there generators other.negative other.coefficient other.tree (further_tokens generators others)) in
      let fronts : front ≡ other_front = minus-behind term.negative front ∙ ap (λ ts. if term.negative then behind_one ts else ts) e
      ∙ ap (λ b. if b then behind_one (element_tokens generators (other ∷ others)) else element_tokens generators (other ∷ others)) sign ∙ sym (minus-behind other.negative other_front) in
      terms-behind term other terms others ft fu sign fronts
      (further-once terms others (All-tail (λ (x : Written). IsPositive generators x.tree) term terms ft) (All-tail (λ (x : Written). IsPositive generators x.tree) other others fu))

-- ---- elements

positive : (generators : List Generator) (n : ℕ) (t : Tree ℕ) → IsElementTree generators n t → IsPositive generators t
positive generators n t h = record { fits = h.labelled.fits; leaves = by_leaf t (λ i. 0 < i) (λ i l. (h.labelled.only i l).0) }

all_positive : (generators : List Generator) (terms : List Written) (arity : Option ℕ) → WrittenHaveArity generators arity terms → ArePositive generators terms
all_positive generators terms None none = subst (ArePositive generators) (sym none) (All-nil (λ (x : Written). IsPositive generators x.tree))
all_positive generators terms (Some n) all =
    All-weaker (λ (x : Written). IsElementTree generators n x.tree) (λ (x : Written). IsPositive generators x.tree) (λ x h. positive generators n x.tree h) terms all.1

-- the terms have one arity
arity_once : (generators : List Generator) (terms : List Written) (arity other : Option ℕ) → WrittenHaveArity generators arity terms → WrittenHaveArity generators other terms → arity ≡ other
arity_once generators terms None None a b = refl
arity_once generators terms None (Some n) a b = absurd (omega (arith, ap length a, b.0))
arity_once generators terms (Some m) None a b = absurd (omega (arith, ap length b, a.0))
arity_once generators [] (Some m) (Some n) a b = absurd (omega (arith, a.0))
arity_once generators (term ∷ terms) (Some m) (Some n) a b =
    let one = All-head (λ (x : Written). IsElementTree generators m x.tree) term terms a.1 in
    let two = All-head (λ (x : Written). IsElementTree generators n x.tree) term terms b.1 in
    ap Some (one_label generators m n term.tree one.labelled two.labelled)

pub elements-once : ElementsAreReadOnce
elements-once generators table line terms others arity other a b =
    let same : terms ≡ others = terms-once generators table terms others (all_positive generators terms arity a.arity_is) (all_positive generators others other b.arity_is) (sym a.spelled ∙ b.spelled) in
    (same, arity_once generators others arity other (subst (WrittenHaveArity generators arity) same a.arity_is) b.arity_is)
