-- Reading a term: what the functions that read its parts give, put together.
use Rattle.std.proofs.Common.{◌≡◌, ℕ, zero, suc, ◌+◌, Bool, false, not, ◌&&◌, List, [], ◌∷◌, length, drop, Option, Some, Result, Ok, Err, refl, ap, sym, ◌∙◌, subst, arith}
use Rattle.std.specs.Prelude.{nat_lt}
use Rattle.std.specs.Result.{IsErr, IsErrAnd}
use Rattle.labelled_trees.specs.Trees.{Tree}
use Rattle.labelled_trees.specs.Leaves.{leaf_count}
use Rattle.labelled_trees.specs.Labelled.{IsNumbered}
use Rattle.labelled_trees.specs.Meaning.{tree_of}
use Rattle.labelled_trees.proofs.Numbered.{labelled_of_numbered}
use Rattle.symmetric_trees.specs.declared.generators.Generator.{Generator}
use Rattle.symmetric_trees.specs.Trees.{Fits, IsLabelled}
use Rattle.presentation_text.specs.declared.kinds.DocKind.TheVariants.{Labels, ArityOut, MixedArity}
use Rattle.presentation_text.specs.declared.kinds.PartFail.{PartFail}
use Rattle.presentation_text.specs.declared.lexing.Token.{Token}
use Rattle.presentation_text.specs.declared.trees.Demands.{Demands}
use Rattle.presentation_text.specs.declared.trees.TreeRead.{TreeRead}
use Rattle.presentation_text.specs.Readings.{Fault}
use Rattle.presentation_text.specs.TreeReadings.{has_each, differs, tree_in, whole_tree_in, IsTreeRead}
use Rattle.presentation_text.specs.ElementReadings.{behind_one, coefficient, behind_coefficient, term_in, IsTermRead}
use Rattle.presentation_text.proofs.TreeReadingsLeaves.{numbered-had}
use Rattle.presentation_text.proofs.TreeReadingsSteps.{judged}
use Rattle.presentation_text.proofs.TreesAcceptedTrees.{NoneOfThree, bound, none_held}
use Rattle.presentation_text.proofs.TreesAccepted.{unlike_leaves, same_arity}

-- ---- places and faults

pub behind_suc : (tokens : List Token) (at : ℕ) → behind_one (drop at tokens) ≡ drop (suc at) tokens
behind_suc [] zero = refl
behind_suc [] (suc at) = refl
behind_suc (token ∷ tokens) zero = refl
behind_suc (token ∷ tokens) (suc at) = behind_suc tokens at

pub drop-behind_one : (tokens : List Token) (at : ℕ) → behind_one (drop at tokens) ≡ drop (at + 1) tokens
drop-behind_one tokens at = let next : suc at ≡ at + 1 = omega arith in behind_suc tokens at ∙ ap (λ k. drop k tokens) next

-- an error is handed on
pub given_on : {A : Type 0} (Gives : Result A PartFail → Type 0) (r : Result A PartFail) (fail : PartFail) → IsErr r → IsErrAnd r (λ e. e ≡ fail) → Gives (Err fail) → Gives r
given_on Gives (Ok x) fail h e g = absurd e
given_on Gives (Err f) fail h e g = subst (λ x. Gives (Err x)) (sym e) g

-- ---- a tree as it is demanded

-- none of the tests against a tree holds
abbrev NothingAgainst : Demands → Tree ℕ → Type 0
NothingAgainst demands t = NoneOfThree (not demands.loose && not (has_each (leaf_count t) t)) (nat_lt (leaf_count t) demands.least) (differs demands.arity (leaf_count t))

nothing_against : (generators : List Generator) (demands : Demands) (ts : List Token) (t : Tree ℕ) (rest : List Token) → whole_tree_in generators demands ts ≡ Ok (t, rest) → NothingAgainst demands t
unfolding whole_tree_in
nothing_against generators demands ts t rest read =
    let found = bound (tree_in generators 8 0 ts) (judged demands) (t, rest) read in
    let u = found.value.0 in
    let tests = none_held (not demands.loose && not (has_each (leaf_count u) u)) (nat_lt (leaf_count u) demands.least) (differs demands.arity (leaf_count u)) Labels ArityOut MixedArity
    (suc (length found.value.1)) found.value (t, rest) found.further in
    subst (λ (pair : Tree ℕ × List Token). NothingAgainst demands pair.0) tests.1 tests.0

-- ---- a term

module _ (generators : List Generator) (demands : Demands) (tokens : List Token) (negative : Bool) (at begin : ℕ) (found : Option ℕ)
    (coefficient_is : found ≡ coefficient (drop at tokens)) (behind : drop begin tokens ≡ behind_coefficient found (drop at tokens)) where
  begins : behind_coefficient (coefficient (drop at tokens)) (drop at tokens) ≡ drop begin tokens
  begins = ap (λ c. behind_coefficient c (drop at tokens)) (sym coefficient_is) ∙ sym behind

  -- a term stops where its tree does
  pub term-stops : (e : Fault) → whole_tree_in generators demands (drop begin tokens) ≡ Err e → term_in generators demands negative (drop at tokens) ≡ Err e
  unfolding term_in
  term-stops e stops = rw begins (rw stops refl)

  pub term-reads : (read : TreeRead) → IsTreeRead tokens (whole_tree_in generators demands (drop begin tokens)) read
      → IsTermRead tokens (term_in generators demands negative (drop at tokens)) (record { negative = negative; coefficient = found; tree = read })
  unfolding term_in
  term-reads read is = record {
    reading_is = rw begins (rw is.reading_is (ap (λ c. Ok (record { negative = negative; coefficient = c; tree = tree_of read.tree }, drop read.end tokens)) (sym coefficient_is)));
    within = is.within;
    leaves_are = is.leaves_are;
  }

module _ (generators : List Generator) (demands : Demands) (tokens : List Token) (begin : ℕ) (read : TreeRead) (is : IsTreeRead tokens (whole_tree_in generators demands (drop begin tokens)) read) where
  nothing : NothingAgainst demands (tree_of read.tree)
  nothing = nothing_against generators demands (drop begin tokens) (tree_of read.tree) (drop read.end tokens) is.reading_is

  pub term-labelled : demands.loose ≡ false → Fits generators (tree_of read.tree) → IsLabelled generators read.leaves (tree_of read.tree)
  term-labelled strict fits =
      let each = unlike_leaves demands.loose (has_each (leaf_count (tree_of read.tree)) (tree_of read.tree)) nothing.first strict in
      labelled_of_numbered fits (subst (λ n. IsNumbered n (tree_of read.tree)) (sym is.leaves_are) (numbered-had (tree_of read.tree) each))

  pub term-arity : (n : ℕ) → demands.arity ≡ Some n → read.leaves ≡ n
  term-arity n known = is.leaves_are ∙ same_arity demands.arity (leaf_count (tree_of read.tree)) nothing.third n known
