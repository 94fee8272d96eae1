-- Reading an element: the number 0, or a first term and what goes on behind it.
use Rattle.std.proofs.Common.{◌≡◌, ℕ, ◌+◌, ◌<◌, Bool, true, false, List, [], ◌∷◌, ◌++◌, length, drop, Option, Some, None, Result, Ok, Err, refl, ap, sym, ◌∙◌, arith, length-drop}
use Rattle.std.specs.Prelude.{if◌then◌else◌}
use Rattle.labelled_trees.specs.Leaves.{leaf_count}
use Rattle.labelled_trees.specs.Meaning.{tree_of}
use Rattle.symmetric_trees.specs.declared.generators.Generator.{Generator}
use Rattle.symmetric_sums.specs.Terms.{terms_of}
use Rattle.symmetric_sums.specs.declared.term.Term.{Term}
use Rattle.presentation_text.specs.declared.kinds.PartFail.{PartFail}
use Rattle.presentation_text.specs.declared.lexing.Token.{Token}
use Rattle.presentation_text.specs.declared.terms.ElementAt.{ElementAt}
use Rattle.presentation_text.specs.declared.terms.TermRead.{TermRead}
use Rattle.presentation_text.specs.Readings.{Fault, Reading, ◌>>=◌}
use Rattle.presentation_text.specs.TreeReadings.{begins_with, demands_of}
use Rattle.presentation_text.specs.Elements.{Written, written_sum}
use Rattle.presentation_text.specs.ElementReadings.{behind_one, is_nothing, term_in, further_in, element_in, IsElementAsRead, GivesElement, written, IsTermRead, GivesFurther}
use Rattle.presentation_text.proofs.TreeReadingsPlaces.{stops-on}
use Rattle.presentation_text.proofs.ElementReadingsRead.{drop-behind_one}
use Rattle.presentation_text.proofs.ElementReadingsSums.{said-append}

module _ (generators : List Generator) (least : ℕ) (arity : Option ℕ) where
  -- what is read from the first term on
  unfoldable pub from_first : Bool → List Token → Reading (List Written)
  from_first negative ts = do
    first ← term_in generators (demands_of least arity) negative ts
    others ← further_in (length first.1) generators (demands_of least (Some (leaf_count (first.0).tree))) first.1
    Ok (first.0 ∷ others.0, others.1)

  pub first-is : (ts front : List Token) (negative : Bool) → is_nothing ts ≡ false → negative ≡ begins_with 45 ts → front ≡ (if negative then behind_one ts else ts)
      → element_in generators (demands_of least arity) ts ≡ from_first negative front
  unfolding element_in from_first
  first-is ts front negative is minus behind = rw is (rw behind (rw minus refl))

  pub nothing-is : (ts : List Token) → is_nothing ts ≡ true → element_in generators (demands_of least arity) ts ≡ Ok ([], behind_one ts)
  unfolding element_in
  nothing-is ts is = rw is refl

  pub first-stops : (ts : List Token) (negative : Bool) (e : Fault) → term_in generators (demands_of least arity) negative ts ≡ Err e → from_first negative ts ≡ Err e
  unfolding from_first
  first-stops ts negative e is = rw is refl

  pub further-stops : (ts rest : List Token) (negative : Bool) (term : Written) (e : Fault) → term_in generators (demands_of least arity) negative ts ≡ Ok (term, rest)
      → further_in (length rest) generators (demands_of least (Some (leaf_count term.tree))) rest ≡ Err e → from_first negative ts ≡ Err e
  unfolding from_first
  further-stops ts rest negative term e is stops = rw is (rw stops refl)

  pub further-reads : (ts rest behind : List Token) (negative : Bool) (term : Written) (terms : List Written) → term_in generators (demands_of least arity) negative ts ≡ Ok (term, rest)
      → further_in (length rest) generators (demands_of least (Some (leaf_count term.tree))) rest ≡ Ok (terms, behind) → from_first negative ts ≡ Ok (term ∷ terms, behind)
  unfolding from_first
  further-reads ts rest behind negative term terms is reads = rw is (rw reads refl)

some_token : (ts : List Token) → is_nothing ts ≡ true → 0 < length ts
some_token [] e = absurd cc
some_token (token ∷ ts) e = omega arith

module _ (p : ℕ) (generators : List Generator) (least : ℕ) (arity : Option ℕ) (tokens : List Token) (at : ℕ) where
  pub nothing-read : is_nothing (drop at tokens) ≡ true → (sum : List Term) → sum ≡ []
      → IsElementAsRead p tokens (element_in generators (demands_of least arity) (drop at tokens)) (record { sum = sum; arity = None; next = at + 1 })
  nothing-read is sum none = record {
    terms = [];
    reading_is = nothing-is generators least arity (drop at tokens) is ∙ ap (λ ts. Ok ([], ts)) (drop-behind_one tokens at);
    within = omega (arith, some_token (drop at tokens) is, length-drop at tokens);
    sum_is = ap terms_of none;
    arity_is = refl;
  }

  module _ (negative : Bool) (begin : ℕ) (other : is_nothing (drop at tokens) ≡ false) (minus : negative ≡ begins_with 45 (drop at tokens))
      (behind : drop begin tokens ≡ (if negative then behind_one (drop at tokens) else drop at tokens)) where
    whole : element_in generators (demands_of least arity) (drop at tokens) ≡ from_first generators least arity negative (drop begin tokens)
    whole = first-is generators least arity (drop at tokens) (drop begin tokens) negative other minus behind

    -- the first term is refused
    pub element-stops : (e : Fault) → term_in generators (demands_of least arity) negative (drop begin tokens) ≡ Err e → element_in generators (demands_of least arity) (drop at tokens) ≡ Err e
    element-stops e is = whole ∙ first-stops generators least arity (drop begin tokens) negative e is

    module _ (first : TermRead) (read : IsTermRead tokens (term_in generators (demands_of least arity) negative (drop begin tokens)) first)
        (sum : List Term) (says : terms_of sum ≡ written_sum p (written first ∷ [])) where
      abbrev begun : ElementAt
      begun = record { sum = sum; arity = Some first.tree.leaves; next = first.tree.end }

      abbrev further : ℕ → Reading (List Written)
      further leaves = further_in (length (drop first.tree.end tokens)) generators (demands_of least (Some leaves)) (drop first.tree.end tokens)

      same : further (leaf_count (tree_of first.tree.tree)) ≡ further first.tree.leaves
      same = ap further (sym read.leaves_are)

      -- the first term is read, and the element goes on or stops behind it
      pub element-reads : (o : Result ElementAt PartFail) → GivesFurther p tokens (further first.tree.leaves) begun o
          → GivesElement p tokens (element_in generators (demands_of least arity) (drop at tokens)) o
      element-reads (Ok found) goes = record {
        terms = written first ∷ goes.terms;
        reading_is = whole ∙ further-reads generators least arity (drop begin tokens) (drop first.tree.end tokens) (drop found.next tokens) negative (written first) goes.terms read.reading_is (same ∙ goes.reading_is);
        within = goes.within;
        sum_is = goes.sum_is ∙ ap (λ l. l ++ written_sum p goes.terms) says ∙ sym (said-append p (written first ∷ []) goes.terms);
        arity_is = goes.arity_is ∙ ap Some read.leaves_are;
      }
      element-reads (Err fail) stops = stops-on tokens (further first.tree.leaves) (element_in generators (demands_of least arity) (drop at tokens))
          (λ e is. whole ∙ further-stops generators least arity (drop begin tokens) (drop first.tree.end tokens) negative (written first) e read.reading_is (same ∙ is)) fail stops
