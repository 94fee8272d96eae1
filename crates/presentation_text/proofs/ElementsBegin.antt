-- The tokens before the refused one are the first of an element over the table.
use Rattle.std.proofs.Common.{◌≡◌, ⊎_elim, ℕ, zero, suc, ◌≤◌, Bool, true, false, List, [], ◌∷◌, ◌++◌, length, Option, Some, None, Ok, Err, refl, ap, sym, ◌∙◌, arith, append_assoc, append-nil}
use Rattle.std.specs.Prelude.{if◌then◌else◌}
use Rattle.std.specs.List.{All}
use Rattle.std.proofs.lemmas.List.Elements.{All-nil, All-cons}
use Rattle.labelled_trees.specs.Leaves.{leaf_count}
use Rattle.symmetric_trees.specs.Generators.{IsTable}
use Rattle.symmetric_trees.specs.Trees.{Fits}
use Rattle.symmetric_trees.specs.declared.generators.Generator.{Generator}
use Rattle.presentation_text.specs.declared.kinds.DocKind.{DocKind}
use Rattle.presentation_text.specs.declared.lexing.Token.{Token}
use Rattle.presentation_text.specs.declared.lexing.Token.TheVariants.{Byte}
use Rattle.presentation_text.specs.declared.trees.Demands.{Demands}
use Rattle.presentation_text.specs.Readings.{Reading}
use Rattle.presentation_text.specs.TreeReadings.{begins_with, demands_of, whole_tree_in}
use Rattle.presentation_text.specs.Elements.{Written, coefficient_tokens, term_tokens, mark, further_tokens, element_tokens}
use Rattle.presentation_text.specs.ElementReadings.{behind_one, is_nothing, coefficient, behind_coefficient, term_in, sign, further_in, element_in}
use Rattle.presentation_text.specs.Accepted.{RefusedElementsBegin}
use Rattle.presentation_text.proofs.TreesAccepted.{all_accepted}
use Rattle.presentation_text.proofs.TreesStopReadings.{within}
use Rattle.presentation_text.proofs.TreesStop.{all_begin}
use Rattle.presentation_text.proofs.ElementReadingsFurther.{signed, unsigned}
use Rattle.presentation_text.proofs.ElementReadingsWhole.{from_first, first-is, nothing-is}
use Rattle.presentation_text.proofs.ElementFronts.{coefficient-spelled, sign-spelled, minus-spelled}
use Rattle.presentation_text.proofs.ElementsAccepted.{TermSpelled, term-spelled}
use Rattle.presentation_text.proofs.ElementsRefused.{whole-bounded, term-by-tree, term-bounded, term-length, TermThenStops, sign-either, none-further, further-bounded, FirstThenStops, first-either, first-bounded}

module _ (generators : List Generator) (table : IsTable generators) where
  -- a term over the table whose tokens begin so
  record BeginsTerm (negative : Bool) (front : List Token) : Type 0 where
    term : Written
    others : List Token
    sign_is : term.negative ≡ negative
    fits : Fits generators term.tree
    spelled : term_tokens generators term ≡ front ++ others

  -- further terms over the table whose tokens begin so
  record BeginsFurther (front : List Token) : Type 0 where
    terms : List Written
    others : List Token
    fit : All (λ term. Fits generators term.tree) terms
    spelled : further_tokens generators terms ≡ front ++ others

  -- terms over the table, of which the first one's sign is known, whose tokens begin so
  record BeginsTerms (negative : Bool) (front : List Token) : Type 0 where
    term : Written
    terms : List Written
    others : List Token
    sign_is : term.negative ≡ negative
    fit : All (λ term. Fits generators term.tree) (term ∷ terms)
    spelled : term_tokens generators term ++ further_tokens generators terms ≡ front ++ others

  term-begins : (demands : Demands) (negative : Bool) (front back : List Token) (kind : DocKind) → term_in generators demands negative (front ++ back) ≡ Err (length back, kind) → BeginsTerm negative front
  term-begins demands negative front back kind e =
      let ts = front ++ back in
      let c = coefficient ts in
      let tree = term-by-tree generators table demands negative ts (length back, kind) e in
      let w = within (coefficient_tokens c) (behind_coefficient c ts) front back (sym (coefficient-spelled ts)) (whole-bounded generators table demands (behind_coefficient c ts) (length back, kind) tree) in
      let begun = all_begin generators table demands w.between back kind (ap (λ x. whole_tree_in generators demands x) (sym w.rest_is) ∙ tree) in
      record {
        term = record { negative = negative; coefficient = c; tree = begun.0 };
        others = begun.1;
        sign_is = refl;
        fits = begun.2;
        spelled = ap (λ x. coefficient_tokens c ++ x) begun.3 ∙ sym (append_assoc (coefficient_tokens c) w.between begun.1) ∙ ap (λ x. x ++ begun.1) (sym w.front_is);
      }

  -- one term alone
  one-alone : (negative : Bool) (front : List Token) → BeginsTerm negative front → BeginsTerms negative front
  one-alone negative front one = record {
    term = one.term;
    terms = [];
    others = one.others;
    sign_is = one.sign_is;
    fit = All-cons (λ (x : Written). Fits generators x.tree) one.term [] one.fits (All-nil (λ (x : Written). Fits generators x.tree));
    spelled = append-nil (term_tokens generators one.term) ∙ one.spelled;
  }

  -- a term that was read, and further ones
  one-more : (demands : Demands) (negative : Bool) (front back behind : List Token) (first : Written) → term_in generators demands negative (front ++ back) ≡ Ok (first, behind) → length back ≤ length behind
      → ((between : List Token) → behind ≡ between ++ back → BeginsFurther between) → BeginsTerms negative front
  one-more demands negative front back behind first is l further =
      let one : TermSpelled all_accepted generators table demands negative (front ++ back) behind first = term-spelled all_accepted generators table demands negative (front ++ back) behind first is in
      let w = within (term_tokens generators first) behind front back (sym one.spelled) l in
      let more = further w.between w.rest_is in
      record {
        term = first;
        terms = more.terms;
        others = more.others;
        sign_is = one.sign;
        fit = All-cons (λ (x : Written). Fits generators x.tree) first more.terms one.tree.fits more.fit;
        spelled = ap (λ x. term_tokens generators first ++ x) more.spelled ∙ sym (append_assoc (term_tokens generators first) w.between more.others) ∙ ap (λ x. x ++ more.others) (sym w.front_is);
      }

  behind-sign-begins : (negative : Bool) (front between : List Token) → front ≡ mark negative ∷ between → BeginsTerms negative between → BeginsFurther front
  behind-sign-begins negative front between is one = record {
    terms = one.term ∷ one.terms;
    others = one.others;
    fit = one.fit;
    spelled = ap (λ b. mark b ∷ (term_tokens generators one.term ++ further_tokens generators one.terms)) one.sign_is ∙ ap (λ x. mark negative ∷ x) one.spelled ∙ ap (λ x. x ++ one.others) (sym is);
  }

  further-begins : (demands : Demands) (most : ℕ) (front back : List Token) (kind : DocKind) → further_in most generators demands (front ++ back) ≡ Err (length back, kind) → BeginsFurther front
  further-begins demands zero front back kind e = absurd (none-further generators table demands (front ++ back) (length back, kind) e)
  further-begins demands (suc most) front back kind e = by_sign (sign (front ++ back)) refl (λ between f. further-begins demands most between back kind f)
    where
      by_sign : (o : Option Bool) → sign (front ++ back) ≡ o → ((between : List Token) → further_in most generators demands (between ++ back) ≡ Err (length back, kind) → BeginsFurther between) → BeginsFurther front
      by_sign None none again =
          let both : ◌≡◌ {A = Reading (List Written)} (Ok ([], front ++ back)) (Err (length back, kind)) = sym (unsigned generators demands (suc most) (front ++ back) none) ∙ e in absurd cc
      by_sign (Some negative) is again =
          let ts = behind_one (front ++ back) in
          let stops = sym (signed generators demands most (front ++ back) negative is) ∙ e in
          let l : length back ≤ length ts = ⊎_elim
          (λ term. term-bounded generators table demands negative ts (length back, kind) term)
          (λ (one : TermThenStops generators table demands negative ts (λ first behind. further_in most generators demands behind ≡ Err (length back, kind))).
          let m = further-bounded generators table demands most one.behind (length back, kind) one.others_stop in omega (arith, m, term-length generators table demands negative ts one.behind one.first one.first_is))
          (sign-either generators table demands most negative (front ++ back) (length back, kind) stops) in
          let w = within (mark negative ∷ []) ts front back (sym (sign-spelled (front ++ back) negative is)) l in
          behind-sign-begins negative front w.between w.front_is (⊎_elim
          (λ term. one-alone negative w.between (term-begins demands negative w.between back kind (ap (term_in generators demands negative) (sym w.rest_is) ∙ term)))
          (λ (one : TermThenStops generators table demands negative ts (λ first behind. further_in most generators demands behind ≡ Err (length back, kind))).
          one-more demands negative w.between back one.behind one.first (ap (term_in generators demands negative) (sym w.rest_is) ∙ one.first_is)
          (further-bounded generators table demands most one.behind (length back, kind) one.others_stop)
          (λ between b. again between (ap (further_in most generators demands) (sym b) ∙ one.others_stop)))
          (sign-either generators table demands most negative (front ++ back) (length back, kind) stops))

  module _ (least : ℕ) (arity : Option ℕ) where
    first-begins : (negative : Bool) (front back : List Token) (kind : DocKind) → from_first generators least arity negative (front ++ back) ≡ Err (length back, kind) → BeginsTerms negative front
    first-begins negative front back kind e = ⊎_elim
        (λ term. one-alone negative front (term-begins (demands_of least arity) negative front back kind term))
        (λ (one : FirstThenStops generators table least arity negative (front ++ back) (length back, kind)). later one)
        (first-either generators table least arity negative (front ++ back) (length back, kind) e)
      where
        later : FirstThenStops generators table least arity negative (front ++ back) (length back, kind) → BeginsTerms negative front
        later one =
            let demands = demands_of least (Some (leaf_count one.first.tree)) in
            one-more (demands_of least arity) negative front back one.behind one.first one.first_is (further-bounded generators table demands (length one.behind) one.behind (length back, kind) one.others_stop)
            (λ between b. further-begins demands (length one.behind) between back kind (ap (further_in (length one.behind) generators demands) (sym b) ∙ one.others_stop))

    element-begins : (front back : List Token) (kind : DocKind) → element_in generators (demands_of least arity) (front ++ back) ≡ Err (length back, kind)
        → (terms : List Written) × (others : List Token) × All (λ term. Fits generators term.tree) terms × (element_tokens generators terms ≡ front ++ others)
    element-begins front back kind e = by_nothing (is_nothing (front ++ back)) refl
      where
        begun : (negative : Bool) (between : List Token) → front ≡ (if negative then Byte 45 ∷ [] else []) ++ between → BeginsTerms negative between
            → (terms : List Written) × (others : List Token) × All (λ term. Fits generators term.tree) terms × (element_tokens generators terms ≡ front ++ others)
        begun negative between is one =
            let sign_of : Bool → List Token = λ b. if b then Byte 45 ∷ [] else [] in (
              one.term ∷ one.terms,
              one.others,
              one.fit,
              ap (λ b. (if b then Byte 45 ∷ [] else []) ++ (term_tokens generators one.term ++ further_tokens generators one.terms)) one.sign_is ∙ ap (λ x. sign_of negative ++ x) one.spelled
                  ∙ sym (append_assoc (sign_of negative) between one.others) ∙ ap (λ x. x ++ one.others) (sym is),
            )

        by_nothing : (b : Bool) → is_nothing (front ++ back) ≡ b
            → (terms : List Written) × (others : List Token) × All (λ term. Fits generators term.tree) terms × (element_tokens generators terms ≡ front ++ others)
        by_nothing true is =
            let both : ◌≡◌ {A = Reading (List Written)} (Ok ([], behind_one (front ++ back))) (Err (length back, kind)) = sym (nothing-is generators least arity (front ++ back) is) ∙ e in absurd cc
        by_nothing false other =
            let negative = begins_with 45 (front ++ back) in
            let ts : List Token = if negative then behind_one (front ++ back) else (front ++ back) in
            let first = sym (first-is generators least arity (front ++ back) ts negative other refl refl) ∙ e in
            let w = within (if negative then Byte 45 ∷ [] else []) ts front back (sym (minus-spelled negative (front ++ back) refl)) (first-bounded generators table least arity negative ts (length back, kind) first) in
            begun negative w.between w.front_is (first-begins negative w.between back kind (ap (from_first generators least arity negative) (sym w.rest_is) ∙ first))

pub refused_begin : RefusedElementsBegin
refused_begin generators table least arity front back kind e = element-begins generators table least arity front back kind e
