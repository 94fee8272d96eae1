-- Reading further terms: the terms read so far, and how an element goes on behind them.
use Rattle.std.proofs.Common.{◌≡◌, ℕ, zero, suc, ◌+◌, ◌-◌, ◌<◌, ◌≤◌, Bool, List, [], ◌∷◌, ◌++◌, length, drop, Option, Some, None, Ok, Err, refl, ap, sym, ◌∙◌, arith, append_assoc, append-nil, length-drop}
use Rattle.symmetric_trees.specs.declared.generators.Generator.{Generator}
use Rattle.symmetric_sums.specs.Terms.{terms_of}
use Rattle.symmetric_sums.specs.declared.term.Term.{Term}
use Rattle.presentation_text.specs.declared.lexing.Token.{Token}
use Rattle.presentation_text.specs.declared.terms.ElementAt.{ElementAt}
use Rattle.presentation_text.specs.declared.terms.TermRead.{TermRead}
use Rattle.presentation_text.specs.declared.trees.Demands.{Demands}
use Rattle.presentation_text.specs.Readings.{Fault, Reading, ◌>>=◌}
use Rattle.presentation_text.specs.Elements.{Written, written_sum}
use Rattle.presentation_text.specs.ElementReadings.{behind_one, sign, term_in, further_in, written, IsTermRead, GoesOn}
use Rattle.presentation_text.proofs.ElementReadingsRead.{drop-behind_one}
use Rattle.presentation_text.proofs.ElementReadingsSums.{said-append}

-- the terms that are read, behind others
abbrev pub behind_terms : List Written → Reading (List Written) → Reading (List Written)
behind_terms terms (Ok x) = Ok (terms ++ x.0, x.1)
behind_terms terms (Err e) = Err e

behind_none : (r : Reading (List Written)) → behind_terms [] r ≡ r
behind_none (Ok x) = refl
behind_none (Err e) = refl

behind_both : (xs ys : List Written) (r : Reading (List Written)) → behind_terms xs (behind_terms ys r) ≡ behind_terms (xs ++ ys) r
behind_both xs ys (Ok x) = ap (λ l. Ok (l, x.1)) (sym (append_assoc xs ys x.0))
behind_both xs ys (Err e) = refl

module _ (generators : List Generator) (demands : Demands) where
  -- what is read behind a sign
  unfoldable pub behind_sign : ℕ → Bool → List Token → Reading (List Written)
  behind_sign most negative ts = do
    first ← term_in generators demands negative (behind_one ts)
    others ← further_in most generators demands first.1
    Ok (first.0 ∷ others.0, others.1)

  pub signed : (most : ℕ) (ts : List Token) (negative : Bool) → sign ts ≡ Some negative → further_in (suc most) generators demands ts ≡ behind_sign most negative ts
  unfolding further_in behind_sign
  signed most ts negative is = rw is refl

  one_more : (term : Written) (r : Reading (List Written)) → (r >>= (λ others. Ok (term ∷ others.0, others.1))) ≡ behind_terms (term ∷ []) r
  one_more term (Ok x) = refl
  one_more term (Err e) = refl

  sign-reads : (most : ℕ) (ts rest : List Token) (negative : Bool) (term : Written) → term_in generators demands negative (behind_one ts) ≡ Ok (term, rest)
      → behind_sign most negative ts ≡ behind_terms (term ∷ []) (further_in most generators demands rest)
  unfolding behind_sign
  sign-reads most ts rest negative term is = rw is (one_more term (further_in most generators demands rest))

  pub sign-stops : (most : ℕ) (ts : List Token) (negative : Bool) (e : Fault) → term_in generators demands negative (behind_one ts) ≡ Err e → behind_sign most negative ts ≡ Err e
  unfolding behind_sign
  sign-stops most ts negative e is = rw is refl

  -- no sign stands there
  pub unsigned : (most : ℕ) (ts : List Token) → sign ts ≡ None → further_in most generators demands ts ≡ Ok ([], ts)
  unfolding further_in
  unsigned zero ts is = refl
  unsigned (suc most) ts is = rw is refl

  -- a sign stands there, and so there are terms left
  more : (most : ℕ) (ts : List Token) (negative : Bool) → sign ts ≡ Some negative → length ts ≤ most → (less : ℕ) × (most ≡ suc less)
  more zero [] negative is l = absurd cc
  more zero (token ∷ ts) negative is l = absurd (omega arith)
  more (suc less) ts negative is l = (less, refl)

  -- The terms read so far, and how many more may be read; reading goes on behind them.
  pub record OnTheWay (p : ℕ) (tokens : List Token) (begun : ElementAt) (sum : List Term) (next : ℕ) : Type 0 where
    pub terms : List Written
    pub most : ℕ
    pub room : length tokens - next ≤ most
    pub within : next ≤ length tokens
    pub behind : begun.next ≤ next
    pub reading_is : further_in (length (drop begun.next tokens)) generators demands (drop begun.next tokens) ≡ behind_terms terms (further_in most generators demands (drop next tokens))
    pub sum_is : terms_of sum ≡ terms_of begun.sum ++ written_sum p terms

  module _ (p : ℕ) (tokens : List Token) (begun : ElementAt) where
    pub way-start : begun.next ≤ length tokens → OnTheWay p tokens begun begun.sum begun.next
    way-start within = record {
      terms = [];
      most = length (drop begun.next tokens);
      room = omega (arith, length-drop begun.next tokens);
      within = within;
      behind = omega arith;
      reading_is = sym (behind_none (further_in (length (drop begun.next tokens)) generators demands (drop begun.next tokens)));
      sum_is = sym (append-nil (terms_of begun.sum));
    }

    module _ (sum : List Term) (next : ℕ) (way : OnTheWay p tokens begun sum next) where
      goes_on : (negative : Bool) → sign (drop next tokens) ≡ Some negative → (less : ℕ) × (way.most ≡ suc less)
          × (further_in way.most generators demands (drop next tokens) ≡ behind_sign less negative (drop next tokens))
      goes_on negative is =
          let room = way.room in
          let left : length (drop next tokens) ≤ way.most = omega (arith, length-drop next tokens) in
          let less = more way.most (drop next tokens) negative is left in
          (less.0, less.1, ap (λ k. further_in k generators demands (drop next tokens)) less.1 ∙ signed less.0 (drop next tokens) negative is)

      -- a further term is refused
      pub way-stops : (negative : Bool) → sign (drop next tokens) ≡ Some negative → (e : Fault) → term_in generators demands negative (drop (next + 1) tokens) ≡ Err e
          → further_in (length (drop begun.next tokens)) generators demands (drop begun.next tokens) ≡ Err e
      way-stops negative is e stops =
          let goes = goes_on negative is in
          let term = ap (term_in generators demands negative) (drop-behind_one tokens next) ∙ stops in
          way.reading_is ∙ ap (behind_terms way.terms) (goes.2 ∙ sign-stops goes.0 (drop next tokens) negative e term)

      -- a further term is read
      pub way-step : (negative : Bool) → sign (drop next tokens) ≡ Some negative → (term : TermRead) → IsTermRead tokens (term_in generators demands negative (drop (next + 1) tokens)) term
          → next + 1 < term.tree.end → (new : List Term) → terms_of new ≡ terms_of sum ++ written_sum p (written term ∷ []) → OnTheWay p tokens begun new term.tree.end
      way-step negative is term read further new says =
          let goes = goes_on negative is in
          let reads = ap (term_in generators demands negative) (drop-behind_one tokens next) ∙ read.reading_is in
          let room = way.room in
          let behind = way.behind in
          let less = goes.1 in
          record {
            terms = way.terms ++ written term ∷ [];
            most = goes.0;
            room = omega arith;
            within = read.within;
            behind = omega arith;
            reading_is = way.reading_is ∙ ap (behind_terms way.terms) (goes.2 ∙ sign-reads goes.0 (drop next tokens) (drop term.tree.end tokens) negative (written term) reads)
                ∙ behind_both way.terms (written term ∷ []) (further_in goes.0 generators demands (drop term.tree.end tokens));
            sum_is = says ∙ ap (λ l. l ++ written_sum p (written term ∷ [])) way.sum_is ∙ append_assoc (terms_of begun.sum) (written_sum p way.terms) (written_sum p (written term ∷ []))
                ∙ ap (λ l. terms_of begun.sum ++ l) (sym (said-append p way.terms (written term ∷ [])));
          }

      -- no sign stands there, and the element ends
      pub way-ends : sign (drop next tokens) ≡ None → (arity : Option ℕ) → arity ≡ begun.arity
          → GoesOn p tokens (further_in (length (drop begun.next tokens)) generators demands (drop begun.next tokens)) begun (record { sum = sum; arity = arity; next = next })
      way-ends is arity same = record {
        terms = way.terms;
        reading_is = way.reading_is ∙ ap (behind_terms way.terms) (unsigned way.most (drop next tokens) is) ∙ ap (λ l. Ok (l, drop next tokens)) (append-nil way.terms);
        within = way.within;
        sum_is = way.sum_is;
        arity_is = same;
      }
