-- Answering one question after another.
use Rattle.std.proofs.Common.{◌≡◌, ℕ, ◌+◌, ◌<◌, ◌≤◌, List, [], ◌∷◌, ◌++◌, length, take, drop, get_or, Option, Some, None, refl, ap, sym, ◌∙◌, subst, take_all, arith}
use Rattle.std.specs.List.{All}
use Rattle.std.proofs.lemmas.List.Elements.{All-push}
use Rattle.labelled_trees.specs.Meaning.{tree_of}
use Rattle.labelled_trees.proofs.Numbered.{one_number}
use Rattle.symmetric_trees.specs.declared.generators.Generator.{Generator}
use Rattle.symmetric_sums.specs.Terms.{ArityIs, HaveArity, terms_of}
use Rattle.symmetric_sums.specs.declared.term.Term.{Term}
use Rattle.presentation_text.specs.declared.document.Ask.{Ask}
use Rattle.presentation_text.specs.declared.document.AskKind.{AskKind}
use Rattle.presentation_text.specs.declared.document.AskKind.TheVariants.{Query, Same}
use Rattle.certificate_check.proofs.GoodUses.{split-at, taken}
use Rattle.presentation_text.specs.DraftReadings.{asked_kind}
use Rattle.operad_answers.specs.OrderedPresentations.{asked_by}
use Rattle.operad_answers.specs.Parts.{line}
use Rattle.operad_answers.specs.Texts.{Sum, queries}
use Rattle.operad_answers.specs.Limits.{IsOfArityWithin, IsAskWithin, IsFirstOfGreaterArity}
use Rattle.operad_answers.proofs.Growing.{each_push, joined_push, queried_push, queries_pass}
use Rattle.operad_run.specs.Answers.{IsCollectedAnswer, AddsAnswer, AreAnswered}
use Rattle.operad_run.specs.FormsAnswers.{AnswersAsk}

-- ---- arities

-- each sum has an arity, as which any number goes where it has no terms
pub some_arity : (sum : List Term) (o : Option ℕ) → ArityIs sum o → (n : ℕ) × HaveArity n sum
some_arity sum None h = let none = h.empty refl in (0, λ k d l. absurd (omega (arith, none, l)))
some_arity sum (Some n) h = (n, (h.numbered n refl).1)

-- ---- the first question with a greater arity

abbrev AskWithin : ℕ → Ask → Type 0
AskWithin n ask = IsAskWithin n ask.kind

pub within_more : (n : ℕ) (asks : List Ask) (i : ℕ) (ask : Ask) → i < length asks → ask ≡ get_or asks i ask → All (AskWithin n) (take i asks) → AskWithin n ask → All (AskWithin n) (take (i + 1) asks)
within_more n asks i ask l e h k = subst (All (AskWithin n)) (sym (taken asks i ask l e)) (All-push (AskWithin n) (take i asks) ask h k)

pub all_within : (n : ℕ) (asks : List Ask) (i : ℕ) → length asks ≤ i → All (AskWithin n) (take i asks) → All (AskWithin n) asks
all_within n asks i l h = subst (All (AskWithin n)) (take_all i asks l) h

pub first_greater : (n : ℕ) (asks : List Ask) (i : ℕ) (ask : Ask) → i < length asks → ask ≡ get_or asks i ask → All (AskWithin n) (take i asks) → (AskWithin n ask → ⊥) → IsFirstOfGreaterArity n asks ask.line
first_greater n asks i ask l e h greater = record { front = take i asks; ask = ask; others = drop (i + 1) asks; asks_are = split-at asks i ask l e; within = h; greater = greater; number_is = refl }

-- ---- answers

pub none_answered : (p : ℕ) (generators : List Generator) (text : List ℕ) → text ≡ [] → AreAnswered p generators [] text
none_answered p generators text e = record { answers = []; are_answers = tt; text_is = e }

one_answered : (p : ℕ) (generators : List Generator) (es : List Sum) (e : Sum) (old new : List ℕ)
    → AreAnswered p generators es old → AddsAnswer p generators e old new → AreAnswered p generators (es ++ e ∷ []) new
one_answered p generators es e old new before h = record {
  answers = before.answers ++ h.answer ∷ [];
  are_answers = each_push (IsCollectedAnswer p generators) es before.answers e h.answer before.are_answers h.is_answer;
  text_is = h.text_is ∙ ap (λ a. a ++ line h.answer) before.text_is ∙ sym (joined_push line before.answers h.answer);
}

asked_push : (asks : List Ask) (ask : Ask) → asked_by (asks ++ ask ∷ []) ≡ asked_by asks ++ asked_kind ask.kind ∷ []
asked_push [] ask = refl
asked_push (x ∷ asks) ask = ap (λ l. asked_kind x.kind ∷ l) (asked_push asks ask)

-- one question more
pub one_more : (p : ℕ) (generators : List Generator) (asks : List Ask) (i : ℕ) (ask : Ask) (old new : List ℕ) → i < length asks → ask ≡ get_or asks i ask
    → AreAnswered p generators (queries (asked_by (take i asks))) old → AnswersAsk p generators ask.kind old new → AreAnswered p generators (queries (asked_by (take (i + 1) asks))) new
one_more p generators asks i ask old new l e before h = go ask.kind refl h where
  asked_now : (kind : AskKind) → ask.kind ≡ kind → asked_by (take (i + 1) asks) ≡ asked_by (take i asks) ++ asked_kind kind ∷ []
  asked_now kind c = ap asked_by (taken asks i ask l e) ∙ asked_push (take i asks) ask ∙ ap (λ k. asked_by (take i asks) ++ asked_kind k ∷ []) c

  go : (kind : AskKind) → ask.kind ≡ kind → AnswersAsk p generators kind old new → AreAnswered p generators (queries (asked_by (take (i + 1) asks))) new
  go (Query sum) c g =
      subst (λ es. AreAnswered p generators es new) (sym (ap queries (asked_now (Query sum) c) ∙ queried_push (asked_by (take i asks)) (terms_of sum)))
      (one_answered p generators (queries (asked_by (take i asks))) (terms_of sum) old new before g)
  go (Same left right) c g =
      subst (λ es. AreAnswered p generators es new) (sym (ap queries (asked_now (Same left right) c) ∙ queries_pass (asked_by (take i asks)) (terms_of left) (terms_of right)))
      (subst (AreAnswered p generators (queries (asked_by (take i asks)))) (sym g) before)

pub all_answered : (p : ℕ) (generators : List Generator) (asks : List Ask) (i : ℕ) (text : List ℕ) → length asks ≤ i → AreAnswered p generators (queries (asked_by (take i asks))) text → AreAnswered p generators (queries (asked_by asks)) text
all_answered p generators asks i text l before = subst (λ xs. AreAnswered p generators (queries (asked_by xs)) text) (take_all i asks l) before

-- ---- whether a sum is narrow

-- its arity is the only one that a sum with terms has
pub arity_within : (sum : List Term) (m n : ℕ) → ArityIs sum (Some m) → IsOfArityWithin n sum → m ≤ n
arity_within [] m n h w = let some = (h.numbered m refl).0 in absurd (omega (arith, some))
arity_within (x ∷ sum) m n h w =
    let same = one_number m w.0 (tree_of x.tree) ((h.numbered m refl).1 0 x (omega arith)) (w.2 0 x (omega arith)) in
    omega (arith, same, w.1)

-- ---- what isn't there

pub none_if : {X : Type 0} (o : Option X) → ((x : X) → o ≡ Some x → ⊥) → o ≡ None
none_if None h = refl
none_if (Some x) h = absurd (h x refl)
