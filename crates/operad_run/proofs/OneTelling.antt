-- What a run tells is determined by the bytes.
use Rattle.std.proofs.Common.{◌≡◌, ℕ, ◌<◌, List, [], ap, sym, ◌∙◌, refl, subst}
use Rattle.std.specs.List.{All}
use Rattle.presentation_text.specs.DocumentReadings.{LineFault}
use Rattle.presentation_text.specs.Presentations.{IsReadAs}
use Rattle.presentation_text.specs.ReadBack.{ReadDocumentsAreWritable}
use Rattle.presentation_text.specs.declared.document.Ask.{Ask}
use Rattle.presentation_text.specs.declared.document.Document as document_of
use Rattle.presentation_text.specs.declared.kinds.DocKind.TheVariants.{Block}
use Rattle.operad_answers.specs.OrderedPresentations.{asked_by, asks_of}
use Rattle.operad_answers.specs.Commands.{query_fault}
use Rattle.operad_answers.specs.Texts.{queries}
use Rattle.operad_answers.specs.Limits.{IsAskWithin, IsFirstOfGreaterArity}
use Rattle.operad_answers.proofs.Bounds.{one_number, none_greater}
use Rattle.operad_run.specs.Answers.{AreAnswered}
use Rattle.operad_run.specs.FormsAnswers.{IsFreeDocument, IsFormsRefusal, by_line, by_tail, by_relation, HasGreaterArity, IsAnswered, FormsTells}
use Rattle.operad_run.specs.Runs.{fault_text}
use Rattle.operad_run.specs.Laws.{AnswersAreDetermined}
use Rattle.operad_run.specs.declared.status.Status.{Status}
use Rattle.operad_run.specs.declared.status.Status.TheVariants.{Done, Refused, Usage, Document, Limit, Budget, ReadFault, WriteFault, NoMemory}
use Rattle.operad_run.proofs.OneAnswer.{same_answered}
use Rattle.operad_run.proofs.SameReadings.{never_refused, refused_once, same_documents, same_tail_lines, no_tail_once}
use Rattle.certificate_text.proofs.ReadyBlocks.{prime_positive}

-- a text that is free is not refused
pub free_or_refused : (bytes : List ℕ) (document : document_of.Document) (text : List ℕ) → IsFreeDocument bytes document → IsFormsRefusal bytes text → ⊥
free_or_refused bytes document _ free (by_line number kind e) = never_refused bytes free.read.whole (number, kind) free.read.reading_is e
free_or_refused bytes document _ free (by_tail other tail r e) = no_tail_once bytes document other free.read r tail free.no_tail e
free_or_refused bytes document _ free (by_relation other r e some) =
    some (subst (All (λ sum. sum ≡ [])) (same_documents bytes document other free.read r).relations free.no_relations)

one_refusal : (bytes text other : List ℕ) → IsFormsRefusal bytes text → IsFormsRefusal bytes other → text ≡ other
one_refusal bytes _ _ (by_line n k e) (by_line m l f) = ap (λ (x : LineFault). fault_text x.0 x.1) (refused_once bytes (n, k) (m, l) e f)
one_refusal bytes _ _ (by_line n k e) (by_tail d t r f) = absurd (never_refused bytes r.whole (n, k) r.reading_is e)
one_refusal bytes _ _ (by_line n k e) (by_relation d r f some) = absurd (never_refused bytes r.whole (n, k) r.reading_is e)
one_refusal bytes _ _ (by_tail d t r f) (by_line n k e) = absurd (never_refused bytes r.whole (n, k) r.reading_is e)
one_refusal bytes _ _ (by_tail d t r f) (by_tail e u s g) = ap (λ n. fault_text n Block) (same_tail_lines bytes d e r s t u f g)
one_refusal bytes _ _ (by_tail d t r f) (by_relation e s g some) = absurd (no_tail_once bytes e d s r t g f)
one_refusal bytes _ _ (by_relation d r f some) (by_line n k e) = absurd (never_refused bytes r.whole (n, k) r.reading_is e)
one_refusal bytes _ _ (by_relation d r f some) (by_tail e u s g) = absurd (no_tail_once bytes d e r s u f g)
one_refusal bytes _ _ (by_relation d r f some) (by_relation e s g more) = refl

-- ---- the first question with a greater arity

abbrev AskWithin : ℕ → Ask → Type 0
AskWithin n ask = IsAskWithin n ask.kind

-- nor has it a question of a greater arity where none is
pub free_or_wide : (bytes : List ℕ) (n : ℕ) (document : document_of.Document) (text : List ℕ) → IsFreeDocument bytes document → All (AskWithin n) document.asks → HasGreaterArity bytes n text → ⊥
free_or_wide bytes n document text free within h =
    none_greater n document.asks h.number within (subst (λ asks. IsFirstOfGreaterArity n asks h.number) (sym (same_documents bytes document h.document free.read h.free.read).asks) h.wide)

module _ (writable : ReadDocumentsAreWritable) (bytes : List ℕ) (n : ℕ) where
  same_asks : (document other : document_of.Document) → IsFreeDocument bytes document → IsFreeDocument bytes other → document.asks ≡ other.asks
  same_asks document other h g = (same_documents bytes document other h.read g.read).asks

  wide_or_answered : (text other : List ℕ) → HasGreaterArity bytes n text → IsAnswered bytes n other → ⊥
  wide_or_answered text other h g =
      none_greater n g.document.asks h.number g.within (subst (λ asks. IsFirstOfGreaterArity n asks h.number) (same_asks h.document g.document h.free g.free) h.wide)

  one_limit : (text other : List ℕ) → HasGreaterArity bytes n text → HasGreaterArity bytes n other → text ≡ other
  one_limit text other h g =
      let asks = same_asks h.document g.document h.free g.free in
      h.text_is
      ∙ ap query_fault (one_number n g.document.asks h.number g.number (subst (λ xs. IsFirstOfGreaterArity n xs h.number) asks h.wide) g.wide)
      ∙ sym g.text_is

  positive : (document : document_of.Document) → IsReadAs bytes document → 0 < document.field
  positive document h = prime_positive document.field (writable bytes document h).field

  one_text : (text other : List ℕ) → IsAnswered bytes n text → IsAnswered bytes n other → text ≡ other
  one_text text other h g =
      let same = same_documents bytes h.document g.document h.free.read g.free.read in
      let d = h.document in
      let e = g.document in
      let here =
      subst (λ p. AreAnswered p e.gens (queries (asks_of e)) text) same.field
      (subst (λ gens. AreAnswered d.field gens (queries (asks_of e)) text) same.generators (subst (λ asks. AreAnswered d.field d.gens (queries (asked_by asks)) text) same.asks h.answered)) in
      same_answered e.field e.gens (queries (asks_of e)) text other (positive e g.free.read) here g.answered

  pub one_telling : (status other : Status) (text others : List ℕ) → FormsTells bytes n status text → FormsTells bytes n other others → (status ≡ other) × (text ≡ others)
  one_telling Document Document text others h g = (refl, one_refusal bytes text others h g)
  one_telling Document Limit text others h g = absurd (free_or_refused bytes g.document text g.free h)
  one_telling Document Done text others h g = absurd (free_or_refused bytes g.document text g.free h)
  one_telling Limit Document text others h g = absurd (free_or_refused bytes h.document others h.free g)
  one_telling Limit Limit text others h g = (refl, one_limit text others h g)
  one_telling Limit Done text others h g = absurd (wide_or_answered text others h g)
  one_telling Done Document text others h g = absurd (free_or_refused bytes h.document others h.free g)
  one_telling Done Limit text others h g = absurd (wide_or_answered others text g h)
  one_telling Done Done text others h g = (refl, one_text text others h g)
  one_telling Refused other text others h g = absurd h
  one_telling Usage other text others h g = absurd h
  one_telling Budget other text others h g = absurd h
  one_telling ReadFault other text others h g = absurd h
  one_telling WriteFault other text others h g = absurd h
  one_telling NoMemory other text others h g = absurd h
  one_telling Document Refused text others h g = absurd g
  one_telling Document Usage text others h g = absurd g
  one_telling Document Budget text others h g = absurd g
  one_telling Document ReadFault text others h g = absurd g
  one_telling Document WriteFault text others h g = absurd g
  one_telling Document NoMemory text others h g = absurd g
  one_telling Limit Refused text others h g = absurd g
  one_telling Limit Usage text others h g = absurd g
  one_telling Limit Budget text others h g = absurd g
  one_telling Limit ReadFault text others h g = absurd g
  one_telling Limit WriteFault text others h g = absurd g
  one_telling Limit NoMemory text others h g = absurd g
  one_telling Done Refused text others h g = absurd g
  one_telling Done Usage text others h g = absurd g
  one_telling Done Budget text others h g = absurd g
  one_telling Done ReadFault text others h g = absurd g
  one_telling Done WriteFault text others h g = absurd g
  one_telling Done NoMemory text others h g = absurd g

pub answers_determined : ReadDocumentsAreWritable → AnswersAreDetermined
answers_determined writable bytes n status other text others h g = one_telling writable bytes n status other text others h g
