-- The document of a trial exists, and writes the presentation of each trial.
use Rattle.std.proofs.Common.{◌≡◌, ℕ, suc, List, [], ◌∷◌, map, None, refl, ◌∙◌, ap}
use mathlib.Core.Path.{ap₂}
use Rattle.operad_ideals.specs.Presentations.{Relation}
use Rattle.shuffle_transfer.specs.NormalTrees.{OneOrder}
use Rattle.symmetric_trees.specs.declared.generators.Generator.{Generator}
use Rattle.symmetric_sums.specs.Membership.{relation_of}
use Rattle.presentation_text.specs.DraftReadings.{asked}
use Rattle.presentation_text.specs.LineReadings.{Asked, same}
use Rattle.presentation_text.specs.declared.document.Ask.{Ask}
use Rattle.presentation_text.specs.declared.document.AskKind.TheVariants.{Same}
use Rattle.presentation_text.specs.declared.document.Document.{Document}
use Rattle.presentation_text.specs.declared.document.OrderName.TheVariants.{Path}
use Rattle.trial_elements.specs.PreLie.{pre_lie_terms}
use Rattle.trial_elements.specs.Elements.{minus_one, trial_presentation, trial_elements}
use Rattle.symmetric_sums.proofs.MadeSums.{program_terms, made_terms}
use Rattle.operad_answers.specs.OrderedPresentations.{OrderedPresentation, order_named, written}
use Rattle.operad_answers.specs.Texts.{Sum}
use Rattle.operad_answers.specs.Verdicts.{numbered_from}
use Rattle.operad_answers.specs.TrialDocuments.{trial_generator, trial_written, trial_questions, IsTrialDocument}
use Rattle.operad_answers.proofs.OneText.{relations_of, relations_are, asks_are}
use Rattle.operad_answers.specs.TrialLaws.{TrialDocumentsExist, TrialDocumentsWrite}

-- ---- the document

asks_from : ℕ → List Sum → List Ask
asks_from number [] = []
asks_from number (e ∷ l) = record { line = number; kind = Same (program_terms e) [] } ∷ asks_from (suc number) l

asks_back : (number : ℕ) (l : List Sum) → map asked (asks_from number l) ≡ numbered_from number (map (λ e. same e []) l)
unfolding asks_from
asks_back number [] = refl
asks_back number (e ∷ l) = ap₂ (λ f m. (number, same f []) ∷ m) (made_terms e) (asks_back (suc number) l)

document : ℕ → Document
document seed = record {
  version = 1;
  field = 32003;
  order = Path;
  weights = 0 ∷ [];
  gens = trial_generator ∷ [];
  rels = program_terms (pre_lie_terms minus_one) ∷ [];
  asks = asks_from 6 (trial_elements seed);
  tail = None;
}

pub documents_exist : TrialDocumentsExist
unfolding document
documents_exist seed = (
  document seed,
  record {
    version_is = refl;
    field_is = refl;
    order_is = refl;
    weights_are = refl;
    generators_are = refl;
    relations_are = ap (λ e. e ∷ []) (made_terms (pre_lie_terms minus_one));
    asks_are = asks_back 6 (trial_elements seed);
    no_tail = refl;
  },
)

-- ---- what it writes

abbrev made : ℕ → List Generator → List Relation → OneOrder → OrderedPresentation
made p generators relations order = record { field = p; generators = generators; relations = relations; order = order }

written_is : (seed : ℕ) (d : Document) → IsTrialDocument seed d → written d ≡ trial_written
unfolding relations_of
written_is seed d h =
    let relations : map relation_of d.rels ≡ trial_presentation.relations = relations_are d.rels ∙ ap relations_of h.relations_are in
    ap (λ p. made p d.gens (map relation_of d.rels) (order_named d.order d.weights)) h.field_is
    ∙ ap (λ g. made 32003 g (map relation_of d.rels) (order_named d.order d.weights)) h.generators_are
    ∙ ap (λ l. made 32003 (trial_generator ∷ []) l (order_named d.order d.weights)) relations
    ∙ ap (λ order. made 32003 (trial_generator ∷ []) trial_presentation.relations (order_named order d.weights)) h.order_is

-- ---- what it asks

without_numbers : (k : ℕ) (l : List Asked) → map (λ (x : ℕ × Asked). x.1) (numbered_from k l) ≡ l
without_numbers k [] = refl
without_numbers k (x ∷ l) = ap (λ m. x ∷ m) (without_numbers (suc k) l)

pub documents_write : TrialDocumentsWrite
documents_write = (
  refl,
  λ seed d h. (written_is seed d h, asks_are d.asks ∙ ap (map (λ (x : ℕ × Asked). x.1)) h.asks_are ∙ without_numbers 6 (trial_questions seed)),
)
