-- Answers tell elements apart modulo symmetry.
use Rattle.std.proofs.Common.{ℕ, List, []}
use Rattle.prime_field.specs.Primes.{IsFieldPrime}
use Rattle.symmetric_trees.specs.Generators.{IsTable}
use Rattle.symmetric_trees.specs.Trees.{IsLabelled}
use Rattle.symmetric_trees.specs.declared.generators.Generator.{Generator}
use Rattle.modular_sums.specs.Sums.{AllTerms}
use Rattle.presentation_text.specs.TreeText.{HasWords}
use Rattle.shuffle_transfer.specs.NormalTrees.{by_path}
use Rattle.operad_answers.specs.OrderedPresentations.{OrderedPresentation, IsWellFormed}
use Rattle.operad_answers.specs.Texts as normal
use Rattle.operad_answers.specs.Texts.{Sum}
use Rattle.operad_answers.proofs.Forms.{decide}
use Rattle.operad_answers.proofs.FreePresentations.{collected_is_form}
use Rattle.operad_run.specs.Answers.{IsCollectedAnswer, CollectedAnswersDecide}

-- the presentation without relations, with an order
abbrev written : ℕ → List Generator → OrderedPresentation
written p generators = record { field = p; generators = generators; relations = []; order = by_path }

module _ (p : ℕ) (generators : List Generator) (prime : IsFieldPrime p) (table : IsTable generators) (words : HasWords generators) where
  well_formed : IsWellFormed (written p generators)
  well_formed = record { prime = prime; table = table; words = words; sound = λ r m. absurd m; proper = λ r m. absurd m }

  -- without relations the collected form is the normal form
  normal_answer : (n : ℕ) (e : Sum) (answer : List ℕ) → AllTerms e (IsLabelled generators n) → IsCollectedAnswer p generators e answer → normal.IsAnswer (written p generators) e answer
  normal_answer n e answer labelled a = record {
    arity = n;
    labelled = labelled;
    form = a.form;
    is_form = collected_is_form (written p generators) well_formed (λ r m. absurd m) n e a.form labelled a.is_collected;
    answer_is = a.answer_is;
  }

  pub answers_decide : CollectedAnswersDecide p generators
  answers_decide n few d e answer other a b ld le =
      decide (written p generators) well_formed n few d e ld le answer other (normal_answer n d answer ld a) (normal_answer n e other le b)
