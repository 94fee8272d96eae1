-- How the counted runs of a document stand to a bound on steps.
use Rattle.std.specs.Prelude.{ℕ, ◌≡◌, ◌≤◌, List, map}
use Rattle.std.proofs.Common.{false}
use Rattle.shuffle_bases.specs.Elements.{Element}
use Rattle.shuffle_completion.specs.ReducedBases.{IsReducedBasis}
use Rattle.counted_runs.specs.Items as items
use Rattle.counted_runs.specs.Items.{Question, question}
use Rattle.modular_sums.specs.Lists.{Nth}
use Rattle.counted_runs.specs.Runs.{EntryOf, IsStoppedRun, run_length}
use Rattle.counted_runs.specs.FullRuns.{IsFullRun, HasItem}
use Rattle.symmetric_sums.specs.Instances.{element_arity}
use Rattle.presentation_text.specs.LineReadings.{Asked, query, same}
use Rattle.presentation_text.specs.declared.document.Document.{Document}
use Rattle.operad_answers.specs.OrderedPresentations.{OrderedPresentation, presentation, comparison, written, asks_of}
use Rattle.operad_answers.specs.Texts.{Sum}
use Rattle.operad_answers.specs.Verdicts.{difference}

-- the element that a question asks of: that of a query, or left minus right
abbrev pub asked_element : ℕ → Asked → Sum
asked_element p (query e) = e
asked_element p (same left right) = difference p (record { left = left; right = right })

-- a question with its arity, as counted runs have it; one without terms has the arity 0, in which nothing is reduced
abbrev pub question_of : ℕ → Asked → Question
question_of p ask = record { arity = element_arity (asked_element p ask); terms = asked_element p ask }

-- What counted runs speak of: a presentation, its comparison and questions; nothing is traced.
abbrev pub counted_of : OrderedPresentation → List Asked → items.Problem
counted_of o asks = record { presentation = presentation o; compare = comparison o; questions = map (question_of o.field) asks; traces = false }

-- that of a document
abbrev pub counted : Document → items.Problem
counted d = counted_of (written d) (asks_of d)

-- A stopped counted run through N has exactly B steps.
abbrev pub IsSpent : Document → ℕ → ℕ → Type 0
IsSpent d N B = (run : List (EntryOf (counted d))) × IsStoppedRun (counted d) N run × (run_length run ≡ B)

-- A full counted run through N has at most B steps, and the questions of this kind of an arity from 2 to N are among its items.
pub record IsPaid (IsAnswered : Asked → Type 0) (d : Document) (N B : ℕ) : Type 0 where
  pub basis : List Element
  pub is_basis : IsReducedBasis (presentation (written d)) (comparison (written d)) basis N
  pub run : List (EntryOf (counted d))
  pub full : IsFullRun (counted d) N basis run
  pub answered : (k : ℕ) (ask : Asked) → Nth k (asks_of d) ask → IsAnswered ask
      → 2 ≤ element_arity (asked_element d.field ask) → element_arity (asked_element d.field ask) ≤ N → HasItem run (question k)
  pub few : run_length run ≤ B
