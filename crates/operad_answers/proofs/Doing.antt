-- Budgets exist, and so do outcomes that are done.
use Rattle.std.proofs.Common.{ℕ, List, arith}
use Rattle.modular_sums.specs.Lists.{Mem}
use Rattle.modular_sums.specs.Sums.{AllTerms}
use Rattle.shuffle_completion.proofs.Laws.{complete_is_reduced}
use Rattle.shuffle_completion.proofs.Existence.{complete_through}
use Rattle.counted_runs.specs.Runs.{run_length}
use Rattle.symmetric_trees.specs.Trees.{IsLabelled}
use Rattle.operad_answers.specs.OrderedPresentations.{presentation, comparison, written, asks_of}
use Rattle.operad_answers.specs.Texts.{Sum, queries}
use Rattle.operad_answers.specs.Budgets.{question_of, counted, IsPaid}
use Rattle.operad_answers.specs.Commands.{Command, normal, basis, forms, prove, IsAnsweredBy, IsDone}
use Rattle.operad_answers.specs.Laws.{ExistenceLaw, BudgetsExist, DoneExists}
use Rattle.operad_answers.proofs.AskedElements.{asks_elements}
use Rattle.operad_answers.proofs.Bounds.{nth_map}
use Rattle.operad_answers.proofs.Existing.{texts_exist}
use Rattle.operad_answers.proofs.FullRuns.{full_run, is_full, all_asked}
use Rattle.operad_answers.proofs.Questions.{questions_are_elements}
use Rattle.operad_answers.proofs.Verdicts.{verdicts_exist}
use Rattle.operad_answers.proofs.WellFormed.{writable_well_formed, well_formed_over_field, order_in}

pub budgets_exist : BudgetsExist
budgets_exist d formed N =
    let o = written d in
    let field = well_formed_over_field o (writable_well_formed d formed) in
    let c = complete_through (presentation o) field (comparison o) (order_in o) N in
    let run = full_run (counted d) field (order_in o) (asks_elements d formed) c.0 N c.1 in (
      run_length run,
      λ command. record {
        basis = c.0;
        is_basis = complete_is_reduced (presentation o) field.sound field.wide field.not_zero (comparison o) (order_in o) c.0 N c.1;
        run = run;
        full = is_full (counted d) field (order_in o) (asks_elements d formed) c.0 N c.1;
        answered = λ k ask at is two most. all_asked (counted d) field (order_in o) (asks_elements d formed) c.0 N c.1 k (question_of d.field ask) (nth_map (question_of d.field) k (asks_of d) ask at) two most;
        few = omega arith;
      },
    )

pub done_exists : DoneExists
done_exists d formed N within command = go command (budgets_exist d formed N)
  where
    texts : ExistenceLaw (written d)
    texts = texts_exist (written d) (writable_well_formed d formed)

    elements : (e : Sum) → Mem e (queries (asks_of d)) → (n : ℕ) × AllTerms e (IsLabelled d.gens n)
    elements e m = let h = (questions_are_elements d formed).queried e m in (h.0, h.1.1)

    go : (c : Command) → (B : ℕ) × ((command : Command) → IsPaid (IsAnsweredBy command) d N B) → (B : ℕ) × (text : List ℕ) × IsDone c d N B text
    go normal b = let t = texts.normal N in (b.0, t.0, record { within = within; prints = t.1; paid = b.1 normal })
    go basis b = let t = texts.basis N in (b.0, t.0, record { within = within; prints = t.1; paid = b.1 basis })
    go forms b = let t = texts.forms (asks_of d) elements in (b.0, t.0, record { within = within; prints = t.1; paid = b.1 forms })
    go prove b = let t = (verdicts_exist d formed).1 in (b.0, t.0, record { within = within; prints = t.1; paid = b.1 prove })
