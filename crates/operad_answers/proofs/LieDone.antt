-- An example: over the Lie presentation `forms 4` is done with one query, within a budget that a full counted run keeps.
use Rattle.std.proofs.Common.{◌≡◌, ℕ, zero, suc, ◌+◌, List, [], ◌∷◌, codes, length, None, Ok, refl, sym, ◌∙◌, ap, subst, arith}
use mathlib.Core.List.{◌++◌}
use Rattle.std.proofs.lemmas.List.Elements.{All-from_recursion}
use native.Mathlib.Decide.{ℕ_discrete}
use Rattle.labelled_trees.specs.Labelled.{IsNumbered}
use Rattle.labelled_trees.specs.Meaning.{tree_of}
use Rattle.labelled_trees.proofs.Numbered.{numbered_of_labelled}
use Rattle.shuffle_insertions.proofs.Examples.{t1}
use Rattle.shuffle_transfer.specs.Labels.{word_discrete, same_cons, letter_discrete, same_letter}
use Rattle.modular_sums.specs.Lists.{Nth}
use Rattle.shuffle_completion.specs.Completion.{IsCompletedThrough}
use Rattle.shuffle_completion.proofs.Lie.{through_four}
use Rattle.counted_runs.specs.Items as items
use Rattle.counted_runs.specs.Items.{question}
use Rattle.counted_runs.specs.Runs.{run_length}
use Rattle.counted_runs.specs.FullRuns.{HasItem}
use Rattle.counted_runs.specs.Calls.{Call, completing, answering}
use Rattle.counted_runs.specs.Counters.{HasCountedFull}
use Rattle.counted_runs.proofs.LieFullRun.{one, the_run, the_pair}
use Rattle.counted_runs.proofs.LieRuns.{BracketEntry}
use Rattle.counted_runs.proofs.LieAnswers.{the_chain, answered_run}
use Rattle.symmetric_sums.specs.Terms.{terms_of}
use Rattle.symmetric_sums.specs.declared.term.Term.{Term}
use Rattle.presentation_text.specs.DocumentReadings.{read_text, word_line, lines_from, document_from}
use Rattle.presentation_text.specs.ElementReadings.{term_in, further_in, element_in}
use Rattle.presentation_text.specs.LineReadings.{Asked, query, word_fault, field_line, order_line, symmetry_in, named_arity_in, generator_in, gen_line, rel_line, query_in, same_in, query_line, same_line}
use Rattle.presentation_text.specs.TreeReadings.{row_in, tree_in, whole_tree_in}
use Rattle.presentation_text.specs.Presentations.{IsReadAs}
use Rattle.presentation_text.specs.declared.document.Ask.{Ask}
use Rattle.presentation_text.specs.declared.document.AskKind.{AskKind}
use Rattle.presentation_text.specs.declared.document.AskKind.TheVariants.{Query}
use Rattle.presentation_text.specs.declared.document.Document.{Document}
use Rattle.operad_answers.specs.OrderedPresentations.{presentation, comparison, written, asks_of}
use Rattle.operad_answers.specs.Texts.{IsFormsText}
use Rattle.operad_answers.specs.Limits.{IsAskWithin, HasFewTrees, IsWithinLimits}
use Rattle.operad_answers.specs.Budgets.{counted_of, counted, IsPaid}
use Rattle.operad_answers.specs.Commands.{forms, IsTextOf, IsAnsweredBy, IsDone}
use Rattle.operad_answers.proofs.Bounds.{counted_runs_pay}
use Rattle.operad_answers.proofs.WellFormed.{documents_writable}
use Rattle.operad_answers.proofs.LieTexts.{lie_written, lie_answer}
use Rattle.operad_answers.proofs.LieDocument.{lie_with, lie_content, read_with, lie_is_written, comb, comb_is}
use Rattle.operad_answers.proofs.LieProof.{label_one}

abbrev pub bytes : List ℕ
bytes = codes "operad 1\nfield 101\norder path\ngen l 2 alt\nrel l(l(1,2),3) + l(l(2,3),1) + l(l(3,1),2)\nquery l(l(1,2),3)\n"

abbrev pub first_term : Term
first_term = record { coef = 1; tree = comb 1 2 3 }

abbrev pub one_term : List Term
one_term = first_term ∷ []

abbrev pub query_kind : AskKind
query_kind = Query one_term

abbrev pub asks : List Ask
asks = record { line = 6; kind = query_kind } ∷ []

abbrev pub document : Document
document = lie_with asks

pub term_is : terms_of one_term ≡ (1, t1) ∷ []
term_is = ap (λ t. (1, t) ∷ []) (comb_is 1 2 3)

reading : read_text bytes ≡ Ok (record { contents = lie_content ((6, query ((1, t1) ∷ [])) ∷ []); tail = None })
unfolding word_line lines_from document_from term_in further_in element_in word_fault field_line order_line symmetry_in named_arity_in generator_in gen_line rel_line query_in same_in query_line same_line row_in tree_in whole_tree_in lie_content ℕ_discrete
reading = refl

pub is_read : IsReadAs bytes document
is_read = read_with bytes asks ((6, query ((1, t1) ∷ [])) ∷ []) reading (ap (λ e. (6, query e) ∷ []) term_is)

-- ---- the counted runs' document is that of the example in the crate of counted runs

counted_is : counted document ≡ counted_of lie_written (query ((1, t1) ∷ []) ∷ [])
counted_is = ap (λ o. counted_of o (asks_of document)) (lie_is_written asks) ∙ ap (λ e. counted_of lie_written (query e ∷ [])) term_is

abbrev calls : List Call
calls = answering 1 ∷ (completing ∷ [])

abbrev whole_run : List BracketEntry
whole_run = the_run ++ (the_pair ∷ [])

abbrev steps : ℕ
steps = run_length whole_run + length the_chain.uses

abbrev Answered : items.Problem → Type 0
Answered x = (all : HasCountedFull x 4 one calls steps) × HasItem all.run (question 1)

answered_here : Answered (counted document)
answered_here = subst Answered (sym counted_is) answered_run

complete_here : IsCompletedThrough (presentation (written document)) (comparison (written document)) one 4
complete_here = subst (λ o. IsCompletedThrough (presentation o) (comparison o) one 4) (sym (lie_is_written asks)) through_four

only_one : (k : ℕ) (ask : Asked) → Nth k (asks_of document) ask → HasItem answered_here.0.run (question k)
only_one zero ask h = absurd h
only_one (suc zero) ask h = answered_here.1
only_one (suc (suc k)) ask h = absurd h

paid : IsPaid (IsAnsweredBy forms) document 4 steps
paid = counted_runs_pay document (documents_writable bytes document is_read) 4 steps one complete_here calls steps answered_here.0 (omega arith) forms (λ k ask h is at two most. only_one k ask h)

-- ---- no limit is met

pub few_trees : HasFewTrees document 4
unfolding word_discrete same_cons letter_discrete same_letter ℕ_discrete
few_trees zero one_le le = absurd (omega (arith, one_le))
few_trees (suc zero) one_le le = omega arith
few_trees (suc (suc zero)) one_le le = omega arith
few_trees (suc (suc (suc zero))) one_le le = omega arith
few_trees (suc (suc (suc (suc zero)))) one_le le = omega arith
few_trees (suc (suc (suc (suc (suc n))))) one_le le = absurd (omega (arith, le))

pub three_leaves : IsNumbered 3 (tree_of (comb 1 2 3))
three_leaves = subst (IsNumbered 3) (sym (comb_is 1 2 3)) (numbered_of_labelled label_one)

pub within : IsWithinLimits document 4
within = record {
  few_trees = few_trees;
  asks = All-from_recursion (λ ask. IsAskWithin 4 ask.kind) document.asks ((3, omega arith, All-from_recursion (λ term. IsNumbered 3 (tree_of term.tree)) one_term (three_leaves, tt)), tt);
}

-- ---- done

plain_forms : IsFormsText lie_written (query ((1, t1) ∷ []) ∷ []) (codes "l(1,l(2,3)) + l(l(1,3),2)\n")
plain_forms = record { answers = codes "l(1,l(2,3)) + l(l(1,3),2)" ∷ []; are_answers = (lie_answer, tt); text_is = refl }

pub forms_text : IsTextOf forms document 4 (codes "l(1,l(2,3)) + l(l(1,3),2)\n")
forms_text = subst (λ o. IsFormsText o (asks_of document) (codes "l(1,l(2,3)) + l(l(1,3),2)\n")) (sym (lie_is_written asks))
    (subst (λ e. IsFormsText lie_written (query e ∷ []) (codes "l(1,l(2,3)) + l(l(1,3),2)\n")) (sym term_is) plain_forms)

pub lie_done : IsDone forms document 4 steps (codes "l(1,l(2,3)) + l(l(1,3),2)\n")
lie_done = record { within = within; prints = forms_text; paid = paid }
