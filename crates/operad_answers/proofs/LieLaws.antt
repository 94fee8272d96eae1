-- An example: what the laws say of documents of the Lie presentation.
use Rattle.std.proofs.Common.{◌≡◌, ◌<◌, ◌≤◌, ◌^◌, ℕ, zero, suc, None, List, [], ◌∷◌, length, arith, codes, refl, sym, inl, inr, ⊎_elim, ◌∙◌, subst}
use Rattle.std.specs.Prelude.{◌++◌, ◌↔◌}
use Rattle.std.specs.List.{AllByRecursion}
use Rattle.std.specs.Fmt.{digits}
use Rattle.labelled_trees.specs.Trees.{Tree}
use Rattle.labelled_trees.specs.Meaning.{tree_of}
use Rattle.labelled_trees.proofs.Numbered.{one_number}
use Rattle.shuffle_insertions.proofs.Examples.{t2, t3}
use Rattle.shuffle_transfer.specs.NormalTrees.{by_path}
use Rattle.operad_ideals.specs.Ideals.{InIdeal}
use Rattle.modular_sums.specs.Sums.{AllTerms, scale}
use Rattle.counted_runs.specs.Enough.{enough}
use Rattle.counted_runs.specs.Runs.{EntryOf, IsStoppedRun, run_length}
use Rattle.counted_runs.proofs.LieFullRun.{d, begin, stop, stopped_run}
use Rattle.counted_runs.proofs.LieRuns.{BracketEntry}
use Rattle.symmetric_trees.specs.Trees.{IsLabelled}
use Rattle.symmetric_trees.specs.declared.generators.PartKind.TheVariants.{Free}
use Rattle.symmetric_sums.specs.Terms.{terms_of}
use Rattle.shuffle_transfer.specs.Labels.{word_discrete, same_cons, letter_discrete, same_letter}
use native.Mathlib.Decide.{ℕ_discrete}
use Rattle.presentation_text.specs.Presentations.{IsReadAs}
use Rattle.presentation_text.specs.ReadBack.{IsWritable}
use Rattle.presentation_text.specs.TreeText.{tree_text}
use Rattle.presentation_text.specs.declared.document.OrderName.TheVariants.{Path}
use Rattle.presentation_text.specs.declared.document.Document.{Document}
use Rattle.operad_answers.specs.OrderedPresentations.{OrderedPresentation, presentation, written, IsWellFormed, asks_of}
use Rattle.operad_answers.specs.Parts.{part_text, AreParts}
use Rattle.operad_answers.specs.Texts.{IsNormalText, IsBasisOfQuotient, IsForm, IsAnswer, Sum, IsNarrow}
use Rattle.operad_answers.specs.Verdicts.{difference, WantingBlock}
use Rattle.shuffle_insertions.specs.Counting.{most_trees}
use Rattle.operad_answers.specs.Limits.{tree_number, IsAskWithin, IsWithinLimits}
use Rattle.operad_answers.specs.Budgets.{counted_of, counted, IsSpent}
use Rattle.operad_answers.specs.Commands.{budget_fault, basis, forms, IsTextOf, IsDone, HasTooManyTrees, AsksGreaterArity, IsOverBudget}
use Rattle.operad_answers.proofs.Bounds.{limits_exclude}
use Rattle.operad_answers.proofs.Deciding.{verdicts_decide, enough_is_not_spent}
use Rattle.operad_answers.proofs.Doing.{done_exists}
use Rattle.operad_answers.proofs.Existing.{basis_of, normal_texts_are_bases}
use Rattle.operad_answers.proofs.Forms.{decide}
use Rattle.operad_answers.proofs.FreePresentations.{collected_forms_are_normal}
use Rattle.operad_answers.proofs.OneGenerator.{binary}
use Rattle.operad_answers.proofs.OneText.{texts_determined, answers_determined}
use Rattle.operad_answers.proofs.PrintedLines.{query_lines_decide}
use Rattle.operad_answers.proofs.Questions.{questions_are_elements}
use Rattle.operad_answers.proofs.PrintedTrees.{listings_tell_trees, parts_tell_bases}
use Rattle.operad_answers.proofs.Verdicts.{members_have_blocks}
use Rattle.operad_answers.proofs.WellFormed.{documents_writable, documents_well_formed}
use Rattle.operad_answers.proofs.LieTexts.{generators, lie_written, well_formed, lie_text, lie_answer, three_are, brackets, twice, bracket_labelled, twice_collected}
use Rattle.operad_answers.proofs.LieDocument.{lie_with, lie_bytes, lie_document, lie_is_read, lie_is_written, two_asks, comb, forms_three}
use Rattle.operad_answers.proofs.LieProof.{sides, lie_yes, label_one, label_two, label_three}
use Rattle.operad_answers.proofs.LieDone as one

formed : IsWellFormed (written lie_document)
formed = documents_well_formed.1 lie_bytes lie_document lie_is_read

writable : IsWritable lie_document
writable = documents_writable lie_bytes lie_document lie_is_read

-- ---- there is one text

pub only_listing : (text : List ℕ) → IsNormalText lie_written 3 text → text ≡ codes "arity 1\n1\ncount 1\narity 2\nl(1,2)\ncount 1\narity 3\nl(1,l(2,3))\nl(l(1,3),2)\ncount 2\n"
only_listing text h = (texts_determined lie_written well_formed).one_normal 3 text (codes "arity 1\n1\ncount 1\narity 2\nl(1,2)\ncount 1\narity 3\nl(1,l(2,3))\nl(l(1,3),2)\ncount 2\n") h lie_text

pub only_forms : (d : Document) → IsReadAs lie_bytes d → (text : List ℕ) → IsTextOf forms d 3 text → text ≡ codes "l(1,l(2,3)) + l(l(1,3),2)\n"
only_forms d read text h = answers_determined lie_bytes d lie_document read lie_is_read forms (λ e. cc e) 3 text (codes "l(1,l(2,3)) + l(l(1,3),2)\n") h forms_three

-- ---- a part tells its trees

abbrev part : List ℕ
part = codes "arity 3\nl(1,l(2,3))\nl(l(1,3),2)\ncount 2\n"

two_labelled : AllByRecursion (IsLabelled generators 3) (t3 ∷ (t2 ∷ []))
two_labelled = (label_three, (label_two, tt))

part_is : part_text 3 (tree_text generators) (t3 ∷ (t2 ∷ [])) ≡ part
unfolding digits
part_is = refl

pub only_trees : (l : List (Tree ℕ)) → AllByRecursion (IsLabelled generators 3) l → length l < 2 ^ 63 → part_text 3 (tree_text generators) l ≡ part → t3 ∷ (t2 ∷ []) ≡ l
only_trees l labelled short same = listings_tell_trees lie_written well_formed 3 (omega arith) (t3 ∷ (t2 ∷ [])) l two_labelled labelled (omega arith) short (part_is ∙ sym same)

basis_part : IsBasisOfQuotient lie_written 3 part
basis_part = basis_of lie_written well_formed 3 part (record { trees = t3 ∷ (t2 ∷ []); are_normal = three_are; text_is = sym part_is })

pub only_basis : (other : IsBasisOfQuotient lie_written 3 part) → length other.trees < 2 ^ 63 → t3 ∷ (t2 ∷ []) ≡ other.trees
unfolding basis_part basis_of
only_basis other short = parts_tell_bases lie_written well_formed 3 (omega arith) part basis_part other (omega arith) short

pub bases : AreParts (IsBasisOfQuotient lie_written) 1 3 (codes "arity 1\n1\ncount 1\narity 2\nl(1,2)\ncount 1\narity 3\nl(1,l(2,3))\nl(l(1,3),2)\ncount 2\n")
bases = normal_texts_are_bases lie_written well_formed 3 (codes "arity 1\n1\ncount 1\narity 2\nl(1,2)\ncount 1\narity 3\nl(1,l(2,3))\nl(l(1,3),2)\ncount 2\n") lie_text

-- ---- l(l(1,2),3) less l(1,l(2,3)) + l(l(1,3),2) is in the ideal, so both have one answer and there is a block

left : AllTerms sides.left (IsLabelled generators 3)
left = (label_one, tt)

right : AllTerms sides.right (IsLabelled generators 3)
right = (label_three, (label_two, tt))

pub in_ideal : InIdeal (presentation (written lie_document)) 3 (difference 101 sides)
in_ideal = (verdicts_decide lie_document writable 1 3 sides left right
    (codes "# 1 yes\nwant l(l(1,2),3) - l(1,l(2,3)) - l(l(1,3),2)\nstep -l(1,l(2,3)) + l(l(1,2),3) - l(l(1,3),2)\nuse 1 ; 0 ; rel 1 ; 1 ; 2 ; 3\nend\n")).sound (lie_yes two_asks)

pub one_answer : (answer : List ℕ) → IsAnswer (written lie_document) sides.right answer → codes "l(1,l(2,3)) + l(l(1,3),2)" ≡ answer
one_answer answer h = (decide (written lie_document) formed 3 (omega arith) sides.left sides.right left right (codes "l(1,l(2,3)) + l(l(1,3),2)") answer
    (subst (λ o. IsAnswer o sides.left (codes "l(1,l(2,3)) + l(l(1,3),2)")) (sym (lie_is_written two_asks)) lie_answer) h).1 in_ideal

pub has_block : WantingBlock lie_document (difference 101 sides)
unfolding scale
has_block = members_have_blocks lie_document writable 3 (difference 101 sides) (omega arith, labelled) in_ideal
  where
    labelled : AllTerms (difference 101 sides) (IsLabelled generators 3)
    labelled = (label_one, (label_three, (label_two, tt)))

-- ---- lines of two texts decide

abbrev query_sum : Sum
query_sum = terms_of one.one_term

one_writable : IsWritable one.document
one_writable = documents_writable one.bytes one.document one.is_read

query_narrow : IsNarrow generators 3 query_sum
query_narrow = (omega arith, subst (λ e. AllTerms e (IsLabelled generators 3)) (sym one.term_is) (label_one, tt))

abbrev answer_line : List ℕ
answer_line = codes "l(1,l(2,3)) + l(l(1,3),2)"

pub lines_agree : (answer_line ≡ answer_line) ↔ InIdeal (presentation (written lie_document)) 3 (query_sum ++ scale 100 query_sum)
lines_agree = query_lines_decide (written lie_document) formed (asks_of lie_document) (asks_of one.document) (questions_are_elements lie_document writable) (questions_are_elements one.document one_writable)
    (codes "l(1,l(2,3)) + l(l(1,3),2)\n") (codes "l(1,l(2,3)) + l(l(1,3),2)\n") forms_three one.forms_text 1 1 query_sum query_sum refl refl 3 query_narrow query_narrow answer_line answer_line refl refl

-- ---- without relations the normal form is the collected form

abbrev skew : OrderedPresentation
skew = record { field = 101; generators = generators; relations = []; order = by_path }

skew_formed : IsWellFormed skew
skew_formed = record { prime = well_formed.prime; table = well_formed.table; words = well_formed.words; sound = λ r m. absurd m; proper = λ r m. absurd m }

pub twice_is_form : IsForm skew 2 brackets twice
twice_is_form = collected_forms_are_normal skew skew_formed (λ r m. absurd m) 2 brackets twice bracket_labelled twice_collected

-- ---- a budget that is spent, and one that suffices

-- the document without questions
open_writable : IsWritable (lie_with [])
open_writable = record {
  version = ⊎_elim (λ e. inl e) (λ h. inr (h.0, record { one_part = (h.1).one_part; no_weights = (h.1).no_weights; no_weight_order = (h.1).no_weight_order })) writable.version;
  field = writable.field;
  table = writable.table;
  words = writable.words;
  short = writable.short;
  weights = writable.weights;
  small = writable.small;
  few = writable.few;
  relations = writable.relations;
  asks = λ k x l. absurd (omega (arith, l));
}

abbrev stopped : List BracketEntry
stopped = (begin ∷ []) ++ (stop ∷ [])

spent : IsSpent (lie_with []) 4 (run_length stopped)
spent = subst (λ o. (run : List (EntryOf (counted_of o []))) × IsStoppedRun (counted_of o []) 4 run × (run_length run ≡ run_length stopped)) (sym (lie_is_written [])) (stopped, stopped_run, refl)

pub over_budget : IsOverBudget (lie_with []) 4 (run_length stopped) (budget_fault (run_length stopped))
over_budget = record { within = record { few_trees = one.few_trees; asks = λ k x l. absurd (omega (arith, l)) }; spent = spent; text_is = refl }

pub not_enough : run_length stopped < enough (counted (lie_with [])) 4
not_enough = enough_is_not_spent (lie_with []) open_writable 4 (run_length stopped) spent

pub basis_done : (B : ℕ) × (text : List ℕ) × IsDone basis one.document 4 B text
basis_done = done_exists one.document (documents_writable one.bytes one.document one.is_read) 4 one.within basis

-- ---- a question of a greater arity

pub greater : AsksGreaterArity one.document 2 (codes "fault limit query 6\n")
unfolding digits
greater = record {
  few_trees = λ n from most. one.few_trees n from (omega (arith, most));
  number = 6;
  first = record { front = []; ask = record { line = 6; kind = one.query_kind }; others = []; asks_are = refl; within = λ k x l. absurd (omega (arith, l)); greater = too_great; number_is = refl };
  text_is = refl;
}
  where
    too_great : IsAskWithin 2 one.query_kind → ⊥
    too_great w = let three = one_number w.0 3 (tree_of (comb 1 2 3)) (w.2 0 (one.first_term) (omega arith)) one.three_leaves in omega (arith, three, w.1)

pub not_within : IsWithinLimits one.document 2 → ⊥
not_within = (limits_exclude one.document 2).not_greater (codes "fault limit query 6\n") greater

-- ---- too many trees: two generators of two inputs without symmetry have 42577920 in arity 7

abbrev many : Document
many = record { version = 1; field = 101; order = Path; weights = 0 ∷ (0 ∷ []); gens = binary (codes "a") Free ∷ (binary (codes "b") Free ∷ []); rels = []; asks = []; tail = None }

few_up_to_six : (n : ℕ) → 1 ≤ n → n < 7 → tree_number many n ≤ most_trees
unfolding word_discrete same_cons letter_discrete same_letter ℕ_discrete
few_up_to_six zero from less = absurd (omega (arith, from))
few_up_to_six (suc zero) from less = omega arith
few_up_to_six (suc (suc zero)) from less = omega arith
few_up_to_six (suc (suc (suc zero))) from less = omega arith
few_up_to_six (suc (suc (suc (suc zero)))) from less = omega arith
few_up_to_six (suc (suc (suc (suc (suc zero))))) from less = omega arith
few_up_to_six (suc (suc (suc (suc (suc (suc zero)))))) from less = omega arith
few_up_to_six (suc (suc (suc (suc (suc (suc (suc n))))))) from less = absurd (omega (arith, less))

many_in_seven : tree_number many 7 ≡ 42577920
unfolding word_discrete same_cons letter_discrete same_letter ℕ_discrete
many_in_seven = refl

pub too_many : HasTooManyTrees many 7 (codes "fault limit trees 7\n")
unfolding digits
too_many = record { arity = 7; first = record { from_one = omega arith; to_most = omega arith; too_many = omega (arith, many_in_seven); before = few_up_to_six }; text_is = refl }
