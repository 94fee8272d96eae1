-- What holds of the answers to a document.
use Rattle.std.specs.Prelude.{ℕ, ◌≡◌, ◌+◌, ◌<◌, ◌≤◌, ◌^◌, ◌⊎◌, ◌↔◌, List, [], ◌∷◌, ◌++◌, map, length, Ok, Option, None}
use Rattle.std.specs.List.{All, AllByRecursion}
use Rattle.std.specs.declared.cmp.Ordering.TheVariants.{Less}
use Rattle.modular_sums.specs.Lists.{Mem, Nth}
use Rattle.modular_sums.specs.Sums.{scale, moved, AllTerms}
use Rattle.modular_sums.specs.Sums as sums
use Rattle.labelled_trees.specs.Trees.{Tree}
use Rattle.labelled_trees.specs.Equality.{tree_discrete}
use Rattle.shuffle_insertions.specs.Orders.{IsTreeOrder}
use Rattle.shuffle_bases.specs.Elements.{Element, Insertion}
use Rattle.shuffle_reductions.specs.Chains.{IsChain, IsFinished}
use Rattle.shuffle_reductions.specs.Extensions.{Extends}
use Rattle.operad_ideals.specs.Ideals.{InIdeal}
use Rattle.operad_ideals.specs.Presentations.{Relation}
use Rattle.shuffle_transfer.specs.Labels.{inputs_of, symmetric_tree}
use Rattle.shuffle_transfer.specs.Transfer.{shuffled}
use Rattle.shuffle_transfer.specs.GroebnerBases.{setting}
use Rattle.shuffle_transfer.specs.NormalTrees.{normal_list, IsNormalTree}
use Rattle.shuffle_completion.specs.Completion.{IsCompletedThrough}
use Rattle.shuffle_completion.specs.ReducedBases.{IsMinimal}
use Rattle.shuffle_completion.specs.Existence.{IsOverField}
use Rattle.counted_runs.specs.Enough.{enough}
use Rattle.counted_runs.specs.Items.{question}
use Rattle.counted_runs.specs.Calls.{Call}
use Rattle.counted_runs.specs.Counters.{HasCountedFull}
use Rattle.counted_runs.specs.FullRuns.{HasItem}
use Rattle.symmetric_trees.specs.Generators.{parts_at}
use Rattle.operad_ideals.specs.SpellingOrder.{order}
use Rattle.symmetric_trees.specs.Trees.{IsLabelled}
use Rattle.operad_ideals.specs.Collected.{IsReduced, IsCollected}
use Rattle.operad_ideals.specs.Pairs.{Pairs}
use Rattle.presentation_text.specs.LineReadings.{Asked, query, same}
use Rattle.presentation_text.specs.Lines.{EndsWith, lines}
use Rattle.presentation_text.specs.Presentations.{IsReadAs}
use Rattle.presentation_text.specs.ReadBack.{IsWritable}
use Rattle.presentation_text.specs.TreeText.{tree_text}
use Rattle.presentation_text.specs.declared.document.Document.{Document}
use Rattle.presentation_text.specs.declared.document.Tail.{Tail}
use Rattle.certificate_text.specs.BlockReadings.{between, blocks_from, base_of}
use Rattle.certificate_text.specs.Plain.{plain_block}
use Rattle.certificate_text.specs.Tails.{AreReadAs}
use Rattle.certificate_text.specs.declared.block.Block.{Block}
use Rattle.operad_answers.specs.OrderedPresentations.{OrderedPresentation, presentation, comparison, written, IsWellFormed, asks_of}
use Rattle.operad_answers.specs.Parts.{line, part_text, AreParts, ListsInOrder}
use Rattle.operad_answers.specs.Texts.{Sum, IsNarrow, queries, IsNormalText, IsBasisText, IsFormsText, IsBasisOfQuotient, IsForm, IsAnswer, IsPrintedRule}
use Rattle.operad_answers.specs.Verdicts.{Holds, Sides, difference, comparisons, numbered_from, yes_number, WantingBlock, IsYes, IsNo, IsVerdict, IsProveText, verdict_blocks, AreQuestionsOver}
use Rattle.operad_answers.specs.Limits.{HasFewTrees, IsWithinLimits}
use Rattle.operad_answers.specs.Budgets.{question_of, counted, IsSpent, IsPaid}
use Rattle.operad_answers.specs.Commands.{Command, prove, IsTextOf, IsAnsweredBy, IsDone, HasTooManyTrees, AsksGreaterArity}

-- ---- documents

-- What a document that is read writes is well-formed, and a well-formed presentation is one over a field with an order of trees.
abbrev pub DocumentsAreWellFormed : Type 0
DocumentsAreWellFormed = ((d : Document) → IsWritable d → IsWellFormed (written d)) × ((bytes : List ℕ) (d : Document) → IsReadAs bytes d → IsWellFormed (written d))
    × ((o : OrderedPresentation) → IsWellFormed o → IsOverField (presentation o) × IsTreeOrder (inputs_of (presentation o).generators) (comparison o))

-- ---- one text

-- Each text is a function of the presentation with its order, of the greatest arity and of what is asked.
pub record TextLaw (o : OrderedPresentation) : Type 0 where
  pub one_normal : (N : ℕ) (text other : List ℕ) → IsNormalText o N text → IsNormalText o N other → text ≡ other
  pub one_basis : (N : ℕ) (text other : List ℕ) → IsBasisText o N text → IsBasisText o N other → text ≡ other
  pub one_answer : (e : Sum) (answer other : List ℕ) → IsAnswer o e answer → IsAnswer o e other → answer ≡ other
  pub one_forms : (asks : List Asked) (text other : List ℕ) → IsFormsText o asks text → IsFormsText o asks other → text ≡ other

abbrev pub TextsAreDetermined : Type 0
TextsAreDetermined = (o : OrderedPresentation) → IsWellFormed o → TextLaw o

-- So what a command other than `prove` prints of a text that is read is a function of the text and the greatest arity.
abbrev pub AnswersAreDetermined : Type 0
AnswersAreDetermined = (bytes : List ℕ) (d other : Document) → IsReadAs bytes d → IsReadAs bytes other → (command : Command) → (command ≡ prove → ⊥)
    → (N : ℕ) (text others : List ℕ) → IsTextOf command d N text → IsTextOf command other N others → text ≡ others

-- The text of a part tells its trees.
abbrev pub ListingsTellTrees : Type 0
ListingsTellTrees = (o : OrderedPresentation) → IsWellFormed o → (n : ℕ) → n ≤ 9 → (k l : List (Tree ℕ)) → AllByRecursion (IsLabelled o.generators n) k → AllByRecursion (IsLabelled o.generators n) l
    → length k < 2 ^ 63 → length l < 2 ^ 63 → part_text n (tree_text o.generators) k ≡ part_text n (tree_text o.generators) l → k ≡ l

-- So a part that prints a basis of the quotient tells the basis.
abbrev pub PartsTellBases : Type 0
PartsTellBases = (o : OrderedPresentation) → IsWellFormed o → (n : ℕ) → n ≤ 9 → (text : List ℕ) (one other : IsBasisOfQuotient o n text)
    → length one.trees < 2 ^ 63 → length other.trees < 2 ^ 63 → one.trees ≡ other.trees

-- ---- the headline

-- Each normal listing has, in each arity, sorted labelled trees in the spelling order that are independent and spanning modulo the ideal.
abbrev pub NormalTextsAreBases : Type 0
NormalTextsAreBases = (o : OrderedPresentation) → IsWellFormed o → (N : ℕ) (text : List ℕ) → IsNormalText o N text → AreParts (IsBasisOfQuotient o) 1 N text

-- Two elements of one arity have equal answers, byte for byte, exactly where their difference is in the ideal.
abbrev pub AnswersDecide : Type 0
AnswersDecide = (o : OrderedPresentation) → IsWellFormed o → (n : ℕ) → n ≤ 9 → (d e : Sum) → AllTerms d (IsLabelled o.generators n) → AllTerms e (IsLabelled o.generators n)
    → (answer other : List ℕ) → IsAnswer o d answer → IsAnswer o e other → (answer ≡ other) ↔ InIdeal (presentation o) n (d ++ scale (presentation o).q e)

-- So two lines that `forms` prints, for queries of one arity, are equal exactly where the difference of their elements is in the ideal. The
-- lines may stand in two texts, for different questions to one presentation with one order.
abbrev pub QueryLinesDecide : Type 0
QueryLinesDecide = (o : OrderedPresentation) → IsWellFormed o → (asks others : List Asked) → AreQuestionsOver o.generators asks → AreQuestionsOver o.generators others
    → (text other : List ℕ) → IsFormsText o asks text → IsFormsText o others other
    → (i j : ℕ) (d e : Sum) → Nth i (queries asks) d → Nth j (queries others) e → (n : ℕ) → IsNarrow o.generators n d → IsNarrow o.generators n e
    → (one two : List ℕ) → Nth i (lines text) one → Nth j (lines other) two → (one ≡ two) ↔ InIdeal (presentation o) n (d ++ scale (presentation o).q e)

-- A yes is given only where left minus right is in the ideal, a no only where it isn't; so a verdict is yes exactly where it is. Two
-- verdicts on one comparison are both yes, whatever their blocks, or one text.
pub record VerdictLaw (d : Document) (k n : ℕ) (sides : Sides) (text : List ℕ) : Type 0 where
  pub sound : IsYes d k sides text → InIdeal (presentation (written d)) n (difference d.field sides)
  pub refutes : IsNo d k sides text → InIdeal (presentation (written d)) n (difference d.field sides) → ⊥
  pub exactly : IsVerdict d (k, sides) text → IsYes d k sides text ↔ InIdeal (presentation (written d)) n (difference d.field sides)
  pub agree : (other : List ℕ) → IsVerdict d (k, sides) text → IsVerdict d (k, sides) other → (IsYes d k sides text × IsYes d k sides other) ⊎ (text ≡ other)

abbrev pub VerdictsDecide : Type 0
VerdictsDecide = (d : Document) → IsWritable d → (k n : ℕ) (sides : Sides) → AllTerms sides.left (IsLabelled d.gens n) → AllTerms sides.right (IsLabelled d.gens n)
    → (text : List ℕ) → VerdictLaw d k n sides text

-- What `prove` prints is read as blocks, namely those of the yes verdicts, each of which holds; the lines of the verdicts are passed over.
abbrev pub ProveTextsAreRead : Type 0
ProveTextsAreRead = (d : Document) → IsWritable d → (asks : List Asked) → AreQuestionsOver d.gens asks → length (comparisons asks) < 2 ^ 63
    → (text : List ℕ) (printed : IsProveText d asks text) → (number : ℕ)
    → (blocks_from (base_of d) (between, []) number (lines text) ≡ Ok (map plain_block (verdict_blocks d (numbered_from 1 (comparisons asks)) printed.verdicts printed.are_verdicts)))
    × ((block : Block) → Mem block (verdict_blocks d (numbered_from 1 (comparisons asks)) printed.verdicts printed.are_verdicts) → Holds d block)

-- ---- a document and what `prove` prints, together

-- the bytes, ended with a line feed: they end with one, or one is put behind them
abbrev pub IsEnded : List ℕ → List ℕ → Type 0
IsEnded bytes ended = ((ended ≡ bytes) × EndsWith bytes (10 ∷ [])) ⊎ (ended ≡ bytes ++ 10 ∷ [])

-- The bytes are read as the document, with a tail or none, and their blocks are K, each of which holds.
pub record HasHeldBlocks (d : Document) (K : ℕ) (bytes : List ℕ) : Type 0 where
  pub tail : Option Tail
  pub read : IsReadAs bytes (record d { tail = tail })
  pub blocks : List Block
  pub are_blocks : AreReadAs bytes (record d { tail = tail }) blocks
  pub hold : All (Holds d) blocks
  pub as_many : length blocks ≡ K

-- Where bytes are read as a document without a tail, they, ended with a line feed, and what `prove` prints behind them are read as that
-- document with blocks, as many as there are verdicts that say yes, each of which holds.
abbrev pub JoinedTextsHold : Type 0
JoinedTextsHold = (bytes : List ℕ) (d : Document) → IsReadAs bytes d → d.tail ≡ None → length bytes < 2 ^ 63 → (text : List ℕ) (printed : IsProveText d (asks_of d) text)
    → (ended : List ℕ) → IsEnded bytes ended → HasHeldBlocks d (yes_number 1 printed.verdicts) (ended ++ text)

-- ---- the texts exist

pub record ExistenceLaw (o : OrderedPresentation) : Type 0 where
  pub normal : (N : ℕ) → (text : List ℕ) × IsNormalText o N text
  pub basis : (N : ℕ) → (text : List ℕ) × IsBasisText o N text
  pub answer : (n : ℕ) (e : Sum) → AllTerms e (IsLabelled o.generators n) → (answer : List ℕ) × IsAnswer o e answer
  pub forms : (asks : List Asked) → ((e : Sum) → Mem e (queries asks) → (n : ℕ) × AllTerms e (IsLabelled o.generators n)) → (text : List ℕ) × IsFormsText o asks text

abbrev pub TextsExist : Type 0
TextsExist = (o : OrderedPresentation) → IsWellFormed o → ExistenceLaw o

-- The questions of a document that is read are elements, so it has a text for `forms`.
abbrev pub QuestionsAreElements : Type 0
QuestionsAreElements = (d : Document) → IsWritable d → AreQuestionsOver d.gens (asks_of d)

-- Each element of the ideal, of an arity that may be read, is wanted by a block that holds and may be written.
abbrev pub MembersHaveBlocks : Type 0
MembersHaveBlocks = (d : Document) → IsWritable d → (n : ℕ) (e : Sum) → IsNarrow d.gens n e → InIdeal (presentation (written d)) n e → WantingBlock d e

-- So each comparison has a verdict, and each document that is read has a text for `prove`.
abbrev pub VerdictsExist : Type 0
VerdictsExist = (d : Document) → IsWritable d
    → ((k n : ℕ) (sides : Sides) → IsNarrow d.gens n sides.left → IsNarrow d.gens n sides.right → (text : List ℕ) × IsVerdict d (k, sides) text)
    × ((text : List ℕ) × IsProveText d (asks_of d) text)

-- ---- from complete elements

-- What elements that are complete through N give in an arity n up to N.
pub record ListingLaw (o : OrderedPresentation) (elements : List Element) (n : ℕ) : Type 0 where
  -- trees in the spelling order are the normal trees where they are those that no leading tree divides
  pub listed : (l : List (Tree ℕ)) → Pairs (λ t u. order t u ≡ Less) l → ((t : Tree ℕ) → Mem t l ↔ Mem t (normal_list (presentation o).generators elements n))
      → ListsInOrder (IsNormalTree (presentation o) (comparison o) n) l
  -- rules in the spelling order are the minimal trees with their normal forms where they are those of the elements of arity n
  pub ruled : 2 ≤ n → (rules : List (Tree ℕ × Sum)) → Pairs (λ r s. order r.0 s.0 ≡ Less) rules
      → ((r : Tree ℕ × Sum) → Mem r rules → (g : Element) × Mem g elements × (g.arity ≡ n) × IsPrintedRule o g r)
      → ((g : Element) → Mem g elements → g.arity ≡ n → (r : Tree ℕ × Sum) × Mem r rules × IsPrintedRule o g r)
      → ListsInOrder (IsMinimal (presentation o) (comparison o) n) (map (λ r. r.0) rules) × AllByRecursion (λ r. IsForm o n ((1, r.0) ∷ []) r.1) rules
  -- the last sum of a finished chain, passed back and collected, is the normal form
  pub reduced : (e : Sum) → AllTerms e (IsLabelled o.generators n) → (more : List Element) → Extends (setting (presentation o) (comparison o) elements) more
      → (uses : List (ℕ × Insertion (setting (presentation o) (comparison o) more) n)) (f : Sum)
      → IsChain (setting (presentation o) (comparison o) more) n (shuffled (presentation o) e) uses f → IsFinished (setting (presentation o) (comparison o) more) f
      → (h : Sum) → IsReduced o.field (parts_at o.generators) h → sums.Same tree_discrete (presentation o).q h (moved (symmetric_tree (presentation o).generators) f) → IsForm o n e h

abbrev pub CompleteElementsAnswer : Type 0
CompleteElementsAnswer = (o : OrderedPresentation) → IsWellFormed o → (elements : List Element) (N : ℕ) → IsCompletedThrough (presentation o) (comparison o) elements N
    → (n : ℕ) → n ≤ N → ListingLaw o elements n

-- ---- texts grow

-- How the texts of answers and verdicts grow, question by question.
pub record GrowthLaw (d : Document) : Type 0 where
  pub no_answers : IsFormsText (written d) [] []
  pub answered : (asks : List Asked) (text : List ℕ) (e : Sum) (answer : List ℕ) → IsFormsText (written d) asks text → IsAnswer (written d) e answer
      → IsFormsText (written d) (asks ++ query e ∷ []) (text ++ line answer)
  pub comparison_passed : (asks : List Asked) (text : List ℕ) (left right : Sum) → IsFormsText (written d) asks text → IsFormsText (written d) (asks ++ same left right ∷ []) text
  pub no_verdicts : IsProveText d [] []
  pub query_passed : (asks : List Asked) (text : List ℕ) (e : Sum) → IsProveText d asks text → IsProveText d (asks ++ query e ∷ []) text
  pub judged : (asks : List Asked) (text : List ℕ) (left right : Sum) (verdict : List ℕ) → IsProveText d asks text
      → IsVerdict d (1 + length (comparisons asks), record { left = left; right = right }) verdict → IsProveText d (asks ++ same left right ∷ []) (text ++ verdict)

abbrev pub TextsGrow : Type 0
TextsGrow = (d : Document) → GrowthLaw d

-- ---- without relations

-- the relations have no terms
abbrev pub HasNoRelations : OrderedPresentation → Type 0
HasNoRelations o = (r : Relation) → Mem r o.relations → r.terms ≡ []

-- Without relations the normal form of an element is its collected form.
abbrev pub CollectedFormsAreNormal : Type 0
CollectedFormsAreNormal = (o : OrderedPresentation) → IsWellFormed o → HasNoRelations o → (n : ℕ) (e f : Sum) → AllTerms e (IsLabelled o.generators n)
    → IsCollected o.field (parts_at o.generators) e f → IsForm o n e f

-- ---- budgets

-- Steps are spent only below the number that is enough.
abbrev pub EnoughIsNotSpent : Type 0
EnoughIsNotSpent = (d : Document) → IsWritable d → (N B : ℕ) → IsSpent d N B → B < enough (counted d) N

-- What calls have counted, where it is the length of a full run over complete elements and the questions that the command answers are
-- among its items, is paid by each bound that it doesn't exceed.
abbrev pub CountedRunsPay : Type 0
CountedRunsPay = (d : Document) → IsWritable d → (N B : ℕ) (elements : List Element) → IsCompletedThrough (presentation (written d)) (comparison (written d)) elements N
    → (calls : List Call) (count : ℕ) (full : HasCountedFull (counted d) N elements calls count) → count ≤ B → (command : Command)
    → ((k : ℕ) (ask : Asked) → Nth k (asks_of d) ask → IsAnsweredBy command ask → Nth k (counted d).questions (question_of d.field ask)
    → 2 ≤ (question_of d.field ask).arity → (question_of d.field ask).arity ≤ N → HasItem full.run (question k))
    → IsPaid (IsAnsweredBy command) d N B

-- For each document and N there is a bound that a full counted run keeps, with all questions among its items.
abbrev pub BudgetsExist : Type 0
BudgetsExist = (d : Document) → IsWritable d → (N : ℕ) → (B : ℕ) × ((command : Command) → IsPaid (IsAnsweredBy command) d N B)

-- So where no limit is met, each command is done with some text within some bound.
abbrev pub DoneExists : Type 0
DoneExists = (d : Document) → IsWritable d → (N : ℕ) → IsWithinLimits d N → (command : Command) → (B : ℕ) × (text : List ℕ) × IsDone command d N B text

-- ---- limits

-- At most one of the three holds: no limit is met, some arity has too many trees, some question has a greater arity. Each limit has one line.
pub record LimitLaw (d : Document) (N : ℕ) : Type 0 where
  pub one_too_many : (text other : List ℕ) → HasTooManyTrees d N text → HasTooManyTrees d N other → text ≡ other
  pub one_greater : (text other : List ℕ) → AsksGreaterArity d N text → AsksGreaterArity d N other → text ≡ other
  pub not_too_many : (text : List ℕ) → HasTooManyTrees d N text → HasFewTrees d N → ⊥
  pub not_greater : (text : List ℕ) → AsksGreaterArity d N text → IsWithinLimits d N → ⊥

abbrev pub LimitsExclude : Type 0
LimitsExclude = (d : Document) (N : ℕ) → LimitLaw d N

-- One of the three holds of a document that is read.
abbrev pub LimitsDecide : Type 0
LimitsDecide = (d : Document) → IsWritable d → (N : ℕ) → IsWithinLimits d N ⊎ ((text : List ℕ) × HasTooManyTrees d N text) ⊎ ((text : List ℕ) × AsksGreaterArity d N text)
