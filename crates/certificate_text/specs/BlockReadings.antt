-- Reading the blocks of a tail: what may stand at each token of a line, which line may follow, and what is refused.
use Rattle.std.specs.Prelude.{ℕ, zero, suc, Bool, true, false, not, ◌||◌, if◌then◌else◌, List, [], ◌∷◌, ◌++◌, length, drop, codes, Option, Some, None, Result, Ok, Err}
use Rattle.labelled_trees.specs.Trees.{Tree}
use Rattle.symmetric_trees.specs.declared.generators.Generator.{Generator}
use Rattle.symmetric_sums.specs.declared.instance.Rule.{Rule}
use Rattle.presentation_text.specs.declared.document.Document.{Document}
use Rattle.presentation_text.specs.declared.document.Tail.{Tail}
use Rattle.presentation_text.specs.declared.kinds.DocKind.{DocKind}
use Rattle.presentation_text.specs.declared.kinds.DocKind.TheVariants.{Directive, Block, Syntax}
use Rattle.presentation_text.specs.declared.lexing.Token.{Token}
use Rattle.presentation_text.specs.declared.lexing.Token.TheVariants.{Word}
use Rattle.presentation_text.specs.DocumentReadings.{LineFault}
use Rattle.presentation_text.specs.ElementReadings.{behind_one, element_in}
use Rattle.presentation_text.specs.Elements.{written_sum}
use Rattle.presentation_text.specs.LineReadings.{is, is_unknown, known}
use Rattle.presentation_text.specs.Lines.{counts, lines}
use Rattle.presentation_text.specs.Readings.{Fault, Reading, ◌>>=◌, first_row, misfit, mark_in, end_in, number_in, word_in}
use Rattle.presentation_text.specs.Tokens.{tokens}
use Rattle.presentation_text.specs.TreeReadings.{begins_with, any_arity, demands_of, whole_tree_in}
use Rattle.certificate_text.specs.Plain.{PlainUse, PlainStep, PlainBlock}
use Rattle.certificate_text.specs.UseText.{signed_residue, cited_rule}

-- ---- a use

-- '-' or nothing, and a number
unfoldable pub coefficient_in : List Token → Reading (Bool × ℕ)
coefficient_in ts = do
  n ← number_in (if begins_with 45 ts then behind_one ts else ts)
  Ok ((begins_with 45 ts, n.0), n.1)

-- whether the word cites a step, or else a relation
abbrev pub cites_step : List ℕ → Option Bool
cites_step w = if is w (codes "step") then Some true else (if is w (codes "rel") then Some false else None)

-- `rel K` or `step K`
unfoldable pub cited_in : List Token → Reading Rule
cited_in ts = do
  w ← word_in ts
  step ← known (suc (length w.1)) Syntax (cites_step w.0)
  n ← number_in w.1
  Ok (cited_rule step n.0, n.1)

-- a tree whose leaf numbers are free up to 99
abbrev pub free_tree_in : List Generator → List Token → Reading (Tree ℕ)
free_tree_in generators ts = whole_tree_in generators (any_arity true) ts

-- inputs to the end of the line, with ';' before each; no more than are given
unfoldable pub inputs_in : ℕ → List Generator → List Token → Result (List (Tree ℕ)) Fault
inputs_in most generators [] = Ok []
inputs_in zero generators (token ∷ rest) = misfit (token ∷ rest)
inputs_in (suc most) generators (token ∷ rest) = do
  behind ← mark_in 59 (token ∷ rest)
  tree ← free_tree_in generators behind
  others ← inputs_in most generators tree.1
  Ok (tree.0 ∷ others)

-- the rest of a line `use COEF ; TREE ; rel K`, or `step K` in the third part, with `; TREE` for each input
unfoldable pub use_in : ℕ → List Generator → List Token → Result PlainUse Fault
use_in p generators ts = do
  coef ← coefficient_in ts
  behind ← mark_in 59 coef.1
  context ← free_tree_in generators behind
  third ← mark_in 59 context.1
  cited ← cited_in third
  inputs ← inputs_in (length cited.1) generators cited.1
  Ok (record { coef = signed_residue p (coef.0).0 (coef.0).1; context = context.0; rule = cited.0; inputs = inputs })

-- the rest of a line of a word and an element, which says this
unfoldable pub sum_in : ℕ → List Generator → List Token → Result (List (ℕ × Tree ℕ)) Fault
sum_in p generators ts = do
  e ← element_in generators (demands_of 1 None) ts
  _ ← end_in e.1
  Ok (written_sum p e.0)

-- ---- where a line stands

-- between blocks; in a block behind its wanted element, or behind whole steps; or in a step of a block
pub data LinePlace : Type 0 where
  between : LinePlace
  in_block : PlainBlock → LinePlace
  in_step : PlainBlock → PlainStep → LinePlace

-- the word may follow there
abbrev pub may_follow : LinePlace → List ℕ → Bool
may_follow between w = is w (codes "want")
may_follow (in_block block) w = is w (codes "step") || is w (codes "end")
may_follow (in_step block step) w = is w (codes "use") || is w (codes "step") || is w (codes "end")

-- what stands against the word of a line of a tail
unfoldable pub tail_word_fault : ℕ → LinePlace → List ℕ → Option DocKind
tail_word_fault version place w = first_row (
    (is_unknown version w, Directive) ∷
    (not (may_follow place w), Block) ∷ [])

-- ---- what a line adds

-- the place behind a line, and the whole blocks by then
abbrev pub Follow : Type 0
Follow = LinePlace × List PlainBlock

abbrev pub with_step : PlainBlock → PlainStep → PlainBlock
with_step block step = record { want = block.want; steps = block.steps ++ step ∷ [] }

abbrev pub with_use : PlainStep → PlainUse → PlainStep
with_use step item = record { element = step.element; uses = step.uses ++ item ∷ [] }

-- behind `want`
unfoldable pub want_line : ℕ → List Generator → List PlainBlock → List Token → Result Follow Fault
want_line p generators blocks ts = do
  sum ← sum_in p generators ts
  Ok (in_block (record { want = sum; steps = [] }), blocks)

-- behind `step` or `end`, where the block has these whole steps
unfoldable pub block_line : ℕ → List Generator → PlainBlock → List PlainBlock → List ℕ → List Token → Result Follow Fault
block_line p generators block blocks w ts =
    if is w (codes "end") then (do
      _ ← end_in ts
      Ok (between, blocks ++ block ∷ []))
    else (do
      sum ← sum_in p generators ts
      Ok (in_step block (record { element = sum; uses = [] }), blocks))

-- behind `use`, `step` or `end` in a step
unfoldable pub step_line : ℕ → List Generator → PlainBlock → PlainStep → List PlainBlock → List ℕ → List Token → Result Follow Fault
step_line p generators block step blocks w ts =
    if is w (codes "use") then (do
      item ← use_in p generators ts
      Ok (in_step block (with_use step item), blocks))
    else block_line p generators (with_step block step) blocks w ts

abbrev pub rest_of_tail_line : ℕ → List Generator → LinePlace → List PlainBlock → List ℕ → List Token → Result Follow Fault
rest_of_tail_line p generators between blocks w ts = want_line p generators blocks ts
rest_of_tail_line p generators (in_block block) blocks w ts = block_line p generators block blocks w ts
rest_of_tail_line p generators (in_step block step) blocks w ts = step_line p generators block step blocks w ts

-- ---- a line

abbrev pub refused_at : ℕ → Result Follow Fault → Result Follow LineFault
refused_at number (Ok next) = Ok next
refused_at number (Err fault) = Err (number, fault.1)

abbrev pub unless_word : ℕ → Option DocKind → Result Follow LineFault → Result Follow LineFault
unless_word number None next = next
unless_word number (Some kind) next = Err (number, kind)

-- what the blocks are read over: a version, a prime and generators
pub record Base : Type 0 where
  pub version : ℕ
  pub p : ℕ
  pub generators : List Generator

-- a line that begins with a word
unfoldable pub word_line : Base → Follow → ℕ → List ℕ → List Token → Result Follow LineFault
word_line base now number w rest =
    unless_word number (tail_word_fault base.version now.0 w) (refused_at number (rest_of_tail_line base.p base.generators now.0 now.1 w rest))

abbrev pub begun_tail_line : Base → Follow → ℕ → Token → List Token → Result Follow LineFault
begun_tail_line base now number (Word w) rest = word_line base now number w rest
begun_tail_line base now number token rest = Err (number, Directive)

-- a line that counts, by its number and its tokens
abbrev pub tail_line : Base → Follow → ℕ → List Token → Result Follow LineFault
tail_line base now number [] = Err (number, Directive)
tail_line base now number (token ∷ rest) = begun_tail_line base now number token rest

-- ---- all lines

-- at the end of the text no block may be open
abbrev pub at_end : LinePlace → List PlainBlock → ℕ → Result (List PlainBlock) LineFault
at_end between blocks number = Ok blocks
at_end (in_block block) blocks number = Err (number, Block)
at_end (in_step block step) blocks number = Err (number, Block)

abbrev pub unless_refused : (Follow → Result (List PlainBlock) LineFault) → Result Follow LineFault → Result (List PlainBlock) LineFault
unless_refused on (Ok next) = on next
unless_refused on (Err fault) = Err fault

-- the lines of a tail from one on, by its number; lines that don't count are passed over
unfoldable pub blocks_from : Base → Follow → ℕ → List (List ℕ) → Result (List PlainBlock) LineFault
blocks_from base now number [] = at_end now.0 now.1 number
blocks_from base now number (line ∷ others) =
    if counts line then unless_refused (λ next. blocks_from base next (suc number) others) (tail_line base now number (tokens line))
    else blocks_from base now (suc number) others

-- what a document's blocks are read over
abbrev pub base_of : Document → Base
base_of document = record { version = document.version; p = document.field; generators = document.gens }

-- the blocks of a text behind its document, or the first fault; no tail has no blocks
abbrev pub read_tail : List ℕ → Document → Option Tail → Result (List PlainBlock) LineFault
read_tail bytes document None = Ok []
read_tail bytes document (Some tail) = blocks_from (base_of document) (between, []) tail.line (lines (drop tail.from bytes))
