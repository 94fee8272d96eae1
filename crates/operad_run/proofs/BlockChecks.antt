-- Checking one block after another.
use Rattle.std.proofs.Common.{◌≡◌, ℕ, ◌+◌, ◌<◌, ◌≤◌, List, length, take, drop, get_or, refl, ap, sym, ◌∙◌, subst, arith, length-take, take_all}
use Rattle.std.specs.List.{All}
use Rattle.std.proofs.lemmas.List.Elements.{All-push}
use Rattle.presentation_text.specs.declared.document.Document.{Document}
use Rattle.certificate_text.specs.declared.block.Block.{Block}
use Rattle.certificate_check.specs.Answers.{IsBlockVerdict}
use Rattle.certificate_check.specs.declared.answer.CheckAnswer.{CheckAnswer}
use Rattle.certificate_check.specs.declared.answer.CheckAnswer.TheVariants.{Accepted, Refused}
use Rattle.certificate_check.specs.declared.answer.CheckCause.{CheckCause}
use Rattle.certificate_check.proofs.GoodUses.{split-at, taken}
use Rattle.operad_answers.specs.Verdicts.{Holds}
use Rattle.operad_run.specs.CheckedTexts.{IsRefusedBy}

-- one more block that holds
pub hold_more : (document : Document) (blocks : List Block) (i : ℕ) (block : Block) → i < length blocks → block ≡ get_or blocks i block
    → All (Holds document) (take i blocks) → Holds document block → All (Holds document) (take (i + 1) blocks)
hold_more document blocks i block l e h k = subst (All (Holds document)) (sym (taken blocks i block l e)) (All-push (Holds document) (take i blocks) block h k)

-- the first block that doesn't hold
pub refused_at : (document : Document) (blocks : List Block) (i : ℕ) (block : Block) (number step : ℕ) (cause : CheckCause) → i < length blocks → block ≡ get_or blocks i block
    → All (Holds document) (take i blocks) → IsBlockVerdict document.field document.gens document.rels block.want block.steps (Refused step cause) → number ≡ i + 1
    → IsRefusedBy document blocks (record { block = number; step = step; cause = cause })
refused_at document blocks i block number step cause l e h a n = record {
  front = take i blocks;
  block = block;
  others = drop (i + 1) blocks;
  blocks_are = split-at blocks i block l e;
  hold = h;
  answer = a;
  number_is = let len : length (take i blocks) ≡ i = omega (arith, length-take i blocks, l) in n ∙ ap (λ m. m + 1) (sym len);
}

-- no block is left
pub all_hold : (document : Document) (blocks : List Block) (i : ℕ) → length blocks ≤ i → All (Holds document) (take i blocks) → All (Holds document) blocks
all_hold document blocks i l h = subst (All (Holds document)) (take_all i blocks l) h

-- an answer that isn't a refusal
pub accepted_holds : (document : Document) (block : Block) (answer : CheckAnswer) → ((step : ℕ) (cause : CheckCause) → answer ≡ Refused step cause → ⊥)
    → IsBlockVerdict document.field document.gens document.rels block.want block.steps answer → Holds document block
accepted_holds document block Accepted none h = h
accepted_holds document block (Refused step cause) none h = absurd (none step cause refl)
