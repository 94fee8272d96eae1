-- What a checked text is told.
use Rattle.std.proofs.Common.{◌≡◌, ℕ, ◌+◌, ◌++◌, ◌∷◌, List, length, map, codes, ap, ◌∙◌, subst}
use Rattle.std.specs.List.{All}
use Rattle.std.specs.Fmt.{decimal}
use Rattle.presentation_text.specs.Presentations.{IsReadAs}
use Rattle.presentation_text.specs.ReadBack.{IsWritable as IsWritableDocument}
use Rattle.presentation_text.specs.declared.document.Document.{Document}
use Rattle.certificate_text.specs.Plain.{plain_block}
use Rattle.certificate_text.specs.Tails.{AreReadAs}
use Rattle.certificate_text.specs.Writable.{IsWritableBlock}
use Rattle.certificate_text.specs.declared.block.Block.{Block}
use Rattle.certificate_check.specs.Soundness.{AreElements}
use Rattle.certificate_check.proofs.HeldBlocks.{held_blocks}
use Rattle.operad_answers.specs.Parts.{line}
use Rattle.operad_answers.specs.Verdicts.{Holds}
use Rattle.operad_run.specs.CheckedTexts.{IsWantInIdeal, IsAccepted, IsCheckRefusal, IsRefusedBy, cause_name}
use Rattle.operad_run.specs.declared.checks.Refusal.{Refusal}
use Rattle.certificate_text.proofs.ReadyBlocks.{prime_positive}
use Rattle.certificate_text.proofs.WrittenSums.{of_image}
use Rattle.operad_answers.proofs.Deciding.{block_elements}

-- the wanted elements of blocks that hold are in the ideal
all_members : (document : Document) (blocks : List Block) → IsWritableDocument document → All (IsWritableBlock document.field document.gens) (map plain_block blocks) → All (Holds document) blocks → All (IsWantInIdeal document) blocks
all_members document blocks formed writable held k d l =
    let elements = of_image (IsWritableBlock document.field document.gens) (λ block. AreElements document.gens document.rels block.want block.steps) plain_block (block_elements document formed) blocks writable in
    held_blocks document.field document.gens document.rels _ _ (prime_positive document.field formed.field) (elements k d l) (held k d l)

pub accepted : (bytes : List ℕ) (document : Document) (blocks : List Block) (text : List ℕ) → IsReadAs bytes document → IsWritableDocument document → AreReadAs bytes document blocks
    → All (IsWritableBlock document.field document.gens) (map plain_block blocks) → All (Holds document) blocks
    → text ≡ line (codes "accepted " ++ decimal (length blocks)) → IsAccepted bytes text
accepted bytes document blocks text h formed r writable held e = record {
  document = document;
  blocks = blocks;
  certified = record { document_is = h; blocks_are = r };
  hold = held;
  members = all_members document blocks formed writable held;
  text_is = e;
}

pub refused : (bytes : List ℕ) (document : Document) (blocks : List Block) (refusal : Refusal) (text : List ℕ) → IsReadAs bytes document → AreReadAs bytes document blocks → IsRefusedBy document blocks refusal
    → text ≡ line (codes "refused " ++ (decimal refusal.block ++ 32 ∷ (decimal refusal.step ++ 32 ∷ cause_name refusal.cause))) → IsCheckRefusal bytes text
refused bytes document blocks refusal text h r f e = record {
  document = document;
  front = f.front;
  block = f.block;
  others = f.others;
  certified = record { document_is = h; blocks_are = subst (AreReadAs bytes document) f.blocks_are r };
  hold = f.hold;
  fails = f.answer.0;
  step = refusal.step;
  cause = refusal.cause;
  answer = f.answer;
  text_is = e ∙ number;
}
  where
    number : line (codes "refused " ++ (decimal refusal.block ++ 32 ∷ (decimal refusal.step ++ 32 ∷ cause_name refusal.cause)))
        ≡ line (codes "refused " ++ (decimal (length f.front + 1) ++ 32 ∷ (decimal refusal.step ++ 32 ∷ cause_name refusal.cause)))
    number = ap (λ n. line (codes "refused " ++ (decimal n ++ 32 ∷ (decimal refusal.step ++ 32 ∷ cause_name refusal.cause)))) f.number_is
