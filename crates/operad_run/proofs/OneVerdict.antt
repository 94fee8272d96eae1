-- Whether the blocks of a text hold is determined by its bytes.
use Rattle.std.proofs.Common.{ℕ, ⊎_elim, List, subst}
use Rattle.std.specs.List.{All}
use Rattle.symmetric_trees.specs.declared.generators.Generator.{Generator}
use Rattle.symmetric_sums.specs.declared.term.Term.{Term}
use Rattle.presentation_text.specs.declared.document.Document.{Document}
use Rattle.presentation_text.specs.declared.kinds.DocKind.{DocKind}
use Rattle.certificate_text.specs.declared.block.Block.{Block}
use Rattle.certificate_check.specs.Blocks.{BlockHolds}
use Rattle.operad_answers.specs.Verdicts.{Holds}
use Rattle.operad_run.specs.CheckedTexts.{IsReadWithBlocks, IsFirstRefusedLine}
use Rattle.operad_run.proofs.SameReadings.{never_refused, same_documents, same_blocks, blocks_or_fault}

abbrev HoldsOver : ℕ → List Generator → List (List Term) → Block → Type 0
HoldsOver p gens rels block = BlockHolds p gens rels block.want block.steps

-- the blocks of a text hold whichever way it was read
pub all_hold_over : (bytes : List ℕ) (document other : Document) (blocks others : List Block) → IsReadWithBlocks bytes document blocks → IsReadWithBlocks bytes other others
    → All (Holds document) blocks → All (Holds other) others
all_hold_over bytes document other blocks others h g held =
    let same = same_documents bytes document other h.document_is g.document_is in
    subst (λ p. All (HoldsOver p other.gens other.rels) others) same.field
    (subst (λ gens. All (HoldsOver document.field gens other.rels) others) same.generators
    (subst (λ rels. All (HoldsOver document.field document.gens rels) others) same.relations
    (subst (All (Holds document)) (same_blocks bytes document other h.document_is g.document_is blocks others h.blocks_are g.blocks_are) held)))

-- a text with blocks has no first fault
pub never_faulty : (bytes : List ℕ) (document : Document) (blocks : List Block) (number : ℕ) (kind : DocKind) → IsReadWithBlocks bytes document blocks → IsFirstRefusedLine bytes number kind → ⊥
never_faulty bytes document blocks number kind c f = ⊎_elim
    (λ early. never_refused bytes c.document_is.whole (number, kind) c.document_is.reading_is early)
    (λ late. blocks_or_fault bytes document late.0 c.document_is late.1 blocks (number, kind) c.blocks_are late.2)
    f
