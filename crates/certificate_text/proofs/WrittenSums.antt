-- Sums that may be said fit, and so do blocks that may be written.
use Rattle.std.proofs.Common.{◌<◌, ◌-◌, ◌^◌, ℕ, true, List, [], ◌∷◌, length, map}
use Rattle.std.specs.List.{All}
use Rattle.std.proofs.lemmas.List.Elements.{All-nil, All-head, All-tail, All-cons}
use Rattle.labelled_trees.specs.Meaning.{tree_of}
use Rattle.labelled_trees.specs.declared.Tree as program
use Rattle.symmetric_trees.specs.Trees.{Fits}
use Rattle.symmetric_trees.specs.declared.generators.Generator.{Generator}
use Rattle.symmetric_sums.specs.Terms.{FitsOver, HaveResidues, terms_of}
use Rattle.symmetric_sums.specs.declared.instance.Instance.{Instance}
use Rattle.symmetric_sums.specs.declared.term.Term.{Term}
use Rattle.presentation_text.specs.Accepted.{IsDemanded}
use Rattle.presentation_text.specs.PrintedElements.{IsWrittenTerm}
use Rattle.presentation_text.specs.TreeReadings.{any_arity}
use Rattle.certificate_text.specs.Plain.{plain_block, plain_step, plain_use}
use Rattle.certificate_text.specs.Tails.{IsReadyBlock, IsCheckableStep}
use Rattle.certificate_text.specs.Writable.{IsWrittenSum, IsWritableBlock, IsWritableStep, IsWritableUse}
use Rattle.certificate_text.specs.declared.block.Block.{Block}
use Rattle.certificate_text.specs.declared.block.Step.{Step}

-- what holds of all of a list's images holds of the image of each of the list
pub of_image : {X Y : Type 0} (P : Y → Type 0) (Q : X → Type 0) (f : X → Y) → ((x : X) → P (f x) → Q x) → (xs : List X) → All P (map f xs) → All Q xs
of_image P Q f more [] h = All-nil Q
of_image P Q f more (x ∷ xs) h = All-cons Q x xs (more x (All-head P (f x) (map f xs) h)) (of_image P Q f more xs (All-tail P (f x) (map f xs) h))

module _ (p : ℕ) (generators : List Generator) where
  pub said_residues : (terms : List Term) → IsWrittenSum p generators (terms_of terms) → HaveResidues p terms
  said_residues terms h = of_image (IsWrittenTerm p generators h.0) (λ term. term.coef < p) (λ term. (term.coef, tree_of term.tree)) (λ term said. said.residue) terms h.1

  pub said_trees : (terms : List Term) → IsWrittenSum p generators (terms_of terms) → All (λ term. Fits generators (tree_of term.tree)) terms
  said_trees terms h =
      of_image (IsWrittenTerm p generators h.0) (λ term. Fits generators (tree_of term.tree)) (λ term. (term.coef, tree_of term.tree)) (λ term said. said.tree.labelled.fits) terms h.1

  pub inputs_fit : (inputs : List program.Tree) → All (IsDemanded generators (any_arity true)) (map tree_of inputs) → All (λ tree. Fits generators (tree_of tree)) inputs
  inputs_fit inputs h = of_image (IsDemanded generators (any_arity true)) (λ tree. Fits generators (tree_of tree)) tree_of (λ tree demanded. demanded.fits) inputs h

  pub uses_writable : (items : List Instance) → All (IsWritableUse p generators) (map plain_use items) → All (λ item. IsWritableUse p generators (plain_use item)) items
  uses_writable items h = of_image (IsWritableUse p generators) (λ item. IsWritableUse p generators (plain_use item)) plain_use (λ item writable. writable) items h

  pub steps_writable : (steps : List Step) → All (IsWritableStep p generators) (map plain_step steps) → All (λ step. IsWritableStep p generators (plain_step step)) steps
  steps_writable steps h = of_image (IsWritableStep p generators) (λ step. IsWritableStep p generators (plain_step step)) plain_step (λ step writable. writable) steps h

  -- ---- what a checker asks

  sum_fits : (terms : List Term) → IsWrittenSum p generators (terms_of terms) → FitsOver p generators terms
  sum_fits terms h = record { residues = said_residues terms h; trees = said_trees terms h }

  step_ready : (step : Step) → IsWritableStep p generators (plain_step step) → IsCheckableStep p generators step
  step_ready step h = record {
    element = sum_fits step.element h.element;
    coefs = of_image (IsWritableUse p generators) (λ item. item.coef < p) plain_use (λ item writable. writable.coef) step.uses h.uses;
  }

  pub block_ready : (block : Block) → length block.steps < 2 ^ 32 - 1 → IsWritableBlock p generators (plain_block block) → IsReadyBlock p generators block
  block_ready block few h = record {
    want = sum_fits block.want h.want;
    few = few;
    steps = of_image (IsWritableStep p generators) (IsCheckableStep p generators) plain_step step_ready block.steps h.steps;
  }
