-- What is read may be written.
use Rattle.std.proofs.Common.{◌≡◌, ◌<◌, ◌≤◌, ◌-◌, ◌%◌, ◌==◌, ℕ, zero, suc, Bool, true, false, if◌then◌else◌, List, [], ◌∷◌, length, None, arith, length-append, refl, subst, sym}
use Rattle.std.specs.List.{All}
use Rattle.std.proofs.Math.Nat.{mod-lt}
use Rattle.std.proofs.lemmas.Bool.Decides.{nat_tests}
use Rattle.std.proofs.lemmas.List.Elements.{All-nil, All-cons, All-head, All-tail}
use Rattle.labelled_trees.specs.Trees.{Tree}
use Rattle.symmetric_trees.specs.declared.generators.Generator.{Generator}
use Rattle.presentation_text.specs.Accepted.{AreDemanded}
use Rattle.presentation_text.specs.Elements.{IsElementTree, Written, number_of, residue, written_sum}
use Rattle.presentation_text.specs.PrintedElements.{IsWrittenOver, IsWrittenTerm}
use Rattle.presentation_text.specs.declared.lexing.Token.{Token}
use Rattle.certificate_text.specs.BlockText.{AreBlockLines, AreStepLines, AreUseLines, AreSumTokens, end_line, no_blocks, no_steps, no_uses, one_block, one_step, one_use}
use Rattle.certificate_text.specs.Plain.{PlainBlock, PlainStep, PlainUse}
use Rattle.certificate_text.specs.UseText.{IsUse, cited_rule, signed_residue}
use Rattle.certificate_text.specs.Writable.{IsCited, IsWrittenSum, IsWritableBlock, IsWritableStep, IsWritableUse}

residue_small : (p : ℕ) (negative : Bool) (number : ℕ) → 0 < p → signed_residue p negative number < p
residue_small p true number h = mod-lt (p - number % p) h
residue_small p false number h = mod-lt number h

cited : (step : Bool) (number : ℕ) → IsCited (cited_rule step number)
cited true number = omega arith
cited false number = omega arith

module _ (p : ℕ) (generators : List Generator) (positive : 0 < p) where
  use_writable : (ts : List Token) (item : PlainUse) → IsUse p generators ts item → IsWritableUse p generators item
  use_writable ts item h =
      subst (IsWritableUse p generators) (sym h.item_is) (record {
        coef = residue_small p (h.written).negative (h.written).number positive;
        rule = cited (h.written).cites_step (h.written).cited;
        context = h.trees.context;
        inputs = h.trees.inputs;
      })

  -- ---- sums

  all_said : (n : ℕ) (terms : List Written) → All (λ term. IsElementTree generators n term.tree) terms → IsWrittenOver p generators n (written_sum p terms)
  all_said n [] h = All-nil (IsWrittenTerm p generators n)
  all_said n (term ∷ terms) h =
      by_test (residue p term == 0) refl (all_said n terms (All-tail (λ (x : Written). IsElementTree generators n x.tree) term terms h)) where
        by_test : (b : Bool) → (residue p term == 0) ≡ b → IsWrittenOver p generators n (written_sum p terms) → IsWrittenOver p generators n (if b then written_sum p terms else (residue p term, term.tree) ∷ written_sum p terms)
        by_test true e others = others
        by_test false e others =
            All-cons (IsWrittenTerm p generators n) (residue p term, term.tree) (written_sum p terms)
            (record {
              nonzero = grind (arith, nat_tests);
              residue = residue_small p term.negative (number_of term.coefficient) positive;
              tree = All-head (λ (x : Written). IsElementTree generators n x.tree) term terms h;
            }) others

  terms_said : (terms : List Written) → AreDemanded generators 1 None terms → IsWrittenSum p generators (written_sum p terms)
  terms_said [] h = (1, All-nil (IsWrittenTerm p generators 1))
  terms_said (term ∷ terms) h = (h.n, all_said h.n (term ∷ terms) h.trees)

  sum_writable : (ts : List Token) (sum : List (ℕ × Tree ℕ)) → AreSumTokens p generators ts sum → IsWrittenSum p generators sum
  sum_writable ts sum h = subst (IsWrittenSum p generators) (sym h.sum_is) (terms_said h.terms h.trees)

  -- ---- blocks

  uses_writable : (lines : List (List Token)) (items : List PlainUse) → AreUseLines p generators lines items → All (IsWritableUse p generators) items
  uses_writable _ _ no_uses = All-nil (IsWritableUse p generators)
  uses_writable _ _ (one_use ts item lines items one more) = All-cons (IsWritableUse p generators) item items (use_writable ts item one) (uses_writable lines items more)

  steps_writable : (lines : List (List Token)) (steps : List PlainStep) → AreStepLines p generators lines steps → All (IsWritableStep p generators) steps
  steps_writable _ _ no_steps = All-nil (IsWritableStep p generators)
  steps_writable _ _ (one_step ts use_lines lines step steps written_sum uses more) =
      All-cons (IsWritableStep p generators) step steps (record { element = sum_writable ts step.element written_sum; uses = uses_writable use_lines step.uses uses }) (steps_writable lines steps more)

  pub blocks_writable : (lines : List (List Token)) (blocks : List PlainBlock) → AreBlockLines p generators lines blocks → All (IsWritableBlock p generators) blocks
  blocks_writable _ _ no_blocks = All-nil (IsWritableBlock p generators)
  blocks_writable _ _ (one_block ts step_lines lines block blocks written_sum steps more) =
      All-cons (IsWritableBlock p generators) block blocks (record { want = sum_writable ts block.want written_sum; steps = steps_writable step_lines block.steps steps }) (blocks_writable lines blocks more)

  -- ---- few steps

  steps_few : (lines : List (List Token)) (steps : List PlainStep) → AreStepLines p generators lines steps → length steps ≤ length lines
  steps_few _ _ no_steps = omega arith
  steps_few _ _ (one_step ts use_lines lines step steps written_sum uses more) = omega (arith, length-append use_lines lines, steps_few lines steps more)

  pub blocks_few : (lines : List (List Token)) (blocks : List PlainBlock) → AreBlockLines p generators lines blocks → All (λ block. length block.steps ≤ length lines) blocks
  blocks_few _ _ no_blocks k d l = absurd (omega arith)
  blocks_few _ _ (one_block ts step_lines lines block blocks written_sum steps more) zero d l = omega (arith, length-append step_lines (end_line ∷ lines), steps_few step_lines block.steps steps)
  blocks_few _ _ (one_block ts step_lines lines block blocks written_sum steps more) (suc k) d l =
      let further = blocks_few lines blocks more k d (omega arith) in omega (arith, length-append step_lines (end_line ∷ lines))
