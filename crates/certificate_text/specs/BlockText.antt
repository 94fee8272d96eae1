-- The lines of blocks.
use Rattle.std.specs.Prelude.{ℕ, ◌≡◌, List, [], ◌∷◌, ◌++◌, codes, None}
use Rattle.labelled_trees.specs.Trees.{Tree}
use Rattle.symmetric_trees.specs.declared.generators.Generator.{Generator}
use Rattle.presentation_text.specs.Accepted.{AreDemanded}
use Rattle.presentation_text.specs.Elements.{Written, element_tokens, written_sum}
use Rattle.presentation_text.specs.declared.lexing.Token.{Token}
use Rattle.presentation_text.specs.declared.lexing.Token.TheVariants.{Word}
use Rattle.certificate_text.specs.Plain.{PlainUse, PlainStep, PlainBlock}
use Rattle.certificate_text.specs.UseText.{IsUse}

-- The tokens are those of an element, which says this sum modulo p.
pub record AreSumTokens (p : ℕ) (generators : List Generator) (tokens : List Token) (sum : List (ℕ × Tree ℕ)) : Type 0 where
  pub terms : List Written
  pub spelled : tokens ≡ element_tokens generators terms
  pub trees : AreDemanded generators 1 None terms
  pub sum_is : sum ≡ written_sum p terms

-- lines `use ..`, and what they say
pub data AreUseLines (p : ℕ) (generators : List Generator) : List (List Token) → List PlainUse → Type 0 where
  no_uses : AreUseLines p generators [] []
  one_use : (tokens : List Token) (item : PlainUse) (lines : List (List Token)) (items : List PlainUse)
      → IsUse p generators tokens item → AreUseLines p generators lines items → AreUseLines p generators ((Word (codes "use") ∷ tokens) ∷ lines) (item ∷ items)

-- Lines of steps: for each its element's line `step ELEMENT`, and those of its uses.
pub data AreStepLines (p : ℕ) (generators : List Generator) : List (List Token) → List PlainStep → Type 0 where
  no_steps : AreStepLines p generators [] []
  one_step : (tokens : List Token) (use_lines lines : List (List Token)) (step : PlainStep) (steps : List PlainStep)
      → AreSumTokens p generators tokens step.element → AreUseLines p generators use_lines step.uses → AreStepLines p generators lines steps
      → AreStepLines p generators ((Word (codes "step") ∷ tokens) ∷ (use_lines ++ lines)) (step ∷ steps)

-- the line `end`
abbrev pub end_line : List Token
end_line = Word (codes "end") ∷ []

-- Lines of blocks: for each the line `want ELEMENT`, the lines of its steps, and the line `end`.
pub data AreBlockLines (p : ℕ) (generators : List Generator) : List (List Token) → List PlainBlock → Type 0 where
  no_blocks : AreBlockLines p generators [] []
  one_block : (tokens : List Token) (step_lines lines : List (List Token)) (block : PlainBlock) (blocks : List PlainBlock)
      → AreSumTokens p generators tokens block.want → AreStepLines p generators step_lines block.steps → AreBlockLines p generators lines blocks
      → AreBlockLines p generators ((Word (codes "want") ∷ tokens) ∷ (step_lines ++ end_line ∷ lines)) (block ∷ blocks)
