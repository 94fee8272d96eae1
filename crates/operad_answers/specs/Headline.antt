-- The headline: what a text that a command prints means, in the terms of the ideal that the relations generate.
use Rattle.std.specs.Prelude.{ℕ, true, ◌≡◌, ◌<◌, ◌^◌, ◌↔◌, List, [], map, length, Ok}
use Rattle.std.specs.List.{All, flat_map}
use Rattle.modular_sums.specs.Sums.{AllTerms}
use Rattle.operad_ideals.specs.Ideals.{InIdeal}
use Rattle.modular_sums.specs.Lists.{Nth}
use Rattle.symmetric_trees.specs.Trees.{IsLabelled}
use Rattle.presentation_text.specs.Lines.{lines}
use Rattle.presentation_text.specs.Presentations.{IsReadAs}
use Rattle.presentation_text.specs.declared.document.Document.{Document}
use Rattle.certificate_text.specs.BlockReadings.{between, blocks_from, base_of}
use Rattle.certificate_text.specs.Plain.{plain_block}
use Rattle.operad_answers.specs.OrderedPresentations.{presentation, written, asks_of}
use Rattle.operad_answers.specs.Parts.{line, AreParts}
use Rattle.operad_answers.specs.Texts.{Sum, EachWith, queries, IsAnswer, IsBasisOfQuotient, IsTextOfReducedBasis}
use Rattle.operad_answers.specs.Verdicts.{Holds, Sides, difference, comparisons, numbered_from, is_yes, yes_number, IsYes, IsNo, IsVerdict, verdict_blocks}
use Rattle.operad_answers.specs.Commands.{Command, normal, basis, forms, prove, IsTextOf}

module _ (d : Document) where
  -- the element is one of arity n
  abbrev pub HasArity : ℕ → Sum → Type 0
  HasArity n e = AllTerms e (IsLabelled d.gens n)

  -- an element of arity n is in the ideal that the relations generate in the free symmetric operad
  abbrev pub IsInIdeal : ℕ → Sum → Type 0
  IsInIdeal n e = InIdeal (presentation (written d)) n e

  -- The text has as many lines as there are queries, each ended by a line feed; each query is an element of some arity. The i-th line is
  -- the text of the normal form of the i-th query. Two lines for queries of one arity are equal, byte for byte, exactly where the difference of their elements is in the ideal.
  pub record LinesDecide (text : List ℕ) : Type 0 where
    pub as_many : length (lines text) ≡ length (queries (asks_of d))
    pub ended : text ≡ flat_map line (lines text)
    pub are_forms : EachWith (IsAnswer (written d)) (queries (asks_of d)) (lines text)
    pub arities : (i : ℕ) (e : Sum) → Nth i (queries (asks_of d)) e → (n : ℕ) × HasArity n e
    pub exactly : (i j : ℕ) (e f : Sum) → Nth i (queries (asks_of d)) e → Nth j (queries (asks_of d)) f → (n : ℕ) → HasArity n e → HasArity n f
        → (one two : List ℕ) → Nth i (lines text) one → Nth j (lines text) two → (one ≡ two) ↔ IsInIdeal n (difference d.field (record { left = e; right = f }))

  -- The verdict on the k-th comparison, whose sides have arity n. Where left minus right is in the ideal it is the line `# k yes` and the
  -- text of one block that wants left minus right and holds, and only there does it begin with that line. Where left minus right isn't in
  -- the ideal it is the one line `# k no F` with F the nonzero normal form.
  pub record IsRightVerdict (k n : ℕ) (sides : Sides) (verdict : List ℕ) : Type 0 where
    pub yes : IsYes d k sides verdict ↔ IsInIdeal n (difference d.field sides)
    pub begins : (is_yes k verdict ≡ true) ↔ IsInIdeal n (difference d.field sides)
    pub no : IsNo d k sides verdict ↔ (IsInIdeal n (difference d.field sides) → ⊥)

  -- The text is one verdict after the other, one for each comparison, whose sides have one arity, and each is right. Read as the tail of a
  -- document, it is the blocks of the verdicts that say yes, in their order and as many, each of which holds.
  pub record VerdictsAreRight (text : List ℕ) : Type 0 where
    pub verdicts : List (List ℕ)
    pub text_is : text ≡ flat_map (λ verdict. verdict) verdicts
    pub are_verdicts : EachWith (IsVerdict d) (numbered_from 1 (comparisons (asks_of d))) verdicts
    pub arities : (k : ℕ) (sides : Sides) → Nth k (comparisons (asks_of d)) sides → (n : ℕ) × HasArity n sides.left × HasArity n sides.right
    pub right : (k : ℕ) (sides : Sides) (verdict : List ℕ) → Nth k (comparisons (asks_of d)) sides → Nth k verdicts verdict
        → (n : ℕ) → HasArity n sides.left → HasArity n sides.right → IsRightVerdict k n sides verdict
    pub as_many : length (verdict_blocks d (numbered_from 1 (comparisons (asks_of d))) verdicts are_verdicts) ≡ yes_number 1 verdicts
    pub read : (number : ℕ) → blocks_from (base_of d) (between, []) number (lines text)
        ≡ Ok (map plain_block (verdict_blocks d (numbered_from 1 (comparisons (asks_of d))) verdicts are_verdicts))
    pub hold : All (Holds d) (verdict_blocks d (numbered_from 1 (comparisons (asks_of d))) verdicts are_verdicts)

  -- What the text of a command means: the normal listing is a basis of the quotient by the ideal in each arity; the rules are those of the
  -- reduced basis; lines are those of the normal forms, and decide the ideal; verdicts are right.
  abbrev pub Means : Command → ℕ → List ℕ → Type 0
  Means normal N text = AreParts (IsBasisOfQuotient (written d)) 1 N text
  Means basis N text = IsTextOfReducedBasis (written d) N text
  Means forms N text = LinesDecide text
  Means prove N text = VerdictsAreRight text

-- The headline: what a command prints of a document that is read means what it should, for each greatest arity. The bytes are fewer than
-- 2^63, so that numbers of comparisons can be read.
abbrev pub Headline : Type 0
Headline = (bytes : List ℕ) (d : Document) → IsReadAs bytes d → length bytes < 2 ^ 63 → (command : Command) (N : ℕ) (text : List ℕ) → IsTextOf command d N text → Means d command N text
