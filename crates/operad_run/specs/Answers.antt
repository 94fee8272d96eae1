-- The lines of the answers to queries.
use Rattle.std.specs.Prelude.{ℕ, ◌≡◌, ◌≤◌, ◌↔◌, ◌-◌, List, [], ◌++◌}
use Rattle.std.specs.List.{flat_map}
use Rattle.modular_sums.specs.Sums.{scale, AllTerms}
use Rattle.labelled_trees.specs.Trees.{Tree}
use Rattle.operad_ideals.specs.Presentations.{Presentation}
use Rattle.operad_ideals.specs.Ideals.{InIdeal}
use Rattle.symmetric_trees.specs.Generators.{generators_of, parts_at}
use Rattle.symmetric_trees.specs.Trees.{IsLabelled}
use Rattle.symmetric_trees.specs.declared.generators.Generator.{Generator}
use Rattle.operad_ideals.specs.Collected.{IsCollected}
use Rattle.presentation_text.specs.SumText.{sum_text}
use Rattle.operad_answers.specs.Parts.{line}
use Rattle.operad_answers.specs.Texts.{EachWith}

-- the answer to an element modulo p: the text of its collected form
pub record IsCollectedAnswer (p : ℕ) (generators : List Generator) (element : List (ℕ × Tree ℕ)) (answer : List ℕ) : Type 0 where
  pub form : List (ℕ × Tree ℕ)
  pub is_collected : IsCollected p (parts_at generators) element form
  pub answer_is : answer ≡ sum_text p generators form

-- the line of the answer to an element joins a text
pub record AddsAnswer (p : ℕ) (generators : List Generator) (element : List (ℕ × Tree ℕ)) (old new : List ℕ) : Type 0 where
  pub answer : List ℕ
  pub is_answer : IsCollectedAnswer p generators element answer
  pub text_is : new ≡ old ++ line answer

-- the text is the lines of the answers to these elements
pub record AreAnswered (p : ℕ) (generators : List Generator) (elements : List (List (ℕ × Tree ℕ))) (text : List ℕ) : Type 0 where
  pub answers : List (List ℕ)
  pub are_answers : EachWith (IsCollectedAnswer p generators) elements answers
  pub text_is : text ≡ flat_map line answers

-- the presentation of the generators modulo p, without relations
abbrev pub free : ℕ → List Generator → Presentation
free p generators = record { q = p - 1; generators = generators_of generators; relations = [] }

-- Answers tell elements apart modulo symmetry: those to two elements of one arity, at most 9, are equal, byte for byte, exactly
-- where the difference of the elements is in the ideal of the presentation without relations.
abbrev pub CollectedAnswersDecide : ℕ → List Generator → Type 0
CollectedAnswersDecide p generators = (n : ℕ) → n ≤ 9 → (d e : List (ℕ × Tree ℕ)) (answer other : List ℕ) → IsCollectedAnswer p generators d answer → IsCollectedAnswer p generators e other
    → AllTerms d (IsLabelled generators n) → AllTerms e (IsLabelled generators n) → (answer ≡ other) ↔ InIdeal (free p generators) n (d ++ scale (p - 1) e)
