-- What `forms` tells of a text is determined by its bytes.
use Rattle.std.proofs.Common.{◌≡◌, ℕ, ◌<◌, List, ap, sym, ◌∙◌}
use Rattle.std.specs.List.{flat_map}
use Rattle.labelled_trees.specs.Trees.{Tree}
use Rattle.symmetric_trees.specs.Generators.{parts_at}
use Rattle.symmetric_trees.specs.declared.generators.Generator.{Generator}
use Rattle.operad_ideals.proofs.Forms.{one_collected}
use Rattle.presentation_text.specs.SumText.{sum_text}
use Rattle.operad_answers.specs.Parts.{line}
use Rattle.operad_answers.proofs.OneText.{one_each}
use Rattle.operad_run.specs.Answers.{IsCollectedAnswer, AreAnswered}

-- an element has one answer
same_answer : (p : ℕ) (generators : List Generator) (e : List (ℕ × Tree ℕ)) (answer other : List ℕ) → 0 < p → IsCollectedAnswer p generators e answer → IsCollectedAnswer p generators e other → answer ≡ other
same_answer p generators e answer other positive h g =
    h.answer_is ∙ ap (sum_text p generators) (one_collected p (parts_at generators) e h.form g.form positive h.is_collected g.is_collected) ∙ sym g.answer_is

pub same_answered : (p : ℕ) (generators : List Generator) (es : List (List (ℕ × Tree ℕ))) (text other : List ℕ) → 0 < p → AreAnswered p generators es text → AreAnswered p generators es other → text ≡ other
same_answered p generators es text other positive h g =
    h.text_is ∙ ap (flat_map line) (one_each (IsCollectedAnswer p generators) (λ e a b k l. same_answer p generators e a b positive k l) es h.answers g.answers h.are_answers g.are_answers) ∙ sym g.text_is
