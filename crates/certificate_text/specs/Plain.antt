-- What blocks say, in plain lists and trees.
use Rattle.std.specs.Prelude.{ℕ, List, map}
use Rattle.labelled_trees.specs.Trees.{Tree}
use Rattle.labelled_trees.specs.Meaning.{tree_of}
use Rattle.symmetric_sums.specs.Terms.{terms_of}
use Rattle.symmetric_sums.specs.declared.instance.Instance.{Instance}
use Rattle.symmetric_sums.specs.declared.instance.Rule.{Rule}
use Rattle.certificate_text.specs.declared.block.Block.{Block}
use Rattle.certificate_text.specs.declared.block.Step.{Step}

pub record PlainUse : Type 0 where
  pub coef : ℕ
  pub context : Tree ℕ
  pub rule : Rule
  pub inputs : List (Tree ℕ)

abbrev pub plain_use : Instance → PlainUse
plain_use item = record { coef = item.coef; context = tree_of item.context; rule = item.rule; inputs = map tree_of item.inputs }

pub record PlainStep : Type 0 where
  pub element : List (ℕ × Tree ℕ)
  pub uses : List PlainUse

abbrev pub plain_step : Step → PlainStep
plain_step step = record { element = terms_of step.element; uses = map plain_use step.uses }

pub record PlainBlock : Type 0 where
  pub want : List (ℕ × Tree ℕ)
  pub steps : List PlainStep

abbrev pub plain_block : Block → PlainBlock
plain_block block = record { want = terms_of block.want; steps = map plain_step block.steps }
