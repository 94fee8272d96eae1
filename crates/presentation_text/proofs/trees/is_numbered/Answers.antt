use Rattle.std.proofs.Common.{◌∙◌}
use Rattle.labelled_trees.specs.Meaning.{tree_of}
use Rattle.presentation_text.proofs.TreeReadingsLeaves.{numbered-tested}
use Rattle.presentation_text.proofs.trees.is_numbered.Goals as goal

pub returns : goal.returns
returns c = c.is_some.ensures ∙ numbered-tested (tree_of c.args.tree.now) c.numbered.result c.numbered.ensures.numbered c.numbered.ensures.none
