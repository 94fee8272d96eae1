use Rattle.std.proofs.Common.{◌∙◌, map, ap, ap₂}
use Rattle.labelled_trees.specs.Trees.{leaf}
use Rattle.labelled_trees.specs.Leaves.{occurs}
use Rattle.operad_ideals.specs.Ideals.{placed}
use Rattle.shuffle_transfer.specs.Labels.{symmetric_tree}
use Rattle.shuffle_transfer.proofs.FramesBack.{frames_back}
use Rattle.symmetric_trees.specs.Generators.{generators_of}
use Rattle.shuffle_passage.proofs.framing.frame_to_context.Goals as goal

pub returns-clause-hole : goal.returns-clause-hole
returns-clause-hole c =
    let generators = generators_of c.args.table.now in
    ap (occurs 0) (c.in_ok-context.ensures.tree ∙ ap (symmetric_tree generators) c.context.ensures.context)
    ∙ (frames_back generators c.args.frame.now (leaf 0) c.requires.context tt).0 ∙ c.context.ensures.valid.context

pub returns-clause-filled : goal.returns-clause-filled
returns-clause-filled c x h =
    let generators = generators_of c.args.table.now in
    let context = c.in_ok-context.ensures.tree ∙ ap (symmetric_tree generators) c.context.ensures.context in
    let inputs = c.in_ok-inputs.ensures ∙ ap (map (symmetric_tree generators)) c.inputs.ensures.inputs in
    ap₂ (λ d us. placed d us (symmetric_tree generators x)) context inputs ∙ (frames_back generators c.args.frame.now x c.requires.context h).1
