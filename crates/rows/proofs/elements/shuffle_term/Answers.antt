use Rattle.std.proofs.Common.{subst}
use Rattle.shuffle_insertions.specs.ShuffleTrees.{IsShuffleTree}
use Rattle.shuffle_transfer.specs.Labels.{inputs_of}
use Rattle.symmetric_trees.specs.Generators.{generators_of}
use Rattle.rows.proofs.elements.shuffle_term.Goals as goal

pub returns-clause-tree : goal.returns-clause-tree
returns-clause-tree c =
    subst (λ n. IsShuffleTree (inputs_of (generators_of c.args.document.now.gens)) n c.in_ok-sign.form) c.if-leaves-arity.false (c.in_ok-sign.ensures.shuffle c.in-Some.leaves c.in-Some.ensures.labelled)
