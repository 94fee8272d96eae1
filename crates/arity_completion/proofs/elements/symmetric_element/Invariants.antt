use Rattle.std.proofs.Common.{◌≡◌, take}
use Rattle.modular_sums.specs.Sums.{moved}
use Rattle.symmetric_sums.specs.Terms.{terms_of}
use Rattle.shuffle_transfer.specs.Labels.{symmetric_tree}
use Rattle.arity_completion.proofs.elements.symmetric_element.Given as goal
use Rattle.symmetric_trees.specs.Generators.{generators_of}

abbrev pub invariant-loop-term : goal.invariant-loop-term
invariant-loop-term l = terms_of l.sum ≡ moved (symmetric_tree (generators_of l.log.gens)) (take l.term-index l.terms)
