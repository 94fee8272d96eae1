use Rattle.std.proofs.Common.{◌≡◌, map}
use Rattle.shuffle_passage.proofs.forming.vertex.Given as goal

abbrev pub invariant-loop-branch : goal.invariant-loop-branch
invariant-loop-branch l = l.inputs ≡ map (λ branch. branch.tree) l.yielded
