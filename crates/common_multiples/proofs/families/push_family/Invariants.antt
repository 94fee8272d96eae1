use Rattle.std.proofs.Common.{◌≡◌, ◌++◌, List}
use Rattle.common_multiples.specs.declared.families.Multiple.{Multiple}
use Rattle.common_multiples.proofs.OverlapLists.{Between}
use Rattle.common_multiples.proofs.families.push_family.Given as goal

abbrev pub invariant-loop-at : goal.invariant-loop-at
invariant-loop-at l = (more : List Multiple) × (l.found.items ≡ l.fn.found.items ++ more) × Between l.fn.n l.fn.host.tree.now l.fn.guest.tree.now l.fn.is_turned l.fn.from l.at more
