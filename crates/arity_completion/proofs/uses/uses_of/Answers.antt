use Rattle.std.proofs.Common.{rules}
use Rattle.arity_completion.proofs.Ups.{uses_add_up}
use Rattle.arity_completion.proofs.uses.uses_of.Goals as goal

pub returns : goal.returns
returns c = search (rules, uses_add_up)
