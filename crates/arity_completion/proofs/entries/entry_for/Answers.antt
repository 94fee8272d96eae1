use Rattle.cofactor_log.specs.Entries.{elements_of}
use Rattle.arity_completion.proofs.KeptEntries.{entry_law}
use Rattle.arity_completion.proofs.entries.entry_for.Goals as goal

pub returns : goal.returns
returns c = record {
  entry = entry_law c.args.log.now.field c.args.log.now.gens c.args.log.now.rels (elements_of c.args.log.now.entries) c.args.shelf.now c.args.entries.now c.args.starts.now c.args.cofactors.now c.args.factor c.args.terms.now
      (record { element = c.in_ok-symmetric_element.field-0; uses = c.in_ok-uses_of.field-0 }) c.requires.factor c.in_ok-symmetric_element.ensures.element c.in_ok-uses_of.ensures.uses;
}
