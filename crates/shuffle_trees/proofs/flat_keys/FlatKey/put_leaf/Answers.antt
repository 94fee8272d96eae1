use Rattle.std.proofs.lemmas.List.{map-set}
use Rattle.shuffle_trees.specs.FlatKeys as spec
use Rattle.shuffle_trees.proofs.flat_keys.FlatKey.put_leaf.Goals as goal

pub returns-clause-words : goal.returns-clause-words
returns-clause-words c = map-set spec.letters c.args.self.now.words c.args.number c.args.word
