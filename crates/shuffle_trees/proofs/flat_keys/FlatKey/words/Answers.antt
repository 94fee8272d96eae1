use Rattle.std.proofs.Common.{◌∙◌, ◌+◌, ◌-◌, take, drop, map, ap, sym, arith}
use Rattle.std.proofs.lemmas.List.{take-map, drop-map, length-take-le}
use Rattle.shuffle_trees.specs.FlatKeys as spec
use Rattle.shuffle_trees.proofs.flat_keys.FlatKey.words.Goals as goal

pub returns-clause-words : goal.returns-clause-words
returns-clause-words c =
    let key = c.args.self.now in
    sym (take-map spec.letters (key.leaves + 1 - 1) (drop 1 key.words)) ∙ ap (take (key.leaves + 1 - 1)) (sym (drop-map spec.letters 1 key.words))
    ∙ ap (λ n. take (n + 1 - 1) (drop 1 (map spec.letters key.words))) (sym (length-take-le key.leaves key.row (omega (arith, key.few_leaves, c.type_inv.self))))
