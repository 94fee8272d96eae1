use Rattle.std.proofs.Common.{arith}
use Rattle.labelled_trees.specs.Meaning.{tree_of}
use Rattle.log_rows.proofs.LabelledWords.{labelled_spells, labelled_word, leaf_spells}
use Rattle.log_rows.proofs.words.word.Goals as goal

pub returns-in-Leaf : goal.returns-in-Leaf
returns-in-Leaf c =
    let some = c.if-number-eq0.false in
    let small = c.if-number-gt9.false in
    record { spells = leaf_spells c.args.table.now c.in-Leaf.number c.symbol.result (omega (arith, some)) (omega (arith, small)) c.symbol.ensures.symbol }

pub word_of-requires : goal.word_of-requires
word_of-requires c = record { word = labelled_word c.args.table.now c.in-Some.leaves (tree_of c.args.tree.now) c.in-Some.ensures.labelled c.if-leaves-le9.true c.len-generators.ensures.table }

pub returns-in-Some : goal.returns-in-Some
returns-in-Some c = record { spells = labelled_spells c.args.table.now c.in-Some.leaves (tree_of c.args.tree.now) c.in-Some.ensures.labelled c.if-leaves-le9.true c.word_of.result c.word_of.ensures.word }
