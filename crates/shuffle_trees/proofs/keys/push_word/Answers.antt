use Rattle.std.specs.Prelude.{true}
use Rattle.std.proofs.Common.{subst}
use Rattle.labelled_trees.specs.Meaning.{tree_of}
use Rattle.shuffle_insertions.specs.Keys.{words_at}
use Rattle.shuffle_trees.specs.Walks.{IsWalked}
use Rattle.shuffle_trees.proofs.Walking.{word_put}
use Rattle.shuffle_trees.proofs.keys.push_word.Goals as goal

pub returns-in_ok-push : goal.returns-in_ok-push
returns-in_ok-push c =
    let found = subst (λ b. IsWalked b c.new-word.result c.walk.new.word (words_at c.args.number (tree_of c.args.tree.now))) c.if-branch.true c.in_ok-walk.ensures.walked in
    let start = subst (λ l. IsWalked true l c.walk.new.word (words_at c.args.number (tree_of c.args.tree.now))) c.new-word.ensures found in
    record { word = word_put c.args.number (tree_of c.args.tree.now) c.args.words.now c.push.new.self c.walk.new.word c.requires start c.in_ok-push.ensures.ok }
