use Rattle.std.specs.Prelude.{◌≡◌, true}
use Rattle.std.proofs.Common.{sym, ◌∙◌, ap, subst}
use Rattle.labelled_trees.specs.Meaning.{tree_of}
use Rattle.labelled_trees.specs.declared.Tree.TheVariants.{Node}
use Rattle.shuffle_insertions.specs.Keys.{words_at}
use Rattle.shuffle_trees.specs.Walks.{IsWalked}
use Rattle.shuffle_trees.proofs.Walking.{walked_down, walked_through, word_back}
use Rattle.shuffle_trees.proofs.keys.+walk.Goals as goal

pub returns-then-branch : goal.returns-then-branch
returns-then-branch t c =
    let items = c.as_slice-input-items.result.now in
    let g = c.in-Node.label in
    let same : c.args.tree.now ≡ Node g items = c.in-Node.is ∙ ap (Node g) (sym c.as_slice-input-items.ensures) in
    let found = subst (λ b. IsWalked b c.loop-input.word c.walk.new.word (words_at c.args.number (tree_of c.input-item.result))) c.if-branch.true c.in_ok-walk-in-Node.ensures.walked in
    record {
      walked = subst (λ u. IsWalked true c.args.word.now c.walk.new.word (words_at c.args.number (tree_of u))) (sym same)
          (walked_down c.args.number g items c.loop-input.input-index c.input-item.result c.args.word.now c.loop-input.word c.walk.new.word c.loop-input-test.true c.input-item.is c.loop-input.invariant.none
          (c.loop-input.invariant.word ∙ c.in_ok-push-in-Node.ensures.ok) found);
    }

pub returns-after-loop-input : goal.returns-after-loop-input
returns-after-loop-input t c =
    let items = c.as_slice-input-items.result.now in
    let g = c.in-Node.label in
    let same : c.args.tree.now ≡ Node g items = c.in-Node.is ∙ ap (Node g) (sym c.as_slice-input-items.ensures) in
    record {
      walked = (
        ap (λ u. words_at c.args.number (tree_of u)) same ∙ walked_through c.args.number g items c.loop-input.input-index c.loop-input-test.false c.loop-input.invariant.none,
        word_back c.args.word.now c.loop-input.word c.pop.new.self g c.pop.result (c.loop-input.invariant.word ∙ c.in_ok-push-in-Node.ensures.ok) c.pop.ensures,
      );
    }
