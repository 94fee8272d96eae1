use Rattle.std.proofs.Common.{refl}
use Rattle.tree_store.specs.Stores.{tree_at}
use Rattle.shuffle_sums.specs.Shelves.{HasKey}
use Rattle.shuffle_sums.specs.Inserting.{FitsFrame}
use Rattle.shuffle_sums.proofs.Kept.{keeps_both}
use Rattle.shuffle_sums.proofs.MergeSteps.{of_next}
use Rattle.shuffle_sums.proofs.InsertingTrees.{fits_later, next_inserted}
use Rattle.shuffle_sums.proofs.inserting.insert_trees.Goals as goal

pub insert_tree-requires-clause-key : goal.insert_tree-requires-clause-key
insert_tree-requires-clause-key c =
    let x = c.term-item.result in
    c.loop-term.invariant.keeps.keys x.tree (of_next (HasKey c.args.shelf.now) c.args.terms.now c.loop-term.term-index x c.requires.stand c.loop-term-test.true c.term-item.is)

pub insert_tree-requires-clause-fits : goal.insert_tree-requires-clause-fits
insert_tree-requires-clause-fits c =
    let old = c.args.shelf.now in
    let x = c.term-item.result in
    let key = of_next (HasKey old) c.args.terms.now c.loop-term.term-index x c.requires.stand c.loop-term-test.true c.term-item.is in
    let fits = of_next (λ id. FitsFrame old c.args.frame.now (tree_at old.trees id)) c.args.terms.now c.loop-term.term-index x c.requires.fit c.loop-term-test.true c.term-item.is in
    fits_later old c.loop-term.shelf c.args.frame.now x.tree c.requires.shelf c.loop-term.invariant.keeps key fits

pub returns-in_err-push-clause-keeps : goal.returns-in_err-push-clause-keeps
returns-in_err-push-clause-keeps c = keeps_both c.args.shelf.now c.loop-term.shelf c.insert_tree.new.shelf c.loop-term.invariant.keeps c.insert_tree.ensures.keeps

pub loop-term-preserved : goal.loop-term-preserved
loop-term-preserved c =
    let old = c.args.shelf.now in
    let x = c.term-item.result in
    let key = of_next (HasKey old) c.args.terms.now c.loop-term.term-index x c.requires.stand c.loop-term-test.true c.term-item.is in
    record {
      inserted = next_inserted old c.loop-term.shelf c.insert_tree.new.shelf c.args.frame.now c.args.terms.now c.loop-term.made c.push.new.self c.loop-term.term-index x record { coef = x.coef; tree = c.in_ok-tree.tree }
          c.requires.shelf c.loop-term.invariant.shelf c.loop-term.invariant.keeps c.insert_tree.ensures.keeps key c.loop-term.invariant.inserted c.loop-term-test.true c.term-item.is
          refl c.in_ok-tree.ensures.inserted c.in_ok-push.ensures.ok;
      keeps = keeps_both old c.loop-term.shelf c.insert_tree.new.shelf c.loop-term.invariant.keeps c.insert_tree.ensures.keeps;
      shelf = c.insert_tree.ensures.shelf;
    }
