use Rattle.std.specs.Prelude.{◌≡◌, ◌++◌}
use Rattle.std.proofs.Common.{sym, ◌∙◌, ap, subst, suc, ◌+◌, arith}
use Rattle.labelled_trees.specs.Meaning.{tree_of}
use Rattle.shuffle_insertions.specs.Keys.{words_at, words_below}
use Rattle.shuffle_trees.specs.Walks.{words}
use Rattle.shuffle_trees.specs.ValidTrees.{IsValid}
use Rattle.shuffle_trees.proofs.Walking.{words_start, words_end}
use Rattle.shuffle_trees.proofs.keys.words.Goals as goal

pub loop-below-init : goal.loop-below-init
loop-below-init c = let valid = subst IsValid (sym c.shape-shape.ensures.shape) c.shape-shape.ensures.valid in c.new-words.ensures ∙ words_start (tree_of c.shape-shape.result.now) valid

pub push_word-requires : goal.push_word-requires
push_word-requires c = let valid = subst IsValid (sym c.shape-shape.ensures.shape) c.shape-shape.ensures.valid in valid.once (c.loop-below.below + 1)

pub loop-below-preserved : goal.loop-below-preserved
loop-below-preserved c =
    let t = tree_of c.shape-shape.result.now in
    let n : suc c.loop-below.below ≡ c.loop-below.below + 1 = omega arith in
    c.in_ok-push_word.ensures.word ∙ ap (λ l. l ++ words_at (c.loop-below.below + 1) t) (c.loop-below.invariant ∙ ap (λ m. words_below m t) n)

pub returns : goal.returns
returns c =
    let t = tree_of c.shape-shape.result.now in
    let end : suc c.loop-below.below ≡ suc c.greatest-below-end.result = omega (arith, c.loop-below-test.false, c.loop-below.auto.below-end) in
    record { words = c.loop-below.invariant ∙ ap (λ m. words_below m t) end ∙ words_end c.greatest-below-end.result t c.greatest-below-end.ensures c.greatest-below-end.type_inv ∙ ap words c.shape-shape.ensures.shape }
