use Rattle.std.proofs.Common.{◌≡◌, ◌∙◌, suc, ◌+◌, ◌-◌, sym, subst, arith}
use Rattle.std.specs.Cmp.Lexicographic.{slice_cmp}
use Rattle.labelled_trees.specs.Meaning.{tree_of}
use Rattle.shuffle_insertions.specs.Keys.{words_below}
use Rattle.path_orders.specs.Comparing.{words_by}
use Rattle.path_orders.proofs.WordLists.{words_begin, words_step, words_differ, words_agree, word_alone}
use Rattle.path_orders.proofs.words.compare_paths.Goals as goal

pub loop-below-init : goal.loop-below-init
loop-below-init c = words_begin c.args.leaves (tree_of c.args.one.now) (tree_of c.args.other.now) c.requires.one c.requires.other

pub loop-below-preserved : goal.loop-below-preserved
loop-below-preserved c =
    let a = tree_of c.args.one.now in
    let b = tree_of c.args.other.now in
    let j = c.loop-below.below + 1 in
    let step : suc c.loop-below.below ≡ c.loop-below.below + 1 = omega arith in
    let v = word_alone j a (c.requires.one.each j (omega arith) (omega (arith, c.loop-below-test.true))) in
    let w = word_alone j b (c.requires.other.each j (omega arith) (omega (arith, c.loop-below-test.true))) in
    let both = c.compare_at-lengths.ensures v.0 w.0 v.1 w.1 in
    let same = subst (λ m. words_below m a ≡ words_below m b) step c.loop-below.invariant in
    words_step c.args.short c.args.leaves a b c.requires.one c.requires.other j v.0 w.0 v.1 w.1 same (sym (c.joined.ensures v.0 w.0 both.0 both.1) ∙ c.in-Equal.is)

pub returns-in_default : goal.returns-in_default
returns-in_default c =
    let a = tree_of c.args.one.now in
    let b = tree_of c.args.other.now in
    let j = c.loop-below.below + 1 in
    let step : suc c.loop-below.below ≡ c.loop-below.below + 1 = omega arith in
    let v = word_alone j a (c.requires.one.each j (omega arith) (omega (arith, c.loop-below-test.true))) in
    let w = word_alone j b (c.requires.other.each j (omega arith) (omega (arith, c.loop-below-test.true))) in
    let both = c.compare_at-lengths.ensures v.0 w.0 v.1 w.1 in
    let same = subst (λ m. words_below m a ≡ words_below m b) step c.loop-below.invariant in
    let whole : j + (c.args.leaves - j) ≡ c.args.leaves = omega (arith, c.loop-below-test.true) in
    record {
      compared = subst (λ m. c.joined.result ≡ slice_cmp (words_by c.args.short) (words_below (suc m) a) (words_below (suc m) b)) whole
          (words_differ c.args.short c.args.leaves a b c.requires.one c.requires.other j (c.args.leaves - j) v.0 w.0 c.joined.result v.1 w.1 same (c.joined.ensures v.0 w.0 both.0 both.1) c.in_default.not-Equal);
    }

pub returns : goal.returns
returns c =
    let a = tree_of c.args.one.now in
    let b = tree_of c.args.other.now in
    let end : suc c.loop-below.below ≡ suc c.args.leaves = omega (arith, c.loop-below-test.false, c.loop-below.auto.below-end) in
    record {
      compared = words_agree c.args.short c.args.leaves a b c.requires.one c.requires.other (words_below (suc c.args.leaves) a) (words_below (suc c.args.leaves) b)
          (subst (λ m. words_below m a ≡ words_below m b) end c.loop-below.invariant);
    }
