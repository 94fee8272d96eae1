use Rattle.std.proofs.Common.{◌≡◌, ◌+◌, ◌-◌, ◌<◌, [], length, get_or, refl, ◌∙◌, arith}
use Rattle.normal_listing.specs.Vertices.{numbered}
use Rattle.normal_listing.proofs.WordParts.{entry_any, room_for, word_more}
use Rattle.normal_listing.proofs.vertex_words.vertex_word.Goals as goal
use Rattle.normal_listing.proofs.vertex_words.vertex_word.Goals.{After-index-words-number}

input : (c : After-index-words-number) → c.index-words-number.result ≡ numbered c.args.words.now (get_or c.args.order.now c.loop-number.number-index 0)
input c =
    let number = c.requires.numbers c.loop-number.number-index 0 c.loop-number-test.true in
    let low : get_or c.args.order.now c.loop-number.number-index 0 - 1 < length c.args.words.now = omega (arith, number.0, number.1) in
    c.index-words-number.is ∙ entry_any c.args.words.now (get_or c.args.order.now c.loop-number.number-index 0 - 1) c.index-words-number.result [] low

pub then-word-requires : goal.then-word-requires
then-word-requires c = record {
  room = room_for (numbered c.args.words.now) c.args.order.now c.loop-number.number-index (get_or c.args.order.now c.loop-number.number-index 0) (10 + c.args.generator) c.loop-number.word c.index-words-number.result
      c.loop-number-test.true refl c.loop-number.invariant (input (goal.at.then-word-requires c).After-index-words-number) c.requires.short;
}

pub loop-number-preserved : goal.loop-number-preserved
loop-number-preserved c =
    word_more (numbered c.args.words.now) c.args.order.now c.loop-number.number-index (get_or c.args.order.now c.loop-number.number-index 0) (10 + c.args.generator) c.loop-number.word c.index-words-number.result c.then-word.result
    c.loop-number-test.true refl c.loop-number.invariant (input (goal.at.loop-number-preserved c).After-index-words-number) c.then-word.ensures.joined
