use Rattle.std.proofs.Common.{◌≡◌, ◌+◌, ◌∷◌, drop, ap, sym, ◌∙◌, arith}
use Rattle.std.proofs.lemmas.List.{drop_more, drop_all}
use Rattle.normal_listing.proofs.Lines.{line_written, lines_end}
use Rattle.normal_listing.proofs.writing.write_words.Goals as goal

pub loop-word-preserved : goal.loop-word-preserved
loop-word-preserved c =
    let words = c.args.words.now in
    let i = c.loop-word.word-index in
    let word = c.word-item.result in
    let here : drop i words ≡ word ∷ drop (i + 1) words = drop_more words i word c.loop-word-test.true ∙ ap (λ w. w ∷ drop (i + 1) words) (sym c.word-item.is) in
    line_written c.args.table.now words (drop i words) (drop (i + 1) words) word c.loop-word.out.items c.args.out.now.items c.write_word.new.out.items c.push.new.self.items here
    (λ t spelt is. c.in_ok-write_word.ensures.text t spelt is) c.in_ok-push.ensures.items c.loop-word.invariant

pub returns : goal.returns
returns c = record {
  text = λ ts spelt are.
      let words = c.args.words.now in
      lines_end c.args.table.now words (drop c.loop-word.word-index words) c.loop-word.out.items c.args.out.now.items ts (drop_all c.loop-word.word-index words (omega arith)) c.loop-word.invariant spelt are;
}
