use Rattle.std.proofs.Common.{◌≡◌, ◌+◌, ◌∷◌, drop, ap, sym, ◌∙◌}
use Rattle.std.proofs.lemmas.List.{drop_more}
use Rattle.normal_listing.proofs.Lines.{line_carried}
use Rattle.normal_listing.proofs.pieces.write_some.Goals as goal

pub loop-at-preserved : goal.loop-at-preserved
loop-at-preserved c =
    let words = c.args.words.now in
    let i = c.loop-at.at in
    let word = c.index-words-at.result in
    let here : drop i words ≡ word ∷ drop (i + 1) words = drop_more words i word c.loop-at-test.true ∙ ap (λ w. w ∷ drop (i + 1) words) (sym c.index-words-at.is) in
    line_carried c.args.table.now words (drop (i + 1) words) i word c.loop-at.out.items c.args.out.now.items c.write_word.new.out.items c.push.new.self.items here
    (λ t spelt is. c.in_ok-write_word.ensures.text t spelt is) c.in_ok-push.ensures.items c.loop-at.invariant
