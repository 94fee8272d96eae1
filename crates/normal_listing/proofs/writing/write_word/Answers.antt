use Rattle.std.proofs.Common.{◌≡◌, [], ◌∙◌, sym}
use Rattle.normal_listing.specs.Words.{symbols}
use Rattle.normal_listing.proofs.Combining.{nothing_behind}
use Rattle.normal_listing.specs.WordTexts.{BeginsWithTree}
use Rattle.normal_listing.proofs.writing.write_word.Goals as goal

pub write_front-requires : goal.write_front-requires
write_front-requires c =
    let s = c.requires.spells in
    record { begins = record { tree = s.tree; others = []; spelt = s.spelt; is = s.is ∙ sym (nothing_behind (symbols s.tree)) } }

pub returns : goal.returns
returns c = record { text = λ tree spelt is. (c.in_ok-_rest.ensures.text tree [] spelt (is ∙ sym (nothing_behind (symbols tree)))).0 }
