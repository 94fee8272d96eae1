use Rattle.std.proofs.Common.{◌≡◌, [], ◌∙◌, sym}
use Rattle.normal_listing.specs.Words.{symbols}
use Rattle.normal_listing.proofs.Combining.{nothing_behind}
use Rattle.normal_listing.specs.WordTexts.{BeginsWithTree}
use Rattle.normal_listing.proofs.reading.read_word.Goals as goal

pub read_front-requires : goal.read_front-requires
read_front-requires c =
    let s = c.requires.spells in
    record { begins = record { tree = s.tree; others = []; spelt = s.spelt; is = s.is ∙ sym (nothing_behind (symbols s.tree)) } }

pub returns : goal.returns
returns c = record { read = λ tree spelt is. (c.in_ok-front.ensures.read tree [] spelt (is ∙ sym (nothing_behind (symbols tree)))).0 }
