use Rattle.std.proofs.Common.{◌≡◌, ◌<◌, length, ap, subst, arith}
use Rattle.std.specs.List.{All}
use Rattle.std.proofs.lemmas.List.Elements.{All-tail}
use Rattle.normal_listing.specs.WordTexts.{SpellsTree}
use Rattle.normal_listing.proofs.iterating.NormalTreesIterator.next.Goals as goal

pub returns-clause-goes : goal.returns-clause-goes
returns-clause-goes c =
    let spells = SpellsTree c.args.self.now.table.now in
    let split = c.in_ok-word.ensures.cases.0 in
    let can : All spells c.in_ok-word.others.now = All-tail spells c.in_ok-word.word.now c.in_ok-word.others.now (subst (All spells) split c.requires) in
    let same = ap length split in
    let less : length c.in_ok-word.others.now < length c.args.self.now.words.now = omega (arith, same) in
    record { on = λ f. (can, f, less); keeps = can; rests = λ f. tt }
