use Rattle.std.proofs.Common.{◌≡◌, ℕ, ◌+◌, ◌*◌, ◌/◌, ◌<◌, ◌≤◌, length, drop, map, slice_index, ap, ◌∙◌, sym, subst, arith}
use mathlib.Core.Path.{ap₂}
use Rattle.normal_listing.specs.Places.{IsShortWord}
use Rattle.normal_listing.proofs.Opened.{Closes, closes}
use Rattle.normal_listing.proofs.Renaming.{IsRenaming, IsFirst, begins, first_left, product_small, sum_small, goes_on, ends, renamed_word}
use Rattle.normal_listing.proofs.word.SpellingWord.renamed.Goals as goal

pub loop-at-init : goal.loop-at-init
loop-at-init c = begins (λ s. slice_index c.args.symbols.now s) c.args.self

pub bounds-symbols-first : goal.bounds-symbols-first
bounds-symbols-first c =
    let count = c.loop-at.invariant.count in
    let first = first_left c.loop-at.left c.first.result (omega (arith, count, c.len-at-end.ensures.length, c.loop-at-test.true)) c.first.ensures.word c.first.ensures.first in
    first.symbol.small

pub overflow_mul-bits : goal.overflow_mul-bits
overflow_mul-bits c =
    let f = λ (s : ℕ). slice_index c.args.symbols.now s in
    let count = c.loop-at.invariant.count in
    let first = first_left c.loop-at.left c.first.result (omega (arith, count, c.len-at-end.ensures.length, c.loop-at-test.true)) c.first.ensures.word c.first.ensures.first in
    let few = c.len-at-end.ensures.word.few in
    let at : c.loop-at._at < 25 = omega (arith, few, c.len-at-end.ensures.length, c.loop-at-test.true) in
    let small = product_small f c.args.self c.loop-at._at c.loop-at.bits c.loop-at.place c.loop-at.left c.first.result c.loop-at.invariant first at
    (renamed_word f c.args.self c.requires.symbols c.len-at-end.ensures.word) in
    let same = ap (λ x. x * c.loop-at.place) c.from.ensures in
    omega (arith, small, same)

pub overflow_add-bits : goal.overflow_add-bits
overflow_add-bits c =
    let f = λ (s : ℕ). slice_index c.args.symbols.now s in
    let count = c.loop-at.invariant.count in
    let first = first_left c.loop-at.left c.first.result (omega (arith, count, c.len-at-end.ensures.length, c.loop-at-test.true)) c.first.ensures.word c.first.ensures.first in
    let few = c.len-at-end.ensures.word.few in
    let at : c.loop-at._at < 25 = omega (arith, few, c.len-at-end.ensures.length, c.loop-at-test.true) in
    let small = sum_small f c.args.self c.loop-at._at c.loop-at.bits c.loop-at.place c.loop-at.left c.first.result c.loop-at.invariant first at
    (renamed_word f c.args.self c.requires.symbols c.len-at-end.ensures.word) in
    let same = ap (λ x. x * c.loop-at.place) c.from.ensures in
    omega (arith, small, same)

pub loop-at-preserved : goal.loop-at-preserved
loop-at-preserved c =
    let f = λ (s : ℕ). slice_index c.args.symbols.now s in
    let count = c.loop-at.invariant.count in
    let first = first_left c.loop-at.left c.first.result (omega (arith, count, c.len-at-end.ensures.length, c.loop-at-test.true)) c.first.ensures.word c.first.ensures.first in
    let few = c.len-at-end.ensures.word.few in
    let at : c.loop-at._at < 25 = omega (arith, few, c.len-at-end.ensures.length, c.loop-at-test.true) in
    let on = goes_on f c.args.self c.loop-at._at c.loop-at.bits c.loop-at.place c.loop-at.left c.first.result c.loop-at.invariant first at in
    subst (λ bits. IsRenaming f c.args.self (c.loop-at._at + 1) bits (c.loop-at.place / 32) c.rest-left.result) (ap (λ x. c.loop-at.bits + x * c.loop-at.place) (sym c.from.ensures))
    (subst (λ left. IsRenaming f c.args.self (c.loop-at._at + 1) (c.loop-at.bits + f c.first.result * c.loop-at.place) (c.loop-at.place / 32) left) (sym c.rest-left.ensures.rest) on)

pub invariant_of-result : goal.invariant_of-result
invariant_of-result c =
    let f = λ (s : ℕ). slice_index c.args.symbols.now s in
    (closes c.loop-at.bits (map f c.args.self) (renamed_word f c.args.self c.requires.symbols c.len-at-end.ensures.word)
    (ends f c.args.self c.loop-at._at c.loop-at.bits c.loop-at.place c.loop-at.left c.loop-at.invariant (omega (arith, c.len-at-end.ensures.length, c.loop-at-test.false)))).invariant

pub returns : goal.returns
returns c =
    let f = λ (s : ℕ). slice_index c.args.symbols.now s in
    record {
      renamed = (closes c.loop-at.bits (map f c.args.self) (renamed_word f c.args.self c.requires.symbols c.len-at-end.ensures.word)
          (ends f c.args.self c.loop-at._at c.loop-at.bits c.loop-at.place c.loop-at.left c.loop-at.invariant (omega (arith, c.len-at-end.ensures.length, c.loop-at-test.false)))).view;
    }
