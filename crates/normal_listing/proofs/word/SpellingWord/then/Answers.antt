use Rattle.std.proofs.Common.{◌≡◌, ℕ, List, length, ◌+◌, ◌*◌, ◌/◌, ◌^◌, ◌<◌, ◌≤◌, ◌++◌, ap, ◌∙◌, sym, arith}
use mathlib.Core.Path.{ap₂}
use Rattle.normal_listing.specs.Places.{IsShortWord, number_of}
use Rattle.normal_listing.proofs.Opened.{IsOpened, Closes, opened, closes}
use Rattle.normal_listing.proofs.Places.{number_joined, joined_word, word_small}
use Rattle.normal_listing.proofs.word.SpellingWord.then.Goals as goal

joined_number : (a b n : ℕ) (l m : List ℕ) → IsOpened a l → IsOpened b m → n ≡ length l → length l + length m ≤ 25 → a + b / 2 ^ (5 * n) ≡ number_of (l ++ m)
joined_number a b n l m o p e f =
    ap₂ (λ x y. x + y) o.number (ap₂ (λ x k. x / 2 ^ (5 * k)) p.number e) ∙ number_joined l m f

joined_closes : (a b n : ℕ) (l m : List ℕ) → IsOpened a l → IsOpened b m → n ≡ length l → length l + length m ≤ 25 → Closes (a + b / 2 ^ (5 * n)) (l ++ m)
joined_closes a b n l m o p e f = closes (a + b / 2 ^ (5 * n)) (l ++ m) (joined_word l m o.word p.word f) (joined_number a b n l m o p e f)

joined_small : (a b n : ℕ) (l m : List ℕ) → IsOpened a l → IsOpened b m → n ≡ length l → length l + length m ≤ 25 → a + b / 2 ^ (5 * n) < 2 ^ 128
joined_small a b n l m o p e f =
    let is = joined_number a b n l m o p e f in
    let small = word_small (l ++ m) (joined_word l m o.word p.word f) in omega (arith, is, small)

pub overflow_add-result : goal.overflow_add-result
overflow_add-result c =
    let small = joined_small c.self.inside.bits c.other.inside.bits c.len.result c.args.self c.args.other
    (opened c.self.inside.bits c.args.self c.self.view_is c.self.invariant) (opened c.other.inside.bits c.args.other c.other.view_is c.other.invariant)
    c.len.ensures.length c.requires.room in
    omega (arith, small)

pub invariant_of-result : goal.invariant_of-result
invariant_of-result c =
    (joined_closes c.self.inside.bits c.other.inside.bits c.len.result c.args.self c.args.other
    (opened c.self.inside.bits c.args.self c.self.view_is c.self.invariant) (opened c.other.inside.bits c.args.other c.other.view_is c.other.invariant)
    c.len.ensures.length c.requires.room).invariant

pub returns : goal.returns
returns c = record {
  joined =
      (joined_closes c.self.inside.bits c.other.inside.bits c.len.result c.args.self c.args.other
      (opened c.self.inside.bits c.args.self c.self.view_is c.self.invariant) (opened c.other.inside.bits c.args.other c.other.view_is c.other.invariant)
      c.len.ensures.length c.requires.room).view;
}
