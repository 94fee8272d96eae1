use Rattle.std.proofs.Common.{◌≡◌, ℕ, List, [], ◌∷◌, ◌*◌, ◌%◌, ◌^◌, drop, ap, ◌∙◌, sym}
use Rattle.normal_listing.specs.Places.{IsShortWord, number_of}
use Rattle.normal_listing.proofs.Opened.{IsOpened, Closes, opened, closes}
use Rattle.normal_listing.proofs.Places.{rest_of, rest_word, number_none}
use Rattle.normal_listing.proofs.word.SpellingWord.rest.Goals as goal

rest_closes : (bits : ℕ) (l : List ℕ) → IsOpened bits l → Closes (bits % 2 ^ 120 * 32) (drop 1 l)
rest_closes bits [] o = closes (bits % 2 ^ 120 * 32) [] o.word (ap (λ n. n % 2 ^ 120 * 32) (o.number ∙ number_none) ∙ sym number_none)
rest_closes bits (s ∷ l) o = closes (bits % 2 ^ 120 * 32) l (rest_word s l o.word) (ap (λ n. n % 2 ^ 120 * 32) o.number ∙ rest_of s l o.word)

pub invariant_of-result : goal.invariant_of-result
invariant_of-result c = (rest_closes c.self.inside.bits c.args.self (opened c.self.inside.bits c.args.self c.self.view_is c.self.invariant)).invariant

pub returns : goal.returns
returns c = record { rest = (rest_closes c.self.inside.bits c.args.self (opened c.self.inside.bits c.args.self c.self.view_is c.self.invariant)).view }
