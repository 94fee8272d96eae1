use Rattle.std.proofs.Common.{ℕ, ◌<◌, ◌≡◌, ◌*◌, ◌^◌, ◌∷◌, [], ap, ◌∙◌, sym, arith}
use Rattle.normal_listing.specs.Places.{IsShortWord}
use Rattle.normal_listing.proofs.Opened.{Closes, closes}
use Rattle.normal_listing.proofs.Places.{number_symbol}
use Rattle.normal_listing.proofs.word.SpellingWord.symbol.Goals as goal

-- one symbol is a word
one_symbol : (s : ℕ) → 0 < s → s < 32 → IsShortWord (s ∷ [])
one_symbol s h g = record { few = omega arith; symbols = (record { some = h; small = g }, tt) }

symbol_closes : (s x : ℕ) → x ≡ s → 0 < s → s < 32 → Closes (x * 2 ^ 120) (s ∷ [])
symbol_closes s x e h g = closes (x * 2 ^ 120) (s ∷ []) (one_symbol s h g) (ap (λ n. n * 2 ^ 120) e ∙ sym (number_symbol s))

pub invariant_of-result : goal.invariant_of-result
invariant_of-result c = (symbol_closes c.args.symbol c.from.result c.from.ensures c.requires.some c.requires.small).invariant

pub returns : goal.returns
returns c = record { symbol = (symbol_closes c.args.symbol c.from.result c.from.ensures c.requires.some c.requires.small).view }
