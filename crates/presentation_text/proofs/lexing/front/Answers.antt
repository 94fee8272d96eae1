use Rattle.std.proofs.Common.{rules, get_or}
use Rattle.presentation_text.specs.Tokens as spec
use Rattle.presentation_text.proofs.TokenLaws.{run_front, letter_goes_on}
use Rattle.presentation_text.proofs.lexing.front.Goals as goal

pub lent_word-requires : goal.lent_word-requires
lent_word-requires c = run_front spec.is_word_byte c.args.rest.now c.word_len-len.result c.in-len1-up.len_at_least (letter_goes_on (get_or c.args.rest.now 0 0) (search rules)) c.word_len-len.ensures

pub numeral-requires : goal.numeral-requires
numeral-requires c = run_front spec.is_digit c.args.rest.now c.digits_len-len.result c.in-len1-up.len_at_least (search rules) c.digits_len-len.ensures
