use Rattle.presentation_text.proofs.TokenLaws.{ok_unless, word_is_utf8}
use Rattle.presentation_text.proofs.lexing.lent_word.Goals as goal

pub unwrap-text-requires : goal.unwrap-text-requires
unwrap-text-requires c = ok_unless c.from_utf8.result _ _ c.from_utf8.ensures.cases (λ e h. h.0 (word_is_utf8 c.args.bytes.now c.requires))
