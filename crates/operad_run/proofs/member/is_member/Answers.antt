use Rattle.std.proofs.Common.{[], ◌∷◌, string_bytes, ap, sym, ◌∙◌, get_or}
use Rattle.operad_run.proofs.Words.{one_word}
use Rattle.operad_run.proofs.member.is_member.Goals as goal

pub returns-in-len1 : goal.returns-in-len1
returns-in-len1 c =
    let one = one_word string_bytes c.args.words.now c.command-item.result c.in-len1.len_at_least c.in-len1.len_below c.command-item.is in (
      λ t. one ∙ ap (λ w. w ∷ []) (sym c.as_str.ensures.value ∙ c.is_same.ensures.0 t),
      λ e. c.is_same.ensures.1 (c.as_str.ensures.value ∙ ap (λ ws. get_or ws 0 []) (sym one ∙ e)),
    )
