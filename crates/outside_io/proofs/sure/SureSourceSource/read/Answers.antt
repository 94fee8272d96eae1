use Rattle.std.proofs.Common.{◌≡◌, ◌≤◌, ◌-◌, ◌++◌, ◌∙◌, ap, sym, length, take, drop, arith}
use Rattle.std.proofs.lemmas.Grind.{common_steps}
use Rattle.std.proofs.lemmas.List.{drop-drop}
use Rattle.outside_io.proofs.Runs.{front-++-drop, take-to_end}
use Rattle.outside_io.proofs.sure.SureSourceSource.read.Goals as goal

pub returns-clause-bytes : goal.returns-clause-bytes
returns-clause-bytes c =
    let at = c.self.inside.at in
    let items = c.self.inside.bytes.items in
    let count = c.give-count.result in
    let rest : take (length c.deref.result.now - at) (drop at c.deref.result.now) ≡ drop at items = take-to_end at c.deref.result.now ∙ ap (drop at) c.deref.ensures.value in
    let filled = c.give-count.ensures.given ∙ ap (λ t. take count t ++ drop count c.args.buf.now) rest in
    let within : count ≤ length (drop at items) = grind (arith, common_steps) in (
      sym (ap (λ s. s.left) c.self.view_is) ∙ front-++-drop count (drop at items) (drop count c.args.buf.now) c.give-count.new.buf within filled
          ∙ ap (λ t. take count c.give-count.new.buf ++ t) (drop-drop count at items),
      λ none some. grind (arith, common_steps),
    )
