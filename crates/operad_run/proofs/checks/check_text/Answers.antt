use Rattle.std.proofs.Common.{◌++◌, inl, inr, ap, codes, subst, ◌∙◌}
use Rattle.std.specs.Fmt.{decimal}
use Rattle.std.specs.Option.{MatchOption}
use Rattle.std.specs.List.{All}
use Rattle.presentation_text.specs.Presentations as documents
use Rattle.certificate_text.specs.Tails as blocks
use Rattle.operad_answers.specs.Parts.{line}
use Rattle.operad_answers.specs.Verdicts.{Holds}
use Rattle.operad_run.specs.CheckedTexts.{IsRefusedBy}
use Rattle.operad_run.proofs.CheckedTexts.{accepted}
use Rattle.operad_run.proofs.checks.check_text.Goals as goal

pub returns-in-Err-At : goal.returns-in-Err-At
returns-in-Err-At c =
    let fault = subst (documents.IsTextRefused c.args.bytes.now) c.in-Err-At.field-0-is c.in-Err-At.ensures.document in
    record { contents = (c.in-Err-At.fail.line, c.in-Err-At.fail.kind, inl fault, c.in_ok-fault_text-in-Err-At.ensures) }

pub returns-in-Err-At-read_blocks : goal.returns-in-Err-At-read_blocks
returns-in-Err-At-read_blocks c =
    let fault = subst (blocks.IsTailRefused c.args.bytes.now c.in-Ok.document) c.in-Err-At-read_blocks.field-0-is c.in-Err-At-read_blocks.ensures.blocks in
    record { contents = (c.in-Err-At-read_blocks.fail.line, c.in-Err-At-read_blocks.fail.kind, inr (c.in-Ok.document, c.in-Ok.ensures.document, fault), c.in_ok-fault_text-in-Err-At-read_blocks.ensures) }

pub returns : goal.returns
returns c =
    let holds = subst (λ found. MatchOption found (All (Holds c.in-Ok.document) c.as_slice.result.now) (IsRefusedBy c.in-Ok.document c.as_slice.result.now)) c.in-None.is c.in_ok-refusal.ensures in
    record {
      contents = accepted c.args.bytes.now c.in-Ok.document c.in-Ok-read_blocks.blocks c.in_ok-accepted_text-in-None.field-0.items c.in-Ok.ensures.document c.in-Ok.ensures.formed c.in-Ok-read_blocks.ensures.blocks c.in-Ok-read_blocks.ensures.writable
          (subst (All (Holds c.in-Ok.document)) c.as_slice.ensures holds)
          (c.in_ok-accepted_text-in-None.ensures ∙ ap (λ n. line (codes "accepted " ++ decimal n)) c.len.ensures);
    }
