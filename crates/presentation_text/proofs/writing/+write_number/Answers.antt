use Rattle.std.proofs.Common.{arith, ap, ◌∙◌, ◌++◌, ◌∷◌, [], ◌+◌, ◌%◌}
use Rattle.presentation_text.proofs.TreePrinting.{number_long, number_short}
use Rattle.presentation_text.proofs.writing.+write_number.Goals as goal
use Rattle.presentation_text.proofs.writing.+write_number.Goals.{then-number-ge10+in_ok-write_number, else-number-ge10}

pub returns : goal.returns
returns t c = record {
  digits =
      elim c.if-number-ge10.branch [
        | then-number-ge10+in_ok-write_number w ↦ number_long c.args.number c.args.out.now.items c.if-number-ge10.out.items c.push.new.self.items
            (omega arith) w.if-number-ge10.true (ap (λ out. out.items) w.out-is ∙ w.in_ok-write_number.ensures.digits) c.in_ok-push.ensures.items
        | else-number-ge10 w ↦ number_short c.args.number c.args.out.now.items c.push.new.self.items
            (omega arith) (c.in_ok-push.ensures.items ∙ ap (λ out. out.items ++ (48 + c.args.number % 10) ∷ []) w.out-is)
      ];
}
