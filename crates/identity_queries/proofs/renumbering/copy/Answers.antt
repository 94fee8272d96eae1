use Rattle.std.proofs.Common.{◌≡◌, ◌∙◌}
use Rattle.std.proofs.lemmas.Result.{IfOk-weaker}
use Rattle.symmetric_sums.specs.Terms.{multiples}
use Rattle.cofactor_log.proofs.Copies.{once}
use Rattle.identity_queries.proofs.renumbering.copy.Goals as goal

pub returns : goal.returns
returns c =
    IfOk-weaker c.scaled.result (λ sum. sum ≡ multiples c.args.field 1 c.args.sum.now) (λ sum. sum ≡ c.args.sum.now)
    (λ sum e. e ∙ once c.args.field c.args.sum.now c.requires.residues) c.scaled.ensures.terms
