use Rattle.std.proofs.Common.{◌∙◌, ap, sym, arith, ◌-◌, map, ◌<◌, ◌≤◌, length}
use Rattle.symmetric_trees.specs.Generators.{part_of}
use Rattle.symmetric_trees.proofs.Tables.{parts_at-held}
use Rattle.symmetric_sums.specs.Instances.{exchange_sign}
use Rattle.symmetric_sums.proofs.SymmetryRules.{rule_sign-at, rule_sign-past}
use Rattle.symmetric_sums.proofs.symmetry.rule_sign.Goals as goal

pub returns-then-generator-len : goal.returns-then-generator-len
returns-then-generator-len c =
    let past : length c.args.table.now ≤ c.args.generator = omega arith in
    rule_sign-past c.args.table.now c.args.generator c.args.at past

pub returns : goal.returns
returns c =
    let positive : 0 < c.args.at = omega arith in
    c.exchange_sign.ensures
    ∙ ap (λ ps. exchange_sign ps (c.args.at - 1)) (ap (map part_of) c.as_slice.ensures ∙ sym (parts_at-held c.args.table.now c.args.generator c.get.result.now c.get.ensures.found))
    ∙ sym (rule_sign-at c.args.table.now c.args.generator c.args.at positive)
