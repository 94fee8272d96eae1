use Rattle.std.proofs.Common.{◌≡◌, ◌<◌, ◌≤◌, ◌-◌, sym, subst, arith, length, get_or}
use Rattle.std.proofs.lemmas.Grind.{common_steps}
use Rattle.symmetric_sums.specs.Terms.{FitsOver}
use Rattle.symmetric_sums.specs.Instances.{IsExpandedTo}
use Rattle.symmetric_sums.proofs.Expansions.{sum_at-found, sum_at-past, nothing-valid}
use Rattle.symmetric_sums.proofs.expanding.expand_numbered.Goals as goal

pub expand_around-requires-clause-element : goal.expand_around-requires-clause-element
expand_around-requires-clause-element c =
    let here : c.args.number - 1 < length c.args.sums.now = grind (arith, common_steps, c.in-Some.ensures.lookup) in
    let is : c.in-Some.element.now ≡ get_or c.args.sums.now (c.args.number - 1) c.in-Some.element.now = grind (arith, common_steps, c.in-Some.ensures.lookup) in
    subst (FitsOver c.args.field c.args.table.now) (sym is) (c.requires.sums (c.args.number - 1) c.in-Some.element.now here)

pub returns-in-Some : goal.returns-in-Some
returns-in-Some c =
    let here : c.args.number - 1 < length c.args.sums.now = grind (arith, common_steps, c.in-Some.ensures.lookup) in
    let is : c.in-Some.element.now ≡ get_or c.args.sums.now (c.args.number - 1) c.in-Some.element.now = grind (arith, common_steps, c.in-Some.ensures.lookup) in
    let positive : 0 < c.args.number = omega (arith, c.if-number-eq0.false) in
    record {
      answer = subst (λ e. IsExpandedTo c.args.field c.args.table.now e c.args.instance.now c.expand_around.result) (sym (sum_at-found c.args.sums.now c.args.number c.in-Some.element.now positive here is)) c.expand_around.ensures.answer;
      residues = c.expand_around.ensures.residues;
      labelled = c.expand_around.ensures.labelled;
    }

pub returns-in-None : goal.returns-in-None
returns-in-None c =
    let past : length c.args.sums.now ≤ c.args.number - 1 = grind (arith, common_steps, c.in-None.ensures.lookup) in
    let positive : 0 < c.args.number = omega (arith, c.if-number-eq0.false) in
    record { answer = nothing-valid c.args.table.now _ c.args.instance.now (sum_at-past c.args.sums.now c.args.number positive past); residues = tt; labelled = tt }
