use Rattle.std.proofs.Common.{◌≡◌, ◌<◌, ◌↔◌, IsTrue, IfOk, sym, subst, arith, length, ℕ, List}
use Rattle.labelled_trees.specs.Trees.{Tree}
use Rattle.symmetric_trees.specs.Generators.{parts_at}
use Rattle.symmetric_sums.specs.Terms.{terms_of}
use Rattle.operad_ideals.specs.Collected.{HaveOneForm}
use Rattle.certificate_check.specs.Blocks.{last_element}
use Rattle.certificate_check.proofs.HeldSteps.{last-at}
use Rattle.certificate_check.proofs.checking.is_wanted.Goals as goal

pub returns-in-len1-up : goal.returns-in-len1-up
returns-in-len1-up c =
    let some : 0 < length c.args.steps.now = omega (arith, c.in-len1-up.len_at_least) in
    let last : last_element c.args.steps.now ≡ terms_of c.last-item.result.element = last-at c.args.steps.now c.last-item.result some c.last-item.is in
    let d = c.args.document.now in
    subst (λ (e : List (ℕ × Tree ℕ)). IfOk c.have_one_form-in-len1-up.result (λ wanted. IsTrue wanted ↔ HaveOneForm d.field (parts_at d.gens) (terms_of c.args.want.now) e)) (sym last) c.have_one_form-in-len1-up.ensures.exact
