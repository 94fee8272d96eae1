use Rattle.std.proofs.Common.{◌≡◌, ◌∙◌, ◌<◌, ap, sym, subst, arith}
use Rattle.symmetric_trees.specs.Generators.{parts_at}
use Rattle.symmetric_sums.specs.Terms.{terms_of}
use Rattle.operad_ideals.specs.Collected.{IsCollected}
use Rattle.operad_ideals.proofs.Forms.{one_collected}
use Rattle.symmetric_sums.proofs.comparing.have_one_form.Goals as goal

pub returns : goal.returns
returns c =
    let p = c.args.field in
    let parts = parts_at c.args.table.now in
    let first : terms_of c.terms.result.now ≡ terms_of c.in_ok-form.form = ap terms_of c.terms.ensures.terms in
    let second : terms_of c.terms-2.result.now ≡ terms_of c.in_ok-against.against = ap terms_of c.terms-2.ensures.terms in
    record {
      exact = (
        λ e.
            let same : terms_of c.in_ok-form.form ≡ terms_of c.in_ok-against.against = sym first ∙ c.are_equal.ensures.0 e ∙ second in
            (terms_of c.in_ok-form.form, c.in_ok-form.ensures.collected, subst (IsCollected p parts (terms_of c.args.other.now)) (sym same) c.in_ok-against.ensures.collected),
        λ h.
            let positive : 0 < p = omega (arith, c.prime-prime.ensures.value) in
            let one : terms_of c.in_ok-form.form ≡ h.0 = one_collected p parts (terms_of c.args.one.now) (terms_of c.in_ok-form.form) h.0 positive c.in_ok-form.ensures.collected h.1 in
            let other : terms_of c.in_ok-against.against ≡ h.0 = one_collected p parts (terms_of c.args.other.now) (terms_of c.in_ok-against.against) h.0 positive c.in_ok-against.ensures.collected h.2 in
            c.are_equal.ensures.1 (first ∙ one ∙ sym other ∙ sym second),
      );
    }
