use Rattle.std.proofs.Common.{◌≡◌, ◌∙◌, arith, subst, refl}
use Rattle.std.specs.List.{All}
use Rattle.std.proofs.lemmas.List.{take_all}
use Rattle.std.proofs.lemmas.List.Elements.{All-more}
use Rattle.labelled_trees.specs.Leaves.{occurs}
use Rattle.labelled_trees.specs.Meaning.{tree_of}
use Rattle.symmetric_sums.proofs.Expansions.{element_arity-is}
use Rattle.symmetric_sums.proofs.expanding.has_place.Goals as goal

pub returns-then-len-arity : goal.returns-then-len-arity
returns-then-len-arity c = record {
  place = (
    λ e. absurd cc,
    λ h.
        let same = element_arity-is c.args.element.now c.in-Some.arity c.in-Some.ensures.arity in
        absurd (omega (arith, h.as_many, same, c.len.ensures, c.if-len-arity.true)),
  );
  arity = λ e. absurd cc;
}

pub loop-input-preserved : goal.loop-input-preserved
loop-input-preserved c =
    let none : occurs 0 (tree_of c.input-item.result) ≡ 0 = omega (arith, c.holes-in-loop-input.ensures, c.if-holes-ne0.false) in
    All-more (λ t. occurs 0 (tree_of t) ≡ 0) c.as_slice-input-items.result.now c.loop-input.input-index c.input-item.result c.loop-input-test.true c.loop-input.invariant
    (subst (λ t. occurs 0 (tree_of t) ≡ 0) c.input-item.is none)

pub returns-clause-place : goal.returns-clause-place
returns-clause-place c = (
  λ e.
      let same = element_arity-is c.args.element.now c.in-Some.arity c.in-Some.ensures.arity in
      let all = take_all c.loop-input.input-index c.as_slice-input-items.result.now c.loop-input-test.false ∙ c.as_slice-input-items.ensures in
      record {
        some = (c.in-Some.ensures.arity.numbered c.in-Some.arity refl).0;
        as_many = omega (arith, same, c.len.ensures, c.if-len-arity.false);
        is_context = omega (arith, c.holes.ensures, c.if-holes-ne1.false);
        no_zero = subst (All (λ t. occurs 0 (tree_of t) ≡ 0)) all c.loop-input.invariant;
      },
  λ h. refl,
)
