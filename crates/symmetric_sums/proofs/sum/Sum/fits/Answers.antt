use Rattle.std.proofs.Common.{◌<◌, ◌∙◌, arith, sym, subst, refl, length}
use Rattle.std.specs.List.{All}
use Rattle.std.proofs.lemmas.List.{take_all}
use Rattle.std.proofs.lemmas.List.Elements.{All-more}
use Rattle.labelled_trees.specs.Meaning.{tree_of}
use Rattle.symmetric_trees.specs.Trees.{Fits}
use Rattle.labelled_trees.specs.Labelled.{IsNumbered}
use Rattle.symmetric_sums.specs.Terms.{HaveArity}
use Rattle.symmetric_sums.specs.declared.term.Term.{Term}
use Rattle.labelled_trees.proofs.Numbered.{labelled_of_numbered}
use Rattle.symmetric_sums.proofs.sum.Sum.fits.Goals as goal

pub returns-in_default-arity_of : goal.returns-in_default-arity_of
returns-in_default-arity_of c = record {
  exact = (
    λ e. absurd cc,
    λ h.
        let here : c.loop-term.term-index < length c.args.self.now = subst (λ xs. c.loop-term.term-index < length xs) c.terms-term-items.ensures.terms c.loop-term-test.true in
        let have = (c.in-Some.ensures.arity.numbered c.in-Some.field-0 refl).1 in
        let numbered : IsNumbered c.in-Some.field-0 (tree_of c.term-item.result.tree) =
        subst (λ (x : Term). IsNumbered c.in-Some.field-0 (tree_of x.tree)) (sym c.term-item.is) (subst (HaveArity c.in-Some.field-0) (sym c.terms-term-items.ensures.terms) have c.loop-term.term-index c.term-item.result c.loop-term-test.true) in
        let fits : Fits c.args.table.now (tree_of c.term-item.result.tree) =
        subst (λ (x : Term). Fits c.args.table.now (tree_of x.tree)) (sym c.term-item.is)
        (subst (All (λ (x : Term). Fits c.args.table.now (tree_of x.tree))) (sym c.terms-term-items.ensures.terms) h.trees c.loop-term.term-index c.term-item.result c.loop-term-test.true) in
        absurd (c.in_default-arity_of.ensures.none c.in-Some.field-0 (labelled_of_numbered fits numbered)),
  );
}

pub loop-term-preserved : goal.loop-term-preserved
loop-term-preserved c =
    let small : c.term-item.result.coef < c.args.field = omega (arith, c.prime.ensures.value) in
    record {
      residues =
          All-more (λ (x : Term). x.coef < c.args.field) c.terms-term-items.result.now c.loop-term.term-index c.term-item.result c.loop-term-test.true c.loop-term.invariant.residues
          (subst (λ (x : Term). x.coef < c.args.field) c.term-item.is small);
      fit =
          All-more (λ (x : Term). Fits c.args.table.now (tree_of x.tree)) c.terms-term-items.result.now c.loop-term.term-index c.term-item.result c.loop-term-test.true c.loop-term.invariant.fit
          (subst (λ (x : Term). Fits c.args.table.now (tree_of x.tree)) c.term-item.is c.in-Some-arity_of.ensures.labelled.fits);
    }

pub returns : goal.returns
returns c =
    let all = take_all c.loop-term.term-index c.terms-term-items.result.now c.loop-term-test.false ∙ c.terms-term-items.ensures.terms in
    record {
      exact = (
        λ e. record {
          residues = subst (All (λ (x : Term). x.coef < c.args.field)) all c.loop-term.invariant.residues;
          trees = subst (All (λ (x : Term). Fits c.args.table.now (tree_of x.tree))) all c.loop-term.invariant.fit;
        },
        λ h. refl,
      );
    }
