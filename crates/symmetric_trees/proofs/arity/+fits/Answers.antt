use Rattle.std.proofs.Common.{◌≡◌, ◌∙◌, sym, subst, take, refl}
use Rattle.std.proofs.lemmas.List.{take_all}
use Rattle.std.proofs.lemmas.List.Elements.{All-from_recursion}
use Rattle.std.specs.List.{AllByRecursion}
use Rattle.operad_ideals.specs.Laws.{arity}
use Rattle.labelled_trees.specs.Meaning.{tree_of}
use Rattle.labelled_trees.proofs.ProgramTrees.{fits-node, fits-inputs}
use Rattle.symmetric_trees.specs.Generators.{parts_at}
use Rattle.symmetric_trees.specs.Trees.{Fits}
use Rattle.symmetric_trees.proofs.arity.+fits.Goals as goal

pub returns-then-not-has_arity : goal.returns-then-not-has_arity
returns-then-not-has_arity t c = (
  λ e. absurd cc,
  λ h.
      let f = fits-inputs (arity (parts_at c.args.table.now)) c.in-Node.generator c.in-Node.inputs (subst (λ u. Fits c.args.table.now (tree_of u)) c.in-Node.is h) in
      c.if-not-has_arity.ensures.1 (f.0, c.len.ensures ∙ f.1),
)

pub returns-then-not-fits : goal.returns-then-not-fits
returns-then-not-fits t c = (
  λ e. absurd cc,
  λ h.
      let f = fits-inputs (arity (parts_at c.args.table.now)) c.in-Node.generator c.in-Node.inputs (subst (λ u. Fits c.args.table.now (tree_of u)) c.in-Node.is h) in
      let all = All-from_recursion (λ u. Fits c.args.table.now (tree_of u)) c.as_slice-input-items.result.now
      (subst (AllByRecursion (λ u. Fits c.args.table.now (tree_of u))) (sym c.as_slice-input-items.ensures) f.2) in
      c.if-not-fits.ensures.1 (subst (λ u. Fits c.args.table.now (tree_of u)) (sym c.input-item.is) (all c.loop-input.input-index c.input-item.result c.loop-input-test.true)),
)

pub returns-after-loop-input : goal.returns-after-loop-input
returns-after-loop-input t c =
    let i = c.loop-input.input-index in
    let all : take i c.as_slice-input-items.result.now ≡ c.in-Node.inputs = take_all i c.as_slice-input-items.result.now c.loop-input-test.false ∙ c.as_slice-input-items.ensures in
    let has = c.if-not-has_arity.ensures.0 refl in (
      λ e. subst (λ u. Fits c.args.table.now (tree_of u)) (sym c.in-Node.is)
          (fits-node (arity (parts_at c.args.table.now)) c.in-Node.generator c.in-Node.inputs has.0 (sym c.len.ensures ∙ has.1)
          (subst (AllByRecursion (λ u. Fits c.args.table.now (tree_of u))) all c.loop-input.invariant)),
      λ h. refl,
    )
