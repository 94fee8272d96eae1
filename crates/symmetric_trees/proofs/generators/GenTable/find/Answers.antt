use Rattle.std.proofs.Common.{◌≡◌, arith, subst, sym, refl, false, true}
use Rattle.std.proofs.lemmas.Option.{get_or_from_slice_get}
use Rattle.symmetric_trees.specs.Generators.{IsNamed}
use Rattle.symmetric_trees.proofs.Tables.{none_named-more}
use Rattle.symmetric_trees.proofs.generators.GenTable.find.Goals as goal

pub returns-then-is_named-clause-found : goal.returns-then-is_named-clause-found
returns-then-is_named-clause-found c =
    (omega arith, λ d. subst (IsNamed c.args.name.now) (sym (get_or_from_slice_get c.args.self.now c.loop-index.index c.get.result.now d c.get.ensures.found)) (c.if-is_named.ensures.0 refl))

pub loop-index-preserved : goal.loop-index-preserved
loop-index-preserved c =
    none_named-more c.args.self.now c.args.name.now c.loop-index.index c.get.result.now c.get.ensures.found
    (λ e. let none : false ≡ true = c.if-is_named.ensures.1 e in absurd cc) c.loop-index.invariant
