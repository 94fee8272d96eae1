use Rattle.std.proofs.Common.{◌∙◌, sym, ap, rules}
use Rattle.std.proofs.lemmas.List.Sorted.{answers_always}
use Rattle.operad_ideals.specs.Sorting as plain
use Rattle.operad_ideals.proofs.SortedLists.{sorted-permutation}
use Rattle.symmetric_trees.specs.Generators.{kind_of}
use Rattle.symmetric_trees.proofs.parts.sort_part.Goals as goal

pub returns-in-Sym-clause-order : goal.returns-in-Sym-clause-order
returns-in-Sym-clause-order g c =
    sorted-permutation g.T.Keyed.key_of c.args.items.now c.sort_unstable_by_key.new.self c.sort_unstable_by_key.ensures.permutation
    (c.sort_unstable_by_key.ensures.sorted g.T.Keyed.key_of (answers_always _ _ _ (λ f a r k h. search rules))) c.requires
    ∙ ap (λ k. plain.sort_part g.T.Keyed.key_of (kind_of k) c.args.items.now) (sym c.in-Sym.is)

pub returns-in-Alt-clause-order : goal.returns-in-Alt-clause-order
returns-in-Alt-clause-order g c =
    sorted-permutation g.T.Keyed.key_of c.args.items.now c.sort_unstable_by_key-in-Alt.new.self c.sort_unstable_by_key-in-Alt.ensures.permutation
    (c.sort_unstable_by_key-in-Alt.ensures.sorted g.T.Keyed.key_of (answers_always _ _ _ (λ f a r k h. search rules))) c.requires
    ∙ ap (λ k. plain.sort_part g.T.Keyed.key_of (kind_of k) c.args.items.now) (sym c.in-Alt.is)
