use Rattle.std.proofs.Common.{ℕ, List, ◌++◌, ◌∷◌, [], take, sym, subst}
use Rattle.labelled_trees.specs.Meaning.{tree_of}
use Rattle.symmetric_trees.specs.Trees.{IsLabelled}
use Rattle.symmetric_sums.specs.Collecting.{AreSpellings}
use Rattle.symmetric_sums.specs.declared.term.Term.{Term}
use Rattle.symmetric_sums.proofs.SpelledTerms.{spellings-push, taken}
use Rattle.symmetric_sums.proofs.collecting.spelled_terms.Goals as goal

pub spelled_term-requires-clause-labelled : goal.spelled_term-requires-clause-labelled
spelled_term-requires-clause-labelled c =
    subst (λ (x : Term). (n : ℕ) × IsLabelled c.args.table.now n (tree_of x.tree)) (sym {A = Term} c.term-item.is) (c.requires.labelled c.loop-term.term-index c.term-item.result c.loop-term-test.true)

pub loop-term-preserved : goal.loop-term-preserved
loop-term-preserved c =
    let more = taken c.args.terms.now c.loop-term.term-index c.term-item.result c.loop-term-test.true c.term-item.is in
    subst (λ (xs : List Term). AreSpellings c.args.field c.args.table.now xs c.push.new.self.items) (sym {A = List Term} more)
    (subst (AreSpellings c.args.field c.args.table.now (take c.loop-term.term-index c.args.terms.now ++ c.term-item.result ∷ [])) (sym {A = List Term} c.in_ok-push.ensures.items)
    (spellings-push c.args.field c.args.table.now (take c.loop-term.term-index c.args.terms.now) c.loop-term.spellings.items c.term-item.result c.in_ok-spelled_term.field-0 c.loop-term.invariant c.in_ok-spelled_term.ensures))
