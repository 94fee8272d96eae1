use Rattle.std.proofs.Common.{rules, arith}
use Rattle.std.specs.Ordering.{is_lt}
use Rattle.std.proofs.lemmas.List.Sorted.{answers_always, ranks_by, sorted_far, IsStrictWeakOrder-flip}
use Rattle.labelled_trees.specs.Meaning.{tree_of}
use Rattle.operad_ideals.specs.SpellingOrder.{order}
use Rattle.operad_ideals.proofs.TreeOrder.{total_order}
use Rattle.symmetric_sums.specs.Collecting.{NotBefore}
use Rattle.symmetric_sums.specs.declared.term.Term.{Term}
use Rattle.operad_ideals.proofs.LastOnes.{pairs_from_AllPairs}
use Rattle.symmetric_sums.proofs.collecting.sort_from_last.Goals as goal

pub returns-clause-order : goal.returns-clause-order
returns-clause-order c =
    let weak = IsStrictWeakOrder-flip (λ (x y : Term). is_lt (order (tree_of x.tree) (tree_of y.tree))) (ranks_by total_order (λ (x : Term). tree_of x.tree)) in
    pairs_from_AllPairs NotBefore c.sort_unstable_by.new.self
    (λ i j d l m. sorted_far (λ (x y : Term). is_lt (order (tree_of y.tree) (tree_of x.tree))) weak c.sort_unstable_by.new.self
    (c.sort_unstable_by.ensures.sorted (λ (x y : Term). is_lt (order (tree_of y.tree) (tree_of x.tree))) weak (answers_always _ _ _ (λ f a r g h. search rules))) i j d (omega arith) m)
