use Rattle.std.specs.Prelude.{IfOk}
use Rattle.std.proofs.Common.{Result, Ok, Err}
use Rattle.shuffle_sums.proofs.RisingTrees.{trees_rise}
use Rattle.shuffle_sums.proofs.sorting.sorted.Goals as goal

if_both : {X E : Type 0} (r : Result X E) (P Q R : X → Type 0) → ((x : X) → P x → Q x → R x) → IfOk r P → IfOk r Q → IfOk r R
if_both (Ok x) P Q R f p q = f x p q
if_both (Err e) P Q R f p q = q

pub returns-clause-rising : goal.returns-clause-rising
returns-clause-rising g c = if_both c.sort_blocks.result _ _ _ (λ made each up. trees_rise c.args.store.now c.args.ids.now (g.O.TreeOrder.weights c.args.order.now) g.O.TreeOrder.by_keys
    (g.O.TreeOrder.block c.args.order.now) (g.met.O.TreeOrder.blocks_compare c.args.order.now) (g.met.O.TreeOrder.is_order c.args.order.now) c.requires.trees c.requires.distinct
    c.in_ok-blocks.ensures.store c.in_ok-blocks.blocks made.items c.in_ok-blocks.ensures.blocks each up) c.sort_blocks.ensures.each c.sort_blocks.ensures.sorted
