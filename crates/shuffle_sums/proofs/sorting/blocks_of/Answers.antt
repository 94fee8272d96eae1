use Rattle.std.proofs.Common.{◌≡◌, ◌∙◌, ◌++◌, ◌∷◌, [], ℕ, ◌+◌, ◌<◌, List, length, map, take, get_or, ap, sym}
use mathlib.Core.Path.{ap₂}
use Rattle.std.proofs.lemmas.List.{map-append, take_more}
use Rattle.shuffle_insertions.specs.Keys as spec
use Rattle.path_orders.proofs.Seen.{flat_seen}
use Rattle.tree_store.specs.Stores.{tree_at}
use Rattle.shuffle_sums.proofs.sorting.blocks_of.Goals as goal

-- one list more behind those of the first things
one_more : (f : ℕ → List ℕ) (ids : List ℕ) (k id : ℕ) (before after : List (List ℕ)) (block : List ℕ) → k < length ids → id ≡ get_or ids k id
    → before ≡ map f (take k ids) → block ≡ f id → after ≡ before ++ (block ∷ []) → after ≡ map f (take (k + 1) ids)
one_more f ids k id before after block within is so_far here e =
    e ∙ ap₂ (λ bs b. bs ++ (b ∷ [])) so_far (here ∙ ap f is) ∙ sym (map-append f (take k ids) (get_or ids k id ∷ [])) ∙ ap (map f) (sym (take_more ids k id within))

pub loop-id-preserved : goal.loop-id-preserved
loop-id-preserved g c =
    let block = g.O.TreeOrder.block c.args.order.now in
    let weights = g.O.TreeOrder.weights c.args.order.now in
    let trees = c.args.store.now in
    let t = tree_at trees c.id-item.result in
    record {
      blocks_are = one_more (λ id. block (spec.key weights (tree_at trees id))) c.args.ids.now c.loop-id.id-index c.id-item.result c.loop-id.blocks c.write_block.new.out _ c.loop-id-test.true c.id-item.is
          c.loop-id.invariant.blocks_are (ap block (flat_seen weights t c.flat_key.result c.flat_key.ensures.words c.flat_key.ensures.row c.flat_key.ensures.labels)) c.in_ok-write_block.ensures.written;
      store_is = λ _. c.flat_key.ensures.store;
    }
