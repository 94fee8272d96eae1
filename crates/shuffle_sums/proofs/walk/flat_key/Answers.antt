use Rattle.std.proofs.Common.{◌∙◌, ◌++◌, ap, length}
use Rattle.labelled_trees.specs.Trees.{leaves}
use Rattle.shuffle_trees.specs.FlatKeys.{flat_row, letters, words_by_number}
use Rattle.tree_store.specs.Stores.{tree_at}
use Rattle.shuffle_sums.proofs.Rooms.{room_at_root}
use Rattle.shuffle_sums.proofs.Spread.{read_words}
use Rattle.shuffle_sums.proofs.walk.flat_key.Goals as goal

pub fill-requires-clause-room : goal.fill-requires-clause-room
fill-requires-clause-room c =
    room_at_root (tree_at c.args.store.now c.args.id) _ _ _ (ap length c.empty.ensures) (ap length c.new-key.ensures.row) (ap length c.new-key.ensures.labels) c.requires.small

pub returns-clause-words : goal.returns-clause-words
returns-clause-words c =
    let t = tree_at c.args.store.now c.args.id in
    read_words (words_by_number c.fill.new.key) (flat_row c.fill.new.key) t (letters c.empty.result) (words_by_number c.new-key.result) c.requires.small c.empty.ensures
    c.new-key.ensures.words c.fill.ensures.words (c.fill.ensures.row ∙ ap (λ l. l ++ leaves t) c.new-key.ensures.row)
