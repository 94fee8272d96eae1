use Rattle.std.proofs.Common.{refl}
use Rattle.reduction_rows.proofs.ShelvedLists.{held_tail}
use Rattle.reduction_rows.proofs.elements.insert_behind.Goals as goal

pub element_of-requires : goal.element_of-requires
element_of-requires c = record { held = held_tail c.store.result.now c.args.shelf.now.trees c.args.ids.now c.args.ids.now c.store.ensures.store refl c.requires.held }
