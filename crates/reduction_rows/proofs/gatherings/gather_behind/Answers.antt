use Rattle.std.proofs.Common.{refl}
use Rattle.reduction_rows.proofs.ShelvedLists.{held_tail}
use Rattle.reduction_rows.proofs.gatherings.gather_behind.Goals as goal

pub lone_element-requires : goal.lone_element-requires
lone_element-requires c = record { held = held_tail c.store.result.now c.args.shelf.now.trees c.args.ids.now c.args.ids.now c.store.ensures.store refl c.requires.held }
