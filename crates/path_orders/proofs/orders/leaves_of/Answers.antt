use Rattle.path_orders.proofs.orders.leaves_of.Goals as goal

pub returns-in-None : goal.returns-in-None
returns-in-None c = absurd (c.in-None.ensures.none c.requires.0 c.requires.1)
