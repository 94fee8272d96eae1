use Rattle.reduction_rows.proofs.cones.add_to.Goals as goal

pub returns : goal.returns
returns c = record { cone = let h = c.requires.cone in (h.0, c.add_element.ensures.cone h.0 h.1) }
