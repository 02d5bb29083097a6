use Rattle.mc_ladder_svg.proofs.head.put_head.Goals as goal

pub returns : goal.returns
returns c = rw (c.corner-corner.ensures, c.is_device_at.ensures, c.box_of-who.ensures) at c.put_head_of.ensures
