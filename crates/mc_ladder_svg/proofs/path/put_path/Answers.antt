use Rattle.mc_ladder_svg.proofs.path.put_path.Goals as goal

pub returns : goal.returns
returns c = rw (c.deref.ensures.value, c.in_ok-stops.ensures, c.ends_of-ends.ensures) at c.put_between.ensures
