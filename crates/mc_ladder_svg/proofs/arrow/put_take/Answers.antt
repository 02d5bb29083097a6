use Rattle.mc_ladder_svg.proofs.arrow.put_take.Goals as goal

pub returns : goal.returns
returns c = rw (c.arrow_of-arrow.ensures, c.signal_class-class.ensures) at c.put_take_by.ensures
