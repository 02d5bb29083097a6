use Rattle.mc_ladder_svg.proofs.mark.put_command.Goals as goal

pub returns : goal.returns
returns c =
    rw (c.deref.ensures.value, c.in_ok-words.ensures, c.box_word-name.ensures.name, c.command_class-class.ensures, c.words_side-side.ensures, c.mark_of-mark.ensures) at c.put_command_by.ensures
