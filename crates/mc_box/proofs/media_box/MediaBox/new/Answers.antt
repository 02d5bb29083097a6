use Rattle.mc_box.proofs.NewBoxes.{first_sound}
use Rattle.mc_box.proofs.media_box.MediaBox.new.Goals as goal

pub invariant_of-result : goal.invariant_of-result
invariant_of-result c =
    first_sound _ _ _ _ _ _ _ _ c.requires.few c.requires.address c.requires.program c.in_ok-new.ensures
