use Rattle.std.proofs.Common.{refl}
use Rattle.mc_slot_laws.proofs.EndRests.{rests_kept}
use Rattle.mc_slot_laws.proofs.end_rests_after_turn.Goals as goal

pub returns : goal.returns
returns c = λ goal slot after pushed own me kept goes. rests_kept slot.state goal slot after pushed own me refl kept goes
