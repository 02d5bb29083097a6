-- The turn of an end, made twice, sends nothing the second time.
use Rattle.std.proofs.Common.{◌≡◌, Option, Some, None, Bool, true, false, [], IsSome, refl, arith}
use Rattle.std.proofs.lemmas.Grind.{common_steps}
use Rattle.std.specs.Option.{option_eq}
use Rattle.mc_signal.specs.Choice.{choose}
use Rattle.mc_signal.specs.Same.{is_same_descriptor, is_same_selector}
use Rattle.mc_signal.specs.declared.Descriptor.{Descriptor}
use Rattle.mc_signal.specs.declared.Sender.{Sender}
use Rattle.mc_signal.proofs.Equal.{descriptor_refl, selector_refl}
use Rattle.mc_slot.specs.EndTurn.{end_turn, live_turn}
use Rattle.mc_slot.specs.Moves.{slot_send_all}
use Rattle.mc_slot.specs.Tunnel.{Kept}
use Rattle.mc_slot.specs.declared.Goal.{Goal}
use Rattle.mc_slot.specs.declared.Slot.{Slot}
use Rattle.mc_slot.specs.declared.State.{State}
use Rattle.mc_slot.specs.declared.State.TheVariants.{Closed, Opening, Opened, Flowing, Closing}

-- a closing end waits for its closeack
rests_closing : (goal : Goal) (slot after : Slot) (pushed : Bool) (own : Descriptor) (me : Sender)
    → slot.state ≡ Closing → slot_send_all slot (end_turn goal slot pushed own me) ≡ Some after → end_turn goal after false own me ≡ []
rests_closing goal slot after pushed own me is goes = grind (arith, common_steps)

-- a closed end that opens waits, and the others do nothing
rests_closed : (goal : Goal) (slot after : Slot) (pushed : Bool) (own : Descriptor) (me : Sender)
    → slot.state ≡ Closed → slot_send_all slot (end_turn goal slot pushed own me) ≡ Some after → end_turn goal after false own me ≡ []
rests_closed goal slot after pushed own me is goes = grind (arith, common_steps)

-- an opening end waits, or closes
rests_opening : (goal : Goal) (slot after : Slot) (pushed : Bool) (own : Descriptor) (me : Sender)
    → slot.state ≡ Opening → slot_send_all slot (end_turn goal slot pushed own me) ≡ Some after → end_turn goal after false own me ≡ []
rests_opening goal slot after pushed own me is goes = grind (arith, common_steps)

-- an opened end has answered what it got, or closes
rests_opened : (goal : Goal) (slot after : Slot) (pushed : Bool) (own : Descriptor) (me : Sender)
    → slot.state ≡ Opened → IsSome slot.got → slot_send_all slot (end_turn goal slot pushed own me) ≡ Some after → end_turn goal after false own me ≡ []
rests_opened goal slot after pushed own me is got goes = grind (arith, common_steps, descriptor_refl, selector_refl)

-- a flowing end that doesn't close, by what differs
lives_on : (same_sent same_choice : Bool) (slot after : Slot) (got own : Descriptor) (me : Sender)
    → slot.state ≡ Flowing → slot.got ≡ Some got
    → option_eq is_same_descriptor slot.sent (Some own) ≡ same_sent
    → option_eq is_same_selector slot.sel_out (Some (choose got me)) ≡ same_choice
    → slot_send_all slot (live_turn Flowing slot own me) ≡ Some after → live_turn after.state after own me ≡ []
lives_on true true slot after got own me is had s c goes = grind (arith, common_steps)
lives_on true false slot after got own me is had s c goes = grind (arith, common_steps, descriptor_refl, selector_refl)
lives_on false true slot after got own me is had s c goes = grind (arith, common_steps, descriptor_refl, selector_refl)
lives_on false false slot after got own me is had s c goes = grind (arith, common_steps, descriptor_refl, selector_refl)

-- a flowing end, by what it got
flowing_with : (heard : Option Descriptor) (goal : Goal) (slot after : Slot) (pushed : Bool) (own : Descriptor) (me : Sender)
    → slot.state ≡ Flowing → slot.got ≡ heard → IsSome heard → slot_send_all slot (end_turn goal slot pushed own me) ≡ Some after → end_turn goal after false own me ≡ []
flowing_with None goal slot after pushed own me is had got goes = cc
flowing_with (Some d) goal slot after pushed own me is had got goes =
    let quiet : slot_send_all slot (live_turn Flowing slot own me) ≡ Some after → live_turn after.state after own me ≡ [] = lives_on _ _ slot after d own me is had refl refl in
    grind (arith, common_steps)

-- a flowing end has described and selected anew, or closes
rests_flowing : (goal : Goal) (slot after : Slot) (pushed : Bool) (own : Descriptor) (me : Sender)
    → slot.state ≡ Flowing → IsSome slot.got → slot_send_all slot (end_turn goal slot pushed own me) ≡ Some after → end_turn goal after false own me ≡ []
rests_flowing goal slot after pushed own me is got goes = flowing_with slot.got goal slot after pushed own me is refl got goes

-- by the state
pub rests_kept : (state : State) (goal : Goal) (slot after : Slot) (pushed : Bool) (own : Descriptor) (me : Sender)
    → slot.state ≡ state → Kept slot → slot_send_all slot (end_turn goal slot pushed own me) ≡ Some after → end_turn goal after false own me ≡ []
rests_kept Closed goal slot after pushed own me is kept goes = rests_closed goal slot after pushed own me is goes
rests_kept Opening goal slot after pushed own me is kept goes = rests_opening goal slot after pushed own me is goes
rests_kept Opened goal slot after pushed own me is kept goes = rests_opened goal slot after pushed own me is (grind (arith)) goes
rests_kept Flowing goal slot after pushed own me is kept goes = rests_flowing goal slot after pushed own me is (grind (arith)) goes
rests_kept Closing goal slot after pushed own me is kept goes = rests_closing goal slot after pushed own me is goes
