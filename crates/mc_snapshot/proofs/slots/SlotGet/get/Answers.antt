use Rattle.std.proofs.Common.{Bool, Option, ap}
use Rattle.mc_signal.specs.declared.Descriptor.{Descriptor}
use Rattle.mc_signal.specs.declared.Medium.{Medium}
use Rattle.mc_signal.specs.declared.Selector.{Selector}
use Rattle.mc_slot.specs.declared.Slot.{Slot}
use Rattle.mc_slot.specs.declared.State.{State}
use Rattle.mc_snapshot.proofs.slots.SlotGet.get.Goals as goal

abbrev slot_of : State × (Medium × (Bool × (Option Descriptor × (Option Descriptor × (Option Selector × Option Selector))))) → Slot
slot_of fields = record {
  state = fields.0;
  medium = fields.1.0;
  initiator = fields.1.1.0;
  sent = fields.1.1.1.0;
  got = fields.1.1.1.1.0;
  sel_out = fields.1.1.1.1.1.0;
  sel_in = fields.1.1.1.1.1.1;
}

pub returns-clause-reads : goal.returns-clause-reads
returns-clause-reads c slot more fits form =
    let both = c.in_ok-state.ensures.reads
    (slot.state, (slot.medium, (slot.initiator, (slot.sent, (slot.got, (slot.sel_out, slot.sel_in)))))) more
    (tt, (tt, (tt, (fits.sent, (fits.got, (fits.sel_out, fits.sel_in)))))) form in
    (ap slot_of both.0, both.1)
