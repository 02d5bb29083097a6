-- The functions of the slot and its table are one.
use Rattle.std.proofs.Common.{◌≡◌, Option, Some, arith}
use Rattle.std.proofs.lemmas.Grind.{common_steps}
use Rattle.mc_signal.specs.declared.Signal.{Signal}
use Rattle.mc_slot.specs.Moves.{slot_take, slot_send}
use Rattle.mc_slot.specs.MoveTable.{MaySend, Takes, SendsByTable, TakesByTable}
use Rattle.mc_slot.specs.declared.Slot.{Slot}

taken_to_table : (slot : Slot) (signal : Signal) (answer : Option Signal) (after : Slot)
    → slot_take slot signal ≡ Some record { answer = answer; after = after } → Takes slot signal answer after
taken_to_table slot signal answer after e = grind (arith, common_steps)

taken_from_table : (slot : Slot) (signal : Signal) (answer : Option Signal) (after : Slot)
    → Takes slot signal answer after → slot_take slot signal ≡ Some record { answer = answer; after = after }
taken_from_table slot signal answer after takes = grind (arith, common_steps)

sent_to_table : (slot : Slot) (signal : Signal) (after : Slot) → slot_send slot signal ≡ Some after → MaySend slot signal after
sent_to_table slot signal after e = grind (arith, common_steps)

sent_from_table : (slot : Slot) (signal : Signal) (after : Slot) → MaySend slot signal after → slot_send slot signal ≡ Some after
sent_from_table slot signal after sends = grind (arith, common_steps)

pub takes_by_table : TakesByTable
takes_by_table slot signal answer after = (taken_to_table slot signal answer after, taken_from_table slot signal answer after)

pub sends_by_table : SendsByTable
sends_by_table slot signal after = (sent_to_table slot signal after, sent_from_table slot signal after)
