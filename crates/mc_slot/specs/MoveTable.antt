-- The table of the slot, case by case: what each state may send and what it takes. It lists every case, and no other.
use Rattle.std.specs.Prelude.{◌≡◌, ◌↔◌, Option, Some, None, Bool, true, false}
use Rattle.mc_signal.specs.declared.Descriptor.{Descriptor}
use Rattle.mc_signal.specs.declared.Signal.{Signal}
use Rattle.mc_signal.specs.declared.Signal.TheVariants.{Open, Oack, Close, Closeack, Describe, Select}
use Rattle.mc_slot.specs.Moves.{clear, with_state, slot_take, slot_send}
use Rattle.mc_slot.specs.declared.Slot.{Slot}
use Rattle.mc_slot.specs.declared.State.{State}
use Rattle.mc_slot.specs.declared.State.TheVariants.{Closed, Opening, Opened, Flowing, Closing}

-- the signal is no open of another medium
abbrev pub FitsMedium : Slot → Signal → Type 0
FitsMedium slot (Open medium d) = medium ≡ slot.medium
FitsMedium slot signal = Unit {0}

-- in this state old may send the signal, and is new after that
abbrev pub SendsIn : State → Slot → Signal → Slot → Type 0
SendsIn Closed old (Open medium d) new = new ≡ record (clear old Opening) { sent = Some d }
SendsIn Opening old Close new = new ≡ with_state old Closing
SendsIn Opened old (Oack d) new = new ≡ record (with_state old Flowing) { sent = Some d }
SendsIn Opened old Close new = new ≡ with_state old Closing
SendsIn Flowing old (Describe d) new = new ≡ record old { sent = Some d }
SendsIn Flowing old (Select s) new = new ≡ record old { sel_out = Some s }
SendsIn Flowing old Close new = new ≡ with_state old Closing
SendsIn state old signal new = ⊥

-- two opens cross: the initiator's side drops the other's, and the other side yields
abbrev pub Crosses : Bool → Slot → Descriptor → Slot → Type 0
Crosses true old d new = new ≡ old
Crosses false old d new = new ≡ record (clear old Opened) { got = Some d }

-- in this state old takes the signal, gives the answer, and is new after that
abbrev pub TakesIn : State → Slot → Signal → Option Signal → Slot → Type 0
TakesIn Closed old (Open medium d) answer new = (answer ≡ None) × (new ≡ record (clear old Opened) { got = Some d })
TakesIn Opening old (Open medium d) answer new = (answer ≡ None) × Crosses old.initiator old d new
TakesIn Opening old (Oack d) answer new = (answer ≡ None) × (new ≡ record (with_state old Flowing) { got = Some d })
TakesIn Opening old Close answer new = (answer ≡ Some Closeack) × (new ≡ clear old Closed)
TakesIn Opened old Close answer new = (answer ≡ Some Closeack) × (new ≡ clear old Closed)
TakesIn Flowing old (Describe d) answer new = (answer ≡ None) × (new ≡ record old { got = Some d })
TakesIn Flowing old (Select s) answer new = (answer ≡ None) × (new ≡ record old { sel_in = Some s })
TakesIn Flowing old Close answer new = (answer ≡ Some Closeack) × (new ≡ clear old Closed)
TakesIn Closing old (Open medium d) answer new = (answer ≡ None) × (new ≡ old)
TakesIn Closing old (Oack d) answer new = (answer ≡ None) × (new ≡ old)
TakesIn Closing old (Describe d) answer new = (answer ≡ None) × (new ≡ old)
TakesIn Closing old (Select s) answer new = (answer ≡ None) × (new ≡ old)
TakesIn Closing old Close answer new = (answer ≡ Some Closeack) × (new ≡ old)
TakesIn Closing old Closeack answer new = (answer ≡ None) × (new ≡ clear old Closed)
TakesIn state old signal answer new = ⊥

-- old may send the signal, and is new after that
abbrev pub MaySend : Slot → Signal → Slot → Type 0
MaySend old signal new = FitsMedium old signal × SendsIn old.state old signal new

-- old takes the signal, gives the answer, and is new after that
abbrev pub Takes : Slot → Signal → Option Signal → Slot → Type 0
Takes old signal answer new = FitsMedium old signal × TakesIn old.state old signal answer new

-- the function of sending and its table are one
abbrev pub SendsByTable : Type 0
SendsByTable =
    (slot : Slot) (signal : Signal) (after : Slot) → (slot_send slot signal ≡ Some after) ↔ MaySend slot signal after

-- the function of taking and its table are one
abbrev pub TakesByTable : Type 0
TakesByTable = (slot : Slot) (signal : Signal) (answer : Option Signal) (after : Slot)
    → (slot_take slot signal ≡ Some record { answer = answer; after = after }) ↔ Takes slot signal answer after
