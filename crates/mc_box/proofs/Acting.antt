-- What an event that takes nothing answers: the step was made, or nothing changed.
use Rattle.std.proofs.Common.{◌≡◌, ℕ, ◌+◌, ◌*◌, ◌≤◌, List, None, Ok, Err, Result, length, ap, sym, ◌∙◌, subst, arith, length-append}
use Rattle.std.specs.Result.{OnErr, OnOk}
use Rattle.mc_lane.specs.Queue.{Queue}
use Rattle.mc_signal.specs.declared.Signal.{Signal}
use Rattle.mc_box.specs.BoxEvents.{Appends, box_event}
use Rattle.mc_box.specs.BoxSound.{IsSoundBox}
use Rattle.mc_box.specs.Boxes.{BoxState}
use Rattle.mc_box.specs.declared.event.Event.{Event}
use Rattle.mc_box.proofs.Events.{event_keeps_sound, event_sends_twice}

pub act_sound : {A E : Type 0} (result : Result A E) (old new : BoxState) (event : Event) (before after : Queue (ℕ × Signal)) → IsSoundBox old
    → OnOk result (Appends (box_event old event None) new before.items after.items) → OnErr result ((new ≡ old) × (after ≡ before)) → IsSoundBox new
act_sound (Ok x) old new event before after sound made unchanged = event_keeps_sound old event None (record { sent = made.sent; after = new }) sound made.goes
act_sound (Err e) old new event before after sound made unchanged = subst (λ (b : BoxState). IsSoundBox b) (sym unchanged.0) sound

pub act_few : {A E : Type 0} (result : Result A E) (old new : BoxState) (event : Event) (before after : Queue (ℕ × Signal)) → IsSoundBox old
    → OnOk result (Appends (box_event old event None) new before.items after.items) → OnErr result ((new ≡ old) × (after ≡ before))
    → length after.items ≤ length before.items + 2 * length old.slots
act_few (Ok x) old new event before after sound made unchanged =
    let few : length made.sent ≤ 2 * length old.slots = event_sends_twice old event (record { sent = made.sent; after = new }) sound made.goes in
    let long : length after.items ≡ length before.items + length made.sent = ap (λ (l : List (ℕ × Signal)). length l) made.appended ∙ length-append before.items made.sent in
    omega (arith, few, long)
act_few (Err e) old new event before after sound made unchanged =
    let same : length after.items ≡ length before.items = ap (λ (q : Queue (ℕ × Signal)). length q.items) unchanged.1 in
    omega (arith, same)
