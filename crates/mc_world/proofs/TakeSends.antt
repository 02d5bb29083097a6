-- By which slots a box sends: in a Take by its own, and over a link by its partner; in a retry by its own.
use Rattle.std.proofs.Common.{◌≡◌, ◌<◌, None, Option, Result, Ok, Err, OnOk, ◌++◌, ◌==◌, ◌⊎◌, inl, inr, if◌then◌else◌, ℕ, zero, suc, Bool, true, false, Some, List, [], ◌∷◌, length, get_or, ap, sym, ◌∙◌, subst, arith}
use Rattle.std.specs.List.{slice_get}
use Rattle.std.specs.Result.{is_err}
use Rattle.std.proofs.lemmas.Bool.{cases_eq}
use Rattle.std.proofs.lemmas.Grind.{common_steps}
use Rattle.mc_signal.specs.declared.Signal.{Signal}
use Rattle.mc_slot.specs.declared.SlotGoal.{SlotGoal}
use Rattle.mc_slot.specs.declared.SlotGoal.TheVariants.{End, Link}
use Rattle.mc_box.specs.Acting.{sent_by}
use Rattle.mc_box.specs.BoxEvents.{Appends, BoxStep, box_event}
use Rattle.mc_box.specs.BoxSound.{IsSoundBox}
use Rattle.mc_box.specs.Boxes.{BoxState, goal_at}
use Rattle.mc_box.specs.declared.event.Event.{Event}
use Rattle.mc_box.specs.declared.event.Event.TheVariants.{Take, Set, Media, Tell, Retry, Shift}
use Rattle.mc_box.proofs.TakeTurns.{TookBy, retry_turned, take_turned}
use Rattle.mc_model.specs.Worlds.{far}
use Rattle.mc_world.specs.Lanes.{HasRoom, HasRoomFrom, lane_by, numbers_of}
use Rattle.mc_world.specs.Making.{IsBeside}
use Rattle.mc_world.specs.Senders.{AreSenders, MaySendBy}
use Rattle.mc_world.specs.declared.lanes.Senders.{Senders}
use Rattle.mc_world.specs.declared.topology.Topology.{Topology}
use Rattle.mc_world.proofs.LaneChanges.{Lane}

-- what a slot sends of the rest it sends in all
pub more_by : (here : Bool) (signal : Signal) (rest : List Signal) → (rest ≡ [] → ⊥) → (if here then signal ∷ rest else rest) ≡ [] → ⊥
more_by true signal rest some none = absurd (cc)
more_by false signal rest some none = some none

-- and a sending is one of its slot's
pub first_by : (here : Bool) (signal : Signal) (rest : List Signal) → here ≡ true → (if here then signal ∷ rest else rest) ≡ [] → ⊥
first_by true signal rest is none = absurd (cc)
first_by false signal rest is none = absurd (cc)

pub self_test : (a : ℕ) → (a == a) ≡ true
self_test a = grind (arith, common_steps)

some_sent : (sent : List (ℕ × Signal)) (k : ℕ) (d : ℕ × Signal) → k < length sent → sent_by (get_or sent k d).0 sent ≡ [] → ⊥
some_sent [] k d below = absurd (omega arith)
some_sent (sending ∷ rest) zero d below = first_by (sending.0 == sending.0) sending.1 (sent_by sending.0 rest) (self_test sending.0)
some_sent (sending ∷ rest) (suc k) d below = more_by (sending.0 == (get_or rest k d).0) sending.1 (sent_by (get_or rest k d).0 rest) (some_sent rest k d (omega arith))

-- a slot that sends is the one that takes, or its partner
sender_by : (goal : SlotGoal) (box : BoxState) (local other : ℕ) (signal : Signal) (step : BoxStep) → TookBy goal box local signal step → (sent_by other step.sent ≡ [] → ⊥) → (other ≡ local) ⊎ (goal ≡ Link other)
sender_by (End goal) box local other signal step took some = elim (cases_eq other local) [
  | inl same ↦ inl same
  | inr apart ↦ absurd (some (took.others other apart).sends)
]
sender_by (Link partner) box local other signal step took some = elim (cases_eq other local) [
  | inl same ↦ inl same
  | inr apart ↦ elim (cases_eq other partner) [
    | inl mate ↦ inr (ap Link (sym mate))
    | inr third ↦ absurd (some (took.others other apart third).sends)
  ]
]

-- so room in the two lanes away from these is room for all that a Take sends
pub room_by : (topology : Topology) (lanes : List Lane) (who : ℕ) (box : BoxState) (senders : Senders) (most : ℕ) (signal : Signal) (step : BoxStep) → IsSoundBox box → box_event box (Take senders.own.0) (Some signal) ≡ Some step
    → AreSenders topology who senders → IsBeside topology who box senders → HasRoom lanes (lane_by topology (far senders.own.1)) most → HasRoom lanes (lane_by topology (far senders.partner.1)) most
    → HasRoomFrom lanes topology who step.sent most
room_by topology lanes who box senders most signal step sound goes are beside own mate k d below s at =
    let other : ℕ = (get_or step.sent k d).0 in
    elim (sender_by (goal_at box senders.own.0) box senders.own.0 other signal step (take_turned box senders.own.0 signal step sound goes) (some_sent step.sent k d below)) [
      | inl same ↦
          let slot_is : senders.own.1 ≡ s = let twice : Some senders.own.1 ≡ Some s = sym are.own ∙ (ap (λ (n : ℕ). slice_get (numbers_of topology who) n) (sym same) ∙ at) in cc in
          subst (λ (t : ℕ). HasRoom lanes (lane_by topology (far t)) most) slot_is own
      | inr goal ↦ subst (λ (t : ℕ). HasRoom lanes (lane_by topology (far t)) most) (beside other s goal at) mate
    ]

-- what an event sends goes by slots by which it may send
pub may_send : (box : BoxState) (event : Event) (step : BoxStep) (k : ℕ) (d : ℕ × Signal) → box_event box event None ≡ Some step → k < length step.sent → MaySendBy event (get_or step.sent k d).0
may_send box (Retry local) step k d goes below = elim (cases_eq (get_or step.sent k d).0 local) [
  | inl same ↦ same
  | inr apart ↦ absurd (some_sent step.sent k d below ((retry_turned box local step goes).turned.others (get_or step.sent k d).0 apart).sends)
]
may_send box (Take local) step k d goes below = tt
may_send box (Set change) step k d goes below = tt
may_send box (Media change) step k d goes below = tt
may_send box (Tell word) step k d goes below = tt
may_send box Shift step k d goes below = tt

-- what holds where a result is no error holds of one that isn't
pub ok_holds : {A E : Type 0} (result : Result A E) (holds : Type 0) → is_err result ≡ false → OnOk result holds → holds
ok_holds (Ok value) holds fine there = there
ok_holds (Err error) holds fine there = absurd (cc)

-- what a box appends to an empty queue is what it sends
pub made_appended : (made : Option BoxStep) (after : BoxState) (old items : List (ℕ × Signal)) → old ≡ [] → Appends made after old items → made ≡ Some (record { sent = items; after = after })
made_appended made after old items none is = is.goes ∙ ap (λ (sent : List (ℕ × Signal)). Some (record { sent = sent; after = after })) (sym (is.appended ∙ ap (λ (front : List (ℕ × Signal)). front ++ is.sent) none))
