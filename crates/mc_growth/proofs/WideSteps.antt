-- A run of a world is a run of the world that a channel has joined.
use Rattle.std.proofs.Common.{suc, ◌%◌, ◌≡◌, ◌<◌, ◌+◌, ◌*◌, ◌++◌, inl, inr, nat_lt, ℕ, true, false, Option, Some, None, List, [], ◌∷◌, length, position, refl, ap, sym, ◌∙◌, subst, arith}
use Rattle.std.specs.Option.{option_and_then, option_map, unwrap_or}
use Rattle.std.proofs.Math.ListN.{get_or, set}
use Rattle.std.proofs.lemmas.Bool.{cases_eq}
use Rattle.std.proofs.lemmas.List.{get_or-set_same, length-set}
use Rattle.std.proofs.lemmas.List.Concat.{flat_map-append}
use Rattle.std.proofs.lemmas.List.Elements.{All-get_or}
use Rattle.mc_signal.specs.declared.Medium.{Medium}
use Rattle.mc_signal.specs.declared.Signal.{Signal}
use Rattle.mc_box.specs.BoxEvents.{BoxStep, box_event}
use Rattle.mc_box.specs.Boxes.{BoxState, no_box, with_new_slot}
use Rattle.mc_box.specs.declared.event.Event.{Event}
use Rattle.mc_box.specs.declared.event.Event.TheVariants.{Take, Set, Media, Tell, Retry, Shift}
use Rattle.mc_box.specs.declared.event.Turn.{Turn}
use Rattle.mc_box.specs.declared.setup.SlotSetup.{SlotSetup}
use Rattle.mc_model.specs.Sound.{IsSound}
use Rattle.mc_model.specs.Steps.{after_making, after_pop, after_push, after_sends, run, step, step_by, take_at, with_box}
use Rattle.mc_model.specs.Worlds.{ChannelState, WorldState, box_at, far, front, front_for, is_place, lane_of, number, places, places_among, places_within, slot_count, tunnel_of, TunnelPlace}
use Rattle.mc_laws.proofs.ActedWorlds.{far_inside}
use Rattle.mc_laws.proofs.LanesKept.{lane_in}
use Rattle.mc_laws.proofs.Numbers.{box_inside, number_is}
use Rattle.mc_model.specs.Shapes.{HasShape}
use Rattle.mc_laws.proofs.ShapesKept.{run_keeps_shape, step_keeps_shape}
use Rattle.mc_laws.proofs.StepKeeps.{step_keeps_sound}
use Rattle.mc_box.proofs.FromSlots.{event_sends_from_slots}
use Rattle.mc_growth.specs.GrowthLaws.{JoinCommutes}
use Rattle.mc_box.proofs.Options.{if_some, map_some, then_some}
use Rattle.mc_growth.specs.Joins.{MayJoin, away_slot, joined, joining, near_slot}
use Rattle.mc_growth.proofs.Lists.{defaults_added, position_before}
use Rattle.mc_growth.proofs.WideBoxes.{event_widens}
use Rattle.mc_growth.proofs.WideWorlds.{at_else, at_from, at_to, boxes_with, long, pop_widened, push_widened, put_widened, tunnel_wide, widened}

-- each of these sendings is by a slot that is there
abbrev pub AllFound : List ChannelState → ℕ → List (ℕ × Signal) → Type 0
AllFound channels who [] = Unit {0}
AllFound channels who (sending ∷ rest) = ((s : ℕ) × (position (is_place (who, sending.0)) (places_among channels) ≡ Some s)) × AllFound channels who rest

-- a slot that was there is found there
number_wide : (one two : SlotSetup) (from to : ℕ) (ends : ChannelState) (world : WorldState) (who local s : ℕ) → number world who local ≡ Some s → number (widened one two from to ends world) who local ≡ Some s
number_wide one two from to ends world who local s is =
    ap (λ (l : List (ℕ × ℕ)). position (is_place (who, local)) l) (flat_map-append places_within world.channels (ends ∷ []))
    ∙ position_before (is_place (who, local)) (places world) (places_among (ends ∷ [])) s (0, 0) is

lane_there : (world : WorldState) (s : ℕ) → length world.lanes ≡ 2 * length world.channels → s < slot_count world → lane_of world s < length world.lanes
lane_there world s size inside = subst (λ (n : ℕ). lane_of world s < n) (sym size) (lane_in world s inside)

-- what is sent goes to the same lanes
pub sends_widened : (sent : List (ℕ × Signal)) (one two : SlotSetup) (from to : ℕ) (ends : ChannelState) (world : WorldState) (who : ℕ) → length world.lanes ≡ 2 * length world.channels → AllFound world.channels who sent
    → after_sends (widened one two from to ends world) who sent ≡ widened one two from to ends (after_sends world who sent)
sends_widened [] one two from to ends world who size found = refl
sends_widened (sending ∷ rest) one two from to ends world who size found =
    let s : ℕ = found.0.0 in
    let is : number world who sending.0 ≡ Some found.0.0 = found.0.1 in
    let at = number_is world who sending.0 s is in
    let away : far s < slot_count world = far_inside world s at.0 in
    let next : WorldState = after_push world sending.1 (far found.0.0) in
    ap (λ (o : Option ℕ). after_sends (unwrap_or (option_map (λ (t : ℕ). after_push (widened one two from to ends world) sending.1 (far t)) o) (widened one two from to ends world)) who rest) (number_wide one two from to ends world who sending.0 s is)
    ∙ (ap (λ (w : WorldState). after_sends w who rest) (push_widened one two from to ends world sending.1 (far s) away (lane_there world (far s) size away))
    ∙ (sends_widened rest one two from to ends next who (length-set world.lanes (lane_of world (far s)) _ ∙ size) found.1
    ∙ ap (λ (o : Option ℕ). widened one two from to ends (after_sends (unwrap_or (option_map (λ (t : ℕ). after_push world sending.1 (far t)) o) world) who rest)) (sym is)))

-- what a box makes of an event in the joined world
record Makes (one two : SlotSetup) (from to : ℕ) (ends : ChannelState) (world : WorldState) (who : ℕ) (event : Event) (signal : Option Signal) (made : BoxStep) : Type 0 where
  after : BoxState
  goes : box_event (box_at (widened one two from to ends world) who) event signal ≡ Some (record made { after = after })
  is : after ≡ get_or (boxes_with one two from to (set world.boxes who made.after)) who no_box

makes : (one two : SlotSetup) (from to : ℕ) (ends : ChannelState) (world : WorldState) (who : ℕ) (event : Event) (signal : Option Signal) (made : BoxStep) → IsSound world → MayJoin world from to → who < length world.boxes
    → box_event (box_at world who) event signal ≡ Some made → Makes one two from to ends world who event signal made
makes one two from to ends world who event signal made sound may here goes = elim (cases_eq who from) [
  | inl same ↦
      subst (λ (w : ℕ). w < length world.boxes → box_event (box_at world w) event signal ≡ Some made → Makes one two from to ends world w event signal made) (sym same)
      (λ near goes. record {
        after = with_new_slot made.after one;
        goes = ap (λ (b : BoxState). box_event b event signal) (at_from one two from to world.boxes may.apart near)
            ∙ event_widens (box_at world from) one event signal made (sound.boxes from near) may.near_room.unprogrammed goes;
        is = sym (at_from one two from to (set world.boxes from made.after) may.apart (subst (λ (n : ℕ). from < n) (sym (length-set world.boxes from made.after)) near)
            ∙ ap (λ (b : BoxState). with_new_slot b one) (get_or-set_same world.boxes from made.after no_box near));
      }) here goes
  | inr not_from ↦ elim (cases_eq who to) [
    | inl same ↦
        subst (λ (w : ℕ). w < length world.boxes → box_event (box_at world w) event signal ≡ Some made → Makes one two from to ends world w event signal made) (sym same)
        (λ near goes. record {
          after = with_new_slot made.after two;
          goes = ap (λ (b : BoxState). box_event b event signal) (at_to one two from to world.boxes near)
              ∙ event_widens (box_at world to) two event signal made (sound.boxes to near) may.away_room.unprogrammed goes;
          is = sym (at_to one two from to (set world.boxes to made.after) (subst (λ (n : ℕ). to < n) (sym (length-set world.boxes to made.after)) near)
              ∙ ap (λ (b : BoxState). with_new_slot b two) (get_or-set_same world.boxes to made.after no_box near));
        }) here goes
    | inr not_to ↦ record {
      after = made.after;
      goes = ap (λ (b : BoxState). box_event b event signal) (at_else one two from to who world.boxes not_from not_to) ∙ goes;
      is = sym (at_else one two from to who (set world.boxes who made.after) not_from not_to ∙ get_or-set_same world.boxes who made.after no_box here);
    }
  ]
]

-- the world after it
making_widened : (one two : SlotSetup) (from to : ℕ) (ends : ChannelState) (world : WorldState) (who : ℕ) (made : BoxStep) (after : BoxState) → MayJoin world from to → who < length world.boxes
    → length world.lanes ≡ 2 * length world.channels → AllFound world.channels who made.sent → after ≡ get_or (boxes_with one two from to (set world.boxes who made.after)) who no_box
    → after_making (widened one two from to ends world) who (record made { after = after }) ≡ widened one two from to ends (after_making world who made)
making_widened one two from to ends world who made after may here size found is =
    ap (λ (l : List BoxState). after_sends (record (widened one two from to ends world) { boxes = l }) who made.sent) (put_widened one two from to who world.boxes made.after after may.apart may.near may.away here is)
    ∙ sends_widened made.sent one two from to ends (with_box world who made.after) who size found

-- ---- a step

-- the slots of a box are found
found_by : (world : WorldState) (who : ℕ) (sent : List (ℕ × Signal)) → IsSound world → who < length world.boxes → ((i : ℕ) (d : ℕ × Signal) → i < length sent → (get_or sent i d).0 < length (box_at world who).slots)
    → AllFound world.channels who sent
found_by world who [] sound here inside = tt
found_by world who (sending ∷ rest) sound here inside =
    let there = sound.numbered.all who sending.0 here (inside 0 sending (omega arith)) in (
      (there.0, subst (λ (p : ℕ × ℕ). number world p.0 p.1 ≡ Some there.0) there.2 (sound.numbered.once there.0 there.1)),
      found_by world who rest sound here (λ i d below. inside (suc i) d (omega (arith, below))),
    )

sent_found : (world : WorldState) (who : ℕ) (event : Event) (signal : Option Signal) (made : BoxStep) → IsSound world → who < length world.boxes → box_event (box_at world who) event signal ≡ Some made → AllFound world.channels who made.sent
sent_found world who event signal made sound here goes =
    found_by world who made.sent sound here (λ i d below.
    All-get_or (λ (sending : ℕ × Signal). sending.0 < length (box_at world who).slots) made.sent i d below
    (event_sends_from_slots (box_at world who) event signal made (sound.boxes who here) goes))

-- an event that takes nothing
act_widened : (one two : SlotSetup) (from to : ℕ) (ends : ChannelState) (world next : WorldState) (who : ℕ) (event : Event) → IsSound world → MayJoin world from to → who < length world.boxes
    → option_map (after_making world who) (box_event (box_at world who) event None) ≡ Some next
    → option_map (after_making (widened one two from to ends world) who) (box_event (box_at (widened one two from to ends world) who) event None) ≡ Some (widened one two from to ends next)
act_widened one two from to ends world next who event sound may here goes =
    let made = map_some (after_making world who) (box_event (box_at world who) event None) next goes in
    let wide = makes one two from to ends world who event None made.0 sound may here made.1 in
    ap (option_map (after_making (widened one two from to ends world) who)) wide.goes
    ∙ (ap Some (making_widened one two from to ends world who made.0 wide.after may here sound.numbered.lanes (sent_found world who event None made.0 sound here made.1) wide.is)
    ∙ ap (λ (w : WorldState). Some (widened one two from to ends w)) made.2)

front_wide : (one two : SlotSetup) (from to : ℕ) (ends : ChannelState) (world : WorldState) (s : ℕ) → s < slot_count world → front (widened one two from to ends world) s ≡ front world s
front_wide one two from to ends world s below =
    ap (λ (t : TunnelPlace). front_for t.within (get_or (world.lanes ++ [] ∷ [] ∷ []) (2 * t.channel + s % 2) [])) (tunnel_wide one two from to ends world s below)
    ∙ ap (front_for (tunnel_of world s).within) (defaults_added world.lanes [] (lane_of world s))

may_popped : (world : WorldState) (s from to : ℕ) → MayJoin world from to → MayJoin (after_pop world s) from to
may_popped world s from to may = record { near = may.near; away = may.away; apart = may.apart; near_room = may.near_room; away_room = may.away_room; few = may.few }

-- a Take
take_widened : (one two : SlotSetup) (from to : ℕ) (ends : ChannelState) (world next : WorldState) (who local : ℕ) → IsSound world → MayJoin world from to → who < length world.boxes
    → step_by world who (Take local) ≡ Some next → step_by (widened one two from to ends world) who (Take local) ≡ Some (widened one two from to ends next)
take_widened one two from to ends world next who local sound may here goes =
    let slot = then_some (take_at world who local) (number world who local) next goes in
    let s : ℕ = slot.0 in
    let at = number_is world who local slot.0 slot.1 in
    let lane = lane_there world slot.0 sound.numbered.lanes at.0 in
    let signal = then_some (λ (signal : Signal). option_map (after_making (after_pop world slot.0) who) (box_event (box_at world who) (Take local) (Some signal))) (front world slot.0) next slot.2 in
    let made = map_some (after_making (after_pop world slot.0) who) (box_event (box_at world who) (Take local) (Some signal.0)) next signal.2 in
    let wide = makes one two from to ends world who (Take local) (Some signal.0) made.0 sound may here made.1 in
    let popped : WorldState = after_pop world slot.0 in
    ap (option_and_then (take_at (widened one two from to ends world) who local)) (number_wide one two from to ends world who local s slot.1)
    ∙ (ap (option_and_then (λ (signal : Signal). option_map (after_making (after_pop (widened one two from to ends world) s) who) (box_event (box_at (widened one two from to ends world) who) (Take local) (Some signal)))) (front_wide one two from to ends world s at.0 ∙ signal.1)
    ∙ (ap (option_map (after_making (after_pop (widened one two from to ends world) s) who)) wide.goes
    ∙ (ap (λ (w : WorldState). Some (after_making w who (record made.0 { after = wide.after }))) (pop_widened one two from to ends world s at.0 lane)
    ∙ (ap Some (making_widened one two from to ends popped who made.0 wide.after (may_popped world slot.0 from to may) here (length-set world.lanes (lane_of world slot.0) _ ∙ sound.numbered.lanes) (sent_found world who (Take local) (Some signal.0) made.0 sound here made.1) wide.is)
    ∙ ap (λ (w : WorldState). Some (widened one two from to ends w)) made.2))))

step_by_widened : (event : Event) (one two : SlotSetup) (from to : ℕ) (ends : ChannelState) (world next : WorldState) (who : ℕ) → IsSound world → MayJoin world from to → who < length world.boxes
    → step_by world who event ≡ Some next → step_by (widened one two from to ends world) who event ≡ Some (widened one two from to ends next)
step_by_widened (Take local) one two from to ends world next who sound may here goes = take_widened one two from to ends world next who local sound may here goes
step_by_widened (Set change) one two from to ends world next who sound may here goes = act_widened one two from to ends world next who (Set change) sound may here goes
step_by_widened (Media change) one two from to ends world next who sound may here goes = act_widened one two from to ends world next who (Media change) sound may here goes
step_by_widened (Tell word) one two from to ends world next who sound may here goes = act_widened one two from to ends world next who (Tell word) sound may here goes
step_by_widened (Retry local) one two from to ends world next who sound may here goes = act_widened one two from to ends world next who (Retry local) sound may here goes
step_by_widened Shift one two from to ends world next who sound may here goes = act_widened one two from to ends world next who Shift sound may here goes

-- a turn
step_widened : (one two : SlotSetup) (from to : ℕ) (ends : ChannelState) (world next : WorldState) (turn : Turn) → IsSound world → MayJoin world from to → step world turn ≡ Some next
    → step (widened one two from to ends world) turn ≡ Some (widened one two from to ends next)
step_widened one two from to ends world next turn sound may goes =
    let parts = if_some (nat_lt turn.who (length world.boxes)) (step_by world turn.who turn.event) next goes in
    let here = box_inside world turn.who parts.0 in
    rw (long one two from to world.boxes, parts.0) (step_by_widened turn.event one two from to ends world next turn.who sound may here parts.1)

-- boxes may still be joined
may_still : (world next : WorldState) (from to : ℕ) → HasShape next world → MayJoin world from to → MayJoin next from to
may_still world next from to shape may =
    let near = may.near in
    let away = may.away in
    let few = may.few in
    let channels = ap (λ (l : List ChannelState). length l) shape.channels in
    let room = may.near_room.room in
    let other = may.away_room.room in
    record {
      near = omega (arith, near, shape.boxes);
      away = omega (arith, away, shape.boxes);
      apart = may.apart;
      near_room = record { room = let same = (shape.alike from).slots in omega (arith, room, same); unprogrammed = (shape.alike from).program ∙ may.near_room.unprogrammed };
      away_room = record { room = let same = (shape.alike to).slots in omega (arith, other, same); unprogrammed = (shape.alike to).program ∙ may.away_room.unprogrammed };
      few = omega (arith, few, channels);
    }

run_widened : (turns : List Turn) (one two : SlotSetup) (from to : ℕ) (ends : ChannelState) (world next : WorldState) → IsSound world → MayJoin world from to → run world turns ≡ Some next
    → run (widened one two from to ends world) turns ≡ Some (widened one two from to ends next)
run_widened [] one two from to ends world next sound may goes = let same : world ≡ next = cc in ap (λ (w : WorldState). Some (widened one two from to ends w)) same
run_widened (turn ∷ turns) one two from to ends world next sound may goes =
    let first = then_some (λ (w : WorldState). run w turns) (step world turn) next goes in
    ap (option_and_then (λ (w : WorldState). run w turns)) (step_widened one two from to ends world first.0 turn sound may first.1)
    ∙ run_widened turns one two from to ends first.0 next (step_keeps_sound world first.0 turn sound first.1) (may_still world first.0 from to (step_keeps_shape world first.0 turn sound first.1) may) first.2

-- the world that is joined then is the one that was joined before
joined_is : (world next : WorldState) (medium : Medium) (from to : ℕ) → HasShape next world
    → widened (near_slot world medium) (away_slot world medium) from to (joining world medium from to) next ≡ joined next medium from to
joined_is world next medium from to shape =
    let count : slot_count world ≡ slot_count next = ap (λ (l : List ChannelState). length (places_among l)) (sym shape.channels) in
    let near = sym (shape.alike from).slots in
    let away = sym (shape.alike to).slots in
    ap (λ (n : ℕ). widened (record { origin = n; medium = medium; initiator = true; address = None }) (record { origin = n + 1; medium = medium; initiator = false; address = None }) from to (joining world medium from to) next) count
    ∙ (ap (λ (n : ℕ). widened (near_slot next medium) (away_slot next medium) from to (record { from = from; to = to; tunnels = record { medium = medium; from = n; to = length (box_at world to).slots } ∷ [] }) next) near
    ∙ ap (λ (n : ℕ). widened (near_slot next medium) (away_slot next medium) from to (record { from = from; to = to; tunnels = record { medium = medium; from = length (box_at next from).slots; to = n } ∷ [] }) next) away)

pub join_commutes : JoinCommutes
join_commutes world next turns medium from to sound may goes =
    run_widened turns (near_slot world medium) (away_slot world medium) from to (joining world medium from to) world next sound may goes
    ∙ ap Some (joined_is world next medium from to (run_keeps_shape world next turns sound goes))
