-- A step of a part's world is a turn of the part.
use Rattle.std.proofs.Common.{◌≡◌, ◌≢◌, inl, inr, ◌==◌, nat_lt, if◌then◌else◌, true, ℕ, ◌*◌, List, [], ◌∷◌, ◌++◌, length, map, Option, Some, None, refl, ap, sym, ◌∙◌, subst, arith}
use Rattle.std.specs.Option.{option_map}
use Rattle.std.proofs.Math.ListN.{get_or, set}
use Rattle.std.proofs.lemmas.Bool.{cases_eq, eqb-true, ltb-true}
use Rattle.std.proofs.lemmas.Grind.{common_steps}
use Rattle.std.proofs.lemmas.List.{append-nil}
use Rattle.mc_signal.specs.declared.Signal.{Signal}
use Rattle.mc_signal.specs.declared.Tagged.{Tagged}
use Rattle.mc_box.specs.BoxEvents.{box_event, turn_of}
use Rattle.mc_box.specs.Boxes.{BoxState}
use Rattle.mc_box.specs.declared.event.Event.{Event}
use Rattle.mc_box.specs.declared.event.Event.TheVariants.{Take, Set, Media, Tell, Retry, Shift}
use Rattle.mc_box.proofs.Options.{if_some, map_some, then_some}
use Rattle.mc_laws.specs.Sendings.{sent_on}
use Rattle.mc_port.specs.Entries.{Entry, signal_in}
use Rattle.mc_port.specs.Tunnels.{event_sends, log_sends}
use Rattle.mc_merge.specs.LaneLogs.{takings, without_stamps}
use Rattle.mc_merge.specs.Lanes.{FitsTunnel, into_box, leads_from, leads_to, out_of_box}
use Rattle.mc_merge.proofs.EntrySteps.{EventSteps, event_steps, takes_from, takes_is, tagged_here, tagged_away}
use Rattle.mc_merge.proofs.LaneEnds.{sends_nothing, takes_nothing}
use Rattle.mc_merge.proofs.LaneSends.{sends_are}
use Rattle.mc_model.specs.Steps.{after_making, after_pop, step, step_by, take_at}
use Rattle.mc_model.specs.Worlds.{WorldState, box_at, front, front_for, lane_of, number, tunnel_of}
use Rattle.mc_merge.specs.Account.{PartState, part_box, part_lane}
use Rattle.mc_merge.specs.Logs.{Own, own_log, sent_by, taken_by}
use Rattle.mc_merge.specs.Steps.{IsStep, MakesTurn, StepsAreTurns, part_world}
use Rattle.mc_merge.proofs.Turns.{own_one, sent_none, taken_none}
use Rattle.mc_port.specs.Ends.{with_stamp}
use Rattle.mc_port.specs.declared.stamped.Stamped.{Stamped}

-- ---- what one entry takes and sends

stamps_gone : (stamp : ℕ) (tagged : List Tagged) → without_stamps (map (with_stamp stamp) tagged) ≡ tagged
stamps_gone stamp [] = refl
stamps_gone stamp (first ∷ tagged) = ap (λ (l : List Tagged). first ∷ l) (stamps_gone stamp tagged)

one_taken : (tables : WorldState) (own : Own) (lane : ℕ) → without_stamps (taken_by tables (own ∷ []) lane) ≡ takes_from tables lane own.who own.entry.event own.entry.taken
one_taken tables own lane = elim (cases_eq own.who (leads_to tables lane)) [
  | inl same ↦
      subst (λ (who : ℕ). without_stamps (takings (into_box tables who lane) (own_log who (own ∷ []))) ≡ takes_from tables lane own.who own.entry.event own.entry.taken) same
      (ap (λ (l : List Entry). without_stamps (takings (into_box tables own.who lane) l)) (own_one own own.who refl)
      ∙ (ap (λ (l : List Stamped). without_stamps l) (append-nil (map (with_stamp own.entry.stamp) (takes_from tables lane own.who own.entry.event own.entry.taken)))
      ∙ stamps_gone own.entry.stamp (takes_from tables lane own.who own.entry.event own.entry.taken)))
  | inr apart ↦
      ap (λ (l : List Stamped). without_stamps l) (taken_none tables own lane apart)
      ∙ sym (takes_nothing own.entry.event own.entry.taken tables lane own.who (λ same. apart (sym same)))
]

one_sent : (tables : WorldState) (own : Own) (lane : ℕ) → without_stamps (sent_by tables (own ∷ []) lane) ≡ sent_on tables own.who lane own.entry.sent
one_sent tables own lane = elim (cases_eq own.who (leads_from tables lane)) [
  | inl same ↦
      subst (λ (who : ℕ). without_stamps (log_sends (out_of_box tables who lane) (own_log who (own ∷ []))) ≡ sent_on tables own.who lane own.entry.sent) same
      (ap (λ (l : List Entry). without_stamps (log_sends (out_of_box tables own.who lane) l)) (own_one own own.who refl)
      ∙ (ap (λ (l : List Stamped). without_stamps l) (append-nil (event_sends (out_of_box tables own.who lane) own.entry.stamp own.entry.sent))
      ∙ (ap (λ (l : List Stamped). without_stamps l) (sym (sends_are own.entry.sent tables lane own.who own.entry.stamp))
      ∙ stamps_gone own.entry.stamp (sent_on tables own.who lane own.entry.sent))))
  | inr apart ↦
      ap (λ (l : List Stamped). without_stamps l) (sent_none tables own lane apart)
      ∙ sym (sends_nothing own.entry.sent tables lane own.who (λ same. apart (sym same)))
]

-- ---- a step by its parts

-- what an event takes stands at the front of its lane, and what is left of each lane
record Taken (tables : WorldState) (a : PartState) (who : ℕ) (event : Event) : Type 0 where
  taken : Option Tagged
  sent : List (ℕ × Signal)
  after : BoxState
  left : ℕ → List Tagged
  makes : box_event (part_box a who) event (signal_in taken) ≡ Some (record { sent = sent; after = after })
  fits : FitsTunnel tables who event taken
  fronts : (lane : ℕ) → part_lane a lane ≡ takes_from tables lane who event taken ++ left lane

boxes_same : (w v : WorldState) → Some w ≡ Some v → w.boxes ≡ v.boxes
boxes_same w v same =
    let is : w ≡ v = cc in
    ap (λ (x : WorldState). x.boxes) is

lanes_same : (w v : WorldState) → Some w ≡ Some v → w.lanes ≡ v.lanes
lanes_same w v same =
    let is : w ≡ v = cc in
    ap (λ (x : WorldState). x.lanes) is

-- such an event is a turn
turn_of_parts : (tables : WorldState) (a b : PartState) (who : ℕ) (event : Event) → IsStep tables a b who event → nat_lt who (length a.boxes) ≡ true → Taken tables a who event → MakesTurn tables a b who event
turn_of_parts tables a b who event is below t =
    let all : EventSteps (part_world tables a) who event t.sent t.after t.left =
    event_steps event t.taken (part_world tables a) who t.sent t.after t.left is.each_lane below t.makes t.fits (λ lane inside. t.fronts lane) in
    let same : Some (part_world tables b) ≡ Some (record tables { boxes = set a.boxes who t.after; lanes = all.lanes }) = sym is.goes ∙ all.goes in
    let boxes : b.boxes ≡ set a.boxes who t.after = boxes_same (part_world tables b) (record tables { boxes = set a.boxes who t.after; lanes = all.lanes }) same in
    let lanes : b.lanes ≡ all.lanes = lanes_same (part_world tables b) (record tables { boxes = set a.boxes who t.after; lanes = all.lanes }) same in
    let entry : Entry = record { stamp = b.stamp; event = event; taken = t.taken; sent = t.sent; after = t.after } in
    let own : Own = record { who = who; entry = entry } in
    record {
      own = own;
      box = refl;
      event_is = refl;
      stamp = refl;
      turn = record {
        here = ltb-true who (length a.boxes) below;
        makes = t.makes;
        fits = t.fits;
        boxes = boxes;
        lane_count = ap (λ (l : List (List Tagged)). length l) lanes ∙ all.count;
        lanes = λ lane inside. record {
          left = t.left lane;
          front = t.fronts lane ∙ ap (λ (l : List Tagged). l ++ t.left lane) (sym (one_taken tables own lane));
          back = ap (λ (l : List (List Tagged)). get_or l lane []) lanes ∙ (all.lists lane inside ∙ ap (λ (l : List Tagged). t.left lane ++ l) (sym (one_sent tables own lane)));
        };
        next = is.stamp;
        stamp = refl;
        heard = is.heard;
      };
    }

-- an event that takes nothing
acted : (tables : WorldState) (a : PartState) (who : ℕ) (event : Event) (next : WorldState) → ((lane : ℕ) → takes_from tables lane who event None ≡ []) → FitsTunnel tables who event None
    → option_map (after_making (part_world tables a) who) (box_event (part_box a who) event None) ≡ Some next → Taken tables a who event
acted tables a who event next none fits goes =
    let made = map_some (after_making (part_world tables a) who) (box_event (part_box a who) event None) next goes in
    record {
      taken = None;
      sent = made.0.sent;
      after = made.0.after;
      left = λ lane. part_lane a lane;
      makes = made.1;
      fits = fits;
      fronts = λ lane. ap (λ (l : List Tagged). l ++ part_lane a lane) (sym (none lane));
    }

-- the front of a lane for a tunnel
record Front (tunnel : ℕ) (lane : List Tagged) (signal : Signal) : Type 0 where
  tagged : Tagged
  rest : List Tagged
  lane_is : lane ≡ tagged ∷ rest
  signal_is : tagged.signal ≡ signal
  within : tunnel ≡ tagged.tunnel

front_is : (tunnel : ℕ) (lane : List Tagged) (signal : Signal) → front_for tunnel lane ≡ Some signal → Front tunnel lane signal
front_is tunnel [] signal is = absurd (cc)
front_is tunnel (tagged ∷ rest) signal is =
    let parts = if_some (tagged.tunnel == tunnel) (Some tagged.signal) signal is in
    let test : (tagged.tunnel == tunnel) ≡ true = parts.0 in
    record { tagged = tagged; rest = rest; lane_is = refl; signal_is = cc; within = sym (eqb-true tagged.tunnel tunnel parts.0) }

joined : (xs xs_2 ys ys_2 : List Tagged) → xs ≡ xs_2 → ys ≡ ys_2 → xs ++ ys ≡ xs_2 ++ ys_2
joined xs xs_2 ys ys_2 one two = ap (λ (l : List Tagged). l ++ ys) one ∙ ap (λ (l : List Tagged). xs_2 ++ l) two

rest_here : (a b : ℕ) (rest lane : List Tagged) → a ≡ b → (if a == b then rest else lane) ≡ rest
rest_here a b rest lane same = grind (arith, common_steps)

rest_away : (a b : ℕ) (rest lane : List Tagged) → a ≢ b → (if a == b then rest else lane) ≡ lane
rest_away a b rest lane apart = grind (arith, common_steps)

-- a Take of slot s
took : (tables : WorldState) (a : PartState) (who local s : ℕ) (next : WorldState) → number tables who local ≡ Some s → take_at (part_world tables a) who local s ≡ Some next → Taken tables a who (Take local)
took tables a who local s next numbered goes =
    let w = part_world tables a in
    let fronts = then_some (λ (signal : Signal). option_map (after_making (after_pop w s) who) (box_event (box_at w who) (Take local) (Some signal))) (front w s) next goes in
    let made = map_some (after_making (after_pop w s) who) (box_event (part_box a who) (Take local) (Some fronts.0)) next fronts.2 in
    let at = front_is (tunnel_of tables s).within (part_lane a (lane_of tables s)) fronts.0 fronts.1 in
    record {
      taken = Some at.tagged;
      sent = made.0.sent;
      after = made.0.after;
      left = λ lane. if lane_of tables s == lane then at.rest else part_lane a lane;
      makes = ap (λ (signal : Signal). box_event (part_box a who) (Take local) (Some signal)) at.signal_is ∙ made.1;
      fits = ap (λ (o : Option ℕ). option_map (λ (t : ℕ). (tunnel_of tables t).within) o) numbered ∙ ap (λ (n : ℕ). Some n) at.within;
      fronts = λ lane. elim (cases_eq (lane_of tables s) lane) [
        | inl same ↦
            subst (λ (l : ℕ). part_lane a l ≡ takes_from tables l who (Take local) (Some at.tagged) ++ (if lane_of tables s == l then at.rest else part_lane a l)) same
            (at.lane_is ∙ sym (joined (takes_from tables (lane_of tables s) who (Take local) (Some at.tagged)) (at.tagged ∷ []) (if lane_of tables s == lane_of tables s then at.rest else part_lane a (lane_of tables s)) at.rest
            (takes_is tables who local s (lane_of tables s) at.tagged numbered ∙ tagged_here (lane_of tables s) at.tagged (lane_of tables s) refl)
            (rest_here (lane_of tables s) (lane_of tables s) at.rest (part_lane a (lane_of tables s)) refl)))
        | inr apart ↦
            sym (joined (takes_from tables lane who (Take local) (Some at.tagged)) [] (if lane_of tables s == lane then at.rest else part_lane a lane) (part_lane a lane)
            (takes_is tables who local s lane at.tagged numbered ∙ tagged_away lane at.tagged (lane_of tables s) apart)
            (rest_away (lane_of tables s) lane at.rest (part_lane a lane) apart))
      ];
    }

parts_of_step : (event : Event) (tables : WorldState) (a : PartState) (who : ℕ) (next : WorldState) → step_by (part_world tables a) who event ≡ Some next → Taken tables a who event
parts_of_step (Take local) tables a who next goes =
    let found = then_some (λ (s : ℕ). take_at (part_world tables a) who local s) (number tables who local) next goes in
    took tables a who local found.0 next found.1 found.2
parts_of_step (Set change) tables a who next goes = acted tables a who (Set change) next (λ lane. refl) tt goes
parts_of_step (Media change) tables a who next goes = acted tables a who (Media change) next (λ lane. refl) tt goes
parts_of_step (Tell word) tables a who next goes = acted tables a who (Tell word) next (λ lane. refl) tt goes
parts_of_step (Retry local) tables a who next goes = acted tables a who (Retry local) next (λ lane. refl) tt goes
parts_of_step Shift tables a who next goes = acted tables a who Shift next (λ lane. refl) tt goes

pub steps_are_turns : StepsAreTurns
steps_are_turns tables a b who event is =
    let parts = if_some (nat_lt who (length a.boxes)) (step_by (part_world tables a) who event) (part_world tables b) is.goes in
    turn_of_parts tables a b who event is parts.0 (parts_of_step event tables a who (part_world tables b) parts.1)

-- ---- channels

channels_same : (w v : WorldState) → Some w ≡ Some v → w.channels ≡ v.channels
channels_same w v same =
    let is : w ≡ v = cc in
    ap (λ (x : WorldState). x.channels) is

-- stay
pub step_channels : (tables : WorldState) (a : PartState) (who : ℕ) (event : Event) (next : WorldState) → length a.lanes ≡ 2 * length tables.channels
    → step (part_world tables a) (turn_of who event) ≡ Some next → next.channels ≡ tables.channels
step_channels tables a who event next count goes =
    let parts = if_some (nat_lt who (length a.boxes)) (step_by (part_world tables a) who event) next goes in
    let t = parts_of_step event tables a who next parts.1 in
    let all : EventSteps (part_world tables a) who event t.sent t.after t.left =
    event_steps event t.taken (part_world tables a) who t.sent t.after t.left count parts.0 t.makes t.fits (λ lane inside. t.fronts lane) in
    channels_same next (record tables { boxes = set a.boxes who t.after; lanes = all.lanes }) (sym goes ∙ all.goes)
