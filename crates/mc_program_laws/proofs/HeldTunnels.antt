-- A tunnel that flows, and both of whose slots are ends that don't close, flows on, whichever turns come.
use Rattle.std.proofs.Common.{◌≡◌, ◌≢◌, ◌<◌, inl, inr, ℕ, true, false, Some, IsTrue, List, [], ◌∷◌, length, refl, ap, sym, ◌∙◌, subst}
use Rattle.std.specs.List.{list_all}
use Rattle.std.proofs.lemmas.Bool.{and_parts, cases_eq}
use Rattle.mc_slot.specs.Tunnel.{AgreeIn}
use Rattle.mc_slot.specs.declared.Goal.{Goal}
use Rattle.mc_slot.specs.declared.Goal.TheVariants.{Close as ToClose}
use Rattle.mc_slot.specs.declared.Slot.{Slot}
use Rattle.mc_slot.specs.declared.SlotGoal.{SlotGoal}
use Rattle.mc_slot.specs.declared.SlotGoal.TheVariants.{End}
use Rattle.mc_slot.specs.declared.State.{State}
use Rattle.mc_slot.specs.declared.State.TheVariants.{Closed, Opening, Opened, Flowing, Closing}
use Rattle.mc_box.specs.BoxEvents.{is_take, turn_of}
use Rattle.mc_box.specs.Boxes.{BoxState, goal_at, slot_at}
use Rattle.mc_box.specs.declared.event.Event.{Event}
use Rattle.mc_box.specs.declared.event.Event.TheVariants.{Take, Set, Media, Tell, Retry, Shift}
use Rattle.mc_box.specs.declared.event.Turn.{Turn}
use Rattle.mc_box.proofs.Options.{then_some}
use Rattle.mc_model.specs.Settles.{is_quiet, takes_or_retries}
use Rattle.mc_model.specs.Sound.{IsSound}
use Rattle.mc_model.specs.Steps.{run, step}
use Rattle.mc_model.specs.Worlds.{ChannelState, WorldState, box_at, far, goal_of, list_to, place, places_among, slot_count, slot_of}
use Rattle.mc_laws.specs.Stepped.{Stepped}
use Rattle.mc_laws.proofs.ActedWorlds.{far_inside}
use Rattle.mc_laws.proofs.GoalsKept.{run_stays}
use Rattle.mc_laws.proofs.Numbers.{far_back}
use Rattle.mc_laws.proofs.Partners.{linked_with}
use Rattle.mc_laws.proofs.Reaches.{GoalsStay}
use Rattle.mc_laws.proofs.StepActs.{Turned, step_turns}
use Rattle.mc_laws.proofs.StepKeeps.{step_keeps_sound}
use Rattle.mc_path_laws.proofs.CleanSteps.{Calm, step_calm}
use Rattle.mc_path_laws.proofs.CleanWalks.{slot_now}
use Rattle.mc_path_laws.proofs.QuietWalks.{list_none, quiet_tunnel}
use Rattle.mc_program_laws.specs.Held.{AreOpenEnds, HeldTunnelsFlowOn, OpenEndsFlowOn, QuietTunnelsFlow, RestsFlowOn, SlotFlows, TellsLeaveFlowing, TunnelFlows, is_update, stays_open}
use Rattle.mc_program_laws.proofs.HeldSlots.{acted_flows, acted_updates, updates-append, updates_none}
use Rattle.mc_program_laws.proofs.HeldTurns.{act_flows, open_unlinked, told_flows}

-- ---- a tunnel by its slots

-- in whatever state the far slot of a flowing one is, the two agree only where it flows
flows_by : (state : State) (a b : Slot) → AgreeIn Flowing state a b → state ≡ Flowing
flows_by Closed a b agree = absurd agree
flows_by Opening a b agree = absurd agree
flows_by Opened a b agree = absurd agree
flows_by Flowing a b agree = refl
flows_by Closing a b agree = absurd agree

-- a slot to which nothing is under way
none_flows : (world : WorldState) (s : ℕ) → IsTrue (is_quiet world) → (slot_of world s).state ≡ Flowing → SlotFlows world s
none_flows world s quiet flows = record { flows = flows; updates = ap (list_all is_update) (list_none world s quiet) }

pub quiet_tunnels_flow : QuietTunnelsFlow
quiet_tunnels_flow world s sound quiet inside flows =
    let a : Slot = slot_of world s in
    let b : Slot = slot_of world (far s) in
    let agree : AgreeIn a.state b.state a b = (quiet_tunnel world s sound quiet inside).meet in
    record {
      inside = inside;
      near = none_flows world s quiet flows;
      away = none_flows world (far s) quiet (flows_by b.state a b (subst (λ (state : State). AgreeIn state b.state a b) flows agree));
    }

-- what a slot that flows before and after a step sends, and what is still under way to it
slot_updates : (world next : WorldState) (who s : ℕ) (stepped : Stepped world next who) → s < slot_count world → SlotFlows world s → (slot_of next s).state ≡ Flowing
    → (list_all is_update (stepped.sent s) ≡ true) × (list_all is_update (stepped.left s) ≡ true)
slot_updates world next who s stepped inside here flows =
    acted_updates (slot_of world s) (list_to world s) (stepped.sent s) (slot_of next s) (stepped.left s) (stepped.acted s inside) here.flows here.updates flows

-- a slot after a step, if its far slot sent updates
slot_still_flows : (world next : WorldState) (who s : ℕ) (stepped : Stepped world next who) → s < slot_count world → (slot_of next s).state ≡ Flowing
    → list_all is_update (stepped.left s) ≡ true → list_all is_update (stepped.sent (far s)) ≡ true → SlotFlows next s
slot_still_flows world next who s stepped inside flows left sent = record {
  flows = flows;
  updates = ap (list_all is_update) (stepped.lists s inside) ∙ updates-append (stepped.left s) (stepped.sent (far s)) left sent;
}

-- a tunnel that flows still does if both of its slots do
tunnel_after : (world next : WorldState) (who s : ℕ) → Stepped world next who → TunnelFlows world s → (slot_of next s).state ≡ Flowing → (slot_of next (far s)).state ≡ Flowing → TunnelFlows next s
tunnel_after world next who s stepped tunnel flows far_flows =
    let there = far_inside world s tunnel.inside in
    let here = slot_updates world next who s stepped tunnel.inside tunnel.near flows in
    let away = slot_updates world next who (far s) stepped there tunnel.away far_flows in
    record {
      inside = subst (λ (c : List ChannelState). s < length (places_among c)) (sym stepped.channels) tunnel.inside;
      near = slot_still_flows world next who s stepped tunnel.inside flows here.1 away.0;
      away = slot_still_flows world next who (far s) stepped there far_flows away.1
          (subst (λ (t : ℕ). list_all is_update (stepped.sent t) ≡ true) (sym (far_back s)) here.0);
    }

-- ---- slots by their places

-- the goal of a slot, by the place that it has had
goal_now : (world next : WorldState) (s : ℕ) → next.channels ≡ world.channels → goal_of next s ≡ goal_at (box_at next (place world s).0) (place world s).1
goal_now world next s channels = ap (λ (c : List ChannelState). goal_of (record next { channels = c }) s) channels

-- so where goals stay it is as it was
goal_stays : (world next : WorldState) (s : ℕ) → next.channels ≡ world.channels → GoalsStay next world → goal_of next s ≡ goal_of world s
goal_stays world next s channels stay = goal_now world next s channels ∙ stay (place world s).0 (place world s).1

-- and so are ends that don't close
ends_stay : (world next : WorldState) (s : ℕ) → next.channels ≡ world.channels → GoalsStay next world → AreOpenEnds world s → AreOpenEnds next s
ends_stay world next s channels stay ends = record {
  near = ap stays_open (goal_stays world next s channels stay) ∙ ends.near;
  away = ap stays_open (goal_stays world next (far s) channels stay) ∙ ends.away;
}

-- and were so before
ends_before : (world next : WorldState) (s : ℕ) → next.channels ≡ world.channels → GoalsStay next world → AreOpenEnds next s → AreOpenEnds world s
ends_before world next s channels stay ends = record {
  near = ap stays_open (sym (goal_stays world next s channels stay)) ∙ ends.near;
  away = ap stays_open (sym (goal_stays world next (far s) channels stay)) ∙ ends.away;
}

-- ---- a Take or a Retry

-- what an end that doesn't close sends while it flows
calm_sends : (world next : WorldState) (turn : Turn) (s : ℕ) (calm : Calm world next turn) → s < slot_count world → SlotFlows world s → stays_open (goal_of world s) ≡ true → (slot_of next s).state ≡ Flowing
calm_sends world next turn s calm inside here holds_open =
    let none = updates_none (list_to world s) here.updates in
    acted_flows (slot_of world s) (list_to world s) (calm.stepped.sent s) (slot_of next s) (calm.stepped.left s) (calm.stepped.acted s inside) here.flows here.updates
    (calm.sends s inside (λ closes. shuts (goal_of world s) holds_open closes) none
    (λ p is. let link = linked_with world s p (goal_of world s) is in absurd (open_unlinked (goal_of world s) link.0 holds_open link.1)))
  where
    shuts : (goal : SlotGoal) → stays_open goal ≡ true → goal ≡ End ToClose → ⊥
    shuts goal holds_open closes = let shut : stays_open (End ToClose) ≡ true = subst (λ (g : SlotGoal). stays_open g ≡ true) closes holds_open in absurd (cc)

-- a tunnel between two such ends
calm_flows : (world next : WorldState) (turn : Turn) (s : ℕ) → Calm world next turn → TunnelFlows world s → AreOpenEnds world s → TunnelFlows next s
calm_flows world next turn s calm tunnel ends =
    tunnel_after world next calm.who s calm.stepped tunnel
    (calm_sends world next turn s calm tunnel.inside tunnel.near ends.near)
    (calm_sends world next turn (far s) calm (far_inside world s tunnel.inside) tunnel.away ends.away)

-- by the goals after the turn
rest_flows : (world next : WorldState) (turn : Turn) (s : ℕ) → IsSound world → takes_or_retries turn.event ≡ true → step world turn ≡ Some next → TunnelFlows world s → AreOpenEnds next s → TunnelFlows next s
rest_flows world next turn s sound is goes tunnel ends =
    let calm = step_calm world next turn sound is goes in
    calm_flows world next turn s calm tunnel (ends_before world next s calm.stepped.channels calm.goals ends)

-- ---- a turn that takes nothing

-- a slot of any box
place_flows : (world next : WorldState) (who box local : ℕ) (event : Event) → IsSound world → Turned world next who event → is_take event ≡ false → box < length world.boxes
    → stays_open (goal_at (box_at next box) local) ≡ true → (slot_at (box_at world box) local).state ≡ Flowing → (slot_at (box_at next box) local).state ≡ Flowing
place_flows world next who box local event sound turned untaken below holds_open flows = elim (cases_eq box who) [
  | inl same ↦
      let after : box_at next box ≡ turned.step.after = ap (box_at next) same ∙ turned.after in
      subst (λ (b : BoxState). (slot_at b local).state ≡ Flowing) (sym after)
      (act_flows event (box_at world who) turned.signal turned.step local untaken (sound.boxes who (subst (λ (n : ℕ). n < length world.boxes) same below)) turned.goes
      (subst (λ (b : BoxState). stays_open (goal_at b local) ≡ true) after holds_open) (subst (λ (n : ℕ). (slot_at (box_at world n) local).state ≡ Flowing) same flows))
  | inr away ↦ subst (λ (b : BoxState). (slot_at b local).state ≡ Flowing) (sym (turned.stepped.boxes box away)) flows
]

-- so an end that doesn't close after the turn flows as before
turned_slot : (world next : WorldState) (who s : ℕ) (event : Event) → IsSound world → Turned world next who event → is_take event ≡ false → s < slot_count world
    → stays_open (goal_of next s) ≡ true → (slot_of world s).state ≡ Flowing → (slot_of next s).state ≡ Flowing
turned_slot world next who s event sound turned untaken inside holds_open flows =
    let channels = turned.stepped.channels in
    subst (λ (a : Slot). a.state ≡ Flowing) (sym (slot_now world next s channels))
    (place_flows world next who (place world s).0 (place world s).1 event sound turned untaken (sound.numbered.placed s inside)
    (subst (λ (g : SlotGoal). stays_open g ≡ true) (goal_now world next s channels) holds_open) flows)

-- a tunnel between two such ends
act_tunnel : (world next : WorldState) (turn : Turn) (s : ℕ) → IsSound world → is_take turn.event ≡ false → step world turn ≡ Some next → TunnelFlows world s → AreOpenEnds next s → TunnelFlows next s
act_tunnel world next turn s sound untaken goes tunnel ends =
    let turned = step_turns world next turn sound goes in
    tunnel_after world next turn.who s turned.stepped tunnel
    (turned_slot world next turn.who s turn.event sound turned untaken tunnel.inside ends.near tunnel.near.flows)
    (turned_slot world next turn.who (far s) turn.event sound turned untaken (far_inside world s tunnel.inside) ends.away tunnel.away.flows)

-- ---- any turn

-- by its event
flow_on_by : (event : Event) (world next : WorldState) (who s : ℕ) → IsSound world → step world (turn_of who event) ≡ Some next → TunnelFlows world s → AreOpenEnds next s → TunnelFlows next s
flow_on_by (Take local) world next who s sound goes tunnel ends = rest_flows world next (turn_of who (Take local)) s sound refl goes tunnel ends
flow_on_by (Set change) world next who s sound goes tunnel ends = act_tunnel world next (turn_of who (Set change)) s sound refl goes tunnel ends
flow_on_by (Media change) world next who s sound goes tunnel ends = act_tunnel world next (turn_of who (Media change)) s sound refl goes tunnel ends
flow_on_by (Tell word) world next who s sound goes tunnel ends = act_tunnel world next (turn_of who (Tell word)) s sound refl goes tunnel ends
flow_on_by (Retry local) world next who s sound goes tunnel ends = act_tunnel world next (turn_of who (Retry local)) s sound refl goes tunnel ends
flow_on_by Shift world next who s sound goes tunnel ends = act_tunnel world next (turn_of who Shift) s sound refl goes tunnel ends

pub open_ends_flow_on : OpenEndsFlowOn
open_ends_flow_on world next turn s sound goes tunnel ends = flow_on_by turn.event world next turn.who s sound goes tunnel ends

-- ---- a Tell

-- a slot of any box
told_place : (world next : WorldState) (who word box local : ℕ) → Turned world next who (Tell word) → (slot_at (box_at world box) local).state ≡ Flowing → (slot_at (box_at next box) local).state ≡ Flowing
told_place world next who word box local turned flows = elim (cases_eq box who) [
  | inl same ↦
      let after : box_at next box ≡ turned.step.after = ap (box_at next) same ∙ turned.after in
      subst (λ (b : BoxState). (slot_at b local).state ≡ Flowing) (sym after)
      (told_flows (box_at world who) word turned.signal turned.step local turned.goes (subst (λ (n : ℕ). (slot_at (box_at world n) local).state ≡ Flowing) same flows))
  | inr away ↦ subst (λ (b : BoxState). (slot_at b local).state ≡ Flowing) (sym (turned.stepped.boxes box away)) flows
]

-- by its number
told_slot : (world next : WorldState) (who word s : ℕ) → Turned world next who (Tell word) → (slot_of world s).state ≡ Flowing → (slot_of next s).state ≡ Flowing
told_slot world next who word s turned flows =
    subst (λ (a : Slot). a.state ≡ Flowing) (sym (slot_now world next s turned.stepped.channels)) (told_place world next who word (place world s).0 (place world s).1 turned flows)

pub tells_leave_flowing : TellsLeaveFlowing
tells_leave_flowing world next who word s sound goes tunnel =
    let turned = step_turns world next (turn_of who (Tell word)) sound goes in
    tunnel_after world next who s turned.stepped tunnel (told_slot world next who word s turned tunnel.near.flows) (told_slot world next who word (far s) turned tunnel.away.flows)

-- ---- runs

-- one turn after another
rests_by : (turns : List Turn) (world last : WorldState) (s : ℕ) → IsSound world → list_all (λ turn. takes_or_retries turn.event) turns ≡ true → run world turns ≡ Some last
    → TunnelFlows world s → AreOpenEnds world s → TunnelFlows last s × AreOpenEnds last s
rests_by [] world last s sound all goes tunnel ends =
    let same : world ≡ last = cc in (subst (λ (w : WorldState). TunnelFlows w s) same tunnel, subst (λ (w : WorldState). AreOpenEnds w s) same ends)
rests_by (turn ∷ turns) world last s sound all goes tunnel ends =
    let parts = and_parts (takes_or_retries turn.event) (list_all (λ (turn : Turn). takes_or_retries turn.event) turns) all in
    let one = then_some (λ (w : WorldState). run w turns) (step world turn) last goes in
    let calm = step_calm world one.0 turn sound parts.0 one.1 in
    rests_by turns one.0 last s (step_keeps_sound world one.0 turn sound one.1) parts.1 one.2 (calm_flows world one.0 turn s calm tunnel ends)
    (ends_stay world one.0 s calm.stepped.channels calm.goals ends)

pub rests_flow_on : RestsFlowOn
rests_flow_on world last turns s sound all goes tunnel ends = rests_by turns world last s sound all goes tunnel ends

-- from a Shift on, by the goals in the end
shifted_flow_on : (world last : WorldState) (who s : ℕ) (rest : List Turn) → IsSound world → list_all (λ turn. takes_or_retries turn.event) rest ≡ true
    → run world (turn_of who Shift ∷ rest) ≡ Some last → TunnelFlows world s → AreOpenEnds last s → TunnelFlows last s
shifted_flow_on world last who s rest sound all goes tunnel ends =
    let one = then_some (λ (w : WorldState). run w rest) (step world (turn_of who Shift)) last goes in
    let then_sound = step_keeps_sound world one.0 (turn_of who Shift) sound one.1 in
    let stay = run_stays rest one.0 last then_sound all one.2 in
    let before = ends_before one.0 last s stay.channels stay.goals ends in
    (rests_flow_on one.0 last rest s then_sound all one.2 (open_ends_flow_on world one.0 (turn_of who Shift) s sound one.1 tunnel before) before).0

pub held_tunnels_flow_on : HeldTunnelsFlowOn
held_tunnels_flow_on world last who word s rest sound quiet inside flows all goes ends =
    let one = then_some (λ (w : WorldState). run w (turn_of who Shift ∷ rest)) (step world (turn_of who (Tell word))) last goes in
    shifted_flow_on one.0 last who s rest (step_keeps_sound world one.0 (turn_of who (Tell word)) sound one.1) all one.2
    (tells_leave_flowing world one.0 who word s sound one.1 (quiet_tunnels_flow world s sound quiet inside flows)) ends

-- ---- ends by their goals

-- an end that doesn't close, by its goal
pub open_end : (slot_goal : SlotGoal) (goal : Goal) → slot_goal ≡ End goal → goal ≢ ToClose → stays_open slot_goal ≡ true
open_end slot_goal goal is stays = ap stays_open is ∙ open_by goal stays
  where
    open_by : (goal : Goal) → goal ≢ ToClose → stays_open (End goal) ≡ true
    open_by ToClose stays = absurd (stays refl)
    open_by goal stays = refl

-- from a Shift in a world in which nothing is under way, by the goals after it
pub held_flows : (world next last : WorldState) (who s : ℕ) (rest : List Turn) (goal far_goal : Goal) → IsSound world → IsTrue (is_quiet world) → s < slot_count world
    → (slot_of world s).state ≡ Flowing → (slot_of world (far s)).state ≡ Flowing → step world (turn_of who Shift) ≡ Some next
    → goal_of next s ≡ End goal → goal ≢ ToClose → goal_of next (far s) ≡ End far_goal → far_goal ≢ ToClose
    → IsTrue (list_all (λ turn. takes_or_retries turn.event) rest) → run next rest ≡ Some last → ((slot_of last s).state ≡ Flowing) × ((slot_of last (far s)).state ≡ Flowing)
held_flows world next last who s rest goal far_goal sound quiet inside flows far_flows shifts is stays far_is far_stays all goes =
    let ends : AreOpenEnds next s = record { near = open_end (goal_of next s) goal is stays; away = open_end (goal_of next (far s)) far_goal far_is far_stays } in
    let tunnel = open_ends_flow_on world next (turn_of who Shift) s sound shifts (quiet_tunnels_flow world s sound quiet inside flows) ends in
    let end = (rests_flow_on next last rest s (step_keeps_sound world next (turn_of who Shift) sound shifts) all goes tunnel ends).0 in
    (end.near.flows, end.away.flows)
