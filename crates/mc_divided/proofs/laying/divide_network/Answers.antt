use Rattle.std.proofs.Common.{refl, ◌≡◌, ◌<◌, ◌≤◌, ◌*◌, All, IsTrue, ℕ, List, false, length, get_or, ap, ap₂, sym, ◌∙◌, subst, rules}
use Rattle.std.proofs.lemmas.List.{length-map}
use Rattle.mc_box.specs.BoxEvents.{is_enabled}
use Rattle.mc_box.specs.Boxes.{BoxState, no_box}
use Rattle.mc_box.specs.declared.event.Event.TheVariants.{Shift}
use Rattle.mc_part.specs.DividedParts.{HasBoxes, inner_lists}
use Rattle.mc_lane.specs.Queue.{Queue}
use Rattle.mc_model.specs.Sound.{IsSound}
use Rattle.mc_model.specs.Worlds.{ChannelState, WorldState}
use Rattle.mc_divided.proofs.DividedNetworks.{IsLaidOut, is_divided_network, is_laid_out, state_is}
use Rattle.mc_divided.proofs.Joining.{all_sides}
use Rattle.mc_divided.proofs.LaidOut.{world_of}
use Rattle.mc_divided.proofs.Together.{channels_join}
use Rattle.mc_divided.proofs.SoundWorlds.{are_whole}
use Rattle.mc_divided.specs.Laying.{AreWhole}
use Rattle.mc_divided.specs.States.{new_state}
use Rattle.mc_divided.specs.declared.limit.TheConstants.{NETWORK_LIMIT}
use Rattle.mc_divided.specs.declared.network.DividedNetwork.{DividedNetwork}
use Rattle.mc_part.specs.Divisions.{starts_in}
use Rattle.mc_part.specs.declared.port.Port.{Port}
use Rattle.mc_signal.specs.declared.Tagged.{Tagged}
use Rattle.mc_world.specs.Lanes.{signals_of}
use Rattle.mc_world.specs.Parts.{FitsFrame}
use Rattle.mc_divided.proofs.laying.divide_network.Goals as goal

pub wire-requires-clause-joins : goal.wire-requires-clause-joins
wire-requires-clause-joins c =
    let same : world_of c.replace-boxes.result.items c.into_parts-frame.result.channels.items (signals_of c.replace-lanes.result.items) ≡ c.args.world =
    ap₂ (λ (b : List BoxState) (l : List (Queue Tagged)). world_of b c.into_parts-frame.result.channels.items (signals_of l)) (ap (λ (v : _). v.items) c.replace-boxes.ensures.value) (ap (λ (v : _). v.items) c.replace-lanes.ensures.value)
    ∙ c.into_parts-frame.ensures.state in
    let whole : AreWhole c.replace-boxes.result.items c.into_parts-frame.result.channels.items (signals_of c.replace-lanes.result.items) =
    are_whole c.replace-boxes.result.items c.into_parts-frame.result.channels.items (signals_of c.replace-lanes.result.items) c.into_parts-frame.ensures.frame.0.0
    (subst (λ (w : WorldState). IsSound w) (sym same) c.into_parts-frame.ensures.sound) in
    let each : length c.in_ok-division.division.assigned.items ≡ length c.replace-boxes.result.items = search rules in
    subst (λ (l : List ChannelState). All (HasBoxes (length c.in_ok-division.division.assigned.items)) l) (sym c.deref-2.ensures.value)
    (channels_join c.replace-boxes.result.items c.into_parts-frame.result.channels.items (signals_of c.replace-lanes.result.items) c.in_ok-division.division.assigned.items whole each)

pub lay_parts-requires-clause-whole : goal.lay_parts-requires-clause-whole
lay_parts-requires-clause-whole c =
    let same : world_of c.replace-boxes.result.items c.into_parts-frame.result.channels.items (signals_of c.replace-lanes.result.items) ≡ c.args.world =
    ap₂ (λ (b : List BoxState) (l : List (Queue Tagged)). world_of b c.into_parts-frame.result.channels.items (signals_of l)) (ap (λ (v : _). v.items) c.replace-boxes.ensures.value) (ap (λ (v : _). v.items) c.replace-lanes.ensures.value)
    ∙ c.into_parts-frame.ensures.state in
    subst (λ (l : List ChannelState). AreWhole c.replace-boxes.result.items l (signals_of c.deref-4.result.now)) (sym c.deref-3.ensures.value)
    (subst (λ (l : List (Queue Tagged)). AreWhole c.replace-boxes.result.items c.into_parts-frame.result.channels.items (signals_of l)) (sym c.deref-4.ensures.value)
    (are_whole c.replace-boxes.result.items c.into_parts-frame.result.channels.items (signals_of c.replace-lanes.result.items) c.into_parts-frame.ensures.frame.0.0
    (subst (λ (w : WorldState). IsSound w) (sym same) c.into_parts-frame.ensures.sound)))

pub lay_parts-requires-clause-sides : goal.lay_parts-requires-clause-sides
lay_parts-requires-clause-sides c = λ part below.
    all_sides c.in_ok-division.division.assigned.items c.deref-2.result.now c.in_ok-division.division.count (inner_lists c.in_ok-ports.field-0.ports.items) c.in_ok-ports.field-0.crossings.items c.in_ok-ports.ensures part below
    ∙ ap (λ (l : List ChannelState). starts_in c.in_ok-division.division.assigned.items l part) (c.deref-2.ensures.value ∙ sym c.deref-3.ensures.value)

pub returns : goal.returns
returns c =
    let network : DividedNetwork = record {
      frame = record {
        boxes = c.replace-boxes.new.dest;
        channels = c.into_parts-frame.result.channels;
        lanes = c.replace-lanes.new.dest;
        topology = c.into_parts-frame.result.topology;
      };
      assigned = c.in_ok-division.division.assigned;
      numbers = c.in_ok-division.division.numbers;
      runs = c.in_ok-runs.runs;
      logs = c.in_ok-logs.logs;
      crossings = c.in_ok-ports.field-0.crossings;
      calm = c.none_shifts-calm.result;
      programs = c.some_program-programs.result;
      free = false;
    } in
    let boxes : List BoxState = c.replace-boxes.result.items in
    let channels : List ChannelState = c.into_parts-frame.result.channels.items in
    let lanes : List (List Tagged) = signals_of c.replace-lanes.result.items in
    let lists : List (List Port) = inner_lists c.in_ok-ports.field-0.ports.items in
    let same : world_of c.replace-boxes.result.items c.into_parts-frame.result.channels.items (signals_of c.replace-lanes.result.items) ≡ c.args.world =
    ap₂ (λ (b : List BoxState) (l : List (Queue Tagged)). world_of b c.into_parts-frame.result.channels.items (signals_of l)) (ap (λ (v : _). v.items) c.replace-boxes.ensures.value) (ap (λ (v : _). v.items) c.replace-lanes.ensures.value)
    ∙ c.into_parts-frame.ensures.state in
    let sound : IsSound (world_of boxes channels lanes) = subst (λ (w : WorldState). IsSound w) (sym same) c.into_parts-frame.ensures.sound in
    let boxes_are : boxes ≡ c.args.world.boxes = ap (λ (w : WorldState). w.boxes) same in
    let each : length c.in_ok-division.division.assigned.items ≡ length c.replace-boxes.result.items = search rules in
    let frame : FitsFrame network.frame channels (length boxes) = subst (λ (n : ℕ). FitsFrame network.frame channels n) (sym (ap length boxes_are)) c.into_parts-frame.ensures.frame.0 in
    let count : length lanes ≡ 2 * length channels =
    length-map c.replace-lanes.result.items (λ (lane : Queue Tagged). lane.items) ∙ (ap length (ap (λ (v : _). v.items) c.replace-lanes.ensures.value) ∙ c.into_parts-frame.ensures.frame.1) in
    let few = subst (λ (n : ℕ). n ≤ NETWORK_LIMIT) (sym (ap length boxes_are)) c.requires.few in
    let calm = subst (λ (l : List BoxState). IsTrue c.none_shifts-calm.result → (who : ℕ) → who < length l → is_enabled (get_or l who no_box) Shift ≡ false) (c.boxes.ensures ∙ sym boxes_are) c.none_shifts-calm.ensures in
    let out : IsLaidOut boxes lanes lists network =
    is_laid_out boxes lanes (signals_of c.deref-4.result.now) lists network c.in_ok-division.division.count c.deref-2.result.now c.deref-3.result.now c.deref-5.result.now sound frame few
    (are_whole boxes channels lanes c.into_parts-frame.ensures.frame.0.0 sound) count each c.in_ok-division.ensures.division c.in_ok-ports.ensures c.deref-2.ensures.value c.in_ok-runs.ensures c.deref-3.ensures.value
    (ap signals_of c.deref-4.ensures.value) c.in_ok-logs.ensures.numbers c.in_ok-logs.ensures.none c.in_ok-logs.ensures.clocks c.deref-5.ensures.value calm refl in
    record {
      divided = is_divided_network boxes lanes lists network out;
      state = state_is boxes lanes lists network out ∙ ap new_state same;
    }
