use Rattle.std.proofs.Common.{◌≡◌, ◌<◌, ◌-◌, ◌^◌, All, IfOk, ℕ, List, length, subst, sym, ap, ◌∙◌, arith, rules}
use Rattle.std.proofs.lemmas.List.{with_items_is}
use Rattle.std.proofs.lemmas.List.FromFn.{length-map-range_with_len}
use Rattle.mc_part.proofs.Leads.{are_channels}
use Rattle.mc_part.specs.Divisions.{channels_in}
use Rattle.mc_model.specs.Worlds.{AreChannels}
use Rattle.mc_divided.specs.Laying.{AreFilled, AreNumbered, channel_numbers, first_slot, first_slots}
use Rattle.mc_divided.proofs.PartsLaid.{firsts_fit, laid_part, ports_below, ports_few}
use Rattle.mc_part.specs.declared.port.Port.{Port}
use Rattle.mc_world.specs.Lanes.{signals_of}
use Rattle.mc_divided.proofs.engines.lay_part.Goals as goal

pub first_slots-requires : goal.first_slots-requires
first_slots-requires c =
    subst AreChannels (sym (c.deref-3.ensures.value ∙ (c.in_ok-own.ensures ∙ ap (λ (l : List ℕ). channels_in l c.args.channels.now c.args.part) c.deref.ensures.value)))
    (are_channels c.args.division.now.assigned.items c.args.channels.now c.args.part c.requires.channels)

pub number_ports-requires-clause-ports : goal.number_ports-requires-clause-ports
number_ports-requires-clause-ports c =
    let few = ports_few c.args.division.now.assigned.items c.args.channels.now c.args.part c.args.ports.items c.requires.channels c.requires.together.sides_are in
    let same = ap (λ (l : List Port). length l) c.deref_mut.ensures.value in
    omega (arith, few, same)

pub number_ports-requires-clause-each : goal.number_ports-requires-clause-each
number_ports-requires-clause-each c =
    let below = ports_below c.args.division.now.assigned.items c.args.channels.now c.args.part c.args.ports.items c.requires.together.sides_are in
    let same = ap (λ (l : List Port). length l) c.deref_mut.ensures.value in
    let own : c.deref-4.result.now ≡ first_slots (channels_in c.args.division.now.assigned.items c.args.channels.now c.args.part) =
    c.deref-4.ensures.value ∙ (c.in_ok-firsts.ensures ∙ ap first_slots (c.deref-3.ensures.value ∙ (c.in_ok-own.ensures ∙ ap (λ (l : List ℕ). channels_in l c.args.channels.now c.args.part) c.deref.ensures.value))) in
    let count = ap (λ (l : List ℕ). length l) own
    ∙ length-map-range_with_len (first_slot (channels_in c.args.division.now.assigned.items c.args.channels.now c.args.part)) 0 (length (channels_in c.args.division.now.assigned.items c.args.channels.now c.args.part)) in
    omega (arith, below, same, count)

pub number_ports-requires-clause-fit : goal.number_ports-requires-clause-fit
number_ports-requires-clause-fit c =
    let own : c.deref-4.result.now ≡ first_slots (channels_in c.args.division.now.assigned.items c.args.channels.now c.args.part) =
    c.deref-4.ensures.value ∙ (c.in_ok-firsts.ensures ∙ ap first_slots (c.deref-3.ensures.value ∙ (c.in_ok-own.ensures ∙ ap (λ (l : List ℕ). channels_in l c.args.channels.now c.args.part) c.deref.ensures.value))) in
    subst (λ (l : List ℕ). All (λ (first : ℕ). first < 2 ^ 32 - 1) l) (sym own)
    (firsts_fit (channels_in c.args.division.now.assigned.items c.args.channels.now c.args.part) (are_channels c.args.division.now.assigned.items c.args.channels.now c.args.part c.requires.channels))

pub engine_for-requires-clause-channels : goal.engine_for-requires-clause-channels
engine_for-requires-clause-channels c =
    subst AreChannels (sym (c.in_ok-own.ensures ∙ ap (λ (l : List ℕ). channels_in l c.args.channels.now c.args.part) c.deref.ensures.value))
    (are_channels c.args.division.now.assigned.items c.args.channels.now c.args.part c.requires.channels)

pub engine_for-requires-clause-few : goal.engine_for-requires-clause-few
engine_for-requires-clause-few c =
    let few = ports_few c.args.division.now.assigned.items c.args.channels.now c.args.part c.args.ports.items c.requires.channels c.requires.together.sides_are in
    omega (arith, few, c.len.ensures, c.len-count.ensures, c.args.ports.ok.0, c.args.boxes.ok.0, c.requires.together.few)

pub returns : goal.returns
returns c =
    let own : c.in_ok-own.own.items ≡ channels_in c.args.division.now.assigned.items c.args.channels.now c.args.part =
    c.in_ok-own.ensures ∙ ap (λ (l : List ℕ). channels_in l c.args.channels.now c.args.part) c.deref.ensures.value in
    let firsts : c.deref-4.result.now ≡ first_slots (channels_in c.args.division.now.assigned.items c.args.channels.now c.args.part) =
    c.deref-4.ensures.value ∙ (c.in_ok-firsts.ensures ∙ ap first_slots (c.deref-3.ensures.value ∙ own)) in
    laid_part c.args.division.now.assigned.items c.args.channels.now (signals_of c.args.lanes.now) c.args.part c.args.boxes.items c.args.ports.items c.run_of.result c.in_ok-engine.engine c.fill.new.engine
    c.in_ok-own.own.items c.deref-4.result.now c.len-count.result c.number_ports.new.ports own firsts (search rules)
    (subst (λ (l : List Port). AreNumbered c.len-count.result c.deref-4.result.now l c.number_ports.new.ports) c.deref_mut.ensures.value c.number_ports.ensures)
    c.in_ok-engine.ensures
    (subst (λ (l : List ℕ). AreFilled l c.args.channels.now (signals_of c.args.lanes.now) c.args.part (channel_numbers l c.args.channels.now c.args.part) (length (channel_numbers l c.args.channels.now c.args.part)) c.fill.new.engine.lanes)
    c.deref-5.ensures.value c.in_ok-fill.ensures.filled)
    c.in_ok-fill.ensures.kept c.in_ok-fill.ensures.count c.run_of.ensures.engine
    (subst (λ (l : List Port). IfOk c.run_of.result (λ run. run.part.ports.items ≡ l)) (with_items_is c.args.ports c.number_ports.new.ports (c.number_ports.ensures.count ∙ c.deref_mut.ensures.len)) c.run_of.ensures.ports)
    c.run_of.ensures.fresh
