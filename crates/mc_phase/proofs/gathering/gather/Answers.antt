use Rattle.std.proofs.Common.{◌≡◌, List, Vec, Global, length, refl, sym, ◌∙◌, ap, subst, arith}
use Rattle.std.specs.Vec.{with_items}
use Rattle.std.proofs.lemmas.Result.{IfOk-weaker}
use Rattle.std.proofs.lemmas.List.{length-map}
use Rattle.mc_box.specs.declared.event.Turn.{Turn}
use Rattle.mc_desk.specs.declared.desk.Desk.{Desk}
use Rattle.mc_live.specs.Phases.{IsFreeRun}
use Rattle.mc_live.specs.declared.box_run.BoxRun.{BoxRun}
use Rattle.mc_phase.proofs.Gathered.{can_carry_ready, can_carry_tied, can_merge_few, can_merge_short, gathered, same_stimuli, written}
use Rattle.mc_phase.proofs.Sets.{on_ok}
use Rattle.mc_phase.specs.Ran.{HasRunFrom}
use Rattle.mc_team.specs.Carries.{AreReady, AreTied, CarriesLanes}
use Rattle.mc_team.specs.Ends.{stimuli_of}
use Rattle.mc_team.specs.Layouts.{inner_lists}
use Rattle.mc_team.specs.Logs.{AreShort, AreTurnsOf, log_lists}
use Rattle.mc_team.specs.Rounds.{round_logs}
use Rattle.mc_team.specs.declared.boxes.TeamBoxes.{TeamBoxes}
use Rattle.mc_team.specs.declared.layout.LaneEnds.{LaneEnds}
use Rattle.mc_team.specs.declared.member.Member.{Member}
use Rattle.mc_worker.specs.declared.logged.Logged.{Logged}
use Rattle.mc_phase.proofs.gathering.gather.Goals as goal

-- what was carried, in the words of the team
carried_by : (team : TeamBoxes) (lanes : List LaneEnds) (lent new : List Member) → lanes ≡ team.lanes.items → lent ≡ team.members.items → CarriesLanes lanes lent new → CarriesLanes team.lanes.items team.members.items new
carried_by team lanes lent new is are carried = subst (λ (l : List LaneEnds). CarriesLanes l team.members.items new) is (subst (λ (m : List Member). CarriesLanes lanes m new) are carried)

items_by : (team : TeamBoxes) (lanes : List LaneEnds) (lent new : List Member) → lanes ≡ team.lanes.items → lent ≡ team.members.items → CarriesLanes lanes lent new → (with_items team.members new).items ≡ new
items_by team lanes lent new is are carried = written team.lanes.items team.members team.members.items new refl (carried_by team lanes lent new is are carried)

pub carry_all-requires-clause-ready : goal.carry_all-requires-clause-ready
carry_all-requires-clause-ready c =
    let r = c.requires in
    subst AreReady (sym c.deref_mut.ensures.value) (can_carry_ready r.0 r.1 r.2 r.3 c.args.team.now r.4)

pub carry_all-requires-clause-tied : goal.carry_all-requires-clause-tied
carry_all-requires-clause-tied c =
    let r = c.requires in
    subst (λ (l : List LaneEnds). AreTied c.deref_mut.result.now l) (sym c.deref.ensures.value) (subst (λ (m : List Member). AreTied m c.args.team.now.lanes.items) (sym c.deref_mut.ensures.value) (can_carry_tied r.0 r.1 r.2 r.3 c.args.team.now r.4))

pub merge-requires-clause-few : goal.merge-requires-clause-few
merge-requires-clause-few c =
    let r = c.requires in
    let team = c.args.team.now in
    let new = c.carry_all.new.members in
    let carried = carried_by team c.deref.result.now c.deref_mut.result.now new c.deref.ensures.value c.deref_mut.ensures.value c.in_ok-carry_all.ensures in
    let is = items_by team c.deref.result.now c.deref_mut.result.now new c.deref.ensures.value c.deref_mut.ensures.value c.in_ok-carry_all.ensures in
    let few = can_merge_few r.0 r.1 r.2 r.3 team new r.4 carried in
    let one : length c.deref-3.result.now ≡ length c.in_ok-logs.logs.items = ap (λ (l : List (Vec Logged Global)). length l) c.deref-3.ensures.value in
    let two = length-map c.in_ok-logs.logs.items (λ (log : Vec Logged Global). log.items) in
    let three : length (log_lists c.in_ok-logs.logs.items) ≡ length (round_logs new) = ap (λ (l : List (List Logged)). length l) (c.in_ok-logs.ensures ∙ ap round_logs (c.deref-2.ensures.value ∙ is)) in
    let four = length-map new (λ (member : Member). member.worker.log.items) in
    omega (arith, few, one, two, three, four)

pub merge-requires-clause-short : goal.merge-requires-clause-short
merge-requires-clause-short c =
    let r = c.requires in
    let team = c.args.team.now in
    let new = c.carry_all.new.members in
    let carried = carried_by team c.deref.result.now c.deref_mut.result.now new c.deref.ensures.value c.deref_mut.ensures.value c.in_ok-carry_all.ensures in
    let is = items_by team c.deref.result.now c.deref_mut.result.now new c.deref.ensures.value c.deref_mut.ensures.value c.in_ok-carry_all.ensures in
    subst AreShort (sym (ap log_lists c.deref-3.ensures.value ∙ (c.in_ok-logs.ensures ∙ ap round_logs (c.deref-2.ensures.value ∙ is)))) (can_merge_short r.0 r.1 r.2 r.3 team new r.4 carried)

pub returns-clause-stimuli : goal.returns-clause-stimuli
returns-clause-stimuli c =
    let team = c.args.team.now in
    let new = c.carry_all.new.members in
    let carried = carried_by team c.deref.result.now c.deref_mut.result.now new c.deref.ensures.value c.deref_mut.ensures.value c.in_ok-carry_all.ensures in
    let is = items_by team c.deref.result.now c.deref_mut.result.now new c.deref.ensures.value c.deref_mut.ensures.value c.in_ok-carry_all.ensures in
    on_ok c.merge.result _ (ap stimuli_of is ∙ same_stimuli team.lanes.items team.members.items new carried)

pub returns-clause-run : goal.returns-clause-run
returns-clause-run c =
    let team = c.args.team.now in
    let new = c.carry_all.new.members in
    let carried = carried_by team c.deref.result.now c.deref_mut.result.now new c.deref.ensures.value c.deref_mut.ensures.value c.in_ok-carry_all.ensures in
    let is = items_by team c.deref.result.now c.deref_mut.result.now new c.deref.ensures.value c.deref_mut.ensures.value c.in_ok-carry_all.ensures in
    IfOk-weaker c.merge.result (λ (turns : Vec Turn Global). AreTurnsOf (log_lists c.deref-3.result.now) turns.items)
    (λ (turns : Vec Turn Global). (old : List Member) (desks : List Desk) (began free : List BoxRun) → HasRunFrom old desks began free team → IsFreeRun team.channels.items team.lanes.items (inner_lists team.ends.items) old (with_items team.members new).items free turns.items)
    (λ turns are old desks began free has. subst (λ (m : List Member). IsFreeRun team.channels.items team.lanes.items (inner_lists team.ends.items) old m free turns.items) (sym is)
    (gathered old desks began free team new turns.items has carried (subst (λ (l : List (List Logged)). AreTurnsOf l turns.items) (ap log_lists c.deref-3.ensures.value ∙ (c.in_ok-logs.ensures ∙ ap round_logs (c.deref-2.ensures.value ∙ is))) are))) c.merge.ensures
