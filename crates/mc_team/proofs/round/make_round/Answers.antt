use Rattle.std.proofs.Common.{◌≡◌, List, Option, Vec, Global, length, sym, ◌∙◌, ap, subst, arith}
use Rattle.std.proofs.lemmas.List.{length-map}
use Rattle.std.specs.Vec.{with_items}
use Rattle.mc_box.specs.declared.event.Turn.{Turn}
use Rattle.mc_team.proofs.OnLanes.{lanes_apart}
use Rattle.mc_team.proofs.BoxRounds.{ready_ran}
use Rattle.mc_team.proofs.RoundMade.{all_ready, calls_made, few_then, ran_is, short_then, tied_ran}
use Rattle.mc_team.proofs.Stands.{have_worked}
use Rattle.mc_team.specs.Carries.{AreLanesApart, AreReady, AreTied}
use Rattle.mc_team.specs.Layouts.{inner_lists}
use Rattle.mc_team.specs.Logs.{AreShort, AreTurnsOf, log_lists}
use Rattle.mc_team.specs.OwnRounds.{AreOwnRounds}
use Rattle.mc_team.specs.Rounds.{IsTeamRound, round_logs, round_stops}
use Rattle.mc_team.specs.Teams.{team_of}
use Rattle.mc_team.specs.declared.layout.LaneEnds.{LaneEnds}
use Rattle.mc_team.specs.declared.member.Member.{Member}
use Rattle.mc_worker.specs.declared.logged.Logged.{Logged}
use Rattle.mc_worker.specs.declared.stop.Stop.{Stop}
use Rattle.mc_team.proofs.round.make_round.Goals as goal

-- the turns of the logs that were lent are those of the logs
logged : (lent logs : List (Vec Logged Global)) (turns : List Turn) → lent ≡ logs → AreTurnsOf (log_lists lent) turns → AreTurnsOf (log_lists logs) turns
logged lent logs turns same are = subst (λ (l : List (Vec Logged Global)). AreTurnsOf (log_lists l) turns) same are

pub run_boxes-requires-clause-ready : goal.run_boxes-requires-clause-ready
run_boxes-requires-clause-ready g c κs within = all_ready c.deref_mut.result.now (subst AreReady (sym c.deref_mut.ensures.value) c.requires.ready)

pub carry_all-requires-clause-ready : goal.carry_all-requires-clause-ready
carry_all-requires-clause-ready g c =
    subst AreReady (sym (ran_is c.args.retries c.args.team.now.members c.deref_mut.result.now c.deref_mut-2.result.now c.run_boxes.new.members c.deref_mut.ensures.value c.run_boxes.ensures c.deref_mut-2.ensures.value)) (ready_ran (have_worked c.run_boxes.ensures))

pub carry_all-requires-clause-tied : goal.carry_all-requires-clause-tied
carry_all-requires-clause-tied g c =
    let lanes : List LaneEnds = c.args.team.now.lanes.items in
    subst (λ (l : List LaneEnds). AreTied c.deref_mut-2.result.now l) (sym c.deref-2.ensures.value)
    (subst (λ (s : List Member). AreTied s lanes) (sym (ran_is c.args.retries c.args.team.now.members c.deref_mut.result.now c.deref_mut-2.result.now c.run_boxes.new.members c.deref_mut.ensures.value c.run_boxes.ensures c.deref_mut-2.ensures.value))
    (tied_ran c.args.retries lanes c.deref_mut.result.now c.run_boxes.new.members c.run_boxes.ensures (subst (λ (s : List Member). AreTied s lanes) (sym c.deref_mut.ensures.value) c.requires.laid_out.tied)))

pub carry_all-requires-clause-apart : goal.carry_all-requires-clause-apart
carry_all-requires-clause-apart g c = subst AreLanesApart (sym c.deref-2.ensures.value) (lanes_apart c.args.team.now.lanes.items (inner_lists c.args.team.now.ends.items) c.requires.laid_out.numbered)

pub merge-requires-clause-short : goal.merge-requires-clause-short
merge-requires-clause-short g c =
    let team = c.args.team.now in
    subst (λ (l : List (Vec Logged Global)). AreShort (log_lists l)) (sym c.deref-5.ensures.value)
    (short_then c.args.retries team.lanes.items c.deref-2.result.now team.members c.deref_mut.result.now c.deref_mut-2.result.now c.deref-3.result.now c.run_boxes.new.members c.carry_all.new.members (log_lists c.in_ok-logs.logs.items)
    c.deref_mut.ensures.value c.run_boxes.ensures c.deref_mut-2.ensures.value c.deref-2.ensures.value c.in_ok-carry_all.ensures c.deref-3.ensures.value c.in_ok-logs.ensures)

pub merge-requires-clause-few : goal.merge-requires-clause-few
merge-requires-clause-few g c =
    let team = c.args.team.now in
    let few = few_then c.args.retries team.lanes.items c.deref-2.result.now team.members c.deref_mut.result.now c.deref_mut-2.result.now c.deref-3.result.now c.run_boxes.new.members c.carry_all.new.members (log_lists c.in_ok-logs.logs.items) c.requires.few
    c.deref_mut.ensures.value c.run_boxes.ensures c.deref_mut-2.ensures.value c.deref-2.ensures.value c.in_ok-carry_all.ensures c.deref-3.ensures.value c.in_ok-logs.ensures in
    let count = length-map c.in_ok-logs.logs.items (λ (log : Vec Logged Global). log.items) in
    let lent : length c.deref-5.result.now ≡ length c.in_ok-logs.logs.items = ap (λ (l : List (Vec Logged Global)). length l) c.deref-5.ensures.value in
    omega arith

pub returns-clause-team : goal.returns-clause-team
returns-clause-team g c =
    let team = c.args.team.now in
    (calls_made c.args.retries team.channels.items team.lanes.items c.deref-2.result.now (inner_lists team.ends.items) team.members c.deref_mut.result.now c.deref.result.now c.deref_mut-2.result.now c.deref-3.result.now c.run_boxes.new.members c.carry_all.new.members c.in_ok-turns.turns.items (log_lists c.in_ok-logs.logs.items) c.requires c.deref_mut.ensures.value c.run_boxes.ensures c.deref.ensures.value c.in_ok-none_refused.ensures c.deref_mut-2.ensures.value c.deref-2.ensures.value c.in_ok-carry_all.ensures c.deref-3.ensures.value c.in_ok-logs.ensures (logged c.deref-5.result.now c.in_ok-logs.logs.items c.in_ok-turns.turns.items c.deref-5.ensures.value c.in_ok-turns.ensures)).stand

pub returns-clause-round : goal.returns-clause-round
returns-clause-round g c =
    let team = c.args.team.now in
    let made = calls_made c.args.retries team.channels.items team.lanes.items c.deref-2.result.now (inner_lists team.ends.items) team.members c.deref_mut.result.now c.deref.result.now c.deref_mut-2.result.now c.deref-3.result.now c.run_boxes.new.members c.carry_all.new.members c.in_ok-turns.turns.items (log_lists c.in_ok-logs.logs.items) c.requires c.deref_mut.ensures.value c.run_boxes.ensures c.deref.ensures.value c.in_ok-none_refused.ensures c.deref_mut-2.ensures.value c.deref-2.ensures.value c.in_ok-carry_all.ensures c.deref-3.ensures.value c.in_ok-logs.ensures (logged c.deref-5.result.now c.in_ok-logs.logs.items c.in_ok-turns.turns.items c.deref-5.ensures.value c.in_ok-turns.ensures) in
    subst (λ (s : List (Option Stop)). IsTeamRound c.args.retries (team_of team.channels.items team.members.items team.lanes.items) (team_of team.channels.items (with_items (with_items team.members c.run_boxes.new.members) c.carry_all.new.members).items team.lanes.items) c.in_ok-turns.turns.items s)
    (sym (c.in_ok-stops.ensures ∙ ap round_stops c.deref-4.ensures.value)) made.round

pub returns-clause-logs : goal.returns-clause-logs
returns-clause-logs g c = logged c.deref-5.result.now c.in_ok-logs.logs.items c.in_ok-turns.turns.items c.deref-5.ensures.value c.in_ok-turns.ensures

pub returns-clause-own : goal.returns-clause-own
returns-clause-own g c =
    let team = c.args.team.now in
    let made = calls_made c.args.retries team.channels.items team.lanes.items c.deref-2.result.now (inner_lists team.ends.items) team.members c.deref_mut.result.now c.deref.result.now c.deref_mut-2.result.now c.deref-3.result.now c.run_boxes.new.members c.carry_all.new.members c.in_ok-turns.turns.items (log_lists c.in_ok-logs.logs.items) c.requires c.deref_mut.ensures.value c.run_boxes.ensures c.deref.ensures.value c.in_ok-none_refused.ensures c.deref_mut-2.ensures.value c.deref-2.ensures.value c.in_ok-carry_all.ensures c.deref-3.ensures.value c.in_ok-logs.ensures (logged c.deref-5.result.now c.in_ok-logs.logs.items c.in_ok-turns.turns.items c.deref-5.ensures.value c.in_ok-turns.ensures) in
    subst (λ (l : List (List Logged)). AreOwnRounds c.args.retries (team_of team.channels.items team.members.items team.lanes.items) (team_of team.channels.items (with_items (with_items team.members c.run_boxes.new.members) c.carry_all.new.members).items team.lanes.items) l c.in_ok-stops.stops.items)
    (sym (c.in_ok-logs.ensures ∙ ap round_logs c.deref-3.ensures.value))
    (subst (λ (s : List (Option Stop)). AreOwnRounds c.args.retries (team_of team.channels.items team.members.items team.lanes.items) (team_of team.channels.items (with_items (with_items team.members c.run_boxes.new.members) c.carry_all.new.members).items team.lanes.items)
    (round_logs (with_items (with_items team.members c.run_boxes.new.members) c.carry_all.new.members).items) s)
    (sym (c.in_ok-stops.ensures ∙ ap round_stops c.deref-4.ensures.value)) made.own)
