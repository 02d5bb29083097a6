use Rattle.std.proofs.Common.{rules, ◌≡◌, List, Vec, Global, length, refl, ◌∙◌, ap, subst, arith}
use Rattle.std.proofs.lemmas.List.{length-map}
use Rattle.mc_phase.proofs.Closing.{can_close}
use Rattle.mc_phase.proofs.Ended.{finished_count, has_run, phase_by}
use Rattle.mc_phase.proofs.Hands.{desk_each, new_askers}
use Rattle.mc_live.specs.Phases.{NoneRefused}
use Rattle.mc_phase.specs.Left.{turns_from}
use Rattle.mc_team.specs.Ends.{stimuli_of}
use Rattle.mc_team.specs.Layouts.{inner_lists}
use Rattle.mc_team.specs.declared.layout.LaneEnds.{LaneEnds}
use Rattle.mc_phase.specs.Prepared.{IsPrepared}
use Rattle.mc_team.specs.Teams.{world_of}
use Rattle.mc_team.specs.declared.member.Member.{Member}
use Rattle.mc_phase.proofs.running.run_phase.Goals as goal

pub run_all-requires-clause-askers : goal.run_all-requires-clause-askers
run_all-requires-clause-askers g c κs within =
    let team = c.args.team.now in
    let same : c.replace-members.result ≡ team.members = search rules in
    let prepared : IsPrepared (length c.args.hands.now) team.members.items c.in_ok-parts.parts = subst (λ (v : Vec Member Global). IsPrepared (length c.args.hands.now) v.items c.in_ok-parts.parts) same c.in_ok-parts.ensures in
    new_askers (world_of team.channels.items team.members.items team.lanes.items) c.in_ok-parts.parts.desks.items c.args.hands.now c.in_ok-parts.parts.askers.items (length c.args.hands.now) c.requires.hands
    (length-map team.members.items (λ (m : Member). m.worker.part) ∙ desk_each (length c.args.hands.now) team.members.items c.in_ok-parts.parts prepared) prepared.are_askers refl

pub finish-requires : goal.finish-requires
finish-requires g c = can_close (length c.args.hands.now) c.replace-members.result.items c.args.hands.now c.in_ok-parts.parts c.run_all.new.parts c.in_ok-parts.ensures c.run_all.ensures

pub left_to-requires : goal.left_to-requires
left_to-requires g c =
    let team = c.args.team.now in
    let hands = c.args.hands.now in
    let same : c.replace-members.result ≡ team.members = search rules in
    let prepared : IsPrepared (length hands) team.members.items c.in_ok-parts.parts = subst (λ (v : Vec Member Global). IsPrepared (length hands) v.items c.in_ok-parts.parts) same c.in_ok-parts.ensures in
    let calm : NoneRefused c.run_all.new.parts.runs.items = subst NoneRefused c.deref.ensures.value c.in_ok-none_refused.ensures in
    let has = has_run (length hands) team hands c.in_ok-parts.parts c.run_all.new.parts c.in_ok-finished.finished c.requires.team prepared c.run_all.ensures calm c.in_ok-finished.ensures in
    let ran = c.in_ok-turns.ensures.run team.members.items c.in_ok-parts.parts.desks.items c.in_ok-parts.parts.runs.items c.run_all.new.parts.runs.items has in
    let few = ran.stand.few in
    let long : length c.deref-2.result.now ≡ length c.gather.new.team.members.items = ap (λ (l : List Member). length l) c.deref-2.ensures.value in
    record { few = omega (arith, few, long) }

pub returns-clause-team : goal.returns-clause-team
returns-clause-team g c =
    let team = c.args.team.now in
    let hands = c.args.hands.now in
    let same : c.replace-members.result ≡ team.members = search rules in
    let prepared : IsPrepared (length hands) team.members.items c.in_ok-parts.parts = subst (λ (v : Vec Member Global). IsPrepared (length hands) v.items c.in_ok-parts.parts) same c.in_ok-parts.ensures in
    let calm : NoneRefused c.run_all.new.parts.runs.items = subst NoneRefused c.deref.ensures.value c.in_ok-none_refused.ensures in
    let has = has_run (length hands) team hands c.in_ok-parts.parts c.run_all.new.parts c.in_ok-finished.finished c.requires.team prepared c.run_all.ensures calm c.in_ok-finished.ensures in
    (c.in_ok-turns.ensures.run team.members.items c.in_ok-parts.parts.desks.items c.in_ok-parts.parts.runs.items c.run_all.new.parts.runs.items has).stand

pub returns-clause-same : goal.returns-clause-same
returns-clause-same g c =
    let team = c.args.team.now in
    let hands = c.args.hands.now in
    let same : c.replace-members.result ≡ team.members = search rules in
    let prepared : IsPrepared (length hands) team.members.items c.in_ok-parts.parts = subst (λ (v : Vec Member Global). IsPrepared (length hands) v.items c.in_ok-parts.parts) same c.in_ok-parts.ensures in
    let kept = c.in_ok-turns.ensures.same in
    record {
      channels = kept.channels;
      lanes = kept.lanes;
      ends = kept.ends;
      count = kept.count ∙ finished_count (length hands) team.members.items hands c.in_ok-parts.parts c.run_all.new.parts c.in_ok-finished.finished prepared c.run_all.ensures c.in_ok-finished.ensures;
    }

pub returns-clause-phase : goal.returns-clause-phase
returns-clause-phase g c =
    let team = c.args.team.now in
    let new = c.gather.new.team in
    let hands = c.args.hands.now in
    let same : c.replace-members.result ≡ team.members = search rules in
    let prepared : IsPrepared (length hands) team.members.items c.in_ok-parts.parts = subst (λ (v : Vec Member Global). IsPrepared (length hands) v.items c.in_ok-parts.parts) same c.in_ok-parts.ensures in
    let calm : NoneRefused c.run_all.new.parts.runs.items = subst NoneRefused c.deref.ensures.value c.in_ok-none_refused.ensures in
    let has = has_run (length hands) team hands c.in_ok-parts.parts c.run_all.new.parts c.in_ok-finished.finished c.requires.team prepared c.run_all.ensures calm c.in_ok-finished.ensures in
    let ran = c.in_ok-turns.ensures.run team.members.items c.in_ok-parts.parts.desks.items c.in_ok-parts.parts.runs.items c.run_all.new.parts.runs.items has in
    let kept = c.in_ok-turns.ensures.same in
    let channels : new.channels.items ≡ team.channels.items = ap (λ v. v.items) kept.channels in
    let lanes : new.lanes.items ≡ team.lanes.items = ap (λ (v : Vec LaneEnds Global). v.items) kept.lanes in
    phase_by team.channels.items new.channels.items team.lanes.items new.lanes.items (inner_lists new.ends.items) team.members.items new.members.items hands c.in_ok-parts.parts c.run_all.new.parts c.in_ok-finished.finished c.in_ok-turns.turns c.in_ok-left.left
    channels lanes c.requires.few c.requires.hands prepared c.run_all.ensures calm c.in_ok-finished.ensures c.in_ok-turns.ensures.stimuli ran (c.in_ok-left.ensures ∙ ap (λ (l : List Member). turns_from 0 (stimuli_of l)) c.deref-2.ensures.value)
