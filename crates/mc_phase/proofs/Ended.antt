-- What is known of a phase after its last call.
use Rattle.std.proofs.Common.{◌≡◌, ◌≤◌, ℕ, zero, suc, List, [], ◌∷◌, length, map, replicate, refl, sym, ◌∙◌, ap, subst}
use Rattle.std.specs.List.{AllByRecursion}
use Rattle.std.specs.declared.alloc.Global.{Global}
use Rattle.std.specs.declared.vec.Vec.{Vec}
use Rattle.std.proofs.lemmas.List.{length-map}
use Rattle.mc_box.specs.declared.event.Event.{Event}
use Rattle.mc_box.specs.declared.event.Turn.{Turn}
use Rattle.mc_flight.specs.declared.limit.TheConstants.{SEAT_LIMIT}
use Rattle.mc_live.proofs.Freed.{three_count, zip_count}
use Rattle.mc_live.specs.BoxRuns.{HasRunFreely}
use Rattle.mc_live.specs.Phases.{IsFreeRun, IsSetFree, NoneRefused, member_of}
use Rattle.mc_live.specs.declared.box_run.BoxRun.{BoxRun}
use Rattle.mc_model.specs.Worlds.{ChannelState}
use Rattle.mc_phase.proofs.Phased.{IsKnown, asked_allowed, is_phase}
use Rattle.mc_phase.proofs.Taken.{taken_here}
use Rattle.mc_phase.specs.Asked.{AreHandsFor, hand_lists}
use Rattle.mc_phase.specs.Left.{turns_from}
use Rattle.mc_phase.specs.Prepared.{CanBeFree, IsFinished, IsPrepared}
use Rattle.mc_phase.specs.Ran.{HasRunFrom, HaveAllRun, IsPhase}
use Rattle.mc_phase.specs.declared.finishing.Finished.{Finished}
use Rattle.mc_phase.specs.declared.preparing.PhaseParts.{PhaseParts}
use Rattle.mc_script.specs.declared.command.Batch.{Batch}
use Rattle.mc_team.specs.Carries.{AreReady}
use Rattle.mc_team.specs.Ends.{stimuli_of}
use Rattle.mc_team.specs.Teams.{IsTeam, world_of}
use Rattle.mc_team.specs.declared.boxes.TeamBoxes.{TeamBoxes}
use Rattle.mc_team.specs.declared.layout.LaneEnds.{LaneEnds}
use Rattle.mc_team.specs.declared.member.Member.{Member}

-- ---- before the boxes run

-- where no command is left, none is left to any box
none_left : (n : ℕ) (members : List Member) → stimuli_of members ≡ replicate n [] → AllByRecursion (λ (member : Member). member.worker.stimuli.items ≡ []) members
none_left n [] none = tt
none_left zero (member ∷ members) none = absurd (cc)
none_left (suc n) (member ∷ members) none = (cc, none_left n members (cc))

free_by : (members : List Member) → AreReady members → AllByRecursion (λ (member : Member). member.worker.stimuli.items ≡ []) members → AllByRecursion CanBeFree members
free_by [] ready none = tt
free_by (member ∷ members) ready none = (record { ready = ready 0 member refl; none = none.0 }, free_by members (λ who other at. ready (suc who) other at) none.1)

-- the boxes of a team may be set free to which no command is left
pub can_be_free : (n : ℕ) (members : List Member) → AreReady members → stimuli_of members ≡ replicate n [] → AllByRecursion CanBeFree members
can_be_free n members ready none = free_by members ready (none_left n members none)

-- ---- after they ran

-- as many boxes ran as the team has members
ran_count : (members : List Member) (hands : List (Vec Turn Global)) (operators : ℕ) (before after : PhaseParts) → IsPrepared operators members before → HaveAllRun hands before after → length after.runs.items ≡ length members
ran_count members hands operators before after prepared all =
    three_count HasRunFreely before.desks.items before.runs.items after.runs.items all.ran ∙ zip_count IsSetFree members before.runs.items prepared.free

-- the members of the team are the boxes that ran
pub has_run : (operators : ℕ) (team : TeamBoxes) (hands : List (Vec Turn Global)) (before after : PhaseParts) (finished : Finished) → IsTeam team → IsPrepared operators team.members.items before → HaveAllRun hands before after → NoneRefused after.runs.items → IsFinished after.askers.items after.runs.items finished
    → HasRunFrom team.members.items before.desks.items before.runs.items after.runs.items (record team { members = finished.members })
has_run operators team hands before after finished is prepared all calm fin = record {
  stood = is;
  set = prepared.free;
  ran = all.ran;
  calm = calm;
  members = fin.members;
}

pub finished_count : (operators : ℕ) (members : List Member) (hands : List (Vec Turn Global)) (before after : PhaseParts) (finished : Finished) → IsPrepared operators members before → HaveAllRun hands before after → IsFinished after.askers.items after.runs.items finished
    → length finished.members.items ≡ length members
finished_count operators members hands before after finished prepared all fin =
    ap (λ (l : List Member). length l) fin.members ∙ (length-map after.runs.items member_of ∙ ran_count members hands operators before after prepared all)

stimuli_back : (runs : List BoxRun) → stimuli_of (map member_of runs) ≡ map (λ (run : BoxRun). run.worker.stimuli.items) runs
stimuli_back [] = refl
stimuli_back (run ∷ runs) = ap (λ (l : List (List Event)). run.worker.stimuli.items ∷ l) (stimuli_back runs)

known_by : (channels : List ChannelState) (lanes : List LaneEnds) (ends : List (List ℕ)) (old new : List Member) (hands : List (Vec Turn Global)) (before after : PhaseParts) (finished : Finished) (turns left : List Turn)
    → length old ≤ SEAT_LIMIT → AreHandsFor (world_of channels old lanes) (hand_lists hands) → IsPrepared (length hands) old before → HaveAllRun hands before after → NoneRefused after.runs.items → IsFinished after.askers.items after.runs.items finished
    → stimuli_of new ≡ stimuli_of finished.members.items → IsFreeRun channels lanes ends old new after.runs.items turns → left ≡ turns_from 0 (stimuli_of new)
    → IsKnown channels lanes ends (hand_lists hands) old new after.runs.items turns left
known_by channels lanes ends old new hands before after finished turns left few are prepared all calm fin stimuli free is_left =
    let each = taken_here (length hands) old hands before after.askers.items after.runs.items fin.rests prepared refl all.asked all.ran calm fin.are_rests in
    record {
      free = free;
      stimuli = stimuli ∙ (ap stimuli_of fin.members ∙ stimuli_back after.runs.items);
      are_left = is_left;
      taken = each;
      allowed = asked_allowed channels lanes (hand_lists hands) old before.desks.items before.runs.items after.runs.items are prepared.free all.ran calm each;
      few = few;
      count = ran_count old hands (length hands) before after prepared all;
    }

-- so it is a phase
pub phase_by : (channels now_channels : List ChannelState) (lanes now_lanes : List LaneEnds) (ends : List (List ℕ)) (old new : List Member) (hands : List (Vec Turn Global)) (before after : PhaseParts) (finished : Finished) (turns : Vec Turn Global) (left : Batch)
    → now_channels ≡ channels → now_lanes ≡ lanes
    → length old ≤ SEAT_LIMIT → AreHandsFor (world_of channels old lanes) (hand_lists hands) → IsPrepared (length hands) old before → HaveAllRun hands before after → NoneRefused after.runs.items → IsFinished after.askers.items after.runs.items finished
    → stimuli_of new ≡ stimuli_of finished.members.items → IsFreeRun now_channels now_lanes ends old new after.runs.items turns.items → left.turns.items ≡ turns_from 0 (stimuli_of new)
    → IsPhase (hand_lists hands) (world_of channels old lanes) (world_of now_channels new now_lanes) (record { turns = turns; taken = finished.taken; left = left; flight = finished.totals })
phase_by channels now_channels lanes now_lanes ends old new hands before after finished turns left same_channels same_lanes few are prepared all calm fin stimuli free is_left =
    let there = subst (λ (l : List LaneEnds). IsFreeRun channels l ends old new after.runs.items turns.items) same_lanes (subst (λ (l : List ChannelState). IsFreeRun l now_lanes ends old new after.runs.items turns.items) same_channels free) in
    let known = known_by channels lanes ends old new hands before after finished turns.items left.turns.items few are prepared all calm fin stimuli there is_left in
    let phase = is_phase after.askers.items finished turns left known fin in
    subst (λ (l : List ChannelState). IsPhase (hand_lists hands) (world_of channels old lanes) (world_of l new now_lanes) (record { turns = turns; taken = finished.taken; left = left; flight = finished.totals })) (sym same_channels)
    (subst (λ (l : List LaneEnds). IsPhase (hand_lists hands) (world_of channels old lanes) (world_of channels new l) (record { turns = turns; taken = finished.taken; left = left; flight = finished.totals })) (sym same_lanes) phase)
