-- Boxes that ran freely, as the calls ask for them that gather their turns.
use Rattle.std.proofs.Common.{◌≡◌, ◌≤◌, ℕ, List, [], ◌∷◌, length, map, sym, ◌∙◌, ap, subst, refl}
use Rattle.std.specs.declared.alloc.Global.{Global}
use Rattle.std.specs.declared.vec.Vec.{Vec}
use Rattle.std.specs.Vec.{with_items}
use Rattle.std.proofs.lemmas.List.{length-map, with_items_is}
use Rattle.mc_box.specs.declared.event.Event.{Event}
use Rattle.mc_box.specs.declared.event.Turn.{Turn}
use Rattle.mc_desk.specs.declared.desk.Desk.{Desk}
use Rattle.mc_live.proofs.Freed.{TellsAt, free_runs_are_runs, have_worked}
use Rattle.mc_live.specs.Phases.{IsFreeRun, member_of}
use Rattle.mc_live.specs.declared.box_run.BoxRun.{BoxRun}
use Rattle.mc_phase.specs.Ran.{HasRunFrom}
use Rattle.mc_team.proofs.BoxRounds.{in_names_ran, logs_short, new_long, out_names_ran, ready_ran}
use Rattle.mc_team.proofs.OnLanes.{lanes_apart, tied_by}
use Rattle.mc_team.specs.Carries.{AreLanesApart, AreReady, AreTied, CarriesLanes, MemberRest, rest_of}
use Rattle.mc_team.specs.Ends.{stimuli_of}
use Rattle.mc_team.specs.Layouts.{inner_lists}
use Rattle.mc_team.specs.Logs.{AreShort, AreTurnsOf}
use Rattle.mc_team.specs.Rounds.{round_logs}
use Rattle.mc_team.specs.Turns.{HaveWorked, MadeTurns}
use Rattle.mc_team.specs.declared.boxes.TeamBoxes.{TeamBoxes}
use Rattle.mc_team.specs.declared.layout.LaneEnds.{LaneEnds}
use Rattle.mc_team.specs.declared.limit.TheConstants.{TEAM_LIMIT}
use Rattle.mc_team.specs.declared.member.Member.{Member}

-- they have worked
worked : (old : List Member) (desks : List Desk) (began free : List BoxRun) (team : TeamBoxes) → HasRunFrom old desks began free team → HaveWorked (TellsAt free) old (map member_of free)
worked old desks began free team has = have_worked old desks began free has.set has.ran has.calm

-- ---- what carrying asks for

pub can_carry_ready : (old : List Member) (desks : List Desk) (began free : List BoxRun) (team : TeamBoxes) → HasRunFrom old desks began free team → AreReady team.members.items
can_carry_ready old desks began free team has = subst AreReady (sym has.members) (ready_ran (worked old desks began free team has))

pub can_carry_tied : (old : List Member) (desks : List Desk) (began free : List BoxRun) (team : TeamBoxes) → HasRunFrom old desks began free team → AreTied team.members.items team.lanes.items
can_carry_tied old desks began free team has =
    let w = worked old desks began free team has in
    subst (λ (l : List Member). AreTied l team.lanes.items) (sym has.members) (tied_by team.lanes.items old (map member_of free) w.count (in_names_ran w) (out_names_ran w) has.stood.laid_out.tied)

pub can_carry_apart : (old : List Member) (desks : List Desk) (began free : List BoxRun) (team : TeamBoxes) → HasRunFrom old desks began free team → AreLanesApart team.lanes.items
can_carry_apart old desks began free team has = lanes_apart team.lanes.items (inner_lists team.ends.items) has.stood.laid_out.numbered

-- ---- what merging asks for

made : (old : List Member) (desks : List Desk) (began free : List BoxRun) (team : TeamBoxes) (new : List Member) → HasRunFrom old desks began free team → CarriesLanes team.lanes.items team.members.items new → MadeTurns (TellsAt free) team.lanes.items old (map member_of free) new
made old desks began free team new has carried = record { run = worked old desks began free team has; carried = subst (λ (l : List Member). CarriesLanes team.lanes.items l new) has.members carried }

pub can_merge_short : (old : List Member) (desks : List Desk) (began free : List BoxRun) (team : TeamBoxes) (new : List Member) → HasRunFrom old desks began free team → CarriesLanes team.lanes.items team.members.items new → AreShort (round_logs new)
can_merge_short old desks began free team new has carried = logs_short (made old desks began free team new has carried)

pub can_merge_few : (old : List Member) (desks : List Desk) (began free : List BoxRun) (team : TeamBoxes) (new : List Member) → HasRunFrom old desks began free team → CarriesLanes team.lanes.items team.members.items new → length new ≤ TEAM_LIMIT
can_merge_few old desks began free team new has carried = subst (λ (n : ℕ). n ≤ TEAM_LIMIT) (sym (new_long (made old desks began free team new has carried))) has.stood.few

-- ---- all

pub gathered : (old : List Member) (desks : List Desk) (began free : List BoxRun) (team : TeamBoxes) (new : List Member) (turns : List Turn) → HasRunFrom old desks began free team → CarriesLanes team.lanes.items team.members.items new → AreTurnsOf (round_logs new) turns
    → IsFreeRun team.channels.items team.lanes.items (inner_lists team.ends.items) old new free turns
gathered old desks began free team new turns has carried are =
    free_runs_are_runs team.channels.items team.lanes.items (inner_lists team.ends.items) old new desks began free turns has.stood has.set has.ran has.calm
    (subst (λ (l : List Member). CarriesLanes team.lanes.items l new) has.members carried) are

rests_long : (old new : List Member) → map rest_of new ≡ map rest_of old → length new ≡ length old
rests_long old new same = sym (length-map new rest_of) ∙ (ap (λ (l : List MemberRest). length l) same ∙ length-map old rest_of)

of_rests : (members : List Member) → map (λ (r : MemberRest). r.stimuli.items) (map rest_of members) ≡ stimuli_of members
of_rests [] = refl
of_rests (member ∷ members) = ap (λ (l : List (List Event)). member.worker.stimuli.items ∷ l) (of_rests members)

-- with the commands that they had
pub same_stimuli : (lanes : List LaneEnds) (members new : List Member) → CarriesLanes lanes members new → stimuli_of new ≡ stimuli_of members
same_stimuli lanes members new carried = sym (of_rests new) ∙ (ap (map (λ (r : MemberRest). r.stimuli.items)) carried.boxes.rest ∙ of_rests members)

-- there are as many boxes
pub as_many : (lanes : List LaneEnds) (members new : List Member) → CarriesLanes lanes members new → length new ≡ length members
as_many lanes members new carried = rests_long members new carried.boxes.rest

-- the items of a vector of which others were written to a slice
pub written : (lanes : List LaneEnds) (members : Vec Member Global) (lent new : List Member) → lent ≡ members.items → CarriesLanes lanes lent new → (with_items members new).items ≡ new
written lanes members lent new same carried = with_items_is members new (as_many lanes lent new carried ∙ (ap (λ (l : List Member). length l) same ∙ sym members.ok.0))
