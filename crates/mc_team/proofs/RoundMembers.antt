-- What a round does to each box, and that a box of a team has work just where something waits for its worker.
use Rattle.std.proofs.Common.{◌≡◌, ◌≢◌, ◌⊎◌, inl, inr, ℕ, ◌<◌, ◌&&◌, Bool, true, false, IsTrue, List, [], ◌∷◌, length, map, nat_lt, slice_get, slice_index_or, Some, refl, sym, ◌∙◌, ap, subst, arith}
use Rattle.std.proofs.lemmas.Bool.{both_ways, cases_lt, lt-ltb}
use Rattle.std.proofs.lemmas.List.{get_or_past, length-map}
use Rattle.std.proofs.lemmas.Option.{slice_get_within, slice_get-get_or}
use Rattle.mc_box.specs.BoxEvents.{is_enabled}
use Rattle.mc_box.specs.Boxes.{BoxState, box_owes, is_slot, no_box}
use Rattle.mc_box.specs.declared.event.Event.TheVariants.{Retry, Shift}
use Rattle.mc_box.specs.declared.limit.TheConstants.{SHIFT_LIMIT}
use Rattle.mc_port.specs.Entries.{Claimed}
use Rattle.mc_merge.specs.LaneLogs.{claimed_of}
use Rattle.mc_merge.specs.Lanes.{leads_to}
use Rattle.mc_model.specs.Settles.{world_owes}
use Rattle.mc_model.specs.Worlds.{ChannelState, box_at}
use Rattle.mc_order.specs.Keys.{IsOrdered}
use Rattle.mc_order.specs.declared.Key.{Key}
use Rattle.mc_port.specs.declared.stamped.Stamped.{Stamped}
use Rattle.mc_signal.specs.declared.Tagged.{Tagged}
use Rattle.mc_team.proofs.CarriedLanes.{leads_where}
use Rattle.mc_team.proofs.Lists.{at_some, there_is}
use Rattle.mc_team.proofs.MemberLists.{rest_at, rests_long}
use Rattle.mc_team.proofs.Pairs.{here_in}
use Rattle.mc_team.proofs.Stands.{BoxRound, IsKept, MadeNone, MadeOne, kept_by}
use Rattle.mc_team.specs.Carries.{rest_of}
use Rattle.mc_team.specs.Ends.{parts_of, taking_end}
use Rattle.mc_team.specs.Layouts.{at_end, ends_of_lane, no_lane_ends, of_box}
use Rattle.mc_team.specs.Logs.{log_stamps}
use Rattle.mc_team.specs.Rounds.{round_logs}
use Rattle.mc_team.specs.Runs.{IsLookedAt, NoneRefused}
use Rattle.mc_team.specs.Teams.{AreLaidOut, HasTeamWork, StandForWorld, by_command, by_program, by_retry, by_signal, shifts_at, stimuli_at, team_of, world_of}
use Rattle.mc_team.specs.Turns.{AreTurnsClaimed, MadeTurns}
use Rattle.mc_team.specs.declared.layout.LaneEnds.{LaneEnds}
use Rattle.mc_team.specs.declared.member.Member.{Member}
use Rattle.mc_worker.specs.Account.{in_at}
use Rattle.mc_worker.specs.Ends.{InEnd, next_from, unclaimed}
use Rattle.mc_worker.specs.Ready.{IsReady}
use Rattle.mc_worker.specs.Rounds.{HasWaitingWork, HasWork, by_retry as retry_work, by_shift as shift_work, by_signal as signal_work, by_stimulus as stimulus_work, waiting_retry, waiting_shift, waiting_signal, waiting_stimulus}
use Rattle.mc_worker.specs.declared.worker.Worker.{Worker}

-- ---- one worker

-- where the inbox has something there is a next item
some_next : (inbox : List Tagged) (known : List Stamped) → inbox ≢ [] → (item : Stamped) × (next_from inbox known ≡ Some item)
some_next [] known some = absurd (some refl)
some_next (tagged ∷ rest) known some = (unclaimed tagged, refl)

-- an end where something waits is there
end_there : (w : Worker) (end : ℕ) → length w.inboxes ≡ length w.ins.items → (in_at w end).inbox ≢ [] → end < length w.ins.items
end_there w end long some = elim (cases_lt end (length w.ins.items)) [
  | inl below ↦ below
  | inr past ↦ absurd (some (get_or_past w.inboxes end [] (omega arith)))
]

-- what waits is work
pub has_work : (retries : Bool) (w : Worker) → length w.inboxes ≡ length w.ins.items → HasWaitingWork retries w → HasWork retries w
has_work retries w long (waiting_stimulus some) = stimulus_work some
has_work retries w long (waiting_shift less on) = shift_work less on
has_work retries w long (waiting_signal end some) = let next = some_next (in_at w end).inbox (in_at w end).known some in signal_work end next.0 (end_there w end long some) next.1
has_work retries w long (waiting_retry on owes) = retry_work on owes

-- ---- one box

-- a box before a round, as it was looked at, when it had run, and after the carrying; and whether it made a round
pub record MemberRound (retries : Bool) (old ran new : List Member) (who : ℕ) (log : List Claimed) : Type 0 where
  pub a : Member
  pub b : Member
  pub c : Member
  pub d : Member
  pub at_first : slice_get old who ≡ Some a
  pub at_run : slice_get ran who ≡ Some c
  pub at_last : slice_get new who ≡ Some d
  pub looks : IsLookedAt a b
  pub kept : IsKept a.worker b.worker
  pub did : MadeOne retries a b c log ⊎ MadeNone retries a b c log
  pub rest : rest_of d ≡ rest_of c

-- ---- where a lane leads to

-- the box at a lane's end is the one to which the world's lane leads
pub leads_is : (channels : List ChannelState) (members : List Member) (lanes : List LaneEnds) (ends : List (List ℕ)) (lane : ℕ) → AreLaidOut channels members lanes ends → lane < length lanes
    → (ends_of_lane lanes lane).to ≡ leads_to (world_of channels members lanes) lane
leads_is channels members lanes ends lane laid below = sym (leads_where (world_of channels members lanes) lanes lane laid.lane_count laid.joins below).0

-- ---- the work of a box, as the world has it

-- the world has a box for each member
pub parts_long : (members : List Member) → length (parts_of members) ≡ length members
parts_long members = length-map members (λ (s : Member). s.worker.part)

-- it is the one in the member
pub part_is : (channels : List ChannelState) (members : List Member) (lanes : List LaneEnds) (who : ℕ) (member : Member) → slice_get members who ≡ Some member → box_at (world_of channels members lanes) who ≡ member.worker.part
part_is channels members lanes who member at = at_some (λ (s : Member). s.worker.part) members who member no_box at

-- with the commands that wait there
pub stimuli_is : (channels : List ChannelState) (members : List Member) (lanes : List LaneEnds) (who : ℕ) (member : Member) → slice_get members who ≡ Some member → stimuli_at (team_of channels members lanes) who ≡ member.worker.stimuli.items
stimuli_is channels members lanes who member at = at_some (λ (s : Member). s.worker.stimuli.items) members who member [] at

-- and the Shifts that were made there
pub shifts_is : (channels : List ChannelState) (members : List Member) (lanes : List LaneEnds) (who : ℕ) (member : Member) → slice_get members who ≡ Some member → shifts_at (team_of channels members lanes) who ≡ member.worker.shifts
shifts_is channels members lanes who member at = at_some (λ (s : Member). s.worker.shifts) members who member 0 at

-- a box that is there owes what its part does
owes_by : (here : Bool) (box part : BoxState) (local : ℕ) → here ≡ true → box ≡ part → (here && is_slot box local && box_owes box local) ≡ is_enabled part (Retry local)
owes_by true box part local on is = ap (λ (b : BoxState). is_slot b local && box_owes b local) is
owes_by false box part local on is = absurd (both_ways false refl on)

-- so the world has it owe what the member's box owes
pub owes_is : (channels : List ChannelState) (members : List Member) (lanes : List LaneEnds) (who local : ℕ) (member : Member) → slice_get members who ≡ Some member
    → world_owes (world_of channels members lanes) who local ≡ is_enabled member.worker.part (Retry local)
owes_is channels members lanes who local member at =
    let below : who < length members = slice_get_within members who member at in
    owes_by (nat_lt who (length (parts_of members))) (box_at (world_of channels members lanes) who) member.worker.part local
    (lt-ltb who (length (parts_of members)) (subst (λ (n : ℕ). who < n) (sym (length-map members (λ (s : Member). s.worker.part))) below))
    (part_is channels members lanes who member at)

-- what is on a lane of the world
pub lane_has : (channels : List ChannelState) (members : List Member) (lanes : List LaneEnds) (lane : ℕ) → lane < length lanes
    → slice_index_or (world_of channels members lanes).lanes lane [] ≡ (taking_end members (ends_of_lane lanes lane)).inbox
lane_has channels members lanes lane below = at_some (λ (ends : LaneEnds). (taking_end members ends).inbox) lanes lane (ends_of_lane lanes lane) [] (slice_get-get_or lanes lane no_lane_ends below)

-- where the lane leads to this box, that waits at an end of its worker
pub lane_waits : (channels : List ChannelState) (members : List Member) (lanes : List LaneEnds) (who lane : ℕ) (member : Member) → slice_get members who ≡ Some member → lane < length lanes → (ends_of_lane lanes lane).to ≡ who
    → slice_index_or (world_of channels members lanes).lanes lane [] ≡ (in_at member.worker (ends_of_lane lanes lane).to_end).inbox
lane_waits channels members lanes who lane member at below to =
    lane_has channels members lanes lane below
    ∙ ap (λ (end : InEnd). end.inbox) (here_in members (ends_of_lane lanes lane).to (ends_of_lane lanes lane).to_end member (subst (λ (n : ℕ). slice_get members n ≡ Some member) (sym to) at))

-- so what work a team's box has waits for its worker
pub team_waits : (retries : Bool) (channels : List ChannelState) (members : List Member) (lanes : List LaneEnds) (ends : List (List ℕ)) (who : ℕ) (member : Member) → AreLaidOut channels members lanes ends → slice_get members who ≡ Some member
    → HasTeamWork retries (team_of channels members lanes) who → HasWaitingWork retries member.worker
team_waits retries channels members lanes ends who member laid at (by_command some) = waiting_stimulus (λ none. some (stimuli_is channels members lanes who member at ∙ none))
team_waits retries channels members lanes ends who member laid at (by_program less on) =
    waiting_shift (subst (λ (n : ℕ). n < SHIFT_LIMIT) (shifts_is channels members lanes who member at) less) (subst (λ (box : BoxState). IsTrue (is_enabled box Shift)) (part_is channels members lanes who member at) on)
team_waits retries channels members lanes ends who member laid at (by_signal lane inside leads some) =
    let below : lane < length lanes = subst (λ (n : ℕ). lane < n) (length-map lanes (λ (e : LaneEnds). (taking_end members e).inbox)) inside in
    let to : (ends_of_lane lanes lane).to ≡ who = leads_is channels members lanes ends lane laid below ∙ leads in
    waiting_signal (ends_of_lane lanes lane).to_end (λ none. some (lane_waits channels members lanes who lane member at below to ∙ none))
team_waits retries channels members lanes ends who member laid at (by_retry on local owed) =
    waiting_retry on (record { slot = local; owed = sym (owes_is channels members lanes who local member at) ∙ owed })

-- a channel end of a box has a lane
pub record HasLane (lanes : List LaneEnds) (ends : List (List ℕ)) (who end : ℕ) : Type 0 where
  pub lane : ℕ
  pub at : at_end ends who end ≡ Some lane
  pub below : lane < length lanes
  pub to : (ends_of_lane lanes lane).to ≡ who
  pub to_end : (ends_of_lane lanes lane).to_end ≡ end

-- so it is with each end
pub has_lane : (channels : List ChannelState) (members : List Member) (lanes : List LaneEnds) (ends : List (List ℕ)) (who end : ℕ) (member : Member) → AreLaidOut channels members lanes ends → slice_get members who ≡ Some member
    → end < length member.worker.ins.items → HasLane lanes ends who end
has_lane channels members lanes ends who end member laid at there =
    let one = there_is (of_box ends who) end (subst (λ (n : ℕ). end < n) (laid.end_count who member at) there) in
    let taker = laid.numbered.taker who end one.0 one.1 in
    record { lane = one.0; at = one.1; below = laid.numbered.there who end one.0 one.1; to = taker.0; to_end = taker.1 }

-- and what waits for the worker is work of the team's box
pub waits_team : (retries : Bool) (channels : List ChannelState) (members : List Member) (lanes : List LaneEnds) (ends : List (List ℕ)) (who : ℕ) (member : Member) → AreLaidOut channels members lanes ends → slice_get members who ≡ Some member
    → IsReady member.worker → HasWaitingWork retries member.worker → HasTeamWork retries (team_of channels members lanes) who
waits_team retries channels members lanes ends who member laid at ready (waiting_stimulus some) = by_command (λ none. some (sym (stimuli_is channels members lanes who member at) ∙ none))
waits_team retries channels members lanes ends who member laid at ready (waiting_shift less on) =
    by_program (subst (λ (n : ℕ). n < SHIFT_LIMIT) (sym (shifts_is channels members lanes who member at)) less) (subst (λ (box : BoxState). IsTrue (is_enabled box Shift)) (sym (part_is channels members lanes who member at)) on)
waits_team retries channels members lanes ends who member laid at ready (waiting_signal end some) =
    let one = has_lane channels members lanes ends who end member laid at (end_there member.worker end ready.shaped.inboxes some) in
    by_signal one.lane (subst (λ (n : ℕ). one.lane < n) (sym (length-map lanes (λ (e : LaneEnds). (taking_end members e).inbox))) one.below)
    (sym (leads_is channels members lanes ends one.lane laid one.below) ∙ one.to)
    (λ none. some (ap (λ (e : ℕ). (in_at member.worker e).inbox) (sym one.to_end) ∙ (sym (lane_waits channels members lanes who one.lane member at one.below one.to) ∙ none)))
waits_team retries channels members lanes ends who member laid at ready (waiting_retry on owes) = by_retry on owes.slot (owes_is channels members lanes who owes.slot member at ∙ owes.owed)

-- ---- a whole round

-- a round of boxes that stand for a world, in which no box was refused, and what its logs are
pub record Round (retries : Bool) (channels : List ChannelState) (lanes : List LaneEnds) (ends : List (List ℕ)) (old ran new : List Member) (keys : List Key) : Type 0 where
  pub stand : StandForWorld channels old lanes ends
  pub made : MadeTurns (λ (who : ℕ). BoxRound retries) lanes old ran new
  pub calm : NoneRefused new
  pub ordered : IsOrdered (map log_stamps (round_logs new)) keys
  pub claimed : AreTurnsClaimed (λ (who : ℕ). BoxRound retries) channels lanes old ran new

-- each box has its round in it
pub member_of : {retries : Bool} {channels : List ChannelState} {lanes : List LaneEnds} {ends : List (List ℕ)} {old ran new : List Member} {keys : List Key}
    → (r : Round retries channels lanes ends old ran new keys) (who : ℕ) → who < length old → MemberRound retries old ran new who (claimed_of r.claimed.logs who)
member_of {old = old} {ran = ran} {new = new} r who below =
    let many : length ran ≡ length old = r.made.run.count in
    let last : length new ≡ length ran = rests_long ran new r.made.carried.boxes.rest in
    let one = there_is old who below in
    let three = there_is ran who (omega arith) in
    let four = there_is new who (omega arith) in
    let box = r.claimed.each who one.0 three.0 one.1 three.1 in
    record {
      a = one.0;
      b = box.looked;
      c = three.0;
      d = four.0;
      at_first = one.1;
      at_run = three.1;
      at_last = four.1;
      looks = box.looks;
      kept = kept_by one.0 box.looked box.looks;
      did = box.did;
      rest = rest_at ran new who three.0 four.0 r.made.carried.boxes.rest three.1 four.1;
    }
