-- Each box of a team made no round or one of its own, and its member keeps the log of that.
use Rattle.std.proofs.Common.{◌≡◌, inl, inr, ℕ, ◌<◌, Bool, List, [], length, slice_get, slice_index_or, Option, Some, None, refl, sym, ◌∙◌, ap, subst, arith}
use Rattle.std.proofs.lemmas.List.{length-map}
use Rattle.std.proofs.lemmas.Option.{slice_get_within}
use Rattle.mc_team.proofs.BoxRounds.{new_long}
use Rattle.mc_team.proofs.ClaimedWorkers.{has_slot}
use Rattle.mc_team.proofs.RoundRuns.{Ended, ended, ends_idle, no_end, stop_at}
use Rattle.mc_team.proofs.Stands.{IsKept, MadeOne}
use Rattle.mc_team.proofs.RoundMembers.{Round, MemberRound, lane_waits, leads_is, part_is, parts_long, member_of, shifts_is, stimuli_is, waits_team}
use Rattle.mc_team.proofs.SlotTunnels.{tunnels_into}
use Rattle.mc_team.specs.Teams.{StandForWorld, team_of, world_of}
use Rattle.mc_team.specs.OwnRounds.{AreOwnRounds, DidBox, HasLaneEnd}
use Rattle.mc_team.specs.Rounds.{round_logs, round_stops, stop_of}
use Rattle.mc_team.specs.Layouts.{at_end, ends_of_lane, of_box}
use Rattle.mc_team.specs.declared.layout.LaneEnds.{LaneEnds}
use Rattle.mc_port.specs.Tunnels.{tunnels_at}
use Rattle.mc_merge.specs.LaneLogs.{claimed_of}
use Rattle.mc_merge.specs.Lanes.{into_box, leads_to}
use Rattle.mc_model.specs.Worlds.{ChannelState}
use Rattle.mc_order.specs.declared.Key.{Key}
use Rattle.mc_team.specs.declared.member.Member.{Member}
use Rattle.mc_signal.specs.declared.Tagged.{Tagged}
use Rattle.mc_team.proofs.Lists.{at_some}
use Rattle.mc_team.specs.Ends.{places_of_boxes, taking_end}
use Rattle.mc_worker.specs.declared.stop.RoundEnd.{RoundEnd}
use Rattle.mc_worker.specs.declared.worker.Worker.{Worker}

-- ---- a box that made a round

-- a lane that leads to a box leads to an end of a worker that has the ports, places and inboxes of its member
has_end : (channels : List ChannelState) (members : List Member) (lanes : List LaneEnds) (ends : List (List ℕ)) (who lane : ℕ) (a : Member) (worker : Worker) → StandForWorld channels members lanes ends → slice_get members who ≡ Some a
    → IsKept a.worker worker → lane < length (world_of channels members lanes).lanes → leads_to (world_of channels members lanes) lane ≡ who → HasLaneEnd (world_of channels members lanes) lane worker
has_end channels members lanes ends who lane a worker stand at kept inside leads =
    let laid = stand.laid_out in
    let below : lane < length lanes = subst (λ (n : ℕ). lane < n) (length-map lanes (λ (e : LaneEnds). (taking_end members e).inbox)) inside in
    let to : (ends_of_lane lanes lane).to ≡ who = leads_is channels members lanes ends lane laid below ∙ leads in
    let taken : at_end ends who (ends_of_lane lanes lane).to_end ≡ Some lane = subst (λ (n : ℕ). at_end ends n (ends_of_lane lanes lane).to_end ≡ Some lane) to (laid.numbered.taking lane below) in
    let few : (ends_of_lane lanes lane).to_end < length (of_box ends who) = slice_get_within (of_box ends who) (ends_of_lane lanes lane).to_end lane taken in
    let long : length a.worker.ins.items ≡ length (of_box ends who) = laid.end_count who a at in
    let same : length worker.ins.items ≡ length a.worker.ins.items = ap (λ v. length v.items) kept.ins in
    let place : worker.place ≡ of_box (places_of_boxes members) (ends_of_lane lanes lane).to = kept.place ∙ (sym (at_some (λ (s : Member). s.worker.place) members who a [] at) ∙ ap (λ (n : ℕ). of_box (places_of_boxes members) n) (sym to)) in
    record {
      end = (ends_of_lane lanes lane).to_end;
      there = omega arith;
      waits = ap (λ (l : List (List Tagged)). slice_index_or l (ends_of_lane lanes lane).to_end []) kept.inboxes ∙ sym (lane_waits channels members lanes who lane a at below to);
      tunnels = λ local. ap (λ (l : List (ℕ × ℕ)). tunnels_at l (ends_of_lane lanes lane).to_end local) place
          ∙ (tunnels_into (world_of channels members lanes) lanes ends (places_of_boxes members) lane local laid.numbered below (has_slot channels lanes ends members (ends_of_lane lanes lane).to local stand (laid.tied lane below).taker)
          ∙ ap (λ (n : ℕ). into_box (world_of channels members lanes) n lane local) (to ∙ sym leads));
    }

-- it made one round of its own
did_one : {retries : Bool} {channels : List ChannelState} {lanes : List LaneEnds} {ends : List (List ℕ)} {old ran new : List Member} {keys : List Key}
    → (r : Round retries channels lanes ends old ran new keys) (who : ℕ) (member : MemberRound retries old ran new who (claimed_of r.claimed.logs who)) → (one : MadeOne retries member.a member.b member.c (claimed_of r.claimed.logs who))
    → DidBox retries (team_of channels old lanes) (team_of channels new lanes) who (claimed_of r.claimed.logs who) (stop_of member.d.end)
did_one {retries = retries} {channels = channels} {lanes = lanes} {ends = ends} {old = old} {ran = ran} {new = new} r who member one =
    let e : Ended retries channels lanes old ran new who (claimed_of r.claimed.logs who) member one = ended retries channels lanes old ran new who (claimed_of r.claimed.logs who) member one r.calm in
    let ready = r.stand.ready who member.a member.at_first in
    subst (λ (o : Option RoundEnd). DidBox retries (team_of channels old lanes) (team_of channels new lanes) who (claimed_of r.claimed.logs who) (stop_of o)) (sym e.end_is)
    (record {
      works = waits_team retries channels old lanes ends who member.a r.stand.laid_out member.at_first ready one.works;
      before = member.b.worker;
      after = member.c.worker;
      has_before = record {
        part = member.kept.part ∙ sym (part_is channels old lanes who member.a member.at_first);
        stimuli = ap (λ q. q.items) member.kept.stimuli ∙ sym (stimuli_is channels old lanes who member.a member.at_first);
        shifts = member.kept.shifts ∙ sym (shifts_is channels old lanes who member.a member.at_first);
      };
      has_after = record { part = sym e.part; stimuli = sym e.stimuli; shifts = sym e.shifts };
      no_stamp = ap (λ (s : Member). s.worker.stamp) member.looks.kept;
      lanes = λ lane inside leads. has_end channels old lanes ends who lane member.a member.b.worker r.stand member.at_first member.kept inside leads;
      end = one.ran.end;
      round = one.ran.round;
      log_is = one.own;
      most = one.ran.most;
      stop_is = refl;
      spent = one.ran.spent;
      cause = one.ran.cause;
    })

-- ---- all boxes

-- each box did one of both
did : {retries : Bool} {channels : List ChannelState} {lanes : List LaneEnds} {ends : List (List ℕ)} {old ran new : List Member} {keys : List Key}
    → (r : Round retries channels lanes ends old ran new keys) (who : ℕ) → who < length old
    → DidBox retries (team_of channels old lanes) (team_of channels new lanes) who (claimed_of r.claimed.logs who) (slice_index_or (round_stops new) who None)
did {retries = retries} {channels = channels} {lanes = lanes} {old = old} {ran = ran} {new = new} r who below =
    let member = member_of r who below in
    subst (DidBox retries (team_of channels old lanes) (team_of channels new lanes) who (claimed_of r.claimed.logs who)) (sym (stop_at new who member.d member.at_last)) (elim member.did [
      | inl one ↦ did_one r who member one
      | inr none ↦
          subst (λ (o : Option RoundEnd). DidBox retries (team_of channels old lanes) (team_of channels new lanes) who (claimed_of r.claimed.logs who) (stop_of o)) (sym (no_end retries old ran new who (claimed_of r.claimed.logs who) member none))
          (ends_idle r who member none, none.none)
    ])

-- so the logs and stops that the members keep are those of one round of each box that had work
pub own_rounds : {retries : Bool} {channels : List ChannelState} {lanes : List LaneEnds} {ends : List (List ℕ)} {old ran new : List Member} {keys : List Key}
    → Round retries channels lanes ends old ran new keys → AreOwnRounds retries (team_of channels old lanes) (team_of channels new lanes) (round_logs new) (round_stops new)
own_rounds {channels = channels} {lanes = lanes} {old = old} {new = new} r =
    let boxes : length new ≡ length old = new_long r.made in
    record {
      log_count = length-map new (λ (m : Member). m.worker.log.items) ∙ (boxes ∙ sym (parts_long old));
      stop_count = length-map new (λ (m : Member). stop_of m.end) ∙ (boxes ∙ sym (parts_long old));
      entries = r.claimed.logs;
      logs_are = r.claimed.kept;
      each = λ who inside. did r who (subst (λ (n : ℕ). who < n) (parts_long old) inside);
      rests = r.claimed.rests;
      rests_are = r.claimed.under_way;
      claimed = r.claimed.claimed;
    }
