-- A round of a team's boxes is a round of its team.
use Rattle.std.proofs.Common.{◌≡◌, inl, inr, ℕ, ◌<◌, ◌≤◌, ◌&&◌, Bool, false, List, [], length, map, nat_lt, slice_get, slice_index_or, Option, Some, None, sym, ◌∙◌, ap, subst, arith}
use Rattle.std.proofs.lemmas.Bool.{and_left, and_parts, and_right, cases_lt, false_from_ne_true, le-ltb}
use Rattle.std.proofs.lemmas.List.{get_or_past, length-map}
use Rattle.mc_box.specs.BoxEvents.{is_enabled}
use Rattle.mc_box.specs.Boxes.{BoxState, box_owes, is_slot}
use Rattle.mc_box.specs.declared.event.Event.TheVariants.{Retry}
use Rattle.mc_box.specs.declared.limit.TheConstants.{SHIFT_LIMIT}
use Rattle.mc_team.proofs.BoxRounds.{new_long}
use Rattle.mc_team.proofs.RoundMembers.{Round, MemberRound, has_work, owes_is, part_is, parts_long, member_of, shifts_is, stimuli_is, team_waits, waits_team}
use Rattle.mc_team.proofs.Stands.{MadeNone, MadeOne, waiting_on}
use Rattle.mc_team.proofs.RoundStops.{ends_box, moved, stopped, turns_made}
use Rattle.mc_team.proofs.Lists.{at_some}
use Rattle.mc_port.specs.Entries.{Claimed}
use Rattle.mc_team.proofs.RoundStrange.{never_strange}
use Rattle.mc_team.proofs.TurnsRun.{turns_own, turns_run}
use Rattle.mc_team.proofs.RoundTurns.{AreOwn, BoxAccount, commands_used, idle_account, retries_counted, round_account, shifts_made}
use Rattle.mc_team.specs.Teams.{HasTeamWork, team_of, shifts_at, stimuli_at, world_of}
use Rattle.mc_team.specs.Rounds.{EndsBox, IsTeamRound, round_logs, round_stops, stop_of}
use Rattle.mc_team.specs.Runs.{NoneRefused}
use Rattle.mc_team.specs.declared.layout.LaneEnds.{LaneEnds}
use Rattle.mc_merge.proofs.Claims.{past_claimed}
use Rattle.mc_merge.specs.LaneLogs.{claimed_of}
use Rattle.mc_model.specs.Settles.{world_owes}
use Rattle.mc_model.specs.Steps.{run}
use Rattle.mc_model.specs.Worlds.{ChannelState, box_at}
use Rattle.mc_order.specs.declared.Key.{Key}
use Rattle.mc_team.specs.declared.member.Member.{Member}
use Rattle.mc_signal.specs.declared.Tagged.{Tagged}
use Rattle.mc_team.specs.Carries.{MemberRest}
use Rattle.mc_team.specs.Ends.{parts_of, shifts_of, stimuli_of}
use Rattle.mc_team.specs.Logs.{logged_turn}
use Rattle.mc_worker.specs.Rounds.{AllIdle, waiting_retry}
use Rattle.mc_worker.specs.Turns.{is_memory}
use Rattle.mc_worker.specs.declared.stop.RoundEnd.{RoundEnd}

-- ---- a box that made a round

-- what the box has after the carrying
pub record Ended (retries : Bool) (channels : List ChannelState) (lanes : List LaneEnds) (old ran new : List Member) (who : ℕ) (log : List Claimed) (member : MemberRound retries old ran new who log) (one : MadeOne retries member.a member.b member.c log) : Type 0 where
  pub end_is : member.d.end ≡ Some one.ran.end
  pub calm : is_memory one.ran.end.stop ≡ false
  pub stimuli : stimuli_at (team_of channels new lanes) who ≡ member.c.worker.stimuli.items
  pub shifts : shifts_at (team_of channels new lanes) who ≡ member.c.worker.shifts
  pub part : box_at (world_of channels new lanes) who ≡ member.c.worker.part

-- so each such box ended for a cause
pub ended : (retries : Bool) (channels : List ChannelState) (lanes : List LaneEnds) (old ran new : List Member) (who : ℕ) (log : List Claimed) (member : MemberRound retries old ran new who log) (one : MadeOne retries member.a member.b member.c log) → NoneRefused new
    → Ended retries channels lanes old ran new who log member one
ended retries channels lanes old ran new who log member one calm =
    let end_is : member.d.end ≡ Some one.ran.end = ap (λ (r : MemberRest). r.end) member.rest ∙ one.ran.is in
    record {
      end_is = end_is;
      calm = calm who member.d one.ran.end member.at_last end_is;
      stimuli = stimuli_is channels new lanes who member.d member.at_last ∙ ap (λ (r : MemberRest). r.stimuli.items) member.rest;
      shifts = shifts_is channels new lanes who member.d member.at_last ∙ ap (λ (r : MemberRest). r.shifts) member.rest;
      part = part_is channels new lanes who member.d member.at_last ∙ ap (λ (r : MemberRest). r.part) member.rest;
    }

-- ---- the turns

-- the turns lead from the world before to the one after
runs : {retries : Bool} {channels : List ChannelState} {lanes : List LaneEnds} {ends : List (List ℕ)} {old ran new : List Member} {keys : List Key}
    → (r : Round retries channels lanes ends old ran new keys) → run (world_of channels old lanes) (map (logged_turn (round_logs new)) keys) ≡ Some (world_of channels new lanes)
runs {keys = keys} r = turns_run r.claimed keys r.ordered

-- of each box they are those of its log
own_turns : {retries : Bool} {channels : List ChannelState} {lanes : List LaneEnds} {ends : List (List ℕ)} {old ran new : List Member} {keys : List Key}
    → (r : Round retries channels lanes ends old ran new keys) (who : ℕ) → AreOwn (map (logged_turn (round_logs new)) keys) who (claimed_of r.claimed.logs who)
own_turns {keys = keys} r who = turns_own r.claimed keys r.ordered who

-- ---- what each box has used

-- a box that made no round owed no retry that was asked for
not_asked : {retries : Bool} {channels : List ChannelState} {lanes : List LaneEnds} {ends : List (List ℕ)} {old ran new : List Member} {keys : List Key}
    → (r : Round retries channels lanes ends old ran new keys) (who : ℕ) (member : MemberRound retries old ran new who (claimed_of r.claimed.logs who)) → (none : MadeNone retries member.a member.b member.c (claimed_of r.claimed.logs who)) → (local : ℕ)
    → (retries && world_owes (world_of channels old lanes) who local) ≡ false
not_asked {retries = retries} {channels = channels} {lanes = lanes} {old = old} r who member none local =
    false_from_ne_true (retries && world_owes (world_of channels old lanes) who local) (λ both.
    let parts = and_parts retries (world_owes (world_of channels old lanes) who local) both in
    none.idle
    (waiting_retry parts.0 (record { slot = local; owed = sym (owes_is channels old lanes who local member.a member.at_first) ∙ parts.1 })))

-- the account of a box that made a round
account_made : {retries : Bool} {channels : List ChannelState} {lanes : List LaneEnds} {ends : List (List ℕ)} {old ran new : List Member} {keys : List Key}
    → (r : Round retries channels lanes ends old ran new keys) (who : ℕ) (member : MemberRound retries old ran new who (claimed_of r.claimed.logs who)) → (one : MadeOne retries member.a member.b member.c (claimed_of r.claimed.logs who))
    → BoxAccount retries (team_of channels old lanes) (team_of channels new lanes) (claimed_of r.claimed.logs who) who
account_made {retries = retries} {channels = channels} {lanes = lanes} {old = old} {ran = ran} {new = new} r who member one =
    let e : Ended retries channels lanes old ran new who (claimed_of r.claimed.logs who) member one = ended retries channels lanes old ran new who (claimed_of r.claimed.logs who) member one r.calm in
    round_account retries (team_of channels old lanes) (team_of channels new lanes) (claimed_of r.claimed.logs who) who member.b.worker member.c.worker one.ran.end one.ran.round one.own e.calm
    (stimuli_is channels old lanes who member.a member.at_first ∙ sym (ap (λ q. q.items) member.kept.stimuli)) e.stimuli
    (shifts_is channels old lanes who member.a member.at_first ∙ sym member.kept.shifts) e.shifts
    (λ local. owes_is channels old lanes who local member.a member.at_first ∙ ap (λ (box : BoxState). is_enabled box (Retry local)) (sym member.kept.part))

-- of one that made none
account_idle : {retries : Bool} {channels : List ChannelState} {lanes : List LaneEnds} {ends : List (List ℕ)} {old ran new : List Member} {keys : List Key}
    → (r : Round retries channels lanes ends old ran new keys) (who : ℕ) (member : MemberRound retries old ran new who (claimed_of r.claimed.logs who)) → (none : MadeNone retries member.a member.b member.c (claimed_of r.claimed.logs who))
    → BoxAccount retries (team_of channels old lanes) (team_of channels new lanes) (claimed_of r.claimed.logs who) who
account_idle {retries = retries} {channels = channels} {lanes = lanes} {old = old} {ran = ran} {new = new} r who member none =
    let still : member.c ≡ member.b = none.same in
    let shifts : shifts_at (team_of channels new lanes) who ≡ member.a.worker.shifts =
    shifts_is channels new lanes who member.d member.at_last ∙ (ap (λ (s : MemberRest). s.shifts) member.rest ∙ (ap (λ (s : Member). s.worker.shifts) still ∙ member.kept.shifts)) in
    let ready = r.stand.ready who member.a member.at_first in
    idle_account retries (team_of channels old lanes) (team_of channels new lanes) (claimed_of r.claimed.logs who) who none.none
    (stimuli_is channels new lanes who member.d member.at_last ∙ (ap (λ (s : MemberRest). s.stimuli.items) member.rest ∙ (ap (λ (s : Member). s.worker.stimuli.items) still
    ∙ (ap (λ q. q.items) member.kept.stimuli ∙ sym (stimuli_is channels old lanes who member.a member.at_first)))))
    (shifts ∙ sym (shifts_is channels old lanes who member.a member.at_first))
    (subst (λ (n : ℕ). n ≤ SHIFT_LIMIT) (sym shifts) ready.shifts)
    (not_asked r who member none)

-- past the last box there is nothing
account_past : {retries : Bool} {channels : List ChannelState} {lanes : List LaneEnds} {ends : List (List ℕ)} {old ran new : List Member} {keys : List Key}
    → (r : Round retries channels lanes ends old ran new keys) (who : ℕ) → length old ≤ who
    → BoxAccount retries (team_of channels old lanes) (team_of channels new lanes) (claimed_of r.claimed.logs who) who
account_past {retries = retries} {channels = channels} {lanes = lanes} {old = old} {new = new} r who past =
    let long : length new ≡ length old = new_long r.made in
    let stimuli : length (stimuli_of new) ≤ who = omega (arith, length-map new (λ (s : Member). s.worker.stimuli.items)) in
    let stimuli_before : length (stimuli_of old) ≤ who = omega (arith, length-map old (λ (s : Member). s.worker.stimuli.items)) in
    let shifts : length (shifts_of new) ≤ who = omega (arith, length-map new (λ (s : Member). s.worker.shifts)) in
    let shifts_before : length (shifts_of old) ≤ who = omega (arith, length-map old (λ (s : Member). s.worker.shifts)) in
    let none : shifts_at (team_of channels new lanes) who ≡ 0 = get_or_past (shifts_of new) who 0 shifts in
    idle_account retries (team_of channels old lanes) (team_of channels new lanes) (claimed_of r.claimed.logs who) who
    (past_claimed r.claimed.logs who (omega (arith, r.claimed.claimed.log_count, parts_long old)))
    (get_or_past (stimuli_of new) who [] stimuli ∙ sym (get_or_past (stimuli_of old) who [] stimuli_before))
    (none ∙ sym (get_or_past (shifts_of old) who 0 shifts_before))
    (subst (λ (n : ℕ). n ≤ SHIFT_LIMIT) (sym none) (omega arith))
    (λ local.
    and_right retries (world_owes (world_of channels old lanes) who local)
    (and_left (nat_lt who (length (parts_of old)) && is_slot (box_at (world_of channels old lanes) who) local) (box_owes (box_at (world_of channels old lanes) who) local)
    (and_left (nat_lt who (length (parts_of old))) (is_slot (box_at (world_of channels old lanes) who) local) (le-ltb who (length (parts_of old)) (omega (arith, parts_long old))))))

-- so of every number
account : {retries : Bool} {channels : List ChannelState} {lanes : List LaneEnds} {ends : List (List ℕ)} {old ran new : List Member} {keys : List Key}
    → (r : Round retries channels lanes ends old ran new keys) (who : ℕ) → BoxAccount retries (team_of channels old lanes) (team_of channels new lanes) (claimed_of r.claimed.logs who) who
account {old = old} r who = elim (cases_lt who (length old)) [
  | inl below ↦
      let member = member_of r who below in
      elim member.did [
        | inl one ↦ account_made r who member one
        | inr none ↦ account_idle r who member none
      ]
  | inr past ↦ account_past r who past
]

-- ---- how the round ended for each box

-- the round ends for a found box as its member says
ends_made : {retries : Bool} {channels : List ChannelState} {lanes : List LaneEnds} {ends : List (List ℕ)} {old ran new : List Member} {keys : List Key}
    → (r : Round retries channels lanes ends old ran new keys) (who : ℕ) (member : MemberRound retries old ran new who (claimed_of r.claimed.logs who)) → (one : MadeOne retries member.a member.b member.c (claimed_of r.claimed.logs who))
    → EndsBox retries (team_of channels old lanes) (team_of channels new lanes) (map (logged_turn (round_logs new)) keys) who (stop_of member.d.end)
ends_made {retries = retries} {channels = channels} {lanes = lanes} {ends = ends} {old = old} {ran = ran} {new = new} {keys = keys} r who member one =
    let e : Ended retries channels lanes old ran new who (claimed_of r.claimed.logs who) member one = ended retries channels lanes old ran new who (claimed_of r.claimed.logs who) member one r.calm in
    let ready = r.stand.ready who member.a member.at_first in
    let work : HasTeamWork retries (team_of channels old lanes) who = waits_team retries channels old lanes ends who member.a r.stand.laid_out member.at_first ready one.works in
    let boxes : length member.b.worker.inboxes ≡ length member.b.worker.ins.items = ap (λ (l : List (List Tagged)). length l) member.kept.inboxes ∙ (ready.shaped.inboxes ∙ sym (ap (λ v. length v.items) member.kept.ins)) in
    subst (λ (o : Option RoundEnd). EndsBox retries (team_of channels old lanes) (team_of channels new lanes) (map (logged_turn (round_logs new)) keys) who (stop_of o)) (sym e.end_is)
    (ends_box one.ran.end.stop retries (team_of channels old lanes) (team_of channels new lanes) (map (logged_turn (round_logs new)) keys) who member.c.worker (AllIdle member.b.worker member.c.worker) work
    (λ rests.
    moved retries (team_of channels old lanes) (team_of channels new lanes) (map (logged_turn (round_logs new)) keys) (claimed_of r.claimed.logs who) who member.b.worker member.c.worker one.ran.end one.ran.round one.own
    (turns_made retries member.b member.c one.ran (has_work retries member.b.worker boxes (waiting_on retries member.a.worker member.b.worker member.kept one.works)) rests)
    work (own_turns r who) (account r who) (stimuli_is channels old lanes who member.a member.at_first ∙ sym (ap (λ q. q.items) member.kept.stimuli)))
    (stopped retries member.b member.c one.ran) e.calm
    (λ end tunnel strange. never_strange r who end tunnel member one strange)
    e.stimuli e.part)

-- for another it had no work
pub ends_idle : {retries : Bool} {channels : List ChannelState} {lanes : List LaneEnds} {ends : List (List ℕ)} {old ran new : List Member} {keys : List Key}
    → (r : Round retries channels lanes ends old ran new keys) (who : ℕ) (member : MemberRound retries old ran new who (claimed_of r.claimed.logs who)) → (none : MadeNone retries member.a member.b member.c (claimed_of r.claimed.logs who))
    → HasTeamWork retries (team_of channels old lanes) who → ⊥
ends_idle {retries = retries} {channels = channels} {lanes = lanes} {ends = ends} {old = old} r who member none work =
    none.idle
    (team_waits retries channels old lanes ends who member.a r.stand.laid_out member.at_first work)

-- the stop is that of the member
pub stop_at : (members : List Member) (who : ℕ) (member : Member) → slice_get members who ≡ Some member → slice_index_or (round_stops members) who None ≡ stop_of member.end
stop_at members who member at = at_some (λ (m : Member). stop_of m.end) members who member None at

-- a box that made no round has no end
pub no_end : (retries : Bool) (old ran new : List Member) (who : ℕ) (log : List Claimed) (member : MemberRound retries old ran new who log) → MadeNone retries member.a member.b member.c log → member.d.end ≡ None
no_end retries old ran new who log member none = ap (λ (s : MemberRest). s.end) member.rest ∙ (ap (λ (s : Member). s.end) none.same ∙ ap (λ (s : Member). s.end) member.looks.kept)

-- so for each box
ends_at : {retries : Bool} {channels : List ChannelState} {lanes : List LaneEnds} {ends : List (List ℕ)} {old ran new : List Member} {keys : List Key}
    → (r : Round retries channels lanes ends old ran new keys) (who : ℕ) → who < length old
    → EndsBox retries (team_of channels old lanes) (team_of channels new lanes) (map (logged_turn (round_logs new)) keys) who (slice_index_or (round_stops new) who None)
ends_at {retries = retries} {channels = channels} {lanes = lanes} {old = old} {ran = ran} {new = new} {keys = keys} r who below =
    let member = member_of r who below in
    subst (EndsBox retries (team_of channels old lanes) (team_of channels new lanes) (map (logged_turn (round_logs new)) keys) who) (sym (stop_at new who member.d member.at_last)) (elim member.did [
      | inl one ↦ ends_made r who member one
      | inr none ↦
          subst (λ (o : Option RoundEnd). EndsBox retries (team_of channels old lanes) (team_of channels new lanes) (map (logged_turn (round_logs new)) keys) who (stop_of o)) (sym (no_end retries old ran new who (claimed_of r.claimed.logs who) member none))
          (ends_idle r who member none)
    ])

-- ---- the round

-- all together
pub team_round : {retries : Bool} {channels : List ChannelState} {lanes : List LaneEnds} {ends : List (List ℕ)} {old ran new : List Member} {keys : List Key}
    → (r : Round retries channels lanes ends old ran new keys) → IsTeamRound retries (team_of channels old lanes) (team_of channels new lanes) (map (logged_turn (round_logs new)) keys) (round_stops new)
team_round {retries = retries} {channels = channels} {lanes = lanes} {old = old} {new = new} {keys = keys} r = record {
  runs = runs r;
  commands = λ who. commands_used retries (team_of channels old lanes) (team_of channels new lanes) (map (logged_turn (round_logs new)) keys) (claimed_of r.claimed.logs who) who (own_turns r who) (account r who);
  shifts = λ who. shifts_made retries (team_of channels old lanes) (team_of channels new lanes) (map (logged_turn (round_logs new)) keys) (claimed_of r.claimed.logs who) who (own_turns r who) (account r who);
  few_shifts = λ who. (account r who).few;
  retried = λ who local. retries_counted retries (team_of channels old lanes) (team_of channels new lanes) (map (logged_turn (round_logs new)) keys) (claimed_of r.claimed.logs who) who local (own_turns r who) (account r who);
  count = length-map new (λ (m : Member). stop_of m.end) ∙ (new_long r.made ∙ sym (parts_long old));
  each = λ who inside. ends_at r who (subst (λ (n : ℕ). who < n) (parts_long old) inside);
}
