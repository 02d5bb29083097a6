-- The boxes of a team in their turns, each with the log that the merge law has of it; and that no stamp is too great.
use Rattle.std.proofs.Common.{◌≡◌, ◌*◌, ℕ, ◌<◌, ◌≤◌, ◌++◌, All, Contains, List, [], length, map, slice_get, slice_index_or, Some, sym, ◌∙◌, ap, subst, arith}
use Rattle.std.proofs.lemmas.List.{length-map}
use Rattle.std.proofs.lemmas.List.Elements.{All-contains, All-from_get_or, Contains-append_left}
use Rattle.std.proofs.lemmas.List.Sums.{sum_by-le}
use Rattle.mc_merge.proofs.ClaimedStamps.{claimed_sends_fit}
use Rattle.mc_merge.specs.Claims.{entry_count}
use Rattle.mc_merge.specs.LaneLogs.{claimed_of}
use Rattle.mc_model.specs.Worlds.{ChannelState}
use Rattle.mc_port.specs.Ends.{given, received}
use Rattle.mc_port.specs.Entries.{Claimed, entries_of}
use Rattle.mc_port.specs.Tunnels.{log_sends, tunnels_at}
use Rattle.mc_port.specs.declared.stamped.Stamped.{Stamped}
use Rattle.mc_team.proofs.Claiming.{turns_are_claimed}
use Rattle.mc_team.proofs.Lists.{there_is}
use Rattle.mc_team.proofs.MemberLists.{rest_at, rests_long}
use Rattle.mc_team.specs.Carries.{rest_of}
use Rattle.mc_team.specs.Ends.{parts_of}
use Rattle.mc_team.specs.Teams.{StandForWorld, world_of}
use Rattle.mc_team.specs.Turns.{AreTurnsClaimed, HasEndsOf, HasWorked, MadeTurns}
use Rattle.mc_team.specs.declared.layout.LaneEnds.{LaneEnds}
use Rattle.mc_team.specs.declared.member.Member.{Member}
use Rattle.mc_worker.specs.Account.{in_at, logged, out_at}
use Rattle.mc_worker.specs.Ends.{OutAccount, OutEnd}
use Rattle.mc_worker.specs.declared.limit.TheConstants.{STAMP_LIMIT}
use Rattle.mc_worker.specs.declared.logged.Logged.{Logged}
use Rattle.mc_worker.specs.declared.worker.Worker.{Worker}

-- ---- turns

-- a log leads from the one member to the other
abbrev pub LeadsThere : ℕ → Member → Member → List Claimed → Type 0
LeadsThere who a c log = (before : Worker) × HasWorked a c before log

-- the boxes of a world made turns, none more than so many, and that is what they logged
pub record Turns (most : ℕ) (channels : List ChannelState) (lanes : List LaneEnds) (ends : List (List ℕ)) (old ran new : List Member) : Type 0 where
  pub stand : StandForWorld channels old lanes ends
  pub made : MadeTurns LeadsThere lanes old ran new
  pub claimed : AreTurnsClaimed LeadsThere channels lanes old ran new
  pub short : (who : ℕ) (member : Member) → slice_get ran who ≡ Some member → length member.worker.log.items ≤ most
  pub few : length old * most ≤ STAMP_LIMIT

-- whatever else is known of the turns
pub turns_by : {Known : ℕ → Member → Member → List Claimed → Type 0} (most : ℕ) (channels : List ChannelState) (lanes : List LaneEnds) (ends : List (List ℕ)) (old ran new : List Member) → StandForWorld channels old lanes ends → MadeTurns Known lanes old ran new
    → ((who : ℕ) (member : Member) → slice_get ran who ≡ Some member → length member.worker.log.items ≤ most) → length old * most ≤ STAMP_LIMIT → Turns most channels lanes ends old ran new
turns_by most channels lanes ends old ran new stand made short few =
    let leads : MadeTurns LeadsThere lanes old ran new = record {
      run = record { count = made.run.count; each = λ who a c p q. let one = made.run.each who a c p q in (one.0, one.1, one.2, (one.0, one.2)) };
      carried = made.carried;
    } in
    record { stand = stand; made = leads; claimed = turns_are_claimed LeadsThere channels lanes ends old ran new stand leads; short = short; few = few }

-- ---- one box

-- a box before its turns, after them, and after the carrying, with its log
pub record MemberTurns (old ran new : List Member) (who : ℕ) (log : List Claimed) : Type 0 where
  pub a : Member
  pub c : Member
  pub d : Member
  pub before : Worker
  pub at_first : slice_get old who ≡ Some a
  pub at_run : slice_get ran who ≡ Some c
  pub at_last : slice_get new who ≡ Some d
  pub worked : HasWorked a c before log
  pub rest : rest_of d ≡ rest_of c

-- so it is with each
pub turns_at : {most : ℕ} {channels : List ChannelState} {lanes : List LaneEnds} {ends : List (List ℕ)} {old ran new : List Member}
    → (t : Turns most channels lanes ends old ran new) (who : ℕ) → who < length old → MemberTurns old ran new who (claimed_of t.claimed.logs who)
turns_at {old = old} {ran = ran} {new = new} t who below =
    let many : length ran ≡ length old = t.made.run.count in
    let last : length new ≡ length ran = rests_long ran new t.made.carried.boxes.rest in
    let one = there_is old who below in
    let three = there_is ran who (omega arith) in
    let four = there_is new who (omega arith) in
    let box = t.claimed.each who one.0 three.0 one.1 three.1 in
    record {
      a = one.0;
      c = three.0;
      d = four.0;
      before = box.0;
      at_first = one.1;
      at_run = three.1;
      at_last = four.1;
      worked = box.1;
      rest = rest_at ran new who three.0 four.0 t.made.carried.boxes.rest three.1 four.1;
    }

-- ---- no stamp is too great

-- a log is as long as its box keeps it
log_few : {most : ℕ} {channels : List ChannelState} {lanes : List LaneEnds} {ends : List (List ℕ)} {old ran new : List Member}
    → (t : Turns most channels lanes ends old ran new) (who : ℕ) → who < length old → length (claimed_of t.claimed.logs who) ≤ most
log_few {most = most} t who below =
    let member = turns_at t who below in
    let log : List Claimed = claimed_of t.claimed.logs who in
    let is : length member.c.worker.log.items ≡ length log = ap (λ (l : List Logged). length l) member.worked.logs ∙ length-map log logged in
    subst (λ (n : ℕ). n ≤ most) is (t.short who member.c member.at_run)

-- so no stamp of the turns is above the limit
pub count_few : {most : ℕ} {channels : List ChannelState} {lanes : List LaneEnds} {ends : List (List ℕ)} {old ran new : List Member}
    → (t : Turns most channels lanes ends old ran new) → entry_count t.claimed.logs ≤ STAMP_LIMIT
count_few {most = most} {old = old} t =
    let long : length t.claimed.logs ≡ length old = t.claimed.claimed.log_count ∙ length-map old (λ (s : Member). s.worker.part) in
    let all : entry_count t.claimed.logs ≤ length t.claimed.logs * most =
    sum_by-le (λ (log : List Claimed). length log) most t.claimed.logs
    (All-from_get_or (λ (log : List Claimed). length log ≤ most) t.claimed.logs [] (λ who below. log_few t who (subst (λ (n : ℕ). who < n) long below))) in
    let few : length t.claimed.logs * most ≤ STAMP_LIMIT = subst (λ (n : ℕ). n * most ≤ STAMP_LIMIT) (sym long) t.few in
    omega (arith, all, few)

-- ---- what a box gave

-- what an end gave in the turns has small stamps
pub record Gave (before after : OutEnd) (most : ℕ) : Type 0 where
  pub put : List Stamped
  pub ring : after.given ≡ before.given ++ put
  pub low : (item : Stamped) → Contains put item → item.stamp ≤ most

-- so it is by the account
gave_by : (before now after : OutEnd) (most : ℕ) (sent : List Stamped) → now.given ≡ before.given → OutAccount now after sent → All (λ (item : Stamped). item.stamp ≤ most) sent → Gave before after most
gave_by before now after most sent same account low = record {
  put = account.put;
  ring = account.ring ∙ ap (λ (l : List Stamped). l ++ account.put) same;
  low = λ item has.
      All-contains (λ (x : Stamped). x.stamp ≤ most) sent item low (subst (λ (l : List Stamped). Contains l item) (sym account.order) (Contains-append_left account.put account.kept item has));
}

-- a worker with the ends of another has given the same
given_same : (a b : Worker) (end : ℕ) → HasEndsOf a b → (out_at b end).given ≡ (out_at a end).given
given_same a b end has = ap (λ v. slice_index_or (map given v.items) end []) has.outs

-- and got the same
pub got_same : (a b : Worker) (end : ℕ) → HasEndsOf a b → (in_at b end).got ≡ (in_at a end).got
got_same a b end has = ap (λ v. slice_index_or (map received v.items) end []) has.ins

-- what a box gave in the turns has stamps that aren't too great
pub gave : {most : ℕ} {channels : List ChannelState} {lanes : List LaneEnds} {ends : List (List ℕ)} {old ran new : List Member}
    → (t : Turns most channels lanes ends old ran new) (who end : ℕ) (member : MemberTurns old ran new who (claimed_of t.claimed.logs who))
    → Gave (out_at member.a.worker end) (out_at member.c.worker end) (entry_count t.claimed.logs)
gave {channels = channels} {lanes = lanes} {old = old} {new = new} t who end member =
    let log : List Claimed = claimed_of t.claimed.logs who in
    gave_by (out_at member.a.worker end) (out_at member.before end) (out_at member.c.worker end) (entry_count t.claimed.logs) (log_sends (tunnels_at member.before.place end) (entries_of log))
    (given_same member.a.worker member.before end member.worked.ends) (member.worked.work.outs end)
    (claimed_sends_fit (world_of channels old lanes) t.claimed.logs (parts_of new) t.claimed.rests who (tunnels_at member.before.place end) t.claimed.claimed)
