-- No round of a team ends at a signal that its box can't take.
use Rattle.std.proofs.Common.{◌≡◌, ◌⊎◌, inl, inr, ℕ, ◌<◌, ◌≤◌, Bool, List, length, map, sym, ◌∙◌, ap, subst, arith}
use Rattle.std.proofs.lemmas.List.{length-map}
use Rattle.std.proofs.lemmas.Option.{slice_get_within}
use Rattle.mc_merge.specs.LaneLogs.{claimed_of}
use Rattle.mc_model.specs.Worlds.{ChannelState}
use Rattle.mc_order.specs.declared.Key.{Key}
use Rattle.mc_port.specs.Entries.{Claimed}
use Rattle.mc_team.proofs.Lists.{there_is}
use Rattle.mc_team.proofs.RoundMembers.{MemberRound, Round}
use Rattle.mc_team.proofs.RoundStops.{stopped}
use Rattle.mc_team.proofs.Stands.{MadeNone, MadeOne}
use Rattle.mc_team.proofs.TurnsStamps.{Turns, turns_by}
use Rattle.mc_team.proofs.TurnsStrange.{strange_never}
use Rattle.mc_team.specs.declared.layout.LaneEnds.{LaneEnds}
use Rattle.mc_team.specs.declared.limit.TheConstants.{TEAM_LIMIT}
use Rattle.mc_team.specs.declared.member.Member.{Member}
use Rattle.mc_worker.specs.Account.{logged}
use Rattle.mc_worker.specs.Rounds.{AllIdle, HasStopped}
use Rattle.mc_worker.specs.declared.limit.TheConstants.{TURN_LIMIT}
use Rattle.mc_worker.specs.declared.logged.Logged.{Logged}
use Rattle.mc_worker.specs.declared.stop.Stop.{Stop}
use Rattle.mc_worker.specs.declared.stop.Stop.TheVariants.{Spent, Strange}

-- a box has logged no more than the limit of a round, whether it made one or not
few_by : (retries : Bool) (a b c : Member) (log : List Claimed) → MadeOne retries a b c log ⊎ MadeNone retries a b c log → length log ≤ TURN_LIMIT
few_by retries a b c log (inl one) = subst (λ (n : ℕ). n ≤ TURN_LIMIT) (one.ran.round.turns ∙ ap (λ (l : List Claimed). length l) (sym one.own)) one.ran.most
few_by retries a b c log (inr none) = subst (λ (l : List Claimed). length l ≤ TURN_LIMIT) (sym none.none) (omega arith)

-- so a round is such turns
round_turns : {retries : Bool} {channels : List ChannelState} {lanes : List LaneEnds} {ends : List (List ℕ)} {old ran new : List Member} {keys : List Key}
    → Round retries channels lanes ends old ran new keys → Turns TURN_LIMIT channels lanes ends old ran new
round_turns {retries = retries} {channels = channels} {lanes = lanes} {ends = ends} {old = old} {ran = ran} {new = new} r =
    let few : length old ≤ TEAM_LIMIT = r.stand.few in
    turns_by TURN_LIMIT channels lanes ends old ran new r.stand r.made
    (λ who c at.
    let many : length ran ≡ length old = r.made.run.count in
    let within : who < length ran = slice_get_within ran who c at in
    let a = there_is old who (omega (arith, many, within)) in
    let one = r.made.run.each who a.0 c a.1 at in
    let is : length c.worker.log.items ≡ length one.1 = ap (λ (l : List Logged). length l) one.2.logs ∙ length-map one.1 logged in
    subst (λ (n : ℕ). n ≤ TURN_LIMIT) (sym is) (few_by retries a.0 one.3.looked c one.1 one.3.did))
    (omega (arith, few))

-- and no box stops at such a signal
pub never_strange : {retries : Bool} {channels : List ChannelState} {lanes : List LaneEnds} {ends : List (List ℕ)} {old ran new : List Member} {keys : List Key}
    → (r : Round retries channels lanes ends old ran new keys) (who end tunnel : ℕ)
    → (member : MemberRound retries old ran new who (claimed_of r.claimed.logs who)) (one : MadeOne retries member.a member.b member.c (claimed_of r.claimed.logs who)) → one.ran.end.stop ≡ Strange end tunnel → ⊥
never_strange {retries = retries} r who end tunnel member one stop =
    strange_never (AllIdle member.b.worker member.c.worker) (round_turns r) who end tunnel member.c member.at_run
    (subst (λ (s : Stop). HasStopped (AllIdle member.b.worker member.c.worker) member.c.worker s) stop
    (stopped retries member.b member.c one.ran (λ spent. let other : Strange end tunnel ≡ Spent = sym stop ∙ spent in cc)))
