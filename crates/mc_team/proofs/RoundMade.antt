-- A round of a team's boxes, put together from what its calls say.
use Rattle.std.proofs.Common.{◌≡◌, ◌≢◌, ◌⊎◌, inl, inr, ◌+◌, ◌<◌, ◌≤◌, Bool, false, ℕ, All, IfSome, List, Option, None, Some, Vec, Global, length, map, slice_get, slice_index_or, take, sym, ◌∙◌, ap, subst, arith}
use Rattle.std.proofs.lemmas.List.{length-map, with_items_is}
use Rattle.std.proofs.lemmas.Option.{slice_get_within}
use Rattle.std.specs.Vec.{with_items}
use Rattle.mc_box.specs.declared.event.Turn.{Turn}
use Rattle.mc_model.specs.Worlds.{ChannelState}
use Rattle.mc_team.proofs.BoxRounds.{in_names_ran, logs_short, out_names_ran}
use Rattle.mc_team.proofs.Claiming.{turns_are_claimed}
use Rattle.mc_team.proofs.Lists.{at_index, one_of, same_or_not, take_here, take_there, take_whole, there_is}
use Rattle.mc_team.proofs.MemberLists.{rest_at, rests_long}
use Rattle.mc_team.proofs.OnLanes.{tied_by}
use Rattle.mc_team.proofs.OwnRounds.{own_rounds}
use Rattle.mc_team.proofs.RoundMembers.{Round}
use Rattle.mc_team.proofs.RoundRuns.{team_round}
use Rattle.mc_team.proofs.Standing.{stand_kept}
use Rattle.mc_team.proofs.Stands.{BoxRound, have_worked}
use Rattle.mc_team.specs.Carries.{AreReady, AreTied, CarriesLanes, MemberRest, rest_of}
use Rattle.mc_team.specs.Logs.{AreShort, AreTurnsOf}
use Rattle.mc_team.specs.OwnRounds.{AreOwnRounds}
use Rattle.mc_team.specs.Rounds.{IsTeamRound, round_logs, round_stops}
use Rattle.mc_team.specs.Runs.{HaveRun, NoneRefused}
use Rattle.mc_team.specs.Teams.{StandForWorld, team_of}
use Rattle.mc_team.specs.Turns.{MadeTurns}
use Rattle.mc_team.specs.declared.layout.LaneEnds.{LaneEnds}
use Rattle.mc_team.specs.declared.limit.TheConstants.{TEAM_LIMIT}
use Rattle.mc_team.specs.declared.member.Member.{Member}
use Rattle.mc_worker.specs.Ready.{IsReady}
use Rattle.mc_worker.specs.Turns.{is_memory}
use Rattle.mc_worker.specs.declared.logged.Logged.{Logged}
use Rattle.mc_worker.specs.declared.stop.RoundEnd.{RoundEnd}

-- ---- what the calls ask for

pub all_ready : (members : List Member) → AreReady members → All (λ (member : Member). IsReady member.worker) members
all_ready members ready who d below = ready who (slice_index_or members who d) (at_index members who d below)

pub tied_ran : (retries : Bool) (lanes : List LaneEnds) (old ran : List Member) → HaveRun retries old ran → AreTied old lanes → AreTied ran lanes
tied_ran retries lanes old ran h tied = let worked = have_worked h in tied_by lanes old ran h.count (in_names_ran worked) (out_names_ran worked) tied

-- what holds of the value of an option
if_some : {A : Type 0} (P : A → Type 0) (o : Option A) (x : A) → IfSome o P → o ≡ Some x → P x
if_some P None x h is = absurd (cc)
if_some P (Some y) x h is = subst P (cc) h

refused_by : (members : List Member) (i : ℕ) (x : Member) → slice_get members i ≡ Some x → NoneRefused (take i members) → IfSome x.end (λ (kept : RoundEnd). is_memory kept.stop ≡ false)
    → (who : ℕ) (member : Member) (end : RoundEnd) → (who < i + 1) × (slice_get members who ≡ Some member) → member.end ≡ Some end → (who ≡ i) ⊎ (who ≢ i) → is_memory end.stop ≡ false
refused_by members i x there before here who member end at is (inl same) =
    let found : x ≡ member = one_of (slice_get members i) x member there (subst (λ (n : ℕ). slice_get members n ≡ Some member) same at.1) in
    if_some (λ (kept : RoundEnd). is_memory kept.stop ≡ false) x.end end here (ap (λ (m : Member). m.end) found ∙ is)
refused_by members i x there before here who member end at is (inr off) =
    let low = at.0 in
    let other : who ≢ i = off in
    before who member end (take_there members i who member (omega arith) at.1) is

-- one box more that wasn't refused
pub refused_more : (members : List Member) (i : ℕ) (x : Member) → slice_get members i ≡ Some x → NoneRefused (take i members) → IfSome x.end (λ (kept : RoundEnd). is_memory kept.stop ≡ false) → NoneRefused (take (i + 1) members)
refused_more members i x there before here who member end at is = refused_by members i x there before here who member end (take_here members (i + 1) who member at) is (same_or_not who i)

pub refused_all : (members : List Member) (i : ℕ) → length members ≤ i → NoneRefused (take i members) → NoneRefused members
refused_all members i past none = subst NoneRefused (take_whole members i past) none

-- none was refused after the carrying either
pub none_refused_then : (ran new : List Member) → map rest_of new ≡ map rest_of ran → NoneRefused ran → NoneRefused new
none_refused_then ran new same none who member end at is =
    let before = there_is ran who (subst (λ (n : ℕ). who < n) (rests_long ran new same) (slice_get_within new who member at)) in
    none who before.0 end before.1 (sym (ap (λ (r : MemberRest). r.end) (rest_at ran new who before.0 member same before.1 at)) ∙ is)

-- the items of a vector of which others were written to a slice, once or twice
pub written : (members : Vec Member Global) (ran : List Member) → length ran ≡ length members.items → (with_items members ran).items ≡ ran
written members ran long = with_items_is members ran (long ∙ sym members.ok.0)

pub written_twice : (members : Vec Member Global) (ran new : List Member) → length new ≡ length members.items → (with_items (with_items members ran) new).items ≡ new
written_twice members ran new long = with_items_is (with_items members ran) new (long ∙ sym members.ok.0)

-- ---- what they make

-- all that is told of a round
pub record RoundMade (retries : Bool) (channels : List ChannelState) (lanes : List LaneEnds) (ends : List (List ℕ)) (old new : List Member) (turns : List Turn) : Type 0 where
  pub stand : StandForWorld channels new lanes ends
  pub round : IsTeamRound retries (team_of channels old lanes) (team_of channels new lanes) turns (round_stops new)
  pub own : AreOwnRounds retries (team_of channels old lanes) (team_of channels new lanes) (round_logs new) (round_stops new)

pub round_made : (retries : Bool) (channels : List ChannelState) (lanes : List LaneEnds) (ends : List (List ℕ)) (old ran new : List Member) (turns : List Turn) → StandForWorld channels old lanes ends → HaveRun retries old ran → CarriesLanes lanes ran new
    → NoneRefused ran → AreTurnsOf (round_logs new) turns → RoundMade retries channels lanes ends old new turns
round_made retries channels lanes ends old ran new turns stand run carried none are =
    let made : MadeTurns (λ (who : ℕ). BoxRound retries) lanes old ran new = record { run = have_worked run; carried = carried } in
    let claimed = turns_are_claimed (λ (who : ℕ). BoxRound retries) channels lanes ends old ran new stand made in
    let round : Round retries channels lanes ends old ran new are.keys = record { stand = stand; made = made; calm = none_refused_then ran new carried.boxes.rest none; ordered = are.ordered; claimed = claimed } in
    record {
      stand = stand_kept made channels ends claimed stand;
      round = subst (λ (l : List Turn). IsTeamRound retries (team_of channels old lanes) (team_of channels new lanes) l (round_stops new)) (sym are.are) (team_round round);
      own = own_rounds round;
    }

-- what the calls say, in the words of the vector that they change
pub calls_made : (retries : Bool) (channels : List ChannelState) (lanes l : List LaneEnds) (ends : List (List ℕ)) (members : Vec Member Global) (o r p m ran new : List Member) (turns : List Turn) (logs : List (List Logged)) → StandForWorld channels members.items lanes ends
    → o ≡ members.items → HaveRun retries o ran → r ≡ (with_items members ran).items → NoneRefused r → p ≡ (with_items members ran).items → l ≡ lanes → CarriesLanes l p new
    → m ≡ (with_items (with_items members ran) new).items → logs ≡ round_logs m → AreTurnsOf logs turns
    → RoundMade retries channels lanes ends members.items (with_items (with_items members ran) new).items turns
calls_made retries channels lanes l ends members o r p m ran new turns logs stand same_old run is_ran none is_carried same_lanes carried is_new logs_are turns_are =
    let began : HaveRun retries members.items ran = subst (λ (s : List Member). HaveRun retries s ran) same_old run in
    let here : (with_items members ran).items ≡ ran = written members ran began.count in
    let kept : CarriesLanes lanes ran new = subst (λ (e : List LaneEnds). CarriesLanes e ran new) same_lanes (subst (λ (s : List Member). CarriesLanes l s new) (is_carried ∙ here) carried) in
    let after : (with_items (with_items members ran) new).items ≡ new = written_twice members ran new (rests_long ran new kept.boxes.rest ∙ began.count) in
    subst (λ (s : List Member). RoundMade retries channels lanes ends members.items s turns) (sym after)
    (round_made retries channels lanes ends members.items ran new turns stand began kept (subst NoneRefused (is_ran ∙ here) none)
    (subst (λ (s : List (List Logged)). AreTurnsOf s turns) (logs_are ∙ ap round_logs (is_new ∙ after)) turns_are))

-- the logs are short
pub short_then : (retries : Bool) (lanes l : List LaneEnds) (members : Vec Member Global) (o p m ran new : List Member) (logs : List (List Logged)) → o ≡ members.items → HaveRun retries o ran → p ≡ (with_items members ran).items → l ≡ lanes → CarriesLanes l p new
    → m ≡ (with_items (with_items members ran) new).items → logs ≡ round_logs m → AreShort logs
short_then retries lanes l members o p m ran new logs same_old run is_carried same_lanes carried is_new logs_are =
    let began : HaveRun retries members.items ran = subst (λ (s : List Member). HaveRun retries s ran) same_old run in
    let here : (with_items members ran).items ≡ ran = written members ran began.count in
    let kept : CarriesLanes lanes ran new = subst (λ (e : List LaneEnds). CarriesLanes e ran new) same_lanes (subst (λ (s : List Member). CarriesLanes l s new) (is_carried ∙ here) carried) in
    let after : (with_items (with_items members ran) new).items ≡ new = written_twice members ran new (rests_long ran new kept.boxes.rest ∙ began.count) in
    let made : MadeTurns (λ (who : ℕ). BoxRound retries) lanes members.items ran new = record { run = have_worked began; carried = kept } in
    subst AreShort (sym (logs_are ∙ ap round_logs (is_new ∙ after))) (logs_short made)

-- and of the boxes as they have run what carrying asks for holds
pub ran_is : (retries : Bool) (members : Vec Member Global) (o r ran : List Member) → o ≡ members.items → HaveRun retries o ran → r ≡ (with_items members ran).items → r ≡ ran
ran_is retries members o r ran same_old run is = is ∙ written members ran (run.count ∙ ap (λ (l : List Member). length l) same_old)

-- and there are as many as a team may have boxes
pub few_then : (retries : Bool) (lanes l : List LaneEnds) (members : Vec Member Global) (o p m ran new : List Member) (logs : List (List Logged)) → length members.items ≤ TEAM_LIMIT → o ≡ members.items → HaveRun retries o ran → p ≡ (with_items members ran).items → l ≡ lanes
    → CarriesLanes l p new → m ≡ (with_items (with_items members ran) new).items → logs ≡ round_logs m → length logs ≤ TEAM_LIMIT
few_then retries lanes l members o p m ran new logs few same_old run is_carried same_lanes carried is_new logs_are =
    let began : HaveRun retries members.items ran = subst (λ (s : List Member). HaveRun retries s ran) same_old run in
    let here : (with_items members ran).items ≡ ran = written members ran began.count in
    let kept : CarriesLanes l ran new = subst (λ (s : List Member). CarriesLanes l s new) (is_carried ∙ here) carried in
    let long : length new ≡ length members.items = rests_long ran new kept.boxes.rest ∙ began.count in
    let after : (with_items (with_items members ran) new).items ≡ new = written_twice members ran new long in
    let are : logs ≡ round_logs new = logs_are ∙ ap round_logs (is_new ∙ after) in
    let count = length-map new (λ (member : Member). member.worker.log.items) in
    let same : length logs ≡ length (round_logs new) = ap (λ (s : List (List Logged)). length s) are in
    omega arith
