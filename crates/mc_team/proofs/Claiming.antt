-- That what the boxes of a team log in their turns is what the merge law asks for.
use Rattle.std.proofs.Common.{◌≡◌, ℕ, ◌<◌, List, [], Some, length, map, slice_get, ap, sym, ◌∙◌, subst, arith}
use Rattle.std.proofs.lemmas.List.{length-map}
use Rattle.std.proofs.lemmas.Option.{get_or_from_slice_get, slice_get_within}
use Rattle.mc_box.specs.Boxes.{BoxState}
use Rattle.mc_port.specs.Entries.{Claimed}
use Rattle.mc_merge.specs.Claims.{IsClaimed}
use Rattle.mc_merge.specs.LaneLogs.{claimed_of, without_stamps}
use Rattle.mc_model.specs.Worlds.{ChannelState}
use Rattle.mc_port.specs.declared.stamped.Stamped.{Stamped}
use Rattle.mc_team.proofs.AccountsClaimed.{accounts_are_claimed}
use Rattle.mc_team.proofs.AllStand.{AllStand, BoxWork, afters, all_stand, befores, logs_in}
use Rattle.mc_team.proofs.ByPlace.{map_alike, map_at}
use Rattle.mc_team.proofs.CarriedLanes.{IsLeft, all_left, rest_between, rest_under_way}
use Rattle.mc_team.proofs.ClaimedWorkers.{rests_of, workers_of}
use Rattle.mc_team.proofs.Lists.{at_some, there_is}
use Rattle.mc_team.proofs.MemberLists.{of_rests}
use Rattle.mc_team.specs.Carries.{MemberRest}
use Rattle.mc_team.specs.Ends.{giving_end, taking_end}
use Rattle.mc_team.specs.Layouts.{ends_of_lane, no_lane_ends}
use Rattle.mc_team.specs.Rounds.{round_logs}
use Rattle.mc_team.specs.Teams.{StandForWorld, lanes_of, world_of}
use Rattle.mc_team.specs.Turns.{AreTurnsClaimed, MadeTurns}
use Rattle.mc_team.specs.declared.layout.LaneEnds.{LaneEnds}
use Rattle.mc_team.specs.declared.member.Member.{Member}
use Rattle.mc_worker.specs.Account.{logged}
use Rattle.std.proofs.lemmas.Simd.{map-map}
use Rattle.mc_worker.specs.declared.worker.Worker.{Worker}

-- ---- what is under way after the turns

-- what is left on a lane is what waits at its end
lane_left : (ran new : List Member) (lanes : List LaneEnds) (lane : ℕ) (rest : List Stamped) (ends : LaneEnds) → ((l : ℕ) → l < length lanes → IsLeft ran new (ends_of_lane lanes l))
    → slice_get (rests_of ran lanes) lane ≡ Some rest → slice_get lanes lane ≡ Some ends → without_stamps rest ≡ (taking_end new ends).inbox
lane_left ran new lanes lane rest ends left p q =
    let one = map_at (λ (e : LaneEnds). rest_between (giving_end ran e) (taking_end ran e)) lanes lane rest p in
    let found = one.1 in
    let same : one.0 ≡ ends = cc in
    let at : ends_of_lane lanes lane ≡ ends = get_or_from_slice_get lanes lane ends no_lane_ends q in
    let is = subst (λ (e : LaneEnds). IsLeft ran new e) at (left lane (slice_get_within lanes lane ends q)) in
    ap without_stamps (sym one.2) ∙ (ap (λ (e : LaneEnds). without_stamps (rest_between (giving_end ran e) (taking_end ran e))) same
    ∙ (rest_under_way (giving_end ran ends) (taking_end ran ends) ∙ sym is.inbox))

-- so what is left is what is under way after the carrying
under_way_is : (ran new : List Member) (lanes : List LaneEnds) → ((lane : ℕ) → lane < length lanes → IsLeft ran new (ends_of_lane lanes lane)) → map without_stamps (rests_of ran lanes) ≡ lanes_of new lanes
under_way_is ran new lanes left =
    map_alike without_stamps (λ (e : LaneEnds). (taking_end new e).inbox) (rests_of ran lanes) lanes (sym (length-map lanes (λ (e : LaneEnds). rest_between (giving_end ran e) (taking_end ran e))))
    (λ lane rest ends p q. lane_left ran new lanes lane rest ends left p q)

-- ---- what the boxes keep

-- a log, as it is chosen and as its box keeps it
log_kept : (Known : ℕ → Member → Member → List Claimed → Type 0) (old ran : List Member) (who : ℕ) (c : Member) (round : BoxWork) → (all : AllStand Known old ran) → slice_get ran who ≡ Some c → slice_get all.list who ≡ Some round → c.worker.log.items ≡ map logged round.log
log_kept Known old ran who c round all p q =
    let counted : length all.list ≡ length old = all.count in
    let within : who < length all.list = slice_get_within all.list who round q in
    let a = there_is old who (omega arith) in
    (all.each who a.0 c round a.1 p q).worked.logs

logs_kept : {Known : ℕ → Member → Member → List Claimed → Type 0} {lanes : List LaneEnds} {old ran new : List Member} → MadeTurns Known lanes old ran new → (all : AllStand Known old ran) → round_logs new ≡ map (λ (log : List Claimed). map logged log) (logs_in all.list)
logs_kept {Known = Known} {old = old} {ran = ran} {new = new} m all =
    of_rests (λ (rest : MemberRest). rest.log.items) ran new m.carried.boxes.rest
    ∙ (map_alike (λ (s : Member). s.worker.log.items) (λ (round : BoxWork). map logged round.log) ran all.list (all.count ∙ sym m.run.count) (λ who c round p q. log_kept Known old ran who c round all p q)
    ∙ sym (map-map (λ (log : List Claimed). map logged log) (λ (round : BoxWork). round.log) all.list))

-- what is known of each box
box_known : (Known : ℕ → Member → Member → List Claimed → Type 0) (old ran : List Member) (who : ℕ) (a c : Member) → (all : AllStand Known old ran) → slice_get old who ≡ Some a → slice_get ran who ≡ Some c → Known who a c (claimed_of (logs_in all.list) who)
box_known Known old ran who a c all p q =
    let counted : length all.list ≡ length old = all.count in
    let within : who < length old = slice_get_within old who a p in
    let round = there_is all.list who (omega arith) in
    subst (λ (l : List Claimed). Known who a c l) (sym (at_some (λ (r : BoxWork). r.log) all.list who round.0 [] round.1)) (all.each who a c round.0 p q round.1).known

-- ---- the law

claimed_by : (Known : ℕ → Member → Member → List Claimed → Type 0) (channels : List ChannelState) (lanes : List LaneEnds) (ends : List (List ℕ)) (old ran new : List Member)
    → StandForWorld channels old lanes ends → MadeTurns Known lanes old ran new → AllStand Known old ran → AreTurnsClaimed Known channels lanes old ran new
claimed_by Known channels lanes ends old ran new stand made all = record {
  logs = logs_in all.list;
  rests = rests_of ran lanes;
  claimed = subst (λ (boxes : List BoxState). IsClaimed (world_of channels old lanes) (logs_in all.list) boxes (rests_of ran lanes))
      (map-map (λ (w : Worker). w.part) (λ (s : Member). s.worker) ran ∙ sym (of_rests (λ (rest : MemberRest). rest.part) ran new made.carried.boxes.rest))
      (accounts_are_claimed (world_of channels old lanes) (befores all.list) (afters ran) (logs_in all.list) (rests_of ran lanes) (workers_of Known channels lanes ends old ran new stand made all));
  under_way = under_way_is ran new lanes (λ lane below. all_left made lane below);
  kept = logs_kept made all;
  each = λ who a c p q. box_known Known old ran who a c all p q;
}

-- so it is of all turns
pub turns_are_claimed : (Known : ℕ → Member → Member → List Claimed → Type 0) (channels : List ChannelState) (lanes : List LaneEnds) (ends : List (List ℕ)) (old ran new : List Member)
    → StandForWorld channels old lanes ends → MadeTurns Known lanes old ran new → AreTurnsClaimed Known channels lanes old ran new
turns_are_claimed Known channels lanes ends old ran new stand made = claimed_by Known channels lanes ends old ran new stand made (all_stand Known old ran made.run)
