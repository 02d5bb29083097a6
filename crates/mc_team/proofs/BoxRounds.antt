-- What turns leave as it is about each box of a team.
use Rattle.std.proofs.Common.{◌≡◌, ◌⊎◌, inl, inr, ℕ, ◌<◌, ◌≤◌, ◌^◌, List, [], length, map, slice_index_or, sym, ◌∙◌, ap, subst, arith}
use Rattle.std.proofs.lemmas.Bool.{cases_lt}
use Rattle.std.proofs.lemmas.List.{get_or_past, length-map}
use Rattle.std.proofs.lemmas.Option.{slice_get_within}
use Rattle.mc_port.specs.Ends.{RingName, in_ring, out_ring}
use Rattle.mc_port.specs.Entries.{Claimed}
use Rattle.mc_team.proofs.ByPlace.{maps_same}
use Rattle.mc_team.proofs.Lists.{at_some, there_is}
use Rattle.mc_team.proofs.MemberLists.{of_rests, rests_long}
use Rattle.mc_team.proofs.Pairs.{in_names_of, out_names_of}
use Rattle.mc_team.specs.Carries.{AreReady, MemberRest}
use Rattle.mc_team.specs.Ends.{in_names, out_names, places_of_boxes}
use Rattle.mc_team.specs.Logs.{AreShort}
use Rattle.mc_team.specs.Rounds.{round_logs}
use Rattle.mc_team.specs.Turns.{HasWorked, HaveWorked, MadeTurns}
use Rattle.mc_team.specs.declared.layout.LaneEnds.{LaneEnds}
use Rattle.mc_team.specs.declared.member.Member.{Member}
use Rattle.mc_worker.specs.Account.{logged}
use Rattle.mc_worker.specs.declared.logged.Logged.{Logged}
use Rattle.mc_worker.specs.declared.worker.Worker.{Worker}

-- ---- one box

-- a box keeps its places and its rings
pub places_of : {a c : Member} {before : Worker} {log : List Claimed} → HasWorked a c before log → c.worker.place ≡ a.worker.place
places_of h = h.work.place ∙ h.ends.place

ins_of : {a c : Member} {before : Worker} {log : List Claimed} → HasWorked a c before log → in_names_of c ≡ in_names_of a
ins_of h = h.work.in_rings ∙ ap (λ v. map in_ring v.items) h.ends.ins

outs_of : {a c : Member} {before : Worker} {log : List Claimed} → HasWorked a c before log → out_names_of c ≡ out_names_of a
outs_of h = h.work.out_rings ∙ ap (λ v. map out_ring v.items) h.ends.outs

-- its log is as long as its account
log_long : {a c : Member} {before : Worker} {log : List Claimed} → HasWorked a c before log → length c.worker.log.items < 2 ^ 32
log_long {c = c} {log = log} h =
    let is : length c.worker.log.items ≡ length log = ap (λ (l : List Logged). length l) h.logs ∙ length-map log logged in
    omega (arith, is, h.short)

-- ---- all boxes

-- there are as many
pub new_long : {Known : ℕ → Member → Member → List Claimed → Type 0} {lanes : List LaneEnds} {old ran new : List Member} → MadeTurns Known lanes old ran new → length new ≡ length old
new_long {ran = ran} {new = new} m = rests_long ran new m.carried.boxes.rest ∙ m.run.count

-- with the rings that they had
pub in_names_ran : {Known : ℕ → Member → Member → List Claimed → Type 0} {old ran : List Member} → HaveWorked Known old ran → (who : ℕ) → in_names ran who ≡ in_names old who
in_names_ran {old = old} {ran = ran} h who =
    ap (λ (l : List (List RingName)). slice_index_or l who []) (maps_same in_names_of old ran h.count (λ i a c at_a at_c. ins_of (h.each i a c at_a at_c).2))

-- on both sides
pub out_names_ran : {Known : ℕ → Member → Member → List Claimed → Type 0} {old ran : List Member} → HaveWorked Known old ran → (who : ℕ) → out_names ran who ≡ out_names old who
out_names_ran {old = old} {ran = ran} h who =
    ap (λ (l : List (List RingName)). slice_index_or l who []) (maps_same out_names_of old ran h.count (λ i a c at_a at_c. outs_of (h.each i a c at_a at_c).2))

-- also after the carrying
pub in_names_kept : {Known : ℕ → Member → Member → List Claimed → Type 0} {lanes : List LaneEnds} {old ran new : List Member} → MadeTurns Known lanes old ran new → (who : ℕ) → in_names new who ≡ in_names old who
in_names_kept m who = m.carried.boxes.in_rings who ∙ in_names_ran m.run who

pub out_names_kept : {Known : ℕ → Member → Member → List Claimed → Type 0} {lanes : List LaneEnds} {old ran new : List Member} → MadeTurns Known lanes old ran new → (who : ℕ) → out_names new who ≡ out_names old who
out_names_kept m who = m.carried.boxes.out_rings who ∙ out_names_ran m.run who

-- the places of slots stay too
pub places_kept : {Known : ℕ → Member → Member → List Claimed → Type 0} {lanes : List LaneEnds} {old ran new : List Member} → MadeTurns Known lanes old ran new → places_of_boxes new ≡ places_of_boxes old
places_kept {old = old} {ran = ran} {new = new} m =
    of_rests (λ (r : MemberRest). r.place) ran new m.carried.boxes.rest
    ∙ maps_same (λ (s : Member). s.worker.place) old ran m.run.count (λ who a c at_a at_c. places_of (m.run.each who a c at_a at_c).2)

-- each box is ready after its turns
pub ready_ran : {Known : ℕ → Member → Member → List Claimed → Type 0} {old ran : List Member} → HaveWorked Known old ran → AreReady ran
ready_ran {old = old} {ran = ran} h who c at =
    let a = there_is old who (subst (λ (n : ℕ). who < n) h.count (slice_get_within ran who c at)) in
    (h.each who a.0 c a.1 at).2.ready

-- and its log is short
short_by : (Known : ℕ → Member → Member → List Claimed → Type 0) (old ran : List Member) (who : ℕ) → HaveWorked Known old ran → (who < length ran) ⊎ (length ran ≤ who) → length (slice_index_or (round_logs ran) who []) < 2 ^ 32
short_by Known old ran who h (inl within) =
    let c = there_is ran who within in
    let a = there_is old who (subst (λ (n : ℕ). who < n) h.count within) in
    subst (λ (l : List Logged). length l < 2 ^ 32) (sym (at_some (λ (s : Member). s.worker.log.items) ran who c.0 [] c.1)) (log_long (h.each who a.0 c.0 a.1 c.1).2)
short_by Known old ran who h (inr past) =
    let long = length-map ran (λ (s : Member). s.worker.log.items) in
    subst (λ (l : List Logged). length l < 2 ^ 32) (sym (get_or_past (round_logs ran) who [] (omega (arith, past, long)))) (omega arith)

-- the logs stay so in the carrying
pub logs_short : {Known : ℕ → Member → Member → List Claimed → Type 0} {lanes : List LaneEnds} {old ran new : List Member} → MadeTurns Known lanes old ran new → AreShort (round_logs new)
logs_short {old = old} {ran = ran} {new = new} m who =
    subst (λ (l : List (List Logged)). length (slice_index_or l who []) < 2 ^ 32) (sym (of_rests (λ (r : MemberRest). r.log.items) ran new m.carried.boxes.rest)) (short_by _ old ran who m.run (cases_lt who (length ran)))
