-- The workers of all boxes as their turns begin, and what they logged.
use Rattle.std.proofs.Common.{◌≡◌, ℕ, ◌<◌, List, [], Some, length, map, get_or, slice_get, ap, sym, ◌∙◌, subst, arith}
use Rattle.std.proofs.lemmas.Option.{slice_get_within}
use Rattle.mc_box.specs.Boxes.{no_box}
use Rattle.mc_port.specs.Entries.{Claimed}
use Rattle.mc_merge.specs.LaneLogs.{claimed_of}
use Rattle.mc_team.proofs.ByPlace.{map_at}
use Rattle.mc_team.proofs.Choices.{Chosen, chosen}
use Rattle.mc_team.proofs.Lists.{at_some, there_is}
use Rattle.mc_team.proofs.Pairs.{here_in, here_out}
use Rattle.mc_team.specs.Ends.{in_view, out_view, parts_of, places_of_boxes}
use Rattle.mc_team.specs.Layouts.{of_box}
use Rattle.mc_team.specs.Turns.{HasEndsOf, HasWorked, HaveWorked}
use Rattle.mc_team.specs.declared.member.Member.{Member}
use Rattle.mc_signal.specs.declared.Tagged.{Tagged}
use Rattle.mc_worker.specs.Account.{IsWork, in_at, out_at}
use Rattle.mc_worker.specs.Boxes.{OutboxesState}
use Rattle.mc_worker.specs.Ends.{in_end, out_end}
use Rattle.mc_worker.specs.declared.worker.Worker.{Worker}

-- the worker as it was made ready, and the log
pub record BoxWork : Type 0 where
  pub before : Worker
  pub log : List Claimed

-- a box has made these turns, of which this is known besides
pub record StandsIn (Known : ℕ → Member → Member → List Claimed → Type 0) (who : ℕ) (a c : Member) (round : BoxWork) : Type 0 where
  pub worked : HasWorked a c round.before round.log
  pub known : Known who a c round.log

-- each box has such a worker and log
abbrev pub AllStand : (ℕ → Member → Member → List Claimed → Type 0) → List Member → List Member → Type 0
AllStand Known old ran = Chosen (λ (who : ℕ). StandsIn Known who) old ran

pub all_stand : (Known : ℕ → Member → Member → List Claimed → Type 0) (old ran : List Member) → HaveWorked Known old ran → AllStand Known old ran
all_stand Known old ran run = chosen (λ (who : ℕ). StandsIn Known who) old ran run.count
    (λ who a c p q. let one = run.each who a c p q in (record { before = one.0; log = one.1 }, record { worked = one.2; known = one.3 }))

-- ---- the lists of a claim

-- the workers before the round
abbrev pub befores : List BoxWork → List Worker
befores rounds = map (λ (round : BoxWork). round.before) rounds

-- those after it
abbrev pub afters : List Member → List Worker
afters ran = map (λ (member : Member). member.worker) ran

-- what they logged
abbrev pub logs_in : List BoxWork → List (List Claimed)
logs_in rounds = map (λ (round : BoxWork). round.log) rounds

-- ---- the two workers of a box

-- what they have, as the team has it
pub record StandsAt (old ran : List Member) (who : ℕ) (before after : Worker) (log : List Claimed) : Type 0 where
  pub ins_before : (end : ℕ) → in_at before end ≡ in_view old who end
  pub outs_before : (end : ℕ) → out_at before end ≡ out_view old who end
  pub ins_after : (end : ℕ) → in_at after end ≡ in_view ran who end
  pub outs_after : (end : ℕ) → out_at after end ≡ out_view ran who end
  pub part : before.part ≡ get_or (parts_of old) who no_box
  pub place : before.place ≡ of_box (places_of_boxes old) who
  pub stamp : before.stamp ≡ 0
  pub work : IsWork before after log

-- what stands at its channel ends
ins_by : (a before : Worker) (end : ℕ) → HasEndsOf a before → in_at before end ≡ in_at a end
ins_by a before end ends = ap (λ v. in_end v.items before.inboxes end) ends.ins ∙ ap (λ (l : List (List Tagged)). in_end a.ins.items l end) ends.inboxes

outs_by : (a before : Worker) (end : ℕ) → HasEndsOf a before → out_at before end ≡ out_at a end
outs_by a before end ends = ap (λ v. out_end v.items before.outboxes.boxes end) ends.outs ∙ ap (λ (s : OutboxesState). out_end a.outs.items s.boxes end) ends.outboxes

stands_by : (old ran : List Member) (who : ℕ) (a c : Member) (round : BoxWork) → slice_get old who ≡ Some a → slice_get ran who ≡ Some c → HasWorked a c round.before round.log → StandsAt old ran who round.before c.worker round.log
stands_by old ran who a c round p q worked = record {
  ins_before = λ end. ins_by a.worker round.before end worked.ends ∙ sym (here_in old who end a p);
  outs_before = λ end. outs_by a.worker round.before end worked.ends ∙ sym (here_out old who end a p);
  ins_after = λ end. sym (here_in ran who end c q);
  outs_after = λ end. sym (here_out ran who end c q);
  part = worked.ends.part ∙ sym (at_some (λ (s : Member). s.worker.part) old who a no_box p);
  place = worked.ends.place ∙ sym (at_some (λ (s : Member). s.worker.place) old who a [] p);
  stamp = worked.stamp;
  work = worked.work;
}

-- so it is at each place of the lists
pub stands_at : (Known : ℕ → Member → Member → List Claimed → Type 0) (old ran : List Member) (who : ℕ) (before after : Worker) → HaveWorked Known old ran → (all : AllStand Known old ran) → slice_get (befores all.list) who ≡ Some before → slice_get (afters ran) who ≡ Some after
    → StandsAt old ran who before after (claimed_of (logs_in all.list) who)
stands_at Known old ran who before after run all first last =
    let one = map_at (λ (round : BoxWork). round.before) all.list who before first in
    let c = map_at (λ (member : Member). member.worker) ran who after last in
    let log : one.0.log ≡ claimed_of (logs_in all.list) who = sym (at_some (λ (round : BoxWork). round.log) all.list who one.0 [] one.1) in
    let counted : length all.list ≡ length old = all.count in
    let within : who < length all.list = slice_get_within all.list who one.0 one.1 in
    let a = there_is old who (omega arith) in
    subst (λ (w : Worker). StandsAt old ran who w after (claimed_of (logs_in all.list) who)) one.2
    (subst (λ (w : Worker). StandsAt old ran who one.0.before w (claimed_of (logs_in all.list) who)) c.2
    (subst (λ (l : List Claimed). StandsAt old ran who one.0.before c.0.worker l) log
    (stands_by old ran who a.0 c.0 one.0 a.1 c.1 (all.each who a.0 c.0 one.0 a.1 c.1 one.1).worked)))
