-- Why commands are left to boxes that have run freely.
use Rattle.std.proofs.Common.{◌≡◌, ◌≢◌, ◌⊎◌, ◌++◌, ◌+◌, ◌<◌, ◌==◌, ℕ, zero, suc, true, MatchOption, List, [], ◌∷◌, count_by, length, map, slice_get, slice_index_or, Option, Some, None, inl, inr, refl, sym, ◌∙◌, ap, subst}
use Rattle.std.specs.List.{AllByRecursion}
use Rattle.std.proofs.lemmas.List.{length-map}
use Rattle.std.proofs.lemmas.List.Sums.{length-filter}
use Rattle.mc_box.specs.BoxEvents.{turn_of}
use Rattle.mc_box.specs.Boxes.{BoxState, no_box}
use Rattle.mc_box.specs.declared.event.Event.{Event}
use Rattle.mc_box.specs.declared.event.Turn.{Turn}
use Rattle.mc_desk.specs.Desks.{taken_by}
use Rattle.mc_live.specs.Courses.{AreAllAllowed, IsLastStop}
use Rattle.mc_live.specs.Phases.{AreOwnTurns, IsLeftSo, IsTold, LeftIsOnly, left_by}
use Rattle.mc_live.specs.declared.box_run.BoxRun.{BoxRun}
use Rattle.mc_live.specs.declared.course.Pace.{Pace}
use Rattle.mc_live.specs.declared.course.Pace.TheVariants.{Runs, Finished, Stopped, Unfit, Refused}
use Rattle.mc_live.specs.declared.limit.TheConstants.{FURTHER_ROUND_LIMIT}
use Rattle.mc_model.specs.Settles.{commands_of}
use Rattle.mc_model.specs.Worlds.{WorldState, box_at}
use Rattle.mc_port.specs.Entries.{Claimed, events_that}
use Rattle.mc_team.specs.Teams.{world_of}
use Rattle.mc_worker.specs.Rounds.{IsLastHear}
use Rattle.mc_worker.specs.declared.stop.Stop.{Stop}
use Rattle.mc_worker.specs.declared.stop.Stop.TheVariants.{Rested, Spent, NoMemory, VersionEnd, Strange}

-- why commands are left to this box
abbrev IsWhy : List Turn → List Turn → WorldState → ℕ → Type 0
IsWhy turns left last who =
    (FURTHER_ROUND_LIMIT < count_by (λ (turn : Turn). turn.who == who) turns) ⊎ MatchOption (slice_get (commands_of who left) 0) ⊥ (λ (turn : Turn). (local : ℕ) × IsLastHear (box_at last who) local turn.event)

-- each entry of a log is an event of it
all_events : (log : List Claimed) → length (events_that (λ (e : Event). true) log) ≡ length log
all_events [] = refl
all_events (claimed ∷ log) = ap suc (all_events log)

-- so a box has made as many turns as its log has entries
own_turns : (turns : List Turn) (who : ℕ) (log : List Claimed) → AreOwnTurns turns who log → count_by (λ (turn : Turn). turn.who == who) turns ≡ length log
own_turns turns who log own =
    sym (length-filter (λ (turn : Turn). turn.who == who) turns)
    ∙ (ap (λ (l : List Turn). length l) (own (λ (e : Event). true)) ∙ (length-map (events_that (λ (e : Event). true) log) (turn_of who) ∙ all_events log))

-- the next command of those that are left is the first that the worker has
next_left : (stimuli kept : List Event) (who slot : ℕ) (box part : BoxState) (left : List Turn) → left ≡ map (turn_of who) (stimuli ++ kept) → box ≡ part → MatchOption (slice_get stimuli 0) ⊥ (λ (event : Event). IsLastHear part slot event)
    → MatchOption (slice_get left 0) ⊥ (λ (turn : Turn). (local : ℕ) × IsLastHear box local turn.event)
next_left [] kept who slot box part left is same why = absurd why
next_left (event ∷ stimuli) kept who slot box part left is same why =
    subst (λ (l : List Turn). MatchOption (slice_get l 0) ⊥ (λ (turn : Turn). (local : ℕ) × IsLastHear box local turn.event)) (sym is) (slot, subst (λ (b : BoxState). IsLastHear b slot event) (sym same) why)

-- the cause of a last stop
stop_why : (stop : Stop) (own : BoxRun) (turns left : List Turn) (last : WorldState) (who : ℕ) → commands_of who left ≡ map (turn_of who) (left_by own) → box_at last who ≡ own.worker.part → ((end tunnel : ℕ) → stop ≡ Strange end tunnel → ⊥) → IsLastStop own.worker stop
    → IsWhy turns left last who
stop_why Rested own turns left last who is box never why = absurd why
stop_why Spent own turns left last who is box never why = absurd why
stop_why (NoMemory e) own turns left last who is box never why = absurd why
stop_why (VersionEnd slot) own turns left last who is box never why = inr (next_left own.worker.stimuli.items own.course.kept.items who slot (box_at last who) own.worker.part (commands_of who left) is box why)
stop_why (Strange end tunnel) own turns left last who is box never why = absurd (never end tunnel refl)

-- the cause by the pace of the box
pace_why : (pace : Pace) (own : BoxRun) (turns left : List Turn) (last : WorldState) (who : ℕ) (log : List Claimed) → commands_of who left ≡ map (turn_of who) (left_by own) → commands_of who left ≢ [] → box_at last who ≡ own.worker.part → IsTold own log
    → AreOwnTurns turns who log → AreAllAllowed own.worker (taken_by own.taker) → ((end tunnel : ℕ) → pace ≡ Stopped (Strange end tunnel) → ⊥) → IsLeftSo own pace → IsWhy turns left last who
pace_why Runs own turns left last who log is some box told ours all never so = absurd (some (is ∙ ap (map (turn_of who)) so))
pace_why Finished own turns left last who log is some box told ours all never so = inl (subst (λ (n : ℕ). FURTHER_ROUND_LIMIT < n) (told.turns ∙ sym (own_turns turns who log ours)) so)
pace_why (Stopped stop) own turns left last who log is some box told ours all never so = stop_why stop own turns left last who is box (λ end tunnel same. never end tunnel (ap (λ (s : Stop). Stopped s) same)) so
pace_why Unfit own turns left last who log is some box told ours all never so = absurd (so all)
pace_why (Refused e) own turns left last who log is some box told ours all never so = absurd so

-- what holds of all holds at a place
all_there : {X : Type 0} (P : X → Type 0) (xs : List X) (k : ℕ) (x : X) → AllByRecursion P xs → slice_get xs k ≡ Some x → P x
all_there P [] k x all at = absurd (cc)
all_there P (w ∷ xs) zero x all at = let same : w ≡ x = cc in subst P same all.0
all_there P (w ∷ xs) (suc k) x all at = all_there P xs k x all.1 at

-- what is made of each stands at its place
mapped_at : {X Y : Type 0} (f : X → Y) (xs : List X) (k : ℕ) (x : X) (d : Y) → slice_get xs k ≡ Some x → slice_index_or (map f xs) k d ≡ f x
mapped_at f [] k x d at = absurd (cc)
mapped_at f (w ∷ xs) zero x d at = let same : w ≡ x = cc in ap f same
mapped_at f (w ∷ xs) (suc k) x d at = mapped_at f xs k x d at

found_or_none : (free : List BoxRun) (who : ℕ) → ((own : BoxRun) × (slice_get free who ≡ Some own)) ⊎ (slice_get free who ≡ None)
found_or_none free who = by (slice_get free who) refl
  where
    by : (found : Option BoxRun) → slice_get free who ≡ found → ((own : BoxRun) × (slice_get free who ≡ Some own)) ⊎ (slice_get free who ≡ None)
    by (Some own) is = inl (own, is)
    by None is = inr is

pub left_is_only : LeftIsOnly
left_is_only channels lanes ends old new free turns left r few asked are who some = elim (found_or_none free who) [
  | inl found ↦
      let own : BoxRun = found.0 in
      let tells = r.each who own found.1 in
      let box : box_at (world_of channels new lanes) who ≡ own.worker.part = ap (λ (l : List BoxState). slice_index_or l who no_box) r.parts ∙ mapped_at (λ (o : BoxRun). o.worker.part) free who own no_box found.1 in
      pace_why own.course.pace own turns left (world_of channels new lanes) who tells.0 (are.each who own found.1) some box tells.1 tells.2
      (all_there (λ (o : BoxRun). AreAllAllowed o.worker (taken_by o.taker)) free who own asked found.1) (λ end tunnel is. r.none_strange few who own found.1 end tunnel is) (r.left who own found.1)
  | inr none ↦ absurd (some (are.no_other who none))
]
