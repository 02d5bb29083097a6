-- A part that has something to do makes a turn.
use Rattle.std.proofs.Common.{◌≡◌, ◌⊎◌, inl, inr, ◌<◌, ◌≤◌, ◌+◌, ℕ, suc, Bool, true, false, List, [], ◌∷◌, ◌++◌, length, map, get_or, Option, Some, None, Result, Ok, Err, OnOk, refl, ap, sym, ◌∙◌, subst, arith, add-zero}
use Rattle.std.specs.Option.{is_some, option_and_then}
use Rattle.std.proofs.Math.ListN.{get_or-eq_default}
use Rattle.std.proofs.lemmas.Bool.{cases_lt}
use Rattle.std.proofs.lemmas.List.{length-append, length-map}
use Rattle.mc_signal.specs.declared.Tagged.{Tagged}
use Rattle.mc_box.specs.declared.event.Event.{Event}
use Rattle.mc_port.specs.Entries.{Entry}
use Rattle.mc_merge.specs.LaneLogs.{without_stamps}
use Rattle.mc_merge.specs.Lanes.{leads_from, leads_to}
use Rattle.mc_merge.proofs.LaneEnds.{taker_is}
use Rattle.mc_model.specs.Worlds.{ChannelState, WorldState, front, front_for, lane_of, number, tunnel_of}
use Rattle.mc_merge.specs.Account.{IsPartWork, part_lane}
use Rattle.mc_merge.specs.Logs.{Own, own_log}
use Rattle.mc_merge.specs.Passing.{LanePasses}
use Rattle.mc_merge.specs.Phases.{IsUse}
use Rattle.mc_merge.specs.Wholes.{made_of}
use Rattle.mc_merge.specs.declared.log.Made.{Made}
use Rattle.mc_port.specs.declared.stamped.Stamped.{Stamped}
use Rattle.mc_world.specs.Waiting.{take_waits}
use Rattle.mc_part.proofs.Ran.{runs_as, runs_none, runs_sum}
use Rattle.mc_part.specs.Parts.{IsWithin, Runs, no_retries, shifts_of, state_of, stimuli_of, tables_of}
use Rattle.mc_part.proofs.Calm.{calm_as, stays_idle}
use Rattle.mc_box.specs.declared.limit.TheConstants.{SHIFT_LIMIT}
use Rattle.mc_part.specs.Running.{AreCalm, EndsAs, HasTried, HasWork, IsCalm, MakesSome, MayShift, NoneLeft, Progresses, RunsAs, owed_of}
use Rattle.mc_part.specs.declared.part.Part.{Part}
use Rattle.mc_part.specs.declared.stop.Ended.{Ended}
use Rattle.mc_part.specs.declared.stop.Ended.TheVariants.{Late, Rest}
use Rattle.mc_part.specs.declared.stop.PartStop.{PartStop}
use Rattle.mc_part.specs.declared.stop.PartStop.TheVariants.{NoMemory, Spent, VersionEnd, Unable, Strange, Stray}

-- ---- what waits at a box stays, where no turn is made

none_front : (items : List Tagged) (tunnel : ℕ) → items ≡ [] → is_some (front_for tunnel items) ≡ true → ⊥
none_front [] tunnel none some = absurd (cc)
none_front (item ∷ items) tunnel none some = absurd (cc)

lane_there : (lanes : List (List Tagged)) (lane tunnel : ℕ) → is_some (front_for tunnel (get_or lanes lane [])) ≡ true → lane < length lanes
lane_there lanes lane tunnel some = elim (cases_lt lane (length lanes)) [
  | inl inside ↦ inside
  | inr past ↦ absurd (none_front (get_or lanes lane []) tunnel (get_or-eq_default lanes [] past) some)
]

still_front : (tunnel : ℕ) (items more items_2 : List Tagged) → items_2 ≡ items ++ more → is_some (front_for tunnel items) ≡ true → is_some (front_for tunnel items_2) ≡ true
still_front tunnel [] more items_2 is some = absurd (cc)
still_front tunnel (item ∷ items) more items_2 is some = subst (λ (l : List Tagged). is_some (front_for tunnel l) ≡ true) (sym is) some

-- a lane to a box only grows
only_grows : (slack : ℕ) (before after : List Tagged) (came : List Stamped) (tunnel : ℕ) → LanePasses slack before [] came after → is_some (front_for tunnel before) ≡ true → is_some (front_for tunnel after) ≡ true
only_grows slack before after came tunnel passes some = still_front tunnel before (without_stamps came) after passes.order some

waits_on : (a b : Part) (log : List Own) (gave put : ℕ → List Stamped) (s : ℕ) → log ≡ [] → b.engine.channels ≡ a.engine.channels → IsPartWork (tables_of a) (state_of a) (state_of b) log gave put
    → leads_to a.engine (lane_of a.engine s) < length a.engine.boxes → is_some (front a.engine s) ≡ true → is_some (front_for (tunnel_of a.engine s).within (get_or b.engine.lanes (lane_of a.engine s) [])) ≡ true
waits_on a b (own ∷ log) gave put s none channels work here some = absurd (cc)
waits_on a b [] gave put s none channels work here some =
    let lane : ℕ = lane_of a.engine s in
    let tunnel : ℕ = (tunnel_of a.engine s).within in
    let inside : lane < length a.engine.lanes = lane_there a.engine.lanes lane tunnel some in
    elim (cases_lt (leads_from a.engine lane) (length a.engine.boxes)) [
      | inl inner ↦ only_grows 0 (part_lane (state_of a) lane) (part_lane (state_of b) lane) _ tunnel (work.inner lane inside inner here) some
      | inr off ↦ only_grows 0 (part_lane (state_of a) lane) (part_lane (state_of b) lane) (gave lane) tunnel (work.ins lane inside off here) some
    ]

-- the same by boxes and local numbers
waits_by_number : (world : WorldState) (o : Option ℕ) → is_some (option_and_then (front world) o) ≡ true → (next : WorldState) → ((s : ℕ) → o ≡ Some s → is_some (front world s) ≡ true → is_some (front next s) ≡ true)
    → is_some (option_and_then (front next) o) ≡ true
waits_by_number world None some next each = absurd (cc)
waits_by_number world (Some s) some next each = each s refl some

pub still_waits : (a b : Part) (retries : ℕ → ℕ → ℕ) (who local : ℕ) (runs : Runs a b retries) → runs.run.log ≡ [] → who < length a.engine.boxes → take_waits a.engine who local ≡ true → take_waits b.engine who local ≡ true
still_waits a b retries who local runs none inside some =
    let next : WorldState = record { boxes = b.engine.boxes; channels = a.engine.channels; lanes = b.engine.lanes } in
    let same : b.engine ≡ next = ap (λ (c : List ChannelState). record { boxes = b.engine.boxes; channels = c; lanes = b.engine.lanes }) runs.run.channels in
    subst (λ (w : WorldState). take_waits w who local ≡ true) (sym same)
    (waits_by_number a.engine (number a.engine who local) some next
    (λ s is waits. waits_on a b runs.run.log runs.gave runs.put s none runs.run.channels runs.run.spanned.work (subst (λ (n : ℕ). n < length a.engine.boxes) (sym (taker_is a.engine who local s is)) inside) waits))

-- ---- a log that is empty, or has grown

made_or : (log : List Own) (items items_2 : List Made) → items_2 ≡ items ++ map made_of log → (log ≡ []) ⊎ (length items < length items_2)
made_or [] items items_2 is = inl refl
made_or (own ∷ log) items items_2 is =
    let long : length items_2 ≡ length items + length (map made_of (own ∷ log)) = ap (λ (l : List Made). length l) is ∙ length-append items (map made_of (own ∷ log)) in
    let more : length (map made_of (own ∷ log)) ≡ suc (length log) = length-map (own ∷ log) made_of in
    inr (omega (arith, long, more))

used_none : (retries : ℕ → ℕ) (entries : List Entry) (stimuli stimuli_2 : List Event) (n n_2 : ℕ) → entries ≡ [] → IsUse retries entries stimuli stimuli_2 n n_2 → (stimuli_2 ≡ stimuli) × ((local : ℕ) → 0 ≡ retries local)
used_none retries [] stimuli stimuli_2 n n_2 none uses = (uses.commands, uses.retried)
used_none retries (entry ∷ entries) stimuli stimuli_2 n n_2 none uses = absurd (cc)

own_none : (log : List Own) (who : ℕ) → log ≡ [] → own_log who log ≡ []
own_none log who none = ap (λ (l : List Own). own_log who l) none

-- a box that may make a Shift isn't calm
pub still_may : (a : Part) (who : ℕ) → MayShift a who → IsCalm a who → ⊥
still_may a who may (inl none) = let no : true ≡ false = sym may.enabled ∙ none in absurd (cc)
still_may a who may (inr most) = let fewer : shifts_of a who < SHIFT_LIMIT = may.fewer in absurd (omega (arith, most, fewer))

-- with work, and nothing left of it, a turn was made
worked : (retries : Bool) (a b : Part) → Runs a b (owed_of retries a) → NoneLeft b → AreCalm b → HasTried a b → HasWork retries a → length a.log.items < length b.log.items
worked retries a b runs left calm tried work = elim (made_or runs.run.log a.log.items b.log.items runs.run.logged) [
  | inr more ↦ more
  | inl none ↦ idle_work none tried work
]
  where
    idle_work : runs.run.log ≡ [] → HasTried a b → HasWork retries a → length a.log.items < length b.log.items
    idle_work none (inr more) work = more
    idle_work none (inl waits) (inl (who, some)) = absurd (some (sym (used_none (owed_of retries a who) (own_log who runs.run.log) (stimuli_of a who) (stimuli_of b who) _ _ (own_none runs.run.log who none) (runs.run.uses who)).0 ∙ left who))
    idle_work none (inl waits) (inr (inl (who, (local, here)))) =
        let was : take_waits b.engine who local ≡ true = still_waits a b (owed_of retries a) who local runs none here.0 here.1 in
        let isnt : take_waits b.engine who local ≡ false = waits who local (subst (λ (n : ℕ). who < n) (sym runs.run.spanned.work.box_count) here.0) in
        absurd (let no : true ≡ false = sym was ∙ isnt in cc)
    idle_work none (inl waits) (inr (inr (inl (who, (local, owed))))) =
        let is : 0 ≡ owed_of retries a who local = (used_none (owed_of retries a who) (own_log who runs.run.log) (stimuli_of a who) (stimuli_of b who) _ _ (own_none runs.run.log who none) (runs.run.uses who)).1 local in
        absurd (omega (arith, is, owed))
    idle_work none (inl waits) (inr (inr (inr (who, may)))) =
        let is = stays_idle a b (owed_of retries a) runs none who in
        absurd (still_may a who may (calm_as b a who (sym is.0) (sym is.1) (calm who (subst (λ (n : ℕ). who < n) (sym runs.run.spanned.work.box_count) may.here))))

spent : (retries : Bool) (budget : ℕ) (a b : Part) → budget ≤ length b.log.items → MakesSome retries budget a b
spent retries budget a b most fewer work = omega (arith, most, fewer)

pub progresses : (retries : Bool) (budget : ℕ) (a b : Part) (result : Result Ended PartStop) → RunsAs retries a b result → EndsAs result b budget → OnOk result (HasTried a b) → Progresses retries budget a b result
progresses retries budget a b (Ok Rest) runs ends tried = λ fewer work. worked retries a b runs ends.begun.left ends.begun.calm tried work
progresses retries budget a b (Ok Late) runs ends tried = λ fewer work. worked retries a b runs ends.begun.left ends.begun.calm tried work
progresses retries budget a b (Err Spent) runs ends tried = spent retries budget a b ends
progresses retries budget a b (Err (NoMemory e)) runs ends tried = tt
progresses retries budget a b (Err (VersionEnd who local)) runs ends tried = tt
progresses retries budget a b (Err (Unable who)) runs ends tried = tt
progresses retries budget a b (Err (Strange who local)) runs ends tried = tt
progresses retries budget a b (Err (Stray port)) runs ends tried = tt

-- ---- retries, and then the others

runs_to : (retries : Bool) (a c : Part) (result : Result Ended PartStop) → Runs a c (owed_of retries a) → RunsAs retries a c result
runs_to retries a c (Ok ended) runs = runs
runs_to retries a c (Err Spent) runs = runs
runs_to retries a c (Err (NoMemory e)) runs = record { retries = owed_of retries a; runs = runs }
runs_to retries a c (Err (VersionEnd who local)) runs = runs
runs_to retries a c (Err (Unable who)) runs = runs
runs_to retries a c (Err (Strange who local)) runs = runs
runs_to retries a c (Err (Stray port)) runs = runs

pub runs_after : (retries : Bool) (a b c : Part) (result : Result Ended PartStop) → Runs a b (owed_of retries a) → Runs b c no_retries → RunsAs retries a c result
runs_after retries a b c result one two = runs_to retries a c result (runs_as a c (λ at local. owed_of retries a at local + no_retries at local) (owed_of retries a) (λ at local. add-zero (owed_of retries a at local)) (runs_sum a b c (owed_of retries a) no_retries one two))

-- where none are asked for
pub runs_unasked : (retries : Bool) (a : Part) → IsWithin a → retries ≡ false → Runs a a (owed_of retries a)
runs_unasked true a within off = absurd (cc)
runs_unasked false a within off = runs_none a within
