-- What is known of a part after a run.
use Rattle.std.proofs.Common.{◌≡◌, ◌==◌, ◌+◌, ◌&&◌, ◌||◌, ◌++◌, if◌then◌else◌, ℕ, suc, Bool, true, false, IsTrue, nat_lt, cond, List, [], ◌∷◌, map, count_by, slice_get, Some, Result, Ok, Err, is_ok, refl, ap, ap₂, ◌∙◌, subst, arith, true≢false}
use Rattle.std.specs.List.{AllByRecursion}
use Rattle.std.proofs.lemmas.Bool.{eqb-true}
use Rattle.std.proofs.lemmas.List.Sums.{sum_by-cons}
use Rattle.mc_box.specs.BoxEvents.{is_shift}
use Rattle.mc_box.specs.Boxes.{BoxState, box_owes, is_slot}
use Rattle.mc_merge.specs.Logs.{Own, own_log}
use Rattle.mc_merge.specs.Wholes.{made_of}
use Rattle.mc_merge.specs.declared.log.Made.{Made}
use Rattle.mc_model.specs.Settles.{is_retry_at, world_owes}
use Rattle.mc_port.specs.Entries.{Entry}
use Rattle.mc_part.specs.Knowing.{HoldsOf, MadeOweNone, NoneShifted, OwesNone}
use Rattle.mc_part.specs.Parts.{Runs, shifts_of}
use Rattle.mc_part.specs.Running.{RunsAs, RunsSome, owed_of}
use Rattle.mc_part.specs.declared.knowing.Known.{Known}
use Rattle.mc_part.specs.declared.part.Part.{Part}
use Rattle.mc_part.specs.declared.stop.Ended.{Ended}
use Rattle.mc_part.specs.declared.stop.PartStop.{PartStop}
use Rattle.mc_part.specs.declared.stop.PartStop.TheVariants.{NoMemory, Spent, VersionEnd, Unable, Strange, Stray}
use Rattle.mc_part.proofs.Calm.{stays_at}

-- ---- what was made in a run

-- what holds of each entry of a log holds of those that were made since
all_since : (P : Made → Type 0) (items : List Made) (log : List Own)
    → ((at : ℕ) (made : Made) → slice_get (items ++ map made_of log) at ≡ Some made → P made)
    → AllByRecursion (λ (own : Own). P (made_of own)) log
all_since P [] [] all = tt
all_since P [] (own ∷ log) all =
    (all 0 (made_of own) refl, all_since P [] log (λ k made is. all (suc k) made is))
all_since P (x ∷ items) log all = all_since P items log (λ k made is. all (suc k) made is)

-- a box has made none, or it holds of the box
of_box : (P : ℕ → Type 0) (log : List Own) (who : ℕ) → AllByRecursion (λ (own : Own). P own.who) log
    → (own_log who log ≡ [] → P who) → P who
of_box P [] who all other = other refl
of_box P (own ∷ log) who all other = by (own.who == who) refl (of_box P log who all.1)
  where
    by : (mine : Bool) → (own.who == who) ≡ mine → ((own_log who log ≡ [] → P who) → P who) → P who
    by true is later = subst P (eqb-true own.who who is) all.0
    by false is later =
        later (λ none. other (ap (λ (b : Bool). (if b then own.entry ∷ [] else []) ++ own_log who log) is ∙ none))

-- so no slot of any box owes a retry, where none of a box that made no turn owed one before
owes_still : (a b : Part) (retries : ℕ → ℕ → ℕ) (runs : Runs a b retries) → MadeOweNone b
    → ((who : ℕ) → own_log who runs.run.log ≡ [] → OwesNone a.engine who) → (who : ℕ) → OwesNone b.engine who
owes_still a b retries runs made before who =
    of_box (OwesNone b.engine) runs.run.log who
    (all_since (λ (m : Made). OwesNone b.engine m.who) a.log.items runs.run.log
    (λ at m is. made at m (ap (λ (l : List Made). slice_get l at) runs.run.logged ∙ is)))
    (λ none local.
    ap₂ (λ (n : ℕ) (box : BoxState). nat_lt who n && is_slot box local && box_owes box local)
    runs.run.spanned.work.box_count (stays_at a b retries runs who none).0 ∙ before who none local)

-- where each retry that was owed came, a box that made no turn owed none
none_owed : (a b : Part) (runs : Runs a b (owed_of true a)) (who : ℕ) → own_log who runs.run.log ≡ []
    → OwesNone a.engine who
none_owed a b runs who none local = by (world_owes a.engine who local) refl
  where
    counted : count_by (λ (entry : Entry). is_retry_at local entry.event) (own_log who runs.run.log)
        ≡ owed_of true a who local
    counted = (runs.run.uses who).retried local

    by : (owed : Bool) → world_owes a.engine who local ≡ owed → owed ≡ false
    by false is = refl
    by true is =
        let one : owed_of true a who local ≡ 1 = ap (λ (o : Bool). if true && o then 1 else 0) is in
        let zero_is : count_by (λ (entry : Entry). is_retry_at local entry.event) (own_log who runs.run.log) ≡ 0 =
        ap (λ (l : List Entry). count_by (λ (entry : Entry). is_retry_at local entry.event) l) none in
        let both = counted in
        absurd (omega (arith, one, zero_is, both))

-- ---- Shifts

none_more : (b : Bool) (n m : ℕ) → n ≡ cond b 1 0 + m → b ≡ false → m ≡ 0 → n ≡ 0
none_more true n m sum off none = absurd (true≢false off)
none_more false n m sum off none = omega (arith, sum, none)

none_counted : (log : List Own) (who : ℕ) → AllByRecursion (λ (own : Own). is_shift own.entry.event ≡ false) log
    → count_by (λ (entry : Entry). is_shift entry.event) (own_log who log) ≡ 0
none_counted [] who all = refl
none_counted (own ∷ log) who all = by (own.who == who) (none_counted log who all.1)
  where
    by : (mine : Bool) → count_by (λ (entry : Entry). is_shift entry.event) (own_log who log) ≡ 0
        → count_by (λ (entry : Entry). is_shift entry.event)
        ((if mine then own.entry ∷ [] else []) ++ own_log who log) ≡ 0
    by true rest =
        none_more (is_shift own.entry.event)
        (count_by (λ (entry : Entry). is_shift entry.event) (own.entry ∷ own_log who log))
        (count_by (λ (entry : Entry). is_shift entry.event) (own_log who log))
        (sum_by-cons (λ (entry : Entry). cond (is_shift entry.event) 1 0) own.entry (own_log who log)) all.0 rest
    by false rest = rest

shifts_still : (a b : Part) (retries : ℕ → ℕ → ℕ) → Runs a b retries → NoneShifted b.log.items
    → ((who : ℕ) → shifts_of a who ≡ 0) → (who : ℕ) → shifts_of b who ≡ 0
shifts_still a b retries runs none before who =
    let all : AllByRecursion (λ (own : Own). is_shift own.entry.event ≡ false) runs.run.log =
    all_since (λ (m : Made). is_shift m.event ≡ false) a.log.items runs.run.log
    (λ at m is. none at m (ap (λ (l : List Made). slice_get l at) runs.run.logged ∙ is)) in
    let counted = (runs.run.uses who).shifts_are in
    let zero_is : count_by (λ (entry : Entry). is_shift entry.event) (own_log who runs.run.log) ≡ 0 =
    none_counted runs.run.log who all in
    let first : shifts_of a who ≡ 0 = before who in
    omega (arith, counted, zero_is, first)

-- ---- what is known

-- a run, whatever was answered
run_some : (retries : Bool) (a b : Part) (result : Result Ended PartStop) → RunsAs retries a b result → RunsSome a b
run_some retries a b (Ok ended) runs = record { retries = owed_of retries a; runs = runs }
run_some retries a b (Err Spent) runs = record { retries = owed_of retries a; runs = runs }
run_some retries a b (Err (NoMemory e)) runs = runs
run_some retries a b (Err (VersionEnd who local)) runs = record { retries = owed_of retries a; runs = runs }
run_some retries a b (Err (Unable who)) runs = record { retries = owed_of retries a; runs = runs }
run_some retries a b (Err (Strange who local)) runs = record { retries = owed_of retries a; runs = runs }
run_some retries a b (Err (Stray port)) runs = record { retries = owed_of retries a; runs = runs }

owes_by : (retries : Bool) (a b : Part) (result : Result Ended PartStop) (known : Bool) → RunsAs retries a b result
    → IsTrue ((retries && is_ok result) || known) → MadeOweNone b
    → (IsTrue known → (who : ℕ) → OwesNone a.engine who) → (who : ℕ) → OwesNone b.engine who
owes_by true a b (Ok ended) known runs on made before = owes_still a b (owed_of true a) runs made (none_owed a b runs)
owes_by true a b (Err stop) known runs on made before =
    let some = run_some true a b (Err stop) runs in
    owes_still a b some.retries some.runs made (λ who none. before on who)
owes_by false a b result known runs on made before =
    let some = run_some false a b result runs in
    owes_still a b some.retries some.runs made (λ who none. before on who)

pub learned : (retries : Bool) (a b : Part) (result : Result Ended PartStop) (old new : Known) → RunsAs retries a b result
    → (IsTrue new.unowed → IsTrue ((retries && is_ok result) || old.unowed) × MadeOweNone b)
    → (IsTrue new.unshifted → IsTrue old.unshifted × NoneShifted b.log.items) → HoldsOf old a → HoldsOf new b
learned retries a b result old new runs unowed unshifted holds =
    let some = run_some retries a b result runs in
    record {
      owes = λ on. owes_by retries a b result old.unowed runs (unowed on).0 (unowed on).1 holds.owes;
      shifts = λ on.
          shifts_still a b some.retries some.runs (unshifted on).1 (holds.shifts (unshifted on).0);
    }
