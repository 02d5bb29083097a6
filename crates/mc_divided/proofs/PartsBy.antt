-- The parts of a network by their numbers.
use Rattle.std.proofs.Common.{◌≡◌, inl, inr, ◌<◌, ◌≤◌, ◌&&◌, if◌then◌else◌, Bool, true, false, ℕ, zero, suc, nat_lt, Some, Option, List, [], ◌∷◌, length, map, get_or, slice_get, Result, Ok, Err, refl, ap, sym, ◌∙◌, subst, arith, IsTrue, true≢false}
use Rattle.std.proofs.Math.Path.{fun_ext}
use Rattle.std.proofs.lemmas.Bool.{cases_lt, ltb-true}
use Rattle.std.proofs.lemmas.Option.{slice_get_within}
use Rattle.mc_box.specs.Boxes.{box_owes, is_slot}
use Rattle.mc_box.specs.declared.limit.TheConstants.{SHIFT_LIMIT}
use Rattle.mc_model.specs.Worlds.{box_at}
use Rattle.mc_part.specs.Networks.{HaveRun, states_of, tables_at}
use Rattle.mc_part.specs.Parts.{IsWithin, Runs, no_retries, shifts_of, state_of, tables_of}
use Rattle.mc_part.specs.Phases.{EachOf, HasEnded, HasGone, HaveGone}
use Rattle.mc_part.specs.Running.{RunsAs, owed_of}
use Rattle.mc_part.specs.declared.part.Part.{Part}
use Rattle.mc_part.specs.declared.part_run.PartRun.{PartRun}
use Rattle.mc_part.specs.declared.stop.Ended.{Ended}
use Rattle.mc_part.specs.declared.stop.PartStop.{PartStop}
use Rattle.mc_part.specs.declared.stop.PartStop.TheVariants.{NoMemory, Spent, VersionEnd, Unable, Strange, Stray}
use Rattle.mc_part.proofs.Progress.{runs_unasked}
use Rattle.mc_part.proofs.Ran.{runs_as, runs_nothing}
use Rattle.mc_divided.specs.Networks.{no_tables, states_among, tables_among}
use Rattle.mc_divided.specs.Phasing.{AreChosen, HasMemory, HasNothing, IsChosen}

-- past the last part
abbrev pub empty_part : Part → Part
empty_part none = record none { engine = no_tables; stamp = 0; heard = 0; log = record none.log { items = [] } }

abbrev pub part_in : PartRun → Part
part_in run = run.part

abbrev pub parts_by : Part → List PartRun → ℕ → Part
parts_by none runs part = get_or (map part_in runs) part (empty_part none)

pub by_map : {A B C : Type 0} (f : A → B) (g : B → C) (xs : List A) (i : ℕ) (d : B) → get_or (map (λ (a : A). g (f a)) xs) i (g d) ≡ g (get_or (map f xs) i d)
by_map f g [] i d = refl
by_map f g (x ∷ xs) zero d = refl
by_map f g (x ∷ xs) (suc i) d = by_map f g xs i d

pub states_are : (none : Part) (runs : List PartRun) → states_among runs ≡ states_of (parts_by none runs)
states_are none runs = fun_ext (λ part. by_map part_in state_of runs part (empty_part none))

pub tables_are : (none : Part) (runs : List PartRun) → tables_among runs ≡ tables_at (parts_by none runs)
tables_are none runs = fun_ext (λ part. by_map part_in tables_of runs part (empty_part none))

-- ---- by lists

pub part_is : (none : Part) (runs : List PartRun) (i : ℕ) (run : PartRun) → slice_get runs i ≡ Some run → parts_by none runs i ≡ run.part
part_is none [] i run is = absurd (cc)
part_is none (x ∷ xs) zero run is = let same : x ≡ run = cc in ap part_in same
part_is none (x ∷ xs) (suc i) run is = part_is none xs i run is

pub part_past : (none : Part) (runs : List PartRun) (i : ℕ) → length runs ≤ i → parts_by none runs i ≡ empty_part none
part_past none [] i past = refl
part_past none (x ∷ xs) zero past = absurd (omega (arith, past))
part_past none (x ∷ xs) (suc i) past = part_past none xs i (omega (arith, past))

pub run_there : (runs : List PartRun) (i : ℕ) → i < length runs → (run : PartRun) × (slice_get runs i ≡ Some run)
run_there [] i inside = absurd (omega (arith, inside))
run_there (x ∷ xs) zero inside = (x, refl)
run_there (x ∷ xs) (suc i) inside = run_there xs i (omega (arith, inside))

-- a property of each part, and of none at all
pub by_part : (P : Part → Type 0) (none : Part) (runs : List PartRun) → ((i : ℕ) (run : PartRun) → slice_get runs i ≡ Some run → P run.part) → P (empty_part none) → (i : ℕ) → P (parts_by none runs i)
by_part P none runs each past i = elim (cases_lt i (length runs)) [
  | inl inside ↦ let run = run_there runs i inside in subst P (sym (part_is none runs i run.0 run.1)) (each i run.0 run.1)
  | inr outside ↦ subst P (sym (part_past none runs i outside)) past
]

-- and of each part before and after
pub by_parts : (R : Part → Part → Type 0) (none : Part) (old new : List PartRun) → length new ≡ length old
    → ((i : ℕ) (a b : PartRun) → slice_get old i ≡ Some a → slice_get new i ≡ Some b → R a.part b.part) → R (empty_part none) (empty_part none) → (i : ℕ) → R (parts_by none old i) (parts_by none new i)
by_parts R none old new count each past i = elim (cases_lt i (length old)) [
  | inl inside ↦
      let a = run_there old i inside in
      let b = run_there new i (subst (λ (n : ℕ). i < n) (sym count) inside) in
      subst (λ (p : Part). R p (parts_by none new i)) (sym (part_is none old i a.0 a.1)) (subst (λ (p : Part). R a.0.part p) (sym (part_is none new i b.0 b.1)) (each i a.0 b.0 a.1 b.1))
  | inr outside ↦
      subst (λ (p : Part). R p (parts_by none new i)) (sym (part_past none old i outside))
      (subst (λ (p : Part). R (empty_part none) p) (sym (part_past none new i (subst (λ (n : ℕ). n ≤ i) (sym count) outside))) past)
]

-- ---- each part ran

-- where there was memory
pub runs_of : (retries : Bool) (a b : Part) (result : Result Ended PartStop) → HasMemory (Some result) → RunsAs retries a b result → Runs a b (owed_of retries a)
runs_of retries a b (Ok ended) memory runs = runs
runs_of retries a b (Err Spent) memory runs = runs
runs_of retries a b (Err (NoMemory e)) memory runs = absurd memory
runs_of retries a b (Err (VersionEnd who local)) memory runs = runs
runs_of retries a b (Err (Unable who)) memory runs = runs
runs_of retries a b (Err (Strange who local)) memory runs = runs
runs_of retries a b (Err (Stray port)) memory runs = runs

not_below : (n : ℕ) (test : Bool) → nat_lt n 0 ≡ test → test ≡ false
not_below n true is = let below : n < 0 = ltb-true n 0 is in absurd (omega (arith, below))
not_below n false is = refl

-- no box owes no retry
none_owed : (retries : Bool) (none : Part) (who local : ℕ) → no_retries who local ≡ owed_of retries (empty_part none) who local
none_owed false none who local = refl
none_owed true none who local =
    sym (ap (λ (t : Bool). if t && is_slot (box_at no_tables who) local && box_owes (box_at no_tables who) local then 1 else 0) (not_below who (nat_lt who 0) refl))

pub empty_runs : (retries : Bool) (none : Part) → ((who : ℕ) → shifts_of none who ≤ SHIFT_LIMIT) → Runs (empty_part none) (empty_part none) (owed_of retries (empty_part none))
empty_runs retries none few = runs_as (empty_part none) (empty_part none) no_retries (owed_of retries (empty_part none)) (none_owed retries none) (runs_nothing (empty_part none) few)

-- retries aren't asked for where not each box is tried
pub unasked : (retries every : Bool) → (IsTrue retries → IsTrue every) → every ≡ false → retries ≡ false
unasked true every asked off = absurd (true≢false (sym (asked refl) ∙ off))
unasked false every asked off = refl

-- one that was chosen, or had nothing to do
pub ran_one : (retries every : Bool) (budget : ℕ) (a b c : PartRun) → (IsTrue retries → IsTrue every) → IsWithin a.part → IsChosen every a b → HasGone retries budget b c → HasMemory c.ended → (active : Bool) → b.active ≡ active
    → Runs a.part c.part (owed_of retries a.part)
ran_one retries every budget a b c asked within chosen gone memory true is =
    let ended : HasEnded retries budget b c = gone.ended is in
    subst (λ (p : Part). Runs p c.part (owed_of retries p)) chosen.part (runs_of retries b.part c.part ended.result (subst (λ (o : Option (Result Ended PartStop)). HasMemory o) ended.is memory) ended.runs)
ran_one retries every budget a b c asked within chosen gone memory false is =
    let none : HasNothing every b.part = chosen.idle is in
    subst (λ (p : Part). Runs a.part p (owed_of retries a.part)) (sym (ap part_in (gone.idle is) ∙ chosen.part)) (runs_unasked retries a.part within (unasked retries every asked none.some))

pub have_run : (retries every : Bool) (budget : ℕ) (none : Part) (old chosen gone : List PartRun) → (IsTrue retries → IsTrue every) → ((who : ℕ) → shifts_of none who ≤ SHIFT_LIMIT)
    → ((i : ℕ) (run : PartRun) → slice_get old i ≡ Some run → IsWithin run.part) → AreChosen every old chosen → HaveGone retries budget chosen gone → EachOf (λ (run : PartRun). HasMemory run.ended) gone
    → HaveRun retries (parts_by none old) (parts_by none gone)
have_run retries every budget none old chosen gone asked few within chose went memory =
    by_parts (λ (a b : Part). Runs a b (owed_of retries a)) none old gone (went.count ∙ chose.count)
    (λ i a c p q.
    let b = run_there chosen i (subst (λ (n : ℕ). i < n) (sym chose.count) (slice_get_within old i a p)) in
    ran_one retries every budget a b.0 c asked (within i a p) (chose.each i a b.0 p b.1) (went.each i b.0 c b.1 q) (memory i c q) b.0.active refl)
    (empty_runs retries none few)
