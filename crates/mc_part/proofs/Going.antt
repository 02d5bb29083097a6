-- A part that ran, or had nothing to do.
use Rattle.std.proofs.Common.{◌≡◌, ◌&&◌, ◌||◌, is_ok, IsTrue, ℕ, ◌<◌, ◌≤◌, zero, suc, true, false, Bool, List, [], ◌∷◌, length, get_or, slice_get, max, Result, Ok, Err, Some, refl, sym, subst, arith}
use Rattle.std.proofs.Math.ListN.{set}
use Rattle.mc_part.specs.Parts.{IsWithin, LeadsAway}
use Rattle.mc_part.specs.Running.{EndsAs, Progresses, RunsAs, UsesAs, owed_of}
use Rattle.mc_part.specs.declared.part.Part.{Part}
use Rattle.mc_part.specs.declared.stop.Ended.{Ended}
use Rattle.mc_part.specs.declared.stop.PartStop.{PartStop}
use Rattle.mc_part.specs.declared.stop.PartStop.TheVariants.{NoMemory, Spent, VersionEnd, Unable, Strange, Stray}
use Rattle.mc_part.specs.Knowing.{MadeOweNone, NoneShifted}
use Rattle.mc_part.specs.declared.knowing.Known.{Known}
use Rattle.mc_part.proofs.Learned.{learned}
use Rattle.mc_part.proofs.Ran.{still_away}
use Rattle.std.proofs.lemmas.Option.{slice_get-get_or}
use Rattle.mc_part.specs.Phases.{EachChanged, EachOf, HasGone, IsReady}
use Rattle.mc_part.specs.declared.part_run.PartRun.{PartRun}

-- ports lead away still, whatever was answered
away_as : (retries : Bool) (a b : Part) (result : Result Ended PartStop) → RunsAs retries a b result → LeadsAway a → LeadsAway b
away_as retries a b (Ok ended) runs away = still_away a b (owed_of retries a) runs away
away_as retries a b (Err Spent) runs away = still_away a b (owed_of retries a) runs away
away_as retries a b (Err (NoMemory e)) runs away = still_away a b runs.retries runs.runs away
away_as retries a b (Err (VersionEnd who local)) runs away = still_away a b (owed_of retries a) runs away
away_as retries a b (Err (Unable who)) runs away = still_away a b (owed_of retries a) runs away
away_as retries a b (Err (Strange who local)) runs away = still_away a b (owed_of retries a) runs away
away_as retries a b (Err (Stray port)) runs away = still_away a b (owed_of retries a) runs away

pub ran : (retries every : Bool) (budget : ℕ) (a : PartRun) (part : Part) (result : Result Ended PartStop) → a.active ≡ true → IsReady retries every budget a → RunsAs retries a.part part result → IsWithin part
    → length part.log.items ≤ max budget (length a.part.log.items) → EndsAs result part budget → Progresses retries budget a.part part result → (retries ≡ false → UsesAs budget a.part part result)
    → (known : Known) → (IsTrue known.unowed → IsTrue ((retries && is_ok result) || a.known.unowed) × MadeOweNone part)
    → (IsTrue known.unshifted → IsTrue a.known.unshifted × NoneShifted part.log.items)
    → HasGone retries budget a (record a { part = part; ended = Some result; known = known })
ran retries every budget a part result active ready runs within few ends progress used known unowed unshifted = record {
  away = away_as retries a.part part result runs ready.away;
  within = within;
  active = refl;
  idle = λ off. absurd (cc);
  ended = λ on. record { result = result; is = refl; runs = runs; few = few; ends = ends; progress = progress; used = used };
  known = learned retries a.part part result a.known known runs unowed unshifted;
}

pub idle : (retries every : Bool) (budget : ℕ) (a : PartRun) → a.active ≡ false → IsReady retries every budget a → HasGone retries budget a a
idle retries every budget a off ready = record { away = ready.away; within = ready.within; active = refl; idle = λ is. refl; ended = λ on. absurd (cc); known = λ holds. holds }

pub none_changed : {A : Type 0} (R : A → A → Type 0) (items : List A) → items ≡ [] → EachChanged R items items
none_changed {A = A} R items none = subst (λ (l : List A). EachChanged R l l) (sym none) (record { count = refl; each = λ i a b p q. absurd (cc) })

pub one_ready : (retries every : Bool) (budget : ℕ) (runs : List PartRun) (read : PartRun) → 0 < length runs → EachOf (IsReady retries every budget) runs → IsReady retries every budget (get_or runs 0 read)
one_ready retries every budget runs read some each = each 0 (get_or runs 0 read) (slice_get-get_or runs 0 read some)
