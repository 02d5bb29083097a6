-- Logs in which parts have written their turns down.
use Rattle.std.proofs.Common.{◌≡◌, inl, ◌<◌, ◌++◌, ℕ, zero, suc, Some, List, [], ◌∷◌, length, map, slice_get, refl, ap, sym, ◌∙◌, subst, arith}
use Rattle.std.proofs.lemmas.Option.{slice_get_within}
use Rattle.std.specs.declared.alloc.Global.{Global}
use Rattle.std.specs.declared.vec.Vec.{Vec}
use Rattle.mc_box.specs.declared.event.Turn.{Turn}
use Rattle.mc_merge.specs.Weaving.{AreWoven, IsWritten, clock_at, clocks_of, log_at, logs_of, numbers_at, numbers_of, turn_in, turns_at, turns_of}
use Rattle.mc_merge.specs.declared.log.Made.{Made}
use Rattle.mc_merge.specs.declared.log.PartLog.{PartLog}
use Rattle.mc_part.specs.Phases.{HaveWritten}
use Rattle.mc_part.specs.declared.part_run.PartRun.{PartRun}
use Rattle.mc_divided.specs.Phasing.{HaveMerged, logs_in}
use Rattle.mc_divided.proofs.Swapped.{at_place, maps_same}

-- all else in the logs stays
stays : {A : Type 0} (f : PartLog → A) (runs : List PartRun) (old new : List PartLog) → ((log : PartLog) (turns : Vec Turn Global) → f (record log { turns = turns }) ≡ f log) → length old ≡ length runs → HaveWritten runs old new → map f new ≡ map f old
stays f runs old new same each written =
    maps_same f f new old written.count
    (λ i b a q p.
    let run = at_place runs i (subst (λ (n : ℕ). i < n) each (slice_get_within old i a p)) in
    ap f (written.each i run.0 a b run.1 p q).kept ∙ same a b.turns)

pub logs_stay : (runs : List PartRun) (old new : List PartLog) → length old ≡ length runs → HaveWritten runs old new → logs_of new ≡ logs_of old
logs_stay runs old new each written = stays (λ (log : PartLog). log.made.items) runs old new (λ log turns. refl) each written

pub numbers_stay : (runs : List PartRun) (old new : List PartLog) → length old ≡ length runs → HaveWritten runs old new → numbers_of new ≡ numbers_of old
numbers_stay runs old new each written = stays (λ (log : PartLog). log.numbers.items) runs old new (λ log turns. refl) each written

pub clocks_stay : (runs : List PartRun) (old new : List PartLog) → length old ≡ length runs → HaveWritten runs old new → clocks_of new ≡ clocks_of old
clocks_stay runs old new each written = stays (λ (log : PartLog). log.clock) runs old new (λ log turns. refl) each written

-- the turns of each part's entries
each_written : (runs : List PartRun) (logs : List PartLog) → length logs ≡ length runs
    → ((i : ℕ) (run : PartRun) (log : PartLog) → slice_get runs i ≡ Some run → slice_get logs i ≡ Some log → IsWritten log.numbers.items run.part.log.items log.turns.items)
    → (part : ℕ) → IsWritten (numbers_at (numbers_of logs) part) (log_at (logs_in runs) part) (turns_at (turns_of logs) part)
each_written [] [] count each part = inl refl
each_written [] (log ∷ logs) count each part = absurd (omega (arith, count))
each_written (run ∷ runs) [] count each part = absurd (omega (arith, count))
each_written (run ∷ runs) (log ∷ logs) count each zero = each 0 run log refl refl
each_written (run ∷ runs) (log ∷ logs) count each (suc part) = each_written runs logs (omega (arith, count)) (λ i a b p q. each (suc i) a b p q) part

pub all_written : (runs carried : List PartRun) (old new : List PartLog) → length old ≡ length runs → logs_in carried ≡ logs_in runs → HaveWritten runs old new
    → (part : ℕ) → IsWritten (numbers_at (numbers_of new) part) (log_at (logs_in carried) part) (turns_at (turns_of new) part)
all_written runs carried old new each same written part =
    subst (λ (l : List (List Made)). IsWritten (numbers_at (numbers_of new) part) (log_at l part) (turns_at (turns_of new) part)) (sym same)
    (each_written runs new (written.count ∙ each)
    (λ i run b p q.
    let a = at_place old i (subst (λ (n : ℕ). i < n) (sym each) (slice_get_within runs i run p)) in
    (written.each i run a.0 b p a.1 q).written) part)

-- what is merged of them is what is merged of the logs before
pub merged_as : (old new : List PartRun) (logs logs_2 logs_3 : List PartLog) (before after : List Turn) → numbers_of logs_2 ≡ numbers_of logs → clocks_of logs_2 ≡ clocks_of logs → HaveMerged old new logs_2 logs_3 before after → HaveMerged old new logs logs_3 before after
merged_as old new logs logs_2 logs_3 before after numbers clocks merged = record {
  woven = merged.woven;
  are = subst (λ (l : List ℕ). AreWoven (clock_at l) (logs_in old) merged.woven) clocks merged.are;
  added = merged.added ∙ ap (λ (l : List (List ℕ)). before ++ map (turn_in l) merged.woven) numbers;
  closed = merged.closed;
  numbers = merged.numbers ∙ numbers;
  clocks = merged.clocks ∙ clocks;
  empty = merged.empty;
}
