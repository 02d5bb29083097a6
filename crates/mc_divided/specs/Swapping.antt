-- Logs of parts that change places with others.
use Rattle.std.specs.Prelude.{◌≡◌, ℕ, List, length, slice_get, Some}
use Rattle.mc_part.specs.declared.part_run.PartRun.{PartRun}
use Rattle.mc_merge.specs.declared.log.PartLog.{PartLog}

-- a part has another log, and its own is elsewhere
abbrev pub swapped_run : PartRun → PartLog → PartRun
swapped_run run log = record run { part = record run.part { log = log.made } }

abbrev pub swapped_log : PartRun → PartLog → PartLog
swapped_log run log = record log { made = run.part.log }

-- and its stamps begin again
abbrev pub closed_run : PartRun → PartLog → PartRun
closed_run run log = record run { part = record run.part { log = log.made; stamp = 0; heard = 0 } }

-- each part and the log at its place change so
pub record HavePairs (f : PartRun → PartLog → PartRun) (g : PartRun → PartLog → PartLog) (old new : List PartRun)
    (logs logs_2 : List PartLog) : Type 0 where
  pub count : length new ≡ length old
  pub count_logs : length logs_2 ≡ length logs
  pub run : (i : ℕ) (a : PartRun) (l : PartLog) → slice_get old i ≡ Some a → slice_get logs i ≡ Some l
      → slice_get new i ≡ Some (f a l)
  pub log : (i : ℕ) (a : PartRun) (l : PartLog) → slice_get old i ≡ Some a → slice_get logs i ≡ Some l
      → slice_get logs_2 i ≡ Some (g a l)
