-- Logs that rise may be merged, and stamps that came by rings are as great as there are turns.
use Rattle.std.proofs.Common.{◌≡◌, inl, inr, ℕ, ◌<◌, ◌≤◌, List, [], ◌∷◌, ◌++◌, length, map, sym, subst, arith}
use Rattle.std.specs.List.{AllByRecursion, Contains}
use Rattle.std.proofs.lemmas.List.{map-append}
use Rattle.std.proofs.lemmas.List.Elements.{All-contains, Contains-append_left}
use Rattle.mc_merge.specs.Fits.{KeptLogsFit, PhaseIsClocked, PutsFit}
use Rattle.mc_merge.specs.Weaving.{Climb, IsKnown, made_stamps, numbers_at}
use Rattle.mc_merge.specs.Wholes.{made_of}
use Rattle.mc_merge.specs.declared.log.Made.{Made}
use Rattle.mc_merge.specs.Clocks.{item_stamps, stamps_below}
use Rattle.mc_merge.specs.Logs.{AreRising, Own}
use Rattle.mc_merge.proofs.Clocks.{part_stamps_fit, to_all}
use Rattle.mc_merge.proofs.Logs.{above_low}
use Rattle.mc_port.specs.declared.stamped.Stamped.{Stamped}

-- ---- logs

later_kept : (log : List Own) (low : ℕ) → AllByRecursion (λ (own : Own). low < own.entry.stamp) log → AllByRecursion (λ (later : ℕ). low ≤ later) (made_stamps (map made_of log))
later_kept [] low all = tt
later_kept (own ∷ log) low all = (let above : low < own.entry.stamp = all.0 in let least : low ≤ own.entry.stamp = omega arith in least, later_kept log low all.1)

climbs : (log : List Own) (low last : ℕ) → AreRising low log last → Climb (made_stamps (map made_of log))
climbs [] low last rising = tt
climbs (own ∷ log) low last rising = (later_kept log own.entry.stamp (above_low log own.entry.stamp last rising.1), climbs log own.entry.stamp last rising.1)

known_kept : (log : List Own) (count : ℕ) (numbers : List ℕ) → count ≤ length numbers → AllByRecursion (λ (own : Own). own.who < count) log → IsKnown numbers (map made_of log)
known_kept [] count numbers enough all = tt
known_kept (own ∷ log) count numbers enough all = (let below : own.who < count = all.0 in let inside : own.who < length numbers = omega arith in inside, known_kept log count numbers enough all.1)

pub kept_logs_fit : KeptLogsFit
kept_logs_fit parts made numbers kept worked known enough = (
  λ part. subst (λ (l : List Made). Climb (made_stamps l)) (kept part) (climbs (parts part).log (parts part).old.stamp (parts part).new.stamp (worked part).rising),
  λ part. subst (λ (l : List Made). IsKnown (numbers_at numbers part) l) (kept part) (known_kept (parts part).log (length (parts part).old.boxes) (numbers_at numbers part) (enough part) (known part)),
)

-- ---- rings

put_too : (gave left put : List Stamped) (k : ℕ) → gave ++ left ≡ put → Contains (item_stamps gave) k → Contains (item_stamps put) k
put_too gave left put k is has =
    subst (λ (l : List Stamped). Contains (item_stamps l) k) is
    (subst (λ (l : List ℕ). Contains l k) (sym (map-append (λ (item : Stamped). item.stamp) gave left)) (Contains-append_left (item_stamps gave) (item_stamps left) k has))

pub phase_is_clocked : PhaseIsClocked
phase_is_clocked base layout parts drained count phase clocked stamps heard came = record {
  clocked = clocked;
  stamp = stamps;
  heard = heard;
  rings = λ part at k inside has.
      let by = came part at k inside has in
      let drain = phase.crossing by.lane by.inside by.apart in
      let here : Contains (item_stamps ((parts (layout.takers by.lane).0).gave (layout.takers by.lane).1)) k = subst (λ (place : ℕ × ℕ). Contains (item_stamps ((parts place.0).gave place.1)) k) (sym by.place) has in
      ((layout.senders by.lane).0, by.from, ((layout.senders by.lane).1, put_too ((parts (layout.takers by.lane).0).gave (layout.takers by.lane).1) drain.left ((parts (layout.senders by.lane).0).put (layout.senders by.lane).1) k drain.ring here));
}

pub puts_fit : PutsFit
puts_fit count parts part lane k are inside has = elim ((are.clocked part inside).puts lane k has) [
  | inl first ↦
      let zero_is : (parts part).old.stamp ≡ 0 = are.stamp part inside in
      omega arith
  | inr made ↦ All-contains (λ (stamp : ℕ). stamp ≤ length (stamps_below count parts)) (stamps_below count parts) k (part_stamps_fit count parts are) (to_all count parts part k inside made)
]
