-- The worked merge, computed.
use Rattle.std.proofs.Common.{◌≡◌, ◌++◌, map, ℕ, zero, suc, ◌<◌, ◌+◌, [], ◌∷◌, Some, refl, arith}
use Rattle.std.specs.List.{AllByRecursion}
use Rattle.std.proofs.lemmas.List.Sorted.{IsPermutation-cons, IsPermutation-sym, IsPermutation-to_front}
use Rattle.mc_order.specs.Keys.{Rise, key_cmp, keys_from}
use Rattle.std.specs.List.Sorted.{IsPermutation, IsSorted}
use Rattle.std.proofs.Math.ListN.{get_or}
use Rattle.mc_box.specs.Boxes.{no_box}
use Rattle.std.specs.List.{slice_get}
use Rattle.mc_laws.specs.Exchanges.{two_phones}
use Rattle.mc_model.specs.Worlds.{box_at}
use Rattle.mc_merge.specs.LaneLogs.{claimed_of, claims_from, log_of, logs_of, sent_to, taken_from}
use Rattle.mc_merge.specs.Lanes.{FitsTunnel}
use Rattle.mc_merge.specs.Merging.{LaneKeeps}
use Rattle.mc_merge.specs.WorkedMerge.{WorkedMerge, claimed_logs, four_keys, key_of, last_world, left_over, two_logs}
use Rattle.mc_port.specs.Entries.{AreMade, AreStamped, Claimed, Entry, entries_of, stamps_of}
use Rattle.mc_port.specs.Ends.{with_stamp}
use Rattle.mc_port.specs.declared.stamped.Stamped.{Stamped}

two_sorted : IsSorted key_cmp four_keys
two_sorted zero d low high = refl
two_sorted (suc zero) d low high = refl
two_sorted (suc (suc zero)) d low high = refl
two_sorted (suc (suc (suc k))) d low high = absurd (omega arith)

two_made : (who : ℕ) → who < 2 → AreMade (box_at two_phones who) (log_of two_logs who) (get_or last_world.boxes who no_box)
two_made zero below = (refl, (refl, refl))
two_made (suc zero) below = (refl, (refl, refl))
two_made (suc (suc who)) below = absurd (omega arith)

two_rise : (who : ℕ) → who < 2 → Rise (stamps_of (log_of two_logs who))
two_rise zero below = ((omega arith, tt), (tt, tt))
two_rise (suc zero) below = ((omega arith, tt), (tt, tt))
two_rise (suc (suc who)) below = absurd (omega arith)

two_fit : (who : ℕ) → who < 2 → AllByRecursion (λ (entry : Entry). FitsTunnel two_phones who entry.event entry.taken) (log_of two_logs who)
two_fit zero below = (tt, (refl, tt))
two_fit (suc zero) below = (tt, (refl, tt))
two_fit (suc (suc who)) below = absurd (omega arith)

later_two : (lane : ℕ) → lane < 2 → (j k : ℕ) (taking sending : Stamped) → j ≡ 0 + k → slice_get (taken_from two_phones two_logs lane) j ≡ Some taking → slice_get (sent_to two_phones two_logs lane) k ≡ Some sending
    → sending.stamp < taking.stamp
later_two zero below zero zero taking sending is at_taken at_sent = grind arith
later_two zero below zero (suc k) taking sending is at_taken at_sent = absurd (omega arith)
later_two zero below (suc j) k taking sending is at_taken at_sent = absurd (cc)
later_two (suc zero) below zero zero taking sending is at_taken at_sent = grind arith
later_two (suc zero) below zero (suc k) taking sending is at_taken at_sent = absurd (omega arith)
later_two (suc zero) below (suc j) k taking sending is at_taken at_sent = absurd (cc)
later_two (suc (suc lane)) below j k taking sending is at_taken at_sent = absurd (omega arith)

two_keep : (lane : ℕ) → lane < 2 → LaneKeeps (get_or two_phones.lanes lane []) (taken_from two_phones two_logs lane) (sent_to two_phones two_logs lane) (get_or last_world.lanes lane [])
two_keep zero below = record { order = refl; later = later_two zero below }
two_keep (suc zero) below = record { order = refl; later = later_two (suc zero) below }
two_keep (suc (suc lane)) below = absurd (omega arith)

two_stamps : (who : ℕ) → who < 2 → AreStamped 0 (claimed_of claimed_logs who)
two_stamps zero below = (refl, (refl, tt))
two_stamps (suc zero) below = (refl, (refl, tt))
two_stamps (suc (suc who)) below = absurd (omega arith)

claims_made : (who : ℕ) → who < 2 → AreMade (box_at two_phones who) (entries_of (claimed_of claimed_logs who)) (get_or last_world.boxes who no_box)
claims_made zero below = (refl, (refl, refl))
claims_made (suc zero) below = (refl, (refl, refl))
claims_made (suc (suc who)) below = absurd (omega arith)

claims_fit : (who : ℕ) → who < 2 → AllByRecursion (λ (claimed : Claimed). FitsTunnel two_phones who claimed.entry.event claimed.entry.taken) (claimed_of claimed_logs who)
claims_fit zero below = (tt, (refl, tt))
claims_fit (suc zero) below = (tt, (refl, tt))
claims_fit (suc (suc who)) below = absurd (omega arith)

claims_keep : (lane : ℕ) → lane < 2 → claims_from two_phones claimed_logs lane ++ get_or left_over lane [] ≡ map (with_stamp 0) (get_or two_phones.lanes lane []) ++ sent_to two_phones (logs_of claimed_logs) lane
claims_keep zero below = refl
claims_keep (suc zero) below = refl
claims_keep (suc (suc lane)) below = absurd (omega arith)

two_once : IsPermutation (keys_from 0 ((1 ∷ 3 ∷ []) ∷ (1 ∷ 2 ∷ []) ∷ [])) four_keys
two_once =
    IsPermutation-cons (key_of 1 0 0) (key_of 3 0 1 ∷ key_of 1 1 0 ∷ key_of 2 1 1 ∷ []) (key_of 1 1 0 ∷ key_of 2 1 1 ∷ key_of 3 0 1 ∷ [])
    (IsPermutation-sym (key_of 1 1 0 ∷ key_of 2 1 1 ∷ key_of 3 0 1 ∷ []) (key_of 3 0 1 ∷ key_of 1 1 0 ∷ key_of 2 1 1 ∷ []) (IsPermutation-to_front (key_of 1 1 0 ∷ key_of 2 1 1 ∷ []) (key_of 3 0 1)))

pub worked_merge : WorkedMerge
worked_merge = record {
  claims = record { each_lane = refl; log_count = refl; box_count = refl; lane_count = refl; made = claims_made; stamps = two_stamps; tunnels = claims_fit; keeps = claims_keep };
  logs = record { each_lane = refl; log_count = refl; box_count = refl; lane_count = refl; made = two_made; rise = two_rise; tunnels = two_fit; keeps = two_keep };
  order = record { each_once = two_once; sorted = two_sorted };
  turns = refl;
  runs = refl;
  alice_first = refl;
  bob_first = refl;
}
