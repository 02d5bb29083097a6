-- Which parts boxes may be in.
use Rattle.std.proofs.Common.{◌≡◌, ◌<◌, ◌≤◌, ◌+◌, ◌*◌, ℕ, All, List, length, replicate, take, take_all, subst, arith}
use Rattle.std.proofs.lemmas.List.Elements.{All-replicate}
use Rattle.std.proofs.lemmas.List.{length-replicate}
use Rattle.mc_part.proofs.Filling.{count_few}
use Rattle.mc_divided.specs.declared.limit.TheConstants.{NETWORK_LIMIT}
use Rattle.std.proofs.lemmas.List.FromFn.{get_or-map-range_with_len, length-map-range_with_len}
use Rattle.mc_box.specs.declared.limit.TheConstants.{SLOT_LIMIT}
use Rattle.mc_part.specs.DividedParts.{count_of, counts_of}
use Rattle.mc_divided.specs.Assigning.{HaveParts}
use Rattle.mc_divided.specs.Networks.{turn_budget}
use Rattle.mc_part.specs.declared.limit.TheConstants.{STAMP_LIMIT}

-- where the parts' counts are small enough
pub small_parts : (boxes : ℕ) (assigned counts : List ℕ) (count : ℕ) → length assigned ≡ boxes → 0 < count
    → count ≤ STAMP_LIMIT → All (λ (part : ℕ). part < count) assigned → counts ≡ counts_of assigned count
    → All (λ (n : ℕ). SLOT_LIMIT * n ≤ turn_budget count) counts → HaveParts boxes assigned count
small_parts boxes assigned counts count each some few parts are small = record {
  each = each;
  some = some;
  few = few;
  parts = parts;
  room = λ part below.
      let start : 0 + part ≡ part = omega arith in
      let long : part < length (counts_of assigned count) =
      omega (arith, below, length-map-range_with_len (count_of assigned) 0 count) in
      let all : All (λ (n : ℕ). SLOT_LIMIT * n ≤ turn_budget count) (counts_of assigned count) =
      subst (λ (l : List ℕ). All (λ (n : ℕ). SLOT_LIMIT * n ≤ turn_budget count) l) are small in
      subst (λ (n : ℕ). SLOT_LIMIT * n ≤ turn_budget count)
      (get_or-map-range_with_len (count_of assigned) 0 count part part 0 below start) (all part 0 long);
}

-- all boxes in one part
pub one_part : (boxes : ℕ) → boxes ≤ NETWORK_LIMIT → HaveParts boxes (replicate boxes 0) 1
one_part boxes few = record {
  each = length-replicate {A = ℕ} boxes 0;
  some = omega arith;
  few = omega arith;
  parts = All-replicate (λ (part : ℕ). part < 1) boxes 0 (omega arith);
  room = λ part below.
      let whole : take boxes (replicate boxes 0) ≡ replicate boxes 0 =
      take_all boxes (replicate boxes 0) (omega (arith, length-replicate {A = ℕ} boxes 0)) in
      let count : count_of (take boxes (replicate boxes 0)) part ≤ boxes =
      count_few (replicate boxes 0) boxes part (omega (arith, length-replicate {A = ℕ} boxes 0)) in
      let here : count_of (replicate boxes 0) part ≤ boxes =
      subst (λ (l : List ℕ). count_of l part ≤ boxes) whole count in
      omega arith;
}
