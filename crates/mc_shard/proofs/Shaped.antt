-- A shard keeps its shape over a turn.
use Rattle.std.proofs.Common.{◌≡◌, ℕ, zero, suc, ◌+◌, ◌*◌, ◌<◌, ◌≤◌, List, [], ◌∷◌, length, ap, sym, ◌∙◌, subst, refl, Result, Ok, Err, OnOk, is_err, false, arith}
use Rattle.std.proofs.Math.ListN.{get_or}
use Rattle.mc_shard.specs.Shards.{AreEnds, IsShaped, LaidShard}
use Rattle.mc_shard.specs.States.{ShardState, count_at, places_of, raised_all}
use Rattle.mc_shard.specs.declared.entry.AtEnd.{AtEnd}
use Rattle.mc_shard.specs.declared.reached.Reached.{Reached}
use Rattle.mc_shard.specs.declared.limit.TheConstants.{LAST_STAMP, SENT_LIMIT}
use Rattle.mc_shard.proofs.Counts.{all_length, all_within}

-- where there is an element, what stands for want of one doesn't matter
pub there_is : {X : Type 0} (xs : List X) (i : ℕ) (d e : X) → i < length xs → get_or xs i d ≡ get_or xs i e
there_is [] i d e inside = absurd (omega arith)
there_is (x ∷ xs) zero d e inside = refl
there_is (x ∷ xs) (suc i) d e inside = there_is xs i d e (omega arith)

-- after a turn that sends few signals and takes one at most
pub shaped_after : (old : LaidShard) (next : ShardState) (xs ys : List AtEnd) → IsShaped old
    → length next.boxes ≡ length old.state.boxes → next.sent ≡ raised_all old.state.sent xs → length xs ≤ SENT_LIMIT
    → next.taken ≡ raised_all old.state.taken ys → length ys ≤ 1 → old.state.stamp < next.stamp
    → next.stamp ≤ LAST_STAMP → IsShaped (record old { state = next })
shaped_after old next xs ys shaped boxes sent few taken one rises fits =
    let sent_long : length next.sent ≡ length old.state.sent = ap (λ (l : List Reached). length l) sent ∙ all_length xs old.state.sent in
    let taken_long : length next.taken ≡ length old.state.taken = ap (λ (l : List Reached). length l) taken ∙ all_length ys old.state.taken in
    record {
      box_count = shaped.box_count ∙ sym boxes;
      taken_count = taken_long ∙ (shaped.taken_count ∙ sym sent_long);
      owner_count = shaped.owner_count ∙ sym sent_long;
      ends = λ who. subst (λ (n : ℕ). AreEnds n (places_of old.places who)) (sym sent_long) (shaped.ends who);
      owned = shaped.owned;
      stamp = fits;
      few_sent = λ end.
          let now : count_at next.sent end ≤ count_at old.state.sent end + length xs = subst (λ (l : List Reached). count_at l end ≤ count_at old.state.sent end + length xs) (sym sent) (all_within xs old.state.sent end) in
          let before : count_at old.state.sent end ≤ SENT_LIMIT * old.state.stamp = shaped.few_sent end in
          omega arith;
      few_taken = λ end.
          let now : count_at next.taken end ≤ count_at old.state.taken end + length ys = subst (λ (l : List Reached). count_at l end ≤ count_at old.state.taken end + length ys) (sym taken) (all_within ys old.state.taken end) in
          let before : count_at old.state.taken end ≤ old.state.stamp = shaped.few_taken end in
          omega arith;
    }

-- what holds where a call succeeds, where it does
pub on_ok : {X E : Type 0} (r : Result X E) (P : Type 0) → is_err r ≡ false → OnOk r P → P
on_ok (Ok x) P is on = on
on_ok (Err e) P is on = absurd (cc)
