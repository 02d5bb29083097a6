-- What is looked at end by end is what a shard keeps.
use Rattle.std.proofs.Common.{◌≡◌, ℕ, ◌+◌, ◌*◌, ◌<◌, ◌≤◌, Bool, true, false, MatchBool, List, inl, inr, length, ap, sym, subst, arith}
use Rattle.std.proofs.lemmas.Bool.{cases_eq, cases_lt}
use Rattle.std.proofs.lemmas.List.{get_or_past}
use Rattle.mc_shard.specs.Loading.{AreFew, AreFewAt, HaveLengths}
use Rattle.mc_shard.specs.Shards.{AreEnds, AreLaid, IsShaped, LaidShard}
use Rattle.mc_shard.specs.States.{count_at, none_reached, places_of}
use Rattle.mc_shard.specs.declared.limit.TheConstants.{LAST_STAMP, SENT_LIMIT}
use Rattle.mc_shard.specs.declared.reached.Reached.{Reached}

pub one_end_more : (shard : LaidShard) (count : ℕ) → ((end : ℕ) → end < count → AreFewAt shard end) → AreFewAt shard count
    → (end : ℕ) → end < count + 1 → AreFewAt shard end
one_end_more shard count before this end low = elim (cases_eq end count) [
  | inl same ↦ subst (λ (n : ℕ). AreFewAt shard n) (sym same) this
  | inr apart ↦ before end (omega arith)
]

-- an end that isn't there has no counts
none_past : (lanes : List Reached) (end : ℕ) → length lanes ≤ end → count_at lanes end ≡ 0
none_past lanes end past = ap (λ (r : Reached). r.count) (get_or_past lanes end none_reached past)

sent_few : (shard : LaidShard) → AreFew shard → (end : ℕ) → count_at shard.state.sent end ≤ SENT_LIMIT * shard.state.stamp
sent_few shard few end = elim (cases_lt end (length shard.state.sent)) [
  | inl inside ↦ (few end inside).sent
  | inr past ↦ let none : count_at shard.state.sent end ≡ 0 = none_past shard.state.sent end past in omega (arith, none)
]

taken_few : (shard : LaidShard) → HaveLengths shard → AreFew shard → (end : ℕ) → count_at shard.state.taken end ≤ shard.state.stamp
taken_few shard lengths few end = elim (cases_lt end (length shard.state.sent)) [
  | inl inside ↦ (few end inside).taken
  | inr past ↦
      let none : count_at shard.state.taken end ≡ 0 =
      none_past shard.state.taken end (subst (λ (n : ℕ). n ≤ end) (sym lengths.taken) past) in
      omega (arith, none)
]

all_shaped : (shard : LaidShard) → HaveLengths shard → shard.state.stamp ≤ LAST_STAMP → AreFew shard
    → AreLaid shard.state.boxes shard.places shard.owners → IsShaped shard
all_shaped shard lengths stamp few laid = record {
  box_count = laid.box_count;
  taken_count = lengths.taken;
  owner_count = lengths.owners;
  ends = λ who. subst (λ (n : ℕ). AreEnds n (places_of shard.places who)) lengths.owners (laid.ends who);
  owned = laid.owned;
  stamp = stamp;
  few_sent = λ end. sent_few shard few end;
  few_taken = λ end. taken_few shard lengths few end;
}

shaped_laid : (shard : LaidShard) → IsShaped shard → AreLaid shard.state.boxes shard.places shard.owners
shaped_laid shard shaped = record {
  box_count = shaped.box_count;
  ends = λ who. subst (λ (n : ℕ). AreEnds n (places_of shard.places who)) (sym shaped.owner_count) (shaped.ends who);
  owned = shaped.owned;
}

pub shaped_lengths : (shard : LaidShard) → IsShaped shard → HaveLengths shard
shaped_lengths shard shaped = record { taken = shaped.taken_count; owners = shaped.owner_count }

pub shaped_few : (shard : LaidShard) → IsShaped shard → AreFew shard
shaped_few shard shaped end inside = record { sent = shaped.few_sent end; taken = shaped.few_taken end }

pub shaped_by : (shard : LaidShard) (laid : Bool) → HaveLengths shard → shard.state.stamp ≤ LAST_STAMP → AreFew shard
    → MatchBool laid (AreLaid shard.state.boxes shard.places shard.owners)
    (AreLaid shard.state.boxes shard.places shard.owners → ⊥)
    → MatchBool laid (IsShaped shard) (IsShaped shard → ⊥)
shaped_by shard true lengths stamp few laid = all_shaped shard lengths stamp few laid
shaped_by shard false lengths stamp few unlaid = λ shaped. unlaid (shaped_laid shard shaped)
