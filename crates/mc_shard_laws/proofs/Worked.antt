-- Two phones in two shards.
use Rattle.std.proofs.Common.{◌≡◌, inl, inr, ℕ, zero, suc, ◌<◌, [], refl, arith}
use Rattle.std.specs.List.{AllByRecursion, slice_get}
use Rattle.std.proofs.Math.ListN.{get_or}
use Rattle.std.proofs.lemmas.Grind.{common_steps}
use Rattle.std.specs.Option.{option_map}
use Rattle.mc_laws.specs.Exchanges.{two_phones}
use Rattle.mc_merge.specs.LaneLogs.{log_of}
use Rattle.mc_merge.specs.Lanes.{into_box, leads_from, leads_to, out_of_box, tunnel_at}
use Rattle.mc_merge.specs.Logs.{own_log}
use Rattle.mc_shard.specs.Journals.{AreAllAmong, sent_at, taken_at}
use Rattle.mc_shard_laws.specs.Logs.{owns}
use Rattle.mc_shard_laws.specs.Merged.{IsNamed, entries_in}
use Rattle.mc_shard.specs.States.{IsJournal, places_of}
use Rattle.mc_shard_laws.specs.Together.{HasEnd, JoinsEnds, StandsIn, end_tunnels}
use Rattle.mc_shard_laws.specs.Worked.{WorkedShards, one_place, two_boxes, two_homes, two_logs, two_names, two_rests, two_shards}

alice_journal : IsJournal one_place (two_shards 0).first (two_shards 0).journal
alice_journal = (
  record { here = omega arith; goes = refl; sent = refl; next = tt; fits = tt; asked = tt; rises = omega arith; above = tt },
  (record { here = omega arith; goes = refl; sent = refl; next = (record { number = refl; digest = refl }, tt); fits = refl; asked = tt; rises = omega arith; above = omega arith }, tt),
)

bob_journal : IsJournal one_place (two_shards 1).first (two_shards 1).journal
bob_journal = (
  record { here = omega arith; goes = refl; sent = refl; next = tt; fits = tt; asked = tt; rises = omega arith; above = tt },
  (record { here = omega arith; goes = refl; sent = refl; next = (record { number = refl; digest = refl }, tt); fits = refl; asked = tt; rises = omega arith; above = omega arith }, tt),
)

one_end : HasEnd one_place 0 0
one_end zero local tunnel at = refl
one_end (suc other) local tunnel at = absurd (cc)

logs_are : (who : ℕ) → log_of two_logs who ≡ own_log 0 (owns (two_shards who).first (two_shards who).journal)
logs_are zero = refl
logs_are (suc zero) = refl
logs_are (suc (suc who)) = refl

tunnels_0 : (local : ℕ) → tunnel_at two_phones 0 local ≡ option_map (λ (place : ℕ × ℕ). place.1) (slice_get (places_of one_place 0) local)
tunnels_0 zero = refl
tunnels_0 (suc local) = grind (arith, common_steps)

tunnels_1 : (local : ℕ) → tunnel_at two_phones 1 local ≡ option_map (λ (place : ℕ × ℕ). place.1) (slice_get (places_of one_place 0) local)
tunnels_1 zero = refl
tunnels_1 (suc local) = grind (arith, common_steps)

out_1 : (local : ℕ) → out_of_box two_phones 1 0 local ≡ end_tunnels one_place 0 0 local
out_1 zero = refl
out_1 (suc local) = grind (arith, common_steps)

into_0 : (local : ℕ) → into_box two_phones 0 0 local ≡ end_tunnels one_place 0 0 local
into_0 zero = refl
into_0 (suc local) = grind (arith, common_steps)

out_0 : (local : ℕ) → out_of_box two_phones 0 1 local ≡ end_tunnels one_place 0 0 local
out_0 zero = refl
out_0 (suc local) = grind (arith, common_steps)

into_1 : (local : ℕ) → into_box two_phones 1 1 local ≡ end_tunnels one_place 0 0 local
into_1 zero = refl
into_1 (suc local) = grind (arith, common_steps)

stand : (who : ℕ) → who < 2 → StandsIn two_phones two_homes two_shards two_boxes who
stand zero inside = record { journal = alice_journal; before = refl; after = refl; tunnels = tunnels_0 }
stand (suc zero) inside = record { journal = bob_journal; before = refl; after = refl; tunnels = tunnels_1 }
stand (suc (suc who)) inside = absurd (omega arith)

to_alice : AreAllAmong (taken_at 0 (two_shards 0).journal) (sent_at 0 (two_shards 1).journal)
to_alice item among = elim among [
  | inl same ↦ inl same
  | inr none ↦ absurd none
]

to_bob : AreAllAmong (taken_at 0 (two_shards 1).journal) (sent_at 0 (two_shards 0).journal)
to_bob item among = elim among [
  | inl same ↦ inl same
  | inr none ↦ absurd none
]

joined : (lane : ℕ) → lane < 2 → JoinsEnds two_phones two_homes two_shards lane (get_or two_rests lane [])
joined zero inside = record {
  from = 1;
  sender = 0;
  out = 0;
  to = 0;
  taker = 0;
  into = 0;
  sender_home = refl;
  taker_home = refl;
  out_tunnels = out_1;
  into_tunnels = into_0;
  out_owner = one_end;
  into_owner = one_end;
  out_there = omega arith;
  into_there = omega arith;
  none_sent = refl;
  none_taken = refl;
  has_sending = to_alice;
  rest_is = refl;
}
joined (suc zero) inside = record {
  from = 0;
  sender = 0;
  out = 0;
  to = 1;
  taker = 0;
  into = 0;
  sender_home = refl;
  taker_home = refl;
  out_tunnels = out_0;
  into_tunnels = into_1;
  out_owner = one_end;
  into_owner = one_end;
  out_there = omega arith;
  into_there = omega arith;
  none_sent = refl;
  none_taken = refl;
  has_sending = to_bob;
  rest_is = refl;
}
joined (suc (suc lane)) inside = absurd (omega arith)

ends_stand : (lane : ℕ) → lane < 2 → (leads_from two_phones lane < 2) × (leads_to two_phones lane < 2)
ends_stand zero inside = (omega arith, omega arith)
ends_stand (suc zero) inside = (omega arith, omega arith)
ends_stand (suc (suc lane)) inside = absurd (omega arith)

quiet : (lane : ℕ) → get_or two_phones.lanes lane [] ≡ []
quiet zero = refl
quiet (suc zero) = refl
quiet (suc (suc lane)) = refl

journals : (shard : ℕ) → shard < 2 → IsJournal (two_shards shard).places (two_shards shard).first (two_shards shard).journal
journals zero inside = alice_journal
journals (suc zero) inside = bob_journal
journals (suc (suc shard)) inside = tt

named_so : (shard : ℕ) → shard < 2 → AllByRecursion (IsNamed 2 (two_names shard) two_homes shard) (entries_in (two_shards shard))
named_so zero inside = ((omega arith, refl), ((omega arith, refl), tt))
named_so (suc zero) inside = ((omega arith, refl), ((omega arith, refl), tt))
named_so (suc (suc shard)) inside = absurd (omega arith)

pub worked_shards : WorkedShards
worked_shards = record {
  are = record { each_lane = refl; log_count = refl; box_count = refl; lane_count = refl; ends_stand = ends_stand; logs_are = logs_are; stand = stand; quiet = quiet; joined = joined };
  named_are = record { journals = journals; named_so = named_so; home = λ who inside. inside; back = λ who inside. refl };
  turns = refl;
}
