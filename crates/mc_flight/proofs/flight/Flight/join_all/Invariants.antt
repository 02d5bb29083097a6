use Rattle.std.proofs.Common.{◌≡◌, ◌+◌, false}
use Rattle.std.specs.List.{All, sum_by}
use Rattle.mc_flight.specs.Seats.{IsSeatOf, part_count, sent_count, taken_count}
use Rattle.mc_flight.proofs.flight.Flight.join_all.Given as goal

-- the one seat has what those had that are no longer there
abbrev pub invariant-loop-other : goal.invariant-loop-other
invariant-loop-other l = record {
  counter : l.all.table_id ≡ l.self.table.shared.table_id;
  lives : l.all.me.0.spent ≡ false;
  of : All (IsSeatOf l.self) l.other-iterator.rest.items;
  parts : l.all.me.0.parts + sum_by part_count l.other-iterator.rest.items ≡ l.fn.first.me.0.parts + sum_by part_count l.fn.seats.items;
  sent : l.all.me.0.sent + sum_by sent_count l.other-iterator.rest.items ≡ l.fn.first.me.0.sent + sum_by sent_count l.fn.seats.items;
  taken : l.all.me.0.taken + sum_by taken_count l.other-iterator.rest.items ≡ l.fn.first.me.0.taken + sum_by taken_count l.fn.seats.items;
}
