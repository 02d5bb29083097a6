use Rattle.std.proofs.Common.{◌≡◌, ◌-◌}
use Rattle.mc_flight.specs.Tallies.{account}
use Rattle.mc_flight.proofs.Dealing.{Dealt}
use Rattle.mc_flight.proofs.flight.Flight.deal.Given as goal

-- so many seats have one part each, and the last one has all others
abbrev pub invariant-loop : goal.invariant-loop
invariant-loop l = record {
  counter : l.last.seat.table_id ≡ l.self.table.shared.table_id;
  account : l.last.seat.me.0 ≡ account l.counter (256 - l.counter) 0 0;
  dealt : Dealt l.self l.counter l.list.items;
}
