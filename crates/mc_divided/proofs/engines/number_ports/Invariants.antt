use Rattle.std.proofs.Common.{◌≡◌, ◌<◌, ◌≤◌, ℕ, Some, length}
use Rattle.std.specs.List.{slice_get}
use Rattle.mc_divided.specs.Laying.{numbered_port}
use Rattle.mc_part.specs.declared.port.Port.{Port}
use Rattle.mc_divided.proofs.engines.number_ports.Given as goal

-- the first ports have their numbers, and the others are as they were
abbrev pub invariant-loop-number : goal.invariant-loop-number
invariant-loop-number l = record {
  count : length l.ports ≡ length l.fn.ports;
  first : (c : ℕ) (port : Port) → c < l.number → slice_get l.fn.ports c ≡ Some port → slice_get l.ports c ≡ Some (numbered_port l.boxes l.firsts c port);
  rest : (c : ℕ) → l.number ≤ c → slice_get l.ports c ≡ slice_get l.fn.ports c;
}
