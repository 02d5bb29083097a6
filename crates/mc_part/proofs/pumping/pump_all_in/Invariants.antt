use Rattle.std.proofs.Common.{◌≡◌, length}
use Rattle.mc_part.specs.Parts.{IsWithin, Runs, no_retries}
use Rattle.mc_part.proofs.pumping.pump_all_in.Given as goal

-- what has crossed so far is the part's work
abbrev pub invariant-loop-channel : goal.invariant-loop-channel
invariant-loop-channel l = record {
  run : Runs l.fn.part l.part no_retries;
  within : IsWithin l.part;
  log : l.part.log.items ≡ l.fn.part.log.items;
  ports : length l.part.ports.items ≡ length l.fn.part.ports.items;
}
