-- A settle by draws that stops does so as any settle.
use Rattle.std.proofs.Common.{ℕ, List, Err, IfErr, Ok, Result}
use Rattle.mc_box.specs.declared.event.Turn.{Turn}
use Rattle.mc_model.specs.Worlds.{WorldState}
use Rattle.mc_rounds.specs.Stops.{Stops}
use Rattle.mc_seq.specs.Draws.{StopsByDraws}
use Rattle.mc_seq.specs.declared.fault.SettleFault.{SettleFault}
use Rattle.mc_seq.specs.declared.fault.SettleFault.TheVariants.{NoMemory, Restless, Ring, VersionEnd}
use Rattle.mc_top.proofs.UsedUp.{used_up}
use Rattle.mc_world.specs.declared.settled.Settled.{Settled}

draws_stop : (fault : SettleFault) (world : WorldState) (batch : List Turn) (state end : ℕ) → StopsByDraws world batch state end fault → Stops world batch fault
draws_stop (VersionEnd stop) world batch state end (stops, there) = (record { last = stops.last.world; stopped = stops.stopped; meets = stops.meets; shift_limit = stops.shift_limit }, there)
draws_stop (Ring stop) world batch state end (stops, there) = (
  record {
    last = stops.last.world;
    stopped = stops.stopped;
    used_up = λ who. used_up world batch stop.turns.items state stops.rounds stops.last stops.goes stops.used_up stops.stopped who;
    least = stops.least;
    shift_limit = stops.shift_limit;
  },
  there,
)
draws_stop (Restless stop) world batch state end stops = record {
  last = stops.last.world;
  stopped = stops.stopped;
  used_up = λ who. used_up world batch stop.turns.items state stops.rounds stops.last stops.goes stops.used_up stops.stopped who;
  restless = stops.restless;
  shift_limit = stops.shift_limit;
}
draws_stop (NoMemory e) world batch state end stops = tt

-- so does what a settle answers
pub answers_stop : (result : Result Settled SettleFault) (world : WorldState) (batch : List Turn) (state end : ℕ) → IfErr result (StopsByDraws world batch state end) → IfErr result (Stops world batch)
answers_stop (Ok done) world batch state end stops = tt
answers_stop (Err fault) world batch state end stops = draws_stop fault world batch state end stops
