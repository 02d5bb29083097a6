use Rattle.std.proofs.Common.{◌≡◌, ◌≤◌, ℕ, [], drop, get_or, length}
use Rattle.mc_part.specs.DividedParts.{inner_lists}
use Rattle.mc_divided.specs.Laying.{AreLaid, ports_in}
use Rattle.mc_world.specs.Lanes.{signals_of}
use Rattle.mc_divided.proofs.engines.lay_shares.Given as goal

-- the first parts are laid out, and the others have their ports still
abbrev pub invariant-loop-boxes : goal.invariant-loop-boxes
invariant-loop-boxes l = record {
  rest : l.boxes-iterator.rest.items ≡ drop (length l.runs.items) l.fn.shares.items;
  few : length l.runs.items ≤ length l.fn.shares.items;
  count : length l.ports.items ≡ length l.fn.ports.items;
  ports : (part : ℕ) → length l.runs.items ≤ part → ports_in (inner_lists l.ports.items) part ≡ ports_in (inner_lists l.fn.ports.items) part;
  laid : AreLaid l.division.assigned.items l.channels (signals_of l.lanes) (λ part. get_or (inner_lists l.fn.shares.items) part []) (inner_lists l.fn.ports.items) (length l.runs.items) l.runs.items;
}
