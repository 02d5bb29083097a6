use Rattle.std.proofs.Common.{◌≡◌, ◌*◌, map}
use Rattle.std.specs.List.{range_with_len}
use Rattle.mc_scene.specs.Chains.{chain_drawn_at, state_after_draws}
use Rattle.mc_scene.proofs.chains.draw_chains.Given as goal

-- the chains so far are drawn, by six draws each
abbrev pub invariant-loop-number : goal.invariant-loop-number
invariant-loop-number l = record {
  chains : l.chains.items ≡ map (chain_drawn_at l.state) (range_with_len 0 l.number);
  draws : l.draws.state ≡ state_after_draws (6 * l.number) l.state;
}
