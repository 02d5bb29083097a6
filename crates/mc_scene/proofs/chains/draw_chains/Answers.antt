use Rattle.std.proofs.Common.{◌∙◌, sym, ap}
use Rattle.mc_scene.specs.Chains.{state_after_draws}
use Rattle.mc_scene.proofs.Drawing.{chains_more, six_more}
use Rattle.mc_scene.proofs.chains.draw_chains.Goals as goal

pub loop-number-preserved : goal.loop-number-preserved
loop-number-preserved c = record {
  chains = rw (c.in_ok-push.ensures.items, c.draw_chain-chain.ensures.chain, c.loop-number.invariant.draws, c.loop-number.invariant.chains) (sym (chains_more c.args.state c.loop-number.number));
  draws = c.draw_chain-chain.ensures.after ∙ ap (state_after_draws 6) c.loop-number.invariant.draws ∙ sym (six_more c.loop-number.number c.args.state);
}
