use Rattle.std.proofs.Common.{◌∙◌, ◌≡◌, List, [], sym, subst, slice_index_or, take, arith}
use Rattle.std.proofs.lemmas.List.{take_all, take_more}
use Rattle.mc_box.specs.declared.event.Event.TheVariants.{Take}
use Rattle.mc_box.specs.declared.event.Turn.{Turn}
use Rattle.mc_model.specs.Worlds.{WorldState}
use Rattle.mc_divided.specs.Networks.{network_state}
use Rattle.mc_rounds.proofs.Added.{HasAdded, allowed_at, batch_added, none_added, one_added, world_stays}
use Rattle.mc_rounds.proofs.commands.begin.Goals as goal

-- the world as the settle begins
same : (c : goal.After-begin_settle)
    → (network_state c.begin_settle.new.network).world ≡ (network_state c.args.network.now).world
same c = world_stays (network_state c.args.network.now) (network_state c.begin_settle.new.network)
    c.begin_settle.ensures.state

pub loop-turn-init : goal.loop-turn-init
loop-turn-init c = record {
  divided = c.begin_settle.ensures.divided;
  added =
      subst (λ (world : WorldState). HasAdded world (network_state c.begin_settle.new.network) []) (sym (same c))
      (none_added (network_state c.args.network.now).world (network_state c.begin_settle.new.network)
      c.begin_settle.ensures.state);
}

pub add_command-requires-clause-allowed : goal.add_command-requires-clause-allowed
add_command-requires-clause-allowed c =
    allowed_at (network_state c.args.network.now).world (network_state c.loop-turn.network).world c.args.batch.now
    c.loop-turn.turn-index
    (c.loop-turn.invariant.added.same ∙ world_stays (network_state c.args.network.now)
    (network_state c.begin_settle.new.network) c.begin_settle.ensures.state)
    c.requires.allowed c.loop-turn-test.true

pub loop-turn-preserved : goal.loop-turn-preserved
loop-turn-preserved c =
    let turn : Turn = slice_index_or c.args.batch.now c.loop-turn.turn-index (record { who = 0; event = Take 0 }) in
    record {
      divided = c.in_ok-add_command.ensures.divided;
      added =
          subst (λ (turns : List Turn). HasAdded (network_state c.begin_settle.new.network).world
          (network_state c.add_command.new.network) turns)
          (sym (take_more c.args.batch.now c.loop-turn.turn-index (record { who = 0; event = Take 0 })
          c.loop-turn-test.true))
          (one_added (network_state c.begin_settle.new.network).world (network_state c.loop-turn.network)
          (network_state c.add_command.new.network) (take c.loop-turn.turn-index c.args.batch.now) turn
          c.loop-turn.invariant.added
          (allowed_at (network_state c.args.network.now).world (network_state c.begin_settle.new.network).world
          c.args.batch.now c.loop-turn.turn-index
          (world_stays (network_state c.args.network.now) (network_state c.begin_settle.new.network)
          c.begin_settle.ensures.state) c.requires.allowed c.loop-turn-test.true)
          c.in_ok-add_command.ensures.added);
    }

pub returns-clause-has : goal.returns-clause-has
returns-clause-has c =
    batch_added (network_state c.args.network.now).world (network_state c.loop-turn.network) c.args.batch.now
    c.requires.divided.sound
    (subst (λ (world : WorldState). HasAdded world (network_state c.loop-turn.network) c.args.batch.now)
    (world_stays (network_state c.args.network.now) (network_state c.begin_settle.new.network)
    c.begin_settle.ensures.state)
    (subst (λ (turns : List Turn). HasAdded (network_state c.begin_settle.new.network).world
    (network_state c.loop-turn.network) turns) (take_all c.loop-turn.turn-index c.args.batch.now (omega arith))
    c.loop-turn.invariant.added))
