use Rattle.std.proofs.Common.{false, sym, ◌∙◌}
use Rattle.mc_divided.specs.Networks.{network_state}
use Rattle.mc_rounds.proofs.Plays.{begins, few_shifts_of, played_more}
use Rattle.mc_rounds.proofs.Used.{used_to_last, uses_some}
use Rattle.mc_rounds.proofs.commands.use_up.Goals as goal

pub phases-init : goal.phases-init
phases-init g c = record {
  divided = c.requires;
  played = begins (network_state c.args.network.now) c.args.turns.now.items
      (few_shifts_of c.args.network.now c.requires);
}

pub returns-then-is_some-clause-used : goal.returns-then-is_some-clause-used
returns-then-is_some-clause-used g c =
    used_to_last (network_state c.args.network.now) (network_state c.phases.network)
    (network_state c.run_phase.new.network) c.args.turns.now.items c.phases.turns.items c.run_phase.new.turns.items
    c.in_ok-last.last c.phases.invariant.played c.in_ok-last.ensures.played (sym c.is_some.ensures ∙ c.if-is_some.true)

pub phases-smaller : goal.phases-smaller
phases-smaller g c =
    uses_some (network_state c.phases.network) (network_state c.run_phase.new.network) c.phases.turns.items
    c.run_phase.new.turns.items c.in_ok-last.last c.phases.invariant.divided.sound c.in_ok-last.ensures.played
    (sym c.is_some.ensures ∙ c.if-is_some.false) (c.has_commands.ensures.some c.phases-test.true)

pub phases-preserved : goal.phases-preserved
phases-preserved g c = record {
  divided = c.in_ok-last.ensures.divided;
  played = played_more (network_state c.args.network.now) (network_state c.phases.network)
      (network_state c.run_phase.new.network) c.args.turns.now.items c.phases.turns.items c.run_phase.new.turns.items
      false c.in_ok-last.last c.phases.invariant.played c.in_ok-last.ensures.played;
}

pub returns-clause-used : goal.returns-clause-used
returns-clause-used g c = record {
  played = c.phases.invariant.played;
  ended = c.has_commands.ensures.none c.phases-test.false;
}
