use Rattle.std.proofs.Common.{sym, ap, subst}
use Rattle.mc_live.specs.Phases.{LeftOnly}
use Rattle.mc_model.specs.Worlds.{WorldState}
use Rattle.mc_phase.proofs.Ended.{can_be_free}
use Rattle.mc_team.specs.Teams.{TeamState}
use Rattle.mc_phase.proofs.phase.live_phase.Goals as goal

pub run_phase-requires-clause-free : goal.run_phase-requires-clause-free
run_phase-requires-clause-free g c κs within =
    can_be_free _ c.in_ok-team.team.members.items c.in_ok-team.ensures.team.ready (ap (λ (t : TeamState). t.stimuli) c.in_ok-team.ensures.new)

pub returns-clause-left : goal.returns-clause-left
returns-clause-left g c =
    subst (λ (w : WorldState). LeftOnly c.in_ok-turns.field-0.turns.items c.in_ok-turns.field-0.left.turns.items w) (sym c.in_ok-world.ensures) c.in_ok-turns.ensures.phase.left
