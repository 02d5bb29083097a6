use Rattle.std.proofs.Common.{◌≤◌, ap, arith, length, rules}
use Rattle.mc_box.specs.BoxSound.{box_state}
use Rattle.mc_box.specs.Boxes.{goal_at}
use Rattle.mc_box.proofs.GoalTurns.{most_four, turn_most}
use Rattle.mc_box.proofs.Taking.{sends_length}
use Rattle.mc_box.proofs.parts.BoxParts.goal_turn.Goals as goal

pub goal_step-requires-clause-room : goal.goal_step-requires-clause-room
goal_step-requires-clause-room c =
    let fits : c.none-turn.result.len ≤ length c.none-turn.result.at = search rules in
    omega (
      arith,
      sends_length c.none-turn.result fits,
      ap length c.none-turn.ensures,
      turn_most (goal_at (box_state c.args.self.now) c.args.local) (box_state c.args.self.now) c.args.local c.args.cause,
      most_four (goal_at (box_state c.args.self.now) c.args.local),
    )

pub returns-clause-few : goal.returns-clause-few
returns-clause-few c =
    let fits : c.none-turn.result.len ≤ length c.none-turn.result.at = search rules in
    omega (
      arith,
      sends_length c.none-turn.result fits,
      ap length c.none-turn.ensures,
      c.goal_step.ensures.len,
      turn_most (goal_at (box_state c.args.self.now) c.args.local) (box_state c.args.self.now) c.args.local c.args.cause,
    )
