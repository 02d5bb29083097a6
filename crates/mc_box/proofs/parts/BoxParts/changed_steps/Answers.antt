use Rattle.std.proofs.Common.{◌≡◌, ◌+◌, ◌<◌, ◌≤◌, ◌++◌, ℕ, List, true, false, length, ap, sym, ◌∙◌, subst, arith, rules, length-append}
use Rattle.mc_lane.specs.Queue.{Queue}
use Rattle.mc_signal.specs.declared.Signal.{Signal}
use Rattle.mc_slot.specs.Sending.{sends_of}
use Rattle.mc_box.specs.BoxSound.{box_state}
use Rattle.mc_box.specs.declared.parts.BoxParts.{BoxParts}
use Rattle.mc_box.proofs.Taking.{sends_length}
use Rattle.mc_box.proofs.Turning.{Turning, turn_read, turning_fits, turning_goals, turning_skip, turning_turn}
use Rattle.mc_box.proofs.parts.BoxParts.changed_steps.Goals as goal
use Rattle.mc_box.proofs.parts.BoxParts.changed_steps.Goals.{then-has_turn, else-has_turn}

pub push_all-requires : goal.push_all-requires
push_all-requires c =
    let so_far = c.loop-i.invariant.turning in
    let also : c.loop-i.i < length c.loop-i.self.goals.items =
    omega (arith, turning_goals (box_state c.args.self.now) (box_state c.loop-i.self) c.args.old.now c.loop-i.i c.args.out.now.items c.loop-i.out.items c.requires.olds c.requires.wired so_far, c.loop-i-test.true) in
    let fits = turning_fits (box_state c.args.self.now) (box_state c.loop-i.self) c.args.old.now c.loop-i.i c.goal_turn-turn.result.len c.loop-i.out.spare c.args.out.now.spare c.args.out.now.items c.loop-i.out.items
    c.loop-i-test.true c.requires.olds c.requires.wired
    (turn_read c.args.old.now c.loop-i.self.goals.items c.loop-i.i _ c.index.result.now c.has_turn.result true c.loop-i-test.true also c.index.ensures c.has_turn.ensures c.if-has_turn.true)
    c.goal_turn-turn.ensures.few c.requires.space c.loop-i.invariant.room so_far in
    rw c.as_slice.ensures.len fits

pub loop-i-preserved : goal.loop-i-preserved
loop-i-preserved c =
    let so_far = c.loop-i.invariant.turning in
    let also : c.loop-i.i < length c.loop-i.self.goals.items =
    omega (arith, turning_goals (box_state c.args.self.now) (box_state c.loop-i.self) c.args.old.now c.loop-i.i c.args.out.now.items c.loop-i.out.items c.requires.olds c.requires.wired so_far, c.loop-i-test.true) in
    elim c.if-has_turn.branch [
      | then-has_turn w ↦
          let fits : w.goal_turn-turn.result.len ≤ length w.goal_turn-turn.result.at = search rules in
          let size : length (sends_of w.goal_turn-turn.result) ≡ w.goal_turn-turn.result.len = sends_length w.goal_turn-turn.result fits in
          let added : w.push_all.new.self.items ≡ c.loop-i.out.items ++ sends_of w.goal_turn-turn.result =
          w.push_all.ensures.items ∙ ap (λ (l : List (ℕ × Signal)). c.loop-i.out.items ++ l) w.as_slice.ensures.sends in
          let long : length w.push_all.new.self.items ≡ length c.loop-i.out.items + length (sends_of w.goal_turn-turn.result) =
          ap length added ∙ length-append c.loop-i.out.items (sends_of w.goal_turn-turn.result) in
          let turning : Turning (box_state c.args.self.now) (box_state w.goal_turn-turn.new.self) c.args.old.now (c.loop-i.i + 1) c.args.out.now.items w.push_all.new.self.items =
          subst (λ (l : List (ℕ × Signal)). Turning (box_state c.args.self.now) (box_state w.goal_turn-turn.new.self) c.args.old.now (c.loop-i.i + 1) c.args.out.now.items l) (sym added)
          (turning_turn (box_state c.args.self.now) (box_state c.loop-i.self) (box_state w.goal_turn-turn.new.self) c.args.old.now c.loop-i.i c.args.out.now.items c.loop-i.out.items (sends_of w.goal_turn-turn.result)
          c.loop-i-test.true c.requires.olds c.requires.wired
          (turn_read c.args.old.now c.loop-i.self.goals.items c.loop-i.i _ c.index.result.now c.has_turn.result true c.loop-i-test.true also c.index.ensures c.has_turn.ensures w.if-has_turn.true)
          w.goal_turn-turn.ensures.turn so_far) in
          record {
            turning = subst (λ (p : BoxParts). Turning (box_state c.args.self.now) (box_state p) c.args.old.now (c.loop-i.i + 1) c.args.out.now.items c.if-has_turn.out.items) (sym w.self-is)
                (subst (λ (q : Queue (ℕ × Signal)). Turning (box_state c.args.self.now) (box_state w.goal_turn-turn.new.self) c.args.old.now (c.loop-i.i + 1) c.args.out.now.items q.items) (sym w.out-is) turning);
            room = subst (λ (q : Queue (ℕ × Signal)). q.spare + length q.items ≡ c.args.out.now.spare + length c.args.out.now.items) (sym w.out-is)
                (omega (arith, size, long, w.push_all.ensures.room, w.as_slice.ensures.len, c.loop-i.invariant.room));
          }
      | else-has_turn w ↦
          record {
            turning = subst (λ (p : BoxParts). Turning (box_state c.args.self.now) (box_state p) c.args.old.now (c.loop-i.i + 1) c.args.out.now.items c.if-has_turn.out.items) (sym w.self-is)
                (subst (λ (q : Queue (ℕ × Signal)). Turning (box_state c.args.self.now) (box_state c.loop-i.self) c.args.old.now (c.loop-i.i + 1) c.args.out.now.items q.items) (sym w.out-is)
                (turning_skip (box_state c.args.self.now) (box_state c.loop-i.self) c.args.old.now c.loop-i.i c.args.out.now.items c.loop-i.out.items
                c.loop-i-test.true c.requires.olds c.requires.wired
                (turn_read c.args.old.now c.loop-i.self.goals.items c.loop-i.i _ c.index.result.now c.has_turn.result false c.loop-i-test.true also c.index.ensures c.has_turn.ensures w.if-has_turn.false)
                so_far));
            room = subst (λ (q : Queue (ℕ × Signal)). q.spare + length q.items ≡ c.args.out.now.spare + length c.args.out.now.items) (sym w.out-is) c.loop-i.invariant.room;
          }
    ]
