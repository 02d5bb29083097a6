use Rattle.std.proofs.Common.{◌≡◌, ◌<◌, ◌∙◌, Some, ℕ, List, false, length, slice_get, sym, subst, arith}
use Rattle.mc_seq.specs.Commands.{commands_left}
use Rattle.mc_seq.specs.Schedule.{all_candidates, candidates_of}
use Rattle.mc_seq.proofs.Counting.{calm_three, only_takes, three_at_box, three_sum, three_within, urgent_three}
use Rattle.mc_seq.proofs.Finds.{still_got, still_inside}
use Rattle.mc_seq.proofs.finding.kth_of_three.Goals as goal

pub kth_command-requires-clause-inside : goal.kth_command-requires-clause-inside
kth_command-requires-clause-inside c =
    still_inside c.args.k
    (urgent_three c.args.world.now (commands_left c.args.left.now) c.args.shifts.now.spare.items c.args.only_commands (length c.args.left.now.queues.items) c.if-only_commands.true c.requires.kept.boxes) c.requires.inside

pub returns-then-only_commands : goal.returns-then-only_commands
returns-then-only_commands c =
    still_got c.args.k c.kth_command.result
    (urgent_three c.args.world.now (commands_left c.args.left.now) c.args.shifts.now.spare.items c.args.only_commands (length c.args.left.now.queues.items) c.if-only_commands.true c.requires.kept.boxes) c.kth_command.ensures

pub kth_take-requires : goal.kth_take-requires
kth_take-requires c =
    still_inside c.args.k
    (only_takes c.args.world.now (commands_left c.args.left.now) c.args.shifts.now c.args.only_commands c.requires.shifts c.if-only_commands.false (sym c.total-others.ensures ∙ c.if-others-eq0.true)) c.requires.inside

pub returns-then-others-eq0 : goal.returns-then-others-eq0
returns-then-others-eq0 c =
    still_got c.args.k c.kth_take.result
    (only_takes c.args.world.now (commands_left c.args.left.now) c.args.shifts.now c.args.only_commands c.requires.shifts c.if-only_commands.false (sym c.total-others.ensures ∙ c.if-others-eq0.true)) c.kth_take.ensures

pub find_in_both-who-requires-clause-long : goal.find_in_both-who-requires-clause-long
find_in_both-who-requires-clause-long c = c.takes.ensures.long ∙ sym c.requires.shifts.counted.long

pub find_in_both-who-requires-clause-inside : goal.find_in_both-who-requires-clause-inside
find_in_both-who-requires-clause-inside c =
    let all = three_sum c.args.world.now (commands_left c.args.left.now) c.args.shifts.now c.takes.result.now c.requires.shifts c.takes.ensures in
    let low : c.args.k < length (all_candidates c.args.world.now (commands_left c.args.left.now) c.args.shifts.now.spare.items false)
    = still_inside c.args.k (calm_three c.args.world.now (commands_left c.args.left.now) c.args.shifts.now.spare.items c.args.only_commands c.if-only_commands.false) c.requires.inside in
    omega arith

pub kth_at_box-requires-clause-inside : goal.kth_at_box-requires-clause-inside
kth_at_box-requires-clause-inside c =
    subst (λ (l : List ℕ). c.find_in_both-who.result.1 < length (candidates_of c.args.world.now (commands_left c.args.left.now) l false c.find_in_both-who.result.0)) (sym c.deref.ensures.value)
    (three_within c.args.world.now (commands_left c.args.left.now) c.args.shifts.now c.takes.result.now c.find_in_both-who.result.0 c.find_in_both-who.result.1 c.requires.shifts c.takes.ensures
    c.find_in_both-who.ensures.place c.find_in_both-who.ensures.within)

pub returns : goal.returns
returns c =
    still_got c.args.k c.kth_at_box.result (calm_three c.args.world.now (commands_left c.args.left.now) c.args.shifts.now.spare.items c.args.only_commands c.if-only_commands.false)
    (three_at_box c.args.world.now (commands_left c.args.left.now) c.args.shifts.now c.takes.result.now c.args.k c.find_in_both-who.result.0 c.find_in_both-who.result.1 c.requires.shifts c.takes.ensures
    c.find_in_both-who.ensures.place c.find_in_both-who.ensures.before c.find_in_both-who.ensures.within
    ∙ subst (λ (l : List ℕ). slice_get (candidates_of c.args.world.now (commands_left c.args.left.now) l false c.find_in_both-who.result.0) c.find_in_both-who.result.1 ≡ Some c.kth_at_box.result) c.deref.ensures.value c.kth_at_box.ensures)
