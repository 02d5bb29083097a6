use Rattle.std.proofs.Common.{◌≡◌, ◌≢◌, ◌<◌, ◌≤◌, ℕ, List, length, subst, arith}
use Rattle.mc_box.specs.declared.event.Turn.{Turn}
use Rattle.mc_seq.specs.Commands.{commands_left}
use Rattle.mc_seq.specs.Drawing.{DrewOnce, DrewTurn, DrawnSoFar, drawn_of}
use Rattle.mc_seq.proofs.SettlesSoFar.{empty_is, goes_last, goes_more, left_goes, made_allowed, made_by, made_lowers, made_sound, ran_out, some_listed}
use Rattle.mc_seq.proofs.drawing.use_up.Goals as goal

-- a count that is above 0 counts something
some_left : (count : ℕ) (left : List Turn) → count ≡ length left → 0 < count → length left ≢ 0
some_left count left is some none = omega arith

-- and one that isn't counts nothing
none_left : (count : ℕ) (left : List Turn) → count ≡ length left → count ≤ 0 → length left ≡ 0
none_left count left is none = omega arith

pub commands-preserved : goal.commands-preserved
commands-preserved c =
    let now : DrawnSoFar = drawn_of c.commands.so_far c.commands.draws.state in
    let next : DrawnSoFar = drawn_of c.draw_once.new.so_far c.draw_once.new.draws.state in
    let made : DrewTurn now next = made_by c.in_ok-draw_once.field-0 now next c.in-Drawn.is c.in_ok-draw_once.ensures.drew in
    record {
      kept = c.in_ok-draw_once.ensures.kept;
      sound = made_sound now next made c.commands.invariant.sound;
      allowed = made_allowed now next made c.commands.invariant.sound c.commands.invariant.allowed;
      drew = goes_more (drawn_of c.args.so_far.now c.args.draws.now.state) now next
          (left_goes now.schedule (some_left c.commands.so_far.left.count now.schedule.left c.commands.invariant.kept.commands.kept.counted c.commands-test.true))
          made c.commands.invariant.drew;
    }

pub commands-smaller : goal.commands-smaller
commands-smaller c =
    let now : DrawnSoFar = drawn_of c.commands.so_far c.commands.draws.state in
    let next : DrawnSoFar = drawn_of c.draw_once.new.so_far c.draw_once.new.draws.state in
    made_lowers now next (made_by c.in_ok-draw_once.field-0 now next c.in-Drawn.is c.in_ok-draw_once.ensures.drew) c.commands.invariant.allowed
    (some_left c.commands.so_far.left.count now.schedule.left c.commands.invariant.kept.commands.kept.counted c.commands-test.true)

pub unreachable-requires : goal.unreachable-requires
unreachable-requires c =
    let now : DrawnSoFar = drawn_of c.commands.so_far c.commands.draws.state in
    let next : DrawnSoFar = drawn_of c.draw_once.new.so_far c.draw_once.new.draws.state in
    let nothing = subst (DrewOnce now next) c.in-Nothing.is c.in_ok-draw_once.ensures.drew in
    some_listed now.schedule c.commands.invariant.allowed (some_left c.commands.so_far.left.count now.schedule.left c.commands.invariant.kept.commands.kept.counted c.commands-test.true) nothing.0

pub returns-clause-drew : goal.returns-clause-drew
returns-clause-drew c = (
  goes_last (drawn_of c.args.so_far.now c.args.draws.now.state) (drawn_of c.commands.so_far c.commands.draws.state) c.commands.invariant.drew,
  empty_is (commands_left c.commands.so_far.left) (none_left c.commands.so_far.left.count (commands_left c.commands.so_far.left) c.commands.invariant.kept.commands.kept.counted c.commands-test.false),
)

pub returns-in-VersionEnd-clause-drew : goal.returns-in-VersionEnd-clause-drew
returns-in-VersionEnd-clause-drew c =
    let now : DrawnSoFar = drawn_of c.commands.so_far c.commands.draws.state in
    let next : DrawnSoFar = drawn_of c.draw_once.new.so_far c.draw_once.new.draws.state in
    ran_out (drawn_of c.args.so_far.now c.args.draws.now.state) now next c.in-VersionEnd.at c.commands.invariant.drew
    (subst (DrewOnce now next) c.in-VersionEnd.is c.in_ok-draw_once.ensures.drew)
