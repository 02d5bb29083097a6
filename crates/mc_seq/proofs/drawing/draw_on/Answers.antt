use Rattle.std.proofs.Common.{subst}
use Rattle.mc_seq.specs.Drawing.{DrewOnce, DrawnSoFar, drawn_of}
use Rattle.mc_seq.proofs.Endings.{shifted_is}
use Rattle.mc_seq.proofs.SettlesSoFar.{goes_more, made_none, never_ends, rested_is, take_free, take_lower}
use Rattle.mc_seq.proofs.drawing.draw_on.Goals as goal

pub takes-preserved : goal.takes-preserved
takes-preserved c =
    let now : DrawnSoFar = drawn_of c.takes.so_far c.takes.draws.state in
    let next : DrawnSoFar = drawn_of c.draw_once.new.so_far c.draw_once.new.draws.state in
    let made = subst (DrewOnce now next) c.in-Drawn.is c.in_ok-draw_once.ensures.drew in
    record {
      kept = c.in_ok-draw_once.ensures.kept;
      free = take_free now next made.0 made.1 c.takes.invariant.left c.takes.invariant.free;
      left = made_none now next made.0 c.takes.invariant.left;
      drew = goes_more (drawn_of c.args.so_far.now c.args.draws.now.state) now next (λ none. c.takes.invariant.free.free) made.0 c.takes.invariant.drew;
    }

pub takes-smaller : goal.takes-smaller
takes-smaller c =
    let now : DrawnSoFar = drawn_of c.takes.so_far c.takes.draws.state in
    let next : DrawnSoFar = drawn_of c.draw_once.new.so_far c.draw_once.new.draws.state in
    let made = subst (DrewOnce now next) c.in-Drawn.is c.in_ok-draw_once.ensures.drew in
    take_lower now next made.0 made.1 c.takes.invariant.left c.takes.invariant.free

pub unreachable-requires : goal.unreachable-requires
unreachable-requires c =
    let now : DrawnSoFar = drawn_of c.takes.so_far c.takes.draws.state in
    let next : DrawnSoFar = drawn_of c.draw_once.new.so_far c.draw_once.new.draws.state in
    never_ends now next c.in-VersionEnd.field-0 c.takes.invariant.left (subst (DrewOnce now next) c.in-VersionEnd.is c.in_ok-draw_once.ensures.drew)

pub returns-in-Shifted-clause-drew : goal.returns-in-Shifted-clause-drew
returns-in-Shifted-clause-drew c =
    let now : DrawnSoFar = drawn_of c.takes.so_far c.takes.draws.state in
    let next : DrawnSoFar = drawn_of c.draw_once.new.so_far c.draw_once.new.draws.state in
    let made = subst (DrewOnce now next) c.in-Shifted.is c.in_ok-draw_once.ensures.drew in
    shifted_is (drawn_of c.args.so_far.now c.args.draws.now.state) now next c.takes.invariant.drew c.requires.used_up c.takes.invariant.left c.takes.invariant.free made.0 made.1

pub returns-in-Nothing-clause-drew : goal.returns-in-Nothing-clause-drew
returns-in-Nothing-clause-drew c =
    let now : DrawnSoFar = drawn_of c.takes.so_far c.takes.draws.state in
    let next : DrawnSoFar = drawn_of c.draw_once.new.so_far c.draw_once.new.draws.state in
    rested_is (drawn_of c.args.so_far.now c.args.draws.now.state) now next c.takes.invariant.drew c.takes.invariant.left c.takes.invariant.free
    (subst (DrewOnce now next) c.in-Nothing.is c.in_ok-draw_once.ensures.drew)
