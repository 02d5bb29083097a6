use Rattle.std.proofs.Common.{subst}
use Rattle.mc_seq.specs.Drawing.{CameToRest, CameToShift, DrewOn, DrawnSoFar, drawn_of}
use Rattle.mc_seq.specs.declared.drawing.SettleSoFar.{SettleSoFar}
use Rattle.mc_seq.proofs.Endings.{drew_more, rest_more}
use Rattle.mc_seq.proofs.drawing.come_to_rest.Goals as goal

pub returns-then-not-branch-clause-came : goal.returns-then-not-branch-clause-came
returns-then-not-branch-clause-came c =
    let now : DrawnSoFar = drawn_of c.stretches.so_far c.stretches.draws.state in
    let next : DrawnSoFar = drawn_of c.draw_on.new.so_far c.draw_on.new.draws.state in
    let came : CameToRest now next = subst (DrewOn now next) c.if-not-branch.true (subst (λ (s : SettleSoFar). DrewOn (drawn_of s c.stretches.draws.state) next c.in_ok-draw_on.field-0) c.find_ring.ensures.same c.in_ok-draw_on.ensures.drew) in
    rest_more (drawn_of c.args.so_far.now c.args.draws.now.state) now next c.stretches.invariant.drew came

pub stretches-preserved : goal.stretches-preserved
stretches-preserved c =
    let now : DrawnSoFar = drawn_of c.stretches.so_far c.stretches.draws.state in
    let next : DrawnSoFar = drawn_of c.draw_on.new.so_far c.draw_on.new.draws.state in
    let came : CameToShift now next = subst (DrewOn now next) c.if-not-branch.false (subst (λ (s : SettleSoFar). DrewOn (drawn_of s c.stretches.draws.state) next c.in_ok-draw_on.field-0) c.find_ring.ensures.same c.in_ok-draw_on.ensures.drew) in
    record {
      kept = c.in_ok-draw_on.ensures.kept;
      left = came.left;
      drew = drew_more (drawn_of c.args.so_far.now c.args.draws.now.state) now next c.stretches.invariant.drew came.drew;
    }
