use Rattle.std.proofs.Common.{true, refl, arith}
use Rattle.std.specs.Prelude.{slice_set}
use Rattle.mc_ladder_choice.proofs.Marked.{one_more, one_outside}
use Rattle.mc_ladder_choice.proofs.closings.mark.Goals as goal

pub returns-then-turn-len : goal.returns-then-turn-len
returns-then-turn-len c =
    rw c.in-Some.is
    (one_more c.in-Some.turn c.args.marks.now.items (slice_set c.args.marks.now.items c.in-Some.turn true) (omega (arith, c.if-turn-len.true, c.len.ensures)) refl)

pub returns-else-turn-len : goal.returns-else-turn-len
returns-else-turn-len c = rw c.in-Some.is (one_outside c.in-Some.turn c.args.marks.now.items (omega (arith, c.if-turn-len.false, c.len.ensures)))
