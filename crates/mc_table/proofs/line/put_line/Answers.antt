use Rattle.mc_table.proofs.Spaced.{begins, begins_more, line_is}
use Rattle.mc_table.proofs.line.put_line.Goals as goal

pub returns-clause-line : goal.returns-clause-line
returns-clause-line c =
    rw (c.in_ok-push-2.ensures.items, c.loop-word.invariant)
    (line_is c.args.out.now.items c.args.first.now c.args.others.now c.loop-word.word-index c.loop-word-test.false)

pub returns-clause-before : goal.returns-clause-before
returns-clause-before c = rw (c.in_ok-push-2.ensures.items, c.loop-word.invariant) (begins_more c.args.out.now.items c.args.first.now _ _)

pub returns-in_err-push-clause-before : goal.returns-in_err-push-clause-before
returns-in_err-push-clause-before c = rw (c.in_err-push.ensures.items, c.loop-word.invariant) (begins c.args.out.now.items c.args.first.now _)

pub returns-in_err-extend_from_slice-2-clause-before : goal.returns-in_err-extend_from_slice-2-clause-before
returns-in_err-extend_from_slice-2-clause-before c =
    rw (c.in_err-extend_from_slice-2.ensures.items, c.in_ok-push.ensures.items, c.loop-word.invariant)
    (begins_more c.args.out.now.items c.args.first.now _ _)

pub returns-in_err-push-2-clause-before : goal.returns-in_err-push-2-clause-before
returns-in_err-push-2-clause-before c = rw (c.in_err-push-2.ensures.items, c.loop-word.invariant) (begins c.args.out.now.items c.args.first.now _)
