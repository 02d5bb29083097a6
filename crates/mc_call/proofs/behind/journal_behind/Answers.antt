use Rattle.std.proofs.Common.{arith}
use Rattle.mc_call.proofs.BytesBehind.{lines_within}
use Rattle.mc_call.proofs.behind.journal_behind.Goals as goal

pub returns-clause-few : goal.returns-clause-few
returns-clause-few c =
    rw (c.in_ok-lines.ensures.lines, c.journal_bytes.ensures.bytes)
    (let few = lines_within c.args.names.now c.args.shape.now c.args.text.now c.args.rest in omega (arith, few))
