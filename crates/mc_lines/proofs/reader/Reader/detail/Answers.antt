use Rattle.std.proofs.Common.{◌<◌, ◌^◌, length, arith}
use Rattle.mc_lines.proofs.WordCounts.{few_after_first}
use Rattle.mc_lines.proofs.reader.Reader.detail.Goals as goal

pub detail_by-requires-clause-few : goal.detail_by-requires-clause-few
detail_by-requires-clause-few c =
    let short : length c.args.line.now < 2 ^ 64 = omega arith in
    rw (c.next_word.ensures.rest, c.new-words.ensures) (few_after_first c.args.line.now short)
