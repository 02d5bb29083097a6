use Rattle.std.proofs.Common.{◌≡◌, length, rules}
use Rattle.std.specs.Int.Count.{ones}
use Rattle.mc_plain.proofs.Stored.{told}
use Rattle.mc_plain.proofs.signals.PlainList.is_stored.Goals as goal

pub returns : goal.returns
returns c = λ last.
    let places : length c.args.self.now.at ≡ 8 = search rules in
    let full : ones c.marks.result ≡ c.args.self.now.count = search rules in
    ((c.are_codecs.ensures last).0, told c.args.self.now.count c.args.self.now.at c.marks.result c.requires places c.marks.ensures full, (c.are_codecs.ensures last).1)
