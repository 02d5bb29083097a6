use Rattle.std.proofs.Common.{◌<◌, ◌≡◌, length, rules, ℕ}
use Rattle.std.proofs.Math.ListN.{get_or}
use Rattle.mc_plain.proofs.Stored.{fits}
use Rattle.mc_plain.proofs.signals.are_codecs.Goals as goal

pub returns : goal.returns
returns c = λ last.
    let places : length c.args.at ≡ 8 = search rules in
    let bytes : (k : ℕ) → get_or c.args.at k 0 < 256 = search rules in
    fits c.args.at c.args.count c.from_le_bytes.result places bytes c.requires c.from_le_bytes.ensures (search rules)
