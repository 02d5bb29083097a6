use Rattle.std.proofs.Common.{◌≡◌, ◌≤◌, length, refl, rules, sym}
use Rattle.mc_plain.proofs.Listed.{stored_list, stored_signal}
use Rattle.mc_plain.proofs.signals.PlainSignal.read_described.Goals as goal

pub returns-in-0-clause-reads : goal.returns-in-0-clause-reads
returns-in-0-clause-reads c =
    let few : c.args.self.now.codecs.count ≤ 8 = search rules in
    let places : length c.args.self.now.codecs.at ≡ 8 = search rules in
    sym (stored_signal c.args.self.now c.requires (stored_list c.args.self.now.codecs few places (c.if-not-is_stored.ensures refl)))

pub returns-in-1-clause-reads : goal.returns-in-1-clause-reads
returns-in-1-clause-reads c =
    let few : c.args.self.now.codecs.count ≤ 8 = search rules in
    let places : length c.args.self.now.codecs.at ≡ 8 = search rules in
    sym (stored_signal c.args.self.now c.requires (stored_list c.args.self.now.codecs few places (c.if-not-is_stored.ensures refl)))

pub returns-in_default-clause-reads : goal.returns-in_default-clause-reads
returns-in_default-clause-reads c =
    let few : c.args.self.now.codecs.count ≤ 8 = search rules in
    let places : length c.args.self.now.codecs.at ≡ 8 = search rules in
    sym (stored_signal c.args.self.now c.requires (stored_list c.args.self.now.codecs few places (c.if-not-is_stored.ensures refl)))
