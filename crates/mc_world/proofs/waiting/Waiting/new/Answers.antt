use Rattle.std.proofs.Common.{◌≡◌, ◌∙◌, length, false, rules}
use Rattle.std.proofs.Math.ListN.{replicate}
use Rattle.mc_world.proofs.FlagCounts.{counted_new}
use Rattle.mc_world.proofs.waiting.Waiting.new.Goals as goal

pub returns-clause-counted : goal.returns-clause-counted
returns-clause-counted c =
    let flags : c.in_ok-flags.flags.items ≡ replicate (length c.args.topology.now.places.items) false = search rules in
    let counts : c.in_ok-counts.counts.items ≡ replicate (length c.args.topology.now.numbers.items) 0 = search rules in
    counted_new c.args.topology.now _ flags (c.in_ok-takes.ensures ∙ counts)
