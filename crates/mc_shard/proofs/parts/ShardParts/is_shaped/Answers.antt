use Rattle.std.proofs.Common.{◌≤◌, MatchBool, rules}
use Rattle.mc_shard.specs.Shards.{AreLaid, shard_of}
use Rattle.mc_shard.specs.declared.limit.TheConstants.{LAST_STAMP}
use Rattle.mc_shard.proofs.Loaded.{shaped_by}
use Rattle.mc_shard.proofs.parts.ShardParts.is_shaped.Goals as goal

pub returns : goal.returns
returns c =
    let stamp : c.args.self.now.stamp ≤ LAST_STAMP = search rules in
    let laid : MatchBool c.are_laid.result (AreLaid c.args.self.now.boxes.items c.args.self.now.places.items c.args.self.now.owners.items)
    (AreLaid c.args.self.now.boxes.items c.args.self.now.places.items c.args.self.now.owners.items → ⊥) = search rules in
    shaped_by (shard_of c.args.self.now) c.are_laid.result c.if-not-have_lengths.ensures stamp c.if-not-are_few.ensures laid
