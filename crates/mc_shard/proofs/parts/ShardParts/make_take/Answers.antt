use Rattle.std.proofs.Common.{rules, ◌≤◌, ◌∷◌, ℕ, [], length, slice_set, ap, arith}
use Rattle.std.proofs.Math.ListN.{length-set}
use Rattle.std.specs.Vec.{with_item}
use Rattle.mc_shard.specs.Shards.{shard_of}
use Rattle.mc_shard.specs.States.{numbered}
use Rattle.mc_shard.proofs.Counts.{few_of, numbered_few}
use Rattle.mc_shard.proofs.Shaped.{shaped_after}
use Rattle.mc_shard.proofs.parts.ShardParts.make_take.Goals as goal

pub returns-clause-shaped : goal.returns-clause-shaped
returns-clause-shaped c =
    let sendings = c.take_box.new.sendings.items in
    let xs = numbered c.index-2.result.now c.args.stamp c.args.self.now.sent.items sendings in
    let few : length sendings ≤ 3 = c.take_box.ensures.few in
    let most : length xs ≤ length sendings = numbered_few sendings c.index-2.result.now c.args.stamp c.args.self.now.sent.items in
    shaped_after (shard_of c.args.self.now)
    (record { boxes = (with_item c.args.self.now.boxes c.args.who c.take_box.new.one).items; stamp = c.args.stamp; sent = c.number_all.new.lanes.items; taken = (with_item c.args.self.now.taken c.args.at.end (record { count = c.args.at.item.number; digest = c.args.at.item.digest })).items; asked = c.args.self.now.asked.items })
    xs (c.args.at ∷ []) c.requires.shaped (length-set c.args.self.now.boxes.items c.args.who c.take_box.new.one) c.number_all.ensures.lanes (omega arith)
    (ap (λ (n : ℕ). slice_set c.args.self.now.taken.items c.args.at.end (record { count = n; digest = c.args.at.item.digest })) c.requires.next.number) (omega arith) c.requires.rises c.requires.fits

pub returns-clause-few : goal.returns-clause-few
returns-clause-few c =
    let sendings = c.take_box.new.sendings.items in
    let xs = numbered c.index-2.result.now c.args.stamp c.args.self.now.sent.items sendings in
    let few : length sendings ≤ 3 = c.take_box.ensures.few in
    let most : length xs ≤ length sendings = numbered_few sendings c.index-2.result.now c.args.stamp c.args.self.now.sent.items in
    few_of _ _ xs c.number_all.ensures.out (search rules) (omega arith)
