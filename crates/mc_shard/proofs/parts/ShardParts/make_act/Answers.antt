use Rattle.std.proofs.Common.{rules, ◌≡◌, ◌≤◌, ◌<◌, ◌*◌, ◌∙◌, ℕ, [], List, length, slice_get, refl, ap, sym, subst, arith}
use Rattle.std.proofs.Math.ListN.{length-set}
use Rattle.std.specs.Vec.{with_item}
use Rattle.mc_slot.specs.declared.Slot.{Slot}
use Rattle.mc_box.specs.Boxes.{BoxState}
use Rattle.mc_shard.specs.Shards.{shard_of}
use Rattle.mc_shard.specs.States.{numbered, places_of}
use Rattle.mc_shard.proofs.Counts.{few_of, numbered_few}
use Rattle.mc_shard.proofs.Shaped.{on_ok, shaped_after, there_is}
use Rattle.mc_shard.proofs.parts.ShardParts.make_act.Goals as goal

pub number_all-requires-clause-ends : goal.number_all-requires-clause-ends
number_all-requires-clause-ends c local place at =
    let inside : c.args.who < length c.args.self.now.places.items = omega (arith, c.requires.shaped.box_count, c.len.ensures) in
    let is : places_of c.args.self.now.places.items c.args.who ≡ c.index-3.result.now = there_is c.args.self.now.places.items c.args.who [] c.index-3.result.now inside ∙ sym c.index-3.ensures in
    c.requires.shaped.ends c.args.who local place (ap (λ (l : List (ℕ × ℕ)). slice_get l local) is ∙ at)

pub returns-clause-shaped : goal.returns-clause-shaped
returns-clause-shaped c =
    let sendings = c.act_box.new.sendings.items in
    let xs = numbered c.index-3.result.now c.args.stamp c.args.self.now.sent.items sendings in
    let few : length sendings ≤ 2 * length c.index_mut.result.now.slots = on_ok c.act_box.result _ (sym c.if-is_err.ensures.value) c.act_box.ensures.few in
    let most : length xs ≤ length sendings = numbered_few sendings c.index-3.result.now c.args.stamp c.args.self.now.sent.items in
    let inside : c.args.who < length c.args.self.now.boxes.items = omega (arith, c.len.ensures) in
    let same : c.index_mut.result.now ≡ c.index-2.result.now = c.index_mut.ensures.value ∙ (there_is c.args.self.now.boxes.items c.args.who c.index_mut.result.now c.index-2.result.now inside ∙ sym c.index-2.ensures) in
    let slots : length c.index_mut.result.now.slots ≤ 64 = subst (λ (l : List Slot). length l ≤ 64) (c.slots.ensures.slots ∙ ap (λ (b : BoxState). b.slots) (sym same)) c.slots.ensures.few in
    shaped_after (shard_of c.args.self.now)
    (record { boxes = (with_item c.args.self.now.boxes c.args.who c.act_box.new.one).items; stamp = c.args.stamp; sent = c.number_all.new.lanes.items; taken = c.args.self.now.taken.items; asked = c.raise_asker.new.last.items })
    xs [] c.requires.shaped (length-set c.args.self.now.boxes.items c.args.who c.act_box.new.one) c.number_all.ensures.lanes (omega arith) refl (omega arith) c.requires.rises c.requires.fits

pub returns-clause-few : goal.returns-clause-few
returns-clause-few c =
    let sendings = c.act_box.new.sendings.items in
    let xs = numbered c.index-3.result.now c.args.stamp c.args.self.now.sent.items sendings in
    let few : length sendings ≤ 2 * length c.index_mut.result.now.slots = on_ok c.act_box.result _ (sym c.if-is_err.ensures.value) c.act_box.ensures.few in
    let most : length xs ≤ length sendings = numbered_few sendings c.index-3.result.now c.args.stamp c.args.self.now.sent.items in
    let inside : c.args.who < length c.args.self.now.boxes.items = omega (arith, c.len.ensures) in
    let same : c.index_mut.result.now ≡ c.index-2.result.now = c.index_mut.ensures.value ∙ (there_is c.args.self.now.boxes.items c.args.who c.index_mut.result.now c.index-2.result.now inside ∙ sym c.index-2.ensures) in
    let slots : length c.index_mut.result.now.slots ≤ 64 = subst (λ (l : List Slot). length l ≤ 64) (c.slots.ensures.slots ∙ ap (λ (b : BoxState). b.slots) (sym same)) c.slots.ensures.few in
    few_of _ _ xs c.number_all.ensures.out (search rules) (omega arith)
