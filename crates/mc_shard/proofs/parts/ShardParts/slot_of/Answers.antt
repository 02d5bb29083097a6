use Rattle.std.proofs.Common.{◌≡◌, ◌<◌, ◌∙◌, ℕ, [], List, length, slice_get, ap, arith}
use Rattle.mc_shard.specs.States.{places_of}
use Rattle.mc_shard.proofs.Shaped.{there_is}
use Rattle.mc_shard.proofs.parts.ShardParts.slot_of.Goals as goal

pub returns-then-who-len-clause-none : goal.returns-then-who-len-clause-none
returns-then-who-len-clause-none c who local inside at =
    let owner = c.requires.shaped.owned who local (c.args.at.end, c.args.at.item.tunnel) at in
    let there : c.args.at.end < length c.args.self.now.owners.items = omega (arith, c.requires.shaped.owner_count, c.requires.shaped.taken_count, c.requires.there) in
    let same : c.index-who.result.now ≡ who = c.index-who.ensures ∙ (there_is c.args.self.now.owners.items c.args.at.end c.index-who.result.now 0 there ∙ owner) in
    omega (arith, c.len.ensures, c.if-who-len.true)

pub returns-in-None-clause-none : goal.returns-in-None-clause-none
returns-in-None-clause-none c who local inside at =
    let owner = c.requires.shaped.owned who local (c.args.at.end, c.args.at.item.tunnel) at in
    let there : c.args.at.end < length c.args.self.now.owners.items = omega (arith, c.requires.shaped.owner_count, c.requires.shaped.taken_count, c.requires.there) in
    let same : c.index-who.result.now ≡ who = c.index-who.ensures ∙ (there_is c.args.self.now.owners.items c.args.at.end c.index-who.result.now 0 there ∙ owner) in
    let inside_2 : c.index-who.result.now < length c.args.self.now.places.items = omega arith in
    let is : c.index.result.now ≡ places_of c.args.self.now.places.items who =
    c.index.ensures ∙ (there_is c.args.self.now.places.items c.index-who.result.now c.index.result.now [] inside_2 ∙ ap (λ (n : ℕ). places_of c.args.self.now.places.items n) same) in
    c.in-None.ensures.none local (ap (λ (l : List (ℕ × ℕ)). slice_get l local) is ∙ at)
