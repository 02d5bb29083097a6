use Rattle.std.proofs.Common.{◌≤◌, ◌^◌, length, subst, arith}
use Rattle.mc_model.specs.Sound.{IsSound}
use Rattle.mc_model.specs.Worlds.{WorldState, slot_count}
use Rattle.mc_divided.specs.Networks.{channels_of, world_in}
use Rattle.mc_rounds.proofs.in_parts.InPartsNetwork.keeps.Goals as goal

pub returns-clause-sound : goal.returns-clause-sound
returns-clause-sound c = subst IsSound c.self.view_is c.self.invariant.sound

pub returns-clause-few : goal.returns-clause-few
returns-clause-few c =
    let n = c.self.inside.network in
    let count = c.slot_count.ensures.count (channels_of n) (length n.assigned.items) c.self.invariant.frame in
    let few = c.slot_count.ensures.few (channels_of n) (length n.assigned.items) c.self.invariant.frame in
    let here : slot_count (world_in n) ≤ 2 ^ 32 = omega (arith, count, few) in
    subst (λ (w : WorldState). slot_count w ≤ 2 ^ 32) c.self.view_is here
