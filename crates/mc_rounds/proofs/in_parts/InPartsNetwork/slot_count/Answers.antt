use Rattle.std.proofs.Common.{◌≡◌, ◌∙◌, length, ap}
use Rattle.mc_model.specs.Worlds.{WorldState, slot_count}
use Rattle.mc_divided.specs.Networks.{channels_of}
use Rattle.mc_rounds.proofs.in_parts.InPartsNetwork.slot_count.Goals as goal

pub returns : goal.returns
returns c =
    let n = c.self.inside.network in
    c.slot_count.ensures.count (channels_of n) (length n.assigned.items) c.self.invariant.frame
    ∙ ap (λ (w : WorldState). slot_count w) c.self.view_is
