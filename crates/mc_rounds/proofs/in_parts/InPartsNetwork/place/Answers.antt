use Rattle.std.proofs.Common.{◌≡◌, ◌∙◌, length, ap}
use Rattle.mc_model.specs.Worlds.{WorldState, place}
use Rattle.mc_divided.specs.Networks.{channels_of}
use Rattle.mc_rounds.proofs.in_parts.InPartsNetwork.place.Goals as goal

pub returns : goal.returns
returns c =
    let n = c.self.inside.network in
    c.place.ensures (channels_of n) (length n.assigned.items) c.self.invariant.frame
    ∙ ap (λ (w : WorldState). place w c.args.slot) c.self.view_is
