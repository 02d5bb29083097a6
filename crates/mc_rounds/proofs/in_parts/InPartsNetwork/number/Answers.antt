use Rattle.std.proofs.Common.{◌≡◌, ◌∙◌, ap}
use Rattle.mc_model.specs.Worlds.{WorldState, number}
use Rattle.mc_rounds.proofs.in_parts.InPartsNetwork.number.Goals as goal

pub returns : goal.returns
returns c =
    c.slot_number.ensures ∙ ap (λ (w : WorldState). number w c.args.who c.args.local) c.self.view_is
