use Rattle.std.proofs.Common.{◌≡◌, ◌<◌, ◌∙◌, length, ap, sym, subst, arith}
use Rattle.mc_model.specs.Worlds.{WorldState, box_at}
use Rattle.mc_divided.proofs.NetworkBoxes.{box_count}
use Rattle.mc_rounds.proofs.in_parts.InPartsNetwork.home.Goals as goal

pub box_of-requires-clause-here : goal.box_of-requires-clause-here
box_of-requires-clause-here c =
    let n = c.self.inside.network in
    omega (arith, box_count n, ap (λ (w : WorldState). length w.boxes) c.self.view_is, c.requires)

pub returns : goal.returns
returns c = c.box_of.ensures ∙ ap (λ (w : WorldState). box_at w c.args.who) c.self.view_is
