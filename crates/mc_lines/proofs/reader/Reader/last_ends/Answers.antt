use Rattle.std.proofs.Common.{◌≡◌, ◌<◌, ◌∙◌, List, length, ap, subst, sym, arith}
use Rattle.std.proofs.lemmas.Grind.{common_steps}
use Rattle.mc_model.specs.Worlds.{ChannelState}
use Rattle.mc_plan.specs.Plans.{last_channel}
use Rattle.mc_lines.specs.SoFar.{Declared}
use Rattle.mc_lines.proofs.Joining.{last_declared}
use Rattle.mc_lines.proofs.reader.Reader.last_ends.Goals as goal

pub returns-clause-there : goal.returns-clause-there
returns-clause-there c =
    let same : c.channels-channels.result.now ≡ c.args.self.now.channels = c.channels-channels.ensures ∙ ap (λ (d : Declared). d.channels) c.self.view_is in
    let some : 0 < length c.channels-channels.result.now = grind (arith, common_steps) in
    let last : c.index-channels-channels.result ≡ last_channel c.channels-channels.result.now = grind (arith, common_steps) in
    let both = last_declared c.self.inside.plan c.args.self.now c.keeps.ensures c.requires (ap (λ (d : Declared). d.boxes) c.self.view_is) (ap (λ (d : Declared). d.channels) c.self.view_is)
    (subst (λ (l : List ChannelState). 0 < length l) same some) in
    subst (λ (ends : ChannelState). (ends.from < length c.args.self.now.names.boxes) × (ends.to < length c.args.self.now.names.boxes)) (sym (c.last.view_is ∙ (last ∙ ap last_channel same))) both
