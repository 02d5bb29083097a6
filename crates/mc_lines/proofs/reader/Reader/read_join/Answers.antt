use Rattle.std.proofs.Common.{ap, sym, ◌∙◌, subst}
use Rattle.mc_lines.specs.BoxLines.{slots_seen}
use Rattle.mc_lines.specs.Forms.{IsInForm}
use Rattle.mc_lines.specs.Joins.{among_channels}
use Rattle.mc_lines.specs.SoFar.{Declared}
use Rattle.mc_lines.proofs.AlsoBroken.{among_in_form}
use Rattle.mc_lines.proofs.Joining.{in_form_with_channel}
use Rattle.mc_lines.proofs.reader.Reader.read_join.Goals as goal

pub end_channels-requires : goal.end_channels-requires
end_channels-requires c =
    let line = c.in_ok-line.line in
    let can = c.in_ok-line.ensures.can_join in
    let form = subst (λ (d : Declared). IsInForm (among_channels d)) (sym c.self.view_is) (among_in_form c.args.self.now c.requires) in
    let all = c.in_ok-add_slots.ensures ∙ ap (λ (d : Declared). slots_seen d line) c.in_ok-join.ensures in
    subst (λ (d : Declared). IsInForm d) (sym all)
    (in_form_with_channel _ line.medium line.from line.slot.now line.to line.far_slot.now can.ends.near can.ends.far form)
