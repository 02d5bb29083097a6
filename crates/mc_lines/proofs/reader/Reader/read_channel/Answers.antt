use Rattle.std.proofs.Common.{◌≡◌, ap, sym, ◌∙◌, subst}
use Rattle.mc_lines.specs.BoxLines.{channel_seen, slots_seen}
use Rattle.mc_lines.specs.Forms.{IsInForm}
use Rattle.mc_lines.specs.SoFar.{Declared}
use Rattle.mc_lines.proofs.Joining.{in_form_with_channel}
use Rattle.mc_lines.proofs.reader.Reader.read_channel.Goals as goal

pub returns-clause-in_form : goal.returns-clause-in_form
returns-clause-in_form c =
    let line = c.in_ok-line.line in
    let can = c.in_ok-line.ensures.can_join in
    let all : c.add_slots.new.self ≡ channel_seen c.args.self.now line =
    c.in_ok-add_slots.ensures ∙ ap (λ (d : Declared). slots_seen d line) c.in_ok-join.ensures in
    subst (λ (d : Declared). IsInForm d) (sym all)
    (in_form_with_channel c.args.self.now line.medium line.from line.slot.now line.to line.far_slot.now can.ends.near can.ends.far c.requires)
