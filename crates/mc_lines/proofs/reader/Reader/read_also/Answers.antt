use Rattle.std.proofs.Common.{◌≡◌, ap, sym, ◌∙◌, subst}
use Rattle.mc_lines.specs.BoxLines.{also_seen, slots_seen}
use Rattle.mc_lines.specs.Forms.{IsInForm}
use Rattle.mc_lines.specs.SoFar.{Declared}
use Rattle.mc_lines.proofs.Joining.{in_form_with_tunnel}
use Rattle.mc_lines.proofs.reader.Reader.read_also.Goals as goal

pub returns-clause-in_form : goal.returns-clause-in_form
returns-clause-in_form c =
    let line = c.in_ok-line.line in
    let can = c.in_ok-line.ensures.can_widen in
    let all : c.add_slots.new.self ≡ also_seen c.args.self.now line =
    c.in_ok-add_slots.ensures ∙ ap (λ (d : Declared). slots_seen d line) c.in_ok-widen.ensures in
    subst (λ (d : Declared). IsInForm d) (sym all)
    (in_form_with_tunnel c.args.self.now line.medium line.slot.now line.far_slot.now line.from line.to can.last.some can.last.near can.last.far can.ends.near can.ends.far c.requires)
