use Rattle.std.proofs.Common.{◌≡◌, ℕ, Option, Some, None, get_or, ap, sym, ◌∙◌}
use Rattle.std.specs.Option.{option_and_then}
use Rattle.mc_world.proofs.PartnerTables.{partner_again}
use Rattle.mc_world.proofs.ringing.linked.Goals as goal

pub returns : goal.returns
returns c world sound are inside =
    let read : get_or c.args.partners.now c.args.place None ≡ Some c.in_ok-other.other = sym c.partner.ensures ∙ c.in_ok-other.was in
    c.partner-2.ensures ∙ (ap (λ (o : Option ℕ). option_and_then (λ t. get_or c.args.partners.now t None) o) (sym read) ∙ partner_again world c.args.partners.now c.args.place sound are inside)
