use Rattle.std.proofs.Common.{sym, ◌∙◌}
use Rattle.mc_seq.proofs.Hears.{hears_somewhere}
use Rattle.mc_seq.proofs.stopping.heard_slot.Goals as goal

pub unreachable-requires-in_default-number : goal.unreachable-requires-in_default-number
unreachable-requires-in_default-number c =
    hears_somewhere c.args.world.now c.args.turn c.in-Some.local c.keeps.ensures.sound c.requires (sym c.heard_local.ensures ∙ c.in-Some.is) (sym c.number.ensures ∙ c.in_default-number.is)
