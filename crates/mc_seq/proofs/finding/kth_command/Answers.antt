use Rattle.std.proofs.Common.{◌<◌, ◌∙◌, ℕ, sym, subst}
use Rattle.mc_seq.proofs.Finds.{command_found, command_there, commands_sum}
use Rattle.mc_seq.proofs.finding.kth_command.Goals as goal

pub find-who-requires : goal.find-who-requires
find-who-requires c = subst (λ (n : ℕ). c.args.k < n) (sym (commands_sum c.args.left.now c.requires.kept)) c.requires.inside

pub unreachable-requires : goal.unreachable-requires
unreachable-requires c = command_there c.args.left.now c.find-who.result.0 c.find-who.result.1 c.requires.kept c.find-who.ensures.place c.find-who.ensures.within (sym c.next_command.ensures ∙ c.in_default.is)

pub returns : goal.returns
returns c =
    command_found c.args.left.now c.args.k c.find-who.result.0 c.find-who.result.1 c.in-Some.turn c.requires.kept c.find-who.ensures.place c.find-who.ensures.before c.find-who.ensures.within
    (sym c.next_command.ensures ∙ c.in-Some.is)
