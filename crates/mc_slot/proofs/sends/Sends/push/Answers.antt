use Rattle.mc_slot.proofs.Blanks.{blank-push}
use Rattle.mc_slot.proofs.sends.Sends.push.Goals as goal

pub invariant_of-self-clause-blank : goal.invariant_of-self-clause-blank
invariant_of-self-clause-blank c = blank-push _ _ _ _ c.requires c.args.self.now.blank
