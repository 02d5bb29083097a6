use Rattle.std.proofs.Common.{ap, ◌∙◌}
use Rattle.mc_desks.specs.Passes.{lists_of}
use Rattle.mc_phase.proofs.Askers.{called_more}
use Rattle.mc_phase.proofs.preparing.askers_of.Goals as goal

pub loop-own-preserved : goal.loop-own-preserved
loop-own-preserved c =
    called_more c.args.desks.now (lists_of c.args.passes.items) (lists_of c.loop-own.own-iterator.rest.items) (lists_of c.next.new.self.rest.items) c.loop-own.askers.items c.push.new.self.items (record { number = c.len-number.result; passes = c.in-Some.own; asks = 0 })
    c.loop-own.invariant (ap lists_of c.in-Some.ensures.steps.0) c.requires.new (c.len-number.ensures ∙ c.loop-own.askers.ok.0) c.in_ok-push.ensures.items
