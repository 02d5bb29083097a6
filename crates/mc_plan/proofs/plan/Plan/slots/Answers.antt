use Rattle.std.proofs.Common.{◌≡◌, ◌∙◌, ℕ, List, ap, slice_index_or, arith, subst}
use Rattle.mc_plan.specs.Plans.{PlanState, slots_of}
use Rattle.mc_plan.proofs.plan.Plan.slots.Goals as goal

-- the number that is kept is that of the channels
kept : (c : goal.After-from) → c.from.result ≡ slots_of c.self.inside.channels.items c.args.who
kept c = c.from.ensures ∙ (c.count_of.ensures ∙ (ap (λ (counts : List ℕ). slice_index_or counts c.args.who 0) c.deref.ensures.value ∙ c.self.invariant.counted c.args.who))

pub returns-clause-slots : goal.returns-clause-slots
returns-clause-slots c = subst (λ (plan : PlanState). c.from.result ≡ slots_of plan.channels c.args.who) c.self.view_is (kept c)

pub returns-clause-few : goal.returns-clause-few
returns-clause-few c = omega (arith, kept c, c.self.invariant.laid.slots c.args.who)
