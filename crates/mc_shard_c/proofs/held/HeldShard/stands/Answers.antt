use Rattle.std.proofs.Common.{◌<◌, ◌≤◌, ℕ, arith, length, subst}
use Rattle.mc_shard.specs.Journals.{EntryState}
use Rattle.mc_shard_c.specs.Turns.WhyNotStood.{none_waits, no_room}
use Rattle.mc_shard_c.proofs.held.HeldShard.stands.Goals as goal

pub returns-in-None-clause-why_not : goal.returns-in-None-clause-why_not
returns-in-None-clause-why_not c = λ _. none_waits c.in-None.is

pub returns-then-out-len-clause-why_not : goal.returns-then-out-len-clause-why_not
returns-then-out-len-clause-why_not c = λ _. no_room (record { entry = c.in-Some.entry; waits = c.in-Some.is; more = subst (λ (e : EntryState). length c.args.out.now < length e.sent) c.entry.view_is (subst (λ (n : ℕ). length c.args.out.now < n) c.len.ensures c.if-out-len.true) })

pub returns-then-out-len-clause-enough : goal.returns-then-out-len-clause-enough
returns-then-out-len-clause-enough c = λ _.
    let more = subst (λ (e : EntryState). length c.args.out.now < length e.sent) c.entry.view_is (subst (λ (n : ℕ). length c.args.out.now < n) c.len.ensures c.if-out-len.true) in
    let few : length c.in-Some.entry.sent ≤ 128 = c.args.self.now.few c.in-Some.entry c.in-Some.is in
    omega (arith, more, few)
