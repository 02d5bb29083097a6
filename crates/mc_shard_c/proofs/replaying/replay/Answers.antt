use Rattle.std.proofs.Common.{◌≡◌, ap, None, subst}
use Rattle.mc_shard_writer.specs.Writers.{Waits}
use Rattle.mc_shard_c.specs.Entries.WhyGone.{memory}
use Rattle.mc_shard_c.specs.Entries.WhyNotBegun.{waits, no_entry}
use Rattle.mc_shard_c.specs.Exports.{writer_in}
use Rattle.mc_shard_c.specs.Handles.{held_writer, writer_of}
use Rattle.mc_shard_c.specs.declared.held.HeldShard.{HeldShard}
use Rattle.mc_shard_c.proofs.Replayed.{gone_of, gone_refused, stays_of}
use Rattle.mc_shard_c.proofs.replaying.replay.Goals as goal

pub returns-then-not-is_free-clause-why_not : goal.returns-then-not-is_free-clause-why_not
returns-then-not-is_free-clause-why_not c = λ _ _. stays_of (writer_in c.args.handle.now) _ (writer_of c.in-Some.held.value) _ _
    c.in-Some.ensures.out (ap held_writer c.close.ensures)
    (waits (subst (λ (h : HeldShard). Waits (writer_of h)) c.deref.ensures c.if-not-is_free.ensures))

pub returns-in-Err-clause-why_not : goal.returns-in-Err-clause-why_not
returns-in-Err-clause-why_not c = λ _ _. gone_refused (writer_in c.args.handle.now) _ (writer_of c.in-Some.held.value) _ _ c.in-Err.why
    c.in-Some.ensures.out (ap held_writer c.open.ensures.none) c.code_of.ensures
    (record {
      entry = c.in-Ok.entry;
      size = c.in-Ok.len;
      free = subst (λ (h : HeldShard). h.made ≡ None) c.deref.ensures c.if-not-is_free.ensures;
      begins = c.in-Ok.ensures.found;
      refused = c.in-Err.ensures.why;
    })

pub returns-in-Err-NoEntry-clause-why_not : goal.returns-in-Err-NoEntry-clause-why_not
returns-in-Err-NoEntry-clause-why_not c = λ _ _. stays_of (writer_in c.args.handle.now) _ (writer_of c.in-Some.held.value) _ _
    c.in-Some.ensures.out (ap held_writer c.close-in-Err-NoEntry.ensures)
    (no_entry (subst (λ (h : HeldShard). h.made ≡ None) c.deref.ensures c.if-not-is_free.ensures) (c.in-Err-NoEntry.ensures.none c.in-Err-NoEntry.field-0-is))

pub returns-in-Err-NoMemory-clause-why_not : goal.returns-in-Err-NoMemory-clause-why_not
returns-in-Err-NoMemory-clause-why_not c = λ _ _. gone_of (writer_in c.args.handle.now) _ (writer_of c.in-Some.held.value) _ _
    c.in-Some.ensures.out (ap held_writer c.open.ensures.none) memory
