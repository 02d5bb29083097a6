use Rattle.std.proofs.Common.{◌<◌, ℕ, length, subst}
use Rattle.mc_shard.specs.Journals.{EntryState}
use Rattle.mc_shard_c.specs.Entries.WhyNotRead.{no_entry, no_room, memory}
use Rattle.mc_shard_c.proofs.entry.read_into.Goals as goal

pub returns-then-out-len-clause-why_not : goal.returns-then-out-len-clause-why_not
returns-then-out-len-clause-why_not c = λ _. no_room (record {
  entry = c.in-Ok.entry;
  size = c.in-Ok.size;
  begins = c.in-Ok.ensures.found;
  more = subst (λ (e : EntryState). length c.args.out.now < length e.sent) c.entry.view_is (subst (λ (n : ℕ). length c.args.out.now < n) c.len.ensures c.if-out-len.true);
})

pub returns-in-Err-NoEntry-clause-why_not : goal.returns-in-Err-NoEntry-clause-why_not
returns-in-Err-NoEntry-clause-why_not c = λ _. no_entry (c.in-Err-NoEntry.ensures.none c.in-Err-NoEntry.field-0-is)

pub returns-in-Err-NoMemory-clause-why_not : goal.returns-in-Err-NoMemory-clause-why_not
returns-in-Err-NoMemory-clause-why_not c = λ _. memory
