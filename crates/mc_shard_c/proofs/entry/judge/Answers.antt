use Rattle.mc_shard_c.specs.Saving.WhyNotJudged.{no_entry, memory}
use Rattle.mc_shard_c.proofs.entry.judge.Goals as goal

pub returns-in-Err-NoEntry-clause-why_not : goal.returns-in-Err-NoEntry-clause-why_not
returns-in-Err-NoEntry-clause-why_not c = λ _. no_entry (c.in-Err-NoEntry.ensures.none c.in-Err-NoEntry.field-0-is)

pub returns-in-Err-NoMemory-clause-why_not : goal.returns-in-Err-NoMemory-clause-why_not
returns-in-Err-NoMemory-clause-why_not c = λ _. memory
