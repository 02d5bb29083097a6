use Rattle.std.proofs.Common.{MatchBool, subst}
use Rattle.mc_shard.specs.Journals.{EntryState, IsAmong, items_at}
use Rattle.mc_shard_merge.proofs.comparing.entry_sent.Goals as goal

pub returns : goal.returns
returns c =
    subst (λ (e : EntryState). MatchBool c.was_sent.result (IsAmong (items_at c.args.wanted.end e.sent) c.args.wanted.item) (IsAmong (items_at c.args.wanted.end e.sent) c.args.wanted.item → ⊥)) c.entry.view_is c.was_sent.ensures
