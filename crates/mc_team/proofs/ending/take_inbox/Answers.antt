use Rattle.std.proofs.Common.{◌∙◌, ap, refl}
use Rattle.mc_team.proofs.TakenInboxes.{inbox_left}
use Rattle.mc_lane.specs.Queue.{Queue}
use Rattle.mc_signal.specs.declared.Tagged.{Tagged}
use Rattle.mc_team.proofs.ending.take_inbox.Goals as goal

pub returns-clause-left : goal.returns-clause-left
returns-clause-left c =
    inbox_left c.args.inboxes.now.items c.args.ends c.index_mut.result.now _ c.replace.new.dest c.requires c.index_mut.ensures.value refl (ap (λ (q : Queue Tagged). q.items) (c.replace.ensures.after ∙ c.new.ensures))
