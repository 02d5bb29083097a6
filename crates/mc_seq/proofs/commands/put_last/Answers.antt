use Rattle.mc_seq.proofs.LeftCommands.{put_is}
use Rattle.mc_seq.proofs.commands.put_last.Goals as goal

pub returns : goal.returns
returns c =
    put_is (λ queue. queue.items) c.args.queues.now.items c.args.turn.who c.args.turn c.index_mut-queue.result.now c.push.new.self c.requires c.index_mut-queue.ensures.value c.in_ok-push.ensures.items
