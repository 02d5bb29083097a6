use Rattle.mc_part.proofs.Shares.{list_longer}
use Rattle.mc_part.proofs.sharing.give.Goals as goal

pub returns : goal.returns
returns g c = list_longer c.args.lists.now.items c.args.part c.index_mut.result.now c.push.new.self c.args.thing c.requires c.index_mut.ensures.value c.in_ok-push.ensures.items
