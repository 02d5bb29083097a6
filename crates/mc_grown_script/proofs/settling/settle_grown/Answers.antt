use Rattle.mc_stages.proofs.SettledOut.{put_back_out}
use Rattle.mc_grown_script.proofs.settling.settle_grown.Goals as goal

pub put_back-requires : goal.put_back-requires
put_back-requires g c =
    put_back_out c.args.network c.open_up-world.result.0 c.in_ok-world.field-0.world c.open_up-world.result.1.items c.args.batch.now c.in_ok-world.field-0.turns.items
    c.open_up-world.ensures.world c.open_up-world.ensures.out c.open_up-world.ensures.keeps c.keeps.ensures.sound c.requires.commands.none_out c.in_ok-world.ensures.settled
