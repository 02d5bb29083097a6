use Rattle.std.proofs.Common.{refl, arith}
use Rattle.mc_team.proofs.Pushed.{list_longer}
use Rattle.mc_team.proofs.joining.add_end.Goals as goal

pub returns-clause-added : goal.returns-clause-added
returns-clause-added c =
    let layout = c.args.layout.now in
    record {
      ends = list_longer layout.ends.items c.args.who c.index_mut.result.now c.push.new.self c.args.lane c.requires.here c.index_mut.ensures.value c.in_ok-push.ensures.items;
      ins = list_longer layout.ins.items c.args.who c.index_mut-2.result.now c.push-2.new.self c.args.taking (omega (arith, c.requires.here, c.requires.ins)) c.index_mut-2.ensures.value c.in_ok-push-2.ensures.items;
      outs = list_longer layout.outs.items c.args.who c.index_mut-3.result.now c.push-3.new.self c.args.giving (omega (arith, c.requires.here, c.requires.outs)) c.index_mut-3.ensures.value c.in_ok-push-3.ensures.items;
      lanes = refl;
      places = refl;
    }
