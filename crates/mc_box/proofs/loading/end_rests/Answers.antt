use Rattle.std.proofs.Common.{◌≤◌, false, length, nat_eq, rules}
use Rattle.mc_slot.specs.EndTurn.{end_turn}
use Rattle.mc_slot.specs.Sending.{pair_of}
use Rattle.mc_box.proofs.Loaded.{is_zero, sends_none}
use Rattle.mc_box.proofs.loading.end_rests.Goals as goal

pub returns : goal.returns
returns c =
    let fits : c.end_turn.result.len ≤ length c.end_turn.result.at = search rules in
    sends_none (pair_of 0) (end_turn c.args.goal c.args.slot.now false c.args.own c.args.me.now) c.end_turn.result fits
    c.end_turn.ensures.sends (nat_eq c.end_turn.result.len 0) (is_zero c.end_turn.result.len)
