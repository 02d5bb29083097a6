use Rattle.std.proofs.Common.{◌≡◌, ◌+◌, ℕ, get_or, take, sym, ◌∙◌, ap, List, arith}
use Rattle.std.proofs.lemmas.List.Sums.{fold_more}
use Rattle.std.specs.List.{slice_get}
use Rattle.mc_signal.specs.declared.Signal.{Signal}
use Rattle.mc_signal.specs.declared.Tagged.{Tagged}
use Rattle.mc_world.specs.Lanes.{all_sent, lane_by, numbers_of, one_sent, signals_of}
use Rattle.mc_model.specs.Worlds.{far}
use Rattle.mc_world.proofs.LaneChanges.{got_is}
use Rattle.mc_world.proofs.lanes.send_lane.Goals as goal

pub send-requires-clause-room : goal.send-requires-clause-room
send-requires-clause-room c s is =
    let at : get_or c.args.sends.now.items c.loop-i.i c.get-sending.result ≡ c.get-sending.result = sym (got_is c.args.sends.now.items c.loop-i.i c.get-sending.result c.get-sending.result c.get-sending.ensures) in
    let room = c.requires.room c.loop-i.i c.get-sending.result (omega (arith, c.loop-i-test.true, c.len-i-end.ensures)) s (ap (λ (sending : ℕ × Signal). slice_get (numbers_of c.args.topology.now c.args.who) sending.0) at ∙ is) in
    c.loop-i.invariant.room (lane_by c.args.topology.now (far s)) 1 (λ e. omega (arith, room e, c.loop-i-test.true, c.len-i-end.ensures))

pub loop-i-preserved : goal.loop-i-preserved
loop-i-preserved c =
    let items : List (ℕ × Signal) = c.args.sends.now.items in
    record {
      sent = c.send.ensures.sent
          ∙ (ap (λ (lanes : List (List Tagged)). one_sent c.args.topology.now c.args.who lanes c.get-sending.result) c.loop-i.invariant.sent
          ∙ (ap (λ (sending : ℕ × Signal). one_sent c.args.topology.now c.args.who (all_sent c.args.topology.now c.args.who (signals_of c.args.lanes.now) (take c.loop-i.i items)) sending)
          (got_is items c.loop-i.i c.get-sending.result c.get-sending.result c.get-sending.ensures)
          ∙ sym (fold_more (one_sent c.args.topology.now c.args.who) (signals_of c.args.lanes.now) items c.loop-i.i c.get-sending.result (omega (arith, c.loop-i-test.true, c.len-i-end.ensures)))));
      waiting = c.send.ensures.waiting;
      room = λ k count room. c.send.ensures.room k count (c.loop-i.invariant.room k (count + 1) (λ e. omega (arith, room e)));
    }
