use Rattle.std.proofs.Common.{◌≡◌, ◌<◌, ◌+◌, ℕ, get_or, length, subst, take, sym, ◌∙◌, ap, List, arith}
use Rattle.std.proofs.lemmas.List.Sums.{fold_more}
use Rattle.std.specs.List.{slice_get}
use Rattle.mc_slot.specs.Sending.{sends_of}
use Rattle.mc_signal.specs.declared.Signal.{Signal}
use Rattle.mc_signal.specs.declared.Tagged.{Tagged}
use Rattle.mc_world.specs.Lanes.{all_sent, lane_by, numbers_of, one_sent, signals_of}
use Rattle.mc_model.specs.Worlds.{far}
use Rattle.mc_world.proofs.lanes.send_all.Goals as goal

pub send-requires-clause-room : goal.send-requires-clause-room
send-requires-clause-room c s is =
    let at : get_or (sends_of c.args.sends.now) c.loop-sending.sending-index c.sending-item.result ≡ c.sending-item.result = ap (λ (l : List (ℕ × Signal)). get_or l c.loop-sending.sending-index c.sending-item.result) (sym c.as_slice-sending-items.ensures.sends) ∙ sym c.sending-item.is in
    let room = c.requires.room c.loop-sending.sending-index c.sending-item.result (subst (λ (l : List (ℕ × Signal)). c.loop-sending.sending-index < length l) c.as_slice-sending-items.ensures.sends c.loop-sending-test.true) s (ap (λ (sending : ℕ × Signal). slice_get (numbers_of c.args.topology.now c.args.who) sending.0) at ∙ is) in
    c.loop-sending.invariant.room (lane_by c.args.topology.now (far s)) 1 (λ e. omega (arith, room e, c.loop-sending-test.true, c.as_slice-sending-items.ensures.len))

pub loop-sending-preserved : goal.loop-sending-preserved
loop-sending-preserved c =
    let items : List (ℕ × Signal) = c.as_slice-sending-items.result.now in
    record {
      sent = c.send.ensures.sent
          ∙ (ap (λ (lanes : List (List Tagged)). one_sent c.args.topology.now c.args.who lanes c.sending-item.result) c.loop-sending.invariant.sent
          ∙ (ap (λ (sending : ℕ × Signal). one_sent c.args.topology.now c.args.who (all_sent c.args.topology.now c.args.who (signals_of c.args.lanes.now) (take c.loop-sending.sending-index items)) sending) c.sending-item.is
          ∙ sym (fold_more (one_sent c.args.topology.now c.args.who) (signals_of c.args.lanes.now) items c.loop-sending.sending-index c.sending-item.result c.loop-sending-test.true)));
      waiting = c.send.ensures.waiting;
      room = λ k count room. c.send.ensures.room k count (c.loop-sending.invariant.room k (count + 1) (λ e. omega (arith, room e)));
    }
