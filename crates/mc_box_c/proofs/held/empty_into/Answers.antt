use Rattle.std.proofs.Common.{◌≡◌, ◌<◌, ◌∷◌, length, drop, arith, sym, ◌∙◌}
use Rattle.mc_plain.specs.Numbers.{sent_of}
use Rattle.mc_plain.proofs.Written.{written_next, drop_next, drop_none}
use Rattle.mc_box_c.proofs.held.empty_into.Goals as goal
use Rattle.mc_box_c.proofs.held.empty_into.Goals.{in-Some, in_default}

pub loop-i-preserved : goal.loop-i-preserved
loop-i-preserved c =
    let inside : c.loop-i.i < length c.args.queue.now.items = omega (arith, c.len-count.ensures, c.loop-i-test.true) in
    let within : c.loop-i.i < length c.args.out.now = omega (arith, c.requires, inside) in
    elim c.match-pop.branch [
      | in-Some w ↦
          let first : drop c.loop-i.i c.args.queue.now.items ≡ w.in-Some.sent ∷ c.pop.new.self.items = sym c.loop-i.invariant.left ∙ w.in-Some.ensures.item in
          record {
            room = omega (arith, c.loop-i.invariant.room, w.in-Some.ensures.size);
            left = sym (drop_next c.loop-i.i c.args.queue.now.items w.in-Some.sent c.pop.new.self.items first);
            written = w.out-is ∙ rw w.set.ensures (written_next sent_of c.loop-i.i c.args.queue.now.items c.args.out.now c.loop-i.out w.in-Some.sent c.pop.new.self.items first within c.loop-i.invariant.written);
          }
      | in_default w ↦ absurd (drop_none c.args.queue.now.items c.loop-i.i (sym c.loop-i.invariant.left ∙ w.in_default.ensures.item.0) inside)
    ]
