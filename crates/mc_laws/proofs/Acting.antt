-- A slot that acts leaves its tunnel sound.
use Rattle.std.proofs.Common.{List, ◌++◌, append_assoc, subst, arith}
use Rattle.mc_signal.specs.declared.Signal.{Signal}
use Rattle.mc_slot.specs.Moves.{answer_signals}
use Rattle.mc_slot.specs.Tunnel.{TunnelSound}
use Rattle.mc_slot.specs.declared.Slot.{Slot}
use Rattle.mc_box.specs.Acting.{Acted, sends, takes}
use Rattle.mc_slot_laws.proofs.Taking.{take_keeps}
use Rattle.mc_slot_laws.proofs.Sending.{sends_keep}

-- a tunnel one of whose slots acts stays sound
pub act_keeps : (a : Slot) (to_a signals : List Signal) (after : Slot) (rest : List Signal) → Acted a to_a signals after rest
    → (b : Slot) (to_b : List Signal) → TunnelSound a to_a b to_b → TunnelSound after rest b (to_b ++ signals)
act_keeps a to_a signals after _ (sends goes) b to_b sound = sends_keep signals a to_a b to_b after sound goes
act_keeps a _ _ after rest (takes {signal = signal} middle signals answer goes sent) b to_b sound =
    let one = take_keeps a signal rest b to_b answer middle sound goes in
    let two = sends_keep signals middle rest b (to_b ++ answer_signals answer) after one sent in
    subst (λ (l : List Signal). TunnelSound after rest b l) (append_assoc to_b (answer_signals answer) signals) two

-- what comes to its list meanwhile makes no difference
pub longer : (more : List Signal) (a : Slot) (to_a signals : List Signal) (after : Slot) (rest : List Signal) → Acted a to_a signals after rest → Acted a (to_a ++ more) signals after (rest ++ more)
longer more a to_a signals after _ (sends goes) = sends goes
longer more a _ _ after rest (takes middle signals answer goes sent) = takes middle signals answer goes sent

-- the other side of a tunnel is sound too
pub other_side : (a : Slot) (to_a : List Signal) (b : Slot) (to_b : List Signal) → TunnelSound a to_a b to_b → TunnelSound b to_b a to_a
other_side a to_a b to_b sound = grind (arith)
