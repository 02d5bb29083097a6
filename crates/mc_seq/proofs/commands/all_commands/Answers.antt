use Rattle.std.proofs.Common.{◌≡◌, ◌∙◌, ap, sym, refl, ℕ, List, Vec, length, replicate, subst}
use Rattle.std.specs.declared.alloc.Global.{Global}
use Rattle.std.proofs.lemmas.List.{length-replicate}
use Rattle.mc_box.specs.declared.event.Turn.{Turn}
use Rattle.mc_seq.specs.Commands.{first_of, left_after, queues_of, turns_of, used_of}
use Rattle.mc_seq.specs.Ready.{CountsEach}
use Rattle.mc_seq.proofs.LeftCommands.{first_counted, left_all, zeros}
use Rattle.mc_seq.proofs.commands.all_commands.Goals as goal

-- none has come
zero_is : (c : goal.In_ok-next) → c.in_ok-used.used.items ≡ replicate (length c.boxes-boxes.result.now) 0
zero_is c = c.in_ok-used.ensures.items_if_clones_equal (λ y is. is)

-- so all are left
left_is : (c : goal.In_ok-next) → left_after (used_of c.in_ok-used.used.items) c.in_ok-kept.kept.items ≡ c.args.batch.now
left_is c =
    left_all c.in_ok-kept.kept.items (used_of c.in_ok-used.used.items) (λ who. ap (λ (used : List ℕ). used_of used who) (zero_is c) ∙ zeros (length c.boxes-boxes.result.now) who) ∙ c.in_ok-kept.ensures.items

pub returns-clause-kept : goal.returns-clause-kept
returns-clause-kept c = record {
  kept = record {
    queues = λ who. c.in_ok-queues.ensures.each who ∙ ap (λ (batch : List Turn). turns_of who batch) (sym c.in_ok-kept.ensures.items);
    long = ap length (zero_is c) ∙ (length-replicate (length c.boxes-boxes.result.now) 0 ∙ (ap length c.boxes-boxes.ensures ∙ sym c.in_ok-queues.ensures.long));
    next = first_counted (queues_of c.in_ok-queues.queues.items) c.in_ok-kept.kept.items (used_of c.in_ok-used.used.items) c.in_ok-next.next c.in_ok-next.next (length c.args.world.now.boxes) (length c.in_ok-queues.queues.items)
        (λ who. c.in_ok-queues.ensures.each who ∙ ap (λ (batch : List Turn). turns_of who batch) (sym c.in_ok-kept.ensures.items))
        (λ who. ap (λ (used : List ℕ). used_of used who) (zero_is c) ∙ zeros (length c.boxes-boxes.result.now) who)
        (subst (λ (queues : List (Vec Turn Global)). CountsEach (first_of (queues_of queues)) c.in_ok-next.next (length c.args.world.now.boxes)) c.deref.ensures.value c.in_ok-next.ensures)
        refl c.in_ok-queues.ensures.long;
    counted = ap length (sym (left_is c));
  };
  boxes = c.in_ok-queues.ensures.long;
}

pub returns-clause-left : goal.returns-clause-left
returns-clause-left c = left_is c
