use Rattle.std.proofs.Common.{◌∙◌, ap, sym, List, length, Vec, Global, arith}
use Rattle.std.proofs.lemmas.List.{length-map, length-replicate, length-set}
use Rattle.mc_box.specs.Boxes.{BoxState}
use Rattle.mc_box.specs.declared.event.Turn.{Turn}
use Rattle.mc_seq.specs.Commands.{queue_at}
use Rattle.mc_seq.proofs.AllowedCommands.{box_there}
use Rattle.mc_seq.proofs.LeftCommands.{none_queued, queues_more}
use Rattle.mc_seq.proofs.commands.queues_by_box.Goals as goal

pub loop-turn-init : goal.loop-turn-init
loop-turn-init c = record {
  long = sym (length-map c.in_ok-queues.queues.items (λ (queue : Vec Turn Global). queue.items))
      ∙ (ap (λ (l : List (List Turn)). length l) c.in_ok-queues.ensures ∙ (length-replicate (length c.boxes.result.now) _ ∙ ap (λ (l : List BoxState). length l) c.boxes.ensures));
  each = λ who. ap (λ (l : List (List Turn)). queue_at l who) c.in_ok-queues.ensures ∙ none_queued (length c.boxes.result.now) who;
}

pub loop-turn-preserved : goal.loop-turn-preserved
loop-turn-preserved c =
    let was = length-map c.loop-turn.queues.items (λ (queue : Vec Turn Global). queue.items) in
    record {
      long = sym (length-map c.put_last.new.queues.items (λ (queue : Vec Turn Global). queue.items))
          ∙ (ap (λ (l : List (List Turn)). length l) c.in_ok-put_last.ensures ∙ (length-set _ _ _ ∙ (was ∙ c.loop-turn.invariant.long)));
      each = queues_more c.args.batch.now c.loop-turn.turn-index _ _ _ c.loop-turn-test.true
          (λ d. (let there = box_there c.args.world.now c.args.batch.now c.loop-turn.turn-index d c.loop-turn-test.true c.requires in omega (arith, there, was, c.loop-turn.invariant.long)))
          c.in_ok-put_last.ensures c.loop-turn.invariant.each;
    }
