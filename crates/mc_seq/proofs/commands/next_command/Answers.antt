use Rattle.std.proofs.Common.{◌∙◌, ap, sym, ℕ, List, slice_get, Vec}
use Rattle.std.specs.declared.alloc.Global.{Global}
use Rattle.mc_box.specs.declared.event.Turn.{Turn}
use Rattle.mc_seq.specs.Commands.{queue_at, queues_of, turns_of, used_of}
use Rattle.mc_seq.proofs.LeftCommands.{next_is}
use Rattle.mc_seq.proofs.commands.next_command.Goals as goal

pub returns : goal.returns
returns c =
    let who : ℕ = c.args.who in
    let batch : List Turn = c.args.commands.now.batch.items in
    c.command_at.ensures
    ∙ (ap (λ (queues : List (Vec Turn Global)). slice_get (queue_at (queues_of queues) who) c.used_at.result) c.deref.ensures.value
    ∙ (ap (λ (queue : List Turn). slice_get queue c.used_at.result) (c.requires.queues who)
    ∙ (ap (slice_get (turns_of who batch)) (c.used_at.ensures ∙ ap (λ (used : List ℕ). used_of used who) c.deref-2.ensures.value)
    ∙ sym (next_is batch (used_of c.args.commands.now.used.items) who))))
