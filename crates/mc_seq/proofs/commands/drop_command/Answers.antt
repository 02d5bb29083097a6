use Rattle.std.proofs.Common.{◌≡◌, ◌+◌, ◌∙◌, length, arith}
use Rattle.std.proofs.Math.ListN.{length-set}
use Rattle.mc_seq.specs.Commands.{commands_left}
use Rattle.mc_seq.specs.Schedule.{without_next}
use Rattle.mc_seq.proofs.Dropping.{count_then, has_next, left_then, next_counted, next_then, none_then, one_fewer}
use Rattle.mc_seq.proofs.commands.drop_command.Goals as goal

pub overflow_sub-commands : goal.overflow_sub-commands
overflow_sub-commands c =
    let has = has_next c.args.commands.now c.args.who c.used_at-used.result c.queue_len-all.result c.requires c.used_at-used.ensures c.deref.ensures.value c.queue_len-all.ensures c.deref-2.ensures.value c.if-used-all.true in
    let one : length (without_next c.args.who (commands_left c.args.commands.now)) + 1 ≡ c.args.commands.now.count = one_fewer c.args.commands.now c.args.who c.used_at-used.result c.queue_len-all.result has in
    omega arith

pub lower_at_last-requires : goal.lower_at_last-requires
lower_at_last-requires c =
    let has = has_next c.args.commands.now c.args.who c.used_at-used.result c.queue_len-all.result c.requires c.used_at-used.ensures c.deref.ensures.value c.queue_len-all.ensures c.deref-2.ensures.value c.if-used-all.true in
    next_counted c.args.commands.now c.args.who c.used_at-used.result c.queue_len-all.result has

pub returns-then-used-all-clause-kept : goal.returns-then-used-all-clause-kept
returns-then-used-all-clause-kept c =
    let has = has_next c.args.commands.now c.args.who c.used_at-used.result c.queue_len-all.result c.requires c.used_at-used.ensures c.deref.ensures.value c.queue_len-all.ensures c.deref-2.ensures.value c.if-used-all.true in
    record {
      queues = c.requires.queues;
      long = length-set c.args.commands.now.used.items c.args.who (c.used_at-used.result + 1) ∙ c.requires.long;
      next = next_then c.args.commands.now c.args.who c.used_at-used.result c.queue_len-all.result c.lower_at_last.new.next has c.lower_at_last.ensures;
      counted = count_then c.args.commands.now c.args.who c.used_at-used.result c.queue_len-all.result has;
    }

pub returns-then-used-all-clause-left : goal.returns-then-used-all-clause-left
returns-then-used-all-clause-left c =
    left_then c.args.commands.now c.args.who c.used_at-used.result c.queue_len-all.result
    (has_next c.args.commands.now c.args.who c.used_at-used.result c.queue_len-all.result c.requires c.used_at-used.ensures c.deref.ensures.value c.queue_len-all.ensures c.deref-2.ensures.value c.if-used-all.true)

pub returns-else-used-all-clause-left : goal.returns-else-used-all-clause-left
returns-else-used-all-clause-left c =
    none_then c.args.commands.now c.args.who c.used_at-used.result c.queue_len-all.result c.requires c.used_at-used.ensures c.deref.ensures.value c.queue_len-all.ensures c.deref-2.ensures.value c.if-used-all.false
