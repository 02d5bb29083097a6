-- The next command of a box is taken from those that are left, as code reads and writes.
use Rattle.std.proofs.Common.{◌≡◌, ◌≤◌, ◌<◌, ◌+◌, ◌-◌, ◌==◌, ◌∙◌, if◌then◌else◌, ap, sym, ℕ, List, length, Vec, subst, arith}
use Rattle.std.proofs.Math.ListN.{get_or, set}
use Rattle.std.proofs.lemmas.List.{length-map}
use Rattle.std.specs.declared.alloc.Global.{Global}
use Rattle.mc_box.specs.declared.event.Turn.{Turn}
use Rattle.mc_seq.specs.Commands.{AreKept, commands_left, left_after, queue_at, queues_of, turns_of, used_of}
use Rattle.mc_seq.specs.Ready.{CountsEach}
use Rattle.mc_seq.specs.Schedule.{command_candidates, without_next}
use Rattle.mc_seq.specs.declared.commands.Commands.{Commands}
use Rattle.mc_seq.proofs.LeftCommands.{dropped_is, next_dropped, none_by, none_more, one_less, queue_there, some_next}

-- a box that has a command left: so many of its commands have come, of so many in all
pub record HasNext (commands : Commands) (who have all : ℕ) : Type 0 where
  pub kept : AreKept commands
  pub have_is : have ≡ used_of commands.used.items who
  pub all_is : all ≡ length (turns_of who commands.batch.items)
  pub low : have < all
  pub there : who < length commands.queues.items

pub has_next : (commands : Commands) (who have all : ℕ) {used : List ℕ} {queues : List (Vec Turn Global)} → AreKept commands → have ≡ used_of used who → used ≡ commands.used.items
    → all ≡ length (queue_at (queues_of queues) who) → queues ≡ commands.queues.items → have < all → HasNext commands who have all
has_next commands who have all kept one used two queues low =
    let total : all ≡ length (queue_at (queues_of commands.queues.items) who) = two ∙ ap (λ (rows : List (Vec Turn Global)). length (queue_at (queues_of rows) who)) queues in
    record {
      kept = kept;
      have_is = one ∙ ap (λ (numbers : List ℕ). used_of numbers who) used;
      all_is = total ∙ ap (λ (queue : List Turn). length queue) (kept.queues who);
      low = low;
      there = subst (λ (n : ℕ). who < n) (length-map commands.queues.items (λ queue. queue.items)) (queue_there (queues_of commands.queues.items) who have (omega arith));
    }

-- some of its commands haven't come
some_is : (commands : Commands) (who have all : ℕ) → HasNext commands who have all → used_of commands.used.items who < length (turns_of who commands.batch.items)
some_is commands who have all has = let a = has.have_is in let b = has.all_is in let c = has.low in omega arith

-- so it is counted
pub next_counted : (commands : Commands) (who have all : ℕ) → HasNext commands who have all → 0 < get_or commands.next who 0
next_counted commands who have all has =
    let count : get_or commands.next who 0 ≡ length (command_candidates (commands_left commands) who) = has.kept.next.counts who has.there in
    let one : length (command_candidates (commands_left commands) who) ≡ 1 = some_next commands.batch.items (used_of commands.used.items) who (some_is commands who have all has) in
    omega arith

-- some are left, and one is fewer without the next
pub one_fewer : (commands : Commands) (who have all : ℕ) → HasNext commands who have all → length (without_next who (commands_left commands)) + 1 ≡ commands.count
one_fewer commands who have all has = one_less commands.batch.items (used_of commands.used.items) who (some_is commands who have all has) ∙ sym has.kept.counted

-- those that are left then
pub left_then : (commands : Commands) (who have all : ℕ) → HasNext commands who have all
    → left_after (used_of (set commands.used.items who (have + 1))) commands.batch.items ≡ without_next who (commands_left commands)
left_then commands who have all has =
    dropped_is commands.used.items commands.batch.items who have (subst (λ (n : ℕ). who < n) (sym has.kept.long) has.there) has.have_is

-- and their count
pub count_then : (commands : Commands) (who have all : ℕ) → HasNext commands who have all
    → commands.count - 1 ≡ length (left_after (used_of (set commands.used.items who (have + 1))) commands.batch.items)
count_then commands who have all has =
    let one : length (without_next who (commands_left commands)) + 1 ≡ commands.count = one_fewer commands who have all has in
    let less : commands.count - 1 ≡ length (without_next who (commands_left commands)) = omega arith in
    less ∙ ap (λ (left : List Turn). length left) (sym (left_then commands who have all has))

-- and the counts of next ones
pub next_then : (commands : Commands) (who have all : ℕ) (new : List ℕ) → HasNext commands who have all → new ≡ (if have + 1 == all then set commands.next who (get_or commands.next who 0 - 1) else commands.next)
    → CountsEach (command_candidates (left_after (used_of (set commands.used.items who (have + 1))) commands.batch.items)) new (length commands.queues.items)
next_then commands who have all new has written =
    next_dropped commands.batch.items commands.used.items commands.next new who (length commands.queues.items) have all has.have_is has.all_is has.low
    (subst (λ (n : ℕ). who < n) (sym has.kept.long) has.there) has.kept.next has.there written

-- where all have come none is taken
pub none_then : (commands : Commands) (who have all : ℕ) {used : List ℕ} {queues : List (Vec Turn Global)} → AreKept commands → have ≡ used_of used who → used ≡ commands.used.items
    → all ≡ length (queue_at (queues_of queues) who) → queues ≡ commands.queues.items → all ≤ have → commands_left commands ≡ without_next who (commands_left commands)
none_then commands who have all kept one used two queues high =
    sym (none_more commands.batch.items (used_of commands.used.items) who
    (none_by (queues_of commands.queues.items) commands.batch.items (used_of commands.used.items who) who have all (kept.queues who)
    (one ∙ ap (λ (numbers : List ℕ). used_of numbers who) used)
    (two ∙ ap (λ (rows : List (Vec Turn Global)). length (queue_at (queues_of rows) who)) queues) high))
