use Rattle.std.proofs.Common.{◌<◌, ◌^◌, List, subst, sym}
use Rattle.mc_merge.specs.Weaving.{AreClimbing, entry_count}
use Rattle.mc_merge.specs.declared.log.Made.{Made}
use Rattle.mc_divided.specs.Swapping.{swapped_run}
use Rattle.mc_divided.proofs.Swapped.{have_merged, known_swapped, logs_swapped, written_swapped}
use Rattle.mc_divided.proofs.merging.merge_logs.Goals as goal

pub merge-requires-clause-few : goal.merge-requires-clause-few
merge-requires-clause-few c =
    subst (λ (l : List (List Made)). entry_count l < 2 ^ 32) (sym (logs_swapped swapped_run c.args.runs.now c.swap_logs.new.runs c.args.logs.now c.swap_logs.new.logs c.swap_logs.ensures c.requires.each)) c.requires.few

pub merge-requires-clause-known : goal.merge-requires-clause-known
merge-requires-clause-known c = known_swapped c.args.runs.now c.swap_logs.new.runs c.args.logs.now c.swap_logs.new.logs c.requires.each c.swap_logs.ensures c.requires.known

pub merge-requires-clause-climb : goal.merge-requires-clause-climb
merge-requires-clause-climb c =
    subst (λ (l : List (List Made)). AreClimbing l) (sym (logs_swapped swapped_run c.args.runs.now c.swap_logs.new.runs c.args.logs.now c.swap_logs.new.logs c.swap_logs.ensures c.requires.each)) c.requires.climb

pub merge-requires-clause-written : goal.merge-requires-clause-written
merge-requires-clause-written c = written_swapped c.args.runs.now c.swap_logs.new.runs c.args.logs.now c.swap_logs.new.logs c.requires.each c.swap_logs.ensures c.requires.written

pub returns : goal.returns
returns c =
    have_merged c.args.runs.now c.swap_logs.new.runs c.close.new.runs c.args.logs.now c.swap_logs.new.logs c.merge.new.logs c.close.new.logs c.args.turns.now.items c.merge.new.turns.items
    c.requires.each c.requires.none c.swap_logs.ensures c.in_ok-merge.ensures.merged c.in_ok-merge.ensures.empty c.merge.ensures.numbers c.merge.ensures.clocks c.close.ensures
