use Rattle.std.proofs.Common.{◌≡◌, ◌++◌, drop, map}
use Rattle.mc_net.specs.Nets.{batch_turns}
use Rattle.mc_stages.specs.Plans.{batch_of, growths_of}
use Rattle.mc_stage_plans.specs.Planned.{no_growths}
use Rattle.mc_stage_plans.proofs.planning.batch_plans.Given as goal

abbrev pub invariant-loop-batch : goal.invariant-loop-batch
invariant-loop-batch l = record {
  growths : map growths_of l.plans.items ++ no_growths (map batch_turns (drop l.batch-index l.batches)) ≡ no_growths (map batch_turns l.batches);
  batches_of : map batch_of l.plans.items ++ map batch_turns (drop l.batch-index l.batches) ≡ map batch_turns l.batches;
}
