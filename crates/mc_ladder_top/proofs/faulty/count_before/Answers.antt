use Rattle.std.proofs.Common.{map, subst, sym, ℕ}
use Rattle.mc_replay.specs.Faults.{StandsFor}
use Rattle.mc_ladder_top.proofs.Standing.{all_stand}
use Rattle.mc_net.specs.Nets.{batch_turns}
use Rattle.mc_ladder_top.proofs.faulty.count_before.Goals.{in-Ok, in-Err-At, in-Err-NoMemory}
use Rattle.mc_ladder_top.proofs.faulty.count_before.Goals as goal

pub returns : goal.returns
returns c = elim c.match-check_lines.branch [
  | in-Ok w ↦ rw w.result-is
      (rw w.len.ensures (subst (λ (n : ℕ). StandsFor c.args.world (map batch_turns c.args.batches.now) c.args.journal.now.lines.items n) (sym c.args.journal.now.lines.ok.0)
      (all_stand c.args.world (map batch_turns c.args.batches.now) c.args.journal.now.lines.items w.in-Ok.ensures.journal)))
  | in-Err-At w ↦ rw w.result-is (rw w.in-Err-At.field-0-is at w.in-Err-At.ensures.refused).1
  | in-Err-NoMemory w ↦ rw w.result-is tt
]
