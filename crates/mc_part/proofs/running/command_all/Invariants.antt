use Rattle.std.proofs.Common.{◌-◌, length}
use Rattle.mc_part.specs.Running.{AreCalmFrom, Goes}
use Rattle.mc_part.proofs.Commanding.{UsesSoFar}
use Rattle.mc_part.proofs.running.command_all.Given as goal

-- what was made so far is the part's work; boxes that can shift have commands; a command was used, or nothing was made
abbrev pub invariant-commands : goal.invariant-commands
invariant-commands g l = record {
  goes : Goes l.fn.budget l.fn.part l.part;
  calm : AreCalmFrom 0 l.fn.part → AreCalmFrom 0 l.part;
  used : UsesSoFar l.fn.part l.part;
}

abbrev pub decreases-commands : goal.decreases-commands
decreases-commands g l = length l.part.commands.items - l.part.used
