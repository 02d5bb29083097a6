use Rattle.std.proofs.Common.{◌≡◌, ◌++◌, [], length}
use Rattle.mc_signal.specs.Choice.{codecs_of}
use Rattle.mc_plain.specs.Numbers.{can_list}
use Rattle.mc_plain.proofs.signals.listed.Given as goal

abbrev pub invariant-loop-codec : goal.invariant-loop-codec
invariant-loop-codec l = record {
  listed : codecs_of l.list ++ l.rest ≡ l.fn.codecs;
  possible : can_list (codecs_of l.list) l.rest ≡ can_list [] l.fn.codecs;
}

abbrev pub decreases-loop-codec : goal.decreases-loop-codec
decreases-loop-codec l = length l.rest
