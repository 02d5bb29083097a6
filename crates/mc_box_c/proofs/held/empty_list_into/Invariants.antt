use Rattle.std.proofs.Common.{◌-◌, ◌≡◌, ◌≤◌, ◌++◌, length, map, take, drop}
use Rattle.mc_plain.specs.Numbers.{sent_of}
use Rattle.mc_box_c.proofs.Blanks.{blank}
use Rattle.mc_box_c.proofs.held.empty_list_into.Given as goal

abbrev pub invariant-loop-i : goal.invariant-loop-i
invariant-loop-i l = record {
  len : l.sends.len ≡ l.initial.sends.len;
  within : l.i ≤ l.initial.sends.len;
  places : l.initial.sends.len ≤ length l.sends.at;
  blank : l.sends.at ≡ map blank (take l.i l.initial.sends.at) ++ drop l.i l.initial.sends.at;
  written : l.out ≡ map sent_of (take l.i l.initial.sends.at) ++ drop l.i l.initial.out;
}

abbrev pub decreases-loop-i : goal.decreases-loop-i
decreases-loop-i l = 3 - l.i
