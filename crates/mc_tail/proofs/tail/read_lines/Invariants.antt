use Rattle.std.proofs.Common.{◌+◌, ◌≤◌, ◌<◌, length}
use Rattle.mc_text.specs.Lines.{lines}
use Rattle.mc_lines.specs.Forms.{IsInForm}
use Rattle.mc_tail.proofs.Reading.{HasReadTail}
use Rattle.mc_tail.proofs.tail.read_lines.Given as goal

abbrev pub invariant-loop-rest : goal.invariant-loop-rest
invariant-loop-rest l = record {
  read : HasReadTail l.text l.place.line l.place.before l.reader (lines l.rest);
  left : 0 < length l.rest → l.place.before + length l.rest ≤ length l.text;
  in_form : IsInForm l.reader.declared;
}

abbrev pub decreases-loop-rest : goal.decreases-loop-rest
decreases-loop-rest l = length l.rest
