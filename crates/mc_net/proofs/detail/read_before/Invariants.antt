use Rattle.std.proofs.Common.{◌+◌, ◌≤◌, ◌<◌, length}
use Rattle.mc_text.specs.Lines.{lines}
use Rattle.mc_lines.specs.Forms.{IsInForm}
use Rattle.mc_lines.specs.Rules.{ends_commands}
use Rattle.mc_net.specs.Texts.{up_to}
use Rattle.mc_net.proofs.Reading.{HasRead}
use Rattle.mc_net.proofs.detail.read_before.Given as goal

abbrev pub invariant-loop-rest : goal.invariant-loop-rest
invariant-loop-rest l = record {
  read : HasRead l.tail l.text l.place.line l.place.before l.reader (up_to (ends_commands l.tail) (lines l.rest));
  left : 0 < length l.rest → l.place.before + length l.rest ≤ length l.text;
  in_form : IsInForm l.reader;
  not_past : l.place.line ≤ l.fault.line;
}

abbrev pub decreases-loop-rest : goal.decreases-loop-rest
decreases-loop-rest l = length l.rest
