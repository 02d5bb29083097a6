use Rattle.std.proofs.Common.{◌≡◌, ◌+◌, length}
use Rattle.mc_box.specs.BoxSound.{box_state}
use Rattle.mc_box.proofs.Turning.{Turning}
use Rattle.mc_box.proofs.parts.BoxParts.changed_steps.Given as goal

abbrev pub invariant-loop-i : goal.invariant-loop-i
invariant-loop-i l = record {
  turning : Turning (box_state l.initial.self) (box_state l.self) l.old l.i l.initial.out.items l.out.items;
  room : l.out.spare + length l.out.items ≡ l.initial.out.spare + length l.initial.out.items;
}
