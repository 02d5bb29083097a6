use Rattle.std.proofs.Common.{◌≡◌, ◌++◌, drop}
use Rattle.mc_net_text.specs.Lines.{box_lines}
use Rattle.mc_net_text.proofs.lines.put_boxes.Given as goal

-- what is left are the lines of the boxes that are left
abbrev pub invariant-loop-who : goal.invariant-loop-who
invariant-loop-who l =
    l.fn.out.items ++ box_lines l.names 0 l.boxes ≡ l.out.items ++ box_lines l.names l.who (drop l.who l.boxes)
