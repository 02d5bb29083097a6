use Rattle.std.proofs.Common.{◌≡◌, ◌++◌, filter, take}
use Rattle.mc_part.specs.Divisions.{channels_from, is_crossing, is_inner}
use Rattle.mc_part.proofs.channels.channels_in.Given as goal

-- those that cross so far
abbrev pub invariant-loop-crossing : goal.invariant-loop-crossing
invariant-loop-crossing l = l.made.items ≡ channels_from l.assigned l.part l.boxes (filter (is_crossing l.assigned l.part) (take l.crossing-index l.channels))

-- all of these, and the inner ones so far
abbrev pub invariant-loop-inner : goal.invariant-loop-inner
invariant-loop-inner l = l.made.items ≡ channels_from l.assigned l.part l.boxes (filter (is_crossing l.assigned l.part) l.channels ++ filter (is_inner l.assigned l.part) (take l.inner-index l.channels))
