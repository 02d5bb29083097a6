use Rattle.std.proofs.Common.{◌≡◌, map, take}
use Rattle.mc_team.specs.Layouts.{inner_lists}
use Rattle.mc_team.proofs.Pushed.{bare_of}
use Rattle.mc_team.proofs.layout.bare_places.Given as goal

abbrev pub invariant-loop-one : goal.invariant-loop-one
invariant-loop-one l = inner_lists l.places.items ≡ map bare_of (take l.one-index l.boxes)
