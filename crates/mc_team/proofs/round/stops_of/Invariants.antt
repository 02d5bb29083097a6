use Rattle.std.proofs.Common.{◌≡◌, take}
use Rattle.mc_team.specs.Rounds.{round_stops}
use Rattle.mc_team.proofs.round.stops_of.Given as goal

-- the stops so far
abbrev pub invariant-loop-member : goal.invariant-loop-member
invariant-loop-member l = l.stops.items ≡ round_stops (take l.member-index l.members)
