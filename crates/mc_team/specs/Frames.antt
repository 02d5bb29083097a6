-- The frame of a team: the tables of its network, while its boxes are in their members.
use Rattle.std.specs.Prelude.{length}
use Rattle.mc_team.specs.declared.boxes.TeamBoxes.{TeamBoxes}
use Rattle.mc_world.specs.Parts.{FitsFrame}
use Rattle.mc_world.specs.declared.network.parts.Parts.{Parts}

-- the tables of these parts are those of the team's channels and of as many boxes as have members
abbrev pub FitsTeam : Parts → TeamBoxes → Type 0
FitsTeam parts team = FitsFrame parts team.channels.items (length team.members.items)
