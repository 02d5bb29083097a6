use Rattle.mc_replay.proofs.Places.{faults_stand_there, one_place}
use Rattle.mc_replay.proofs.laws.one_place.Goals as goal

pub returns-clause-place : goal.returns-clause-place
returns-clause-place c = one_place

pub returns-clause-turn : goal.returns-clause-turn
returns-clause-turn c = faults_stand_there
