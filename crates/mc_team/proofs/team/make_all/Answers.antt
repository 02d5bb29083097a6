use Rattle.mc_team.proofs.team.make_all.Goals as goal

pub make-requires-clause-sound : goal.make-requires-clause-sound
make-requires-clause-sound c = rw (c.replace-boxes.ensures.value, c.replace-channels.ensures.value, c.replace-lanes.ensures.value) c.requires.sound
