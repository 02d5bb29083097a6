use Rattle.mc_ladder_choice.proofs.Noting.{made_noted}
use Rattle.mc_ladder_choice.proofs.making.make_noted.Goals as goal

pub returns-in-Ok-clause-notes : goal.returns-in-Ok-clause-notes
returns-in-Ok-clause-notes c =
    made_noted c.args.world.now c.step.new.self c.args.turn c.args.whys.now c.note.new.self c.in-Ok.ensures.ok c.note.ensures.turns c.note.ensures.slots
    (λ first made so_far. c.note.ensures.tells first c.args.world.now made so_far (record { sound = c.keeps.ensures.sound; goes = c.in-Ok.ensures.ok }))
