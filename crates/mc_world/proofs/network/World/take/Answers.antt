use Rattle.std.proofs.Common.{◌≡◌, ◌∙◌, Some, sym}
use Rattle.mc_laws.proofs.Numbers.{number_is}
use Rattle.mc_laws.proofs.StepKeeps.{front_is_taken}
use Rattle.mc_model.specs.Worlds.{number}
use Rattle.mc_world.proofs.WorldSteps.{front_found, number_inside, number_slot}
use Rattle.mc_world.proofs.network.World.take.Goals as goal

pub take_front-requires-clause-inside : goal.take_front-requires-clause-inside
take_front-requires-clause-inside c = number_inside c.args.self.now c.args.who c.args.local c.in-Some.slot c.requires.sound.numbered (sym c.number.ensures ∙ c.in-Some.is)

pub take_front-requires-clause-number : goal.take_front-requires-clause-number
take_front-requires-clause-number c = sym c.number.ensures ∙ c.in-Some.is

pub take_front-requires-clause-front : goal.take_front-requires-clause-front
take_front-requires-clause-front c = front_found c.args.self.now c.in-Some.slot _ _ _ _ c.toward-toward.ensures.lane c.toward-toward.ensures.tunnel c.front_in.ensures c.in-Some-front_in.is

-- the world is sound, so the signal may be taken
pub take_front-requires-clause-lawful : goal.take_front-requires-clause-lawful
take_front-requires-clause-lawful c =
    let is : number c.args.self.now c.args.who c.args.local ≡ Some c.in-Some.slot = sym c.number.ensures ∙ c.in-Some.is in
    rw (← number_slot c.args.self.now c.args.who c.args.local c.in-Some.slot is)
    (front_is_taken c.args.self.now c.in-Some.slot _ c.requires.sound (number_is c.args.self.now c.args.who c.args.local c.in-Some.slot is).0
    (front_found c.args.self.now c.in-Some.slot _ _ _ _ c.toward-toward.ensures.lane c.toward-toward.ensures.tunnel c.front_in.ensures c.in-Some-front_in.is))
