use Rattle.std.proofs.Common.{◌≡◌, ◌<◌, ◌^◌, ℕ, IfNone, Option, false, length, subst, sym, arith}
use Rattle.std.proofs.lemmas.Grind.{common_steps}
use Rattle.mc_model.specs.Worlds.{WorldState}
use Rattle.mc_world.specs.Waiting.{take_waits}
use Rattle.mc_world.proofs.Running.{none_there}
use Rattle.mc_world.proofs.network.engine.Engine.next_take.Goals as goal

pub returns-in_err-who-clause-none : goal.returns-in_err-who-clause-none
returns-in_err-who-clause-none c =
    subst (λ (o : Option (ℕ × ℕ)). IfNone o ((who local : ℕ) → who < length c.args.self.now.boxes → take_waits c.args.self.now who local ≡ false)) (sym c.from_residual.ensures)
    (λ who local here.
    let home : who < length c.self.inside.boxes.items = subst (λ (w : WorldState). who < length w.boxes) (sym c.self.view_is) here in
    none_there c.self.inside c.args.self.now who local c.self.invariant c.self.view_is (λ _. c.in_err-who.ensures.none who (omega (arith, home, c.len.ensures, c.self.inside.boxes.ok.0))))

pub overflow_cast-who : goal.overflow_cast-who
overflow_cast-who c =
    let fits : c.in_ok-who.field-0 < 2 ^ 32 = omega (arith, c.in_ok-who.ensures.some.0, c.len.ensures, c.self.inside.boxes.ok.0, c.self.invariant.homes, c.self.invariant.waiting.counted.takes, c.keeps.ensures.few) in
    grind (arith, common_steps)
