use Rattle.std.proofs.Common.{◌∙◌, ◌+◌, ℕ, Option, Some, IfSome, ap, sym, subst}
use Rattle.mc_cause.specs.Carried.{WhysState}
use Rattle.mc_replay.specs.Told.{HasNoted, KeepsPace}
use Rattle.mc_replay.proofs.telling.make_noted.Goals as goal

pub returns-in-Some-clause-notes : goal.returns-in-Some-clause-notes
returns-in-Some-clause-notes c =
    let pace : KeepsPace c.args.replay.now c.in-Some.whys = subst (λ (o : Option WhysState). IfSome o (KeepsPace c.args.replay.now)) c.in-Some.is c.requires.pace in
    subst (λ (o : Option WhysState). HasNoted c.args.replay.now.segment.world c.args.turn c.make.new.self o (Some c.note.new.self)) (sym c.in-Some.is)
    (record {
      pace = record { slots = c.note.ensures.slots; turns = c.note.ensures.turns ∙ (ap (λ (n : ℕ). n + 1) pace.turns ∙ sym c.in_ok-make.ensures.turns) };
      tells = λ first turns tells. c.note.ensures.tells first c.args.replay.now.segment.world turns tells (record { sound = c.keeps.ensures.sound; goes = c.in_ok-make.ensures.goes });
    })
