use Rattle.std.proofs.Common.{◌∙◌, ℕ, Option, None, ap}
use Rattle.std.specs.Prelude.{replicate}
use Rattle.mc_cause.proofs.Tells.{all_slots, tells_none}
use Rattle.mc_cause.proofs.whys.Whys.new.Goals as goal

abbrev the_none : Option ℕ
the_none = None

pub returns-clause-slots : goal.returns-clause-slots
returns-clause-slots c =
    all_slots c.args.world.now c.in_ok-origins.origins.items c.in_ok-whys.whys.items
    (c.in_ok-origins.ensures ∙ ap (λ (n : ℕ). replicate n (the_none)) c.slot_count.ensures) (c.in_ok-whys.ensures ∙ ap (λ (n : ℕ). replicate n (the_none)) c.slot_count-2.ensures)

pub returns-clause-tells : goal.returns-clause-tells
returns-clause-tells c =
    tells_none c.args.world.now c.in_ok-origins.origins.items c.in_ok-whys.whys.items c.keeps.ensures.sound c.requires
    (c.in_ok-origins.ensures ∙ ap (λ (n : ℕ). replicate n (the_none)) c.slot_count.ensures) (c.in_ok-whys.ensures ∙ ap (λ (n : ℕ). replicate n (the_none)) c.slot_count-2.ensures)
