-- In the first world of a text all slots are closed.
use Rattle.std.proofs.Common.{◌≡◌, ◌+◌, ℕ, zero, suc, List, [], ◌∷◌, map, refl, ap, ◌∙◌}
use Rattle.std.proofs.Math.ListN.{get_or, set}
use Rattle.mc_slot.specs.declared.State.TheVariants.{Closed}
use Rattle.mc_box.specs.Boxes.{BoxState, first_slot, no_box, no_slot, slot_at}
use Rattle.mc_box.specs.declared.setup.SlotSetup.{SlotSetup}
use Rattle.mc_model.specs.Worlds.{ChannelState, WorldState, place}
use Rattle.mc_plan.specs.Layouts.{programmed, with_program}
use Rattle.mc_plan.specs.Plans.{boxes_from, world_of}
use Rattle.mc_plan.specs.Setups.{setups_of}
use Rattle.mc_plan.specs.declared.plan.BoxPlan.{BoxPlan}
use Rattle.mc_program_lines.specs.Finished.{program_of}
use Rattle.mc_program_lines.specs.Programs.{BlockState}
use Rattle.mc_net.specs.Nets.{with_programs}
use Rattle.mc_grown_rest.specs.GrowingTexts.{FirstWorldsAreClosed}

-- each slot of a box is closed
abbrev IsShut : BoxState → Type 0
IsShut box = (local : ℕ) → (slot_at box local).state ≡ Closed

setups_shut : (setups : List SlotSetup) (local : ℕ) → (get_or (map first_slot setups) local no_slot).state ≡ Closed
setups_shut [] local = refl
setups_shut (setup ∷ setups) zero = refl
setups_shut (setup ∷ setups) (suc local) = setups_shut setups local

-- of the boxes of a plan
plan_shut : (channels : List ChannelState) (plans : List BoxPlan) (first who : ℕ) → IsShut (get_or (boxes_from channels first plans) who no_box)
plan_shut channels [] first who = λ local. refl
plan_shut channels (planned ∷ plans) first zero = λ local. setups_shut (setups_of channels first) local
plan_shut channels (planned ∷ plans) first (suc who) = plan_shut channels plans (first + 1) who

-- and with another box in the place of one
set_shut : (boxes : List BoxState) (who at : ℕ) (box : BoxState) → IsShut box → ((i : ℕ) → IsShut (get_or boxes i no_box)) → IsShut (get_or (set boxes who box) at no_box)
set_shut [] who at box shut all = λ local. refl
set_shut (first ∷ boxes) zero zero box shut all = shut
set_shut (first ∷ boxes) zero (suc at) box shut all = all (suc at)
set_shut (first ∷ boxes) (suc who) zero box shut all = all 0
set_shut (first ∷ boxes) (suc who) (suc at) box shut all = set_shut boxes who at box shut (λ i. all (suc i))

programs_shut : (blocks : List BlockState) (world : WorldState) → ((i : ℕ) → IsShut (get_or world.boxes i no_box)) → (who : ℕ) → IsShut (get_or (with_programs world blocks).boxes who no_box)
programs_shut [] world all who = all who
programs_shut (block ∷ blocks) world all who =
    programs_shut blocks (with_program world block.who (program_of block))
    (λ at. set_shut world.boxes block.who at (programmed (get_or world.boxes block.who no_box) (program_of block)) (all block.who) all) who

pub first_worlds_are_closed : FirstWorldsAreClosed
first_worlds_are_closed d world first s inside =
    ap (λ (w : WorldState). (slot_at (get_or w.boxes (place world s).0 no_box) (place world s).1).state) first.world
    ∙ programs_shut d.blocks (world_of first.plan) (λ i. plan_shut first.plan.channels first.plan.boxes 0 i) (place world s).0 (place world s).1
