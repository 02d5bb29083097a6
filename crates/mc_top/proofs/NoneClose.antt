-- In the first world of a text no slot waits for a closeack.
use Rattle.std.proofs.Common.{◌≡◌, ◌+◌, ◌∙◌, ℕ, zero, suc, List, [], ◌∷◌, map, refl, ap, sym}
use Rattle.std.proofs.Math.ListN.{get_or, set}
use Rattle.mc_box.specs.declared.setup.SlotSetup.{SlotSetup}
use Rattle.mc_box.specs.Boxes.{BoxState, first_slot, no_box, no_slot, slot_at}
use Rattle.mc_cause.specs.CauseLaws.{NoneCloses}
use Rattle.mc_lines.specs.SoFar.{Declared}
use Rattle.mc_model.specs.Worlds.{ChannelState, WorldState, place, slot_of}
use Rattle.mc_plan.specs.Layouts.{programmed, with_program}
use Rattle.mc_plan.specs.Plans.{boxes_from, world_of}
use Rattle.mc_plan.specs.Setups.{setups_of}
use Rattle.mc_plan.specs.declared.plan.BoxPlan.{BoxPlan}
use Rattle.mc_program_lines.specs.Finished.{program_of}
use Rattle.mc_program_lines.specs.Programs.{BlockState}
use Rattle.mc_net.specs.Nets.{IsFirstWorld, with_programs}
use Rattle.mc_slot.specs.declared.State.{State}
use Rattle.mc_slot.specs.declared.State.TheVariants.{Closed, Closing}

-- each slot of the box is closed
abbrev AreClosed : BoxState → Type 0
AreClosed box = (local : ℕ) → (slot_at box local).state ≡ Closed

setups_closed : (setups : List SlotSetup) (local : ℕ) → (get_or (map first_slot setups) local no_slot).state ≡ Closed
setups_closed [] local = refl
setups_closed (setup ∷ setups) zero = refl
setups_closed (setup ∷ setups) (suc local) = setups_closed setups local

-- so of the boxes of a plan
plan_closed : (channels : List ChannelState) (plans : List BoxPlan) (first who : ℕ) → AreClosed (get_or (boxes_from channels first plans) who no_box)
plan_closed channels [] first who local = refl
plan_closed channels (planned ∷ plans) first zero local = setups_closed (setups_of channels first) local
plan_closed channels (planned ∷ plans) first (suc who) local = plan_closed channels plans (first + 1) who local

-- and where another such box takes the place of one
set_closed : (boxes : List BoxState) (who at : ℕ) (box : BoxState) → AreClosed box → ((i : ℕ) → AreClosed (get_or boxes i no_box)) → AreClosed (get_or (set boxes who box) at no_box)
set_closed [] who at box closed all = all at
set_closed (first ∷ boxes) zero zero box closed all = closed
set_closed (first ∷ boxes) zero (suc at) box closed all = all (suc at)
set_closed (first ∷ boxes) (suc who) zero box closed all = all 0
set_closed (first ∷ boxes) (suc who) (suc at) box closed all = set_closed boxes who at box closed (λ i. all (suc i))

programs_closed : (blocks : List BlockState) (world : WorldState) → ((i : ℕ) → AreClosed (get_or world.boxes i no_box)) → (who : ℕ) → AreClosed (get_or (with_programs world blocks).boxes who no_box)
programs_closed [] world all who = all who
programs_closed (block ∷ blocks) world all who =
    programs_closed blocks (with_program world block.who (program_of block))
    (λ at. set_closed world.boxes block.who at (programmed (get_or world.boxes block.who no_box) (program_of block)) (all block.who) all) who

closed_closing : (state : State) → state ≡ Closed → state ≡ Closing → ⊥
closed_closing state one two = let both : Closed ≡ Closing = sym one ∙ two in cc

pub none_closes : (d : Declared) (world : WorldState) → IsFirstWorld d world → NoneCloses world
none_closes d world first s inside =
    closed_closing (slot_of world s).state
    (ap (λ (w : WorldState). (slot_at (get_or w.boxes (place world s).0 no_box) (place world s).1).state) first.world
    ∙ programs_closed d.blocks (world_of first.plan) (λ i. plan_closed first.plan.channels first.plan.boxes 0 i) (place world s).0 (place world s).1)
