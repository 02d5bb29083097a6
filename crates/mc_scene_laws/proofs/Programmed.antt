-- The programs, the goals and the channels of the first world of a text.
use Rattle.std.proofs.Common.{◌≡◌, ℕ, zero, suc, ◌+◌, List, [], ◌∷◌, map, Option, refl, sym, ap, ◌∙◌, subst}
use Rattle.std.proofs.Math.ListN.{get_or, set}
use Rattle.std.specs.List.{AllByRecursion}
use Rattle.mc_slot.specs.declared.Goal.TheVariants.{Close as ToClose}
use Rattle.mc_slot.specs.declared.SlotGoal.TheVariants.{End}
use Rattle.mc_rule.specs.Programs.{ProgStateState}
use Rattle.mc_box.specs.Boxes.{BoxState, first_goal, goal_at, no_box, states_of}
use Rattle.mc_box.specs.declared.setup.SlotSetup.{SlotSetup}
use Rattle.mc_model.specs.Worlds.{ChannelState, WorldState, box_at}
use Rattle.mc_plan.specs.Layouts.{programmed, with_program}
use Rattle.mc_plan.specs.Plans.{boxes_from, world_of}
use Rattle.mc_plan.specs.Setups.{setups_of}
use Rattle.mc_plan.specs.declared.plan.BoxPlan.{BoxPlan}
use Rattle.mc_plan.proofs.Numbered.{plans_are_unprogrammed}
use Rattle.mc_program_lines.specs.Finished.{program_of}
use Rattle.mc_program_lines.specs.Programs.{BlockState}
use Rattle.mc_lines.specs.SoFar.{Declared}
use Rattle.mc_net.specs.Nets.{IsFirstWorld, with_programs}
use Rattle.mc_net.proofs.Programmed.{boxes_are}

-- ---- programs

-- one box of a list gets another program
set_program : (Q : ℕ → List ProgStateState → Type 0) (boxes : List BoxState) (at who : ℕ) (box : BoxState) → Q at (states_of box.program) → ((i : ℕ) → Q i (states_of (get_or boxes i no_box).program))
    → Q who (states_of (get_or (set boxes at box) who no_box).program)
set_program Q [] at who box new all = all who
set_program Q (first ∷ boxes) zero zero box new all = new
set_program Q (first ∷ boxes) zero (suc who) box new all = all (suc who)
set_program Q (first ∷ boxes) (suc at) zero box new all = all 0
set_program Q (first ∷ boxes) (suc at) (suc who) box new all = set_program (λ (i : ℕ) (states : List ProgStateState). Q (suc i) states) boxes at who box new (λ i. all (suc i))

programs_are : (Q : ℕ → List ProgStateState → Type 0) (blocks : List BlockState) (world : WorldState) → AllByRecursion (λ block. Q block.who (program_of block)) blocks → ((i : ℕ) → Q i (states_of (box_at world i).program))
    → (who : ℕ) → Q who (states_of (box_at (with_programs world blocks) who).program)
programs_are Q [] world each all who = all who
programs_are Q (block ∷ blocks) world each all who =
    programs_are Q blocks (with_program world block.who (program_of block)) each.1 (λ i. set_program Q world.boxes block.who i (programmed (get_or world.boxes block.who no_box) (program_of block)) each.0 all) who

-- what holds of no program, and of each that was declared, holds of those of all boxes
pub first_programs : (Q : ℕ → List ProgStateState → Type 0) (d : Declared) (world : WorldState) → IsFirstWorld d world → ((who : ℕ) → Q who []) → AllByRecursion (λ block. Q block.who (program_of block)) d.blocks
    → (who : ℕ) → Q who (states_of (box_at world who).program)
first_programs Q d world first none each who =
    subst (λ (w : WorldState). Q who (states_of (box_at w who).program)) (sym first.world)
    (programs_are Q d.blocks (world_of first.plan) each (λ i. subst (λ (p : Option (List ProgStateState)). Q i (states_of p)) (sym (plans_are_unprogrammed first.plan i)) (none i)) who)

-- ---- goals

goals_close : (setups : List SlotSetup) (local : ℕ) → get_or (map first_goal setups) local (End ToClose) ≡ End ToClose
goals_close [] local = refl
goals_close (setup ∷ setups) zero = refl
goals_close (setup ∷ setups) (suc local) = goals_close setups local

plan_goals : (channels : List ChannelState) (plans : List BoxPlan) (first who local : ℕ) → goal_at (get_or (boxes_from channels first plans) who no_box) local ≡ End ToClose
plan_goals channels [] first who local = refl
plan_goals channels (planned ∷ plans) first zero local = goals_close (setups_of channels first) local
plan_goals channels (planned ∷ plans) first (suc who) local = plan_goals channels plans (first + 1) who local

-- each slot of a first world is an end that closes
pub first_goals : (d : Declared) (world : WorldState) → IsFirstWorld d world → (who local : ℕ) → goal_at (box_at world who) local ≡ End ToClose
first_goals d world first who local =
    ap (λ (w : WorldState). goal_at (box_at w who) local) first.world
    ∙ (ap (λ (box : BoxState). goal_at box local) (boxes_are (world_of first.plan) d.blocks who).is ∙ plan_goals first.plan.channels first.plan.boxes 0 who local)

-- ---- channels

channels_stay : (blocks : List BlockState) (world : WorldState) → (with_programs world blocks).channels ≡ world.channels
channels_stay [] world = refl
channels_stay (block ∷ blocks) world = channels_stay blocks (with_program world block.who (program_of block))

-- the channels of a first world are the declared ones
pub first_channels : (d : Declared) (world : WorldState) → IsFirstWorld d world → world.channels ≡ d.channels
first_channels d world first = ap (λ (w : WorldState). w.channels) first.world ∙ (channels_stay d.blocks (world_of first.plan) ∙ first.channels)
