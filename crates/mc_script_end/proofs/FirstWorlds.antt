-- In the first world of a text no word is told.
use Rattle.std.proofs.Common.{◌≡◌, ◌+◌, ℕ, zero, suc, List, [], ◌∷◌, None, refl, ap, ◌∙◌}
use Rattle.std.proofs.Math.ListN.{get_or, set}
use Rattle.mc_box.specs.Boxes.{BoxState, no_box}
use Rattle.mc_model.specs.Worlds.{ChannelState, WorldState}
use Rattle.mc_plan.specs.Layouts.{programmed, with_program}
use Rattle.mc_plan.specs.Plans.{boxes_from, world_of}
use Rattle.mc_plan.specs.declared.plan.BoxPlan.{BoxPlan}
use Rattle.mc_program_lines.specs.Finished.{program_of}
use Rattle.mc_program_lines.specs.Programs.{BlockState}
use Rattle.mc_net.specs.Nets.{with_programs}
use Rattle.mc_script_end.specs.Words.{FirstWorldsAwaitWords}

-- no box of a plan was told a word
plan_untold : (channels : List ChannelState) (plans : List BoxPlan) (first who : ℕ) → (get_or (boxes_from channels first plans) who no_box).told ≡ None
plan_untold channels [] first who = refl
plan_untold channels (planned ∷ plans) first zero = refl
plan_untold channels (planned ∷ plans) first (suc who) = plan_untold channels plans (first + 1) who

-- nor is one told by another box in the place of one
set_untold : (boxes : List BoxState) (who at : ℕ) (box : BoxState) → box.told ≡ None → ((i : ℕ) → (get_or boxes i no_box).told ≡ None) → (get_or (set boxes who box) at no_box).told ≡ None
set_untold [] who at box none all = refl
set_untold (first ∷ boxes) zero zero box none all = none
set_untold (first ∷ boxes) zero (suc at) box none all = all (suc at)
set_untold (first ∷ boxes) (suc who) zero box none all = all 0
set_untold (first ∷ boxes) (suc who) (suc at) box none all = set_untold boxes who at box none (λ i. all (suc i))

programs_untold : (blocks : List BlockState) (world : WorldState) → ((i : ℕ) → (get_or world.boxes i no_box).told ≡ None) → (who : ℕ) → (get_or (with_programs world blocks).boxes who no_box).told ≡ None
programs_untold [] world all who = all who
programs_untold (block ∷ blocks) world all who =
    programs_untold blocks (with_program world block.who (program_of block))
    (λ at. set_untold world.boxes block.who at (programmed (get_or world.boxes block.who no_box) (program_of block)) (all block.who) all) who

pub first_worlds_await_words : FirstWorldsAwaitWords
first_worlds_await_words d world first who =
    ap (λ (w : WorldState). (get_or w.boxes who no_box).told) first.world
    ∙ programs_untold d.blocks (world_of first.plan) (λ i. plan_untold first.plan.channels first.plan.boxes 0 i) who
