-- In the first world of a text each slot has the version that the line of its box says.
use Rattle.std.proofs.Common.{None, ◌≡◌, ℕ, zero, suc, ◌+◌, ◌<◌, List, [], ◌∷◌, true, length, map, slice_index_or, ap, sym, subst, arith}
use Rattle.std.proofs.lemmas.List.{get_or-map, length-map}
use Rattle.mc_signal.specs.declared.Medium.TheVariants.{Audio}
use Rattle.mc_box.specs.Boxes.{BoxState, first_media, first_slot, media_at, no_box, no_media}
use Rattle.mc_box.specs.declared.setup.SlotMedia.{SlotMedia}
use Rattle.mc_box.specs.declared.setup.SlotSetup.{SlotSetup}
use Rattle.mc_model.specs.Worlds.{ChannelState, WorldState, box_at}
use Rattle.mc_plan.specs.Plans.{PlanState, boxes_from, world_of}
use Rattle.mc_plan.specs.Setups.{setups_of}
use Rattle.mc_plan.specs.declared.plan.BoxPlan.{BoxPlan}
use Rattle.mc_plan.proofs.Numbered.{length_boxes}
use Rattle.mc_lines.specs.BoxLines.{box_seen}
use Rattle.mc_lines.specs.SoFar.{DeclaredBox}
use Rattle.mc_lines.specs.Meaning.{declared_at}
use Rattle.mc_plan.proofs.Layouts.{IsButFor}
use Rattle.mc_net.proofs.Programmed.{boxes_are, many_are}
use Rattle.mc_net.specs.Nets.{with_programs}
use Rattle.mc_net.specs.Versions.{FirstVersions}

-- what stands where no setup is
no_setup : SlotSetup
no_setup = record { origin = 0; medium = Audio; initiator = true; address = None }

-- each slot of these boxes has the first version of its box's plan
version_from : (channels : List ChannelState) (plans : List BoxPlan) (first who local : ℕ) → who < length plans → local < length (slice_index_or (boxes_from channels first plans) who no_box).slots
    → (media_at (slice_index_or (boxes_from channels first plans) who no_box) local).version ≡ (declared_at (map box_seen plans) who).version
version_from channels [] first who local below inside = absurd (omega arith)
version_from channels (planned ∷ plans) first zero local below inside =
    let setups : List SlotSetup = setups_of channels first in
    let there : local < length (setups_of channels first) = subst (λ (n : ℕ). local < n) (length-map (setups_of channels first) first_slot) inside in
    ap (λ (media : SlotMedia). media.version) (get_or-map (first_media planned.first_version) setups local no_setup no_media there)
version_from channels (planned ∷ plans) first (suc who) local below inside = version_from channels plans (first + 1) who local (omega arith) inside

-- each slot of a plan's world
plan_versions : (plan : PlanState) (boxes : List DeclaredBox) (who local : ℕ) → map box_seen plan.boxes ≡ boxes → who < length (world_of plan).boxes → local < length (box_at (world_of plan) who).slots
    → (media_at (box_at (world_of plan) who) local).version ≡ (declared_at boxes who).version
plan_versions plan boxes who local seen below inside =
    subst (λ (boxes : List DeclaredBox). (media_at (box_at (world_of plan) who) local).version ≡ (declared_at boxes who).version) seen
    (version_from plan.channels plan.boxes 0 who local (subst (λ (n : ℕ). who < n) (length_boxes plan.channels plan.boxes 0) below) inside)

pub first_versions : FirstVersions
first_versions d world who local first below inside =
    subst (λ (w : WorldState). who < length w.boxes → local < length (box_at w who).slots → (media_at (box_at w who) local).version ≡ (declared_at d.boxes who).version) (sym first.world)
    (λ below inside. by (boxes_are (world_of first.plan) d.blocks who) (subst (λ (n : ℕ). who < n) (many_are (world_of first.plan) d.blocks) below) inside) below inside
  where
    by : IsButFor (box_at (world_of first.plan) who) (box_at (with_programs (world_of first.plan) d.blocks) who) → who < length (world_of first.plan).boxes → local < length (box_at (with_programs (world_of first.plan) d.blocks) who).slots
        → (media_at (box_at (with_programs (world_of first.plan) d.blocks) who) local).version ≡ (declared_at d.boxes who).version
    by same below inside =
        rw same.is (plan_versions first.plan d.boxes who local first.boxes below (subst (λ (b : BoxState). local < length b.slots) same.is inside))
