use Rattle.std.proofs.Common.{◌≡◌, ◌+◌, ◌<◌, ◌≤◌, ◌^◌, inl, inr, ap, length, subst, sym, ◌∙◌, List, ℕ, arith}
use Rattle.std.proofs.lemmas.Bool.{cases_lt}
use Rattle.std.proofs.lemmas.List.{length-map}
use Rattle.mc_model.specs.Sound.{IsSound}
use Rattle.mc_model.specs.Worlds.{WorldState, box_at}
use Rattle.mc_world.specs.Lanes.{IsLaid}
use Rattle.mc_world.specs.Parts.{parts_state}
use Rattle.mc_world.proofs.LaneChanges.{Lane}
use Rattle.mc_world.proofs.TopologyLanes.{topology_laid}
use Rattle.mc_world.proofs.network.World.from_parts.Goals as goal

-- a box's number is that of its place, and fits, so there are so few of them
number_fits : (world : WorldState) (who : ℕ) → IsSound world → who < length world.boxes → who < 2 ^ 32
number_fits world who sound here =
    let number : (box_at world who).number ≡ who = sound.numbered.boxes who here in
    let address : (box_at world who).number + 1 < 2 ^ 32 = (sound.boxes who here).wired.address in
    omega (arith, number, address)

boxes_few : (world : WorldState) → IsSound world → length world.boxes ≤ 2 ^ 32
boxes_few world sound = elim (cases_lt (2 ^ 32) (length world.boxes)) [
  | inl more ↦ absurd (omega (arith, number_fits world (2 ^ 32) sound more))
  | inr few ↦ few
]

pub of-requires-clause-laid : goal.of-requires-clause-laid
of-requires-clause-laid c =
    subst (λ (n : ℕ). IsLaid c.args.parts.topology n) (length-map c.args.parts.lanes.items (λ (lane : Lane). lane.items) ∙ ap (λ (l : List Lane). length l) (sym c.deref.ensures.value))
    (topology_laid (parts_state c.args.parts) c.args.parts.topology c.requires.frame.0.1 c.requires.sound)

pub of-requires-clause-few : goal.of-requires-clause-few
of-requires-clause-few c = omega (arith, c.requires.frame.0.1.homes, boxes_few (parts_state c.args.parts) c.requires.sound)
