-- A step of a sound world leads to a sound world, and so does a run.
use Rattle.std.proofs.Common.{◌≡◌, ◌<◌, inl, inr, ℕ, Some, IsSome, List, [], ◌∷◌, length, sym, subst, arith}
use Rattle.std.proofs.lemmas.Bool.{cases_eq}
use Rattle.mc_signal.specs.declared.Signal.{Signal}
use Rattle.mc_signal.specs.declared.Tagged.{Tagged}
use Rattle.mc_slot.specs.Moves.{slot_take}
use Rattle.mc_slot.specs.Tunnel.{TunnelSound}
use Rattle.mc_slot.specs.declared.Slot.{Slot}
use Rattle.mc_box.specs.BoxSound.{IsSoundBox}
use Rattle.mc_box.specs.Boxes.{BoxState}
use Rattle.mc_model.specs.Sound.{IsSound}
use Rattle.mc_laws.specs.StepLaws.{StepKeepsSound, RunKeepsSound, FrontIsTaken}
use Rattle.mc_model.specs.Steps.{run, step}
use Rattle.mc_model.specs.Worlds.{WorldState, box_at, far, for_tunnel, tunnel_of, lane_to, list_to, slot_of}
use Rattle.mc_box.specs.declared.event.Event.{Event}
use Rattle.mc_box.specs.declared.event.Turn.{Turn}
use Rattle.mc_laws.proofs.LanesKept.{front_next}
use Rattle.mc_laws.proofs.StepActs.{Turned, step_turns}
use Rattle.mc_box.proofs.Options.{then_some}
use Rattle.mc_laws.proofs.SteppedKeeps.{after_is, numbers_stay, served_stays, tunnels_stay}
pub use Rattle.mc_laws.proofs.Numbers.{box_inside, slot_inside}

-- ---- a step

-- each box is sound: the one that acted by what it did, and the others as before
box_sound : (world : WorldState) (boxes : List BoxState) (lanes : List (List Tagged)) (who box : ℕ) (event : Event) → IsSound world → Turned world (record world { boxes = boxes; lanes = lanes }) who event → box < length world.boxes
    → IsSoundBox (box_at (record world { boxes = boxes; lanes = lanes }) box)
box_sound world boxes lanes who box event sound turned below = elim (cases_eq box who) [
  | inl is ↦ subst (λ (b : ℕ). IsSoundBox (box_at (record world { boxes = boxes; lanes = lanes }) b)) (sym is) turned.sound
  | inr away ↦ subst (λ (b : BoxState). IsSoundBox b) (sym (turned.stepped.boxes box away)) (sound.boxes box below)
]

turned_sound : (world next : WorldState) (who : ℕ) (event : Event) → IsSound world → Turned world next who event → IsSound next
turned_sound world next who event sound turned = record {
  tunnels = tunnels_stay world next who turned.stepped sound.tunnels;
  boxes = subst (λ (w : WorldState). (box : ℕ) → box < length w.boxes → IsSoundBox (box_at w box)) (sym (after_is world next who turned.stepped))
      (λ box below. box_sound world next.boxes next.lanes who box event sound (subst (λ (w : WorldState). Turned world w who event) (after_is world next who turned.stepped) turned)
      (subst (λ (n : ℕ). box < n) turned.stepped.count below));
  numbered = numbers_stay world next who turned.stepped sound.tunnels sound.numbered;
  served = served_stays world next who turned.stepped sound.served;
}

pub step_keeps_sound : StepKeepsSound
step_keeps_sound world next turn sound goes = turned_sound world next turn.who turn.event sound (step_turns world next turn sound goes)

-- one step after another
run_by : (turns : List Turn) (world next : WorldState) → IsSound world → run world turns ≡ Some next → IsSound next
run_by [] world next sound goes = let same : world ≡ next = cc in subst (λ (w : WorldState). IsSound w) same sound
run_by (turn ∷ turns) world next sound goes =
    let one = then_some (λ (w : WorldState). run w turns) (step world turn) next goes in
    run_by turns one.0 next (step_keeps_sound world one.0 turn sound one.1) one.2

pub run_keeps_sound : RunKeepsSound
run_keeps_sound world next turns sound goes = run_by turns world next sound goes

-- ---- fronts

lawful : (a : Slot) (signal : Signal) (to_a : List Signal) (b : Slot) (to_b : List Signal) → TunnelSound a (signal ∷ to_a) b to_b → IsSome (slot_take a signal)
lawful a signal to_a b to_b sound = grind (arith)

pub front_is_taken : FrontIsTaken
front_is_taken world s signal sound inside fronts =
    let next = (front_next (tunnel_of world s).within signal (lane_to world s) fronts).next in
    lawful (slot_of world s) signal (for_tunnel (tunnel_of world s).within _) (slot_of world (far s)) (list_to world (far s))
    (subst (λ (l : List Signal). TunnelSound (slot_of world s) l (slot_of world (far s)) (list_to world (far s))) next (sound.tunnels s inside))
