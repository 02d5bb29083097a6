-- The world that a plan lays out is numbered, and its boxes are new.
use Rattle.std.proofs.Common.{◌≡◌, ◌+◌, ◌*◌, ◌/◌, ◌%◌, ◌<◌, ◌≤◌, ◌==◌, ℕ, zero, suc, true, None, List, [], ◌∷◌, length, map, refl, ap, sym, ◌∙◌, subst, arith, zero-add}
use Rattle.std.proofs.Math.ListN.{get_or}
use Rattle.std.proofs.lemmas.List.{get_or-map, length-map, length-replicate}
use Rattle.mc_signal.specs.declared.Medium.TheVariants.{Audio}
use Rattle.mc_slot.specs.declared.Slot.{Slot}
use Rattle.mc_box.specs.Boxes.{BoxState, IsBox, IsNewBox, first_goal, first_media, first_slot, media_at, no_box, no_media, no_slot, slot_at}
use Rattle.mc_box.specs.declared.setup.SlotMedia.{SlotMedia}
use Rattle.mc_box.specs.declared.setup.SlotSetup.{SlotSetup}
use Rattle.mc_model.specs.Sound.{AreNew, IsNumbered}
use Rattle.mc_model.specs.Worlds.{ChannelState, TunnelPlace, WorldState, box_at, tunnel_of, tunnels_from, no_tunnel, place, places_among, slot_count}
use Rattle.mc_box.proofs.NewBoxes.{first_is_new}
use Rattle.mc_plan.specs.LaidOut.{IsLaidOut, place_at}
use Rattle.mc_plan.specs.PlanLaws.{PlansAreNumbered, PlansAreUnprogrammed, PlansStaySound}
use Rattle.mc_plan.specs.Plans.{PlanState, box_from, boxes_from, slots_of, world_of}
use Rattle.mc_plan.specs.Setups.{setups_of}
use Rattle.mc_plan.specs.declared.plan.BoxPlan.{BoxPlan}
use Rattle.mc_plan.proofs.Picks.{SlotIs, length_setups, setup_of_slot}
use Rattle.mc_plan.proofs.Places.{each_found, found_once, local_inside, same_box}
use Rattle.mc_laws.proofs.NewWorlds.{first_is_sound}
use Rattle.mc_laws.proofs.StepKeeps.{run_keeps_sound}

-- ---- the boxes

-- a box that is made from its plan
record Made (channels : List ChannelState) (who : ℕ) (box : BoxState) : Type 0 where
  planned : BoxPlan
  is : box ≡ box_from channels who planned

-- each of the boxes is
made_from : (channels : List ChannelState) (plans : List BoxPlan) (first i : ℕ) → i < length plans → Made channels (first + i) (get_or (boxes_from channels first plans) i no_box)
made_from channels [] first i inside = absurd (omega arith)
made_from channels (planned ∷ plans) first zero inside =
    let same : first ≡ first + zero = omega arith in
    record { planned = planned; is = ap (λ (n : ℕ). box_from channels n planned) same }
made_from channels (planned ∷ plans) first (suc i) inside =
    let next : first + 1 + i ≡ first + suc i = omega arith in
    subst (λ (n : ℕ). Made channels n (get_or (boxes_from channels (first + 1) plans) i no_box)) next (made_from channels plans (first + 1) i (omega arith))

-- one for each plan
pub length_boxes : (channels : List ChannelState) (plans : List BoxPlan) (first : ℕ) → length (boxes_from channels first plans) ≡ length plans
length_boxes channels [] first = refl
length_boxes channels (planned ∷ plans) first = ap suc (length_boxes channels plans (first + 1))

-- each box of the world
box_made : (plan : PlanState) (who : ℕ) → who < length plan.boxes → Made plan.channels who (box_at (world_of plan) who)
box_made plan who inside = subst (λ (n : ℕ). Made plan.channels n (box_at (world_of plan) who)) (zero-add who) (made_from plan.channels plan.boxes 0 who inside)

-- each slot of it has its goal and its media
whole_from : (channels : List ChannelState) (who : ℕ) (planned : BoxPlan) → IsBox (box_from channels who planned)
whole_from channels who planned =
    let setups : List SlotSetup = setups_of channels who in
    let slots : length (map first_slot (setups_of channels who)) ≡ length (setups_of channels who) = length-map setups first_slot in
    record { goals = length-map setups first_goal ∙ sym slots; media = length-map setups (first_media planned.first_version) ∙ sym slots }

-- a box has as many slots as lead to it
slots_from : (channels : List ChannelState) (who : ℕ) (planned : BoxPlan) → length (box_from channels who planned).slots ≡ slots_of channels who
slots_from channels who planned = length-map (setups_of channels who) first_slot ∙ length_setups channels who

-- it is new, within the limits
new_from : (channels : List ChannelState) (who : ℕ) (planned : BoxPlan) → slots_of channels who ≤ 64 → who < 262144 → IsNewBox (box_from channels who planned)
new_from channels who planned few below =
    first_is_new planned.kind who planned.codecs planned.sends planned.first_version (setups_of channels who) None
    (subst (λ (n : ℕ). n ≤ 64) (sym (length_setups channels who)) few) (omega arith) tt

-- ---- the slots

-- what stands where no setup is
no_setup : SlotSetup
no_setup = record { origin = 0; medium = Audio; initiator = true; address = None }

-- a slot of a box is as its setup says
record IsSetUp (box : BoxState) (local : ℕ) (setup : SlotSetup) : Type 0 where
  origin : (media_at box local).origin ≡ setup.origin
  medium : (slot_at box local).medium ≡ setup.medium
  side : (slot_at box local).initiator ≡ setup.initiator

-- each slot is
set_up : (channels : List ChannelState) (who : ℕ) (planned : BoxPlan) (local : ℕ) → local < length (setups_of channels who) → IsSetUp (box_from channels who planned) local (get_or (setups_of channels who) local no_setup)
set_up channels who planned local inside =
    let setups : List SlotSetup = setups_of channels who in
    let slot : get_or (map first_slot (setups_of channels who)) local no_slot ≡ first_slot (get_or (setups_of channels who) local no_setup) = get_or-map first_slot setups local no_setup no_slot inside in
    record {
      origin = ap (λ (media : SlotMedia). media.origin) (get_or-map (first_media planned.first_version) setups local no_setup no_media inside);
      medium = ap (λ (a : Slot). a.medium) slot;
      side = ap (λ (a : Slot). a.initiator) slot;
    }

-- what a numbered world asks of one slot
record SlotFits (world : WorldState) (box : BoxState) (s : ℕ) : Type 0 where
  inside : (place world s).1 < length box.slots
  origin : (media_at box (place world s).1).origin ≡ s
  medium : (slot_at box (place world s).1).medium ≡ (tunnel_of world s).medium
  side : (slot_at box (place world s).1).initiator ≡ (s % 2 == 0)

-- each slot of a box that is made from its plan
fits_from : (plan : PlanState) (s : ℕ) (planned : BoxPlan) → IsLaidOut plan → s < slot_count (world_of plan)
    → SlotFits (world_of plan) (box_from plan.channels (place (world_of plan) s).0 planned) s
fits_from plan s planned laid inside =
    let places : List (ℕ × ℕ) = places_among plan.channels in
    let who : ℕ = (place_at (places_among plan.channels) s).0 in
    let local : ℕ = (place_at (places_among plan.channels) s).1 in
    let tunnel : TunnelPlace = get_or (tunnels_from 0 plan.channels) (s / 2) no_tunnel in
    let below : (place_at (places_among plan.channels) s).1 < slots_of plan.channels (place_at (places_among plan.channels) s).0 = local_inside places s laid.ordered inside in
    let is : SlotIs (get_or (setups_of plan.channels who) local no_setup) s tunnel s =
    subst (λ (n : ℕ). SlotIs (get_or (setups_of plan.channels who) n no_setup) s tunnel s) (sym (laid.ordered s inside)) (setup_of_slot plan.channels who s no_setup inside (same_box who)) in
    let there : IsSetUp (box_from plan.channels who planned) local (get_or (setups_of plan.channels who) local no_setup) =
    set_up plan.channels who planned local (subst (λ (n : ℕ). local < n) (sym (length_setups plan.channels who)) below) in
    record {
      inside = subst (λ (n : ℕ). local < n) (sym (slots_from plan.channels who planned)) below;
      origin = there.origin ∙ is.origin_is;
      medium = there.medium ∙ is.medium_is;
      side = there.side ∙ is.side_is;
    }

-- each slot of the world
slot_fits : (plan : PlanState) (s : ℕ) → IsLaidOut plan → s < slot_count (world_of plan) → SlotFits (world_of plan) (box_at (world_of plan) (place (world_of plan) s).0) s
slot_fits plan s laid inside =
    let made : Made plan.channels (place (world_of plan) s).0 (box_at (world_of plan) (place (world_of plan) s).0) = box_made plan (place (world_of plan) s).0 (laid.there s inside) in
    subst (λ (box : BoxState). SlotFits (world_of plan) box s) (sym made.is) (fits_from plan s made.planned laid inside)

-- ---- the world

-- there is a plan for each box
there_are : (plan : PlanState) (who : ℕ) → who < length (world_of plan).boxes → who < length plan.boxes
there_are plan who below = subst (λ (n : ℕ). who < n) (length_boxes plan.channels plan.boxes 0) below

-- a box has its number
numbered_boxes : (plan : PlanState) (who : ℕ) → who < length plan.boxes → (box_at (world_of plan) who).number ≡ who
numbered_boxes plan who below = ap (λ (box : BoxState). box.number) (box_made plan who below).is

-- and is whole
whole_boxes : (plan : PlanState) (who : ℕ) → who < length plan.boxes → IsBox (box_at (world_of plan) who)
whole_boxes plan who below =
    let made : Made plan.channels who (box_at (world_of plan) who) = box_made plan who below in
    subst IsBox (sym made.is) (whole_from plan.channels who made.planned)

-- its slots are those that lead to it
pub box_slots : (plan : PlanState) (who : ℕ) → who < length plan.boxes → length (box_at (world_of plan) who).slots ≡ slots_of plan.channels who
box_slots plan who below =
    let made : Made plan.channels who (box_at (world_of plan) who) = box_made plan who below in
    ap (λ (box : BoxState). length box.slots) made.is ∙ slots_from plan.channels who made.planned

-- what a laid-out plan gives is numbered
pub laid_out_is_numbered : (plan : PlanState) → IsLaidOut plan → IsNumbered (world_of plan)
laid_out_is_numbered plan laid = record {
  boxes = λ who below. numbered_boxes plan who (there_are plan who below);
  whole = λ who below. whole_boxes plan who (there_are plan who below);
  lanes = length-replicate (2 * length plan.channels) [];
  placed = λ s inside. subst (λ (n : ℕ). (place (world_of plan) s).0 < n) (sym (length_boxes plan.channels plan.boxes 0)) (laid.there s inside);
  slots = λ s inside. (slot_fits plan s laid inside).inside;
  once = λ s inside. found_once (places_among plan.channels) s laid.ordered inside;
  all = λ who local below inside. each_found (places_among plan.channels) who local laid.ordered (subst (λ (n : ℕ). local < n) (box_slots plan who (there_are plan who below)) inside);
  origins = λ s inside. (slot_fits plan s laid inside).origin;
  media = λ s inside. (slot_fits plan s laid inside).medium;
  sides = λ s inside. (slot_fits plan s laid inside).side;
}

-- each box is new
new_boxes : (plan : PlanState) (who : ℕ) → IsLaidOut plan → who < length plan.boxes → IsNewBox (box_at (world_of plan) who)
new_boxes plan who laid below =
    let made : Made plan.channels who (box_at (world_of plan) who) = box_made plan who below in
    subst IsNewBox (sym made.is) (new_from plan.channels who made.planned (laid.slots who) (omega (arith, laid.boxes)))

-- all of them are
pub laid_out_is_new : (plan : PlanState) → IsLaidOut plan → AreNew (world_of plan).boxes
laid_out_is_new plan laid = λ who below. new_boxes plan who laid (there_are plan who below)

-- none has a program
unprogrammed_from : (channels : List ChannelState) (plans : List BoxPlan) (first who : ℕ) → (get_or (boxes_from channels first plans) who no_box).program ≡ None
unprogrammed_from channels [] first who = refl
unprogrammed_from channels (planned ∷ plans) first zero = refl
unprogrammed_from channels (planned ∷ plans) first (suc who) = unprogrammed_from channels plans (first + 1) who

pub plans_are_unprogrammed : PlansAreUnprogrammed
plans_are_unprogrammed plan who = unprogrammed_from plan.channels plan.boxes 0 who

-- the law
pub plans_are_numbered : PlansAreNumbered
plans_are_numbered plan laid = (laid_out_is_new plan laid, laid_out_is_numbered plan laid)

-- and what runs lead to stays sound
pub plans_stay_sound : PlansStaySound
plans_stay_sound plan turns next laid goes =
    run_keeps_sound (world_of plan) next turns (first_is_sound (world_of plan).boxes plan.channels (laid_out_is_new plan laid) (laid_out_is_numbered plan laid)) goes
