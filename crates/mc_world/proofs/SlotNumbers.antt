-- The numbers of a box's slots: its descriptors have them as origins.
use Rattle.std.proofs.Common.{◌≡◌, ◌<◌, ◌≤◌, ◌+◌, ◌++◌, inl, inr, ℕ, List, [], ◌∷◌, Option, Some, None, length, map, take, get_or, refl, ap, sym, ◌∙◌, subst, arith}
use Rattle.std.specs.List.{slice_get}
use Rattle.std.proofs.Math.ListN.{get_or-eq_default, get_or-map}
use Rattle.std.proofs.lemmas.Bool.{cases_lt}
use Rattle.std.proofs.lemmas.List.{length-map, take_more}
use Rattle.std.proofs.lemmas.Option.{get_or_from_slice_get, slice_get-get_or, slice_get_past, slice_get_within}
use Rattle.mc_box.specs.Boxes.{BoxState, IsBox, media_at, no_box, no_media, own, own_of}
use Rattle.mc_box.specs.declared.event.Kind.{Kind}
use Rattle.mc_box.specs.declared.event.Kind.TheVariants.{Device, Feature}
use Rattle.mc_box.specs.declared.setup.SlotMedia.{SlotMedia}
use Rattle.mc_world.specs.Lanes.{HasRoom, HasRoomFor, lane_by, numbers_of, origins}
use Rattle.mc_model.specs.Sound.{IsNumbered}
use Rattle.mc_model.specs.Worlds.{WorldState, box_at, far, number, place}
use Rattle.mc_world.specs.declared.topology.Topology.{Topology}
use Rattle.mc_world.proofs.LaneChanges.{Lane}
use Rattle.mc_laws.proofs.Numbers.{number_is}

-- ---- origins of a box

own_origin : (kind : Kind) (box : BoxState) (media : SlotMedia) (local : ℕ) → (own_of kind box media local).origin ≡ media.origin
own_origin Device box media local = refl
own_origin Feature box media local = refl

-- the origins of one slot more
pub origins_more : (box : BoxState) (local origin : ℕ) → IsBox box → local < length box.slots → origin ≡ (own box local).origin → take (local + 1) (origins box) ≡ take local (origins box) ++ origin ∷ []
origins_more box local origin whole inside is =
    let within : local < length (origins box) = omega (arith, inside, whole.media, length-map box.media (λ (media : SlotMedia). media.origin)) in
    let last : get_or (origins box) local 0 ≡ origin = get_or-map (λ (media : SlotMedia). media.origin) box.media local no_media ∙ (sym (own_origin box.kind box (media_at box local) local) ∙ sym is) in
    take_more (origins box) local 0 within ∙ ap (λ (n : ℕ). take local (origins box) ++ n ∷ []) last

-- ---- and of all boxes

-- a slot that is there has its origin as number
pub by_origin : (world : WorldState) (who local : ℕ) → IsNumbered world → who < length world.boxes → local < length (box_at world who).slots
    → number world who local ≡ Some (media_at (box_at world who) local).origin
by_origin world who local numbered here inside =
    let there = numbered.all who local here inside in
    let once : number world who local ≡ Some there.0 = subst (λ (p : ℕ × ℕ). number world p.0 p.1 ≡ Some there.0) there.2 (numbered.once there.0 there.1) in
    let origin : (media_at (box_at world who) local).origin ≡ there.0 = subst (λ (p : ℕ × ℕ). (media_at (box_at world p.0) p.1).origin ≡ there.0) there.2 (numbered.origins there.0 there.1) in
    once ∙ ap Some (sym origin)

pub none_by : (o : Option ℕ) → ((s : ℕ) → o ≡ Some s → ⊥) → o ≡ None
none_by None never = refl
none_by (Some s) never = absurd (never s refl)

-- where there is no box, or no slot of it, there is no number
none_outside : (world : WorldState) (who local : ℕ) → IsNumbered world → length world.boxes ≤ who → number world who local ≡ None
none_outside world who local numbered outside = none_by (number world who local) (λ s is. let at = number_is world who local s is in let placed = numbered.placed s at.0 in omega (arith, at.1, placed, outside))

none_beyond : (world : WorldState) (who local : ℕ) → IsNumbered world → length (box_at world who).slots ≤ local → number world who local ≡ None
none_beyond world who local numbered beyond = none_by (number world who local) (λ s is.
    let at = number_is world who local s is in
    let inside : (place world s).1 < length (box_at world who).slots = subst (λ (n : ℕ). (place world s).1 < length (box_at world n).slots) at.1 (numbered.slots s at.0) in
    omega (arith, at.2, inside, beyond))

-- so numbers are found among the origins of a box
pub origins_found : (world : WorldState) (who local : ℕ) → IsNumbered world → slice_get (origins (box_at world who)) local ≡ number world who local
origins_found world who local numbered = elim (cases_lt who (length world.boxes)) [
  | inl here ↦ elim (cases_lt local (length (box_at world who).slots)) [
    | inl inside ↦
        let within : local < length (origins (box_at world who)) =
        omega (arith, inside, (numbered.whole who here).media, length-map (box_at world who).media (λ (media : SlotMedia). media.origin)) in
        slice_get-get_or (origins (box_at world who)) local 0 within
        ∙ (ap Some (get_or-map (λ (media : SlotMedia). media.origin) (box_at world who).media local no_media) ∙ sym (by_origin world who local numbered here inside))
    | inr beyond ↦
        slice_get_past (origins (box_at world who)) local
        (omega (arith, beyond, (numbered.whole who here).media, length-map (box_at world who).media (λ (media : SlotMedia). media.origin)))
        ∙ sym (none_beyond world who local numbered beyond)
  ]
  | inr outside ↦
      ap (λ (box : BoxState). slice_get (origins box) local) (get_or-eq_default world.boxes no_box outside) ∙ sym (none_outside world who local numbered outside)
]

-- and of the boxes of a table
pub found_by : (world : WorldState) (topology : Topology) (who local : ℕ) → IsNumbered world → map (λ numbers. numbers.items) topology.numbers.items ≡ map origins world.boxes
    → slice_get (numbers_of topology who) local ≡ number world who local
found_by world topology who local numbered are =
    let home : numbers_of topology who ≡ origins (box_at world who) = ap (λ (l : List (List ℕ)). get_or l who []) are ∙ get_or-map origins world.boxes who no_box in
    ap (λ (l : List ℕ). slice_get l local) home ∙ origins_found world who local numbered

-- ---- lanes away from a box

-- room in the lane away from each of a box's numbers is room away from each of its slots
pub room_from : (lanes : List Lane) (topology : Topology) (who most : ℕ) → ((local : ℕ) → local < length (numbers_of topology who) → HasRoom lanes (lane_by topology (far (get_or (numbers_of topology who) local 0))) most)
    → (local : ℕ) → HasRoomFor lanes topology who local most
room_from lanes topology who most room local s is =
    subst (λ (t : ℕ). HasRoom lanes (lane_by topology (far t)) most) (get_or_from_slice_get (numbers_of topology who) local s 0 is) (room local (slice_get_within (numbers_of topology who) local s is))
