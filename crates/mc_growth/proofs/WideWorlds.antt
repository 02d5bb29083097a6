-- What a world does it does with one channel more, too.
use Rattle.std.proofs.Common.{◌≡◌, ◌≢◌, ◌<◌, ◌+◌, ◌*◌, ◌%◌, ◌/◌, inl, inr, ℕ, zero, suc, List, [], ◌∷◌, ◌++◌, length, drop, refl, ap, sym, ◌∙◌, subst, arith}
use Rattle.std.proofs.Math.ListN.{get_or, set}
use Rattle.std.proofs.lemmas.Bool.{cases_eq}
use Rattle.std.proofs.lemmas.List.{get_or-set_same, get_or-set_other, get_or_append_left, length-set}
use Rattle.mc_signal.specs.declared.Signal.{Signal}
use Rattle.mc_signal.specs.declared.Tagged.{Tagged}
use Rattle.mc_box.specs.Boxes.{BoxState, no_box, with_new_slot}
use Rattle.mc_box.specs.declared.setup.SlotSetup.{SlotSetup}
use Rattle.mc_model.specs.Steps.{after_pop, after_push, with_lane}
use Rattle.mc_model.specs.Worlds.{ChannelState, TunnelPlace, WorldState, lane_of, lane_to, no_tunnel, places_among, slot_count, tunnel_of, tunnels_from}
use Rattle.mc_growth.proofs.Lists.{defaults_added, tunnels_append}
use Rattle.mc_laws.proofs.TunnelPlaces.{two_each}

-- the boxes with one slot more each
abbrev pub boxes_with : SlotSetup → SlotSetup → (from to : ℕ) → List BoxState → List BoxState
boxes_with one two from to boxes = set (set boxes from (with_new_slot (get_or boxes from no_box) one)) to (with_new_slot (get_or boxes to no_box) two)

-- a world, joined by these setups and this channel
abbrev pub widened : SlotSetup → SlotSetup → (from to : ℕ) → ChannelState → WorldState → WorldState
widened one two from to ends world = record { boxes = boxes_with one two from to world.boxes; channels = world.channels ++ ends ∷ []; lanes = world.lanes ++ [] ∷ [] ∷ [] }

-- ---- lanes

set_two : {X : Type 0} (xs : List X) (y z x : X) (i : ℕ) → i < length xs → set (xs ++ y ∷ z ∷ []) i x ≡ set xs i x ++ y ∷ z ∷ []
set_two [] y z x i below = absurd (omega arith)
set_two (a ∷ as_) y z x zero below = refl
set_two (a ∷ as_) y z x (suc i) below = ap (λ (l : List _). a ∷ l) (set_two as_ y z x i (omega arith))

lane_widened : (one two : SlotSetup) (from to : ℕ) (ends : ChannelState) (world : WorldState) (lane : ℕ) (signals : List Tagged) → lane < length world.lanes
    → with_lane (widened one two from to ends world) lane signals ≡ widened one two from to ends (with_lane world lane signals)
lane_widened one two from to ends world lane signals below =
    ap (λ (l : List (List Tagged)). record (widened one two from to ends world) { lanes = l }) (set_two world.lanes [] [] signals lane below)

-- ---- boxes

same_boxes : (xs ys : List BoxState) → length xs ≡ length ys → ((i : ℕ) → i < length ys → get_or xs i no_box ≡ get_or ys i no_box) → xs ≡ ys
same_boxes [] [] size each = refl
same_boxes [] (y ∷ ys) size each = absurd (omega (arith, size))
same_boxes (x ∷ xs) [] size each = absurd (omega (arith, size))
same_boxes (x ∷ xs) (y ∷ ys) size each =
    ap (λ (z : BoxState). z ∷ xs) (each 0 (omega arith)) ∙ ap (λ (l : List BoxState). y ∷ l) (same_boxes xs ys (omega (arith, size)) (λ i inside. each (suc i) (omega (arith, inside))))

pub long : (one two : SlotSetup) (from to : ℕ) (boxes : List BoxState) → length (boxes_with one two from to boxes) ≡ length boxes
long one two from to boxes =
    length-set (set boxes from (with_new_slot (get_or boxes from no_box) one)) to (with_new_slot (get_or boxes to no_box) two) ∙ length-set boxes from (with_new_slot (get_or boxes from no_box) one)

pub at_from : (one two : SlotSetup) (from to : ℕ) (boxes : List BoxState) → from ≢ to → from < length boxes → get_or (boxes_with one two from to boxes) from no_box ≡ with_new_slot (get_or boxes from no_box) one
at_from one two from to boxes apart here =
    get_or-set_other (set boxes from (with_new_slot (get_or boxes from no_box) one)) to from (with_new_slot (get_or boxes to no_box) two) no_box apart
    ∙ get_or-set_same boxes from (with_new_slot (get_or boxes from no_box) one) no_box here

pub at_to : (one two : SlotSetup) (from to : ℕ) (boxes : List BoxState) → to < length boxes → get_or (boxes_with one two from to boxes) to no_box ≡ with_new_slot (get_or boxes to no_box) two
at_to one two from to boxes here =
    get_or-set_same (set boxes from (with_new_slot (get_or boxes from no_box) one)) to (with_new_slot (get_or boxes to no_box) two) no_box
    (subst (λ (n : ℕ). to < n) (sym (length-set boxes from (with_new_slot (get_or boxes from no_box) one))) here)

pub at_else : (one two : SlotSetup) (from to who : ℕ) (boxes : List BoxState) → who ≢ from → who ≢ to → get_or (boxes_with one two from to boxes) who no_box ≡ get_or boxes who no_box
at_else one two from to who boxes near away =
    get_or-set_other (set boxes from (with_new_slot (get_or boxes from no_box) one)) to who (with_new_slot (get_or boxes to no_box) two) no_box away
    ∙ get_or-set_other boxes from who (with_new_slot (get_or boxes from no_box) one) no_box near

-- a box at its place after another is put
put_at : (one two : SlotSetup) (from to who i : ℕ) (boxes : List BoxState) (after new : BoxState) → from ≢ to → from < length boxes → to < length boxes → who < length boxes
    → new ≡ get_or (boxes_with one two from to (set boxes who after)) who no_box
    → get_or (set (boxes_with one two from to boxes) who new) i no_box ≡ get_or (boxes_with one two from to (set boxes who after)) i no_box
put_at one two from to who i boxes after new apart near away here is = elim (cases_eq i who) [
  | inl same ↦
      ap (λ (n : ℕ). get_or (set (boxes_with one two from to boxes) who new) n no_box) same
      ∙ (get_or-set_same (boxes_with one two from to boxes) who new no_box (subst (λ (n : ℕ). who < n) (sym (long one two from to boxes)) here)
      ∙ (is ∙ ap (λ (n : ℕ). get_or (boxes_with one two from to (set boxes who after)) n no_box) (sym same)))
  | inr other ↦
      let size = length-set boxes who after in
      get_or-set_other (boxes_with one two from to boxes) who i new no_box other ∙ (elim (cases_eq i from) [
        | inl same ↦
            subst (λ (n : ℕ). n ≢ who → get_or (boxes_with one two from to boxes) n no_box ≡ get_or (boxes_with one two from to (set boxes who after)) n no_box) (sym same)
            (λ away_from.
            at_from one two from to boxes apart near
            ∙ (ap (λ (b : BoxState). with_new_slot b one) (sym (get_or-set_other boxes who from after no_box away_from))
            ∙ sym (at_from one two from to (set boxes who after) apart (subst (λ (n : ℕ). from < n) (sym size) near)))) other
        | inr not_from ↦ elim (cases_eq i to) [
          | inl same ↦
              subst (λ (n : ℕ). n ≢ who → get_or (boxes_with one two from to boxes) n no_box ≡ get_or (boxes_with one two from to (set boxes who after)) n no_box) (sym same)
              (λ away_from.
              at_to one two from to boxes away
              ∙ (ap (λ (b : BoxState). with_new_slot b two) (sym (get_or-set_other boxes who to after no_box away_from))
              ∙ sym (at_to one two from to (set boxes who after) (subst (λ (n : ℕ). to < n) (sym size) away)))) other
          | inr not_to ↦
              at_else one two from to i boxes not_from not_to
              ∙ (sym (get_or-set_other boxes who i after no_box other) ∙ sym (at_else one two from to i (set boxes who after) not_from not_to))
        ]
      ])
]

-- a box put in its place, with one slot more where it is one of the two
pub put_widened : (one two : SlotSetup) (from to who : ℕ) (boxes : List BoxState) (after new : BoxState) → from ≢ to → from < length boxes → to < length boxes → who < length boxes
    → new ≡ get_or (boxes_with one two from to (set boxes who after)) who no_box
    → set (boxes_with one two from to boxes) who new ≡ boxes_with one two from to (set boxes who after)
put_widened one two from to who boxes after new apart near away here is =
    let size = length-set boxes who after in
    same_boxes (set (boxes_with one two from to boxes) who new) (boxes_with one two from to (set boxes who after))
    (length-set (boxes_with one two from to boxes) who new ∙ (long one two from to boxes ∙ (sym size ∙ sym (long one two from to (set boxes who after)))))
    (λ i inside. put_at one two from to who i boxes after new apart near away here is)

-- ---- sendings

-- a slot that was there has its tunnel, whichever channel comes after
tunnel_among : (channels : List ChannelState) (ends : ChannelState) (s : ℕ) → s < length (places_among channels)
    → get_or (tunnels_from 0 (channels ++ ends ∷ [])) (s / 2) no_tunnel ≡ get_or (tunnels_from 0 channels) (s / 2) no_tunnel
tunnel_among channels ends s below =
    ap (λ (l : List TunnelPlace). get_or l (s / 2) no_tunnel) (tunnels_append channels (ends ∷ []) 0 (length channels) (omega arith))
    ∙ get_or_append_left (tunnels_from 0 channels) (tunnels_from (length channels) (ends ∷ [])) no_tunnel (s / 2) (half_of s (length (tunnels_from 0 channels)) (subst (λ (n : ℕ). s < n) (two_each channels 0) below))
  where
    half_of : (s n : ℕ) → s < 2 * n → s / 2 < n
    half_of s n below = omega arith

pub tunnel_wide : (one two : SlotSetup) (from to : ℕ) (ends : ChannelState) (world : WorldState) (s : ℕ) → s < slot_count world → tunnel_of (widened one two from to ends world) s ≡ tunnel_of world s
tunnel_wide one two from to ends world s below = tunnel_among world.channels ends s below

pub push_widened : (one two : SlotSetup) (from to : ℕ) (ends : ChannelState) (world : WorldState) (signal : Signal) (s : ℕ) → s < slot_count world → lane_of world s < length world.lanes
    → after_push (widened one two from to ends world) signal s ≡ widened one two from to ends (after_push world signal s)
push_widened one two from to ends world signal s below lane =
    let tunnel = tunnel_wide one two from to ends world s below in
    ap (λ (t : TunnelPlace). with_lane (widened one two from to ends world) (2 * t.channel + s % 2) (get_or (world.lanes ++ [] ∷ [] ∷ []) (2 * t.channel + s % 2) [] ++ record { tunnel = t.within; signal = signal } ∷ [])) tunnel
    ∙ (ap (λ (l : List Tagged). with_lane (widened one two from to ends world) (lane_of world s) (l ++ record { tunnel = (tunnel_of world s).within; signal = signal } ∷ [])) (defaults_added world.lanes [] (lane_of world s))
    ∙ lane_widened one two from to ends world (lane_of world s) (lane_to world s ++ record { tunnel = (tunnel_of world s).within; signal = signal } ∷ []) lane)

-- the front leaves its lane
pub pop_widened : (one two : SlotSetup) (from to : ℕ) (ends : ChannelState) (world : WorldState) (s : ℕ) → s < slot_count world → lane_of world s < length world.lanes
    → after_pop (widened one two from to ends world) s ≡ widened one two from to ends (after_pop world s)
pop_widened one two from to ends world s below lane =
    let tunnel = tunnel_wide one two from to ends world s below in
    ap (λ (t : TunnelPlace). with_lane (widened one two from to ends world) (2 * t.channel + s % 2) (drop 1 (get_or (world.lanes ++ [] ∷ [] ∷ []) (2 * t.channel + s % 2) []))) tunnel
    ∙ (ap (λ (l : List Tagged). with_lane (widened one two from to ends world) (lane_of world s) (drop 1 l)) (defaults_added world.lanes [] (lane_of world s))
    ∙ lane_widened one two from to ends world (lane_of world s) (drop 1 (lane_to world s)) lane)
