-- What a step keeps, slot by slot: no slot is compared with another.
use Rattle.std.proofs.Common.{◌≡◌, ◌<◌, ◌++◌, ◌⊎◌, inl, inr, ℕ, List, [], ◌∷◌, drop, ap, sym, ◌∙◌, subst}
use Rattle.std.proofs.Math.ListN.{get_or}
use Rattle.mc_signal.specs.declared.Tagged.{Tagged}
use Rattle.mc_slot.specs.Tunnel.{TunnelSound}
use Rattle.mc_box.specs.Boxes.{BoxState, IsBox}
use Rattle.mc_model.specs.Served.{AllServed, LanesServed}
use Rattle.mc_model.specs.Shapes.{HasShape}
use Rattle.mc_model.specs.Sound.{IsNumbered}
use Rattle.mc_box.specs.Acting.{IsSameMake}
use Rattle.mc_laws.specs.Stepped.{LaneGrows, Stepped, SteppedStays, TunnelsSound}
use Rattle.mc_model.specs.Worlds.{ChannelState, WorldState, box_at, far, list_to, place, slot_count, slot_of}
use Rattle.mc_laws.proofs.Acting.{act_keeps, longer, other_side}
use Rattle.mc_laws.proofs.ActedWorlds.{far_inside}
use Rattle.mc_laws.proofs.Numbers.{far_back}
use Rattle.mc_laws.proofs.SentOut.{served_append}

-- the world after a step has the channels of the one before
abbrev pub moved_on : WorldState → List BoxState → List (List Tagged) → WorldState
moved_on world boxes lanes = record world { boxes = boxes; lanes = lanes }

pub after_is : (old new : WorldState) (who : ℕ) → Stepped old new who → new ≡ moved_on old new.boxes new.lanes
after_is old new who stepped = ap (λ (channels : List ChannelState). record new { channels = channels }) stepped.channels

-- ---- tunnels

-- what a slot does leaves its tunnel sound
one_acts : (old new : WorldState) (who s : ℕ) (step : Stepped old new who) → TunnelsSound old → s < slot_count old
    → TunnelSound (slot_of new s) (step.left s) (slot_of old (far s)) (list_to old (far s) ++ step.sent s)
one_acts old new who s step sound inside =
    act_keeps (slot_of old s) (list_to old s) (step.sent s) (slot_of new s) (step.left s) (step.acted s inside) (slot_of old (far s)) (list_to old (far s)) (sound s inside)

-- and then what the slot at its other end does
both_act : (old new : WorldState) (who s : ℕ) (step : Stepped old new who) → TunnelsSound old → s < slot_count old
    → TunnelSound (slot_of new s) (step.left s ++ step.sent (far s)) (slot_of new (far s)) (step.left (far s) ++ step.sent s)
both_act old new who s step sound inside =
    other_side (slot_of new (far s)) (step.left (far s) ++ step.sent s) (slot_of new s) (step.left s ++ step.sent (far s))
    (act_keeps (slot_of old (far s)) (list_to old (far s) ++ step.sent s) (step.sent (far s)) (slot_of new (far s)) (step.left (far s) ++ step.sent s)
    (longer (step.sent s) (slot_of old (far s)) (list_to old (far s)) (step.sent (far s)) (slot_of new (far s)) (step.left (far s)) (step.acted (far s) (far_inside old s inside)))
    (slot_of new s) (step.left s)
    (other_side (slot_of new s) (step.left s) (slot_of old (far s)) (list_to old (far s) ++ step.sent s) (one_acts old new who s step sound inside)))

tunnel_kept : (old new : WorldState) (who s : ℕ) → Stepped old new who → TunnelsSound old → s < slot_count old → TunnelSound (slot_of new s) (list_to new s) (slot_of new (far s)) (list_to new (far s))
tunnel_kept old new who s step sound inside =
    let near : list_to new s ≡ step.left s ++ step.sent (far s) = step.lists s inside in
    let away : list_to new (far s) ≡ step.left (far s) ++ step.sent s = step.lists (far s) (far_inside old s inside) ∙ ap (λ (t : ℕ). step.left (far s) ++ step.sent t) (far_back s) in
    rw (near, away) (both_act old new who s step sound inside)

-- each tunnel stays sound
pub tunnels_stay : (old new : WorldState) (who : ℕ) → Stepped old new who → TunnelsSound old → TunnelsSound new
tunnels_stay old new who step sound =
    subst (λ (w : WorldState). TunnelsSound w) (sym (after_is old new who step))
    (λ s inside. tunnel_kept old (moved_on old new.boxes new.lanes) who s (subst (λ (w : WorldState). Stepped old w who) (after_is old new who step) step) sound inside)

-- each slot keeps its medium and its side, since its tunnel is sound with it before and after
pub slot_stays : (old new : WorldState) (who s : ℕ) → Stepped old new who → TunnelsSound old → s < slot_count old
    → ((slot_of new s).medium ≡ (slot_of old s).medium) × ((slot_of new s).initiator ≡ (slot_of old s).initiator)
slot_stays old new who s step sound inside =
    let before = sound s inside in
    let later = one_acts old new who s step sound inside in
    (later.medium ∙ sym before.medium, later.sides ∙ sym before.sides)

-- ---- numbers

box_stays : (new old : BoxState) → IsSameMake new old → IsBox old → IsBox new
box_stays new old make whole = record {
  goals = make.goals ∙ (whole.goals ∙ sym make.alike.slots);
  media = make.media ∙ (whole.media ∙ sym make.alike.slots);
}

numbered_after : (old : WorldState) (boxes : List BoxState) (lanes : List (List Tagged)) (who : ℕ) → Stepped old (moved_on old boxes lanes) who → TunnelsSound old → IsNumbered old → IsNumbered (moved_on old boxes lanes)
numbered_after old boxes lanes who step sound numbered = record {
  boxes = λ box below. (step.makes box).alike.number ∙ numbered.boxes box (subst (λ (n : ℕ). box < n) step.count below);
  whole = λ box below. box_stays (box_at (moved_on old boxes lanes) box) (box_at old box) (step.makes box) (numbered.whole box (subst (λ (n : ℕ). box < n) step.count below));
  lanes = step.lane_count ∙ numbered.lanes;
  placed = λ s inside. subst (λ (n : ℕ). (place old s).0 < n) (sym step.count) (numbered.placed s inside);
  slots = λ s inside. subst (λ (n : ℕ). (place old s).1 < n) (sym (step.makes (place old s).0).alike.slots) (numbered.slots s inside);
  once = numbered.once;
  all = λ box local below within. numbered.all box local (subst (λ (n : ℕ). box < n) step.count below) (subst (λ (n : ℕ). local < n) (step.makes box).alike.slots within);
  origins = λ s inside. (step.makes (place old s).0).origins (place old s).1 ∙ numbered.origins s inside;
  media = λ s inside. (slot_stays old (moved_on old boxes lanes) who s step sound inside).0 ∙ numbered.media s inside;
  sides = λ s inside. (slot_stays old (moved_on old boxes lanes) who s step sound inside).1 ∙ numbered.sides s inside;
}

-- all stays numbered
pub numbers_stay : (old new : WorldState) (who : ℕ) → Stepped old new who → TunnelsSound old → IsNumbered old → IsNumbered new
numbers_stay old new who step sound numbered =
    subst (λ (w : WorldState). IsNumbered w) (sym (after_is old new who step))
    (numbered_after old new.boxes new.lanes who (subst (λ (w : WorldState). Stepped old w who) (after_is old new who step) step) sound numbered)

-- so does its shape
pub shape_stays : (old new : WorldState) (who : ℕ) → Stepped old new who → HasShape new old
shape_stays old new who step = record { channels = step.channels; boxes = step.count; alike = λ box. (step.makes box).alike }

-- ---- lanes

-- other boxes and lanes don't matter
served_put : (world : WorldState) (boxes : List BoxState) (lanes : List (List Tagged)) (lane : ℕ) (signals : List Tagged)
    → AllServed world lane signals → AllServed (moved_on world boxes lanes) lane signals
served_put world boxes lanes lane [] served = tt
served_put world boxes lanes lane (tagged ∷ rest) served =
    ((served.0.0, record { inside = served.0.1.inside; leads = served.0.1.leads; within = served.0.1.within }), served_put world boxes lanes lane rest served.1)

served_drop : (world : WorldState) (lane : ℕ) (signals : List Tagged) → AllServed world lane signals → AllServed world lane (drop 1 signals)
served_drop world lane [] served = tt
served_drop world lane (tagged ∷ rest) served = served.1

served_left : (world : WorldState) (lane : ℕ) (left old : List Tagged) → (left ≡ old) ⊎ (left ≡ drop 1 old) → AllServed world lane old → AllServed world lane left
served_left world lane left old (inl same) served = subst (λ (l : List Tagged). AllServed world lane l) (sym same) served
served_left world lane left old (inr shorter) served = subst (λ (l : List Tagged). AllServed world lane l) (sym shorter) (served_drop world lane old served)

lane_served : (world : WorldState) (lane : ℕ) (old new : List Tagged) → LaneGrows world lane old new → AllServed world lane old → AllServed world lane new
lane_served world lane old new grows served =
    subst (λ (l : List Tagged). AllServed world lane l) (sym grows.is)
    (served_append world lane grows.left grows.more (served_left world lane grows.left old grows.rest served) grows.served)

-- each signal under way is for a slot of its lane
pub served_stays : (old new : WorldState) (who : ℕ) → Stepped old new who → LanesServed old → LanesServed new
served_stays old new who step served =
    subst (λ (w : WorldState). LanesServed w) (sym (after_is old new who step))
    (λ lane. served_put old new.boxes new.lanes lane (get_or new.lanes lane []) (lane_served old lane (get_or old.lanes lane []) (get_or new.lanes lane []) (step.lanes lane) (served lane)))

-- all together
pub stepped_stays : SteppedStays
stepped_stays old new who step sound numbered served = record {
  tunnels = tunnels_stay old new who step sound;
  numbered = numbers_stay old new who step sound numbered;
  media = λ s inside. (slot_stays old new who s step sound inside).0;
  sides = λ s inside. (slot_stays old new who s step sound inside).1;
  served = served_stays old new who step served;
  shape = shape_stays old new who step;
}
