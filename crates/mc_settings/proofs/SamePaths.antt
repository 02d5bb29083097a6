-- Worlds that are alike have the same paths and rings.
use Rattle.std.proofs.Common.{◌≡◌, ◌<◌, ◌+◌, if◌then◌else◌, ℕ, suc, Bool, List, [], ◌∷◌, Option, Some, None, length, refl, ap, sym, ◌∙◌, subst}
use Rattle.std.specs.List.{cons_option, enumerate_from, filter_map, slice_get}
use Rattle.std.specs.Option.{option_and_then}
use Rattle.mc_signal.specs.declared.Tagged.{Tagged}
use Rattle.mc_signal.specs.declared.Descriptor.{Descriptor}
use Rattle.mc_slot.specs.EndTurn.{is_end_goal}
use Rattle.mc_slot.specs.declared.SlotGoal.{SlotGoal}
use Rattle.mc_box.specs.Acting.{IsAlike}
use Rattle.mc_box.specs.Boxes.{BoxState, goal_at, media_at, own, own_of, sender, sender_of}
use Rattle.mc_box.specs.declared.event.Kind.{Kind}
use Rattle.mc_box.specs.declared.event.Kind.TheVariants.{Device, Feature}
use Rattle.mc_box.specs.declared.setup.SlotMedia.{SlotMedia}
use Rattle.mc_model.specs.PathTable.{heard_codec}
use Rattle.mc_model.specs.Paths.{PathEnds, both_sides, end_goal, end_goal_of, from_low, other_end, path_from, paths, slot_after}
use Rattle.mc_model.specs.Rings.{IsLeastOnRing, IsOnRing, NoneBefore}
use Rattle.mc_model.specs.Worlds.{ChannelState, WorldState, all_tunnels, box_at, goal_of, own_descriptor, own_sender, place, places, slot_count}
use Rattle.mc_laws.proofs.Reaches.{GoalsStay, end_same, partner_same, ring_same, walk_same, with_boxes}
use Rattle.mc_settings.specs.Alike.{AreAlike, HaveSamePaths}
use Rattle.mc_settings.specs.SettingLaws.{AlikeHaveSamePaths}
use Rattle.mc_settings.specs.Settings.{Settings, settings_of}

-- ---- goals, descriptors and senders

-- boxes of the same settings have the same goals
pub goals_stay : (new world : WorldState) → ((who : ℕ) → settings_of (box_at new who) ≡ settings_of (box_at world who)) → GoalsStay new world
goals_stay new world same who local = ap (λ (settings : Settings). goal_at (record (box_at world who) { goals = settings.goals }) local) (same who)

-- and the same media
pub media_same : (box other : BoxState) (local : ℕ) → settings_of box ≡ settings_of other → media_at box local ≡ media_at other local
media_same box other local same = ap (λ (settings : Settings). media_at (record other { media = settings.media }) local) same

own_by : (kind : Kind) (box other : BoxState) (media : SlotMedia) (local : ℕ) → IsAlike box other → own_of kind box media local ≡ own_of kind other media local
own_by Device box other media local alike = rw (alike.number, alike.receives) refl
own_by Feature box other media local alike = refl

own_same : (box other : BoxState) (local : ℕ) → IsAlike box other → settings_of box ≡ settings_of other → own box local ≡ own other local
own_same box other local alike same =
    ap (λ (kind : Kind). own_of kind box (media_at box local) local) alike.kind
    ∙ (ap (λ (media : SlotMedia). own_of other.kind box media local) (media_same box other local same) ∙ own_by other.kind box other (media_at other local) local alike)

sender_by : (kind : Kind) (box other : BoxState) (media : SlotMedia) (local : ℕ) → IsAlike box other → sender_of kind box media local ≡ sender_of kind other media local
sender_by Device box other media local alike = rw (alike.number, alike.sends) refl
sender_by Feature box other media local alike = refl

sender_same : (box other : BoxState) (local : ℕ) → IsAlike box other → settings_of box ≡ settings_of other → sender box local ≡ sender other local
sender_same box other local alike same =
    ap (λ (kind : Kind). sender_of kind box (media_at box local) local) alike.kind
    ∙ (ap (λ (media : SlotMedia). sender_of other.kind box media local) (media_same box other local same) ∙ sender_by other.kind box other (media_at other local) local alike)

-- ---- walks, where the goals stay

after_same : (world : WorldState) (boxes : List BoxState) (lanes : List (List Tagged)) (count s : ℕ) → GoalsStay (with_boxes world boxes lanes) world
    → slot_after (with_boxes world boxes lanes) count s ≡ slot_after world count s
after_same world boxes lanes count s stay = ap (λ (slots : List ℕ). slice_get slots count) (walk_same (suc count) world boxes lanes (Some s) stay)

-- ends have the same goals
pub end_goal_same : (world : WorldState) (boxes : List BoxState) (lanes : List (List Tagged)) (s : ℕ) → GoalsStay (with_boxes world boxes lanes) world → end_goal (with_boxes world boxes lanes) s ≡ end_goal world s
end_goal_same world boxes lanes s stay = ap end_goal_of (stay (place world s).0 (place world s).1)

other_same : (world : WorldState) (boxes : List BoxState) (lanes : List (List Tagged)) (s : ℕ) → GoalsStay (with_boxes world boxes lanes) world → other_end (with_boxes world boxes lanes) s ≡ other_end world s
other_same world boxes lanes s stay = end_same (length (all_tunnels world)) world boxes lanes s stay

-- ---- paths

-- the path of an end
abbrev path_by : Bool → ℕ → Option ℕ → Option PathEnds
path_by end s other = if end then option_and_then (from_low s) other else None

path_same : (world : WorldState) (boxes : List BoxState) (lanes : List (List Tagged)) (s : ℕ) → GoalsStay (with_boxes world boxes lanes) world → path_from (with_boxes world boxes lanes) s ≡ path_from world s
path_same world boxes lanes s stay =
    ap (λ (goal : SlotGoal). path_by (is_end_goal goal) s (other_end (with_boxes world boxes lanes) s)) (stay (place world s).0 (place world s).1)
    ∙ ap (path_by (is_end_goal (goal_of world s)) s) (other_same world boxes lanes s stay)

each_same : (f g : ℕ → Option PathEnds) (entries : List (ℕ × ℕ)) (first : ℕ) → ((s : ℕ) → f s ≡ g s)
    → filter_map (λ entry. f entry.0) (enumerate_from first entries) ≡ filter_map (λ entry. g entry.0) (enumerate_from first entries)
each_same f g [] first same = refl
each_same f g (entry ∷ entries) first same =
    ap (λ (o : Option PathEnds). cons_option o (filter_map (λ entry. f entry.0) (enumerate_from (first + 1) entries))) (same first)
    ∙ ap (cons_option (g first)) (each_same f g entries (first + 1) same)

-- and there are the same paths
pub paths_same : (world : WorldState) (boxes : List BoxState) (lanes : List (List Tagged)) → GoalsStay (with_boxes world boxes lanes) world → paths (with_boxes world boxes lanes) ≡ paths world
paths_same world boxes lanes stay = each_same (path_from (with_boxes world boxes lanes)) (path_from world) (places world) 0 (λ s. path_same world boxes lanes s stay)

-- ---- rings

-- a slot on a ring of one world, where the chains of tunnels and links are those of the other
on_ring : (world other : WorldState) (s : ℕ) → ((count : ℕ) → slot_after world count s ≡ slot_after other count s) → IsOnRing world s → IsOnRing other s
on_ring world other s same on = record { count = on.count; some = on.some; back = sym (same on.count) ∙ on.back }

none_before : (world other : WorldState) (s : ℕ) → ((t : ℕ) → IsOnRing other t → IsOnRing world t) → NoneBefore world s → NoneBefore other s
none_before world other s back none t below on = none t below (back t on)

least : (world other : WorldState) (ring : Option ℕ) → slot_count world ≡ slot_count other → ((t : ℕ) → IsOnRing world t → IsOnRing other t) → ((t : ℕ) → IsOnRing other t → IsOnRing world t)
    → IsLeastOnRing world ring → IsLeastOnRing other ring
least world other (Some s) count there back is =
    record { inside = subst (λ (n : ℕ). s < n) count is.inside; on = there s is.on; least = none_before world other s back is.least }
least world other None count there back is = subst (λ (n : ℕ). NoneBefore other n) count (none_before world other (slot_count world) back is)

-- ---- together

-- a place's box in both worlds
descriptor_same : (world : WorldState) (boxes : List BoxState) (lanes : List (List Tagged)) (s : ℕ) → AreAlike (with_boxes world boxes lanes) world → own_descriptor (with_boxes world boxes lanes) s ≡ own_descriptor world s
descriptor_same world boxes lanes s alike =
    own_same (box_at (with_boxes world boxes lanes) (place world s).0) (box_at world (place world s).0) (place world s).1 (alike.shape.alike (place world s).0) (alike.settings (place world s).0)

own_sender_same : (world : WorldState) (boxes : List BoxState) (lanes : List (List Tagged)) (s : ℕ) → AreAlike (with_boxes world boxes lanes) world → own_sender (with_boxes world boxes lanes) s ≡ own_sender world s
own_sender_same world boxes lanes s alike =
    sender_same (box_at (with_boxes world boxes lanes) (place world s).0) (box_at world (place world s).0) (place world s).1 (alike.shape.alike (place world s).0) (alike.settings (place world s).0)

heard_same : (world : WorldState) (boxes : List BoxState) (lanes : List (List Tagged)) (s t : ℕ) → AreAlike (with_boxes world boxes lanes) world
    → heard_codec (own_descriptor (with_boxes world boxes lanes) s) (own_sender (with_boxes world boxes lanes) t) ≡ heard_codec (own_descriptor world s) (own_sender world t)
heard_same world boxes lanes s t alike =
    ap (λ (own : Descriptor). heard_codec own (own_sender (with_boxes world boxes lanes) t)) (descriptor_same world boxes lanes s alike)
    ∙ ap (heard_codec (own_descriptor world s)) (own_sender_same world boxes lanes t alike)

same_by : (world : WorldState) (boxes : List BoxState) (lanes : List (List Tagged)) → AreAlike (with_boxes world boxes lanes) world → GoalsStay (with_boxes world boxes lanes) world
    → HaveSamePaths (with_boxes world boxes lanes) world
same_by world boxes lanes alike stay =
    let new : WorldState = with_boxes world boxes lanes in
    let there : (s : ℕ) → IsOnRing new s → IsOnRing world s = λ s. on_ring new world s (λ count. after_same world boxes lanes count s stay) in
    let back : (s : ℕ) → IsOnRing world s → IsOnRing new s = λ s. on_ring world new s (λ count. sym (after_same world boxes lanes count s stay)) in
    record {
      places = refl;
      tunnels = λ s. refl;
      goals = λ s. stay (place world s).0 (place world s).1;
      partners = λ s. partner_same world boxes lanes s stay;
      ends = λ s. other_same world boxes lanes s stay;
      ring = ring_same world boxes lanes stay;
      rings = λ s. (there s, back s);
      least = λ ring. (least new world ring refl there back, least world new ring refl back there);
      paths = paths_same world boxes lanes stay;
      slots = λ path. ap both_sides (walk_same (length (all_tunnels world)) world boxes lanes (Some path.low) stay);
      end_goals = λ s. end_goal_same world boxes lanes s stay;
      descriptors = λ s. descriptor_same world boxes lanes s alike;
      senders = λ s. own_sender_same world boxes lanes s alike;
      low_hears = λ path. heard_same world boxes lanes path.low path.high alike;
      high_hears = λ path. heard_same world boxes lanes path.high path.low alike;
    }

pub alike_have_same_paths : AlikeHaveSamePaths
alike_have_same_paths world other alike =
    let is : world ≡ with_boxes other world.boxes world.lanes = ap (λ (c : List ChannelState). record world { channels = c }) alike.shape.channels in
    let as_other : AreAlike (with_boxes other world.boxes world.lanes) other = subst (λ (w : WorldState). AreAlike w other) is alike in
    subst (λ (w : WorldState). HaveSamePaths w other) (sym is)
    (same_by other world.boxes world.lanes as_other (goals_stay (with_boxes other world.boxes world.lanes) other as_other.settings))
