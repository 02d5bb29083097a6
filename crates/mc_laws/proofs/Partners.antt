-- Links by the numbers of slots: the partner of a slot is another slot, whose partner it is.
use Rattle.std.proofs.Common.{◌≡◌, ◌≢◌, ◌<◌, ℕ, Some, refl, ap, sym, ◌∙◌, subst}
use Rattle.mc_slot.specs.declared.SlotGoal.{SlotGoal}
use Rattle.mc_slot.specs.declared.SlotGoal.TheVariants.{End, Link}
use Rattle.mc_box.specs.BoxSound.{IsLinked}
use Rattle.mc_box.specs.Boxes.{goal_at, slot_at}
use Rattle.mc_model.specs.Paths.{next_slot, partner_by, partner_of}
use Rattle.mc_model.specs.Sound.{IsSound}
use Rattle.mc_model.specs.Worlds.{WorldState, box_at, far, goal_of, number, place, slot_count, slot_of}
use Rattle.mc_laws.proofs.ActedWorlds.{far_inside}
use Rattle.mc_laws.proofs.Numbers.{far_back, number_is, some_same}

-- the partner of a slot by its goal
pub by_goal : (world : WorldState) (s : ℕ) (goal : SlotGoal) → goal_of world s ≡ goal → partner_of world s ≡ partner_by world goal s
by_goal world s goal is = ap (λ (g : SlotGoal). partner_by world g s) is

-- and the local number of a partner that is there
pub linked_with : (world : WorldState) (s t : ℕ) (goal : SlotGoal) → partner_by world goal s ≡ Some t → (partner : ℕ) × (goal ≡ Link partner) × (number world (place world s).0 partner ≡ Some t)
linked_with world s t (End goal) is = absurd (cc)
linked_with world s t (Link partner) is = (partner, refl, is)

-- a slot and its partner, which is linked with it
pub record IsPartner (world : WorldState) (s partner t : ℕ) : Type 0 where
  pub inside : t < slot_count world
  pub other : t ≢ s
  pub who : (place world t).0 ≡ (place world s).0
  pub local : (place world t).1 ≡ partner
  pub goal : goal_of world t ≡ Link (place world s).1
  pub number : number world (place world t).0 (place world s).1 ≡ Some s
  pub medium : (slot_of world t).medium ≡ (slot_of world s).medium

-- links are mutual, by the numbers of slots
pub is_partner : (world : WorldState) (s partner t : ℕ) → IsSound world → s < slot_count world → goal_of world s ≡ Link partner → number world (place world s).0 partner ≡ Some t
    → IsPartner world s partner t
is_partner world s partner t sound inside aims is =
    let placed = sound.numbered.placed s inside in
    let link : IsLinked (box_at world (place world s).0) (place world s).1 partner =
    (sound.boxes (place world s).0 placed).wired.links (place world s).1 partner aims in
    let there = number_is world (place world s).0 partner t is in
    record {
      inside = there.0;
      other = λ same. link.other (sym there.2 ∙ ap (λ (n : ℕ). (place world n).1) same);
      who = there.1;
      local = there.2;
      goal = ap (λ (who : ℕ). goal_at (box_at world who) (place world t).1) there.1
          ∙ (ap (λ (local : ℕ). goal_at (box_at world (place world s).0) local) there.2 ∙ link.back);
      number = ap (λ (who : ℕ). number world who (place world s).1) there.1 ∙ sound.numbered.once s inside;
      medium = ap (λ (who : ℕ). (slot_at (box_at world who) (place world t).1).medium) there.1
          ∙ (ap (λ (local : ℕ). (slot_at (box_at world (place world s).0) local).medium) there.2 ∙ link.medium);
    }

-- a linked slot has a partner
pub has_partner : (world : WorldState) (s partner : ℕ) → IsSound world → s < slot_count world → goal_of world s ≡ Link partner
    → (t : ℕ) × (number world (place world s).0 partner ≡ Some t)
has_partner world s partner sound inside aims =
    let placed = sound.numbered.placed s inside in
    let link : IsLinked (box_at world (place world s).0) (place world s).1 partner =
    (sound.boxes (place world s).0 placed).wired.links (place world s).1 partner aims in
    let there = sound.numbered.all (place world s).0 partner placed link.inside in
    (there.0, subst (λ (p : ℕ × ℕ). number world p.0 p.1 ≡ Some there.0) there.2 (sound.numbered.once there.0 there.1))

-- two slots that are linked with each other
pub record AreLinked (world : WorldState) (s t : ℕ) : Type 0 where
  pub inside : t < slot_count world
  pub other : t ≢ s
  pub back : partner_of world t ≡ Some s

pub are_linked : (world : WorldState) (s t : ℕ) → IsSound world → s < slot_count world → partner_of world s ≡ Some t → AreLinked world s t
are_linked world s t sound inside is =
    let link = linked_with world s t (goal_of world s) is in
    let there = is_partner world s link.0 t sound inside link.1 link.2 in
    record { inside = there.inside; other = there.other; back = by_goal world t (Link (place world s).1) there.goal ∙ there.number }

-- ---- a tunnel and a link on

-- a slot and the one that is next to it
pub record IsNext (world : WorldState) (s t : ℕ) : Type 0 where
  pub inside : t < slot_count world
  pub other : t ≢ far s
  pub back : partner_of world t ≡ Some (far s)

pub next_is : (world : WorldState) (s t : ℕ) → IsSound world → s < slot_count world → next_slot world s ≡ Some t → IsNext world s t
next_is world s t sound inside is =
    let link = are_linked world (far s) t sound (far_inside world s inside) is in
    record { inside = link.inside; other = link.other; back = link.back }

-- only one slot has a slot next to it
pub one_before : (world : WorldState) (a b t : ℕ) → IsSound world → a < slot_count world → b < slot_count world → next_slot world a ≡ Some t → next_slot world b ≡ Some t → a ≡ b
one_before world a b t sound one two to_a to_b =
    let from_a = (next_is world a t sound one to_a).back in
    let from_b = (next_is world b t sound two to_b).back in
    let same : far a ≡ far b = some_same (far a) (far b) (sym from_a ∙ from_b) in
    sym (far_back a) ∙ (ap far same ∙ far_back b)
