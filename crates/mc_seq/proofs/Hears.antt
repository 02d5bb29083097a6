-- The Hear of a slot at the last version.
use Rattle.std.proofs.Common.{◌≡◌, ◌&&◌, ◌<◌, nat_lt, ℕ, true, length, Option, Some, None, IsSome, IsTrue, refl, sym, ◌∙◌, subst}
use Rattle.std.proofs.lemmas.Bool.{and_parts}
use Rattle.mc_box.specs.BoxEvents.{is_version_end}
use Rattle.mc_box.specs.BoxShapes.{is_device}
use Rattle.mc_box.specs.Boxes.{is_slot}
use Rattle.mc_box.specs.declared.event.Event.{Event}
use Rattle.mc_box.specs.declared.event.Event.TheVariants.{Take, Set, Media, Tell, Retry, Shift}
use Rattle.mc_box.specs.declared.event.MediaChange.TheVariants.{Hear, Talk}
use Rattle.mc_box.specs.declared.event.Turn.{Turn}
use Rattle.mc_model.specs.Sound.{IsSound}
use Rattle.mc_model.specs.Steps.{ends_version, ends_version_at, heard_local}
use Rattle.mc_model.specs.Worlds.{WorldState, box_at, number}
use Rattle.mc_laws.proofs.Numbers.{box_inside, slot_inside}

-- an event that ends a version is the Hear of a slot that is there
local_by : (event : Event) (world : WorldState) (who : ℕ) → ends_version_at world who event ≡ true → (local : ℕ) × (heard_local event ≡ Some local) × (is_slot (box_at world who) local ≡ true)
local_by (Media (Hear local on)) world who ends =
    let two = and_parts (is_version_end (box_at world who) (Media (Hear local on))) (is_device (box_at world who).kind && is_slot (box_at world who) local) ends in
    let three = and_parts (is_device (box_at world who).kind) (is_slot (box_at world who) local) two.1 in
    (local, refl, three.1)
local_by (Media (Talk local on)) world who ends = absurd (cc)
local_by (Take local) world who ends = absurd (cc)
local_by (Set change) world who ends = absurd (cc)
local_by (Tell word) world who ends = absurd (cc)
local_by (Retry local) world who ends = absurd (cc)
local_by Shift world who ends = absurd (cc)

-- an option has one value
some_is : (a b : ℕ) → Some a ≡ Some b → a ≡ b
some_is a b is = cc

-- each slot of a box has its number
pub has_number : (world : WorldState) (who local : ℕ) → IsSound world → who < length world.boxes → local < length (box_at world who).slots → number world who local ≡ None → ⊥
has_number world who local sound below inside none =
    let slot = sound.numbered.all who local below inside in
    let there : number world who local ≡ Some slot.0 = subst (λ (p : ℕ × ℕ). number world p.0 p.1 ≡ Some slot.0) slot.2 (sound.numbered.once slot.0 slot.1) in
    cc (there, none)

-- so has the slot whose Hear ends its version
pub hears_somewhere : (world : WorldState) (turn : Turn) (local : ℕ) → IsSound world → IsTrue (ends_version world turn) → heard_local turn.event ≡ Some local → number world turn.who local ≡ None → ⊥
hears_somewhere world turn local sound ends is none =
    let one = and_parts (nat_lt turn.who (length world.boxes)) (ends_version_at world turn.who turn.event) ends in
    let found = local_by turn.event world turn.who one.1 in
    let same : found.0 ≡ local = some_is found.0 local (sym found.1 ∙ is) in
    let inside : is_slot (box_at world turn.who) local ≡ true = subst (λ (l : ℕ). is_slot (box_at world turn.who) l ≡ true) same found.2 in
    has_number world turn.who local sound (box_inside world turn.who one.0) (slot_inside (box_at world turn.who) local inside) none

-- an option is not both some and none
some_none : (o : Option WorldState) → IsSome o → o ≡ None → ⊥
some_none None some none = cc
some_none (Some x) some none = cc
