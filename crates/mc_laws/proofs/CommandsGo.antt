-- A command that a world allows can happen, and so can an owed retry.
use Rattle.std.proofs.Common.{◌≡◌, ◌&&◌, ◌⊎◌, inl, inr, nat_lt, ℕ, Bool, true, false, Option, Some, None, IsSome, IsTrue, length, refl, sym, ◌∙◌, arith}
use Rattle.std.specs.Option.{option_map}
use Rattle.mc_box.specs.BoxEvents.{BoxStep, box_event, is_command, is_enabled, is_take, is_version_end}
use Rattle.mc_box.specs.BoxShapes.{box_shape, is_enabled_by}
use Rattle.mc_box.specs.Boxes.{BoxState, is_slot, box_owes}
use Rattle.mc_box.proofs.EventGoes.{event_goes}
use Rattle.mc_box.proofs.ShapeEnables.{shape_enables}
use Rattle.mc_model.specs.Shapes.{CommandGoes, RetryGoes, is_allowed}
use Rattle.mc_model.specs.Sound.{IsSound}
use Rattle.mc_model.specs.Steps.{ends_version, after_making, step}
use Rattle.mc_model.specs.Worlds.{WorldState, box_at, place}
use Rattle.mc_box.specs.declared.event.Event.{Event}
use Rattle.mc_box.specs.declared.event.Event.TheVariants.{Take, Set, Media, Tell, Retry, Shift}
use Rattle.mc_box.specs.declared.event.Turn.{Turn}
use Rattle.mc_laws.proofs.StepGoes.{below_test, some_of}
use Rattle.mc_laws.proofs.StepKeeps.{box_inside}

pub both_true : (a b : Bool) → IsTrue (a && b) → (a ≡ true) × (b ≡ true)
both_true a b both = grind arith

pub both_is : (a b : Bool) → a ≡ true → b ≡ true → IsTrue (a && b)
both_is a b first second = grind arith

-- ---- a command

some_mapped : {A B : Type 0} (f : A → B) (o : Option A) (x : A) → o ≡ Some x → IsSome (option_map f o)
some_mapped f o x is = rw is refl

-- a box's step is the world's
act_steps : (world : WorldState) (who : ℕ) (event : Event) (turn : BoxStep) → is_take event ≡ false → nat_lt who (length world.boxes) ≡ true → box_event (box_at world who) event None ≡ Some turn
    → IsSome (step world (record { who = who; event = event }))
act_steps world who (Take local) turn other below goes = absurd (cc)
act_steps world who (Set change) turn other below goes = rw below (some_mapped (after_making world who) (box_event (box_at world who) (Set change) None) turn goes)
act_steps world who (Media change) turn other below goes = rw below (some_mapped (after_making world who) (box_event (box_at world who) (Media change) None) turn goes)
act_steps world who (Tell word) turn other below goes = rw below (some_mapped (after_making world who) (box_event (box_at world who) (Tell word) None) turn goes)
act_steps world who (Retry local) turn other below goes = rw below (some_mapped (after_making world who) (box_event (box_at world who) (Retry local) None) turn goes)
act_steps world who Shift turn other below goes = rw below (some_mapped (after_making world who) (box_event (box_at world who) Shift None) turn goes)

-- an enabled event that takes nothing and ends no version
pub enabled_goes : (world : WorldState) (who : ℕ) (event : Event) → IsSound world → nat_lt who (length world.boxes) ≡ true → is_enabled (box_at world who) event ≡ true
    → is_take event ≡ false → is_version_end (box_at world who) event ≡ false → IsSome (step world (record { who = who; event = event }))
enabled_goes world who event sound below enabled other stays =
    let after_making = some_of (box_event (box_at world who) event None) (event_goes (box_at world who) event (sound.boxes who (box_inside world who below)) enabled other stays) in
    act_steps world who event after_making.0 other below after_making.1

-- what a command that a world allows is
pub record Allowed (world : WorldState) (turn : Turn) : Type 0 where
  pub command : is_command turn.event ≡ true
  pub below : nat_lt turn.who (length world.boxes) ≡ true
  pub enabled : is_enabled (box_at world turn.who) turn.event ≡ true

pub allowed_parts : (world : WorldState) (turn : Turn) → is_allowed world turn ≡ true → Allowed world turn
allowed_parts world turn allowed =
    let box : BoxState = box_at world turn.who in
    let one = both_true (nat_lt turn.who (length world.boxes)) (is_enabled_by (box_shape box) turn.event) allowed in
    let two = both_true (is_command turn.event) (is_enabled box turn.event) (sym (shape_enables box turn.event) ∙ one.1) in
    record { command = two.0; below = one.0; enabled = two.1 }

takes_none : (event : Event) → is_command event ≡ true → is_take event ≡ false
takes_none (Take local) is = absurd (cc)
takes_none (Set change) is = refl
takes_none (Media change) is = refl
takes_none (Tell word) is = refl
takes_none (Retry local) is = absurd (cc)
takes_none Shift is = absurd (cc)

command_by : (ends : Bool) (world : WorldState) (turn : Turn) → is_version_end (box_at world turn.who) turn.event ≡ ends → IsSound world → Allowed world turn
    → IsSome (step world turn) ⊎ IsTrue (ends_version world turn)
command_by true world turn is sound allowed =
    inr (both_is (nat_lt turn.who (length world.boxes)) (is_version_end (box_at world turn.who) turn.event && is_enabled (box_at world turn.who) turn.event) allowed.below
    (both_is (is_version_end (box_at world turn.who) turn.event) (is_enabled (box_at world turn.who) turn.event) is allowed.enabled))
command_by false world turn is sound allowed = inl (enabled_goes world turn.who turn.event sound allowed.below allowed.enabled (takes_none turn.event allowed.command) is)

pub command_goes : CommandGoes
command_goes world turn sound allowed = command_by (is_version_end (box_at world turn.who) turn.event) world turn refl sound (allowed_parts world turn allowed)

-- ---- a retry

pub retry_goes : RetryGoes
retry_goes world s sound inside owes =
    let box : BoxState = box_at world (place world s).0 in
    let placed = sound.numbered.placed s inside in
    let here : is_slot box (place world s).1 ≡ true = below_test (place world s).1 (length box.slots) (sound.numbered.slots s inside) in
    let after_making = some_of (box_event box (Retry (place world s).1) None)
    (event_goes box (Retry (place world s).1) (sound.boxes (place world s).0 placed) (both_is (is_slot box (place world s).1) (box_owes box (place world s).1) here owes) refl refl) in
    act_steps world (place world s).0 (Retry (place world s).1) after_making.0 refl (below_test (place world s).0 (length world.boxes) placed) after_making.1
