-- Where the last version is met, the versions and the Hears of some slot pass it.
use Rattle.std.proofs.Common.{◌≡◌, ◌+◌, ◌<◌, ◌≤◌, ℕ, nat_lt, true, List, length, take, refl, ap, sym, ◌∙◌, subst, arith}
use Rattle.std.proofs.lemmas.Bool.{and_parts, eq-eqb, eqb-true}
use Rattle.mc_box.specs.BoxEvents.{is_enabled, is_version_end}
use Rattle.mc_box.specs.BoxShapes.{is_device}
use Rattle.mc_box.specs.Boxes.{BoxState, is_slot, media_at}
use Rattle.mc_box.specs.declared.event.Event.{Event}
use Rattle.mc_box.specs.declared.event.Event.TheVariants.{Take, Set, Media, Tell, Retry, Shift}
use Rattle.mc_box.specs.declared.event.MediaChange.TheVariants.{Hear, Talk}
use Rattle.mc_box.specs.declared.event.Turn.{Turn}
use Rattle.mc_box.specs.declared.limit.TheConstants.{LAST_VERSION}
use Rattle.mc_box.proofs.Changes.{slot_inside}
use Rattle.mc_model.specs.Settles.{IsStopped, commands_of, MeetsLast, hears_of, is_hear_at, is_hear_of}
use Rattle.mc_model.specs.Steps.{ends_version_at}
use Rattle.mc_model.specs.Worlds.{WorldState, box_at, version_at}
use Rattle.mc_laws.proofs.Numbers.{box_inside}
use Rattle.mc_laws.proofs.ShapesKept.{run_keeps_shape}
use Rattle.mc_laws.specs.Versions.{LastIsPassed}
use Rattle.mc_laws.proofs.HearCounts.{commands_hear, hears_first}
use Rattle.mc_laws.proofs.RunVersions.{versions_count_hears}

-- a Hear of a slot of a box, at the last version
record HearsLast (box : BoxState) (event : Event) : Type 0 where
  local : ℕ
  inside : local < length box.slots
  hears : is_hear_at local event ≡ true
  last : (media_at box local).version ≡ LAST_VERSION

-- an event that ends a version is one
hears_last : (event : Event) (box : BoxState) → is_version_end box event ≡ true → is_enabled box event ≡ true → HearsLast box event
hears_last (Media (Hear local on)) box ends enabled =
    let here = and_parts (is_device box.kind) (is_slot box local) enabled in
    record { local = local; inside = slot_inside box local here.1; hears = eq-eqb local local refl; last = eqb-true (media_at box local).version LAST_VERSION ends }
hears_last (Media (Talk local on)) box ends enabled = absurd cc
hears_last (Take local) box ends enabled = absurd cc
hears_last (Set change) box ends enabled = absurd cc
hears_last (Tell word) box ends enabled = absurd cc
hears_last (Retry local) box ends enabled = absurd cc
hears_last Shift box ends enabled = absurd cc

-- the Hears made so far and the next one are among those of the batch
next_hears : (batch turns : List Turn) (turn : Turn) (local : ℕ) (world last : WorldState) (at : ℕ) (stopped : IsStopped world batch turns last) (meets : MeetsLast batch turns last at)
    → is_hear_at local meets.turn.event ≡ true → hears_of meets.turn.who local turns + 1 ≤ hears_of meets.turn.who local batch
next_hears batch turns turn local world last at stopped meets hears =
    let who : ℕ = meets.turn.who in
    let mine : is_hear_of who local meets.turn ≡ true = rw hears (eq-eqb who who refl) in
    let first = hears_first (commands_of who batch) (length (commands_of who turns)) who local meets.turn meets.next mine in
    let made : hears_of who local (take (length (commands_of who turns)) (commands_of who batch)) ≡ hears_of who local turns = ap (hears_of who local) (sym (stopped.commands who)) ∙ commands_hear turns who local in
    let all = commands_hear batch who local in
    omega arith

pub last_is_passed : LastIsPassed
last_is_passed world last batch turns at sound stopped meets =
    let who : ℕ = meets.turn.who in
    let ends = and_parts (nat_lt who (length last.boxes)) (ends_version_at last who meets.turn.event) meets.version in
    let event = and_parts (is_version_end (box_at last who) meets.turn.event) (is_enabled (box_at last who) meets.turn.event) ends.1 in
    let one = hears_last meets.turn.event (box_at last who) event.0 event.1 in
    let shape = run_keeps_shape world last turns sound stopped.runs in
    let grown = versions_count_hears world last turns sound stopped.runs who one.local in
    let more = next_hears batch turns meets.turn one.local world last at stopped meets one.hears in
    let full : version_at last who one.local ≡ LAST_VERSION = one.last in
    record {
      who = who;
      local = one.local;
      here = subst (λ (n : ℕ). who < n) shape.boxes (box_inside last who ends.0);
      inside = subst (λ (n : ℕ). one.local < n) (shape.alike who).slots one.inside;
      passes = omega arith;
    }
