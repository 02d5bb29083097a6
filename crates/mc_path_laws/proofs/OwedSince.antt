-- What owes a retry, while only Takes and Retries come after nothing was under way, owed it then: an end that wasn't closed then is on a path that no end closes, and so it stays.
use Rattle.std.proofs.Common.{◌≡◌, ◌≢◌, ◌<◌, ◌&&◌, inl, inr, ℕ, true, nat_lt, Some, IsTrue, List, length, refl, ap, sym, ◌∙◌, subst, arith}
use Rattle.std.specs.List.{list_all}
use Rattle.std.proofs.lemmas.Bool.{and_parts}
use Rattle.std.proofs.lemmas.Grind.{common_steps}
use Rattle.mc_slot.specs.EndTurn.{is_end_goal}
use Rattle.mc_slot.specs.declared.Goal.TheVariants.{Open as ToOpen}
use Rattle.mc_slot.specs.declared.Slot.{Slot}
use Rattle.mc_slot.specs.declared.SlotGoal.{SlotGoal}
use Rattle.mc_slot.specs.declared.SlotGoal.TheVariants.{End, Link}
use Rattle.mc_slot.specs.declared.State.TheVariants.{Closed}
use Rattle.mc_box.specs.Boxes.{box_owes, is_slot, slot_owes}
use Rattle.mc_box.specs.declared.event.Turn.{Turn}
use Rattle.mc_model.specs.Paths.{end_goal_of}
use Rattle.mc_model.specs.Settles.{is_quiet, takes_or_retries, world_owes}
use Rattle.mc_model.specs.Shapes.{owes_by_number}
use Rattle.mc_model.specs.Sound.{IsSound}
use Rattle.mc_model.specs.Steps.{run}
use Rattle.mc_model.specs.Worlds.{ChannelState, WorldState, box_at, goal_of, place, slot_count, slot_of}
use Rattle.mc_laws.proofs.GoalsKept.{run_stays}
use Rattle.mc_laws.proofs.Numbers.{box_inside, slot_inside}
use Rattle.mc_laws.proofs.RingWalks.{end_is_met}
use Rattle.mc_path_laws.specs.PathLaws.{OwedSinceQuiet}
use Rattle.mc_path_laws.proofs.CleanWalks.{IsBetween, end_between, quiet_clean, run_opens}
use Rattle.mc_path_laws.proofs.Quiet.{quiet_from}
use Rattle.mc_path_laws.proofs.SettledHold.{closed_or_not, goal_before, owes_by_place, owes_closed}

-- ---- one slot

-- a slot that owes a retry
record Owes (goal : SlotGoal) (slot : Slot) : Type 0 where
  is_end : is_end_goal goal ≡ true
  opens : end_goal_of goal ≡ ToOpen
  closed : slot.state ≡ Closed

-- is an end that is to open, and is closed
owes_parts : (goal : SlotGoal) (slot : Slot) → slot_owes goal slot ≡ true → Owes goal slot
owes_parts (End goal) slot owed = record { is_end = refl; opens = grind (arith, common_steps); closed = grind (arith, common_steps) }
owes_parts (Link partner) slot owed = absurd (cc)

-- where nothing is under way, an end that isn't closed is on a path that no end closes
begun_between : (world : WorldState) (s : ℕ) → IsSound world → IsTrue (is_quiet world) → s < slot_count world → is_end_goal (goal_of world s) ≡ true
    → (slot_of world s).state ≢ Closed → IsBetween world s
begun_between world s sound quiet inside is_end begun =
    let met = end_is_met world s sound inside is_end in
    let path = quiet_from world s met.0 sound quiet inside is_end met.1 in
    end_between world s met.0 inside is_end met.1 (λ closes. begun (path.low_closes closes).low) (λ closes. begun (path.high_closes closes).low)

-- so an end that is closed later was closed then
closed_before : (world next : WorldState) (turns : List Turn) (s : ℕ) → IsSound world → IsTrue (is_quiet world) → list_all (λ turn. takes_or_retries turn.event) turns ≡ true → run world turns ≡ Some next
    → s < slot_count world → is_end_goal (goal_of world s) ≡ true → (slot_of next s).state ≡ Closed → (slot_of world s).state ≡ Closed
closed_before world next turns s sound quiet all goes inside is_end closed = elim (closed_or_not (slot_of world s).state) [
  | inl begun ↦ absurd (run_opens turns world next s sound (begun_between world s sound quiet inside is_end begun) all goes (quiet_clean world quiet) (inl begun) closed)
  | inr was ↦ was
]

-- and what owes a retry later owed it then, since goals stay
owed_before : (world next : WorldState) (turns : List Turn) (s : ℕ) → IsSound world → IsTrue (is_quiet world) → list_all (λ turn. takes_or_retries turn.event) turns ≡ true → run world turns ≡ Some next
    → s < slot_count world → owes_by_number next s ≡ true → owes_by_number world s ≡ true
owed_before world next turns s sound quiet all goes inside owed =
    let now = owes_parts (goal_of next s) (slot_of next s) owed in
    let same : goal_of world s ≡ goal_of next s = sym (goal_before world next s (run_stays turns world next sound all goes)) in
    owes_closed (goal_of world s) (slot_of world s) (ap end_goal_of same ∙ now.opens)
    (closed_before world next turns s sound quiet all goes inside (ap is_end_goal same ∙ now.is_end) now.closed)

-- ---- by box and local number

-- a slot that owes a retry, by its number
record OwesAt (world : WorldState) (who local : ℕ) : Type 0 where
  slot : ℕ
  inside : slot < slot_count world
  at : place world slot ≡ (who, local)
  owed : owes_by_number world slot ≡ true

-- each that owes one has a number
owes_at_number : (world : WorldState) (who local : ℕ) → IsSound world → world_owes world who local ≡ true → OwesAt world who local
owes_at_number world who local sound owed =
    let outer = and_parts (nat_lt who (length world.boxes) && is_slot (box_at world who) local) (box_owes (box_at world who) local) owed in
    let inner = and_parts (nat_lt who (length world.boxes)) (is_slot (box_at world who) local) outer.0 in
    let found = sound.numbered.all who local (box_inside world who inner.0) (slot_inside (box_at world who) local inner.1) in
    record { slot = found.0; inside = found.1; at = found.2; owed = subst (λ (p : ℕ × ℕ). box_owes (box_at world p.0) p.1 ≡ true) (sym found.2) outer.1 }

-- so each owed it then
pub owed_since_quiet : OwedSinceQuiet
owed_since_quiet world next turns sound quiet all goes who local owes =
    let stay = run_stays turns world next sound all goes in
    let found = owes_at_number next who local stay.sound owes in
    let at : place world found.slot ≡ (who, local) = ap (λ (c : List ChannelState). place (record next { channels = c }) found.slot) (sym stay.channels) ∙ found.at in
    let inside : found.slot < slot_count world = subst (λ (c : List ChannelState). found.slot < slot_count (record next { channels = c })) stay.channels found.inside in
    subst (λ (p : ℕ × ℕ). world_owes world p.0 p.1 ≡ true) at
    (owes_by_place world found.slot sound inside (owed_before world next turns found.slot sound quiet all goes inside found.owed))
