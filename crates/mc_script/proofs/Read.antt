-- The line of a command breaks no rule, and spells that command.
use Rattle.std.proofs.Common.{◌≡◌, ℕ, ◌<◌, ◌==◌, ◌&&◌, not, Bool, true, false, Some, List, [], ◌∷◌, codes, length, refl, slice_index_or, arith}
use Rattle.std.proofs.lemmas.Bool.{and_parts}
use Rattle.mc_slot.specs.Moves.{is_same_medium}
use Rattle.mc_slot.specs.declared.Goal.{Goal}
use Rattle.mc_slot.specs.declared.Goal.TheVariants.{Open as ToOpen, Close as ToClose, Hold as ToHold}
use Rattle.mc_text.specs.NameLists.{NameLists, AreNames, slot_names}
use Rattle.mc_text.proofs.Places.{found_again}
use Rattle.mc_box.specs.BoxShapes.{BoxShapeState, has_slot, is_device, is_enabled_by, is_feature, medium_at, shape_of}
use Rattle.mc_box.specs.declared.event.Change.TheVariants.{End as NewEnd, Link as NewLink}
use Rattle.mc_box.specs.declared.event.Event.{Event}
use Rattle.mc_box.specs.declared.event.Event.TheVariants.{Take, Set, Media, Tell, Retry, Shift}
use Rattle.mc_box.specs.declared.event.MediaChange.TheVariants.{Hear, Talk}
use Rattle.mc_script.specs.Rules.{spelt_goal, spelt_switch}
use Rattle.mc_script.specs.Meaning.{box_name, slot_name, goal_word, switch_word}
use Rattle.mc_script.specs.Printed.{IsFoundSlot, IsFound, IsSlot, IsRead, PrintedIsRead, NamedIsFound, HaveNames, IsFoundEvent, IsNamedEvent}
use Rattle.mc_script.specs.declared.command.Command.TheVariants.{Stimulus, Settle}
use Rattle.mc_script.proofs.Apart.{is_word, name_is_word, line_of}

-- each goal has a word
goal_is_word : (goal : Goal) → is_word (goal_word goal) ≡ true
goal_is_word ToOpen = refl
goal_is_word ToClose = refl
goal_is_word ToHold = refl

-- and the word spells it
goal_again : (goal : Goal) → spelt_goal (goal_word goal) ≡ Some goal
goal_again ToOpen = refl
goal_again ToClose = refl
goal_again ToHold = refl

-- `on` and `off` are words
switch_is_word : (on : Bool) → is_word (switch_word on) ≡ true
switch_is_word true = refl
switch_is_word false = refl

-- and spell what they say
switch_again : (on : Bool) → spelt_switch (switch_word on) ≡ Some on
switch_again true = refl
switch_again false = refl

-- a name that is found is a word
found_is_word : (names : List (List ℕ)) (number : ℕ) → IsFound names number → is_word (slice_index_or names number []) ≡ true
found_is_word names number found = name_is_word (slice_index_or names number []) found.0

-- the tests of a link that a line's rules ask for
link_parts : (feature one two same medium : Bool) → (feature && one && two && not same && medium) ≡ true → (feature ≡ true) × (same ≡ false) × (medium ≡ true)
link_parts feature one two same medium is = grind (arith)

module _ (names : NameLists) (shape : List BoxShapeState) where
  -- of each command, the line that is printed breaks no rule and spells it
  settle_is_read : IsRead names shape Settle
  settle_is_read = (refl, refl)

  set_is_read : (who local : ℕ) (goal : Goal) → IsFoundSlot names who local → IsRead names shape (Stimulus (record { who = who; event = Set (NewEnd local goal) }))
  set_is_read who local goal found =
      let box = found.0 in
      let slot = found.1 in
      let line = line_of (codes "set" ∷ box_name names who ∷ slot_name names who local ∷ goal_word goal ∷ []) (omega arith) (refl, (found_is_word names.boxes who box, (found_is_word (slot_names names who) local slot, (goal_is_word goal, tt)))) in
      (rw (line.fits, line.plain, line.apart, box.1, goal_again goal, slot.1) refl, rw (line.apart, box.1, goal_again goal, slot.1) refl)

  link_is_read : (who local other : ℕ) → IsFoundSlot names who local → IsFoundSlot names who other → is_enabled_by (shape_of shape who) (Set (NewLink local other)) ≡ true → IsRead names shape (Stimulus (record { who = who; event = Set (NewLink local other) }))
  link_is_read who local other found far allowed =
      let box = found.0 in
      let slot = found.1 in
      let two = far.1 in
      let kind = is_feature (shape_of shape who).kind in
      let parts = link_parts kind (has_slot (shape_of shape who) local) (has_slot (shape_of shape who) other) (local == other) (is_same_medium (medium_at shape who local) (medium_at shape who other)) allowed in
      let line = line_of (codes "link" ∷ box_name names who ∷ slot_name names who local ∷ slot_name names who other ∷ []) (omega arith) (refl, (found_is_word names.boxes who box, (found_is_word (slot_names names who) local slot, (found_is_word (slot_names names who) other two, tt)))) in
      (rw (line.fits, line.plain, line.apart, box.1, parts.0, slot.1, two.1, parts.1, parts.2) refl, rw (line.apart, box.1, slot.1, two.1) refl)

  hear_is_read : (who local : ℕ) (on : Bool) → IsFoundSlot names who local → is_enabled_by (shape_of shape who) (Media (Hear local on)) ≡ true → IsRead names shape (Stimulus (record { who = who; event = Media (Hear local on) }))
  hear_is_read who local on found allowed =
      let box = found.0 in
      let device = (and_parts (is_device (shape_of shape who).kind) (has_slot (shape_of shape who) local) allowed).0 in
      let slot = found.1 in
      let line = line_of (codes "hear" ∷ box_name names who ∷ slot_name names who local ∷ switch_word on ∷ []) (omega arith) (refl, (found_is_word names.boxes who box, (found_is_word (slot_names names who) local slot, (switch_is_word on, tt)))) in
      (rw (line.fits, line.plain, line.apart, box.1, device, switch_again on, slot.1) refl, rw (line.apart, box.1, switch_again on, slot.1) refl)

  talk_is_read : (who local : ℕ) (on : Bool) → IsFoundSlot names who local → is_enabled_by (shape_of shape who) (Media (Talk local on)) ≡ true → IsRead names shape (Stimulus (record { who = who; event = Media (Talk local on) }))
  talk_is_read who local on found allowed =
      let box = found.0 in
      let device = (and_parts (is_device (shape_of shape who).kind) (has_slot (shape_of shape who) local) allowed).0 in
      let slot = found.1 in
      let line = line_of (codes "talk" ∷ box_name names who ∷ slot_name names who local ∷ switch_word on ∷ []) (omega arith) (refl, (found_is_word names.boxes who box, (found_is_word (slot_names names who) local slot, (switch_is_word on, tt)))) in
      (rw (line.fits, line.plain, line.apart, box.1, device, switch_again on, slot.1) refl, rw (line.apart, box.1, switch_again on, slot.1) refl)

  tell_is_read : (who told : ℕ) → IsFound names.boxes who → IsFound names.told told → is_enabled_by (shape_of shape who) (Tell told) ≡ true → IsRead names shape (Stimulus (record { who = who; event = Tell told }))
  tell_is_read who told box word allowed =
      let line = line_of (codes "tell" ∷ box_name names who ∷ slice_index_or names.told told [] ∷ []) (omega arith) (refl, (found_is_word names.boxes who box, (found_is_word names.told told word, tt))) in
      (rw (line.fits, line.plain, line.apart, box.1, word.1, allowed) refl, rw (line.apart, box.1, word.1) refl)

  -- the same, whatever the event
  event_is_read : (who : ℕ) (event : Event) → IsFoundEvent names who event → is_enabled_by (shape_of shape who) event ≡ true → IsRead names shape (Stimulus (record { who = who; event = event }))
  event_is_read who (Set (NewEnd local goal)) found allowed = set_is_read who local goal found
  event_is_read who (Set (NewLink local other)) found allowed = link_is_read who local other found.0 found.1 allowed
  event_is_read who (Media (Hear local on)) found allowed = hear_is_read who local on found allowed
  event_is_read who (Media (Talk local on)) found allowed = talk_is_read who local on found allowed
  event_is_read who (Tell told) found allowed = tell_is_read who told found.0 found.1 allowed
  event_is_read who (Take local) found allowed = absurd found
  event_is_read who (Retry local) found allowed = absurd found
  event_is_read who Shift found allowed = absurd found

pub printed_is_read : PrintedIsRead
printed_is_read names shape (Stimulus turn) found allowed = event_is_read names shape turn.who turn.event found allowed
printed_is_read names shape Settle found allowed = settle_is_read names shape

-- the word of a number is found as that number, in a list of names
is_found : (names : List (List ℕ)) (number : ℕ) → number < length names → AreNames names → IsFound names number
is_found names number within are = (are.spelt number within, found_again names number within are)

module _ (names : NameLists) (have : HaveNames names) where
  -- a slot and its box are found by their names
  slot_is_found : (who local : ℕ) → IsSlot names who local → IsFoundSlot names who local
  slot_is_found who local is = (is_found names.boxes who is.0 have.of_boxes, is_found (slot_names names who) local is.1 (have.of_slots who is.0))

  -- what an event names is found
  event_is_found : (who : ℕ) (event : Event) → IsNamedEvent names who event → IsFoundEvent names who event
  event_is_found who (Set (NewEnd local goal)) is = slot_is_found who local is
  event_is_found who (Set (NewLink local other)) is = (slot_is_found who local is.0, slot_is_found who other is.1)
  event_is_found who (Media (Hear local on)) is = slot_is_found who local is
  event_is_found who (Media (Talk local on)) is = slot_is_found who local is
  event_is_found who (Tell told) is = (is_found names.boxes who is.0 have.of_boxes, is_found names.told told is.1 have.of_told)
  event_is_found who (Take local) is = absurd is
  event_is_found who (Retry local) is = absurd is
  event_is_found who Shift is = absurd is

pub named_is_found : NamedIsFound
named_is_found names (Stimulus turn) have is = event_is_found names have turn.who turn.event is
named_is_found names Settle have is = tt
