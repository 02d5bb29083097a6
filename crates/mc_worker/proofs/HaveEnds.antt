-- Each signal that a box sends is of a slot that has a channel end.
use Rattle.std.proofs.Common.{◌≡◌, ℕ, ◌<◌, ◌==◌, true, All, List, [], ◌∷◌, length, slice_get, slice_index_or, Some, refl, sym, ◌∙◌, subst, arith}
use Rattle.std.proofs.Math.ListN.{get_or}
use Rattle.std.proofs.lemmas.List.Elements.{All-cons, All-nil}
use Rattle.std.proofs.lemmas.Option.{slice_get-get_or}
use Rattle.mc_signal.specs.declared.Signal.{Signal}
use Rattle.mc_box.proofs.Events.{event_keeps_sound}
use Rattle.mc_box.proofs.FromSlots.{event_sends_from_slots}
use Rattle.mc_port.specs.Entries.{Entry, signal_in}
use Rattle.mc_worker.specs.Account.{HasEnd, SendingsHaveEnds}
use Rattle.mc_worker.specs.Places.{AreAtEnds}
use Rattle.mc_worker.proofs.Shapes.{event_same, same_slots}

-- a slot that is there has the tunnel of its place, at that place's end
slot_has_end : (count : ℕ) (places : List (ℕ × ℕ)) (slot : ℕ) → slot < length places → AreAtEnds count places → HasEnd count places slot
slot_has_end count places slot inside at =
    let place = get_or places slot (0, 0) in
    let here : slice_get places slot ≡ Some place = slice_get-get_or places slot (0, 0) inside in
    record {
      end = place.0;
      tunnel = place.1;
      there = at slot place here;
      at = rw (here, self_is place.0) refl;
    }
  where
    self_is : (n : ℕ) → (n == n) ≡ true
    self_is n = grind arith

-- the sendings of one event
sendings_have : (count : ℕ) (places : List (ℕ × ℕ)) (slots : ℕ) (sent : List (ℕ × Signal)) → length places ≡ slots → AreAtEnds count places
    → All (λ (sending : ℕ × Signal). sending.0 < slots) sent → All (λ (sending : ℕ × Signal). HasEnd count places sending.0) sent
sendings_have count places slots sent long at below = λ k d inside. slot_has_end count places _ (subst (λ (n : ℕ). (slice_index_or sent k d).0 < n) (sym long) (below k d inside)) at

pub sendings_have_ends : SendingsHaveEnds
sendings_have_ends count places box last [] sound long at made = All-nil (λ (entry : Entry). All (λ (sending : ℕ × Signal). HasEnd count places sending.0) entry.sent)
sendings_have_ends count places box last (entry ∷ entries) sound long at made =
    let same : length entry.after.slots ≡ length box.slots = same_slots box entry.after (event_same box entry.event (signal_in entry.taken) _ sound made.0) in
    All-cons (λ (entry : Entry). All (λ (sending : ℕ × Signal). HasEnd count places sending.0) entry.sent) entry entries
    (sendings_have count places (length box.slots) entry.sent long at (event_sends_from_slots box entry.event (signal_in entry.taken) _ sound made.0))
    (sendings_have_ends count places entry.after last entries (event_keeps_sound box entry.event (signal_in entry.taken) _ sound made.0) (long ∙ sym same) at made.1)
