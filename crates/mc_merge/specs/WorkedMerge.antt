-- Two phones' logs, and their merge, computed by the definitions alone.
use Rattle.std.specs.Prelude.{◌≡◌, ℕ, List, [], ◌∷◌, drop, slice_get, Option, Some, None}
use Rattle.std.specs.Option.{option_map, unwrap_or}
use Rattle.mc_signal.specs.declared.Tagged.{Tagged}
use Rattle.mc_slot.specs.declared.Goal.TheVariants.{Open as ToOpen, Hold as ToHold}
use Rattle.mc_box.specs.BoxEvents.{box_event}
use Rattle.mc_box.specs.Boxes.{BoxState}
use Rattle.mc_box.specs.declared.event.Event.{Event}
use Rattle.mc_box.specs.declared.event.Turn.{Turn}
use Rattle.mc_laws.specs.Exchanges.{alice, bob, sets, takes, two_phones}
use Rattle.mc_port.specs.Entries.{Claimed, Entry, signal_in}
use Rattle.mc_merge.specs.Claims.{IsClaimed}
use Rattle.mc_merge.specs.LaneLogs.{sent_to}
use Rattle.mc_merge.specs.Merging.{IsLogged, merged}
use Rattle.mc_model.specs.Steps.{after, run}
use Rattle.mc_model.specs.Worlds.{WorldState, box_at}
use Rattle.mc_order.specs.Keys.{IsOrdered}
use Rattle.mc_order.specs.declared.Key.{Key}
use Rattle.mc_port.specs.declared.stamped.Stamped.{Stamped}

-- ---- entries

-- what a box logs of an event that it can make
abbrev pub entry_of : BoxState → ℕ → Event → Option Tagged → Entry
entry_of box stamp event taken =
    let step = unwrap_or (box_event box event (signal_in taken)) (record { sent = []; after = box }) in
    record { stamp = stamp; event = event; taken = taken; sent = step.sent; after = step.after }

-- the first that it sends, by tunnel 0
abbrev pub first_sent : Entry → Option Tagged
first_sent entry = option_map (λ sending. record { tunnel = 0; signal = sending.1 }) (slice_get entry.sent 0)

-- alice opens, and bob holds; bob takes the open, and alice his answer
abbrev pub alice_opens : Entry
alice_opens = entry_of (box_at two_phones 0) 1 (sets ToOpen) None

abbrev pub bob_holds : Entry
bob_holds = entry_of (box_at two_phones 1) 1 (sets ToHold) None

abbrev pub bob_takes : Entry
bob_takes = entry_of bob_holds.after 2 takes (first_sent alice_opens)

abbrev pub alice_takes : Entry
alice_takes = entry_of alice_opens.after 3 takes (first_sent bob_takes)

-- ---- logs

abbrev pub two_logs : List (List Entry)
two_logs = (alice_opens ∷ alice_takes ∷ []) ∷ (bob_holds ∷ bob_takes ∷ []) ∷ []

abbrev pub key_of : ℕ → ℕ → ℕ → Key
key_of stamp who index = record { stamp = stamp; who = who; index = index }

abbrev pub four_keys : List Key
four_keys = key_of 1 0 0 ∷ key_of 1 1 0 ∷ key_of 2 1 1 ∷ key_of 3 0 1 ∷ []

abbrev pub four_turns : List Turn
four_turns = alice (sets ToOpen) ∷ bob (sets ToHold) ∷ bob takes ∷ alice takes ∷ []

abbrev pub last_world : WorldState
last_world = after two_phones four_turns

-- the same logs with claims: bob's answer has the stamp 2, and the open the stamp 1
abbrev pub with_claim : ℕ → Entry → Claimed
with_claim stamp entry = record { entry = entry; claim = stamp }

abbrev pub claimed_logs : List (List Claimed)
claimed_logs =
    (with_claim 0 alice_opens ∷ with_claim 2 alice_takes ∷ []) ∷ (with_claim 0 bob_holds ∷ with_claim 1 bob_takes ∷ [])
    ∷ []

-- one signal was taken from each lane
abbrev pub left_over : List (List Stamped)
left_over = drop 1 (sent_to two_phones two_logs 0) ∷ drop 1 (sent_to two_phones two_logs 1) ∷ []

-- the logs are such as the merge law asks for, and the turns are those of the keys; box by box they are no run
pub record WorkedMerge : Type 0 where
  pub claims : IsClaimed two_phones claimed_logs last_world.boxes left_over
  pub logs : IsLogged two_phones two_logs last_world.boxes last_world.lanes
  pub order : IsOrdered ((1 ∷ 3 ∷ []) ∷ (1 ∷ 2 ∷ []) ∷ []) four_keys
  pub turns : merged two_logs four_keys ≡ four_turns
  pub runs : run two_phones four_turns ≡ Some last_world
  pub alice_first : run two_phones (alice (sets ToOpen) ∷ alice takes ∷ bob (sets ToHold) ∷ bob takes ∷ []) ≡ None
  pub bob_first : run two_phones (bob (sets ToHold) ∷ bob takes ∷ alice (sets ToOpen) ∷ alice takes ∷ []) ≡ None
