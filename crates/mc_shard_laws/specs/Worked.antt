-- Two phones, each in a shard of its own, computed by the definitions alone: so what the laws ask for can be had.
use Rattle.std.specs.Prelude.{◌≡◌, ℕ, zero, suc, List, [], ◌∷◌, map, slice_get, Option, None}
use Rattle.mc_signal.specs.declared.Tagged.{Tagged}
use Rattle.mc_slot.specs.declared.Goal.TheVariants.{Open as ToOpen, Hold as ToHold}
use Rattle.mc_box.specs.Boxes.{BoxState}
use Rattle.mc_box.specs.declared.event.Event.{Event}
use Rattle.mc_box.specs.declared.event.Turn.{Turn}
use Rattle.mc_laws.specs.Exchanges.{alice, bob, sets, takes, two_phones}
use Rattle.mc_port.specs.Entries.{Entry}
use Rattle.mc_model.specs.Worlds.{box_at}
use Rattle.mc_merge.specs.Logs.{own_log}
use Rattle.mc_merge.specs.Order.{turns_of}
use Rattle.mc_merge.specs.Together.{Homes}
use Rattle.mc_shard.specs.Journals.{EntryState, sent_at, taken_at}
use Rattle.mc_shard_laws.specs.Logs.{tagged}
use Rattle.mc_shard_laws.specs.Merged.{AreNamed, entries_in, merged_journals}
use Rattle.mc_shard.specs.States.{Places, ShardState, after_entry, box_in, none_reached, numbered, places_of, step_in}
use Rattle.mc_shard_laws.specs.Together.{AreShardsOf, Journalled, state_of, under_way}
use Rattle.mc_shard.specs.declared.entry.AtEnd.{AtEnd}

-- one slot, at end 0, with tunnel 0
abbrev pub one_place : Places
one_place = ((0, 0) ∷ []) ∷ []

abbrev pub one_box : ℕ → ShardState
one_box who = record {
  boxes = box_at two_phones who ∷ [];
  stamp = 0;
  sent = none_reached ∷ [];
  taken = none_reached ∷ [];
  asked = [];
}

-- the entry that the box makes of an event
abbrev pub entry_of : ShardState → ℕ → Event → Option AtEnd → EntryState
entry_of state stamp event taken =
    let bare : EntryState = record { who = 0; stamp = stamp; event = event; asked = None; taken = taken; sent = [] } in
    record bare { sent = numbered (places_of one_place 0) stamp state.sent (step_in state bare).sent }

-- alice opens, and bob holds; bob takes the open, and alice his answer
abbrev pub alice_opens : EntryState
alice_opens = entry_of (one_box 0) 1 (sets ToOpen) None

abbrev pub bob_holds : EntryState
bob_holds = entry_of (one_box 1) 1 (sets ToHold) None

abbrev pub bob_takes : EntryState
bob_takes = entry_of (after_entry (one_box 1) bob_holds) 2 takes (slice_get alice_opens.sent 0)

abbrev pub alice_takes : EntryState
alice_takes = entry_of (after_entry (one_box 0) alice_opens) 3 takes (slice_get bob_takes.sent 0)

abbrev pub two_shards : ℕ → Journalled
two_shards zero = record { places = one_place; first = one_box 0; journal = alice_opens ∷ alice_takes ∷ [] }
two_shards (suc zero) = record { places = one_place; first = one_box 1; journal = bob_holds ∷ bob_takes ∷ [] }
two_shards (suc (suc more)) = record {
  places = [];
  first = record { boxes = []; stamp = 0; sent = []; taken = []; asked = [] };
  journal = [];
}

abbrev pub two_homes : Homes
two_homes who = (who, 0)

abbrev pub two_names : ℕ → ℕ → ℕ
two_names shard at = shard

abbrev pub two_logs : List (List Entry)
two_logs = own_log 0 (entries_in (two_shards 0)) ∷ own_log 0 (entries_in (two_shards 1)) ∷ []

abbrev pub two_boxes : List BoxState
two_boxes = box_in (state_of (two_shards 0)) 0 ∷ box_in (state_of (two_shards 1)) 0 ∷ []

-- what is left from bob to alice, and from alice to bob
abbrev pub left_from : ℕ → ℕ → List Tagged
left_from from to = map tagged (under_way (taken_at 0 (two_shards to).journal) (sent_at 0 (two_shards from).journal))

abbrev pub two_rests : List (List Tagged)
two_rests = left_from 1 0 ∷ left_from 0 1 ∷ []

abbrev pub four_turns : List Turn
four_turns = bob (sets ToHold) ∷ alice (sets ToOpen) ∷ bob takes ∷ alice takes ∷ []

pub record WorkedShards : Type 0 where
  pub are : AreShardsOf two_phones two_homes two_shards two_logs two_boxes two_rests
  pub named_are : AreNamed 2 2 two_names two_homes two_shards
  pub turns : turns_of (merged_journals 2 two_names two_shards) ≡ four_turns
