-- The entries of a journal as the merge law sees them: with the box after each.
use Rattle.std.specs.Prelude.{List, [], ◌∷◌, Option}
use Rattle.std.specs.Option.{option_map}
use Rattle.mc_signal.specs.declared.Tagged.{Tagged}
use Rattle.mc_merge.specs.Logs.{Own}
use Rattle.mc_port.specs.declared.stamped.Stamped.{Stamped}
use Rattle.mc_shard.specs.Journals.{EntryState}
use Rattle.mc_shard.specs.States.{ShardState, after_entry, step_in}
use Rattle.mc_shard.specs.declared.entry.AtEnd.{AtEnd}
use Rattle.mc_shard.specs.declared.entry.Numbered.{Numbered}

-- a signal without its number
abbrev pub stamped : Numbered → Stamped
stamped item = record { stamp = item.stamp; tunnel = item.tunnel; signal = item.signal }

-- and without its stamp
abbrev pub tagged : Numbered → Tagged
tagged item = record { tunnel = item.tunnel; signal = item.signal }

abbrev pub tagged_in : Option AtEnd → Option Tagged
tagged_in taken = option_map (λ one. tagged one.item) taken

abbrev pub own_of : ShardState → EntryState → Own
own_of state entry = record {
  who = entry.who;
  entry = record {
    stamp = entry.stamp;
    event = entry.event;
    taken = tagged_in entry.taken;
    sent = (step_in state entry).sent;
    after = (step_in state entry).after;
  };
}

-- all entries, in order
abbrev pub owns : ShardState → List EntryState → List Own
owns state [] = []
owns state (entry ∷ entries) = own_of state entry ∷ owns (after_entry state entry) entries
