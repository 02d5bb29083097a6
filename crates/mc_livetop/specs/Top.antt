-- What the top call promises.
use Rattle.std.specs.Prelude.{◌≡◌, ◌⊎◌, ℕ, Bool, List, [], map, IsFalse, None}
use Rattle.std.specs.declared.option.Option.{Option}
use Rattle.std.specs.Io.KnownBytes.{Keeps}
use Rattle.mc_call.specs.Calls.{Delivers, ToldDeclares, ToldFault}
use Rattle.mc_call.specs.Printed.{fault_line}
use Rattle.mc_call.specs.Statuses.{keeps_journal, stop_status}
use Rattle.mc_call.specs.declared.done.Done.{Done}
use Rattle.mc_call.specs.declared.status.TheConstants.{WORKED, FAULTY_TEXT, NO_MEMORY, READ_FAULT, RESTLESS, RING}
use Rattle.mc_lines.specs.declared.tail.Tail.TheVariants.{Nothing}
use Rattle.mc_livetop.specs.Journals.{IsLiveJournal, IsStoppedLive}
use Rattle.mc_livetop.specs.Printed.{live_output}
use Rattle.mc_livetop.specs.Shown.{ShowsLive}
use Rattle.mc_model.specs.Sound.{IsSound}
use Rattle.mc_net.specs.Nets.{batch_turns}
use Rattle.mc_net.specs.declared.net.Net.{Net}
use Rattle.mc_replay.specs.Journals.{HoldsAtSettles}
use Rattle.mc_script.specs.declared.command.JournalLine.{JournalLine}
use Rattle.mc_seq.specs.declared.stopping.SettleStop.{SettleStop}
use Rattle.mc_settle_text.specs.Stops.{stop_line}

-- The network that the text declares was settled, batch by batch, each in an order in which so many operators may have
-- asked for its commands, and what is printed for the worlds that replaying the journal gives was delivered, with the
-- journal where it is asked for.
--
-- The headline, for every network, script and interleaving of boxes and operators: each path line that is printed after
-- a settle is the table's answer for its two end goals
pub record WorkedLive (operators : ℕ) (asked : Bool) (told old new : Option (List ℕ)) (status : ℕ)
    (journal : List JournalLine) : Type 0 where
  pub net : Net
  pub declared : ToldDeclares Nothing told net
  pub sound : IsSound net.world
  pub settled : IsLiveJournal operators net.world (map batch_turns net.batches.items) journal
  pub holds : HoldsAtSettles net.world journal
  pub delivered : Delivers status WORKED old new (live_output asked net.names net.world None journal)

-- the text was refused, and the one line that names its first fault was delivered
pub record RefusedLive (told old new : Option (List ℕ)) (status : ℕ) (journal : List JournalLine) : Type 0 where
  pub number : ℕ
  pub line : ℕ
  pub fault : ToldFault Nothing told number line
  pub delivered : Delivers status FAULTY_TEXT old new (fault_line number line)
  pub no_journal : journal ≡ []

-- The script of the network that the text declares stopped, and the one line that says where was delivered. The journal
-- is the settled segments before, and the turns up to the stop. In what was settled after a phase no box makes more
-- Shifts than the limit; those that boxes made while they ran freely don't count towards it
pub record StopsLiveScript (operators : ℕ) (told old new : Option (List ℕ)) (status due : ℕ)
    (journal : List JournalLine) : Type 0 where
  pub net : Net
  pub stop : SettleStop
  pub declared : ToldDeclares Nothing told net
  pub due_is : due ≡ stop_status stop
  pub sound : IsSound net.world
  pub settled : IsStoppedLive operators stop net.world (map batch_turns net.batches.items) journal
  pub shows : ShowsLive operators stop net.world (map batch_turns net.batches.items)
  pub delivered : Delivers status due old new (stop_line net.names net.world stop)

-- what a live run printed and kept, for the text that it was told
pub record EndsLive (operators : ℕ) (asked : Bool) (told old new : Option (List ℕ)) (done : Done) : Type 0 where
  pub worked : done.due ≡ WORKED → WorkedLive operators asked told old new done.status done.journal.items
  pub refused : done.due ≡ FAULTY_TEXT
      → RefusedLive told old new done.status done.journal.items
      ⊎ StopsLiveScript operators told old new done.status done.due done.journal.items
  pub at_stop : (done.due ≡ RESTLESS) ⊎ (done.due ≡ RING)
      → StopsLiveScript operators told old new done.status done.due done.journal.items
  pub gave_up : (done.due ≡ NO_MEMORY) ⊎ (done.due ≡ READ_FAULT) → (done.status ≡ done.due) × Keeps old new
  pub no_journal : IsFalse (keeps_journal done.due) → done.journal.items ≡ []
