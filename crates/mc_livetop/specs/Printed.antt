-- What is printed of a script that is run live: what `mediactl run` prints for its journal.
use Rattle.std.specs.Prelude.{ℕ, Bool, List, Option, Some, None}
use Rattle.mc_model.specs.Worlds.{WorldState}
use Rattle.mc_script.specs.declared.command.JournalLine.{JournalLine}
use Rattle.mc_script_end.specs.Printed.{journal_text, with_journal}
use Rattle.mc_seq.specs.declared.stopping.SettleStop.{SettleStop}
use Rattle.mc_settle_text.specs.Stops.{stop_line}
use Rattle.mc_text.specs.NameLists.{NameLists}

-- the settles that replaying a journal from a world gives, each with its paths, or for a stop that line alone
abbrev pub live_text : NameLists → WorldState → Option SettleStop → List JournalLine → List ℕ
live_text names world None journal = journal_text names 1 world journal
live_text names world (Some stop) journal = stop_line names world stop

-- and after that the journal, where it is asked for
abbrev pub live_output : (asked : Bool) → NameLists → WorldState → Option SettleStop → List JournalLine → List ℕ
live_output asked names world stop journal =
    with_journal asked stop names journal (live_text names world stop journal)
