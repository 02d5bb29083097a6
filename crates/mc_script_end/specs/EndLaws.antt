-- Laws of the ends of scripts.
use Rattle.std.specs.Prelude.{ℕ, List, map, Option, Some}
use Rattle.mc_box.specs.declared.event.Turn.{Turn}
use Rattle.mc_lines.specs.SoFar.{Declared}
use Rattle.mc_lines.specs.declared.tail.Tail.TheVariants.{Nothing}
use Rattle.mc_model.specs.Sound.{IsSound}
use Rattle.mc_model.specs.Worlds.{WorldState}
use Rattle.mc_net.specs.Nets.{DeclaresNet, batch_turns}
use Rattle.mc_net.specs.Texts.{Says}
use Rattle.mc_net.specs.Versions.{MeetsNoLast}
use Rattle.mc_net.specs.declared.net.Net.{Net}
use Rattle.mc_replay.specs.Journals.{HoldsAtSettles}
use Rattle.mc_script.specs.declared.command.JournalLine.{JournalLine}
use Rattle.mc_script_end.specs.Journals.{IsJournalTo, ShowsCause}
use Rattle.mc_script_end.specs.Rings.{AlwaysRests}
use Rattle.mc_seq.specs.declared.stopping.SettleStop.{SettleStop}

-- at each settle of a journal the paths are as the table says, also where the script stopped
abbrev pub ScriptsHold : Type 0
ScriptsHold =
    (stop : Option SettleStop) (batches : List (List Turn)) (world : WorldState) (journal : List JournalLine)
    → IsSound world → IsJournalTo stop world batches journal → HoldsAtSettles world journal

-- whatever a script stops at shows its cause
abbrev pub StopsShowCause : Type 0
StopsShowCause =
    (stop : Option SettleStop) (batches : List (List Turn)) (world : WorldState) (journal : List JournalLine)
    → IsSound world → IsJournalTo stop world batches journal → ShowsCause stop world batches

-- and none does in the network of a text whose batches come to rest, and in which no Hear meets the last version
abbrev pub RestfulNeverStop : Type 0
RestfulNeverStop =
    (stop : SettleStop) (text : List ℕ) (d : Declared) (net : Net) → Says Nothing text d → MeetsNoLast d
    → AlwaysRests d → DeclaresNet Nothing text net
    → ShowsCause (Some stop) net.world (map batch_turns net.batches.items) → ⊥
