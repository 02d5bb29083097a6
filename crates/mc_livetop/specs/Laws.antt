-- Laws of scripts that are run live.
use Rattle.std.specs.Prelude.{ℕ, ◌<◌, List, map}
use Rattle.mc_box.specs.declared.event.Turn.{Turn}
use Rattle.mc_live_settle.specs.Orders.{AreOrdersOf}
use Rattle.mc_lines.specs.declared.tail.Tail.TheVariants.{Nothing}
use Rattle.mc_livetop.specs.Journals.{IsStoppedLive}
use Rattle.mc_livetop.specs.Shown.{ShowsLive}
use Rattle.mc_livetop.specs.Texts.{CanRunLive}
use Rattle.mc_model.specs.Sound.{IsSound}
use Rattle.mc_model.specs.Worlds.{WorldState}
use Rattle.mc_net.specs.Nets.{DeclaresNet, batch_turns}
use Rattle.mc_net.specs.declared.net.Net.{Net}
use Rattle.mc_replay.specs.Journals.{IsJournal}
use Rattle.mc_script.specs.declared.command.JournalLine.{JournalLine}
use Rattle.mc_seq.specs.declared.stopping.SettleStop.{SettleStop}

-- where one operator asks, a journal of the orders is one of the batches themselves
abbrev pub OneOperatorSettlesBatches : Type 0
OneOperatorSettlesBatches =
    (world : WorldState) (batches orders : List (List Turn)) (journal : List JournalLine)
    → AreOrdersOf 1 batches orders → IsJournal world orders journal → IsJournal world batches journal

-- whatever a script stops at that is run live shows its cause
abbrev pub LiveStopsShowCause : Type 0
LiveStopsShowCause =
    (operators : ℕ) (stop : SettleStop) (batches : List (List Turn)) (world : WorldState) (journal : List JournalLine)
    → 0 < operators → IsSound world → IsStoppedLive operators stop world batches journal
    → ShowsLive operators stop world batches

-- and none does in the network of a text that can be run live
abbrev pub LiveNeverStop : Type 0
LiveNeverStop =
    (operators : ℕ) (stop : SettleStop) (text : List ℕ) (net : Net) → CanRunLive operators text
    → DeclaresNet Nothing text net → ShowsLive operators stop net.world (map batch_turns net.batches.items) → ⊥
