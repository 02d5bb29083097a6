-- A batch that stopped when it was run live: what it stopped at has a name, and the script ends with it.
use Rattle.std.proofs.Common.{◌<◌, ℕ, List, drop, length, map, slice_index_or, subst, sym, ◌∙◌}
use Rattle.mc_box.proofs.Options.{then_some}
use Rattle.mc_box.specs.declared.event.Turn.{Turn}
use Rattle.mc_laws.proofs.Numbers.{number_is}
use Rattle.mc_laws.proofs.ShapesKept.{run_keeps_shape}
use Rattle.mc_live_settle.proofs.BehindLeft.{stops_live_in_order}
use Rattle.mc_live_settle.specs.Settles.{LiveStops}
use Rattle.mc_livetop.proofs.Running.{Came, GoesOn, stopped_at}
use Rattle.mc_model.specs.Shapes.{HasShape}
use Rattle.mc_model.specs.Sound.{IsSound}
use Rattle.mc_model.specs.Steps.{heard_local}
use Rattle.mc_model.specs.Worlds.{ChannelState, WorldState, number, places_among, slot_count}
use Rattle.mc_net.specs.Nets.{batch_turns}
use Rattle.mc_script.specs.declared.command.Batch.{Batch}
use Rattle.mc_script.specs.declared.command.JournalLine.{JournalLine}
use Rattle.mc_script_end.proofs.StopLines.{line_at}
use Rattle.mc_script_end.specs.Ends.{EndsBy}
use Rattle.mc_script_end.specs.declared.run.Run.{Run}
use Rattle.mc_seq.specs.declared.fault.SettleFault.{SettleFault}
use Rattle.mc_seq.specs.declared.fault.SettleFault.TheVariants.{NoMemory, Restless as NeverRests, Ring as AtRing, VersionEnd as EndsVersion}
use Rattle.mc_seq.specs.declared.fault.Stopped.{Stopped}
use Rattle.mc_seq.specs.declared.fault.StoppedBox.{StoppedBox}
use Rattle.mc_seq.specs.declared.stopping.SettleStop.TheVariants.{Restless, Ring, VersionEnd}
use Rattle.mc_settle_text.specs.Names.{HasNames, IsNamedFault, IsNamedPlace}
use Rattle.mc_settle_text.specs.Stops.{stop_word}
use Rattle.mc_text.specs.NameLists.{NameLists}

-- ---- names

-- a slot of a later world is one of the first
slot_stays : (world last : WorldState) (s : ℕ) → HasShape last world → s < slot_count last → s < slot_count world
slot_stays world last s shape inside = subst (λ (channels : List ChannelState). s < length (places_among channels)) shape.channels inside

version_named : (operators : ℕ) (names : NameLists) (world : WorldState) (batch : List Turn) (stop : Stopped) → IsSound world → HasNames names world → LiveStops operators world batch (EndsVersion stop) → IsNamedPlace names stop.place
version_named operators names world batch stop sound all (stops, there) =
    let s = stops_live_in_order operators world batch stop.turns.items (VersionEnd stop.at) stops in
    let one = then_some (number s.last s.cause.turn.who) (heard_local s.cause.turn.event) stop.at s.cause.slot in
    let shape = run_keeps_shape world s.last stop.turns.items sound s.stopped.runs in
    subst (IsNamedPlace names) (sym there) (all.slots stop.at (slot_stays world s.last stop.at shape (number_is s.last s.cause.turn.who one.0 stop.at one.2).0))

ring_named : (operators : ℕ) (names : NameLists) (world : WorldState) (batch : List Turn) (stop : Stopped) → IsSound world → HasNames names world → LiveStops operators world batch (AtRing stop) → IsNamedPlace names stop.place
ring_named operators names world batch stop sound all (stops, there) =
    let s = stops_live_in_order operators world batch stop.turns.items (Ring stop.at) stops in
    let shape = run_keeps_shape world s.last stop.turns.items sound s.stopped.runs in
    subst (IsNamedPlace names) (sym there) (all.slots stop.at (slot_stays world s.last stop.at shape s.cause.1.inside))

restless_named : (operators : ℕ) (names : NameLists) (world : WorldState) (batch : List Turn) (stop : StoppedBox) → IsSound world → HasNames names world → LiveStops operators world batch (NeverRests stop) → stop.at < length names.boxes
restless_named operators names world batch stop sound all stops =
    let s = stops_live_in_order operators world batch stop.turns.items (Restless stop.at) stops in
    let shape = run_keeps_shape world s.last stop.turns.items sound s.stopped.runs in
    subst (λ (n : ℕ). stop.at < n) (shape.boxes ∙ sym all.boxes) s.cause.1.first.inside

pub live_fault_named : (operators : ℕ) (names : NameLists) (world : WorldState) (batch : List Turn) (fault : SettleFault) → IsSound world → HasNames names world → LiveStops operators world batch fault → IsNamedFault names fault
live_fault_named operators names world batch (EndsVersion stop) sound all stops = version_named operators names world batch stop sound all stops
live_fault_named operators names world batch (AtRing stop) sound all stops = ring_named operators names world batch stop sound all stops
live_fault_named operators names world batch (NeverRests stop) sound all stops = restless_named operators names world batch stop sound all stops
live_fault_named operators names world batch (NoMemory e) sound all stops = tt

-- ---- the end

-- the script ends as its batch did
pub stopped_by : (operators : ℕ) (names : NameLists) (start now : WorldState) (all : List Batch) (i : ℕ) (none : Batch) (fault : SettleFault) (journal : List JournalLine) (text : List ℕ) (run : Run) → i < length all
    → LiveStops operators now (batch_turns (slice_index_or all i none)) fault → EndsBy names journal fault run
    → GoesOn operators names start (map batch_turns all) (map batch_turns (drop i all)) i now journal text → Came operators names start (map batch_turns all) run.stop run.journal.items run.output.items
stopped_by operators names start now all i none (EndsVersion stop) journal text run within (stops, there) ends on =
    stopped_at operators names start now all i none stop.turns.items (VersionEnd stop.at) journal text run within stops ends.journal
    (ends.output ∙ line_at names now (stop_word (VersionEnd stop.at)) stop.at stop.place there) ends.is on
stopped_by operators names start now all i none (AtRing stop) journal text run within (stops, there) ends on =
    stopped_at operators names start now all i none stop.turns.items (Ring stop.at) journal text run within stops ends.journal
    (ends.output ∙ line_at names now (stop_word (Ring stop.at)) stop.at stop.place there) ends.is on
stopped_by operators names start now all i none (NeverRests stop) journal text run within stops ends on =
    stopped_at operators names start now all i none stop.turns.items (Restless stop.at) journal text run within stops ends.journal ends.output ends.is on
stopped_by operators names start now all i none (NoMemory e) journal text run within stops ends on = absurd ends
