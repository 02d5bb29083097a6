-- What a settle stops at has a name.
use Rattle.std.proofs.Common.{◌≡◌, ◌<◌, ◌∙◌, ℕ, List, length, subst, sym}
use Rattle.mc_box.specs.declared.event.Turn.{Turn}
use Rattle.mc_box.proofs.Options.{then_some}
use Rattle.mc_laws.proofs.Numbers.{number_is}
use Rattle.mc_laws.proofs.ShapesKept.{run_keeps_shape}
use Rattle.mc_model.specs.Shapes.{HasShape}
use Rattle.mc_model.specs.Sound.{IsSound}
use Rattle.mc_model.specs.Steps.{heard_local}
use Rattle.mc_model.specs.Worlds.{ChannelState, WorldState, number, places_among, slot_count}
use Rattle.mc_rounds.specs.Stops.{Stops}
use Rattle.mc_seq.specs.declared.fault.SettleFault.{SettleFault}
use Rattle.mc_seq.specs.declared.fault.SettleFault.TheVariants.{NoMemory, Restless as NeverRests, Ring as AtRing, VersionEnd as EndsVersion}
use Rattle.mc_seq.specs.declared.fault.Stopped.{Stopped}
use Rattle.mc_seq.specs.declared.fault.StoppedBox.{StoppedBox}
use Rattle.mc_settle_text.specs.Names.{HasNames, IsNamedFault, IsNamedPlace}
use Rattle.mc_text.specs.NameLists.{NameLists}

-- a slot of a later world is one of the first
slot_stays : (world last : WorldState) (s : ℕ) → HasShape last world → s < slot_count last → s < slot_count world
slot_stays world last s shape inside = subst (λ (channels : List ChannelState). s < length (places_among channels)) shape.channels inside

-- so has that of a slot at which a settle stops at the last version
version_named : (names : NameLists) (world : WorldState) (batch : List Turn) (stop : Stopped) → IsSound world → HasNames names world → Stops world batch (EndsVersion stop) → IsNamedPlace names stop.place
version_named names world batch stop sound all (stops, there) =
    let one = then_some (number stops.last stops.meets.turn.who) (heard_local stops.meets.turn.event) stop.at stops.meets.slot in
    let shape = run_keeps_shape world stops.last stop.turns.items sound stops.stopped.runs in
    subst (IsNamedPlace names) (sym there)
    (all.slots stop.at (slot_stays world stops.last stop.at shape (number_is stops.last stops.meets.turn.who one.0 stop.at one.2).0))

-- or at a ring
ring_named : (names : NameLists) (world : WorldState) (batch : List Turn) (stop : Stopped) → IsSound world → HasNames names world → Stops world batch (AtRing stop) → IsNamedPlace names stop.place
ring_named names world batch stop sound all (stops, there) =
    let shape = run_keeps_shape world stops.last stop.turns.items sound stops.stopped.runs in
    subst (IsNamedPlace names) (sym there) (all.slots stop.at (slot_stays world stops.last stop.at shape stops.least.inside))

-- the box of a settle that doesn't come to rest has a name
restless_named : (names : NameLists) (world : WorldState) (batch : List Turn) (stop : StoppedBox) → IsSound world → HasNames names world → Stops world batch (NeverRests stop) → stop.at < length names.boxes
restless_named names world batch stop sound all stops =
    let shape = run_keeps_shape world stops.last stop.turns.items sound stops.stopped.runs in
    subst (λ (n : ℕ). stop.at < n) (shape.boxes ∙ sym all.boxes) stops.restless.first.inside

-- so whatever a settle stops at is named
pub fault_named : (names : NameLists) (world : WorldState) (batch : List Turn) (fault : SettleFault) → IsSound world → HasNames names world → Stops world batch fault → IsNamedFault names fault
fault_named names world batch (EndsVersion stop) sound all stops = version_named names world batch stop sound all stops
fault_named names world batch (AtRing stop) sound all stops = ring_named names world batch stop sound all stops
fault_named names world batch (NeverRests stop) sound all stops = restless_named names world batch stop sound all stops
fault_named names world batch (NoMemory e) sound all stops = tt
