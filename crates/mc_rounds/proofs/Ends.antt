-- What a settle answers, by how its turns ended.
use Rattle.std.proofs.Common.{◌≡◌, ℕ, List, Result, Ok, Err, IfOk, IfErr, Option, Some, None, slice_index_or, ap, sym, ◌∙◌, subst}
use Rattle.std.specs.declared.alloc.Global.{Global}
use Rattle.std.specs.declared.vec.Vec.{Vec}
use Rattle.mc_box.specs.declared.event.Turn.{Turn}
use Rattle.mc_laws.proofs.ShapesKept.{run_keeps_shape}
use Rattle.mc_model.specs.Settles.{IsSettled, IsStopped}
use Rattle.mc_model.specs.Sound.{IsSound}
use Rattle.mc_model.specs.Steps.{run}
use Rattle.mc_model.specs.Worlds.{ChannelState, WorldState, place, places_among}
use Rattle.mc_divided.specs.Networks.{IsDividedNetwork, network_state}
use Rattle.mc_divided.specs.declared.network.DividedNetwork.{DividedNetwork}
use Rattle.mc_seq.specs.Places.{IsPlaced}
use Rattle.mc_seq.specs.ShiftLimit.{KeepsShiftLimit}
use Rattle.mc_seq.specs.declared.fault.SettleFault.{SettleFault}
use Rattle.mc_seq.specs.declared.fault.SettleFault.TheVariants.{NoMemory, Restless, Ring, VersionEnd}
use Rattle.mc_seq.specs.declared.fault.Stopped.{Stopped}
use Rattle.mc_seq.specs.declared.fault.StoppedBox.{StoppedBox}
use Rattle.mc_seq.specs.declared.stopping.SettleStop.{SettleStop}
use Rattle.mc_seq.specs.declared.stopping.SettleStop.TheVariants as stops
use Rattle.mc_rounds.specs.Answers.{Answered, TellsSlot}
use Rattle.mc_rounds.specs.Settling.{EndsSettle, SettlesInLimit}
use Rattle.mc_rounds.specs.Stops.{Stops, StopsAtLast, StopsOnRing, StopsUnrested}

-- a settle from this world ended so, in this network
pub record EndsAs (world : WorldState) (batch : List Turn) (network : DividedNetwork) (turns : Vec Turn Global)
    (ending : Option SettleStop) : Type 0 where
  pub sound : IsSound world
  pub divided : IsDividedNetwork network
  pub ended : EndsSettle world batch turns.items (network_state network).world ending

-- a run leaves the place of each slot
place_stays : (world last : WorldState) (turns : List Turn) (slot : ℕ) → IsSound world → run world turns ≡ Some last
    → place last slot ≡ place world slot
place_stays world last turns slot sound goes =
    ap (λ (channels : List ChannelState). slice_index_or (places_among channels) slot (0, 0))
    (run_keeps_shape world last turns sound goes).channels

-- so what is told of a slot has the place that it had
told_place : (world last : WorldState) (batch turns : List Turn) (at : ℕ) (stop : Stopped) → IsSound world
    → IsStopped world batch turns last → TellsSlot last turns at stop → IsPlaced world stop
told_place world last batch turns at stop sound stopped tells =
    tells.place_is ∙ (place_stays world last turns at sound stopped.runs ∙ ap (place world) (sym tells.at_is))

-- ---- the answers

-- what is answered of a settled batch
pub record Settles (world : WorldState) (batch : List Turn) (done : DividedNetwork × Vec Turn Global) : Type 0 where
  pub divided : IsDividedNetwork done.0
  pub settles : SettlesInLimit world batch done.1.items (network_state done.0).world

-- at rest the batch is settled, within the limit of Shifts
answers_rest : (ending : Option SettleStop) (world : WorldState) (batch : List Turn) (network : DividedNetwork)
    (turns : Vec Turn Global) (done : DividedNetwork × Vec Turn Global) → EndsAs world batch network turns ending
    → Answered network turns ending (Ok done) → Settles world batch done
answers_rest None world batch network turns done ends answered =
    subst (Settles world batch) (sym answered) (record { divided = ends.divided; settles = ends.ended })
answers_rest (Some (stops.Ring at)) world batch network turns done ends answered = absurd answered
answers_rest (Some (stops.Restless at)) world batch network turns done ends answered = absurd answered
answers_rest (Some (stops.VersionEnd at)) world batch network turns done ends answered = absurd answered

-- at a ring the first slot on one is told
answers_ring : (ending : Option SettleStop) (world : WorldState) (batch : List Turn) (network : DividedNetwork)
    (turns : Vec Turn Global) (stop : Stopped) → EndsAs world batch network turns ending
    → Answered network turns ending (Err (Ring stop)) → Stops world batch (Ring stop)
answers_ring None world batch network turns stop ends answered = absurd answered
answers_ring (Some (stops.Ring at)) world batch network turns stop ends answered = (
  subst (λ (a : ℕ). StopsOnRing world batch stop.turns.items a) (sym answered.at_is)
      (subst (λ (t : List Turn). StopsOnRing world batch t at) (sym answered.turns_are)
      (record {
        last = (network_state network).world;
        stopped = ends.ended.0;
        shift_limit = ends.ended.3;
        used_up = ends.ended.1;
        least = ends.ended.2;
      })),
  told_place world (network_state network).world batch turns.items at stop ends.sound ends.ended.0 answered,
)
answers_ring (Some (stops.Restless at)) world batch network turns stop ends answered = absurd answered
answers_ring (Some (stops.VersionEnd at)) world batch network turns stop ends answered = absurd answered

-- where a box never came to rest that box is told
answers_restless : (ending : Option SettleStop) (world : WorldState) (batch : List Turn) (network : DividedNetwork)
    (turns : Vec Turn Global) (stop : StoppedBox) → EndsAs world batch network turns ending
    → Answered network turns ending (Err (Restless stop)) → Stops world batch (Restless stop)
answers_restless None world batch network turns stop ends answered = absurd answered
answers_restless (Some (stops.Ring at)) world batch network turns stop ends answered = absurd answered
answers_restless (Some (stops.Restless at)) world batch network turns stop ends answered =
    subst (λ (a : ℕ). StopsUnrested world batch stop.turns.items a) (sym answered.at_is)
    (subst (λ (t : List Turn). StopsUnrested world batch t at) (sym answered.turns_are)
    (record {
      last = (network_state network).world;
      stopped = ends.ended.0;
      shift_limit = ends.ended.3;
      used_up = ends.ended.1;
      restless = ends.ended.2;
    }))
answers_restless (Some (stops.VersionEnd at)) world batch network turns stop ends answered = absurd answered

-- at a last version the slot whose Hear is next is told
answers_version : (ending : Option SettleStop) (world : WorldState) (batch : List Turn) (network : DividedNetwork)
    (turns : Vec Turn Global) (stop : Stopped) → EndsAs world batch network turns ending
    → Answered network turns ending (Err (VersionEnd stop)) → Stops world batch (VersionEnd stop)
answers_version None world batch network turns stop ends answered = absurd answered
answers_version (Some (stops.Ring at)) world batch network turns stop ends answered = absurd answered
answers_version (Some (stops.Restless at)) world batch network turns stop ends answered = absurd answered
answers_version (Some (stops.VersionEnd at)) world batch network turns stop ends answered = (
  subst (λ (a : ℕ). StopsAtLast world batch stop.turns.items a) (sym answered.at_is)
      (subst (λ (t : List Turn). StopsAtLast world batch t at) (sym answered.turns_are)
      (record {
        last = (network_state network).world;
        stopped = ends.ended.0;
        shift_limit = ends.ended.2;
        meets = ends.ended.1;
      })),
  told_place world (network_state network).world batch turns.items at stop ends.sound ends.ended.0 answered,
)

-- so each fault tells its cause
answers_fault : (fault : SettleFault) (ending : Option SettleStop) (world : WorldState) (batch : List Turn) (network : DividedNetwork)
    (turns : Vec Turn Global) → EndsAs world batch network turns ending
    → Answered network turns ending (Err fault) → Stops world batch fault
answers_fault (Ring stop) ending world batch network turns ends answered =
    answers_ring ending world batch network turns stop ends answered
answers_fault (Restless stop) ending world batch network turns ends answered =
    answers_restless ending world batch network turns stop ends answered
answers_fault (VersionEnd stop) ending world batch network turns ends answered =
    answers_version ending world batch network turns stop ends answered
answers_fault (NoMemory e) ending world batch network turns ends answered = tt

-- at rest it is settled
answers_settled : (result : Result (DividedNetwork × Vec Turn Global) SettleFault) (ending : Option SettleStop) (world : WorldState)
    (batch : List Turn) (network : DividedNetwork) (turns : Vec Turn Global) → EndsAs world batch network turns ending
    → Answered network turns ending result → IfOk result (Settles world batch)
answers_settled (Ok done) ending world batch network turns ends answered =
    answers_rest ending world batch network turns done ends answered
answers_settled (Err fault) ending world batch network turns ends answered = tt

-- and else its cause is told
pub answers_stops : (result : Result (DividedNetwork × Vec Turn Global) SettleFault) (ending : Option SettleStop) (world : WorldState)
    (batch : List Turn) (network : DividedNetwork) (turns : Vec Turn Global) → EndsAs world batch network turns ending
    → Answered network turns ending result → IfErr result (Stops world batch)
answers_stops (Ok done) ending world batch network turns ends answered = tt
answers_stops (Err fault) ending world batch network turns ends answered =
    answers_fault fault ending world batch network turns ends answered

-- ---- by parts

settles_parts : {A : Type 0} (P : A → Type 0) (Q : A → Type 0) (result : Result A SettleFault)
    → ((done : A) → P done → Q done)
    → IfOk result P → IfOk result Q
settles_parts P Q (Ok done) gives settles = gives done settles
settles_parts P Q (Err fault) gives settles = tt

pub answers_divided : (result : Result (DividedNetwork × Vec Turn Global) SettleFault) (ending : Option SettleStop) (world : WorldState)
    (batch : List Turn) (network : DividedNetwork) (turns : Vec Turn Global) → EndsAs world batch network turns ending
    → Answered network turns ending result → IfOk result (λ done. IsDividedNetwork done.0)
answers_divided result ending world batch network turns ends answered =
    settles_parts (Settles world batch) (λ done. IsDividedNetwork done.0) result (λ done settles. settles.divided)
    (answers_settled result ending world batch network turns ends answered)

pub answers_done : (result : Result (DividedNetwork × Vec Turn Global) SettleFault) (ending : Option SettleStop) (world : WorldState)
    (batch : List Turn) (network : DividedNetwork) (turns : Vec Turn Global) → EndsAs world batch network turns ending
    → Answered network turns ending result
    → IfOk result (λ done. IsSettled world batch done.1.items (network_state done.0).world)
answers_done result ending world batch network turns ends answered =
    settles_parts (Settles world batch) (λ done. IsSettled world batch done.1.items (network_state done.0).world) result
    (λ done settles. settles.settles.settled)
    (answers_settled result ending world batch network turns ends answered)

pub answers_limit : (result : Result (DividedNetwork × Vec Turn Global) SettleFault) (ending : Option SettleStop) (world : WorldState)
    (batch : List Turn) (network : DividedNetwork) (turns : Vec Turn Global) → EndsAs world batch network turns ending
    → Answered network turns ending result → IfOk result (λ done. KeepsShiftLimit done.1.items)
answers_limit result ending world batch network turns ends answered =
    settles_parts (Settles world batch) (λ done. KeepsShiftLimit done.1.items) result
    (λ done settles. settles.settles.shift_limit)
    (answers_settled result ending world batch network turns ends answered)
