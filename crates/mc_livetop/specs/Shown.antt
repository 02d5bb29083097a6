-- What a stop shows of a script that is run live.
use Rattle.std.specs.Prelude.{◌≡◌, ℕ, List}
use Rattle.mc_box.specs.declared.event.Turn.{Turn}
use Rattle.mc_grown_rest.specs.Rests.{RestsByWords}
use Rattle.mc_laws.specs.Chains.{ClosesNoChain}
use Rattle.mc_laws.specs.Versions.{PassesLast}
use Rattle.mc_model.specs.Settles.{hears_in}
use Rattle.mc_model.specs.Unprogrammed.{HasNoPrograms}
use Rattle.mc_model.specs.Worlds.{WorldState}
use Rattle.mc_seq.specs.declared.stopping.SettleStop.{SettleStop}
use Rattle.mc_seq.specs.declared.stopping.SettleStop.TheVariants.{Restless, Ring, VersionEnd}
use Rattle.mc_settings.specs.Batches.{LeavesNoRing}

-- what a stop shows of the batches, in whichever orders their commands came: at the last version, that the version of
-- some slot in the first world and its Hears are more than that together; at a ring, that a chain can be closed of the
-- tunnels and of the links that are named; at a restless box, that some box has a program, and that not all go by
-- words, of which too few are told. Another order may leave other goals. So that these make a ring, where no box has a
-- program, it shows of a batch only where one operator asked
abbrev pub ShowsLive : (operators : ℕ) → SettleStop → WorldState → List (List Turn) → Type 0
ShowsLive operators (VersionEnd at) world batches = PassesLast world (λ who local. hears_in who local batches)
ShowsLive operators (Ring at) world batches =
    (operators ≡ 1 → HasNoPrograms world → LeavesNoRing world batches → ⊥) × (ClosesNoChain world batches → ⊥)
ShowsLive operators (Restless at) world batches = (HasNoPrograms world → ⊥) × (RestsByWords world batches → ⊥)
