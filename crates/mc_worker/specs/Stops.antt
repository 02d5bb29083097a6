-- How an event ends a round that it can't be made in.
use Rattle.mc_box.specs.declared.event.Event.{Event}
use Rattle.mc_box.specs.declared.event.Event.TheVariants.{Media}
use Rattle.mc_box.specs.declared.event.MediaChange.TheVariants.{Hear}
use Rattle.mc_worker.specs.declared.stop.Stop.{Stop}
use Rattle.mc_worker.specs.declared.stop.Stop.TheVariants.{Rested, VersionEnd}

-- a Hear ends it by its slot
abbrev pub ended_by : Event → Stop
ended_by (Media (Hear slot on)) = VersionEnd slot
ended_by event = Rested
