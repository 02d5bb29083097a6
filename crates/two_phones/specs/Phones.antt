-- Phones as workers.
use Rattle.std.specs.Prelude.{◌≡◌, false, [], ◌∷◌}
use Rattle.mc_box.specs.BoxShapes.{BoxShapeState, box_shape}
use Rattle.mc_box.specs.declared.event.Kind.TheVariants.{Device}
use Rattle.mc_signal.specs.declared.Medium.TheVariants.{Audio}
use Rattle.mc_worker.specs.Ready.{IsReady}
use Rattle.mc_worker.specs.declared.worker.Worker.{Worker}

-- a device with one slot of audio
abbrev pub phone_shape : BoxShapeState
phone_shape = record { kind = Device; media = Audio ∷ []; programmed = false }

-- such a device, ready for a round
pub record IsPhone (worker : Worker) : Type 0 where
  pub ready : IsReady worker
  pub shape : box_shape worker.part ≡ phone_shape
