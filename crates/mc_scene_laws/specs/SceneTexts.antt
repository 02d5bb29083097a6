-- What the texts of the scenes declare.
use Rattle.std.specs.Prelude.{ℕ, true, false, List, [], ◌∷◌, Some, codes}
use Rattle.mc_signal.specs.declared.Medium.TheVariants.{Audio}
use Rattle.mc_slot.specs.declared.Goal.TheVariants.{Open as ToOpen, Close as ToClose, Hold as ToHold}
use Rattle.mc_slot.specs.declared.Goal.{Goal}
use Rattle.mc_slot.specs.declared.SlotGoal.TheVariants.{End, Link}
use Rattle.mc_rule.specs.declared.Guard.TheVariants.{Told}
use Rattle.mc_box.specs.BoxEvents.{turn_of}
use Rattle.mc_box.specs.BoxShapes.{BoxShapeState}
use Rattle.mc_box.specs.declared.event.Change.TheVariants.{End as NewEnd}
use Rattle.mc_box.specs.declared.event.Event.TheVariants.{Set, Tell}
use Rattle.mc_box.specs.declared.event.Kind.TheVariants.{Device, Feature}
use Rattle.mc_model.specs.Worlds.{ChannelState}
use Rattle.mc_script.specs.declared.command.Command.{Command}
use Rattle.mc_script.specs.declared.command.Command.TheVariants.{Stimulus, Settle}
use Rattle.mc_lines.specs.SoFar.{Declared, DeclaredBox}
use Rattle.mc_lines.specs.Meaning.{new_feature}
use Rattle.mc_lines.specs.declared.tail.Tail.TheVariants.{Nothing}
use Rattle.mc_lines.specs.declared.section.Section.TheVariants as section
use Rattle.mc_scene.specs.declared.scenes.Scene.{Scene}
use Rattle.mc_scene.specs.declared.scenes.Scene.TheVariants.{Pbx, Prepaid}

-- ---- boxes, channels and commands

-- a device that has and sends these codecs, from version 1 on
abbrev pub device_with : List ℕ → DeclaredBox
device_with listed = record { kind = Device; version = 1; receives = listed; sends = listed }

-- a device with one slot
abbrev pub device_shape : BoxShapeState
device_shape = record { kind = Device; media = Audio ∷ []; programmed = false }

-- a feature with three slots and a program
abbrev pub exchange_shape : BoxShapeState
exchange_shape = record { kind = Feature; media = Audio ∷ Audio ∷ Audio ∷ []; programmed = true }

-- a channel of one tunnel
abbrev pub audio_channel : (from near to beyond : ℕ) → ChannelState
audio_channel from near to beyond =
    record { from = from; to = to; tunnels = record { medium = Audio; from = near; to = beyond } ∷ [] }

-- a device's slot gets a goal
abbrev pub sets_end : ℕ → Goal → Command
sets_end who goal = Stimulus (turn_of who (Set (NewEnd 0 goal)))

-- a box is told a word
abbrev pub tells : ℕ → ℕ → Command
tells who word = Stimulus (turn_of who (Tell word))

-- ---- what is declared

-- the feature has the number 3, and links its slot a with b, or with c
abbrev pub pbx_declared : Declared
pbx_declared = record {
  tail = Nothing;
  section = section.Commands;
  versioned = true;
  sends_apart = false;
  begun = true;
  names = record {
    codecs = codes "g711" ∷ [];
    boxes = codes "alice" ∷ codes "bob" ∷ codes "carol" ∷ codes "pbx" ∷ [];
    slots = (codes "a" ∷ []) ∷ (codes "a" ∷ []) ∷ (codes "a" ∷ []) ∷ (codes "a" ∷ codes "b" ∷ codes "c" ∷ []) ∷ [];
    told = codes "swap" ∷ [];
  };
  shape = device_shape ∷ device_shape ∷ device_shape ∷ exchange_shape ∷ [];
  boxes = device_with (0 ∷ []) ∷ device_with (0 ∷ []) ∷ device_with (0 ∷ []) ∷ new_feature ∷ [];
  senders = [];
  channels = audio_channel 0 0 3 0 ∷ audio_channel 1 0 3 1 ∷ audio_channel 2 0 3 2 ∷ [];
  blocks = record {
    who = 3;
    states = codes "ab" ∷ codes "ac" ∷ [];
    parts =
        record {
          goals = Some (Link 1) ∷ Some (Link 0) ∷ Some (End ToHold)
              ∷ [];
          transitions = record { guard = Told 0; target = 1 } ∷ [];
        }
        ∷ record {
          goals = Some (Link 2) ∷ Some (End ToHold) ∷ Some (Link 0)
              ∷ [];
          transitions = record { guard = Told 0; target = 0 } ∷ [];
        }
        ∷ [];
  } ∷ [];
  commands = sets_end 0 ToOpen ∷ sets_end 1 ToHold ∷ sets_end 2 ToOpen ∷ Settle ∷ tells 3 0 ∷ Settle ∷ tells 3 0
      ∷ Settle ∷ sets_end 1 ToClose ∷ Settle ∷ [];
}

-- the feature has the number 3, and links its slot a with c, or with v
abbrev pub prepaid_declared : Declared
prepaid_declared = record {
  tail = Nothing;
  section = section.Commands;
  versioned = true;
  sends_apart = false;
  begun = true;
  names = record {
    codecs = codes "g711" ∷ codes "g729" ∷ [];
    boxes = codes "caller" ∷ codes "callee" ∷ codes "voice" ∷ codes "pc" ∷ [];
    slots = (codes "a" ∷ []) ∷ (codes "a" ∷ []) ∷ (codes "a" ∷ []) ∷ (codes "a" ∷ codes "c" ∷ codes "v" ∷ []) ∷ [];
    told = codes "out" ∷ codes "paid" ∷ [];
  };
  shape = device_shape ∷ device_shape ∷ device_shape ∷ exchange_shape ∷ [];
  boxes = device_with (0 ∷ 1 ∷ []) ∷ device_with (1 ∷ []) ∷ device_with (0 ∷ []) ∷ new_feature ∷ [];
  senders = [];
  channels = audio_channel 0 0 3 0 ∷ audio_channel 3 1 1 0 ∷ audio_channel 3 2 2 0 ∷ [];
  blocks = record {
    who = 3;
    states = codes "talk" ∷ codes "prompt" ∷ [];
    parts =
        record {
          goals = Some (Link 1) ∷ Some (Link 0) ∷ Some (End ToClose)
              ∷ [];
          transitions = record { guard = Told 0; target = 1 } ∷ [];
        }
        ∷ record {
          goals = Some (Link 2) ∷ Some (End ToHold) ∷ Some (Link 0)
              ∷ [];
          transitions = record { guard = Told 1; target = 0 } ∷ [];
        }
        ∷ [];
  } ∷ [];
  commands = sets_end 0 ToOpen ∷ sets_end 1 ToHold ∷ sets_end 2 ToHold ∷ Settle ∷ tells 3 0 ∷ Settle ∷ tells 3 1
      ∷ Settle ∷ [];
}

abbrev pub scene_declared : Scene → Declared
scene_declared Pbx = pbx_declared
scene_declared Prepaid = prepaid_declared
