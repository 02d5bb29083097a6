-- The settings of a box: its goals, and what the descriptors of its slots are made of. What commands make of them.
use Rattle.std.specs.Prelude.{ℕ, List, [], ◌∷◌, map, slice_index_or, slice_set}
use Rattle.std.specs.List.{enumerate_from}
use Rattle.mc_slot.specs.declared.SlotGoal.{SlotGoal}
use Rattle.mc_box.specs.BoxEvents.{with_hearing, with_talking}
use Rattle.mc_box.specs.Boxes.{BoxState, no_media}
use Rattle.mc_box.specs.Goals.{change_goals}
use Rattle.mc_box.specs.declared.event.Event.{Event}
use Rattle.mc_box.specs.declared.event.Event.TheVariants.{Set, Media}
use Rattle.mc_box.specs.declared.event.MediaChange.{MediaChange}
use Rattle.mc_box.specs.declared.event.MediaChange.TheVariants.{Hear, Talk}
use Rattle.mc_box.specs.declared.event.Turn.{Turn}
use Rattle.mc_box.specs.declared.setup.SlotMedia.{SlotMedia}
use Rattle.mc_model.specs.Settles.{commands_of}
use Rattle.mc_model.specs.Worlds.{WorldState}

-- the goal of each slot, and its media
pub record Settings : Type 0 where
  pub goals : List SlotGoal
  pub media : List SlotMedia

abbrev pub settings_of : BoxState → Settings
settings_of box = record { goals = box.goals; media = box.media }

abbrev pub with_settings : BoxState → Settings → BoxState
with_settings box settings = record box { goals = settings.goals; media = settings.media }

-- the media of one slot become what this makes of them
abbrev pub media_with : (SlotMedia → SlotMedia) → ℕ → List SlotMedia → List SlotMedia
media_with change local media = slice_set media local (change (slice_index_or media local no_media))

-- a media flag is set
abbrev pub media_by : MediaChange → List SlotMedia → List SlotMedia
media_by (Hear local on) media = media_with (with_hearing on) local media
media_by (Talk local on) media = media_with (with_talking on) local media

-- what an event makes of the settings: a Set changes goals, a Hear or a Talk the media of its slot, and others leave
-- both
abbrev pub set_by : Event → Settings → Settings
set_by (Set change) settings = record settings { goals = change_goals settings.goals change }
set_by (Media change) settings = record settings { media = media_by change settings.media }
set_by event settings = settings

-- and what the events of turns make of them, in order
abbrev pub set_by_all : List Turn → Settings → Settings
set_by_all [] settings = settings
set_by_all (turn ∷ turns) settings = set_by_all turns (set_by turn.event settings)

-- a box with the settings that its own commands among turns make of those that it has
abbrev pub box_commanded : List Turn → ℕ → BoxState → BoxState
box_commanded turns who box = with_settings box (set_by_all (commands_of who turns) (settings_of box))

-- a world whose boxes have these settings, and are else as they were
abbrev pub commanded : WorldState → List Turn → WorldState
commanded world turns =
    record world { boxes = map (λ entry. box_commanded turns entry.0 entry.1) (enumerate_from 0 world.boxes) }
