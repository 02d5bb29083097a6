-- Worlds and teams that are the same part by part.
use Rattle.std.proofs.Common.{◌≡◌, ℕ, List, refl}
use Rattle.mc_box.specs.Boxes.{BoxState}
use Rattle.mc_box.specs.declared.event.Event.{Event}
use Rattle.mc_team.specs.Teams.{TeamState}
use Rattle.mc_model.specs.Worlds.{ChannelState, WorldState}
use Rattle.mc_signal.specs.declared.Tagged.{Tagged}

-- the world of these channels, boxes and lanes
abbrev pub the_world : List ChannelState → List BoxState → List (List Tagged) → WorldState
the_world channels boxes lanes = record { boxes = boxes; channels = channels; lanes = lanes }

-- it is the same for the same boxes and lanes
pub world_by : (channels : List ChannelState) (p q : List BoxState) (l k : List (List Tagged)) → p ≡ q → l ≡ k → the_world channels p l ≡ the_world channels q k
world_by channels p q l k a b = rw (a, b) refl

-- the team of this world, these commands and these Shifts
abbrev pub the_team : WorldState → List (List Event) → List ℕ → TeamState
the_team world stimuli shifts = record { world = world; stimuli = stimuli; shifts = shifts }

-- it is the same for the same parts
pub team_by : (w v : WorldState) (s t : List (List Event)) (n m : List ℕ) → w ≡ v → s ≡ t → n ≡ m → the_team w s n ≡ the_team v t m
team_by w v s t n m a b e = rw (a, b, e) refl
