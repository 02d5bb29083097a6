-- The boxes that stand in chains, one after the other, and what a text of chains says of each.
use Rattle.std.specs.Prelude.{ℕ, ◌+◌, false, List, [], ◌∷◌, ◌++◌, codes, flat_map, map}
use Rattle.std.specs.List.{range_with_len}
use Rattle.mc_signal.specs.declared.Medium.{Medium}
use Rattle.mc_signal.specs.declared.Medium.TheVariants.{Audio}
use Rattle.mc_box.specs.BoxShapes.{BoxShapeState}
use Rattle.mc_box.specs.declared.event.Kind.{Kind}
use Rattle.mc_box.specs.declared.event.Kind.TheVariants.{Device, Feature}
use Rattle.mc_model.specs.Worlds.{ChannelState}
use Rattle.mc_lines.specs.Meaning.{new_feature}
use Rattle.mc_lines.specs.SoFar.{DeclaredBox}
use Rattle.mc_scene.specs.Chains.{run_codecs}
use Rattle.mc_scene.specs.Groups.{feature_name, left_name, right_name}
use Rattle.mc_scene.specs.declared.chains.Chain.{Chain}
use Rattle.mc_scene_laws.specs.SceneTexts.{audio_channel, device_with}

-- a box of a chain: its left device, a feature with so many features on its left, or its right device
pub data Post : Type 0 where
  at_left : Chain → Post
  between : Chain → ℕ → Post
  at_right : Chain → Post

-- the boxes of a chain, and of chains, from left to right
abbrev pub chain_posts : Chain → List Post
chain_posts chain = at_left chain ∷ map (between chain) (range_with_len 0 chain.features) ++ at_right chain ∷ []

abbrev pub all_posts : List Chain → List Post
all_posts chains = flat_map chain_posts chains

-- ---- what is declared of a box

abbrev pub post_name : Post → List ℕ
post_name (at_left chain) = left_name chain
post_name (between chain place) = feature_name chain place
post_name (at_right chain) = right_name chain

abbrev pub post_box : Post → DeclaredBox
post_box (at_left chain) = device_with (run_codecs chain.left)
post_box (between chain place) = new_feature
post_box (at_right chain) = device_with (run_codecs chain.right)

abbrev pub post_kind : Post → Kind
post_kind (at_left chain) = Device
post_kind (between chain place) = Feature
post_kind (at_right chain) = Device

-- a device has one slot, and a feature one towards each side
abbrev pub post_slots : Post → List (List ℕ)
post_slots (at_left chain) = codes "s" ∷ []
post_slots (between chain place) = codes "w" ∷ codes "e" ∷ []
post_slots (at_right chain) = codes "s" ∷ []

-- all of audio
abbrev pub post_media : Post → List Medium
post_media (at_left chain) = Audio ∷ []
post_media (between chain place) = Audio ∷ Audio ∷ []
post_media (at_right chain) = Audio ∷ []

-- no box has a program
abbrev pub post_shape : Post → BoxShapeState
post_shape post = record { kind = post_kind post; media = post_media post; programmed = false }

-- ---- channels

-- the slot towards the right, by its number
abbrev pub slot_to_right : Post → ℕ
slot_to_right (at_left chain) = 0
slot_to_right (between chain place) = 1
slot_to_right (at_right chain) = 0

-- the channel from a box with this number to the one on its right, if the chain goes on
abbrev pub channel_to_right : ℕ → Post → List ChannelState
channel_to_right who (at_right chain) = []
channel_to_right who post = audio_channel who (slot_to_right post) (who + 1) 0 ∷ []

-- the channels of boxes, numbered from a number on
abbrev pub channels_from : ℕ → List Post → List ChannelState
channels_from who [] = []
channels_from who (post ∷ posts) = channel_to_right who post ++ channels_from (who + 1) posts
