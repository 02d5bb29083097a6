-- The lines that a generated text has for each of its chains.
use Rattle.std.specs.Prelude.{ℕ, ◌-◌, ◌==◌, List, [], ◌∷◌, ◌++◌, codes, flat_map, map, if◌then◌else◌}
use Rattle.std.specs.Fmt.{decimal}
use Rattle.std.specs.List.{range_with_len}
use Rattle.mc_scene.specs.Chains.{run_codecs}
use Rattle.mc_scene.specs.Lines.{words_line}
use Rattle.mc_scene.specs.declared.chains.Chain.{Chain}
use Rattle.mc_scene.specs.declared.chains.CodecRun.{CodecRun}
use Rattle.mc_scene.specs.declared.chains.FirstGoal.{FirstGoal}
use Rattle.mc_scene.specs.declared.chains.FirstGoal.TheVariants.{Open, Hold, Close}
use Rattle.mc_scene.specs.declared.groups.Group.{Group}
use Rattle.mc_scene.specs.declared.groups.Group.TheVariants.{Boxes, Channels, Calls, Holds, Closes}

-- ---- names

-- the codecs are c0 to c7
abbrev pub numbered_codec : ℕ → List ℕ
numbered_codec codec = codes "c" ++ decimal codec

abbrev pub left_name : Chain → List ℕ
left_name chain = codes "l" ++ decimal chain.number

abbrev pub right_name : Chain → List ℕ
right_name chain = codes "r" ++ decimal chain.number

-- what tells the features of a chain apart
abbrev pub feature_letter : ℕ → List ℕ
feature_letter place = if place == 0 then codes "a" else (if place == 1 then codes "b" else codes "c")

-- the feature that has so many features on its left
abbrev pub feature_name : Chain → ℕ → List ℕ
feature_name chain place = codes "f" ++ decimal chain.number ++ feature_letter place

-- ---- boxes

abbrev pub device_text : List ℕ → CodecRun → List ℕ
device_text name run = words_line (codes "dev" ∷ name ∷ map numbered_codec (run_codecs run))

abbrev pub feature_text : Chain → ℕ → List ℕ
feature_text chain place = words_line (codes "feat" ∷ feature_name chain place ∷ [])

-- the left device, the features and the right device
abbrev pub boxes_text : Chain → List ℕ
boxes_text chain =
    device_text (left_name chain) chain.left ++ flat_map (feature_text chain) (range_with_len 0 chain.features)
    ++ device_text (right_name chain) chain.right

-- ---- channels

-- the box on the left of a channel that has so many features on its left: the left device, or the last of these
abbrev pub near_name : Chain → ℕ → List ℕ
near_name chain place = if place == 0 then left_name chain else feature_name chain (place - 1)

-- and its slot there
abbrev pub near_slot : ℕ → List ℕ
near_slot place = if place == 0 then codes "s" else codes "e"

-- the channel from that box to the next one, at its slot
abbrev pub channel_text : Chain → ℕ → List ℕ → List ℕ → List ℕ
channel_text chain place name slot =
    words_line (codes "chan" ∷ codes "audio" ∷ near_name chain place ∷ near_slot place ∷ name ∷ slot ∷ [])

-- a channel to each feature and to the right device
abbrev pub channels_text : Chain → List ℕ
channels_text chain =
    flat_map (λ place. channel_text chain place (feature_name chain place) (codes "w"))
    (range_with_len 0 chain.features)
    ++ channel_text chain chain.features (right_name chain) (codes "s")

-- ---- commands

abbrev pub first_goal_word : FirstGoal → List ℕ
first_goal_word Open = codes "open"
first_goal_word Hold = codes "hold"
first_goal_word Close = codes "close"

abbrev pub link_text : Chain → ℕ → List ℕ
link_text chain place = words_line (codes "link" ∷ feature_name chain place ∷ codes "w" ∷ codes "e" ∷ [])

-- a goal for a device
abbrev pub goal_text : List ℕ → List ℕ → List ℕ
goal_text name goal = words_line (codes "set" ∷ name ∷ codes "s" ∷ goal ∷ [])

-- each feature links, the left end opens, and the right end gets its first goal
abbrev pub calls_text : Chain → List ℕ
calls_text chain =
    flat_map (link_text chain) (range_with_len 0 chain.features)
    ++ goal_text (left_name chain) (codes "open")
    ++ goal_text (right_name chain) (first_goal_word chain.goal)

-- ---- groups

-- what a group says of a chain
abbrev pub chain_text : Group → Chain → List ℕ
chain_text Boxes chain = boxes_text chain
chain_text Channels chain = channels_text chain
chain_text Calls chain = calls_text chain
chain_text Holds chain = goal_text (right_name chain) (codes "hold")
chain_text Closes chain = goal_text (left_name chain) (codes "close")

-- chain by chain
abbrev pub group_text : Group → List Chain → List ℕ
group_text group chains = flat_map (chain_text group) chains
