-- What the laws of merged logs say of shards at once.
use Rattle.std.specs.Prelude.{◌≡◌, ℕ, List, [], ◌∷◌, slice_index_or}
use Rattle.mc_signal.specs.declared.Tagged.{Tagged}
use Rattle.mc_box.specs.Boxes.{BoxState}
use Rattle.mc_port.specs.Entries.{Entry}
use Rattle.mc_merge.specs.Fronts.{IsLawfulFront}
use Rattle.mc_merge.specs.Together.{Homes}
use Rattle.mc_model.specs.Sound.{IsSound}
use Rattle.mc_model.specs.Worlds.{WorldState}
use Rattle.mc_shard_laws.specs.Together.{AreShardsOf, Journalled}

-- from a sound world they lead to a sound one, whose boxes are theirs
abbrev pub ShardsKeepSound : Type 0
ShardsKeepSound = (world : WorldState) (homes : Homes) (shards : ℕ → Journalled) (logs : List (List Entry))
    (boxes : List BoxState) (rests : List (List Tagged))
    → AreShardsOf world homes shards logs boxes rests → IsSound world
    → IsSound (record world { boxes = boxes; lanes = rests })

-- and the next signal of a lane may be taken: so one that is refused as unlawful shows that a journal was lost or that
-- another program ran
abbrev pub NextIsLawful : Type 0
NextIsLawful = (world : WorldState) (homes : Homes) (shards : ℕ → Journalled) (logs : List (List Entry))
    (boxes : List BoxState) (rests : List (List Tagged))
    → AreShardsOf world homes shards logs boxes rests → IsSound world
    → (lane : ℕ) (tagged : Tagged) (rest : List Tagged) → slice_index_or rests lane [] ≡ tagged ∷ rest
    → IsLawfulFront (record world { boxes = boxes; lanes = rests }) lane tagged
