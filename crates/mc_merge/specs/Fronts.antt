-- What waits at the front of a lane after a merge.
use Rattle.std.specs.Prelude.{◌≡◌, ℕ, List, ◌∷◌, [], slice_index_or, IsSome}
use Rattle.mc_signal.specs.declared.Tagged.{Tagged}
use Rattle.mc_slot.specs.Moves.{slot_take}
use Rattle.mc_box.specs.Boxes.{BoxState}
use Rattle.mc_port.specs.Entries.{Entry}
use Rattle.mc_merge.specs.Lanes.{leads_to}
use Rattle.mc_merge.specs.Merging.{IsLogged}
use Rattle.mc_model.specs.Served.{IsFor}
use Rattle.mc_model.specs.Sound.{IsSound}
use Rattle.mc_model.specs.Worlds.{WorldState, place, slot_of}

-- it is for a slot of the box at the lane's end, which may take it
pub record IsLawfulFront (world : WorldState) (lane : ℕ) (tagged : Tagged) : Type 0 where
  pub s : ℕ
  pub fits : IsFor world lane tagged s
  pub who : (place world s).0 ≡ leads_to world lane
  pub lawful : IsSome (slot_take (slot_of world s) tagged.signal)

-- each front of the rests is such a one: so no box stops at a front that it can't take
abbrev pub FrontsAreLawful : Type 0
FrontsAreLawful =
    (world : WorldState) (logs : List (List Entry)) (boxes : List BoxState) (rests : List (List Tagged))
    → IsLogged world logs boxes rests → IsSound world
    → (lane : ℕ) (tagged : Tagged) (rest : List Tagged) → slice_index_or rests lane [] ≡ tagged ∷ rest
    → IsLawfulFront (record world { boxes = boxes; lanes = rests }) lane tagged
