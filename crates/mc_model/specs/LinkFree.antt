-- Worlds in which no slot is linked: each tunnel is a path of its own there.
use Rattle.std.specs.Prelude.{◌≡◌, ℕ, List, IsFalse, Some}
use Rattle.std.specs.List.{All, list_any}
use Rattle.mc_box.specs.LinkFree.{is_linking}
use Rattle.mc_box.specs.LinkFree.{IsUnlinked}
use Rattle.mc_box.specs.declared.event.Turn.{Turn}
use Rattle.mc_model.specs.Sound.{IsSound}
use Rattle.mc_model.specs.Steps.{run}
use Rattle.mc_model.specs.Worlds.{WorldState, box_at}

-- no slot of any box is linked
abbrev pub HasNoLinks : WorldState → Type 0
HasNoLinks world = (who : ℕ) → IsUnlinked (box_at world who)

-- a sound world without links
pub record IsLinkFree (world : WorldState) : Type 0 where
  pub sound : IsSound world
  pub free : HasNoLinks world

-- none of these turns may link slots: none sets a link, and none is a Shift
abbrev pub LinkNone : List Turn → Type 0
LinkNone turns = IsFalse (list_any (λ turn. is_linking turn.event) turns)

-- nor of several batches
abbrev pub AllLinkNone : List (List Turn) → Type 0
AllLinkNone batches = All LinkNone batches

-- a run of such turns leaves a world without links so
abbrev pub RunKeepsLinkFree : Type 0
RunKeepsLinkFree =
    (world next : WorldState) (turns : List Turn) → IsLinkFree world → LinkNone turns → run world turns ≡ Some next
    → IsLinkFree next
