-- Texts whose scripts come to their end when they are run live.
use Rattle.std.specs.Prelude.{◌≡◌, ◌⊎◌, ℕ, List}
use Rattle.mc_grown_rest.specs.Rests.{RestsByWords}
use Rattle.mc_laws.specs.Chains.{ClosesNoChain}
use Rattle.mc_lines.specs.SoFar.{Declared}
use Rattle.mc_lines.specs.declared.tail.Tail.TheVariants.{Nothing}
use Rattle.mc_model.specs.Unprogrammed.{HasNoPrograms}
use Rattle.mc_model.specs.Worlds.{WorldState}
use Rattle.mc_net.specs.Nets.{IsFirstWorld, batches_of}
use Rattle.mc_net.specs.Texts.{Says}
use Rattle.mc_net.specs.Versions.{MeetsNoLast}
use Rattle.mc_script_end.specs.Rings.{AlwaysRests}

-- in the first world of a text no box has a program or all programs go by words, and no chain of links and tunnels can
-- be closed: so each batch comes to rest, in whichever order its commands come
abbrev pub RestsInAnyOrder : Declared → Type 0
RestsInAnyOrder d =
    (world : WorldState) → IsFirstWorld d world
    → (HasNoPrograms world ⊎ RestsByWords world (batches_of d.commands))
    × ClosesNoChain world (batches_of d.commands)

-- each batch comes to rest in the orders in which so many operators ask for its commands; one operator keeps the order
-- of the text
abbrev pub AlwaysRestsLive : (operators : ℕ) → Declared → Type 0
AlwaysRestsLive operators d = RestsInAnyOrder d ⊎ ((operators ≡ 1) × AlwaysRests d)

-- a text declares a network, in whose script no Hear meets the last version and each batch comes to rest, where so many
-- operators ask
abbrev pub CanRunLive : (operators : ℕ) → List ℕ → Type 0
CanRunLive operators text = (d : Declared) × Says Nothing text d × MeetsNoLast d × AlwaysRestsLive operators d
