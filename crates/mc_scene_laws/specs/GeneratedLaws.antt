-- Laws of generated texts: what they declare, that their batches come to rest, and that goals decide all of their
-- paths.
use Rattle.std.specs.Prelude.{◌≤◌, ◌++◌, ℕ, List, length}
use Rattle.mc_scene.specs.Chains.{drawn_chains}
use Rattle.mc_scene.specs.Generated.{commands_text, generated, network_text}
use Rattle.mc_scene.specs.declared.chains.Chain.{Chain}
use Rattle.mc_scene.specs.declared.limit.TheConstants.{SIZE_LIMIT}
use Rattle.mc_lines.specs.declared.tail.Tail.TheVariants.{Nothing}
use Rattle.mc_model.specs.Worlds.{WorldState}
use Rattle.mc_net.specs.Nets.{IsFirstWorld, IsUnprogrammed, batches_of}
use Rattle.mc_net.specs.Texts.{Says}
use Rattle.mc_settings.specs.Batches.{LeavesDecided}
use Rattle.mc_scene_laws.specs.ChainTexts.{AreNumberedChains, chains_declared}
use Rattle.mc_scene_laws.specs.Resting.{ComesToRest}

-- the text of few chains, numbered in their order, is in the grammar
abbrev pub ChainsAreTexts : Type 0
ChainsAreTexts =
    (chains : List Chain) → 1 ≤ length chains → length chains ≤ SIZE_LIMIT → AreNumberedChains 0 chains
    → Says Nothing (network_text chains ++ commands_text chains) (chains_declared chains)

-- drawn chains are numbered in their order, with the features and codecs that chains may have
abbrev pub DrawnChainsAreNumbered : Type 0
DrawnChainsAreNumbered = (number size : ℕ) → AreNumberedChains 0 (drawn_chains number size)

-- so each generated text of few chains is in the grammar
abbrev pub GeneratedAreTexts : Type 0
GeneratedAreTexts =
    (number size : ℕ) → 1 ≤ size → size ≤ SIZE_LIMIT
    → Says Nothing (generated number size) (chains_declared (drawn_chains number size))

-- no box of it has a program
abbrev pub GeneratedAreUnprogrammed : Type 0
GeneratedAreUnprogrammed = (number size : ℕ) → IsUnprogrammed (chains_declared (drawn_chains number size))

-- and all of its batches come to rest
abbrev pub GeneratedComeToRest : Type 0
GeneratedComeToRest = (number size : ℕ) → ComesToRest (chains_declared (drawn_chains number size))

-- and no batch of it leaves a path of hold against hold
abbrev pub GeneratedLeaveDecided : Type 0
GeneratedLeaveDecided =
    (number size : ℕ) (world : WorldState) → IsFirstWorld (chains_declared (drawn_chains number size)) world
    → LeavesDecided world (batches_of (chains_declared (drawn_chains number size)).commands)
