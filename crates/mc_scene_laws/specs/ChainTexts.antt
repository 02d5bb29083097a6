-- What the texts of chains declare.
use Rattle.std.specs.Prelude.{◌≡◌, ℕ, ◌+◌, ◌≤◌, ◌<◌, true, false, List, [], ◌∷◌, ◌++◌, map}
use Rattle.std.specs.List.{range_with_len}
use Rattle.mc_slot.specs.declared.Goal.{Goal}
use Rattle.mc_slot.specs.declared.Goal.TheVariants.{Open as ToOpen, Close as ToClose, Hold as ToHold}
use Rattle.mc_box.specs.BoxEvents.{turn_of}
use Rattle.mc_box.specs.declared.event.Change.TheVariants.{Link as NewLink}
use Rattle.mc_box.specs.declared.event.Event.TheVariants.{Set}
use Rattle.mc_script.specs.declared.command.Command.{Command}
use Rattle.mc_script.specs.declared.command.Command.TheVariants.{Stimulus, Settle}
use Rattle.mc_lines.specs.SoFar.{Declared}
use Rattle.mc_lines.specs.declared.tail.Tail.TheVariants.{Nothing}
use Rattle.mc_lines.specs.declared.section.Section.TheVariants as section
use Rattle.mc_scene.specs.Groups.{numbered_codec}
use Rattle.mc_scene.specs.declared.chains.Chain.{Chain}
use Rattle.mc_scene.specs.declared.chains.CodecRun.{CodecRun}
use Rattle.mc_scene.specs.declared.chains.FirstGoal.{FirstGoal}
use Rattle.mc_scene.specs.declared.chains.FirstGoal.TheVariants.{Open, Hold, Close}
use Rattle.mc_scene_laws.specs.Posts.{all_posts, channels_from, post_box, post_name, post_shape, post_slots}
use Rattle.mc_scene_laws.specs.SceneTexts.{sets_end}

-- ---- chains that are drawn

-- one to four codecs, from one of eight on
pub record IsRun (run : CodecRun) : Type 0 where
  pub some : 1 ≤ run.count
  pub few : run.count ≤ 4
  pub known : run.first < 8

-- a chain with this number, and at most three features
pub record IsNumberedChain (number : ℕ) (chain : Chain) : Type 0 where
  pub numbered : chain.number ≡ number
  pub few : chain.features ≤ 3
  pub left : IsRun chain.left
  pub right : IsRun chain.right

-- chains with these numbers, from a number on
abbrev pub AreNumberedChains : ℕ → List Chain → Type 0
AreNumberedChains number [] = Unit {0}
AreNumberedChains number (chain ∷ chains) = IsNumberedChain number chain × AreNumberedChains (number + 1) chains

-- ---- commands

-- what the right end is told first
abbrev pub first_told : FirstGoal → Goal
first_told Open = ToOpen
first_told Hold = ToHold
first_told Close = ToClose

-- a feature links its two slots
abbrev pub links_through : ℕ → Command
links_through who = Stimulus (turn_of who (Set (NewLink 0 1)))

-- the commands for a chain whose left device has this number: features link, then both ends get their first goals
abbrev pub chain_calls : ℕ → Chain → List Command
chain_calls who chain =
    map (λ place. links_through (who + 1 + place)) (range_with_len 0 chain.features) ++ sets_end who ToOpen
    ∷ sets_end (who + 1 + chain.features) (first_told chain.goal) ∷ []

-- the right end holds
abbrev pub chain_holds : ℕ → Chain → List Command
chain_holds who chain = sets_end (who + 1 + chain.features) ToHold ∷ []

-- the left end closes
abbrev pub chain_closes : ℕ → Chain → List Command
chain_closes who chain = sets_end who ToClose ∷ []

-- commands for each chain, by the number of its left device; the boxes of chains follow each other
abbrev pub for_chains : (ℕ → Chain → List Command) → ℕ → List Chain → List Command
for_chains commands who [] = []
for_chains commands who (chain ∷ chains) = commands who chain ++ for_chains commands (who + (chain.features + 2)) chains

-- the commands of chains: all links and first goals, then all holds, then all closes
abbrev pub chain_commands : List Chain → List Command
chain_commands chains =
    (for_chains chain_calls 0 chains ++ Settle ∷ [])
    ++ ((for_chains chain_holds 0 chains ++ Settle ∷ []) ++ (for_chains chain_closes 0 chains ++ Settle ∷ []))

-- ---- what is declared

-- the codecs c0 to c7
abbrev pub eight_codecs : List (List ℕ)
eight_codecs = map numbered_codec (0 ∷ 1 ∷ 2 ∷ 3 ∷ 4 ∷ 5 ∷ 6 ∷ 7 ∷ [])

-- the boxes of chains follow each other, without programs
abbrev pub chains_declared : List Chain → Declared
chains_declared chains = record {
  tail = Nothing;
  section = section.Commands;
  versioned = true;
  sends_apart = false;
  begun = true;
  names = record {
    codecs = eight_codecs;
    boxes = map post_name (all_posts chains);
    slots = map post_slots (all_posts chains);
    told = [];
  };
  shape = map post_shape (all_posts chains);
  boxes = map post_box (all_posts chains);
  senders = [];
  channels = channels_from 0 (all_posts chains);
  blocks = [];
  commands = chain_commands chains;
}
