-- The batches of the scenes come to rest.
use Rattle.std.proofs.Common.{◌≡◌, ◌≤◌, ◌<◌, inl, inr, ℕ, zero, suc, true, false, not, List, [], ◌∷◌, slice_index_or, refl, sym, ◌∙◌, subst, arith}
use Rattle.std.proofs.lemmas.List.Elements.{All-from_recursion}
use Rattle.std.proofs.lemmas.List.Sums.{count_by-le-length}
use Rattle.std.specs.List.{All, AllByRecursion}
use Rattle.mc_slot.specs.declared.Goal.TheVariants.{Close as ToClose}
use Rattle.mc_slot.specs.declared.SlotGoal.TheVariants.{End, Link}
use Rattle.mc_rule.specs.Programs.{ProgStateState, spends}
use Rattle.mc_box.specs.BoxEvents.{turn_of}
use Rattle.mc_box.specs.Boxes.{goals_in}
use Rattle.mc_box.specs.declared.event.Change.TheVariants.{Link as NewLink}
use Rattle.mc_box.specs.declared.event.Event.TheVariants.{Set, Tell}
use Rattle.mc_laws.specs.Chains.{ClosesNoChain, NamesLink}
use Rattle.mc_laws.specs.Words.{WaitsForWords}
use Rattle.mc_model.specs.Settles.{is_tell_of}
use Rattle.mc_model.specs.Worlds.{ChannelState, WorldState, far, places_among}
use Rattle.mc_program_lines.specs.Finished.{program_of}
use Rattle.mc_program_lines.specs.Programs.{BlockState}
use Rattle.mc_lines.specs.Meaning.{declared_at}
use Rattle.mc_lines.specs.SoFar.{Declared}
use Rattle.mc_net.specs.Nets.{IsFirstWorld, batches_of}
use Rattle.mc_scene.specs.declared.scenes.Scene.TheVariants.{Pbx, Prepaid}
use Rattle.mc_scene_laws.specs.Resting.{TellsOnce}
use Rattle.mc_scene_laws.specs.SceneLaws.{ScenesComeToRest}
use Rattle.mc_scene_laws.specs.SceneTexts.{pbx_declared, prepaid_declared}
use Rattle.mc_scene_laws.proofs.Closing.{all_pass, among_has, one_box}
use Rattle.mc_scene_laws.proofs.Commanded.{no_last, sets_link}
use Rattle.mc_scene_laws.proofs.Programmed.{first_channels, first_goals, first_programs}

-- ---- versions

pbx_versions : (who : ℕ) → (declared_at pbx_declared.boxes who).version ≡ 1
pbx_versions zero = refl
pbx_versions (suc zero) = refl
pbx_versions (suc (suc zero)) = refl
pbx_versions (suc (suc (suc zero))) = refl
pbx_versions (suc (suc (suc (suc who)))) = refl

prepaid_versions : (who : ℕ) → (declared_at prepaid_declared.boxes who).version ≡ 1
prepaid_versions zero = refl
prepaid_versions (suc zero) = refl
prepaid_versions (suc (suc zero)) = refl
prepaid_versions (suc (suc (suc zero))) = refl
prepaid_versions (suc (suc (suc (suc who)))) = refl

-- ---- words

-- a program's transitions all wait for words
abbrev AllWait : ℕ → List ProgStateState → Type 0
AllWait who states = All WaitsForWords states

all_wait : (states : List ProgStateState) → AllByRecursion (λ one. AllByRecursion (λ rule. spends rule.guard ≡ true) one.rules) states → All WaitsForWords states
all_wait states each = All-from_recursion WaitsForWords states (one_by_one states each)
  where
    one_by_one : (some : List ProgStateState) → AllByRecursion (λ one. AllByRecursion (λ rule. spends rule.guard ≡ true) one.rules) some → AllByRecursion WaitsForWords some
    one_by_one [] wait = tt
    one_by_one (one ∷ others) wait = (All-from_recursion (λ rule. spends rule.guard ≡ true) one.rules wait.0, one_by_one others wait.1)

blocks_wait : (blocks : List BlockState) → AllByRecursion (λ block. AllByRecursion (λ one. AllByRecursion (λ rule. spends rule.guard ≡ true) one.rules) (program_of block)) blocks → AllByRecursion (λ block. AllWait block.who (program_of block)) blocks
blocks_wait [] each = tt
blocks_wait (block ∷ blocks) each = (all_wait (program_of block) each.0, blocks_wait blocks each.1)

none_waits : (who : ℕ) → AllWait who []
none_waits who k d within = absurd (omega arith)

pbx_waits : AllByRecursion (λ block. AllWait block.who (program_of block)) pbx_declared.blocks
pbx_waits = blocks_wait pbx_declared.blocks (((refl, tt), ((refl, tt), tt)), tt)

prepaid_waits : AllByRecursion (λ block. AllWait block.who (program_of block)) prepaid_declared.blocks
prepaid_waits = blocks_wait prepaid_declared.blocks (((refl, tt), ((refl, tt), tt)), tt)

few_told : (count : ℕ) → count ≡ 0 → count ≤ 1
few_told count none = omega arith

pbx_tells : All TellsOnce (batches_of pbx_declared.commands)
pbx_tells = All-from_recursion TellsOnce (batches_of pbx_declared.commands)
    (λ who. few_told 0 refl, (λ who. count_by-le-length (is_tell_of who) (turn_of 3 (Tell 0) ∷ []), (λ who. count_by-le-length (is_tell_of who) (turn_of 3 (Tell 0) ∷ []), (λ who. few_told 0 refl, tt))))

prepaid_tells : All TellsOnce (batches_of prepaid_declared.commands)
prepaid_tells = All-from_recursion TellsOnce (batches_of prepaid_declared.commands)
    (λ who. few_told 0 refl, (λ who. count_by-le-length (is_tell_of who) (turn_of 3 (Tell 0) ∷ []), (λ who. count_by-le-length (is_tell_of who) (turn_of 3 (Tell 1) ∷ []), tt)))

-- ---- chains

-- the feature of a scene has the number 3, and links are its program's alone
abbrev LinksAtFeature : ℕ → List ProgStateState → Type 0
LinksAtFeature who states = (at first second : ℕ) → slice_index_or (goals_in states at) first (End ToClose) ≡ Link second → who ≡ 3

none_links : (who : ℕ) → LinksAtFeature who []
none_links who at first second is = absurd (cc)

at_feature : (d : Declared) (world : WorldState) → IsFirstWorld d world → AllByRecursion (λ block. LinksAtFeature block.who (program_of block)) d.blocks
    → All (λ batch. All (λ turn. not (sets_link turn.event) ≡ true) batch) (batches_of d.commands)
    → (who first second : ℕ) → NamesLink world (batches_of d.commands) who first second → who ≡ 3
at_feature d world start blocks commands who first second (inl is) = let clash : End ToClose ≡ Link second = sym (first_goals d world start who first) ∙ is in absurd (cc)
at_feature d world start blocks commands who first second (inr (inl (at, is))) = first_programs LinksAtFeature d world start none_links blocks who at first second is
at_feature d world start blocks commands who first second (inr (inr (inl among))) =
    let clash : false ≡ true = among_has (λ turn. not (sets_link turn.event) ≡ true) (batches_of d.commands) (turn_of who (Set (NewLink first second))) commands among in absurd (cc)
at_feature d world start blocks commands who first second (inr (inr (inr among))) =
    let clash : false ≡ true = among_has (λ turn. not (sets_link turn.event) ≡ true) (batches_of d.commands) (turn_of who (Set (NewLink second first))) commands among in absurd (cc)

-- no tunnel joins it with itself
abbrev ApartAmong : List ChannelState → Type 0
ApartAmong channels = (s : ℕ) → (slice_index_or (places_among channels) s (0, 0)).0 ≡ 3 → (slice_index_or (places_among channels) (far s) (0, 0)).0 ≡ 3 → ⊥

below_feature : (n : ℕ) → n < 3 → n ≡ 3 → ⊥
below_feature n below is = absurd (omega arith)

pbx_apart : ApartAmong pbx_declared.channels
pbx_apart zero near beyond = below_feature 0 (omega arith) near
pbx_apart (suc zero) near beyond = below_feature 0 (omega arith) beyond
pbx_apart (suc (suc zero)) near beyond = below_feature 1 (omega arith) near
pbx_apart (suc (suc (suc zero))) near beyond = below_feature 1 (omega arith) beyond
pbx_apart (suc (suc (suc (suc zero)))) near beyond = below_feature 2 (omega arith) near
pbx_apart (suc (suc (suc (suc (suc zero))))) near beyond = below_feature 2 (omega arith) beyond
pbx_apart (suc (suc (suc (suc (suc (suc s)))))) near beyond = below_feature 0 (omega arith) near

prepaid_apart : ApartAmong prepaid_declared.channels
prepaid_apart zero near beyond = below_feature 0 (omega arith) near
prepaid_apart (suc zero) near beyond = below_feature 0 (omega arith) beyond
prepaid_apart (suc (suc zero)) near beyond = below_feature 1 (omega arith) beyond
prepaid_apart (suc (suc (suc zero))) near beyond = below_feature 1 (omega arith) near
prepaid_apart (suc (suc (suc (suc zero)))) near beyond = below_feature 2 (omega arith) beyond
prepaid_apart (suc (suc (suc (suc (suc zero))))) near beyond = below_feature 2 (omega arith) near
prepaid_apart (suc (suc (suc (suc (suc (suc s)))))) near beyond = below_feature 0 (omega arith) near

no_chain : (d : Declared) (world : WorldState) → IsFirstWorld d world → AllByRecursion (λ block. LinksAtFeature block.who (program_of block)) d.blocks
    → All (λ batch. All (λ turn. not (sets_link turn.event) ≡ true) batch) (batches_of d.commands) → ApartAmong d.channels → ClosesNoChain world (batches_of d.commands)
no_chain d world start blocks commands apart =
    one_box world (batches_of d.commands) 3 (at_feature d world start blocks commands) (subst ApartAmong (sym (first_channels d world start)) apart)

pbx_links : AllByRecursion (λ block. LinksAtFeature block.who (program_of block)) pbx_declared.blocks
pbx_links = (λ at first second is. refl, tt)

prepaid_links : AllByRecursion (λ block. LinksAtFeature block.who (program_of block)) prepaid_declared.blocks
prepaid_links = (λ at first second is. refl, tt)

-- ---- both scenes

pub scenes_come_to_rest : ScenesComeToRest
scenes_come_to_rest Pbx = record {
  versions = no_last pbx_declared pbx_versions (λ who local. refl);
  by_words = λ world start. first_programs AllWait pbx_declared world start none_waits pbx_waits;
  once = pbx_tells;
  chains = λ world start. no_chain pbx_declared world start pbx_links (all_pass (λ turn. not (sets_link turn.event)) (batches_of pbx_declared.commands) refl) pbx_apart;
}
scenes_come_to_rest Prepaid = record {
  versions = no_last prepaid_declared prepaid_versions (λ who local. refl);
  by_words = λ world start. first_programs AllWait prepaid_declared world start none_waits prepaid_waits;
  once = prepaid_tells;
  chains = λ world start. no_chain prepaid_declared world start prepaid_links (all_pass (λ turn. not (sets_link turn.event)) (batches_of prepaid_declared.commands) refl) prepaid_apart;
}
