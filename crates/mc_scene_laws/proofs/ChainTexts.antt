-- The texts of few chains, and so those that are generated, are in the grammar.
use Rattle.std.proofs.Common.{◌≡◌, ℕ, zero, suc, ◌+◌, ◌*◌, ◌%◌, ◌<◌, ◌≤◌, Bool, true, ◌&&◌, List, [], ◌∷◌, ◌++◌, codes, flat_map, length, length-append, map, nat_le, refl, ap, subst, arith}
use Rattle.std.proofs.lemmas.List.{length-map}
use Rattle.std.proofs.lemmas.List.FromFn.{length-map-range_with_len}
use Rattle.std.specs.Fmt.{digits}
use Rattle.std.specs.List.{list_all, range_with_len}
use Rattle.mc_slot.specs.declared.Goal.TheVariants.{Open as ToOpen}
use Rattle.mc_script.proofs.Apart.{AreWords, is_word, name_is_word}
use Rattle.mc_script.specs.declared.command.Command.{Command}
use Rattle.mc_script.specs.declared.command.Command.TheVariants.{Settle}
use Rattle.mc_lines.specs.SoFar.{nothing}
use Rattle.mc_lines.specs.declared.section.Section.TheVariants as section
use Rattle.mc_lines.specs.declared.tail.Tail.TheVariants.{Nothing}
use Rattle.mc_net.specs.Texts.{Says}
use Rattle.mc_scene.specs.Chains.{chain_drawn_at, draw_at, drawn_chains, drawn_codec_run, state_after_draws}
use Rattle.mc_scene.specs.Generated.{commands_text, network_text}
use Rattle.mc_scene.specs.Groups.{first_goal_word, left_name, right_name}
use Rattle.mc_scene.specs.declared.chains.Chain.{Chain}
use Rattle.mc_scene.specs.declared.chains.CodecRun.{CodecRun}
use Rattle.mc_scene.specs.declared.chains.FirstGoal.{FirstGoal}
use Rattle.mc_scene.specs.declared.chains.FirstGoal.TheVariants.{Open, Hold, Close}
use Rattle.mc_scene_laws.specs.ChainTexts.{AreNumberedChains, IsNumberedChain, IsRun, chain_calls, chain_closes, chain_commands, chain_holds, chains_declared, first_told, for_chains, links_through}
use Rattle.mc_scene_laws.specs.GeneratedLaws.{ChainsAreTexts, DrawnChainsAreNumbered, GeneratedAreTexts}
use Rattle.mc_scene_laws.specs.Posts.{Post, all_posts, at_left, at_right, between, post_name}
use Rattle.mc_scene_laws.specs.SceneTexts.{sets_end}
use Rattle.mc_scene_laws.proofs.BoxLines.{boxes_enter, post_words, with_posts}
use Rattle.mc_scene_laws.proofs.ChainCommands.{call_lines, calls_spelt, close_lines, closes_spelt, each_spelt, hold_lines, holds_spelt, link_words, set_words}
use Rattle.mc_scene_laws.proofs.ChainLines.{batch_lines, header_lines, network_lines, script_lines, text_is}
use Rattle.mc_scene_laws.proofs.ChainOrder.{chains_go, chains_ordered, posts_behind}
use Rattle.mc_scene_laws.proofs.ChannelLines.{lines_behind, lines_between, word_to_left, word_to_right}
use Rattle.mc_scene_laws.proofs.CommandLines.{SpellEach, begin_enters, commanded, settle_spelt, spell-append, spelt_enter}
use Rattle.mc_scene_laws.proofs.Entering.{Enter, computed, enter-append}
use Rattle.mc_scene_laws.proofs.Joined.{channels_enter}
use Rattle.mc_scene_laws.proofs.LinesOfWords.{AreWordLines, IsWordLine, says_words, word_lines-append}
use Rattle.mc_scene_laws.proofs.Names.{IsPlaced, post_is_named, post_key}
use Rattle.mc_scene_laws.proofs.Ordered.{AreOrdered, few_posts}
use Rattle.mc_scene_laws.proofs.Ranges.{both_true, le_true}
use Rattle.mc_scene_laws.proofs.Runs.{run_is_read, run_words}

-- ---- words

words_all : (some : List (List ℕ)) → list_all is_word some ≡ true → AreWords some
words_all [] all = tt
words_all (word ∷ some) all = let parts = both_true (is_word word) (list_all is_word some) all in (parts.0, words_all some parts.1)

-- lines whose words are computed
abbrev is_word_line : List (List ℕ) → Bool
is_word_line some = list_all is_word some && nat_le (length some) 15

lines_pass : (all : List (List (List ℕ))) → list_all is_word_line all ≡ true → AreWordLines all
lines_pass [] pass = tt
lines_pass (some ∷ all) pass =
    let parts = both_true (is_word_line some) (list_all is_word_line all) pass in
    let line = both_true (list_all is_word some) (nat_le (length some) 15) parts.0 in
    ((words_all some line.0, le_true (length some) 15 line.1), lines_pass all parts.1)

name_word : (post : Post) → IsPlaced post → is_word (post_name post) ≡ true
name_word post placed = name_is_word (post_name post) (post_is_named post placed)

run_line : (name : List ℕ) (run : CodecRun) → is_word name ≡ true → IsRun run → IsWordLine (codes "dev" ∷ name ∷ run_words run)
run_line name run named is =
    let read = run_is_read run is in
    let few = read.short in
    ((refl, (named, words_all (run_words run) read.are_words)), omega arith)

post_line : (post : Post) → IsPlaced post → IsWordLine (post_words post)
post_line (at_left chain) placed = run_line (left_name chain) chain.left (name_word (at_left chain) placed) placed.1
post_line (between chain place) placed = ((refl, (name_word (between chain place) placed, tt)), omega arith)
post_line (at_right chain) placed = run_line (right_name chain) chain.right (name_word (at_right chain) placed) placed.1

box_lines_good : (low : ℕ) (posts : List Post) → AreOrdered low posts → AreWordLines (map post_words posts)
box_lines_good low [] ordered = tt
box_lines_good low (post ∷ posts) ordered = (post_line post ordered.1, box_lines_good (post_key post + 1) posts ordered.2)

right_word : (post : Post) → is_word (word_to_right post) ≡ true
right_word (at_left chain) = refl
right_word (between chain place) = refl
right_word (at_right chain) = refl

left_word : (post : Post) → is_word (word_to_left post) ≡ true
left_word (at_left chain) = refl
left_word (between chain place) = refl
left_word (at_right chain) = refl

channel_line : (post next : Post) → IsPlaced post → IsPlaced next → IsWordLine (codes "chan" ∷ codes "audio" ∷ post_name post ∷ word_to_right post ∷ post_name next ∷ word_to_left next ∷ [])
channel_line post next placed beyond = ((refl, (refl, (name_word post placed, (right_word post, (name_word next beyond, (left_word next, tt)))))), omega arith)

between_good : (post next : Post) → IsPlaced post → IsPlaced next → AreWordLines (lines_between post next)
between_good (at_left chain) next placed beyond = (channel_line (at_left chain) next placed beyond, tt)
between_good (between chain place) next placed beyond = (channel_line (between chain place) next placed beyond, tt)
between_good (at_right chain) next placed beyond = tt

channel_lines_good : (low : ℕ) (post : Post) (rest : List Post) → AreOrdered low (post ∷ rest) → AreWordLines (lines_behind post rest)
channel_lines_good low post [] ordered = tt
channel_lines_good low post (next ∷ rest) ordered = word_lines-append (lines_between post next) (lines_behind next rest) (between_good post next ordered.1 ordered.2.1) (channel_lines_good (post_key post + 1) next rest ordered.2)

few_between : (post next : Post) → length (lines_between post next) ≤ 1
few_between (at_left chain) next = omega arith
few_between (between chain place) next = omega arith
few_between (at_right chain) next = omega arith

few_behind : (post : Post) (rest : List Post) → length (lines_behind post rest) ≤ length rest
few_behind post [] = omega arith
few_behind post (next ∷ rest) = omega (arith, length-append (lines_between post next) (lines_behind next rest), few_between post next, few_behind next rest)

-- ---- commands

left_placed : (number : ℕ) (chain : Chain) → IsNumberedChain number chain → number < 50 → IsPlaced (at_left chain)
left_placed number chain is within = let same = is.numbered in (omega arith, is.left)

right_placed : (number : ℕ) (chain : Chain) → IsNumberedChain number chain → number < 50 → IsPlaced (at_right chain)
right_placed number chain is within = let same = is.numbered in (omega arith, is.right)

set_line : (name goal : List ℕ) → is_word name ≡ true → is_word goal ≡ true → IsWordLine (set_words name goal)
set_line name goal named spelt = ((refl, (named, (refl, (spelt, tt)))), omega arith)

goal_word : (goal : FirstGoal) → is_word (first_goal_word goal) ≡ true
goal_word Open = refl
goal_word Hold = refl
goal_word Close = refl

links_good : (chain : Chain) (n a : ℕ) → chain.number < 50 → a + n ≤ 3 → AreWordLines (map (link_words chain) (range_with_len a n))
links_good chain zero a within few = tt
links_good chain (suc n) a within few = (((refl, (name_word (between chain a) (within, omega arith), (refl, (refl, tt)))), omega arith), links_good chain n (a + 1) within (omega arith))

calls_good : (number : ℕ) (chain : Chain) → IsNumberedChain number chain → number < 50 → AreWordLines (call_lines chain)
calls_good number chain is within =
    let few = is.few in
    word_lines-append (map (link_words chain) (range_with_len 0 chain.features)) (set_words (left_name chain) (codes "open") ∷ set_words (right_name chain) (first_goal_word chain.goal) ∷ [])
    (links_good chain chain.features 0 (left_placed number chain is within).0 (omega arith)) (
      set_line (left_name chain) (codes "open") (name_word (at_left chain) (left_placed number chain is within)) refl,
      (set_line (right_name chain) (first_goal_word chain.goal) (name_word (at_right chain) (right_placed number chain is within)) (goal_word chain.goal), tt),
    )

holds_good : (number : ℕ) (chain : Chain) → IsNumberedChain number chain → number < 50 → AreWordLines (hold_lines chain)
holds_good number chain is within = (set_line (right_name chain) (codes "hold") (name_word (at_right chain) (right_placed number chain is within)) refl, tt)

closes_good : (number : ℕ) (chain : Chain) → IsNumberedChain number chain → number < 50 → AreWordLines (close_lines chain)
closes_good number chain is within = (set_line (left_name chain) (codes "close") (name_word (at_left chain) (left_placed number chain is within)) refl, tt)

-- what holds of the lines of each chain holds of those of all
chains_good : (some : Chain → List (List (List ℕ))) → ((number : ℕ) (chain : Chain) → IsNumberedChain number chain → number < 50 → AreWordLines (some chain)) → (chains : List Chain) (number : ℕ) → AreNumberedChains number chains → number + length chains ≤ 50
    → AreWordLines (flat_map some chains)
chains_good some one [] number are few = tt
chains_good some one (chain ∷ chains) number are few =
    word_lines-append (some chain) (flat_map some chains) (one number chain are.0 (omega arith)) (chains_good some one chains (number + 1) are.1 (omega arith))

few_commands : (some : ℕ → Chain → List Command) → ((who : ℕ) (chain : Chain) → length (some who chain) ≤ chain.features + 2) → (chains : List Chain) (number who : ℕ) → AreNumberedChains number chains → length (for_chains some who chains) ≤ 5 * length chains
few_commands some one [] number who are = omega arith
few_commands some one (chain ∷ chains) number who are =
    let is : IsNumberedChain number chain = are.0 in
    let few = is.few in
    omega (arith, length-append (some who chain) (for_chains some (who + (chain.features + 2)) chains), one who chain, few_commands some one chains (number + 1) (who + (chain.features + 2)) are.1)

calls_counted : (who : ℕ) (chain : Chain) → length (chain_calls who chain) ≤ chain.features + 2
calls_counted who chain =
    omega (
      arith,
      length-append (map (λ place. links_through (who + 1 + place)) (range_with_len 0 chain.features)) (sets_end who ToOpen ∷ sets_end (who + 1 + chain.features) (first_told chain.goal) ∷ []),
      length-map-range_with_len (λ place. links_through (who + 1 + place)) 0 chain.features,
    )

-- as many lines as commands
lines_counted : (all : List Post) (lines : List (List (List ℕ))) (commands : List Command) → SpellEach all lines commands → length lines ≡ length commands
lines_counted all [] [] each = refl
lines_counted all [] (command ∷ commands) each = absurd each
lines_counted all (some ∷ lines) [] each = absurd each
lines_counted all (some ∷ lines) (command ∷ commands) each = ap suc (lines_counted all lines commands each.1)

-- ---- the whole text

module _ (chain : Chain) (chains : List Chain) (are : AreNumberedChains 0 (chain ∷ chains)) (few : length (chain ∷ chains) ≤ 50) where
  ordered : AreOrdered 0 (all_posts (chain ∷ chains))
  ordered = chains_ordered (chain ∷ chains) 0 are (omega arith)

  counted : length (all_posts (chain ∷ chains)) ≤ 250
  counted = let most = few_posts 0 (all_posts (chain ∷ chains)) (omega arith) ordered in omega arith

  batch : (some : Chain → List (List (List ℕ))) (commands : ℕ → Chain → List Command) → SpellEach (all_posts (chain ∷ chains)) (flat_map some (chain ∷ chains)) (for_chains commands 0 (chain ∷ chains))
      → SpellEach (all_posts (chain ∷ chains)) (batch_lines some (chain ∷ chains)) (for_chains commands 0 (chain ∷ chains) ++ Settle ∷ [])
  batch some commands each =
      spell-append (all_posts (chain ∷ chains)) (flat_map some (chain ∷ chains)) ((codes "settle" ∷ []) ∷ []) (for_chains commands 0 (chain ∷ chains)) (Settle ∷ []) each (settle_spelt (all_posts (chain ∷ chains)), tt)

  calls : SpellEach (all_posts (chain ∷ chains)) (batch_lines call_lines (chain ∷ chains)) (for_chains chain_calls 0 (chain ∷ chains) ++ Settle ∷ [])
  calls = batch call_lines chain_calls (each_spelt (all_posts (chain ∷ chains)) ordered call_lines chain_calls (λ one before tail who is at. calls_spelt (all_posts (chain ∷ chains)) ordered one before tail who is at) (chain ∷ chains) [] 0 refl refl)

  holds : SpellEach (all_posts (chain ∷ chains)) (batch_lines hold_lines (chain ∷ chains)) (for_chains chain_holds 0 (chain ∷ chains) ++ Settle ∷ [])
  holds = batch hold_lines chain_holds (each_spelt (all_posts (chain ∷ chains)) ordered hold_lines chain_holds (λ one before tail who is at. holds_spelt (all_posts (chain ∷ chains)) ordered one before tail who is at) (chain ∷ chains) [] 0 refl refl)

  closes : SpellEach (all_posts (chain ∷ chains)) (batch_lines close_lines (chain ∷ chains)) (for_chains chain_closes 0 (chain ∷ chains) ++ Settle ∷ [])
  closes = batch close_lines chain_closes (each_spelt (all_posts (chain ∷ chains)) ordered close_lines chain_closes (λ one before tail who is at. closes_spelt (all_posts (chain ∷ chains)) ordered one before tail who is at) (chain ∷ chains) [] 0 refl refl)

  script : SpellEach (all_posts (chain ∷ chains)) (script_lines (chain ∷ chains)) (chain_commands (chain ∷ chains))
  script =
      spell-append (all_posts (chain ∷ chains)) (batch_lines call_lines (chain ∷ chains)) (batch_lines hold_lines (chain ∷ chains) ++ batch_lines close_lines (chain ∷ chains))
      (for_chains chain_calls 0 (chain ∷ chains) ++ Settle ∷ []) ((for_chains chain_holds 0 (chain ∷ chains) ++ Settle ∷ []) ++ (for_chains chain_closes 0 (chain ∷ chains) ++ Settle ∷ [])) calls
      (spell-append (all_posts (chain ∷ chains)) (batch_lines hold_lines (chain ∷ chains)) (batch_lines close_lines (chain ∷ chains)) (for_chains chain_holds 0 (chain ∷ chains) ++ Settle ∷ []) (for_chains chain_closes 0 (chain ∷ chains) ++ Settle ∷ []) holds closes)

  few_all : length (chain_commands (chain ∷ chains)) ≤ 753
  few_all =
      let one = few_commands chain_calls calls_counted (chain ∷ chains) 0 0 are in
      let two = few_commands chain_holds (λ who some. omega arith) (chain ∷ chains) 0 0 are in
      let three = few_commands chain_closes (λ who some. omega arith) (chain ∷ chains) 0 0 are in
      omega (
        arith,
        length-append (for_chains chain_calls 0 (chain ∷ chains) ++ Settle ∷ []) ((for_chains chain_holds 0 (chain ∷ chains) ++ Settle ∷ []) ++ (for_chains chain_closes 0 (chain ∷ chains) ++ Settle ∷ [])),
        length-append (for_chains chain_calls 0 (chain ∷ chains)) (Settle ∷ []),
        length-append (for_chains chain_holds 0 (chain ∷ chains) ++ Settle ∷ []) (for_chains chain_closes 0 (chain ∷ chains) ++ Settle ∷ []),
        length-append (for_chains chain_holds 0 (chain ∷ chains)) (Settle ∷ []),
        length-append (for_chains chain_closes 0 (chain ∷ chains)) (Settle ∷ []),
      )

  header : Enter (nothing Nothing) header_lines (with_posts section.Codecs [])
  unfolding digits
  header = computed (nothing Nothing) (with_posts section.Codecs []) header_lines refl

  network : Enter (nothing Nothing) (network_lines chain chains) (commanded (all_posts (chain ∷ chains)) [])
  network =
      let boxes = boxes_enter (all_posts (chain ∷ chains)) section.Codecs [] refl ordered in
      let channels = channels_enter (at_left chain) (posts_behind chain chains) boxes.last boxes.early refl (chains_go chains chain) ordered in
      let start = begin_enters channels.last (all_posts (chain ∷ chains)) channels.early in
      enter-append header_lines (map post_words (all_posts (chain ∷ chains)) ++ (lines_behind (at_left chain) (posts_behind chain chains) ++ (codes "begin" ∷ []) ∷ [])) (nothing Nothing) (with_posts section.Codecs []) (commanded (all_posts (chain ∷ chains)) []) header
      (enter-append (map post_words (all_posts (chain ∷ chains))) (lines_behind (at_left chain) (posts_behind chain chains) ++ (codes "begin" ∷ []) ∷ []) (with_posts section.Codecs []) _ (commanded (all_posts (chain ∷ chains)) []) boxes.enter
      (enter-append (lines_behind (at_left chain) (posts_behind chain chains)) ((codes "begin" ∷ []) ∷ []) _ _ (commanded (all_posts (chain ∷ chains)) []) channels.enter (commanded (all_posts (chain ∷ chains)) [], start, refl)))

  entered : Enter (nothing Nothing) (network_lines chain chains ++ script_lines (chain ∷ chains)) (chains_declared (chain ∷ chains))
  entered =
      let most = few_all in
      enter-append (network_lines chain chains) (script_lines (chain ∷ chains)) (nothing Nothing) (commanded (all_posts (chain ∷ chains)) []) (chains_declared (chain ∷ chains)) network
      (spelt_enter (all_posts (chain ∷ chains)) (script_lines (chain ∷ chains)) (chain_commands (chain ∷ chains)) [] script (omega arith))

  header_good : AreWordLines header_lines
  header_good = lines_pass header_lines refl

  batch_good : (some : Chain → List (List (List ℕ))) → ((number : ℕ) (one : Chain) → IsNumberedChain number one → number < 50 → AreWordLines (some one)) → AreWordLines (batch_lines some (chain ∷ chains))
  batch_good some one = word_lines-append (flat_map some (chain ∷ chains)) ((codes "settle" ∷ []) ∷ []) (chains_good some one (chain ∷ chains) 0 are (omega arith)) (((refl, tt), omega arith), tt)

  all_good : AreWordLines (network_lines chain chains ++ script_lines (chain ∷ chains))
  all_good =
      word_lines-append (network_lines chain chains) (script_lines (chain ∷ chains))
      (word_lines-append header_lines (map post_words (all_posts (chain ∷ chains)) ++ (lines_behind (at_left chain) (posts_behind chain chains) ++ (codes "begin" ∷ []) ∷ [])) header_good
      (word_lines-append (map post_words (all_posts (chain ∷ chains))) (lines_behind (at_left chain) (posts_behind chain chains) ++ (codes "begin" ∷ []) ∷ []) (box_lines_good 0 (all_posts (chain ∷ chains)) ordered)
      (word_lines-append (lines_behind (at_left chain) (posts_behind chain chains)) ((codes "begin" ∷ []) ∷ []) (channel_lines_good 0 (at_left chain) (posts_behind chain chains) ordered) (((refl, tt), omega arith), tt))))
      (word_lines-append (batch_lines call_lines (chain ∷ chains)) (batch_lines hold_lines (chain ∷ chains) ++ batch_lines close_lines (chain ∷ chains)) (batch_good call_lines calls_good)
      (word_lines-append (batch_lines hold_lines (chain ∷ chains)) (batch_lines close_lines (chain ∷ chains)) (batch_good hold_lines holds_good) (batch_good close_lines closes_good)))

  few_lines : length (network_lines chain chains ++ script_lines (chain ∷ chains)) ≤ 4000
  few_lines =
      let same = lines_counted (all_posts (chain ∷ chains)) (script_lines (chain ∷ chains)) (chain_commands (chain ∷ chains)) script in
      let commands = few_all in
      let boxes : length (at_left chain ∷ posts_behind chain chains) ≤ 250 = counted in
      let behind = few_behind (at_left chain) (posts_behind chain chains) in
      let box_lines = length-map (all_posts (chain ∷ chains)) post_words in
      let most = counted in
      omega (
        arith,
        length-append (network_lines chain chains) (script_lines (chain ∷ chains)),
        length-append header_lines (map post_words (all_posts (chain ∷ chains)) ++ (lines_behind (at_left chain) (posts_behind chain chains) ++ (codes "begin" ∷ []) ∷ [])),
        length-append (map post_words (all_posts (chain ∷ chains))) (lines_behind (at_left chain) (posts_behind chain chains) ++ (codes "begin" ∷ []) ∷ []),
        length-append (lines_behind (at_left chain) (posts_behind chain chains)) ((codes "begin" ∷ []) ∷ []),
      )

  chains_say : Says Nothing (network_text (chain ∷ chains) ++ commands_text (chain ∷ chains)) (chains_declared (chain ∷ chains))
  chains_say =
      subst (λ (text : List ℕ). Says Nothing text (chains_declared (chain ∷ chains))) (text_is chain chains)
      (says_words (network_lines chain chains ++ script_lines (chain ∷ chains)) (chains_declared (chain ∷ chains)) all_good few_lines entered refl)

-- the text of few numbered chains is in the grammar
pub chains_are_texts : ChainsAreTexts
chains_are_texts [] some few are = absurd (omega arith)
chains_are_texts (chain ∷ chains) some few are = chains_say chain chains are few

-- ---- drawn chains

run_by : (one two : ℕ) → IsRun (record { count = 1 + one % 4; first = two % 8 })
run_by one two = record { some = omega arith; few = omega arith; known = omega arith }

few_features : (drawn : ℕ) → drawn % 4 ≤ 3
few_features drawn = omega arith

drawn_is_run : (state : ℕ) → IsRun (drawn_codec_run state)
drawn_is_run state = run_by (draw_at 0 state) (draw_at 1 state)

drawn_is_numbered : (state number : ℕ) → IsNumberedChain number (chain_drawn_at state number)
drawn_is_numbered state number = record {
  numbered = refl;
  few = few_features (draw_at 0 (state_after_draws (6 * number) state));
  left = drawn_is_run (state_after_draws 1 (state_after_draws (6 * number) state));
  right = drawn_is_run (state_after_draws 3 (state_after_draws (6 * number) state));
}

drawn_are : (state n a : ℕ) → AreNumberedChains a (map (chain_drawn_at state) (range_with_len a n))
drawn_are state zero a = tt
drawn_are state (suc n) a = (drawn_is_numbered state a, drawn_are state n (a + 1))

pub drawn_chains_are_numbered : DrawnChainsAreNumbered
drawn_chains_are_numbered number size = drawn_are number size 0

pub generated_are_texts : GeneratedAreTexts
generated_are_texts number size some few =
    let counted = length-map-range_with_len (chain_drawn_at number) 0 size in
    chains_are_texts (drawn_chains number size) (omega arith) (omega arith) (drawn_chains_are_numbered number size)
