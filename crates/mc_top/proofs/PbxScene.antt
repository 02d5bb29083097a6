-- The scene of alice, bob and carol: every journal that settles its batches prints the same.
use Rattle.std.proofs.Common.{◌≡◌, ◌<◌, ◌+◌, ◌++◌, ℕ, zero, suc, List, [], ◌∷◌, codes, Some, append-nil, refl, ap, sym, ◌∙◌, arith}
use Rattle.mc_rule.specs.Programs.{ProgStateState}
use Rattle.mc_scene.specs.Outputs.{scene_output, settle_lines, with_bob, with_carol, without_bob}
use Rattle.mc_scene.specs.declared.scenes.Scene.TheVariants.{Pbx}
use Rattle.mc_slot.specs.declared.Goal.{Goal}
use Rattle.mc_slot.specs.declared.Goal.TheVariants.{Open as ToOpen, Hold as ToHold, Close as ToClose}
use Rattle.mc_slot.specs.declared.SlotGoal.TheVariants.{End}
use Rattle.mc_slot.specs.declared.State.TheVariants.{Closed, Flowing}
use Rattle.mc_box.specs.BoxEvents.{turn_of}
use Rattle.mc_box.specs.Boxes.{goals_in}
use Rattle.mc_box.specs.declared.event.Change.TheVariants.{End as NewEnd}
use Rattle.mc_box.specs.declared.event.Event.TheVariants.{Set, Tell}
use Rattle.mc_box.specs.declared.event.Turn.{Turn}
use Rattle.mc_laws.proofs.Resting.{rests_quiet}
use Rattle.mc_model.specs.Paths.{PathEnds}
use Rattle.mc_model.specs.Settles.{IsSettled}
use Rattle.mc_model.specs.Steps.{run}
use Rattle.mc_model.specs.Worlds.{WorldState, goal_of, slot_count, slot_of}
use Rattle.mc_path_laws.specs.PathLaws.{AreIn}
use Rattle.mc_program_laws.specs.Told.{OwesNoRetry, ShiftsFirst, settings_in}
use Rattle.mc_net.specs.Nets.{batches_of}
use Rattle.mc_program_lines.specs.Finished.{program_of}
use Rattle.mc_program_lines.specs.Programs.{BlockState}
use Rattle.mc_replay.specs.Journals.{IsJournal}
use Rattle.mc_scene_laws.specs.SceneTexts.{pbx_declared}
use Rattle.mc_script.specs.declared.command.JournalLine.{JournalLine}
use Rattle.mc_settings.specs.Settings.{Settings}
use Rattle.mc_table.specs.Words.{line_of}
use Rattle.mc_text.specs.NameLists.{NameLists}
use Rattle.mc_script_end.specs.Printed.{journal_text}
use Rattle.mc_settle_text.specs.Paths.{settle_text}
use Rattle.mc_top.proofs.SceneSteps.{SettledAs, ends_in, first_settled, held_on, none_owed, state_held, state_seen, told_settled, untold_settled}
use Rattle.mc_top.proofs.SceneTexts.{settle_then, settle_written, two_paths_text}
use Rattle.mc_top.proofs.SceneWorlds.{BeginsAs, Stage, all_close, block_in, first_codec, media_from, scene_leads, scene_with}

-- ---- what the text says

abbrev names : NameLists
names = pbx_declared.names

abbrev pub pbx_stage : Stage
pbx_stage = record {
  channels = pbx_declared.channels;
  one = record { origin = 0; codecs = first_codec };
  two = record { origin = 2; codecs = first_codec };
  three = record { origin = 4; codecs = first_codec };
  origins = 1 ∷ 3 ∷ 5 ∷ [];
}

abbrev pub pbx_block : BlockState
pbx_block = block_in pbx_declared.blocks

-- its states are ab and ac
abbrev pbx_program : List ProgStateState
pbx_program = program_of pbx_block

abbrev calls : List Turn
calls = turn_of 0 (Set (NewEnd 0 ToOpen)) ∷ turn_of 1 (Set (NewEnd 0 ToHold)) ∷ turn_of 2 (Set (NewEnd 0 ToOpen)) ∷ []

abbrev swap : List Turn
swap = turn_of 3 (Tell 0) ∷ []

abbrev bob_closes : List Turn
bob_closes = turn_of 1 (Set (NewEnd 0 ToClose)) ∷ []

-- ---- worlds

-- by bob's goal and the state of the feature
abbrev world_with : Goal → ℕ → WorldState
world_with bob at = scene_with pbx_stage ToOpen bob ToOpen (goals_in pbx_program at)

abbrev settings_at : ℕ → Settings
settings_at at = settings_in pbx_program (media_from 1 ∷ media_from 3 ∷ media_from 5 ∷ []) at

abbrev IsAt : WorldState → Goal → ℕ → Type 0
IsAt world bob at = SettledAs world (world_with bob at) 3 pbx_program (settings_at at) at

abbrev between : ℕ → ℕ → PathEnds
between low high = record { low = low; high = high }

-- ---- alice with bob

-- both paths flow
record WithBob (world : WorldState) : Type 0 where
  at : IsAt world ToHold 0
  first : AreIn world (between 0 2) Flowing
  second : AreIn world (between 4 5) Flowing

bob_flows : (world : WorldState) → IsAt world ToHold 0 → WithBob world
bob_flows world at = record {
  at = at;
  first = ends_in world (world_with ToHold 0) (between 0 2) 0 Flowing at.seen_as.seen at.holds refl refl;
  second = ends_in world (world_with ToHold 0) (between 4 5) 1 Flowing at.seen_as.seen at.holds refl refl;
}

bob_owes : (world : WorldState) → WithBob world → OwesNoRetry world
bob_owes world now = none_owed world (world_with ToHold 0) now.at.seen_as.seen opens
  where
    opens : (s : ℕ) → s < slot_count (world_with ToHold 0) → goal_of (world_with ToHold 0) s ≡ End ToOpen → (slot_of world s).state ≡ Flowing
    opens zero inside is = now.first.low
    opens (suc zero) inside is = absurd (cc)
    opens (suc (suc zero)) inside is = absurd (cc)
    opens (suc (suc (suc zero))) inside is = absurd (cc)
    opens (suc (suc (suc (suc zero)))) inside is = now.second.low
    opens (suc (suc (suc (suc (suc zero))))) inside is = absurd (cc)
    opens (suc (suc (suc (suc (suc (suc s)))))) inside is = absurd (omega (arith, inside))

bob_text : (number : ℕ) (world : WorldState) (line : List ℕ) → IsAt world ToHold 0 → number < 10 → line_of (codes "settle" ∷ ((48 + number) ∷ []) ∷ []) ≡ line ++ 10 ∷ []
    → settle_text names number world ≡ settle_lines line with_bob
bob_text number world line at small is =
    two_paths_text names number world (world_with ToHold 0) (between 0 2) (between 4 5) (settle_lines line with_bob) at.seen_as.seen refl
    (sym (state_seen world (world_with ToHold 0) (between 0 2) Flowing at.seen_as.seen refl)) (sym (state_seen world (world_with ToHold 0) (between 4 5) Flowing at.seen_as.seen refl))
    (settle_written names number (world_with ToHold 0) line with_bob small is refl)

-- ---- alice with carol

-- both paths flow, and so does the tunnel between bob and the feature
record WithCarol (world : WorldState) : Type 0 where
  at : IsAt world ToHold 1
  first : AreIn world (between 0 4) Flowing
  held : (slot_of world 2).state ≡ Flowing

carol_flows : (world last : WorldState) (turns : List Turn) → WithBob world → ShiftsFirst 3 0 turns → run world turns ≡ Some last → IsAt last ToHold 1 → WithCarol last
carol_flows world last turns before shifts goes at = record {
  at = at;
  first = ends_in last (world_with ToHold 1) (between 0 4) 0 Flowing at.seen_as.seen at.holds refl refl;
  held = (held_on world last (world_with ToHold 0) (world_with ToHold 1) turns 3 0 2 before.at.seen_as (rests_quiet world before.at.rest) shifts goes at.seen_as.seen (omega arith) before.first.high refl refl).near.flows;
}

carol_owes : (world : WorldState) → WithCarol world → OwesNoRetry world
carol_owes world now = none_owed world (world_with ToHold 1) now.at.seen_as.seen opens
  where
    opens : (s : ℕ) → s < slot_count (world_with ToHold 1) → goal_of (world_with ToHold 1) s ≡ End ToOpen → (slot_of world s).state ≡ Flowing
    opens zero inside is = now.first.low
    opens (suc zero) inside is = absurd (cc)
    opens (suc (suc zero)) inside is = absurd (cc)
    opens (suc (suc (suc zero))) inside is = absurd (cc)
    opens (suc (suc (suc (suc zero)))) inside is = now.first.high
    opens (suc (suc (suc (suc (suc zero))))) inside is = absurd (cc)
    opens (suc (suc (suc (suc (suc (suc s)))))) inside is = absurd (omega (arith, inside))

carol_text : (number : ℕ) (world : WorldState) (line : List ℕ) → WithCarol world → number < 10 → line_of (codes "settle" ∷ ((48 + number) ∷ []) ∷ []) ≡ line ++ 10 ∷ []
    → settle_text names number world ≡ settle_lines line with_carol
carol_text number world line now small is =
    two_paths_text names number world (world_with ToHold 1) (between 0 4) (between 2 3) (settle_lines line with_carol) now.at.seen_as.seen refl
    (sym (state_seen world (world_with ToHold 1) (between 0 4) Flowing now.at.seen_as.seen refl)) (sym (state_held world (world_with ToHold 1) (between 2 3) now.at.seen_as.seen refl ∙ now.held))
    (settle_written names number (world_with ToHold 1) line with_carol small is refl)

-- ---- bob closes

closed_text : (number : ℕ) (world : WorldState) (line : List ℕ) → IsAt world ToClose 0 → number < 10 → line_of (codes "settle" ∷ ((48 + number) ∷ []) ∷ []) ≡ line ++ 10 ∷ []
    → settle_text names number world ≡ settle_lines line without_bob
closed_text number world line at small is =
    two_paths_text names number world (world_with ToClose 0) (between 0 2) (between 4 5) (settle_lines line without_bob) at.seen_as.seen refl
    (sym (state_seen world (world_with ToClose 0) (between 0 2) Closed at.seen_as.seen refl)) (sym (state_seen world (world_with ToClose 0) (between 4 5) Flowing at.seen_as.seen refl))
    (settle_written names number (world_with ToClose 0) line without_bob small is refl)

-- ---- the four settles

first_segment : (world last : WorldState) (turns : List Turn) → BeginsAs world pbx_stage pbx_program → IsSettled world calls turns last → IsAt last ToHold 0
first_segment world last turns begins settled =
    first_settled world last (scene_with pbx_stage ToClose ToClose ToClose all_close) (world_with ToHold 0) calls turns 3 pbx_program
    (record { goals = all_close; media = media_from 1 ∷ media_from 3 ∷ media_from 5 ∷ [] }) begins.seen_as begins.stands (λ slots. refl) refl
    (scene_leads pbx_stage ToClose ToClose ToClose ToOpen ToHold ToOpen all_close (goals_in pbx_program 0) calls refl refl refl (omega arith, (omega arith, (omega arith, tt)))) refl settled

-- the word leads from the one state to the other
swap_leads : (world last : WorldState) (turns : List Turn) → WithBob world → IsSettled world swap turns last → WithCarol last
swap_leads world last turns now settled =
    let told = told_settled world last (world_with ToHold 0) (world_with ToHold 1) turns 3 0 pbx_program (settings_at 0) 0 1 now.at (bob_owes world now) (λ slots. refl) (λ slots. refl)
    (scene_leads pbx_stage ToOpen ToHold ToOpen ToOpen ToHold ToOpen (goals_in pbx_program 0) (goals_in pbx_program 1) swap refl refl refl (omega arith, tt)) refl settled in
    carol_flows world last turns now told.0 settled.runs told.1

-- and back
swap_leads_back : (world last : WorldState) (turns : List Turn) → WithCarol world → IsSettled world swap turns last → IsAt last ToHold 0
swap_leads_back world last turns now settled =
    (told_settled world last (world_with ToHold 1) (world_with ToHold 0) turns 3 0 pbx_program (settings_at 1) 1 0 now.at (carol_owes world now) (λ slots. refl) (λ slots. refl)
    (scene_leads pbx_stage ToOpen ToHold ToOpen ToOpen ToHold ToOpen (goals_in pbx_program 1) (goals_in pbx_program 0) swap refl refl refl (omega arith, tt)) refl settled).1

last_segment : (world last : WorldState) (turns : List Turn) → IsAt world ToHold 0 → IsSettled world bob_closes turns last → IsAt last ToClose 0
last_segment world last turns at settled =
    untold_settled world last (world_with ToHold 0) (world_with ToClose 0) bob_closes turns 3 pbx_program (settings_at 0) 0 at (λ slots. refl) refl
    (scene_leads pbx_stage ToOpen ToHold ToOpen ToOpen ToClose ToOpen (goals_in pbx_program 0) (goals_in pbx_program 0) bob_closes refl refl refl (omega arith, tt)) refl settled

-- what is printed of a journal from a world that begins so
pub pbx_prints : (world : WorldState) (journal : List JournalLine) → BeginsAs world pbx_stage pbx_program → IsJournal world (batches_of pbx_declared.commands) journal
    → journal_text names 1 world journal ≡ scene_output Pbx
pbx_prints world journal begins (turns_one, one, rest_one, is_one, settled_one, (turns_two, two, rest_two, is_two, settled_two, (turns_three, three, rest_three, is_three, settled_three, (turns_four, four, rest_four, is_four, settled_four, none)))) =
    let at_one = bob_flows one (first_segment world one turns_one begins settled_one) in
    let at_two = swap_leads one two turns_two at_one settled_two in
    let at_three = swap_leads_back two three turns_three at_two settled_three in
    let at_four = last_segment three four turns_four at_three settled_four in
    let text_one = bob_text 1 one (codes "settle 1") at_one.at (omega arith) refl in
    let text_two = carol_text 2 two (codes "settle 2") at_two (omega arith) refl in
    let text_three = bob_text 3 three (codes "settle 3") at_three (omega arith) refl in
    let text_four = closed_text 4 four (codes "settle 4") at_four (omega arith) refl in
    let last : journal_text names 5 four rest_four ≡ [] = ap (λ (lines : List JournalLine). journal_text names 5 four lines) none in
    settle_then names 1 world one turns_one journal rest_one _ _ settled_one.runs is_one text_one
    (settle_then names 2 one two turns_two rest_one rest_two _ _ settled_two.runs is_two text_two
    (settle_then names 3 two three turns_three rest_two rest_three _ _ settled_three.runs is_three text_three
    (settle_then names 4 three four turns_four rest_three rest_four _ _ settled_four.runs is_four text_four last
    ∙ append-nil (settle_lines (codes "settle 4") without_bob))))
