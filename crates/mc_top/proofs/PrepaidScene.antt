-- The scene of the caller, the callee and the voice: every journal that settles its batches prints the same.
use Rattle.std.proofs.Common.{◌≡◌, ◌<◌, ◌+◌, ◌++◌, ℕ, zero, suc, List, [], ◌∷◌, codes, Some, append-nil, refl, ap, sym, ◌∙◌, arith}
use Rattle.mc_rule.specs.Programs.{ProgStateState}
use Rattle.mc_scene.specs.Outputs.{scene_output, settle_lines, with_callee, with_voice}
use Rattle.mc_scene.specs.declared.scenes.Scene.TheVariants.{Prepaid}
use Rattle.mc_slot.specs.declared.Goal.TheVariants.{Open as ToOpen, Hold as ToHold, Close as ToClose}
use Rattle.mc_slot.specs.declared.SlotGoal.TheVariants.{End}
use Rattle.mc_slot.specs.declared.State.TheVariants.{Closed, Flowing}
use Rattle.mc_box.specs.BoxEvents.{turn_of}
use Rattle.mc_box.specs.Boxes.{goals_in}
use Rattle.mc_box.specs.declared.event.Change.TheVariants.{End as NewEnd}
use Rattle.mc_box.specs.declared.event.Event.TheVariants.{Set, Tell}
use Rattle.mc_box.specs.declared.event.Turn.{Turn}
use Rattle.mc_laws.proofs.Resting.{rests_quiet}
use Rattle.mc_laws.specs.Exchanges.{both_codecs, one_codec}
use Rattle.mc_model.specs.Paths.{PathEnds}
use Rattle.mc_model.specs.Settles.{IsSettled}
use Rattle.mc_model.specs.Steps.{run}
use Rattle.mc_model.specs.Worlds.{WorldState, goal_of, slot_count, slot_of}
use Rattle.mc_path_laws.specs.PathLaws.{AreIn}
use Rattle.mc_net.specs.Nets.{batches_of}
use Rattle.mc_program_lines.specs.Finished.{program_of}
use Rattle.mc_program_lines.specs.Programs.{BlockState}
use Rattle.mc_program_laws.specs.Told.{OwesNoRetry, ShiftsFirst, settings_in}
use Rattle.mc_replay.specs.Journals.{IsJournal}
use Rattle.mc_scene_laws.specs.SceneTexts.{prepaid_declared}
use Rattle.mc_script.specs.declared.command.JournalLine.{JournalLine}
use Rattle.mc_settings.specs.Settings.{Settings}
use Rattle.mc_table.specs.Words.{line_of}
use Rattle.mc_text.specs.NameLists.{NameLists}
use Rattle.mc_script_end.specs.Printed.{journal_text}
use Rattle.mc_settle_text.specs.Paths.{settle_text}
use Rattle.mc_top.proofs.SceneSteps.{SettledAs, ends_in, first_settled, held_on, none_owed, state_held, state_seen, told_settled}
use Rattle.mc_top.proofs.SceneTexts.{settle_then, settle_written, two_paths_text}
use Rattle.mc_top.proofs.SceneWorlds.{BeginsAs, Stage, all_close, block_in, first_codec, media_from, scene_leads, scene_with}

-- ---- what the text says

abbrev names : NameLists
names = prepaid_declared.names

abbrev pub prepaid_stage : Stage
prepaid_stage = record {
  channels = prepaid_declared.channels;
  one = record { origin = 0; codecs = both_codecs };
  two = record { origin = 3; codecs = one_codec };
  three = record { origin = 5; codecs = first_codec };
  origins = 1 ∷ 2 ∷ 4 ∷ [];
}

abbrev pub prepaid_block : BlockState
prepaid_block = block_in prepaid_declared.blocks

-- its states are talk and prompt
abbrev prepaid_program : List ProgStateState
prepaid_program = program_of prepaid_block

abbrev calls : List Turn
calls = turn_of 0 (Set (NewEnd 0 ToOpen)) ∷ turn_of 1 (Set (NewEnd 0 ToHold)) ∷ turn_of 2 (Set (NewEnd 0 ToHold)) ∷ []

abbrev out : List Turn
out = turn_of 3 (Tell 0) ∷ []

abbrev paid : List Turn
paid = turn_of 3 (Tell 1) ∷ []

-- ---- worlds

-- by the state of the feature
abbrev world_at : ℕ → WorldState
world_at at = scene_with prepaid_stage ToOpen ToHold ToHold (goals_in prepaid_program at)

abbrev settings_at : ℕ → Settings
settings_at at = settings_in prepaid_program (media_from 1 ∷ media_from 2 ∷ media_from 4 ∷ []) at

abbrev IsAt : WorldState → ℕ → Type 0
IsAt world at = SettledAs world (world_at at) 3 prepaid_program (settings_at at) at

abbrev between : ℕ → ℕ → PathEnds
between low high = record { low = low; high = high }

-- ---- the caller with the callee

-- their path flows
record WithCallee (world : WorldState) : Type 0 where
  at : IsAt world 0
  first : AreIn world (between 0 3) Flowing

callee_flows : (world : WorldState) → IsAt world 0 → WithCallee world
callee_flows world at = record { at = at; first = ends_in world (world_at 0) (between 0 3) 0 Flowing at.seen_as.seen at.holds refl refl }

callee_owes : (world : WorldState) → WithCallee world → OwesNoRetry world
callee_owes world now = none_owed world (world_at 0) now.at.seen_as.seen opens
  where
    opens : (s : ℕ) → s < slot_count (world_at 0) → goal_of (world_at 0) s ≡ End ToOpen → (slot_of world s).state ≡ Flowing
    opens zero inside is = now.first.low
    opens (suc zero) inside is = absurd (cc)
    opens (suc (suc zero)) inside is = absurd (cc)
    opens (suc (suc (suc zero))) inside is = absurd (cc)
    opens (suc (suc (suc (suc zero)))) inside is = absurd (cc)
    opens (suc (suc (suc (suc (suc zero))))) inside is = absurd (cc)
    opens (suc (suc (suc (suc (suc (suc s)))))) inside is = absurd (omega (arith, inside))

callee_text : (number : ℕ) (world : WorldState) (line : List ℕ) → IsAt world 0 → number < 10 → line_of (codes "settle" ∷ ((48 + number) ∷ []) ∷ []) ≡ line ++ 10 ∷ []
    → settle_text names number world ≡ settle_lines line with_callee
callee_text number world line at small is =
    two_paths_text names number world (world_at 0) (between 0 3) (between 4 5) (settle_lines line with_callee) at.seen_as.seen refl
    (sym (state_seen world (world_at 0) (between 0 3) Flowing at.seen_as.seen refl)) (sym (state_seen world (world_at 0) (between 4 5) Closed at.seen_as.seen refl))
    (settle_written names number (world_at 0) line with_callee small is refl)

-- ---- the caller with the voice

-- their path flows, and so does the tunnel between the feature and the callee
record WithVoice (world : WorldState) : Type 0 where
  at : IsAt world 1
  first : AreIn world (between 0 5) Flowing
  held : (slot_of world 2).state ≡ Flowing

voice_flows : (world last : WorldState) (turns : List Turn) → WithCallee world → ShiftsFirst 3 0 turns → run world turns ≡ Some last → IsAt last 1 → WithVoice last
voice_flows world last turns before shifts goes at = record {
  at = at;
  first = ends_in last (world_at 1) (between 0 5) 0 Flowing at.seen_as.seen at.holds refl refl;
  held = (held_on world last (world_at 0) (world_at 1) turns 3 0 3 before.at.seen_as (rests_quiet world before.at.rest) shifts goes at.seen_as.seen (omega arith) before.first.high refl refl).away.flows;
}

voice_owes : (world : WorldState) → WithVoice world → OwesNoRetry world
voice_owes world now = none_owed world (world_at 1) now.at.seen_as.seen opens
  where
    opens : (s : ℕ) → s < slot_count (world_at 1) → goal_of (world_at 1) s ≡ End ToOpen → (slot_of world s).state ≡ Flowing
    opens zero inside is = now.first.low
    opens (suc zero) inside is = absurd (cc)
    opens (suc (suc zero)) inside is = absurd (cc)
    opens (suc (suc (suc zero))) inside is = absurd (cc)
    opens (suc (suc (suc (suc zero)))) inside is = absurd (cc)
    opens (suc (suc (suc (suc (suc zero))))) inside is = absurd (cc)
    opens (suc (suc (suc (suc (suc (suc s)))))) inside is = absurd (omega (arith, inside))

voice_text : (number : ℕ) (world : WorldState) (line : List ℕ) → WithVoice world → number < 10 → line_of (codes "settle" ∷ ((48 + number) ∷ []) ∷ []) ≡ line ++ 10 ∷ []
    → settle_text names number world ≡ settle_lines line with_voice
voice_text number world line now small is =
    two_paths_text names number world (world_at 1) (between 0 5) (between 2 3) (settle_lines line with_voice) now.at.seen_as.seen refl
    (sym (state_seen world (world_at 1) (between 0 5) Flowing now.at.seen_as.seen refl)) (sym (state_held world (world_at 1) (between 2 3) now.at.seen_as.seen refl ∙ now.held))
    (settle_written names number (world_at 1) line with_voice small is refl)

-- ---- the three settles

first_segment : (world last : WorldState) (turns : List Turn) → BeginsAs world prepaid_stage prepaid_program → IsSettled world calls turns last → WithCallee last
first_segment world last turns begins settled =
    callee_flows last
    (first_settled world last (scene_with prepaid_stage ToClose ToClose ToClose all_close) (world_at 0) calls turns 3 prepaid_program
    (record { goals = all_close; media = media_from 1 ∷ media_from 2 ∷ media_from 4 ∷ [] }) begins.seen_as begins.stands (λ slots. refl) refl
    (scene_leads prepaid_stage ToClose ToClose ToClose ToOpen ToHold ToHold all_close (goals_in prepaid_program 0) calls refl refl refl (omega arith, (omega arith, (omega arith, tt)))) refl settled)

-- the caller has no more to speak for
out_leads : (world last : WorldState) (turns : List Turn) → WithCallee world → IsSettled world out turns last → WithVoice last
out_leads world last turns now settled =
    let told = told_settled world last (world_at 0) (world_at 1) turns 3 0 prepaid_program (settings_at 0) 0 1 now.at (callee_owes world now) (λ slots. refl) (λ slots. refl)
    (scene_leads prepaid_stage ToOpen ToHold ToHold ToOpen ToHold ToHold (goals_in prepaid_program 0) (goals_in prepaid_program 1) out refl refl refl (omega arith, tt)) refl settled in
    voice_flows world last turns now told.0 settled.runs told.1

-- and has paid
paid_leads : (world last : WorldState) (turns : List Turn) → WithVoice world → IsSettled world paid turns last → IsAt last 0
paid_leads world last turns now settled =
    (told_settled world last (world_at 1) (world_at 0) turns 3 1 prepaid_program (settings_at 1) 1 0 now.at (voice_owes world now) (λ slots. refl) (λ slots. refl)
    (scene_leads prepaid_stage ToOpen ToHold ToHold ToOpen ToHold ToHold (goals_in prepaid_program 1) (goals_in prepaid_program 0) paid refl refl refl (omega arith, tt)) refl settled).1

-- what is printed of a journal from a world that begins so
pub prepaid_prints : (world : WorldState) (journal : List JournalLine) → BeginsAs world prepaid_stage prepaid_program → IsJournal world (batches_of prepaid_declared.commands) journal
    → journal_text names 1 world journal ≡ scene_output Prepaid
prepaid_prints world journal begins (turns_one, one, rest_one, is_one, settled_one, (turns_two, two, rest_two, is_two, settled_two, (turns_three, three, rest_three, is_three, settled_three, none))) =
    let at_one = first_segment world one turns_one begins settled_one in
    let at_two = out_leads one two turns_two at_one settled_two in
    let at_three = paid_leads two three turns_three at_two settled_three in
    let text_one = callee_text 1 one (codes "settle 1") at_one.at (omega arith) refl in
    let text_two = voice_text 2 two (codes "settle 2") at_two (omega arith) refl in
    let text_three = callee_text 3 three (codes "settle 3") at_three (omega arith) refl in
    let last : journal_text names 4 three rest_three ≡ [] = ap (λ (lines : List JournalLine). journal_text names 4 three lines) none in
    settle_then names 1 world one turns_one journal rest_one _ _ settled_one.runs is_one text_one
    (settle_then names 2 one two turns_two rest_one rest_two _ _ settled_two.runs is_two text_two
    (settle_then names 3 two three turns_three rest_two rest_three _ _ settled_three.runs is_three text_three last
    ∙ append-nil (settle_lines (codes "settle 3") with_callee)))
