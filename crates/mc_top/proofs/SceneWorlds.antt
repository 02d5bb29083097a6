-- Worlds of a scene, written out as they are seen: three devices of one slot and a feature, whose slots all flow. What batches make of them, and how a first world is seen.
use Rattle.std.proofs.Common.{◌≡◌, ◌≢◌, ◌<◌, ◌≤◌, ◌==◌, ◌&&◌, if◌then◌else◌, ℕ, zero, suc, Bool, true, false, List, [], ◌∷◌, None, map, refl, ap, sym, ◌∙◌, subst, arith}
use Rattle.std.specs.List.{AllByRecursion}
use Rattle.std.proofs.lemmas.Bool.{ne_eqb}
use Rattle.std.proofs.lemmas.Grind.{common_steps}
use Rattle.mc_rule.specs.Programs.{ProgStateState}
use Rattle.mc_signal.specs.Choice.{codecs_of}
use Rattle.mc_signal.specs.Codecs.{AreCodecs, AreDistinct, IsBlankFrom}
use Rattle.mc_signal.specs.Empty.{no_codecs, no_entries, none_places}
use Rattle.mc_signal.specs.declared.codec_list.CodecList.{CodecList}
use Rattle.mc_signal.specs.declared.Medium.TheVariants.{Audio}
use Rattle.mc_slot.specs.Moves.{closed_slot, with_state}
use Rattle.mc_slot.specs.declared.Goal.{Goal}
use Rattle.mc_slot.specs.declared.Goal.TheVariants.{Close as ToClose}
use Rattle.mc_slot.specs.declared.Slot.{Slot}
use Rattle.mc_slot.specs.declared.SlotGoal.{SlotGoal}
use Rattle.mc_slot.specs.declared.SlotGoal.TheVariants.{End}
use Rattle.mc_slot.specs.declared.State.TheVariants.{Flowing}
use Rattle.mc_box.specs.BoxEvents.{is_command}
use Rattle.mc_box.specs.Boxes.{BoxState, first_goal, first_media, no_box}
use Rattle.mc_box.specs.declared.event.Kind.TheVariants.{Device, Feature}
use Rattle.mc_box.specs.declared.event.Turn.{Turn}
use Rattle.mc_box.specs.declared.setup.SlotMedia.{SlotMedia}
use Rattle.mc_lines.specs.BoxLines.{box_seen}
use Rattle.mc_lines.specs.Meaning.{new_feature}
use Rattle.mc_lines.specs.SoFar.{Declared, DeclaredBox}
use Rattle.mc_model.specs.Settles.{commands_of}
use Rattle.mc_model.specs.Sound.{IsSound}
use Rattle.mc_model.specs.Worlds.{ChannelState, WorldState, box_at}
use Rattle.mc_net.specs.Nets.{IsFirstWorld, with_programs}
use Rattle.mc_plan.specs.Plans.{PlanState, box_from, world_of}
use Rattle.mc_plan.specs.Layouts.{programmed}
use Rattle.mc_plan.specs.Setups.{setups_of}
use Rattle.mc_plan.specs.declared.plan.BoxPlan.{BoxPlan}
use Rattle.mc_program_lines.specs.Finished.{program_of}
use Rattle.mc_program_lines.specs.Programs.{BlockState}
use Rattle.mc_program_laws.specs.Told.{IsOnlyProgram, ProgramStands}
use Rattle.mc_scene_laws.specs.SceneTexts.{device_with}
use Rattle.mc_settings.specs.Settings.{Settings, set_by_all, settings_of}
use Rattle.mc_top.proofs.SceneSteps.{HaveSameLists, IsSeenAs, Leads}
use Rattle.mc_top.proofs.SeenAlike.{IsSeenAlike}

-- ---- the list of the first codec alone

pub first_known : AreCodecs 1 no_entries
first_known k below = grind (arith, common_steps)

pub first_distinct : AreDistinct 1 no_entries
first_distinct j k less below = grind arith

pub first_blank : IsBlankFrom 1 no_entries
first_blank k above = grind (arith, common_steps)

abbrev pub first_codec : CodecList
first_codec = record { len = 1; at = no_entries; places = none_places; short = omega arith; known = first_known; distinct = first_distinct; blank = first_blank }

-- ---- boxes

abbrev pub flowing_slot : Slot
flowing_slot = with_state (closed_slot Audio true) Flowing

-- what the descriptors of a slot are made of at the beginning
abbrev pub media_from : ℕ → SlotMedia
media_from origin = record { origin = origin; version = 1; hears = true; talks = true; address = None }

-- what stays of a device: its slot's number, and the list that it receives and sends
pub record Phone : Type 0 where
  pub origin : ℕ
  pub codecs : CodecList

-- its settings with a goal
abbrev pub phone_settings : Phone → Goal → Settings
phone_settings phone goal = record { goals = End goal ∷ []; media = media_from phone.origin ∷ [] }

-- a device with a goal
abbrev pub phone_with : ℕ → Phone → Goal → BoxState
phone_with number phone goal = record {
  kind = Device;
  number = number;
  receives = phone.codecs;
  sends = phone.codecs;
  first_version = 1;
  slots = flowing_slot ∷ [];
  goals = End goal ∷ [];
  media = media_from phone.origin ∷ [];
  program = None;
  at = None;
  told = None;
}

-- what stays of a scene: its channels, its three devices, and the numbers of the feature's slots
pub record Stage : Type 0 where
  pub channels : List ChannelState
  pub one : Phone
  pub two : Phone
  pub three : Phone
  pub origins : List ℕ

-- the feature with goals
abbrev pub feature_with : Stage → List SlotGoal → BoxState
feature_with stage goals = record {
  kind = Feature;
  number = 3;
  receives = no_codecs;
  sends = no_codecs;
  first_version = 1;
  slots = flowing_slot ∷ flowing_slot ∷ flowing_slot ∷ [];
  goals = goals;
  media = map media_from stage.origins;
  program = None;
  at = None;
  told = None;
}

-- the scene with goals
abbrev pub scene_with : Stage → Goal → Goal → Goal → List SlotGoal → WorldState
scene_with stage a b c goals = record {
  boxes = phone_with 0 stage.one a ∷ phone_with 1 stage.two b ∷ phone_with 2 stage.three c ∷ feature_with stage goals ∷ [];
  channels = stage.channels;
  lanes = [];
}

-- ---- batches

-- a turn of one of four boxes
abbrev pub IsOfScene : Turn → Type 0
IsOfScene turn = turn.who < 4

no_more : (command mine : Bool) (turn : Turn) (rest : List Turn) → mine ≡ false → rest ≡ [] → (if command && mine then turn ∷ rest else rest) ≡ []
no_more true mine turn rest other none = rw other none
no_more false mine turn rest other none = none

-- other boxes have no command then
past_none : (turns : List Turn) (k : ℕ) → AllByRecursion IsOfScene turns → 4 ≤ k → commands_of k turns ≡ []
past_none [] k all past = refl
past_none (turn ∷ turns) k all past =
    no_more (is_command turn.event) (turn.who == k) turn (commands_of k turns) (ne_eqb turn.who k (λ same. omega (arith, all.0, past, same))) (past_none turns k all.1 past)

-- a batch that sets these goals leads from the one to the other
pub scene_leads : (stage : Stage) (a b c x y z : Goal) (olds news : List SlotGoal) (batch : List Turn)
    → set_by_all (commands_of 0 batch) (phone_settings stage.one a) ≡ phone_settings stage.one x
    → set_by_all (commands_of 1 batch) (phone_settings stage.two b) ≡ phone_settings stage.two y
    → set_by_all (commands_of 2 batch) (phone_settings stage.three c) ≡ phone_settings stage.three z
    → AllByRecursion IsOfScene batch → Leads (scene_with stage a b c olds) (scene_with stage x y z news) batch 3
scene_leads stage a b c x y z olds news batch one two three few = record { channels = refl; lists = lists; set = set }
  where
    lists : (k : ℕ) → HaveSameLists (box_at (scene_with stage x y z news) k) (box_at (scene_with stage a b c olds) k)
    lists zero = record { kind = refl; receives = refl; sends = refl }
    lists (suc zero) = record { kind = refl; receives = refl; sends = refl }
    lists (suc (suc zero)) = record { kind = refl; receives = refl; sends = refl }
    lists (suc (suc (suc zero))) = record { kind = refl; receives = refl; sends = refl }
    lists (suc (suc (suc (suc k)))) = record { kind = refl; receives = refl; sends = refl }

    set : (k : ℕ) → k ≢ 3 → set_by_all (commands_of k batch) (settings_of (box_at (scene_with stage a b c olds) k)) ≡ settings_of (box_at (scene_with stage x y z news) k)
    set zero other = one
    set (suc zero) other = two
    set (suc (suc zero)) other = three
    set (suc (suc (suc zero))) other = absurd (other refl)
    set (suc (suc (suc (suc k)))) other = ap (λ (turns : List Turn). set_by_all turns (settings_of no_box)) (past_none batch (suc (suc (suc (suc k)))) few (omega arith))

-- ---- the first world

-- a planned box is seen as one with its settings
box_first : (channels : List ChannelState) (k : ℕ) (plan : BoxPlan) (box : DeclaredBox) (ref : BoxState) → box_seen plan ≡ box → box.kind ≡ ref.kind
    → box.receives ≡ codecs_of ref.receives → box.sends ≡ codecs_of ref.sends
    → record { goals = map first_goal (setups_of channels k); media = map (first_media box.version) (setups_of channels k) } ≡ settings_of ref → IsSeenAlike (box_from channels k plan) ref
box_first channels k plan box ref is kind receives sends settings = record {
  kind = ap (λ (b : DeclaredBox). b.kind) is ∙ kind;
  receives = ap (λ (b : DeclaredBox). b.receives) is ∙ receives;
  sends = ap (λ (b : DeclaredBox). b.sends) is ∙ sends;
  settings = ap (λ (b : DeclaredBox). record { goals = map first_goal (setups_of channels k); media = map (first_media b.version) (setups_of channels k) }) is ∙ settings;
}

programmed_first : (box ref : BoxState) (states : List ProgStateState) → IsSeenAlike box ref → IsSeenAlike (programmed box states) ref
programmed_first box ref states seen = record { kind = seen.kind; receives = seen.receives; sends = seen.sends; settings = seen.settings }

-- four planned boxes, by what is declared of them
record FourPlans (plans : List BoxPlan) (a b c d : DeclaredBox) : Type 0 where
  one : BoxPlan
  two : BoxPlan
  three : BoxPlan
  four : BoxPlan
  are : plans ≡ one ∷ two ∷ three ∷ four ∷ []
  first : box_seen one ≡ a
  second : box_seen two ≡ b
  third : box_seen three ≡ c
  fourth : box_seen four ≡ d

four_plans : (plans : List BoxPlan) (a b c d : DeclaredBox) → map box_seen plans ≡ a ∷ b ∷ c ∷ d ∷ [] → FourPlans plans a b c d
four_plans [] a b c d is = absurd (cc)
four_plans (p ∷ []) a b c d is = absurd (cc)
four_plans (p ∷ q ∷ []) a b c d is = absurd (cc)
four_plans (p ∷ q ∷ r ∷ []) a b c d is = absurd (cc)
four_plans (p ∷ q ∷ r ∷ s ∷ []) a b c d is = record { one = p; two = q; three = r; four = s; are = refl; first = cc; second = cc; third = cc; fourth = cc }
four_plans (p ∷ q ∷ r ∷ s ∷ t ∷ rest) a b c d is = absurd (cc)

-- the settings of a new box with these numbers of slots
abbrev pub new_settings : List ChannelState → ℕ → Settings
new_settings channels k = record { goals = map first_goal (setups_of channels k); media = map (first_media 1) (setups_of channels k) }

-- goals of three slots that close
abbrev pub all_close : List SlotGoal
all_close = End ToClose ∷ End ToClose ∷ End ToClose ∷ []

-- a scene before its first batch
abbrev pub scene_first : Stage → WorldState
scene_first stage = scene_with stage ToClose ToClose ToClose all_close

-- the first of these blocks
abbrev pub block_in : List BlockState → BlockState
block_in [] = record { who = 0; states = []; parts = [] }
block_in (block ∷ blocks) = block

-- the first world of these plans, with a program
abbrev pub first_of : Stage → BlockState → BoxPlan → BoxPlan → BoxPlan → BoxPlan → WorldState
first_of stage block p q r s = with_programs (world_of (record { boxes = p ∷ q ∷ r ∷ s ∷ []; channels = stage.channels })) (record block { who = 3 } ∷ [])

-- what is declared of a scene: three devices, and a feature with a program
pub record DeclaresScene (stage : Stage) (block : BlockState) (d : Declared) : Type 0 where
  pub boxes : d.boxes ≡ device_with (codecs_of stage.one.codecs) ∷ device_with (codecs_of stage.two.codecs) ∷ device_with (codecs_of stage.three.codecs) ∷ new_feature ∷ []
  pub channels : d.channels ≡ stage.channels
  pub blocks : d.blocks ≡ record block { who = 3 } ∷ []

-- its channels give each box its slots
pub record GivesSlots (stage : Stage) : Type 0 where
  pub one : new_settings stage.channels 0 ≡ phone_settings stage.one ToClose
  pub two : new_settings stage.channels 1 ≡ phone_settings stage.two ToClose
  pub three : new_settings stage.channels 2 ≡ phone_settings stage.three ToClose
  pub feature : new_settings stage.channels 3 ≡ record { goals = all_close; media = map media_from stage.origins }

-- the first world of a scene is seen so, and its program is at no state
pub record BeginsAs (world : WorldState) (stage : Stage) (states : List ProgStateState) : Type 0 where
  pub seen_as : IsSeenAs world (scene_first stage) 3
  pub stands : ProgramStands (box_at world 3) states None None (record { goals = all_close; media = map media_from stage.origins })

begins_by : (stage : Stage) (block : BlockState) (p q r s : BoxPlan) → GivesSlots stage → box_seen p ≡ device_with (codecs_of stage.one.codecs)
    → box_seen q ≡ device_with (codecs_of stage.two.codecs) → box_seen r ≡ device_with (codecs_of stage.three.codecs) → box_seen s ≡ new_feature
    → IsSound (first_of stage block p q r s) → BeginsAs (first_of stage block p q r s) stage (program_of block)
begins_by stage block p q r s gives one two three four sound = record {
  seen_as = record { sound = sound; seen = record { channels = refl; boxes = boxes }; only = only };
  stands = record { program = refl; at = refl; told = refl; set = feature.settings };
}
  where
    feature : IsSeenAlike (box_from stage.channels 3 s) (feature_with stage all_close)
    feature = box_first stage.channels 3 s new_feature (feature_with stage all_close) four refl refl refl gives.feature

    boxes : (k : ℕ) → IsSeenAlike (box_at (first_of stage block p q r s) k) (box_at (scene_first stage) k)
    boxes zero = box_first stage.channels 0 p (device_with (codecs_of stage.one.codecs)) (phone_with 0 stage.one ToClose) one refl refl refl gives.one
    boxes (suc zero) = box_first stage.channels 1 q (device_with (codecs_of stage.two.codecs)) (phone_with 1 stage.two ToClose) two refl refl refl gives.two
    boxes (suc (suc zero)) = box_first stage.channels 2 r (device_with (codecs_of stage.three.codecs)) (phone_with 2 stage.three ToClose) three refl refl refl gives.three
    boxes (suc (suc (suc zero))) = programmed_first (box_from stage.channels 3 s) (feature_with stage all_close) (program_of block) feature
    boxes (suc (suc (suc (suc k)))) = record { kind = refl; receives = refl; sends = refl; settings = refl }

    only : IsOnlyProgram (first_of stage block p q r s) 3
    only zero other = refl
    only (suc zero) other = refl
    only (suc (suc zero)) other = refl
    only (suc (suc (suc zero))) other = absurd (other refl)
    only (suc (suc (suc (suc k)))) other = refl

pub scene_begins : (stage : Stage) (block : BlockState) (d : Declared) (first : WorldState) → DeclaresScene stage block d → GivesSlots stage → IsFirstWorld d first → IsSound first
    → BeginsAs first stage (program_of block)
scene_begins stage block d first declares gives is sound =
    let plans = four_plans is.plan.boxes (device_with (codecs_of stage.one.codecs)) (device_with (codecs_of stage.two.codecs)) (device_with (codecs_of stage.three.codecs)) new_feature
    (is.boxes ∙ declares.boxes) in
    let boxes : List BoxPlan = plans.one ∷ plans.two ∷ plans.three ∷ plans.four ∷ [] in
    let plan_is : is.plan ≡ record { boxes = boxes; channels = stage.channels } =
    ap (λ (b : List BoxPlan). record is.plan { boxes = b }) plans.are ∙ ap (λ (c : List ChannelState). record { boxes = boxes; channels = c }) (is.channels ∙ declares.channels) in
    let world_is : first ≡ first_of stage block plans.one plans.two plans.three plans.four =
    is.world
    ∙ (ap (λ (plan : PlanState). with_programs (world_of plan) d.blocks) plan_is
    ∙ ap (λ (blocks : List BlockState). with_programs (world_of (record { boxes = boxes; channels = stage.channels })) blocks) declares.blocks) in
    subst (λ (w : WorldState). BeginsAs w stage (program_of block)) (sym world_is)
    (begins_by stage block plans.one plans.two plans.three plans.four gives plans.first plans.second plans.third plans.fourth (subst (λ (w : WorldState). IsSound w) world_is sound))
