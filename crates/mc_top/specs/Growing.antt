-- What the top call promises where the words ask for a script in which channels join and are cut.
use Rattle.std.specs.Prelude.{◌≡◌, ◌⊎◌, ◌≤◌, ℕ, List, [], length, map, IfSome, IsFalse, None, Option, Some}
use Rattle.std.specs.List.{All}
use Rattle.std.specs.Io.KnownBytes.{Keeps}
use Rattle.mc_explain.specs.Reasons.{line_at}
use Rattle.mc_box.specs.declared.event.Turn.{Turn}
use Rattle.mc_growth.specs.Growths.{grown_from}
use Rattle.mc_growth.specs.Outs.{AreOut}
use Rattle.mc_grown_script.specs.Printed.{stop_word}
use Rattle.mc_grown_script.specs.ScriptRuns.{CameToEnd, EndsAs, StoppedWithin}
use Rattle.mc_grown_script.specs.declared.stop.GrownStop.{GrownStop}
use Rattle.mc_grown_script.specs.declared.stop.ScriptRun.{ScriptRun}
use Rattle.mc_lines.specs.declared.detail.Detail.{Detail}
use Rattle.mc_lines.specs.declared.detail.Detail.TheVariants.{Nothing as NoDetail}
use Rattle.mc_lines.specs.declared.tail.Tail.TheVariants.{Grow}
use Rattle.mc_model.specs.Sound.{IsSound}
use Rattle.mc_lines.specs.declared.limit.TheConstants.{COMMAND_LIMIT}
use Rattle.mc_model.specs.Worlds.{WorldState}
use Rattle.mc_net.specs.Details.{fault_detail}
use Rattle.mc_net.specs.Nets.{batch_turns}
use Rattle.mc_divided.specs.declared.limit.TheConstants.{NETWORK_LIMIT}
use Rattle.mc_net.specs.TextLaws.{first_bytes}
use Rattle.mc_net.specs.Texts.{IsFault}
use Rattle.mc_net.specs.declared.net.Net.{Net}
use Rattle.mc_script.specs.declared.command.JournalLine.{JournalLine}
use Rattle.mc_stage_plans.specs.PlanLaws.{ArePlanned}
use Rattle.mc_stage_plans.specs.Planned.{ArePlansOf}
use Rattle.mc_stages.specs.Plans.{AreLawful, NamesEnough, grown_at_end}
use Rattle.mc_stages.specs.StageLaws.{PathsHold}
use Rattle.mc_stages.specs.StageRuns.{networks_after}
use Rattle.mc_stages.specs.declared.plan.StagePlan.{StagePlan}
use Rattle.mc_tail.specs.Tails.{HasHead, IsTailFault}
use Rattle.mc_tail.specs.declared.item.Item.{Item}
use Rattle.mc_tail.specs.declared.tail.TailText.{TailText}
use Rattle.mc_text.specs.NameLists.{NameLists}
use Rattle.mc_call.specs.Printed.{fault_line}
use Rattle.mc_call.specs.Reasons.{HasPlace, Told, of_box, of_journal, of_text}
use Rattle.mc_top.specs.Statuses.{IsDueForGrowing, grown_stop_status}
use Rattle.mc_call.specs.Statuses.{keeps_journal}
use Rattle.mc_call.specs.Calls.{Delivers}
use Rattle.mc_call.specs.declared.status.TheConstants.{WORKED, FAULTY_TEXT, NO_MEMORY, READ_FAULT, RESTLESS, RING, CHANNEL_IN_USE}
use Rattle.mc_call.specs.declared.done.Done.{Done}

-- ---- the text

-- the text's first fault is this one: up to the line `grow`, or after it
abbrev pub IsGrowingFault : List ℕ → (number line : ℕ) → Type 0
IsGrowingFault text number line = IsFault Grow text number line ⊎ (HasHead text × IsTailFault text number line)

-- what is told of a text has this first fault
abbrev pub ToldGrowingFault : Option (List ℕ) → (number line : ℕ) → Type 0
ToldGrowingFault told number line = IfSome told (λ text. IsGrowingFault text number line)

-- what is told of a text declares this network, says this after its line `grow`, and plans these stages
abbrev pub ToldPlans : Option (List ℕ) → Net → TailText → List StagePlan → Type 0
ToldPlans told net tail plans = IfSome told (λ text. ArePlanned text net tail plans)

-- ---- how it ends

-- The script was run to its end: each of its stages, which are those that the text plans, made its joins and cuts and
-- then settled its batch, all of them one run from the network's first world: the interleaving of the boxes. All
-- settles were delivered, each with exactly the paths of the network after it.
--
-- The headline, for every text and interleaving: each path of the network after a settle is as the path table says,
-- closed where an end closes, flowing where one opens and none closes, either of the two for hold against hold; and
-- that is what is printed of it
pub record GrewWhole (told old new : Option (List ℕ)) (status : ℕ) (journal : List JournalLine) : Type 0 where
  pub net : Net
  pub tail : TailText
  pub plans : List StagePlan
  pub run : ScriptRun
  pub planned : ToldPlans told net tail plans
  pub sound : IsSound net.world
  pub came : CameToEnd tail.names (grown_from net.world) plans run
  pub holds : All PathsHold (networks_after (grown_from net.world) came.stages)
  pub kept : journal ≡ run.journal.items
  pub delivered : Delivers status WORKED old new run.output.items

-- The text was refused, and the one line that names its first fault was delivered
pub record RefusesGrown (told old new : Option (List ℕ)) (status : ℕ) (journal : List JournalLine) : Type 0 where
  pub number : ℕ
  pub line : ℕ
  pub fault : ToldGrowingFault told number line
  pub delivered : Delivers status FAULTY_TEXT old new (fault_line number line)
  pub no_journal : journal ≡ []

-- The script stopped within a stage that the text plans: at a settle, as any script does, or at a cut of a channel that
-- is in use. The one line that says where was delivered. The journal is the settled segments before, and the turns up
-- to the stop
pub record StopsGrown (told old new : Option (List ℕ)) (status due : ℕ) (journal : List JournalLine) : Type 0 where
  pub net : Net
  pub tail : TailText
  pub plans : List StagePlan
  pub run : ScriptRun
  pub stop : GrownStop
  pub planned : ToldPlans told net tail plans
  pub sound : IsSound net.world
  pub due_is : due ≡ grown_stop_status stop
  pub stopped : StoppedWithin tail.names (grown_from net.world) plans stop run
  pub kept : journal ≡ run.journal.items
  pub delivered : Delivers status due old new run.output.items

-- what was printed and kept, for the text that was told
pub record EndsGrown (told old new : Option (List ℕ)) (status due : ℕ) (journal : List JournalLine) : Type 0 where
  pub dues : IsDueForGrowing due
  pub worked : due ≡ WORKED → GrewWhole told old new status journal
  pub refused : due ≡ FAULTY_TEXT
      → RefusesGrown told old new status journal ⊎ StopsGrown told old new status due journal
  pub at_stop : (due ≡ RESTLESS) ⊎ (due ≡ RING) ⊎ (due ≡ CHANNEL_IN_USE) → StopsGrown told old new status due journal
  pub gave_up : (due ≡ NO_MEMORY) ⊎ (due ≡ READ_FAULT) → (status ≡ due) × Keeps old new
  pub no_journal : IsFalse (keeps_journal due) → journal ≡ []

-- it is what the call ended with
abbrev pub EndsGrownAs : (told old new : Option (List ℕ)) → Done → Type 0
EndsGrownAs told old new done = EndsGrown told old new done.status done.due done.journal.items

-- ---- what is told a person

-- the text's first fault is this one, and this is what else is known of it: nothing after the line `grow`
abbrev pub IsDetailedFault : List ℕ → (number line : ℕ) → Detail → Type 0
IsDetailedFault text number line detail =
    (IsFault Grow text number line × (detail ≡ fault_detail Grow text number line))
    ⊎ (HasHead text × IsTailFault text number line × (detail ≡ NoDetail))

-- what is told is the text's first fault, with its line's bytes, as far as a line may have some
abbrev pub IsGrowingFaultOf : (text : List ℕ) → Told → Type 0
IsGrowingFaultOf text (of_text number line shown detail) =
    IsDetailedFault text number line detail × (shown ≡ line_at line text)
IsGrowingFaultOf text (of_journal line shown) = ⊥
IsGrowingFaultOf text (of_box features) = ⊥

-- so it is of what is told of a text, of which only the first bytes are read
abbrev pub IsGrowingFaultOfTold : (told : Option (List ℕ)) → Told → Type 0
IsGrowingFaultOfTold told fault = IfSome told (λ text. IsGrowingFaultOf (first_bytes Grow text) fault)

-- what was printed for a stop has its word and a place
abbrev pub PrintsGrownStop : Option GrownStop → (output : List ℕ) → Type 0
PrintsGrownStop None output = Unit {0}
PrintsGrownStop (Some stop) output = HasPlace (stop_word stop) output

-- ---- a run

-- the stages that batches and items plan may be run from a world, which has no more boxes than a network may: they may
-- be asked for, all that is ever in the network has names, and they are few
pub record MayBeRun (names : NameLists) (world : WorldState) (batches : List (List Turn))
    (items : List Item) : Type 0 where
  pub lawful : (plans : List StagePlan) → ArePlansOf batches items plans → AreLawful (grown_from world) plans
  pub named : (plans : List StagePlan) → ArePlansOf batches items plans
      → NamesEnough names (grown_at_end (grown_from world) plans).world
  pub few : (plans : List StagePlan) → ArePlansOf batches items plans → length plans ≤ COMMAND_LIMIT
  pub few_boxes : length world.boxes ≤ NETWORK_LIMIT

-- they were run, to their end or to a stop, from a network of which nothing is out
pub record RanStages (names : NameLists) (world : WorldState) (batches : List (List Turn)) (items : List Item)
    (run : ScriptRun) : Type 0 where
  pub plans : List StagePlan
  pub planned : ArePlansOf batches items plans
  pub out : AreOut world (grown_from world).out
  pub ended : EndsAs names (grown_from world) plans run

-- so were those of a text
abbrev pub RanPlans : Net → TailText → ScriptRun → Type 0
RanPlans net tail run = RanStages tail.names net.world (map batch_turns net.batches.items) tail.items.items run
