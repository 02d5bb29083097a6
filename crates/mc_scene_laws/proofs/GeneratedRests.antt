-- The batches of generated texts come to rest.
use Rattle.std.proofs.Common.{◌≡◌, inl, inr, ℕ, zero, suc, ◌+◌, Bool, true, false, List, [], ◌∷◌, ◌++◌, All, count_by, length, length-append, map, slice_index_or, take, refl, sym, ap, ◌∙◌, subst, append_assoc, arith}
use Rattle.std.proofs.lemmas.List.Elements.{All-from_recursion}
use Rattle.std.specs.List.{AllByRecursion, range_with_len}
use Rattle.mc_slot.specs.declared.Goal.{Goal}
use Rattle.mc_slot.specs.declared.Goal.TheVariants.{Close as ToClose, Hold as ToHold, Open as ToOpen}
use Rattle.mc_slot.specs.declared.SlotGoal.TheVariants.{End, Link}
use Rattle.mc_rule.specs.Programs.{ProgStateState}
use Rattle.mc_box.specs.BoxEvents.{turn_of}
use Rattle.mc_box.specs.BoxShapes.{BoxShapeState, is_feature}
use Rattle.mc_box.specs.Boxes.{goals_in}
use Rattle.mc_box.specs.declared.event.Change.TheVariants.{End as NewEnd, Link as NewLink}
use Rattle.mc_box.specs.declared.event.Event.{Event}
use Rattle.mc_box.specs.declared.event.Event.TheVariants.{Take, Set, Media, Tell, Retry, Shift}
use Rattle.mc_box.specs.declared.event.Turn.{Turn}
use Rattle.mc_model.specs.Settles.{hears_in, hears_of, is_hear_of, is_tell_of}
use Rattle.mc_model.specs.Worlds.{ChannelState, WorldState, box_at, places_among}
use Rattle.mc_laws.specs.Chains.{ClosesNoChain, NamesLink}
use Rattle.mc_laws.specs.Words.{WaitsForWords}
use Rattle.mc_script.specs.declared.command.Command.{Command}
use Rattle.mc_script.specs.declared.command.Command.TheVariants.{Stimulus, Settle}
use Rattle.mc_lines.specs.Meaning.{declared_at}
use Rattle.mc_net.specs.Nets.{IsFirstWorld, batches_of, before_next}
use Rattle.mc_settings.specs.Batches.{LeavesDecided, commanded_by}
use Rattle.mc_scene.specs.Chains.{drawn_chains}
use Rattle.mc_scene.specs.declared.chains.Chain.{Chain}
use Rattle.mc_scene_laws.specs.ChainTexts.{chain_calls, chain_closes, chain_commands, chain_holds, chains_declared, first_told, for_chains, links_through}
use Rattle.mc_scene_laws.specs.GeneratedLaws.{GeneratedAreUnprogrammed, GeneratedComeToRest, GeneratedLeaveDecided}
use Rattle.mc_scene_laws.specs.Posts.{Post, all_posts, at_left, at_right, between, chain_posts, channels_from, post_box}
use Rattle.mc_scene_laws.specs.Resting.{ComesToRest, TellsOnce}
use Rattle.mc_scene_laws.specs.SceneTexts.{sets_end}
use Rattle.mc_scene_laws.proofs.ChainGoals.{EndFits, IsRightAt, TurnFits, batches_fit, channels_by, closing_fit}
use Rattle.mc_scene_laws.proofs.ChainOrder.{features_at, posts_counted}
use Rattle.mc_scene_laws.proofs.Closing.{among_has}
use Rattle.mc_scene_laws.proofs.Commanded.{no_last}
use Rattle.mc_scene_laws.proofs.HoldsApart.{AllComeFromLeft, channels_come, holds_apart, left_at, right_at}
use Rattle.mc_scene_laws.proofs.OneWay.{AllLeadRight, IsFeatureAt, LinksThrough, channels_lead, one_way, shape_at}
use Rattle.mc_scene_laws.proofs.Programmed.{first_channels, first_goals, first_programs}

-- ---- commands

-- the event sets goals
abbrev sets_goals : Event → Bool
sets_goals (Set change) = true
sets_goals other = false

-- a turn that sets goals, links only the two slots of a feature, and has only right devices hold
record IsChainTurn (all : List Post) (turn : Turn) : Type 0 where
  pub fits : TurnFits all turn
  pub sets : sets_goals turn.event ≡ true
  pub link : (first second : ℕ) → turn.event ≡ Set (NewLink first second) → IsFeatureAt all turn.who × ((first ≡ 0) × (second ≡ 1))

-- a command is of such a turn, or settles
abbrev IsChainCommand : List Post → Command → Type 0
IsChainCommand all (Stimulus turn) = IsChainTurn all turn
IsChainCommand all Settle = Unit {0}

commands-append : (all : List Post) (one two : List Command) → AllByRecursion (IsChainCommand all) one → AllByRecursion (IsChainCommand all) two → AllByRecursion (IsChainCommand all) (one ++ two)
commands-append all [] two first second = second
commands-append all (command ∷ one) two first second = (first.0, commands-append all one two first.1 second)

end_is : (all : List Post) (who : ℕ) (goal : Goal) → (IsFeatureAt all who → ⊥) → EndFits all who goal → IsChainCommand all (sets_end who goal)
end_is all who goal none fits = record { fits = (none, fits); sets = refl; link = λ first second is. absurd (let clash : Set (NewEnd 0 goal) ≡ Set (NewLink first second) = is in cc) }

link_is : (all : List Post) (who : ℕ) → IsFeatureAt all who → IsChainCommand all (links_through who)
link_is all who feature = record {
  fits = (feature, (refl, refl));
  sets = refl;
  link = λ first second is. let one : 0 ≡ first = cc in let two : 1 ≡ second = cc in (feature, (sym one, sym two));
}

-- the features of a chain link
links_are : (all : List Post) (chain : Chain) (n a who : ℕ) (done tail : List Post) → all ≡ done ++ (map (between chain) (range_with_len a n) ++ tail) → length done ≡ who + 1 + a
    → AllByRecursion (IsChainCommand all) (map (λ place. links_through (who + 1 + place)) (range_with_len a n))
links_are all chain zero a who done tail is counted = tt
links_are all chain (suc n) a who done tail is counted =
    let shape = shape_at all done (between chain a) (map (between chain) (range_with_len (a + 1) n) ++ tail) (who + 1 + a) is counted in
    let feature : IsFeatureAt all (who + 1 + a) = ap (λ (s : BoxShapeState). is_feature s.kind) shape in
    let seam = append_assoc done (between chain a ∷ []) (map (between chain) (range_with_len (a + 1) n) ++ tail) in
    (link_is all (who + 1 + a) feature, links_are all chain n (a + 1) who (done ++ between chain a ∷ []) tail (is ∙ sym seam) (omega (arith, length-append done (between chain a ∷ []))))

-- a right device may get any goal
right_fits : (all : List Post) (who : ℕ) (goal : Goal) → IsRightAt all who → EndFits all who goal
right_fits all who ToOpen right = tt
right_fits all who ToClose right = tt
right_fits all who ToHold right = right

right_is : (all before : List Post) (chain : Chain) (tail : List Post) (who : ℕ) (goal : Goal) → all ≡ before ++ (chain_posts chain ++ tail) → length before ≡ who → IsChainCommand all (sets_end (who + 1 + chain.features) goal)
right_is all before chain tail who goal is counted =
    let there = right_at all before chain tail who is counted in
    end_is all (who + 1 + chain.features) goal there.0 (right_fits all (who + 1 + chain.features) goal there.1)

calls_are : (all : List Post) (chain : Chain) (before tail : List Post) (who : ℕ) → all ≡ before ++ (chain_posts chain ++ tail) → length before ≡ who → AllByRecursion (IsChainCommand all) (chain_calls who chain)
calls_are all chain before tail who is counted =
    let at_features = features_at all before chain tail is in
    commands-append all (map (λ place. links_through (who + 1 + place)) (range_with_len 0 chain.features)) (sets_end who ToOpen ∷ sets_end (who + 1 + chain.features) (first_told chain.goal) ∷ [])
    (links_are all chain chain.features 0 who (before ++ at_left chain ∷ []) (at_right chain ∷ tail) at_features (omega (arith, counted, length-append before (at_left chain ∷ []))))
    (end_is all who ToOpen (left_at all before chain tail who is counted) tt, (right_is all before chain tail who (first_told chain.goal) is counted, tt))

each_are : (all : List Post) (commands : ℕ → Chain → List Command)
    → ((chain : Chain) (before tail : List Post) (who : ℕ) → all ≡ before ++ (chain_posts chain ++ tail) → length before ≡ who → AllByRecursion (IsChainCommand all) (commands who chain))
    → (chains : List Chain) (before : List Post) (who : ℕ) → all ≡ before ++ all_posts chains → length before ≡ who → AllByRecursion (IsChainCommand all) (for_chains commands who chains)
each_are all commands one [] before who is counted = tt
each_are all commands one (chain ∷ chains) before who is counted =
    let seam = append_assoc before (chain_posts chain) (all_posts chains) in
    commands-append all (commands who chain) (for_chains commands (who + (chain.features + 2)) chains) (one chain before (all_posts chains) who is counted)
    (each_are all commands one chains (before ++ chain_posts chain) (who + (chain.features + 2)) (is ∙ sym seam) (omega (arith, length-append before (chain_posts chain), posts_counted chain)))

batch_are : (all : List Post) (commands : List Command) → AllByRecursion (IsChainCommand all) commands → AllByRecursion (IsChainCommand all) (commands ++ Settle ∷ [])
batch_are all commands each = commands-append all commands (Settle ∷ []) each (tt, tt)

all_are : (chains : List Chain) → AllByRecursion (IsChainCommand (all_posts chains)) (chain_commands chains)
all_are chains =
    commands-append (all_posts chains) (for_chains chain_calls 0 chains ++ Settle ∷ []) ((for_chains chain_holds 0 chains ++ Settle ∷ []) ++ (for_chains chain_closes 0 chains ++ Settle ∷ []))
    (batch_are (all_posts chains) (for_chains chain_calls 0 chains) (each_are (all_posts chains) chain_calls (λ chain before tail who is counted. calls_are (all_posts chains) chain before tail who is counted) chains [] 0 refl refl))
    (commands-append (all_posts chains) (for_chains chain_holds 0 chains ++ Settle ∷ []) (for_chains chain_closes 0 chains ++ Settle ∷ [])
    (batch_are (all_posts chains) (for_chains chain_holds 0 chains) (each_are (all_posts chains) chain_holds (λ chain before tail who is counted. (right_is (all_posts chains) before chain tail who ToHold is counted, tt)) chains [] 0 refl refl))
    (batch_are (all_posts chains) (for_chains chain_closes 0 chains) (each_are (all_posts chains) chain_closes (λ chain before tail who is counted. (end_is (all_posts chains) who ToClose (left_at (all_posts chains) before chain tail who is counted) tt, tt)) chains [] 0 refl refl)))

-- ---- batches

next_batch : (all : List Post) (turn : Turn) (batches : List (List Turn)) → IsChainTurn all turn → AllByRecursion (AllByRecursion (IsChainTurn all)) batches → AllByRecursion (AllByRecursion (IsChainTurn all)) (before_next turn batches)
next_batch all turn [] is each = tt
next_batch all turn (batch ∷ batches) is each = ((is, each.0), each.1)

batches_are : (all : List Post) (commands : List Command) → AllByRecursion (IsChainCommand all) commands → AllByRecursion (AllByRecursion (IsChainTurn all)) (batches_of commands)
batches_are all [] each = tt
batches_are all (Stimulus turn ∷ commands) each = next_batch all turn (batches_of commands) each.0 (batches_are all commands each.1)
batches_are all (Settle ∷ commands) each = (tt, batches_are all commands each.1)

each_by_index : (all : List Post) (batches : List (List Turn)) → AllByRecursion (AllByRecursion (IsChainTurn all)) batches → AllByRecursion (λ batch. All (IsChainTurn all) batch) batches
each_by_index all [] each = tt
each_by_index all (batch ∷ batches) each = (All-from_recursion (IsChainTurn all) batch each.0, each_by_index all batches each.1)

-- no turn that sets goals is a Hear, nor a Tell
turn_hears_none : (turn : Turn) (who local : ℕ) → sets_goals turn.event ≡ true → is_hear_of who local turn ≡ false
turn_hears_none turn who local sets = by turn.event sets
  where
    by : (event : Event) → sets_goals event ≡ true → is_hear_of who local (record turn { event = event }) ≡ false
    by (Set change) sets = refl
    by (Take slot) sets = absurd (cc)
    by (Media change) sets = absurd (cc)
    by (Tell told) sets = absurd (cc)
    by (Retry slot) sets = absurd (cc)
    by Shift sets = absurd (cc)

turn_tells_none : (turn : Turn) (who : ℕ) → sets_goals turn.event ≡ true → is_tell_of who turn ≡ false
turn_tells_none turn who sets = by turn.event sets
  where
    by : (event : Event) → sets_goals event ≡ true → is_tell_of who (record turn { event = event }) ≡ false
    by (Set change) sets = refl
    by (Take slot) sets = absurd (cc)
    by (Media change) sets = absurd (cc)
    by (Tell told) sets = absurd (cc)
    by (Retry slot) sets = absurd (cc)
    by Shift sets = absurd (cc)

none_hear : (all : List Post) (who local : ℕ) (batch : List Turn) → AllByRecursion (IsChainTurn all) batch → hears_of who local batch ≡ 0
none_hear all who local [] each = refl
none_hear all who local (turn ∷ batch) each = rw (turn_hears_none turn who local each.0.sets) (none_hear all who local batch each.1)

none_tell : (all : List Post) (who : ℕ) (batch : List Turn) → AllByRecursion (IsChainTurn all) batch → count_by (is_tell_of who) batch ≡ 0
none_tell all who [] each = refl
none_tell all who (turn ∷ batch) each = rw (turn_tells_none turn who each.0.sets) (none_tell all who batch each.1)

no_hears : (all : List Post) (who local : ℕ) (batches : List (List Turn)) → AllByRecursion (AllByRecursion (IsChainTurn all)) batches → hears_in who local batches ≡ 0
no_hears all who local [] each = refl
no_hears all who local (batch ∷ batches) each = rw (none_hear all who local batch each.0) (no_hears all who local batches each.1)

tells_once : (all : List Post) (batches : List (List Turn)) → AllByRecursion (AllByRecursion (IsChainTurn all)) batches → AllByRecursion TellsOnce batches
tells_once all [] each = tt
tells_once all (batch ∷ batches) each = (λ who. let none = none_tell all who batch each.0 in omega arith, tells_once all batches each.1)

-- ---- versions

one_version : (post : Post) → (post_box post).version ≡ 1
one_version (at_left chain) = refl
one_version (between chain place) = refl
one_version (at_right chain) = refl

first_versions : (posts : List Post) (who : ℕ) → (declared_at (map post_box posts) who).version ≡ 1
first_versions [] who = refl
first_versions (post ∷ posts) zero = one_version post
first_versions (post ∷ posts) (suc who) = first_versions posts who

-- ---- chains

none_waits : (who : ℕ) → All WaitsForWords []
none_waits who k d within = absurd (omega arith)

abbrev NoLinks : ℕ → List ProgStateState → Type 0
NoLinks who states = (at first second : ℕ) → slice_index_or (goals_in states at) first (End ToClose) ≡ Link second → ⊥

no_links : (who : ℕ) → NoLinks who []
no_links who at first second is = absurd (cc)

module _ (chains : List Chain) (world : WorldState) (start : IsFirstWorld (chains_declared chains) world) where
  turns : All (λ batch. All (IsChainTurn (all_posts chains)) batch) (batches_of (chain_commands chains))
  turns = All-from_recursion (λ batch. All (IsChainTurn (all_posts chains)) batch) (batches_of (chain_commands chains)) (each_by_index (all_posts chains) (batches_of (chain_commands chains)) (batches_are (all_posts chains) (chain_commands chains) (all_are chains)))

  through : (who first second : ℕ) → NamesLink world (batches_of (chain_commands chains)) who first second → LinksThrough (all_posts chains) who first second
  through who first second (inl is) = absurd (let clash : End ToClose ≡ Link second = sym (first_goals (chains_declared chains) world start who first) ∙ is in cc)
  through who first second (inr (inl (at, is))) = absurd (first_programs NoLinks (chains_declared chains) world start no_links tt who at first second is)
  through who first second (inr (inr (inl among))) =
      let link = (among_has (IsChainTurn (all_posts chains)) (batches_of (chain_commands chains)) (turn_of who (Set (NewLink first second))) turns among).link first second refl in
      (link.0, inl link.1)
  through who first second (inr (inr (inr among))) =
      let link = (among_has (IsChainTurn (all_posts chains)) (batches_of (chain_commands chains)) (turn_of who (Set (NewLink second first))) turns among).link second first refl in
      (link.0, inr (link.1.1, link.1.0))

  no_chain : ClosesNoChain world (batches_of (chain_commands chains))
  no_chain =
      one_way (all_posts chains) world (batches_of (chain_commands chains))
      (subst (λ (channels : List ChannelState). AllLeadRight (all_posts chains) (places_among channels)) (sym (first_channels (chains_declared chains) world start)) (channels_lead (all_posts chains) (all_posts chains) [] 0 refl refl)) through

-- the batches of chains come to rest
pub chains_come_to_rest : (chains : List Chain) → ComesToRest (chains_declared chains)
chains_come_to_rest chains =
    let turns = batches_are (all_posts chains) (chain_commands chains) (all_are chains) in
    record {
      versions = no_last (chains_declared chains) (first_versions (all_posts chains)) (λ who local. no_hears (all_posts chains) who local (batches_of (chain_commands chains)) turns);
      by_words = λ world start who. first_programs (λ box states. All WaitsForWords states) (chains_declared chains) world start none_waits tt who;
      once = All-from_recursion TellsOnce (batches_of (chain_commands chains)) (tells_once (all_posts chains) (batches_of (chain_commands chains)) turns);
      chains = λ world start. no_chain chains world start;
    }

pub generated_come_to_rest : GeneratedComeToRest
generated_come_to_rest number size = chains_come_to_rest (drawn_chains number size)

-- ---- hold against hold

turns_fit : (all : List Post) (batch : List Turn) → AllByRecursion (IsChainTurn all) batch → AllByRecursion (TurnFits all) batch
turns_fit all [] each = tt
turns_fit all (turn ∷ batch) each = (each.0.fits, turns_fit all batch each.1)

all_turns_fit : (all : List Post) (batches : List (List Turn)) → AllByRecursion (AllByRecursion (IsChainTurn all)) batches → AllByRecursion (AllByRecursion (TurnFits all)) batches
all_turns_fit all [] each = tt
all_turns_fit all (batch ∷ batches) each = (turns_fit all batch each.0, all_turns_fit all batches each.1)

-- no batch of chains leaves a path of hold against hold
pub chains_leave_decided : (chains : List Chain) (world : WorldState) → IsFirstWorld (chains_declared chains) world → LeavesDecided world (batches_of (chain_commands chains))
chains_leave_decided chains world start k below =
    let all : List Post = all_posts chains in
    let batches : List (List Turn) = batches_of (chain_commands chains) in
    let are : (commanded_by world (take (suc k) batches)).channels ≡ channels_from 0 all = channels_by batches (suc k) world ∙ first_channels (chains_declared chains) world start in
    holds_apart all (commanded_by world (take (suc k) batches))
    (batches_fit all batches (suc k) world (all_turns_fit all batches (batches_are all (chain_commands chains) (all_are chains))) (λ who. closing_fit all who (box_at world who).goals 0 (first_goals (chains_declared chains) world start who)))
    (subst (λ (channels : List ChannelState). AllLeadRight all (places_among channels)) (sym are) (channels_lead all all [] 0 refl refl))
    (subst (λ (channels : List ChannelState). AllComeFromLeft all (places_among channels)) (sym are) (channels_come all all [] 0 refl refl))

pub generated_leave_decided : GeneratedLeaveDecided
generated_leave_decided number size world start = chains_leave_decided (drawn_chains number size) world start

pub generated_are_unprogrammed : GeneratedAreUnprogrammed
generated_are_unprogrammed number size = refl
