-- The goals that the commands of chains leave: only right devices hold, and links are those of features.
use Rattle.std.proofs.Common.{◌≡◌, ◌⊎◌, inl, inr, ℕ, zero, suc, ◌+◌, ◌==◌, Bool, true, false, if◌then◌else◌, List, [], ◌∷◌, Some, take, slice_get, slice_index_or, refl, sym, subst, arith}
use Rattle.std.specs.List.{AllByRecursion}
use Rattle.mc_slot.specs.declared.Goal.{Goal}
use Rattle.mc_slot.specs.declared.Goal.TheVariants.{Close as ToClose, Hold as ToHold}
use Rattle.mc_slot.specs.declared.SlotGoal.{SlotGoal}
use Rattle.mc_slot.specs.declared.SlotGoal.TheVariants.{End, Link}
use Rattle.mc_box.specs.Goals.{goal_after, goals_from, without_link}
use Rattle.mc_box.specs.declared.event.Change.{Change}
use Rattle.mc_box.specs.declared.event.Change.TheVariants.{End as NewEnd, Link as NewLink}
use Rattle.mc_box.specs.declared.event.Event.{Event}
use Rattle.mc_box.specs.declared.event.Event.TheVariants.{Take, Set, Media, Tell, Retry, Shift}
use Rattle.mc_box.specs.declared.event.Turn.{Turn}
use Rattle.mc_model.specs.Settles.{commands_of}
use Rattle.mc_model.specs.Worlds.{WorldState, box_at}
use Rattle.mc_settings.specs.Batches.{commanded_by}
use Rattle.mc_settings.specs.Settings.{Settings, commanded, set_by, set_by_all, settings_of}
use Rattle.mc_settings.proofs.CommandedWorlds.{more_commands, set_if, settings_are}
use Rattle.mc_scene.specs.declared.chains.Chain.{Chain}
use Rattle.mc_scene_laws.specs.Posts.{Post, at_right}
use Rattle.mc_scene_laws.proofs.OneWay.{IsFeatureAt, LinksThrough}

-- ---- goals

-- the box with this number is a right device
abbrev pub IsRightAt : List Post → ℕ → Type 0
IsRightAt all who = (chain : Chain) × (slice_get all who ≡ Some (at_right chain))

-- an end holds at a right device alone
abbrev pub EndFits : List Post → ℕ → Goal → Type 0
EndFits all who ToHold = IsRightAt all who
EndFits all who goal = Unit {0}

-- and a link joins the two slots of a feature
abbrev pub GoalFits : List Post → (who local : ℕ) → SlotGoal → Type 0
GoalFits all who local (End goal) = EndFits all who goal
GoalFits all who local (Link partner) = LinksThrough all who local partner

-- the goals of a box, from a slot on
abbrev pub GoalsFit : List Post → (who local : ℕ) → List SlotGoal → Type 0
GoalsFit all who local [] = Unit {0}
GoalsFit all who local (goal ∷ goals) = GoalFits all who local goal × GoalsFit all who (local + 1) goals

-- all goals of a world
abbrev pub WorldFits : List Post → WorldState → Type 0
WorldFits all world = (who : ℕ) → GoalsFit all who 0 (box_at world who).goals

-- the goal of one slot
goal_there : (all : List Post) (who : ℕ) (goals : List SlotGoal) (first i local : ℕ) → GoalsFit all who first goals → first + i ≡ local → GoalFits all who local (slice_index_or goals i (End ToClose))
goal_there all who [] first i local fits is = tt
goal_there all who (goal ∷ goals) first zero local fits is = subst (λ (n : ℕ). GoalFits all who n goal) (let same : first ≡ local = omega arith in same) fits.0
goal_there all who (goal ∷ goals) first (suc i) local fits is = goal_there all who goals (first + 1) i local fits.1 (omega arith)

pub goal_fits : (all : List Post) (world : WorldState) (who local : ℕ) → WorldFits all world → GoalFits all who local (slice_index_or (box_at world who).goals local (End ToClose))
goal_fits all world who local fits = goal_there all who (box_at world who).goals 0 local local (fits who) (omega arith)

-- goals that all close
pub closing_fit : (all : List Post) (who : ℕ) (goals : List SlotGoal) (first : ℕ) → ((i : ℕ) → slice_index_or goals i (End ToClose) ≡ End ToClose) → GoalsFit all who first goals
closing_fit all who [] first close = tt
closing_fit all who (goal ∷ goals) first close =
    let here : goal ≡ End ToClose = close 0 in
    (subst (λ (g : SlotGoal). GoalFits all who first g) (sym here) tt, closing_fit all who goals (first + 1) (λ i. close (suc i)))

-- ---- changes

-- an end that isn't a feature's gets a goal that fits, or the two slots of a feature are linked
abbrev pub ChangeFits : List Post → ℕ → Change → Type 0
ChangeFits all who (NewEnd slot goal) = (IsFeatureAt all who → ⊥) × EndFits all who goal
ChangeFits all who (NewLink first second) = IsFeatureAt all who × ((first ≡ 0) × (second ≡ 1))

-- an end that had no link is as it was
kept_end : (all : List Post) (who slot local : ℕ) (old : SlotGoal) → (IsFeatureAt all who → ⊥) → GoalFits all who local old → GoalFits all who local (without_link slot old)
kept_end all who slot local (End goal) none fits = fits
kept_end all who slot local (Link partner) none fits = absurd (none fits.0)

-- a slot other than the two of a feature has no link
kept_other : (all : List Post) (who local : ℕ) (old : SlotGoal) → (local ≡ 0 → ⊥) → (local ≡ 1 → ⊥) → GoalFits all who local old → GoalFits all who local (without_link 0 (without_link 1 old))
kept_other all who local (End goal) first second fits = fits
kept_other all who local (Link partner) first second fits = absurd (by fits.1)
  where
    by : ((local ≡ 0) × (partner ≡ 1)) ⊎ ((local ≡ 1) × (partner ≡ 0)) → ⊥
    by (inl is) = first is.0
    by (inr is) = second is.0

new_end : (all : List Post) (who local : ℕ) (goal : Goal) (old : SlotGoal) (here : Bool) (slot : ℕ) → (IsFeatureAt all who → ⊥) → EndFits all who goal → GoalFits all who local old
    → GoalFits all who local (if here then End goal else without_link slot old)
new_end all who local goal old true slot none new fits = new
new_end all who local goal old false slot none new fits = kept_end all who slot local old none fits

new_link : (all : List Post) (who local : ℕ) (old : SlotGoal) (first second : Bool) → IsFeatureAt all who → (local == 0) ≡ first → (local == 1) ≡ second → GoalFits all who local old
    → GoalFits all who local (if first then Link 1 else (if second then Link 0 else without_link 0 (without_link 1 old)))
new_link all who local old true second feature is also fits = (feature, inl (let same : local ≡ 0 = grind (arith, is) in (same, refl)))
new_link all who local old false true feature is also fits = (feature, inr (let same : local ≡ 1 = grind (arith, also) in (same, refl)))
new_link all who local old false false feature is also fits =
    kept_other all who local old (λ same. (let no : ⊥ = grind (arith, is, same) in no)) (λ same. (let no : ⊥ = grind (arith, also, same) in no)) fits

goal_after_fits : (all : List Post) (who local : ℕ) (change : Change) (old : SlotGoal) → ChangeFits all who change → GoalFits all who local old → GoalFits all who local (goal_after change local old)
goal_after_fits all who local (NewEnd slot goal) old change fits = new_end all who local goal old (local == slot) slot change.0 change.1 fits
goal_after_fits all who local (NewLink first second) old change fits =
    subst (λ (n : ℕ). GoalFits all who local (goal_after (NewLink n second) local old)) (sym change.1.0)
    (subst (λ (n : ℕ). GoalFits all who local (goal_after (NewLink 0 n) local old)) (sym change.1.1) (new_link all who local old (local == 0) (local == 1) change.0 refl refl fits))

goals_from_fit : (all : List Post) (who : ℕ) (change : Change) (local : ℕ) (goals : List SlotGoal) → ChangeFits all who change → GoalsFit all who local goals → GoalsFit all who local (goals_from change local goals)
goals_from_fit all who change local [] new fits = tt
goals_from_fit all who change local (goal ∷ goals) new fits = (goal_after_fits all who local change goal new fits.0, goals_from_fit all who change (local + 1) goals new fits.1)

-- ---- events and batches

abbrev pub EventFits : List Post → ℕ → Event → Type 0
EventFits all who (Set change) = ChangeFits all who change
EventFits all who event = Unit {0}

abbrev pub TurnFits : List Post → Turn → Type 0
TurnFits all turn = EventFits all turn.who turn.event

set_fits : (all : List Post) (who : ℕ) (event : Event) (settings : Settings) → EventFits all who event → GoalsFit all who 0 settings.goals → GoalsFit all who 0 (set_by event settings).goals
set_fits all who (Set change) settings new fits = goals_from_fit all who change 0 settings.goals new fits
set_fits all who (Take local) settings new fits = fits
set_fits all who (Media change) settings new fits = fits
set_fits all who (Tell word) settings new fits = fits
set_fits all who (Retry local) settings new fits = fits
set_fits all who Shift settings new fits = fits

-- a turn of this box, or of another
one_fits : (all : List Post) (who : ℕ) (turn : Turn) (settings : Settings) (mine : Bool) → (turn.who == who) ≡ mine → TurnFits all turn → GoalsFit all who 0 settings.goals → GoalsFit all who 0 (set_if mine turn.event settings).goals
one_fits all who turn settings true is new fits =
    let same : turn.who ≡ who = grind (arith, is) in
    set_fits all who turn.event settings (subst (λ (n : ℕ). EventFits all n turn.event) same new) fits
one_fits all who turn settings false is new fits = fits

all_fit : (all : List Post) (who : ℕ) (turns : List Turn) (settings : Settings) → AllByRecursion (TurnFits all) turns → GoalsFit all who 0 settings.goals → GoalsFit all who 0 (set_by_all (commands_of who turns) settings).goals
all_fit all who [] settings each fits = fits
all_fit all who (turn ∷ turns) settings each fits =
    subst (λ (s : Settings). GoalsFit all who 0 s.goals) (sym (more_commands who turn turns settings))
    (all_fit all who turns (set_if (turn.who == who) turn.event settings) each.1 (one_fits all who turn settings (turn.who == who) refl each.0 fits))

commanded_fits : (all : List Post) (world : WorldState) (turns : List Turn) → AllByRecursion (TurnFits all) turns → WorldFits all world → WorldFits all (commanded world turns)
commanded_fits all world turns each fits who =
    subst (λ (s : Settings). GoalsFit all who 0 s.goals) (sym (settings_are world turns who)) (all_fit all who turns (settings_of (box_at world who)) each (fits who))

-- whichever number of batches
pub batches_fit : (all : List Post) (batches : List (List Turn)) (count : ℕ) (world : WorldState) → AllByRecursion (AllByRecursion (TurnFits all)) batches → WorldFits all world → WorldFits all (commanded_by world (take count batches))
batches_fit all [] zero world each fits = fits
batches_fit all [] (suc count) world each fits = fits
batches_fit all (batch ∷ batches) zero world each fits = fits
batches_fit all (batch ∷ batches) (suc count) world each fits = batches_fit all batches count (commanded world batch) each.1 (commanded_fits all world batch each.0 fits)

-- their channels stay
pub channels_by : (batches : List (List Turn)) (count : ℕ) (world : WorldState) → (commanded_by world (take count batches)).channels ≡ world.channels
channels_by [] zero world = refl
channels_by [] (suc count) world = refl
channels_by (batch ∷ batches) zero world = refl
channels_by (batch ∷ batches) (suc count) world = channels_by batches count (commanded world batch)
