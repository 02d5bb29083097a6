-- How the goals of a box change: what each becomes, and which of them have their turn then.
use Rattle.std.specs.Prelude.{ℕ, ◌+◌, ◌==◌, ◌&&◌, Bool, true, not, if◌then◌else◌, List, [], ◌∷◌, nat_lt}
use Rattle.mc_slot.specs.Same.{is_same_slot_goal}
use Rattle.mc_slot.specs.declared.Goal.TheVariants.{Hold as ToHold}
use Rattle.mc_slot.specs.declared.SlotGoal.{SlotGoal}
use Rattle.mc_slot.specs.declared.SlotGoal.TheVariants.{End, Link}
use Rattle.mc_box.specs.declared.event.Change.{Change}
use Rattle.mc_box.specs.declared.event.Change.TheVariants.{End as NewEnd, Link as NewLink}

-- a slot that was linked with this one holds from now on
abbrev pub without_link : ℕ → SlotGoal → SlotGoal
without_link local (End goal) = End goal
without_link local (Link partner) = if partner == local then End ToHold else Link partner

-- what the goal of a slot becomes: an end gets its goal, two slots are linked, and each former partner of these holds
abbrev pub goal_after : Change → ℕ → SlotGoal → SlotGoal
goal_after (NewEnd slot goal) local old = if local == slot then End goal else without_link slot old
goal_after (NewLink first second) local old =
    if local == first then Link second
    else (if local == second then Link first else without_link first (without_link second old))

-- the same for the goals from a slot on
abbrev pub goals_from : Change → ℕ → List SlotGoal → List SlotGoal
goals_from change local [] = []
goals_from change local (goal ∷ goals) = goal_after change local goal ∷ goals_from change (local + 1) goals

-- what all goals become
abbrev pub change_goals : List SlotGoal → Change → List SlotGoal
change_goals goals change = goals_from change 0 goals

-- a link is the goal of two slots, and has its turn at the lower of them
abbrev pub leads : ℕ → SlotGoal → Bool
leads local (End goal) = true
leads local (Link partner) = nat_lt local partner

-- a goal that is as it was has no turn
abbrev pub has_turn : ℕ → SlotGoal → SlotGoal → Bool
has_turn local old new = not (is_same_slot_goal old new) && leads local new

-- the slots, from one on, whose goals have their turns, rising
abbrev pub changed_from : ℕ → List SlotGoal → List SlotGoal → List ℕ
changed_from local (old ∷ olds) (new ∷ news) =
    if has_turn local old new then local ∷ changed_from (local + 1) olds news else changed_from (local + 1) olds news
changed_from local olds news = []

-- all such slots: the order in which changed goals have their turns, each by its lowest slot
abbrev pub changed_slots : List SlotGoal → List SlotGoal → List ℕ
changed_slots olds news = changed_from 0 olds news

-- how many signals one turn of a goal may send: an end's two, a link's four
abbrev pub most_signals : SlotGoal → ℕ
most_signals (End goal) = 2
most_signals (Link partner) = 4
