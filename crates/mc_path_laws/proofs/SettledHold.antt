-- Once each owed Retry has come, and opened its slot, each path of a quiet world is as the path table says. So it is after a settled segment.
use Rattle.std.proofs.Common.{◌≡◌, ◌≢◌, ◌<◌, ◌≤◌, ◌++◌, ◌⊎◌, inl, inr, if◌then◌else◌, ℕ, Bool, true, false, Option, Some, IsTrue, List, [], ◌∷◌, All, get_or, length, take, drop, count_by, refl, ap, sym, ◌∙◌, subst, arith}
use Rattle.std.specs.List.{list_all}
use Rattle.std.specs.Option.{option_and_then, unwrap_or}
use Rattle.std.proofs.lemmas.Grind.{common_steps}
use Rattle.std.proofs.lemmas.List.{take-append-drop}
use Rattle.mc_slot.specs.declared.Goal.{Goal}
use Rattle.mc_slot.specs.declared.Goal.TheVariants.{Open as ToOpen, Close as ToClose}
use Rattle.mc_slot.specs.declared.Slot.{Slot}
use Rattle.mc_slot.specs.declared.SlotGoal.{SlotGoal}
use Rattle.mc_slot.specs.declared.SlotGoal.TheVariants.{End, Link}
use Rattle.mc_slot.specs.declared.State.{State}
use Rattle.mc_slot.specs.declared.State.TheVariants.{Closed, Opening, Opened, Flowing, Closing}
use Rattle.mc_box.specs.Boxes.{goal_at, slot_owes}
use Rattle.mc_slot.specs.EndTurn.{is_end_goal}
use Rattle.mc_model.specs.Paths.{PathEnds, end_goal, end_goal_of, other_end, path_from, paths}
use Rattle.mc_model.specs.Settles.{is_quiet, is_retry_of, world_owes, takes_or_retries}
use Rattle.mc_model.specs.Shapes.{owes_by_number}
use Rattle.mc_model.specs.Sound.{IsSound}
use Rattle.mc_model.specs.Steps.{after, run, step}
use Rattle.mc_model.specs.Worlds.{ChannelState, WorldState, box_at, goal_of, all_tunnels, place, places, slot_count, slot_of}
use Rattle.mc_box.specs.declared.event.Turn.{Turn}
use Rattle.mc_laws.proofs.GoalsKept.{Stay, run_stays}
use Rattle.mc_laws.proofs.Resting.{rests_quiet}
use Rattle.mc_laws.proofs.StepKeeps.{run_keeps_sound}
use Rattle.mc_box.proofs.Options.{then_some}
use Rattle.mc_laws.proofs.StepGoes.{below_test}
use Rattle.mc_path_laws.specs.PathLaws.{RestedPathsHold, SettledPathsHold}
use Rattle.mc_path_laws.proofs.CleanWalks.{IsBetween, between_before, end_between, quiet_clean, run_opens}
use Rattle.mc_path_laws.proofs.Ends.{parts_of}
use Rattle.mc_path_laws.proofs.Quiet.{each_from, quiet_paths}
use Rattle.mc_path_laws.proofs.Returns.{end_back, walk_back}
use Rattle.mc_path_laws.proofs.TableHolds.{OwesNone, table_holds}

-- ---- two parts of a run

-- the first turn, and the others
run_next : (world : WorldState) (turn : Turn) (turns : List Turn) (next : WorldState) → step world turn ≡ Some next → run world (turn ∷ turns) ≡ run next turns
run_next world turn turns next goes = ap (λ (o : Option WorldState). option_and_then (λ (w : WorldState). run w turns) o) goes

-- a run of turns and more turns is a run of the first, and one of the others from the world that they leave
run_split : (first second : List Turn) (world last : WorldState) → run world (first ++ second) ≡ Some last
    → (middle : WorldState) × (run world first ≡ Some middle) × (run middle second ≡ Some last)
run_split [] second world last goes = (world, refl, goes)
run_split (turn ∷ first) second world last goes =
    let one = then_some (λ (w : WorldState). run w (first ++ second)) (step world turn) last goes in
    let later = run_split first second one.0 last one.2 in
    (later.0, run_next world turn first one.0 one.1 ∙ later.1, later.2)

-- with the world that the first turns leave by its name
run_halves : (first second : List Turn) (world last : WorldState) → run world (first ++ second) ≡ Some last
    → (run world first ≡ Some (after world first)) × (run (after world first) second ≡ Some last)
run_halves first second world last goes =
    let parts = run_split first second world last goes in
    let same : after world first ≡ parts.0 = ap (λ (o : Option WorldState). unwrap_or o world) parts.1 in
    (parts.1 ∙ ap (λ (w : WorldState). Some w) (sym same), subst (λ (w : WorldState). run w second ≡ Some last) (sym same) parts.2)

-- ---- a slot that is to open

-- an end that is to open owes a retry where it is closed
pub owes_closed : (goal : SlotGoal) (slot : Slot) → end_goal_of goal ≡ ToOpen → slot.state ≡ Closed → slot_owes goal slot ≡ true
owes_closed (End goal) slot aims is = grind (arith, common_steps)
owes_closed (Link partner) slot aims is = absurd (cc)

-- and none owes one where it isn't
owes_begun : (goal : SlotGoal) (slot : Slot) → slot.state ≢ Closed → slot_owes goal slot ≡ false
owes_begun (End goal) slot begun = grind (arith, common_steps)
owes_begun (Link partner) slot begun = refl

-- a state is closed or another
pub closed_or_not : (state : State) → (state ≢ Closed) ⊎ (state ≡ Closed)
closed_or_not Closed = inr refl
closed_or_not Opening = inl (λ is. cc)
closed_or_not Opened = inl (λ is. cc)
closed_or_not Flowing = inl (λ is. cc)
closed_or_not Closing = inl (λ is. cc)

-- a slot that owes a retry owes it by its box and its local number
pub owes_by_place : (world : WorldState) (t : ℕ) → IsSound world → t < slot_count world → owes_by_number world t ≡ true → world_owes world (place world t).0 (place world t).1 ≡ true
owes_by_place world t sound within owed =
    rw (
      below_test (place world t).0 (length world.boxes) (sound.numbered.placed t within),
      below_test (place world t).1 (length (box_at world (place world t).0).slots) (sound.numbered.slots t within),
    ) owed

-- it isn't closed, or its Retry is to come
begun_or_retried : (world : WorldState) (turns : List Turn) (t : ℕ) → IsSound world → t < slot_count world → end_goal world t ≡ ToOpen
    → ((who local : ℕ) → IsTrue (world_owes world who local) → 1 ≤ count_by (is_retry_of who local) turns)
    → ((slot_of world t).state ≢ Closed) ⊎ (1 ≤ count_by (is_retry_of (place world t).0 (place world t).1) turns)
begun_or_retried world turns t sound within aims retries = elim (closed_or_not (slot_of world t).state) [
  | inl begun ↦ inl begun
  | inr closed ↦
      inr (retries (place world t).0 (place world t).1 (owes_by_place world t sound within (owes_closed (goal_of world t) (slot_of world t) aims closed)))
]

-- to open isn't to close
to_open : (goal : Goal) → goal ≡ ToOpen → goal ≢ ToClose
to_open goal opens closes = cc

-- the goal of a slot at the end of the turns is that of the beginning
pub goal_before : (world last : WorldState) (t : ℕ) → Stay world last → goal_of last t ≡ goal_of world t
goal_before world last t stay =
    let at : place last t ≡ place world t = ap (λ (c : List ChannelState). place (record world { channels = c }) t) stay.channels in
    ap (λ (p : ℕ × ℕ). goal_at (box_at last p.0) p.1) at ∙ stay.goals (place world t).0 (place world t).1

-- once each Retry has come that was owed when nothing was under way, an end that is to open owes none, unless the other end of its path closes
owes_none : (world last : WorldState) (turns : List Turn) (s t : ℕ) → IsSound world → IsTrue (is_quiet world)
    → list_all (λ turn. takes_or_retries turn.event) turns ≡ true → run world turns ≡ Some last
    → ((who local : ℕ) → IsTrue (world_owes world who local) → 1 ≤ count_by (is_retry_of who local) turns)
    → s < slot_count last → is_end_goal (goal_of last s) ≡ true → other_end last s ≡ Some t → end_goal last s ≡ ToOpen → end_goal last t ≢ ToClose → owes_by_number last s ≡ false
owes_none world last turns s t sound quiet all goes retries inside aims walk opens far_stays =
    let stay = run_stays turns world last sound all goes in
    let between : IsBetween world s = between_before world last s stay.channels stay.goals
    (end_between last s t inside aims walk (to_open (end_goal last s) opens) far_stays) in
    owes_begun (goal_of last s) (slot_of last s)
    (run_opens turns world last s sound between all goes (quiet_clean world quiet) (begun_or_retried world turns s sound between.inside (ap end_goal_of (sym (goal_before world last s stay)) ∙ opens) retries))

-- ---- paths

-- both ends of the path of which a slot is the lower end
path_owes_none : (world last : WorldState) (turns : List Turn) (s : ℕ) (path : PathEnds) → IsSound world → IsTrue (is_quiet world)
    → list_all (λ turn. takes_or_retries turn.event) turns ≡ true → run world turns ≡ Some last
    → ((who local : ℕ) → IsTrue (world_owes world who local) → 1 ≤ count_by (is_retry_of who local) turns)
    → s < slot_count last → path_from last s ≡ Some path → OwesNone last path
path_owes_none world last turns s path sound quiet all goes retries inside is =
    let parts = parts_of last s path is in
    let kept = (run_stays turns world last sound all goes).sound in
    let more = walk_back (length (all_tunnels last)) last s path.high kept inside parts.leads in
    let back : other_end last path.high ≡ Some s = end_back last s path.high kept inside parts.aims parts.leads in
    record {
      low = λ opens stays.
          subst (λ (n : ℕ). owes_by_number last n ≡ false) (sym parts.low_is)
          (owes_none world last turns s path.high sound quiet all goes retries inside parts.aims parts.leads (subst (λ (n : ℕ). end_goal last n ≡ ToOpen) parts.low_is opens) stays);
      high = λ opens stays.
          owes_none world last turns path.high s sound quiet all goes retries more.inside more.aims back opens (subst (λ (n : ℕ). end_goal last n ≢ ToClose) parts.low_is stays);
    }

-- all paths
rest_owes_none : (world last : WorldState) (turns : List Turn) → IsSound world → IsTrue (is_quiet world)
    → list_all (λ turn. takes_or_retries turn.event) turns ≡ true → run world turns ≡ Some last
    → ((who local : ℕ) → IsTrue (world_owes world who local) → 1 ≤ count_by (is_retry_of who local) turns)
    → All (OwesNone last) (paths last)
rest_owes_none world last turns sound quiet all goes retries =
    each_from (OwesNone last) (path_from last) (places last) 0 (slot_count last) (omega arith)
    (λ s inside path is. path_owes_none world last turns s path sound quiet all goes retries inside is)

-- so each path is as the path table says
pub rested_paths_hold : RestedPathsHold
rested_paths_hold world last turns sound quiet all goes retries rests k path below =
    table_holds last (get_or (paths last) k path) (quiet_paths last (run_keeps_sound world last turns sound goes) rests k path below)
    (rest_owes_none world last turns sound quiet all goes retries k path below)

-- ---- settled segments

-- where a retry is owed, one comes
some_retry : (owed : Bool) (count : ℕ) → count ≡ (if owed then 1 else 0) → owed ≡ true → 1 ≤ count
some_retry true count is owes = omega arith
some_retry false count is owes = absurd (cc)

-- from the last rest on, which begins where the turns of its moment lead
pub settled_paths_hold : SettledPathsHold
settled_paths_hold world last batch turns sound settled =
    let rest = settled.last_rest in
    let halves = run_halves (take settled.moment turns) (drop settled.moment turns) world last (ap (run world) (take-append-drop settled.moment turns) ∙ settled.runs) in
    rested_paths_hold (after world (take settled.moment turns)) last (drop settled.moment turns)
    (run_keeps_sound world (after world (take settled.moment turns)) (take settled.moment turns) sound halves.0)
    (rests_quiet (after world (take settled.moment turns)) rest.at_rest) rest.besides halves.1
    (λ who local owes.
    some_retry (world_owes (after world (take settled.moment turns)) who local) (count_by (is_retry_of who local) (drop settled.moment turns)) (rest.retries who local) owes)
    (rests_quiet last settled.at_rest)
