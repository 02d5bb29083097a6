-- Laws of paths: what each path of a quiet world is, and that after a settle it is as the path table says.
use Rattle.std.specs.Prelude.{◌≡◌, ◌≢◌, ◌⊎◌, ◌<◌, ◌≤◌, ◌==◌, ◌||◌, ℕ, ◌+◌, Bool, false, List, length, slice_index_or, IsTrue, Some}
use Rattle.std.specs.List.{All, count_by, list_all, list_any}
use Rattle.mc_slot.specs.Outlook.{acks, closes}
use Rattle.mc_slot.specs.declared.Goal.TheVariants.{Open as ToOpen, Close as ToClose}
use Rattle.mc_slot.specs.declared.State.{State}
use Rattle.mc_slot.specs.declared.State.TheVariants.{Closed, Flowing, Closing}
use Rattle.mc_model.specs.PathTable.{Hears, PathHolds}
use Rattle.mc_slot.specs.EndTurn.{is_end_goal}
use Rattle.mc_model.specs.Paths.{PathEnds, end_goal, paths, slots_on}
use Rattle.mc_model.specs.Rings.{IsOnRing}
use Rattle.mc_model.specs.Settles.{IsSettled, is_quiet, is_retry_of, world_owes, takes_or_retries}
use Rattle.mc_model.specs.Shapes.{owes_by_number}
use Rattle.mc_model.specs.Sound.{IsSound}
use Rattle.mc_model.specs.Steps.{run}
use Rattle.mc_model.specs.Worlds.{WorldState, goal_of, tunnel_of, list_to, own_descriptor, own_sender, slot_count, slot_of}
use Rattle.mc_box.specs.declared.event.Turn.{Turn}

-- both end slots of a path are in a state
pub record AreIn (world : WorldState) (path : PathEnds) (state : State) : Type 0 where
  pub low : (slot_of world path.low).state ≡ state
  pub high : (slot_of world path.high).state ≡ state

-- each end of a path last got the other's newest descriptor, and the choice for its own
pub record HearEachOther (world : WorldState) (path : PathEnds) : Type 0 where
  pub low : Hears (slot_of world path.low) (own_descriptor world path.low) (own_descriptor world path.high)
      (own_sender world path.high)
  pub high : Hears (slot_of world path.high) (own_descriptor world path.high) (own_descriptor world path.low)
      (own_sender world path.low)

-- all slots of a path of a sound world have one medium, that of its lower end's tunnel
abbrev pub PathsOfOneMedium : Type 0
PathsOfOneMedium =
    (world : WorldState) → IsSound world
    → All (λ path. All (λ s. (slot_of world s).medium ≡ (tunnel_of world path.low).medium) (slots_on world path))
    (paths world)

-- what a path is where nothing is under way: closed, or flowing with ends that hear each other, and all its slots are
-- as its ends; closed where an end closes, and flowing where one opens and owes no retry
pub record IsQuietPath (world : WorldState) (path : PathEnds) : Type 0 where
  pub alike : AreIn world path Closed ⊎ (AreIn world path Flowing × HearEachOther world path)
  pub along : (state : State) → AreIn world path state
      → All (λ s. (slot_of world s).state ≡ state) (slots_on world path)
  pub low_closes : end_goal world path.low ≡ ToClose → AreIn world path Closed
  pub high_closes : end_goal world path.high ≡ ToClose → AreIn world path Closed
  pub low_opens : end_goal world path.low ≡ ToOpen → owes_by_number world path.low ≡ false → AreIn world path Flowing
  pub high_opens : end_goal world path.high ≡ ToOpen → owes_by_number world path.high ≡ false → AreIn world path Flowing

-- each path of a quiet sound world, over however many tunnels
abbrev pub QuietPaths : Type 0
QuietPaths = (world : WorldState) → IsSound world → IsTrue (is_quiet world) → All (IsQuietPath world) (paths world)

-- no close and no closeack comes to a slot, and it waits for none
pub record IsClean (world : WorldState) (s : ℕ) : Type 0 where
  pub none : closes (list_to world s) + acks (list_to world s) ≡ 0
  pub state : (slot_of world s).state ≢ Closing

-- all slots of a path are clean, unless one of its ends closes
abbrev pub IsCleanPath : WorldState → PathEnds → Type 0
IsCleanPath world path =
    end_goal world path.low ≢ ToClose → end_goal world path.high ≢ ToClose
    → All (λ s. IsClean world s) (slots_on world path)

-- after a moment at which nothing was under way, while only Takes and Retries come, no close is ever under way on a
-- path without an end that closes
abbrev pub CleanPaths : Type 0
CleanPaths = (world next : WorldState) (turns : List Turn) → IsSound world → IsTrue (is_quiet world)
    → IsTrue (list_all (λ turn. takes_or_retries turn.event) turns) → run world turns ≡ Some next
    → All (IsCleanPath next) (paths next)

-- between two moments at which nothing is under way, by Takes and Retries alone, among which each retry comes that is
-- owed at the first: each path is then as the path table says
abbrev pub RestedPathsHold : Type 0
RestedPathsHold = (world last : WorldState) (turns : List Turn) → IsSound world → IsTrue (is_quiet world)
    → IsTrue (list_all (λ turn. takes_or_retries turn.event) turns) → run world turns ≡ Some last
    → ((who local : ℕ) → IsTrue (world_owes world who local) → 1 ≤ count_by (is_retry_of who local) turns)
    → IsTrue (is_quiet last) → All (PathHolds last) (paths last)

-- after each settled segment, whatever the order of its turns, each path is as the path table says
abbrev pub SettledPathsHold : Type 0
SettledPathsHold =
    (world last : WorldState) (batch turns : List Turn) → IsSound world → IsSettled world batch turns last
    → All (PathHolds last) (paths last)

-- after a moment at which nothing was under way, while only Takes and Retries come: a slot that owes a retry owed it
-- at that moment, too
abbrev pub OwedSinceQuiet : Type 0
OwedSinceQuiet = (world next : WorldState) (turns : List Turn) → IsSound world → IsTrue (is_quiet world)
    → IsTrue (list_all (λ turn. takes_or_retries turn.event) turns) → run world turns ≡ Some next
    → (who local : ℕ) → IsTrue (world_owes next who local) → IsTrue (world_owes world who local)

-- whether a slot is an end of a path
abbrev pub is_end_of : ℕ → PathEnds → Bool
is_end_of s path = path.low == s || path.high == s

-- each end of a sound world is an end of exactly one of its paths
abbrev pub EachEndOnce : Type 0
EachEndOnce =
    (world : WorldState) (s : ℕ) → IsSound world → s < slot_count world → IsTrue (is_end_goal (goal_of world s))
    → count_by (is_end_of s) (paths world) ≡ 1

-- whether a path goes over a slot
abbrev pub is_on : WorldState → ℕ → PathEnds → Bool
is_on world s path = list_any (λ n. n == s) (slots_on world path)

-- no path goes over a slot on a ring, and exactly one path over each other slot
abbrev pub EachSlotOnce : Type 0
EachSlotOnce = (world : WorldState) (s : ℕ) → IsSound world → s < slot_count world
    → (IsOnRing world s → count_by (is_on world s) (paths world) ≡ 0)
    × ((IsOnRing world s → ⊥) → count_by (is_on world s) (paths world) ≡ 1)

-- no slot stands in the list twice
abbrev pub HasNoRepeats : List ℕ → Type 0
HasNoRepeats slots = (i j : ℕ) → i < j → j < length slots → slice_index_or slots i 0 ≢ slice_index_or slots j 0

-- no path of a sound world goes over a slot twice
abbrev pub PathsPassOnce : Type 0
PathsPassOnce = (world : WorldState) → IsSound world → All (λ path. HasNoRepeats (slots_on world path)) (paths world)
