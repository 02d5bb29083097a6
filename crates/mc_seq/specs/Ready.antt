-- What a search for the k-th candidate rests on: counts by box.
use Rattle.std.specs.Prelude.{◌≡◌, ◌<◌, ◌+◌, ◌++◌, ℕ, Bool, if◌then◌else◌, List, [], length, sum, take, slice_get, slice_index_or}
use Rattle.mc_box.specs.declared.event.Turn.{Turn}
use Rattle.mc_model.specs.Worlds.{WorldState}
use Rattle.mc_seq.specs.ForEach.{for_each}
use Rattle.mc_seq.specs.Schedule.{command_candidates, takes_of}

-- counts of what a function gives for each number below a limit
pub record CountsEach (f : ℕ → List Turn) (numbers : List ℕ) (limit : ℕ) : Type 0 where
  pub long : length numbers ≡ limit
  pub counts : (t : ℕ) → t < limit → slice_index_or numbers t 0 ≡ length (f t)

-- where a search in the sums of the counts ends, there is the k-th
abbrev pub KthIsFound : Type 0
KthIsFound =
    (f : ℕ → List Turn) (numbers : List ℕ) (limit k who rest : ℕ) → CountsEach f numbers limit → who < length numbers
    → sum (take who numbers) + rest ≡ k
    → rest < slice_index_or numbers who 0 → slice_get (for_each f limit) k ≡ slice_get (f who) rest

-- and there are as many as their sum
abbrev pub CountIsSum : Type 0
CountIsSum =
    (f : ℕ → List Turn) (numbers : List ℕ) (limit : ℕ) → CountsEach f numbers limit
    → sum numbers ≡ length (for_each f limit)

-- the next commands of so many boxes, box by box
abbrev pub next_commands : List Turn → ℕ → List Turn
next_commands left boxes = for_each (command_candidates left) boxes

-- the Takes of all boxes, box by box
abbrev pub all_takes : WorldState → List Turn
all_takes world = for_each (takes_of world) (length world.boxes)

-- the candidates of a box without a program: its next command, and then its Takes
abbrev pub two_candidates : WorldState → List Turn → Bool → ℕ → List Turn
two_candidates world left only_commands who =
    command_candidates left who ++ (if only_commands then [] else takes_of world who)

-- of all boxes, where none has a program
abbrev pub all_of_two : WorldState → List Turn → Bool → List Turn
all_of_two world left only_commands = for_each (two_candidates world left only_commands) (length world.boxes)
