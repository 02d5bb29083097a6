-- The commands of a batch by their boxes, and those that are left of it.
use Rattle.std.specs.Prelude.{◌≡◌, ℕ, ◌-◌, ◌==◌, if◌then◌else◌, List, [], ◌∷◌, filter, length, map, slice_get, slice_index_or, Vec}
use Rattle.std.specs.Option.{option_to_list}
use Rattle.std.specs.declared.alloc.Global.{Global}
use Rattle.mc_box.specs.declared.event.Turn.{Turn}
use Rattle.mc_model.specs.Worlds.{WorldState}
use Rattle.mc_seq.specs.Ready.{CountsEach}
use Rattle.mc_seq.specs.Schedule.{command_candidates}
use Rattle.mc_seq.specs.declared.commands.Commands.{Commands}

-- the commands of a box, in their order
abbrev pub turns_of : ℕ → List Turn → List Turn
turns_of who batch = filter (λ turn. turn.who == who) batch

-- one fewer for a box
abbrev pub lowered : (ℕ → ℕ) → ℕ → ℕ → ℕ
lowered used who other = if other == who then used other - 1 else used other

-- a batch without the first commands of each box, so many for each
abbrev pub left_after : (ℕ → ℕ) → List Turn → List Turn
left_after used [] = []
left_after used (turn ∷ rest) =
    if used turn.who == 0 then turn ∷ left_after used rest else left_after (lowered used turn.who) rest

-- lists by box, as code keeps them
abbrev pub queues_of : List (Vec Turn Global) → List (List Turn)
queues_of queues = map (λ queue. queue.items) queues

abbrev pub queue_at : List (List Turn) → ℕ → List Turn
queue_at queues who = slice_index_or queues who []

-- the first command of a box, if it has one
abbrev pub first_of : List (List Turn) → ℕ → List Turn
first_of queues who = option_to_list (slice_get (queue_at queues who) 0)

-- how many commands of a box have come
abbrev pub used_of : List ℕ → ℕ → ℕ
used_of used who = slice_index_or used who 0

-- the commands that are left
abbrev pub commands_left : Commands → List Turn
commands_left commands = left_after (used_of commands.used.items) commands.batch.items

-- each box has its list, those that are left are counted, and so is each box's next one
pub record AreKept (commands : Commands) : Type 0 where
  pub queues : (who : ℕ) → queue_at (queues_of commands.queues.items) who ≡ turns_of who commands.batch.items
  pub long : length commands.used.items ≡ length commands.queues.items
  pub next : CountsEach (command_candidates (commands_left commands)) commands.next (length commands.queues.items)
  pub counted : commands.count ≡ length (commands_left commands)

-- for as many boxes as a world has
pub record AreKeptFor (world : WorldState) (commands : Commands) : Type 0 where
  pub kept : AreKept commands
  pub boxes : length commands.queues.items ≡ length world.boxes
