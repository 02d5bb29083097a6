-- The candidates, and the k-th of them, by the counts of next commands and of Takes.
use Rattle.std.proofs.Common.{◌≡◌, ◌<◌, ◌+◌, ◌++◌, if◌then◌else◌, ℕ, zero, suc, Bool, true, false, List, [], ◌∷◌, length, sum, take, slice_get, Option, Some, None, length-append, refl, ap, sym, ◌∙◌, subst, arith}
use Rattle.std.specs.Prelude.{slice_index_or}
use Rattle.std.specs.Option.{option_to_list}
use Rattle.std.proofs.lemmas.List.{append-nil}
use Rattle.mc_box.specs.declared.event.Turn.{Turn}
use Rattle.mc_model.specs.Worlds.{WorldState, box_at}
use Rattle.mc_seq.specs.Commands.{AreKept, AreKeptFor, commands_left}
use Rattle.mc_seq.specs.ForEach.{for_each}
use Rattle.mc_seq.specs.Ready.{CountsEach, all_of_two, all_takes, next_commands, two_candidates}
use Rattle.mc_seq.specs.Schedule.{command_candidates, next_of, take_turn, waiting_take, takes_of}
use Rattle.mc_world.specs.Waiting.{CountsTakes, bit, take_waits, waiting_count}
use Rattle.mc_seq.specs.declared.commands.Commands.{Commands}
use Rattle.mc_seq.proofs.ForEach.{each_same}
use Rattle.mc_seq.proofs.Kth.{both_count, count_is, each_got, kth_is, kth_of_both}
use Rattle.mc_seq.proofs.SettlesSoFar.{empty_is}

-- a slot gives as many Takes as signals that it can take now
one_counted : (there : Bool) (who local : ℕ) → length (if there then take_turn who local ∷ [] else []) ≡ bit there
one_counted true who local = refl
one_counted false who local = refl

-- and a box's slots together
pub takes_counted : (world : WorldState) (who count : ℕ) → length (for_each (waiting_take world who) count) ≡ waiting_count world who count
takes_counted world who zero = refl
takes_counted world who (suc count) =
    let rest : length (for_each (waiting_take world who) count) ≡ waiting_count world who count = takes_counted world who count in
    let both : length (for_each (waiting_take world who) count ++ waiting_take world who count) ≡ length (for_each (waiting_take world who) count) + length (waiting_take world who count)
    = length-append (for_each (waiting_take world who) count) (waiting_take world who count) in
    let one : length (waiting_take world who count) ≡ bit (take_waits world who count) = one_counted (take_waits world who count) who count in
    omega arith

-- so what a world counts are the Takes of each box
pub takes_each : (world : WorldState) (counts : List ℕ) → CountsTakes world counts → CountsEach (takes_of world) counts (length world.boxes)
takes_each world counts takes = record {
  long = takes.long;
  counts = λ who below. takes.each who below ∙ sym (takes_counted world who (length (box_at world who).slots));
}

-- at a waiting slot with k waiting slots below it is the k-th Take
pub found_take : (world : WorldState) (who local k : ℕ) → local < length (box_at world who).slots → take_waits world who local ≡ true → waiting_count world who local ≡ k
    → slice_get (takes_of world who) k ≡ Some (take_turn who local)
found_take world who local k inside waits before =
    let at : k ≡ length (for_each (waiting_take world who) local) + 0 = (let counts = takes_counted world who local in omega arith) in
    ap (slice_get (takes_of world who)) at
    ∙ each_got (waiting_take world who) (length (box_at world who).slots) local 0 (take_turn who local) inside
    (ap (λ (there : Bool). slice_get (if there then take_turn who local ∷ [] else []) 0) waits)

-- ---- lists that are the same

pub still_inside : {xs ys : List Turn} (k : ℕ) → xs ≡ ys → k < length xs → k < length ys
still_inside k same inside = subst (λ (l : List Turn). k < length l) same inside

pub still_got : {xs ys : List Turn} (k : ℕ) (x : Turn) → xs ≡ ys → slice_get ys k ≡ Some x → slice_get xs k ≡ Some x
still_got k x same got = ap (λ (l : List Turn). slice_get l k) same ∙ got

-- ---- what is listed

-- next commands alone
pub urgent_is : (world : WorldState) (commands : Commands) (only_commands : Bool) → AreKeptFor world commands → only_commands ≡ true
    → all_of_two world (commands_left commands) only_commands ≡ next_commands (commands_left commands) (length commands.queues.items)
urgent_is world commands only_commands kept is =
    ap (all_of_two world (commands_left commands)) is
    ∙ (each_same (two_candidates world (commands_left commands) true) (command_candidates (commands_left commands)) (length world.boxes) (λ who. append-nil (command_candidates (commands_left commands) who))
    ∙ ap (next_commands (commands_left commands)) (sym kept.boxes))

-- Takes alone, where no command is left
pub used_up_is : (world : WorldState) (commands : Commands) (only_commands : Bool) → AreKeptFor world commands → only_commands ≡ false → commands.count ≡ 0 → all_of_two world (commands_left commands) only_commands ≡ all_takes world
used_up_is world commands only_commands kept is none =
    ap (all_of_two world (commands_left commands)) is
    ∙ (ap (λ (left : List Turn). all_of_two world left false) (empty_is (commands_left commands) (sym kept.kept.counted ∙ none))
    ∙ each_same (two_candidates world [] false) (takes_of world) (length world.boxes) (λ who. refl))

-- or both
pub calm_is : (world : WorldState) (left : List Turn) (only_commands : Bool) → only_commands ≡ false → all_of_two world left only_commands ≡ all_of_two world left false
calm_is world left only_commands is = ap (all_of_two world left) is

-- ---- how many there are

-- the counts of next commands, for the boxes of a world
next_each : (world : WorldState) (commands : Commands) → AreKeptFor world commands → CountsEach (command_candidates (commands_left commands)) commands.next (length world.boxes)
next_each world commands kept = subst (λ (n : ℕ). CountsEach (command_candidates (commands_left commands)) commands.next n) kept.boxes kept.kept.next

pub commands_sum : (commands : Commands) → AreKept commands → sum commands.next ≡ length (next_commands (commands_left commands) (length commands.queues.items))
commands_sum commands kept = count_is (command_candidates (commands_left commands)) commands.next (length commands.queues.items) kept.next

pub takes_sum : (world : WorldState) (counts : List ℕ) → CountsTakes world counts → sum counts ≡ length (all_takes world)
takes_sum world counts takes = count_is (takes_of world) counts (length world.boxes) (takes_each world counts takes)

pub both_sum : (world : WorldState) (commands : Commands) (counts : List ℕ) → AreKeptFor world commands → CountsTakes world counts
    → sum commands.next + sum counts ≡ length (all_of_two world (commands_left commands) false)
both_sum world commands counts kept takes =
    let one : sum commands.next ≡ length (for_each (command_candidates (commands_left commands)) (length world.boxes)) = count_is (command_candidates (commands_left commands)) commands.next (length world.boxes) (next_each world commands kept) in
    let two : sum counts ≡ length (for_each (takes_of world) (length world.boxes)) = takes_sum world counts takes in
    let all : length (for_each (two_candidates world (commands_left commands) false) (length world.boxes))
    ≡ length (for_each (command_candidates (commands_left commands)) (length world.boxes)) + length (for_each (takes_of world) (length world.boxes))
    = both_count (command_candidates (commands_left commands)) (takes_of world) (length world.boxes) in
    omega arith

-- ---- the k-th of them

-- a box whose next command the search finds has one
first_is : (o : Option Turn) (rest : ℕ) (turn : Turn) → rest < length (option_to_list o) → o ≡ Some turn → slice_get (option_to_list o) rest ≡ Some turn
first_is None rest turn within is = absurd (omega arith)
first_is (Some x) zero turn within is = is
first_is (Some x) (suc rest) turn within is = absurd (omega arith)

none_inside : (o : Option Turn) (rest : ℕ) → rest < length (option_to_list o) → o ≡ None → ⊥
none_inside None rest within is = omega arith
none_inside (Some x) rest within is = cc

command_within : (commands : Commands) (who rest : ℕ) → AreKept commands → who < length commands.next → rest < slice_index_or commands.next who 0 → rest < length (command_candidates (commands_left commands) who)
command_within commands who rest kept inside within =
    subst (λ (n : ℕ). rest < n) (kept.next.counts who (subst (λ (n : ℕ). who < n) kept.next.long inside)) within

pub command_there : (commands : Commands) (who rest : ℕ) → AreKept commands → who < length commands.next → rest < slice_index_or commands.next who 0 → next_of who (commands_left commands) ≡ None → ⊥
command_there commands who rest kept inside within none = none_inside (next_of who (commands_left commands)) rest (command_within commands who rest kept inside within) none

pub command_found : (commands : Commands) (k who rest : ℕ) (turn : Turn) → AreKept commands → who < length commands.next → sum (take who commands.next) + rest ≡ k → rest < slice_index_or commands.next who 0
    → next_of who (commands_left commands) ≡ Some turn → slice_get (next_commands (commands_left commands) (length commands.queues.items)) k ≡ Some turn
command_found commands k who rest turn kept inside before within is =
    kth_is (command_candidates (commands_left commands)) commands.next (length commands.queues.items) k who rest kept.next inside before within
    ∙ first_is (next_of who (commands_left commands)) rest turn (command_within commands who rest kept inside within) is

-- Takes
pub take_within : (world : WorldState) (counts : List ℕ) (who rest : ℕ) → CountsTakes world counts → who < length counts → rest < slice_index_or counts who 0 → rest < length (takes_of world who)
take_within world counts who rest takes inside within =
    subst (λ (n : ℕ). rest < n) ((takes_each world counts takes).counts who (subst (λ (n : ℕ). who < n) takes.long inside)) within

pub take_at_box : (world : WorldState) (counts : List ℕ) (k who rest : ℕ) → CountsTakes world counts → who < length counts → sum (take who counts) + rest ≡ k → rest < slice_index_or counts who 0
    → slice_get (all_takes world) k ≡ slice_get (takes_of world who) rest
take_at_box world counts k who rest takes inside before within = kth_is (takes_of world) counts (length world.boxes) k who rest (takes_each world counts takes) inside before within

-- both
pub both_within : (world : WorldState) (commands : Commands) (counts : List ℕ) (who rest : ℕ) → AreKeptFor world commands → CountsTakes world counts → who < length counts
    → rest < slice_index_or counts who 0 + slice_index_or commands.next who 0 → rest < length (two_candidates world (commands_left commands) false who)
both_within world commands counts who rest kept takes inside within =
    let below : who < length world.boxes = subst (λ (n : ℕ). who < n) takes.long inside in
    let one : slice_index_or commands.next who 0 ≡ length (command_candidates (commands_left commands) who) = (next_each world commands kept).counts who below in
    let two : slice_index_or counts who 0 ≡ length (takes_of world who) = (takes_each world counts takes).counts who below in
    let all : length (command_candidates (commands_left commands) who ++ takes_of world who) ≡ length (command_candidates (commands_left commands) who) + length (takes_of world who)
    = length-append (command_candidates (commands_left commands) who) (takes_of world who) in
    omega arith

pub both_at_box : (world : WorldState) (commands : Commands) (counts : List ℕ) (k who rest : ℕ) → AreKeptFor world commands → CountsTakes world counts → who < length counts
    → sum (take who counts) + sum (take who commands.next) + rest ≡ k → rest < slice_index_or counts who 0 + slice_index_or commands.next who 0
    → slice_get (all_of_two world (commands_left commands) false) k ≡ slice_get (two_candidates world (commands_left commands) false who) rest
both_at_box world commands counts k who rest kept takes inside before within =
    kth_of_both (command_candidates (commands_left commands)) (takes_of world) commands.next counts (length world.boxes) k who rest (next_each world commands kept) (takes_each world counts takes)
    (subst (λ (n : ℕ). who < n) takes.long inside) before within
