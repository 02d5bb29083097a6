-- Turns that are drawn: a run, whose commands are those of the batch, and after the batch Takes and Shifts.
use Rattle.std.proofs.Common.{◌≡◌, ◌++◌, ◌==◌, ◌&&◌, ◌||◌, inl, inr, cond, if◌then◌else◌, slice_get, ℕ, Bool, true, false, List, [], ◌∷◌, length, count_by, Some, IsTrue, append_assoc, refl, ap, sym, ◌∙◌, subst}
use Rattle.std.specs.List.{list_all, list_any}
use Rattle.std.specs.Option.{option_and_then}
use Rattle.std.proofs.lemmas.Bool.{and_parts, eq-eqb}
use Rattle.std.proofs.lemmas.List.Elements.{filter-append}
use Rattle.mc_box.specs.declared.event.Event.{Event}
use Rattle.mc_box.specs.declared.event.Turn.{Turn}
use Rattle.mc_box.specs.BoxEvents.{is_command, is_shift}
use Rattle.mc_laws.proofs.CommandsGo.{allowed_parts}
use Rattle.mc_model.specs.Shapes.{is_allowed, AreAllowed}
use Rattle.mc_model.specs.Settles.{commands_of, is_quiet, is_retry_of, takes_or_retries, next_command}
use Rattle.mc_model.specs.Sound.{IsSound}
use Rattle.mc_model.specs.Steps.{ends_version, run}
use Rattle.mc_model.specs.Unprogrammed.{ShiftNone}
use Rattle.mc_model.specs.Worlds.{WorldState}
use Rattle.mc_seq.specs.Schedule.{AreDrawn, ScheduleState, candidates, drawn_turn, commands_only, left_by, all_candidates, next_of, schedule_after, without_next}
use Rattle.mc_seq.proofs.Candidates.{IsListed, drawn_listed, listed_quiet, take_same}
use Rattle.mc_seq.proofs.AllowedCommands.{left_pass, next_pass}
use Rattle.mc_seq.proofs.Nexts.{next_first}
use Rattle.mc_seq.proofs.Segments.{all_besides, both_there}
use Rattle.mc_seq.proofs.SettlesSoFar.{drawn_other, drawn_take, other_ends_none, other_left, other_none}

-- ---- drawn turns are a run

-- turns that are drawn are a run
pub drawn_run : (turns : List Turn) (now last : ScheduleState) → AreDrawn now turns last → run now.world turns ≡ Some last.world
drawn_run [] now last draws = ap (λ (s : ScheduleState). Some s.world) draws
drawn_run (turn ∷ turns) now last draws = ap (option_and_then (λ (w : WorldState). run w turns)) draws.3 ∙ drawn_run turns (schedule_after now turn draws.0) last draws.4

-- what all that is left passes
pub drawn_pass : (p : Turn → Bool) (turns : List Turn) (now last : ScheduleState) → list_all p now.left ≡ true → AreDrawn now turns last → list_all p last.left ≡ true
drawn_pass p [] now last all draws = subst (λ (s : ScheduleState). list_all p s.left ≡ true) draws all
drawn_pass p (turn ∷ turns) now last all draws = drawn_pass p turns (schedule_after now turn draws.0) last (left_pass p turn now.left all) draws.4

-- ---- their commands

-- the turn is a command
abbrev pub is_ordered : Turn → Bool
is_ordered turn = is_command turn.event

-- allowed commands are commands
pub allowed_commands : (left : List Turn) (world : WorldState) → AreAllowed world left → list_all is_ordered left ≡ true
allowed_commands [] world allowed = refl
allowed_commands (turn ∷ left) world allowed =
    let parts = and_parts (is_allowed world turn) (list_all (is_allowed world) left) allowed in
    both_there (is_ordered turn) (list_all is_ordered left) (allowed_parts world turn parts.0).command (allowed_commands left world parts.1)

-- a drawn turn and what is left after it are the commands that were left, box by box
moved_commands : (world : WorldState) (left : List Turn) (shifts : List ℕ) (only_commands : Bool) (turn : Turn) (who : ℕ) → list_all is_ordered left ≡ true → IsListed world left shifts only_commands turn
    → commands_of who (turn ∷ []) ++ commands_of who (left_by turn left) ≡ commands_of who left
moved_commands world left shifts only_commands turn who all is = elim is [
  | inl next ↦
      ap (λ (b : Bool). commands_of who (turn ∷ []) ++ commands_of who (if b then without_next turn.who left else left)) (next_pass is_ordered turn.who left turn all next)
      ∙ next_first left turn who next
  | inr other ↦
      ap (λ (turns : List Turn). commands_of who (turn ∷ []) ++ commands_of who turns) (other_left turn left world shifts other.1)
      ∙ ap (λ (b : Bool). cond (b && turn.who == who) (turn ∷ []) [] ++ commands_of who left) (other_none world shifts turn other.1)
]

-- box by box the drawn commands, and then those that are left, are those that were left before
pub drawn_commands : (turns : List Turn) (now last : ScheduleState) (who : ℕ) → list_all is_ordered now.left ≡ true → AreDrawn now turns last → commands_of who turns ++ commands_of who last.left ≡ commands_of who now.left
drawn_commands [] now last who all draws = ap (λ (s : ScheduleState). commands_of who s.left) (sym draws)
drawn_commands (turn ∷ turns) now last who all draws =
    ap (λ (l : List Turn). l ++ commands_of who last.left) (filter-append (λ (t : Turn). is_command t.event && t.who == who) (turn ∷ []) turns)
    ∙ (append_assoc (commands_of who (turn ∷ [])) (commands_of who turns) (commands_of who last.left)
    ∙ (ap (λ (l : List Turn). commands_of who (turn ∷ []) ++ l) (drawn_commands turns (schedule_after now turn draws.0) last who (left_pass is_ordered turn now.left all) draws.4)
    ∙ moved_commands now.world now.left now.shifts (commands_only now.left now.since) turn who all (drawn_listed now turn draws.2)))

-- ---- where the batch is used up

-- no command is left after it
pub drawn_none : (turns : List Turn) (now last : ScheduleState) → now.left ≡ [] → AreDrawn now turns last → last.left ≡ []
drawn_none [] now last none draws = ap (λ (s : ScheduleState). s.left) (sym draws) ∙ none
drawn_none (turn ∷ turns) now last none draws =
    drawn_none turns (schedule_after now turn draws.0) last (other_left turn now.left now.world now.shifts (drawn_other now turn none draws.2) ∙ none) draws.4

-- neither of two tests holds
neither : (a b : Bool) → (a || b) ≡ false → (a ≡ false) × (b ≡ false)
neither true b is = absurd (cc)
neither false b is = (refl, is)

-- what is no Shift at the head, and after it
pub none_parts : (turn : Turn) (turns : List Turn) → ShiftNone (turn ∷ turns) → (is_shift turn.event ≡ false) × ShiftNone turns
none_parts turn turns none = neither (is_shift turn.event) (list_any (λ (t : Turn). is_shift t.event) turns) none

-- drawn turns are Takes
pub record AreTakes (turns : List Turn) : Type 0 where
  pub besides : all_besides turns ≡ true
  pub count : (who local : ℕ) → count_by (is_retry_of who local) turns ≡ 0

-- after the last command only Takes are drawn, but for Shifts
pub drawn_takes : (turns : List Turn) (now last : ScheduleState) → now.left ≡ [] → ShiftNone turns → AreDrawn now turns last → AreTakes turns
drawn_takes [] now last none apart draws = record { besides = refl; count = λ who local. refl }
drawn_takes (turn ∷ turns) now last none apart draws =
    let parts = none_parts turn turns apart in
    let take = drawn_take now turn none parts.0 draws.2 in
    let rest = drawn_takes turns (schedule_after now turn draws.0) last (other_left turn now.left now.world now.shifts (inl take) ∙ none) parts.1 draws.4 in
    record {
      besides = ap (λ (e : Event). takes_or_retries e && all_besides turns) take.event ∙ rest.besides;
      count = λ who local. ap (λ (t : Turn). count_by (is_retry_of who local) (t ∷ turns)) (sym (take_same turn take.local take.event)) ∙ rest.count who local;
    }

-- where no round is due in the end, none was before, and no Shift came
pub drawn_undue : (turns : List Turn) (now last : ScheduleState) → AreDrawn now turns last → last.due ≡ false → (now.due ≡ false) × ShiftNone turns
drawn_undue [] now last draws not_due = (ap (λ (s : ScheduleState). s.due) draws ∙ not_due, refl)
drawn_undue (turn ∷ turns) now last draws not_due =
    let rest = drawn_undue turns (schedule_after now turn draws.0) last draws.4 not_due in
    let parts = neither (is_shift turn.event) now.due rest.0 in
    (parts.1, both_false (is_shift turn.event) (list_any (λ (t : Turn). is_shift t.event) turns) parts.0 rest.1)
  where
    both_false : (a b : Bool) → a ≡ false → b ≡ false → (a || b) ≡ false
    both_false a b one two = rw (one, two) refl

-- nothing is under way where nothing is listed
pub rested_quiet : (now : ScheduleState) → IsSound now.world → now.left ≡ [] → candidates now ≡ [] → IsTrue (is_quiet now.world)
rested_quiet now sound left none =
    listed_quiet now.world now.shifts sound (subst (λ (l : List Turn). all_candidates now.world l now.shifts (commands_only l now.since) ≡ []) left none)

-- drawn turns after drawn turns
pub drawn_both : (one two : List Turn) (now next last : ScheduleState) → AreDrawn now one next → AreDrawn next two last → AreDrawn now (one ++ two) last
drawn_both [] two now next last first second = subst (λ (s : ScheduleState). AreDrawn s two last) (sym first) second
drawn_both (turn ∷ one) two now next last first second = (first.0, first.1, first.2, first.3, drawn_both one two (schedule_after now turn first.0) next last first.4 second)

-- ---- the next command of a box

-- what stands after a list is first after its length
first_behind : (xs ys : List Turn) (y : Turn) → slice_get (xs ++ y ∷ ys) (length xs) ≡ Some y
first_behind [] ys y = refl
first_behind (x ∷ xs) ys y = first_behind xs ys y

-- the command that comes next of a box is the next one of its batch
pub next_is : (batch turns : List Turn) (last : ScheduleState) (turn : Turn) → list_all is_ordered last.left ≡ true → commands_of turn.who turns ++ commands_of turn.who last.left ≡ commands_of turn.who batch
    → next_of turn.who last.left ≡ Some turn → next_command batch turns turn.who ≡ Some turn
next_is batch turns last turn all commands next =
    let test : (is_command turn.event && turn.who == turn.who) ≡ true = both_there (is_command turn.event) (turn.who == turn.who) (next_pass is_ordered turn.who last.left turn all next) (eq-eqb turn.who turn.who refl) in
    let rest : List Turn = commands_of turn.who (without_next turn.who last.left) in
    let left : turn ∷ rest ≡ commands_of turn.who last.left = ap (λ (b : Bool). cond b (turn ∷ []) [] ++ rest) (sym test) ∙ next_first last.left turn turn.who next in
    ap (λ (l : List Turn). slice_get l (length (commands_of turn.who turns))) (sym commands ∙ ap (λ (l : List Turn). commands_of turn.who turns ++ l) (sym left))
    ∙ first_behind (commands_of turn.who turns) rest turn

-- a drawn turn that ends a version is a command
pub ends_next : (last : ScheduleState) (turn : Turn) → IsTrue (ends_version last.world turn) → drawn_turn last ≡ Some turn → next_of turn.who last.left ≡ Some turn
ends_next last turn ends is = elim (drawn_listed last turn is) [
  | inl next ↦ next
  | inr other ↦ absurd (other_ends_none last.world last.shifts turn other.1 ends)
]
