-- The commands that a segment has made, and those that are left of its batch.
use Rattle.std.proofs.Common.{◌≡◌, ◌+◌, ◌++◌, ◌==◌, ◌&&◌, cond, if◌then◌else◌, ℕ, Bool, true, false, List, [], ◌∷◌, Option, Some, length, slice_get, append-nil, append_assoc, length-append, refl, ap, sym, ◌∙◌, arith}
use Rattle.std.specs.List.{list_all}
use Rattle.std.proofs.lemmas.Bool.{eq-eqb}
use Rattle.std.proofs.lemmas.List.Elements.{filter-append}
use Rattle.mc_box.specs.BoxEvents.{is_command}
use Rattle.mc_box.specs.declared.event.Turn.{Turn}
use Rattle.mc_laws.proofs.CommandsGo.{both_true}
use Rattle.mc_model.specs.Settles.{commands_of, next_command}
use Rattle.mc_seq.specs.Schedule.{left_by, next_of, without_next}
use Rattle.mc_seq.proofs.Nexts.{next_first}
use Rattle.mc_seq.proofs.Segments.{both_there}
use Rattle.mc_replay.specs.Follows.{AreCommands}

-- ---- the next one

-- of commands the first of a box is its next one
pub first_by : (own : Bool) (turn : Turn) (later : Option Turn) (rest : List Turn) → later ≡ slice_get rest 0 → cond own (Some turn) later ≡ slice_get (cond own (turn ∷ rest) rest) 0
first_by true turn later rest is = refl
first_by false turn later rest is = is

pub first_of_box : (left : List Turn) (who : ℕ) → AreCommands left → next_of who left ≡ slice_get (commands_of who left) 0
first_of_box [] who all = refl
first_of_box (turn ∷ left) who all =
    let both = both_true (is_command turn.event) (list_all (λ (t : Turn). is_command t.event) left) all in
    first_by (turn.who == who) turn (next_of who left) (commands_of who left) (first_of_box left who both.1)
    ∙ ap (λ (b : Bool). slice_get (cond (b && turn.who == who) (turn ∷ commands_of who left) (commands_of who left)) 0) (sym both.0)

-- the first one after others
pub at_seam : (xs ys : List Turn) → slice_get (xs ++ ys) (length xs) ≡ slice_get ys 0
at_seam [] ys = refl
at_seam (x ∷ xs) ys = at_seam xs ys

-- what is next of those that are left is next in the batch
pub next_same : (batch turns left : List Turn) (who : ℕ) → AreCommands left → commands_of who turns ++ commands_of who left ≡ commands_of who batch → next_command batch turns who ≡ next_of who left
next_same batch turns left who all commands =
    ap (λ (l : List Turn). slice_get l (length (commands_of who turns))) (sym commands) ∙ (at_seam (commands_of who turns) (commands_of who left) ∙ sym (first_of_box left who all))

-- ---- one more

pub moved_by : (b : Bool) (turn : Turn) (left : List Turn) (who : ℕ) → is_command turn.event ≡ b → (b ≡ true → next_of turn.who left ≡ Some turn)
    → commands_of who (turn ∷ []) ++ commands_of who (if b then without_next turn.who left else left) ≡ commands_of who left
moved_by true turn left who is next = next_first left turn who (next refl)
moved_by false turn left who is next = ap (λ (b : Bool). cond (b && turn.who == who) (turn ∷ []) [] ++ commands_of who left) is

-- a turn that is made, and is the next command of its box or none
pub commands_more : (batch turns left : List Turn) (turn : Turn) (who : ℕ) → (is_command turn.event ≡ true → next_of turn.who left ≡ Some turn) → commands_of who turns ++ commands_of who left ≡ commands_of who batch
    → commands_of who (turns ++ turn ∷ []) ++ commands_of who (left_by turn left) ≡ commands_of who batch
commands_more batch turns left turn who next commands =
    ap (λ (l : List Turn). l ++ commands_of who (left_by turn left)) (filter-append (λ (t : Turn). is_command t.event && t.who == who) turns (turn ∷ []))
    ∙ (append_assoc (commands_of who turns) (commands_of who (turn ∷ [])) (commands_of who (left_by turn left))
    ∙ (ap (λ (l : List Turn). commands_of who turns ++ l) (moved_by (is_command turn.event) turn left who refl next) ∙ commands))

-- ---- the batch is used up

pub used_up : (batch turns left : List Turn) (who : ℕ) → left ≡ [] → commands_of who turns ++ commands_of who left ≡ commands_of who batch → commands_of who turns ≡ commands_of who batch
used_up batch turns left who none commands =
    sym (append-nil (commands_of who turns)) ∙ (ap (λ (l : List Turn). commands_of who turns ++ commands_of who l) (sym none) ∙ commands)

-- and then nothing is left
pub left_none : (batch turns left : List Turn) → AreCommands left → ((who : ℕ) → commands_of who turns ++ commands_of who left ≡ commands_of who batch) → ((who : ℕ) → commands_of who turns ≡ commands_of who batch) → left ≡ []
left_none batch turns [] all commands used = refl
left_none batch turns (turn ∷ left) all commands used =
    let who : ℕ = turn.who in
    let both = both_true (is_command turn.event) (list_all (λ (t : Turn). is_command t.event) left) all in
    let own : (is_command turn.event && turn.who == who) ≡ true = both_there (is_command turn.event) (turn.who == who) both.0 (eq-eqb turn.who turn.who refl) in
    let first : commands_of who (turn ∷ left) ≡ turn ∷ commands_of who left = ap (λ (b : Bool). cond b (turn ∷ commands_of who left) (commands_of who left)) own in
    let same : commands_of who turns ++ (turn ∷ commands_of who left) ≡ commands_of who turns =
    ap (λ (l : List Turn). commands_of who turns ++ l) (sym first) ∙ (commands who ∙ sym (used who)) in
    let lengths : length (commands_of who turns) + length (turn ∷ commands_of who left) ≡ length (commands_of who turns) =
    sym (length-append (commands_of who turns) (turn ∷ commands_of who left)) ∙ ap length same in
    absurd (omega (arith, lengths))
