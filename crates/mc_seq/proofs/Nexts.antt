-- The next command of a box among those that are left, and these without it.
use Rattle.std.proofs.Common.{◌≡◌, ◌+◌, ◌++◌, ◌==◌, ◌&&◌, cond, if◌then◌else◌, ℕ, Bool, true, false, List, [], ◌∷◌, length, Option, Some, refl, ap, ◌∙◌, arith}
use Rattle.std.proofs.lemmas.Grind.{common_steps}
use Rattle.mc_box.specs.declared.event.Turn.{Turn}
use Rattle.mc_box.specs.BoxEvents.{is_command}
use Rattle.mc_model.specs.Settles.{commands_of}
use Rattle.mc_seq.specs.Schedule.{next_of, without_next}

-- ---- by place

-- without a command of the box all stay
kept_by : (here : Bool) (t : Turn) (left less : List Turn) → here ≡ false → less ≡ left → (if here then left else t ∷ less) ≡ t ∷ left
kept_by true t left less is same = absurd (cc)
kept_by false t left less is same = ap (λ (turns : List Turn). t ∷ turns) same

-- ---- one less

-- one is fewer where the command is found
less_by : (here : Bool) (t x : Turn) (left less : List Turn) (later : Option Turn) → (later ≡ Some x → length less + 1 ≡ length left) → cond here (Some t) later ≡ Some x
    → length (if here then left else t ∷ less) + 1 ≡ length (t ∷ left)
less_by true t x left less later rest found = omega arith
less_by false t x left less later rest found = let one = rest found in omega arith

-- without its box's next command a batch is one shorter
pub without_less : (who : ℕ) (left : List Turn) (turn : Turn) → next_of who left ≡ Some turn → length (without_next who left) + 1 ≡ length left
without_less who [] turn found = absurd (cc)
without_less who (t ∷ left) turn found = less_by (t.who == who) t turn left (without_next who left) (next_of who left) (without_less who left turn) found

-- ---- by box

-- it comes first among the commands of its box, and those of other boxes stay
abbrev of_who : ℕ → Turn → Bool
of_who who turn = is_command turn.event && turn.who == who

-- a turn that passes stands first among those that pass
same_by : (b : Bool) (t : Turn) (rest : List Turn) → cond b (t ∷ []) [] ++ rest ≡ cond b (t ∷ rest) rest
same_by true t rest = refl
same_by false t rest = refl

-- a turn that is of another box stays where it is
pass_by : (one two : Bool) (t x : Turn) (less rest : List Turn) → (one ≡ true → two ≡ true → ⊥) → cond two (x ∷ []) [] ++ less ≡ rest → cond two (x ∷ []) [] ++ cond one (t ∷ less) less ≡ cond one (t ∷ rest) rest
pass_by true true t x less rest apart is = absurd (apart refl refl)
pass_by true false t x less rest apart is = ap (λ (turns : List Turn). t ∷ turns) is
pass_by false two t x less rest apart is = is

-- a turn isn't of two boxes
apart_tests : (w v who : ℕ) (x y : Bool) → (w == v) ≡ false → (x && w == who) ≡ true → (y && v == who) ≡ true → ⊥
apart_tests w v who x y other one two = grind (arith, common_steps)

-- one more turn stands before the others: it is the next command, or is passed
first_by : (here : Bool) (who : ℕ) (t x : Turn) (left less : List Turn) (later : Option Turn) → (t.who == x.who) ≡ here
    → (later ≡ Some x → commands_of who (x ∷ []) ++ commands_of who less ≡ commands_of who left) → cond here (Some t) later ≡ Some x
    → commands_of who (x ∷ []) ++ commands_of who (if here then left else t ∷ less) ≡ commands_of who (t ∷ left)
first_by true who t x left less later is rest found =
    let same : x ≡ t = cc in
    ap (λ (y : Turn). commands_of who (y ∷ []) ++ commands_of who left) same ∙ same_by (of_who who t) t (commands_of who left)
first_by false who t x left less later is rest found =
    pass_by (of_who who t) (of_who who x) t x (commands_of who less) (commands_of who left)
    (λ one two. apart_tests t.who x.who who (is_command t.event) (is_command x.event) is one two) (rest found)

-- so of each box the commands are that one, where it is its own, and then those that are left
pub next_first : (left : List Turn) (turn : Turn) (who : ℕ) → next_of turn.who left ≡ Some turn → commands_of who (turn ∷ []) ++ commands_of who (without_next turn.who left) ≡ commands_of who left
next_first [] turn who found = absurd (cc)
next_first (t ∷ left) turn who found =
    first_by (t.who == turn.who) who t turn left (without_next turn.who left) (next_of turn.who left) refl (next_first left turn who) found
