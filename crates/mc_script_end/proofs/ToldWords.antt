-- Where programs go by words, and few words are told, no script stops at a restless box; nor where there are no programs.
use Rattle.std.proofs.Common.{◌≡◌, ◌==◌, ◌&&◌, ◌+◌, ◌≤◌, ◌<◌, cond, if◌then◌else◌, ℕ, Bool, true, false, List, [], ◌∷◌, None, inl, inr, count_by, refl, ap, sym, ◌∙◌, arith}
use Rattle.std.specs.List.{AllByRecursion}
use Rattle.std.proofs.lemmas.List.Elements.{recursion_from_All}
use Rattle.std.proofs.lemmas.List.Sums.{sum_by-cons}
use Rattle.mc_box.specs.BoxEvents.{is_command, is_enabled}
use Rattle.mc_box.specs.Boxes.{BoxState}
use Rattle.mc_box.specs.declared.event.Event.{Event}
use Rattle.mc_box.specs.declared.event.Event.TheVariants.{Take, Set, Media, Tell, Retry, Shift}
use Rattle.mc_box.specs.declared.event.Turn.{Turn}
use Rattle.mc_laws.proofs.NoPrograms.{still_none}
use Rattle.mc_laws.proofs.ShapesKept.{run_keeps_shape}
use Rattle.mc_laws.proofs.StepKeeps.{run_keeps_sound}
use Rattle.mc_laws.proofs.Words.{rest_awaits_words, run_keeps_words, shift_to_come, untold_to_come, words_bound_shifts}
use Rattle.mc_laws.specs.Words.{ShiftsByWords, still_to_come}
use Rattle.mc_model.specs.Settles.{commands_of, is_tell, is_tell_of}
use Rattle.mc_model.specs.Sound.{IsSound}
use Rattle.mc_model.specs.Unprogrammed.{HasNoPrograms}
use Rattle.mc_model.specs.Worlds.{WorldState, box_at}
use Rattle.mc_script.specs.declared.command.JournalLine.{JournalLine}
use Rattle.mc_script_end.specs.Journals.{IsStoppedJournal}
use Rattle.mc_grown_rest.specs.Rests.{RestsByWords, TellsFew}
use Rattle.mc_seq.specs.declared.stopping.SettleStop.TheVariants.{Restless}

-- ---- Tells

-- a turn counts, or doesn't
abbrev counted : ℕ → Turn → ℕ
counted who turn = if is_tell_of who turn then 1 else 0

-- one turn more
tells_cons : (who : ℕ) (turn : Turn) (turns : List Turn) → count_by (is_tell_of who) (turn ∷ turns) ≡ counted who turn + count_by (is_tell_of who) turns
tells_cons who turn turns = sum_by-cons (λ (t : Turn). cond (is_tell_of who t) 1 0) turn turns

-- a Tell is a command
tell_commands : (event : Event) → is_command event ≡ false → is_tell event ≡ false
tell_commands (Take local) is = refl
tell_commands (Set change) is = absurd cc
tell_commands (Media change) is = absurd cc
tell_commands (Tell word) is = absurd cc
tell_commands (Retry local) is = refl
tell_commands Shift is = refl

-- one that both tests pass
abbrev one_if : Bool → Bool → ℕ
one_if tells mine = if tells && mine then 1 else 0

of_other : (tells mine : Bool) → mine ≡ false → one_if tells mine ≡ 0
of_other true mine is = rw is refl
of_other false mine is = refl

of_none : (tells mine : Bool) → tells ≡ false → one_if tells mine ≡ 0
of_none tells mine is = rw is refl

kept_by : (command mine : Bool) (who : ℕ) (turn : Turn) (rest : List Turn) → is_command turn.event ≡ command → (turn.who == who) ≡ mine
    → count_by (is_tell_of who) (if command && mine then turn ∷ rest else rest) ≡ counted who turn + count_by (is_tell_of who) rest
kept_by true true who turn rest is same = tells_cons who turn rest
kept_by true false who turn rest is same =
    let none : counted who turn ≡ 0 = of_other (is_tell turn.event) (turn.who == who) same in omega arith
kept_by false mine who turn rest is same =
    let none : counted who turn ≡ 0 = of_none (is_tell turn.event) (turn.who == who) (tell_commands turn.event is) in omega arith

-- the commands of its box have the Tells of a box
pub commands_tell : (turns : List Turn) (who : ℕ) → count_by (is_tell_of who) (commands_of who turns) ≡ count_by (is_tell_of who) turns
commands_tell [] who = refl
commands_tell (turn ∷ turns) who =
    kept_by (is_command turn.event) (turn.who == who) who turn (commands_of who turns) refl refl
    ∙ (ap (λ (n : ℕ). counted who turn + n) (commands_tell turns who) ∙ sym (tells_cons who turn turns))

-- so turns that use a batch up have its Tells
pub same_tells : (who : ℕ) (batch turns : List Turn) → commands_of who turns ≡ commands_of who batch → count_by (is_tell_of who) turns ≡ count_by (is_tell_of who) batch
same_tells who batch turns same = sym (commands_tell turns who) ∙ (ap (count_by (is_tell_of who)) same ∙ commands_tell batch who)

-- ---- settle by settle

-- what holds at the beginning of each settle: programs go by words, and at most one Shift of each box is still to come
pub record StillByWords (world : WorldState) (batches : List (List Turn)) : Type 0 where
  pub by_words : ShiftsByWords world
  pub one_left : (who : ℕ) → still_to_come (box_at world who) ≤ 1
  pub few : AllByRecursion TellsFew batches

pub still_first : (world : WorldState) (batches : List (List Turn)) → RestsByWords world batches → StillByWords world batches
still_first world batches rests = record {
  by_words = rests.by_words;
  one_left = λ who. untold_to_come (box_at world who) (rests.untold who);
  few = recursion_from_All TellsFew batches rests.few;
}

-- so 256 Shifts are too many
too_many : (made after before tells told : ℕ) → made + after ≤ before + tells → made ≡ 256 → 1 ≤ after → before ≤ 1 → tells ≡ told → told < 256 → ⊥
too_many made after before tells told bound all one few same less = omega arith

by_words : (batches : List (List Turn)) (world : WorldState) (at : ℕ) (journal : List JournalLine) → IsSound world → IsStoppedJournal (Restless at) world batches journal → StillByWords world batches → ⊥
by_words [] world at journal sound stopped still = stopped
by_words (batch ∷ batches) world at journal sound (inl here) still =
    too_many _ _ _ _ _ (words_bound_shifts world here.last here.turns at sound (still.by_words at) here.stopped.runs) here.cause.1.made (shift_to_come (box_at here.last at) here.cause.1.first.can) (still.one_left at)
    (same_tells at batch here.turns (here.cause.0 at)) (still.few.0 at)
by_words (batch ∷ batches) world at journal sound (inr (turns, last, rest, is, settled, later)) still =
    by_words batches last at rest (run_keeps_sound world last turns sound settled.runs) later (record {
      by_words = run_keeps_words world last turns sound still.by_words settled.runs;
      one_left = λ who. let none = rest_awaits_words last who settled.at_rest in omega arith;
      few = still.few.1;
    })

-- a script whose programs go by words doesn't stop at a restless box
pub words_rest : (batches : List (List Turn)) (world : WorldState) (at : ℕ) (journal : List JournalLine) → IsSound world → IsStoppedJournal (Restless at) world batches journal → RestsByWords world batches → ⊥
words_rest batches world at journal sound stopped rests = by_words batches world at journal sound stopped (still_first world batches rests)

-- ---- no programs

pub no_shift : (box : BoxState) → box.program ≡ None → is_enabled box Shift ≡ true → ⊥
no_shift box none can = let not : is_enabled box Shift ≡ false = rw none refl in cc

-- nor does one without programs
pub none_restless : (batches : List (List Turn)) (world : WorldState) (at : ℕ) (journal : List JournalLine) → IsSound world → IsStoppedJournal (Restless at) world batches journal → HasNoPrograms world → ⊥
none_restless [] world at journal sound stopped unprogrammed = stopped
none_restless (batch ∷ batches) world at journal sound (inl here) unprogrammed =
    no_shift (box_at here.last at) (still_none here.last world (run_keeps_shape world here.last here.turns sound here.stopped.runs) unprogrammed at) here.cause.1.first.can
none_restless (batch ∷ batches) world at journal sound (inr (turns, last, rest, is, settled, later)) unprogrammed =
    none_restless batches last at rest (run_keeps_sound world last turns sound settled.runs) later (still_none last world (run_keeps_shape world last turns sound settled.runs) unprogrammed)
