-- Where no box has a program, or where programs go by words and few words are told, no settle stops at a restless box.
use Rattle.std.proofs.Common.{◌≡◌, ◌==◌, ◌&&◌, ◌+◌, ◌≤◌, ◌<◌, cond, if◌then◌else◌, ℕ, Bool, true, false, List, [], ◌∷◌, None, count_by, refl, ap, sym, ◌∙◌, subst, arith}
use Rattle.std.specs.List.{AllByRecursion}
use Rattle.std.proofs.lemmas.List.Elements.{recursion_from_All}
use Rattle.std.proofs.lemmas.List.Sums.{sum_by-cons}
use Rattle.mc_box.specs.BoxEvents.{is_command, is_enabled}
use Rattle.mc_box.specs.Boxes.{BoxState, with_new_slot}
use Rattle.mc_box.specs.declared.event.Event.{Event}
use Rattle.mc_box.specs.declared.event.Event.TheVariants.{Take, Set, Media, Tell, Retry, Shift}
use Rattle.mc_box.specs.declared.event.Turn.{Turn}
use Rattle.mc_growth.specs.Growths.{Cut, GrownState, Growth, Join, grown_by, grown_by_all}
use Rattle.mc_growth.specs.Joins.{joined}
use Rattle.mc_growth.proofs.Joined.{GrowsTo, box_grows, grows, program_same, stays}
use Rattle.mc_laws.proofs.NoPrograms.{still_none}
use Rattle.mc_laws.proofs.ShapesKept.{run_keeps_shape}
use Rattle.mc_laws.proofs.Words.{rest_awaits_words, run_keeps_words, shift_to_come, untold_to_come, words_bound_shifts}
use Rattle.mc_laws.specs.Words.{GoesByWords, ShiftsByWords, still_to_come}
use Rattle.mc_model.specs.Settles.{commands_of, is_tell, is_tell_of}
use Rattle.mc_model.specs.Unprogrammed.{HasNoPrograms}
use Rattle.mc_model.specs.Worlds.{WorldState, box_at}
use Rattle.mc_rounds.specs.Stops.{StopsUnrested}
use Rattle.mc_stages.specs.Plans.{MayAskAll, batch_of, growths_of}
use Rattle.mc_stages.specs.declared.plan.StagePlan.{StagePlan}
use Rattle.mc_grown_rest.specs.Planned.{all_batches, grown_for}
use Rattle.mc_grown_rest.specs.Rests.{RestsByWords, TellsFew}
use Rattle.mc_grown_rest.proofs.Reaching.{IsReady, Keeps, sound_for}

-- ---- Tells

-- a turn counts, or doesn't
abbrev counted : ℕ → Turn → ℕ
counted who turn = if is_tell_of who turn then 1 else 0

-- one turn more
tells_cons : (who : ℕ) (turn : Turn) (turns : List Turn) → count_by (is_tell_of who) (turn ∷ turns) ≡ counted who turn + count_by (is_tell_of who) turns
tells_cons who turn turns = sum_by-cons (λ (t : Turn). cond (is_tell_of who t) 1 0) turn turns

-- a Tell is a command
tell_commands : (event : Event) → is_command event ≡ false → is_tell event ≡ false
tell_commands (Take local) is = refl
tell_commands (Set change) is = absurd cc
tell_commands (Media change) is = absurd cc
tell_commands (Tell word) is = absurd cc
tell_commands (Retry local) is = refl
tell_commands Shift is = refl

-- one that both tests pass
abbrev one_if : Bool → Bool → ℕ
one_if tells mine = if tells && mine then 1 else 0

of_other : (tells mine : Bool) → mine ≡ false → one_if tells mine ≡ 0
of_other true mine is = rw is refl
of_other false mine is = refl

of_none : (tells mine : Bool) → tells ≡ false → one_if tells mine ≡ 0
of_none tells mine is = rw is refl

kept_by : (command mine : Bool) (who : ℕ) (turn : Turn) (rest : List Turn) → is_command turn.event ≡ command → (turn.who == who) ≡ mine
    → count_by (is_tell_of who) (if command && mine then turn ∷ rest else rest) ≡ counted who turn + count_by (is_tell_of who) rest
kept_by true true who turn rest is same = tells_cons who turn rest
kept_by true false who turn rest is same =
    let none : counted who turn ≡ 0 = of_other (is_tell turn.event) (turn.who == who) same in omega arith
kept_by false mine who turn rest is same =
    let none : counted who turn ≡ 0 = of_none (is_tell turn.event) (turn.who == who) (tell_commands turn.event is) in omega arith

-- the commands of its box have the Tells of a box
commands_tell : (turns : List Turn) (who : ℕ) → count_by (is_tell_of who) (commands_of who turns) ≡ count_by (is_tell_of who) turns
commands_tell [] who = refl
commands_tell (turn ∷ turns) who =
    kept_by (is_command turn.event) (turn.who == who) who turn (commands_of who turns) refl refl
    ∙ (ap (λ (n : ℕ). counted who turn + n) (commands_tell turns who) ∙ sym (tells_cons who turn turns))

-- so turns that use a batch up have its Tells
same_tells : (who : ℕ) (batch turns : List Turn) → commands_of who turns ≡ commands_of who batch → count_by (is_tell_of who) turns ≡ count_by (is_tell_of who) batch
same_tells who batch turns same = sym (commands_tell turns who) ∙ (ap (count_by (is_tell_of who)) same ∙ commands_tell batch who)

-- ---- programs by words

-- programs go by words, and at most one Shift of each box is still to come
record IsByWords (world : WorldState) : Type 0 where
  by_words : ShiftsByWords world
  one_left : (who : ℕ) → still_to_come (box_at world who) ≤ 1

-- a box without a program makes none
none_left : (box : BoxState) → box.program ≡ None → still_to_come box ≤ 1
none_left box none = let none_comes : still_to_come box ≡ 0 = rw none refl in omega (arith, none_comes)

box_by_words : (old new : BoxState) → GrowsTo old new → GoesByWords old → still_to_come old ≤ 1 → GoesByWords new × (still_to_come new ≤ 1)
box_by_words old new (stays is) words left = subst (λ (b : BoxState). GoesByWords b × (still_to_come b ≤ 1)) (sym is) (words, left)
box_by_words old new (grows setup has is) words left =
    subst (λ (b : BoxState). GoesByWords b × (still_to_come b ≤ 1)) (sym is) (words, none_left (with_new_slot old setup) has.unprogrammed)

one_by_words : (growth : Growth) (network : GrownState) → MayAskAll network (growth ∷ []) → IsByWords network.world → IsByWords (grown_by network growth).world
one_by_words (Join medium from to) network may now = record {
  by_words = λ who.
      (box_by_words (box_at network.world who) (box_at (joined network.world medium from to) who) (box_grows network.world medium from to who may.0) (now.by_words who) (now.one_left who)).0;
  one_left = λ who.
      (box_by_words (box_at network.world who) (box_at (joined network.world medium from to) who) (box_grows network.world medium from to who may.0) (now.by_words who) (now.one_left who)).1;
}
one_by_words (Cut channel) network may now = now

all_by_words : (growths : List Growth) (network : GrownState) → MayAskAll network growths → IsByWords network.world → IsByWords (grown_by_all network growths).world
all_by_words [] network may now = now
all_by_words (growth ∷ growths) network may now = all_by_words growths (grown_by network growth) may.1 (one_by_words growth network (may.0, tt) now)

-- what holds before each stage
pub record StillByWords (network : GrownState) (plans : List StagePlan) : Type 0 where
  now : IsByWords network.world
  few : AllByRecursion TellsFew (all_batches plans)

pub still_first : (first : GrownState) (plans : List StagePlan) → RestsByWords first.world (all_batches plans) → StillByWords first plans
still_first first plans rests = record {
  now = record { by_words = rests.by_words; one_left = λ who. untold_to_come (box_at first.world who) (rests.untold who) };
  few = recursion_from_All TellsFew (all_batches plans) rests.few;
}

pub keeps_words : Keeps StillByWords
keeps_words network plan plans turns next ready settles still =
    let grown = all_by_words (growths_of plan) network ready.lawful.0 still.now in
    record {
      now = record {
        by_words = run_keeps_words (grown_for network plan).world next turns (sound_for network plan plans ready) grown.by_words settles.settled.runs;
        one_left = λ who. let none = rest_awaits_words next who settles.settled.at_rest in omega arith;
      };
      few = still.few.1;
    }

-- so 256 Shifts are too many
too_many : (made after before tells told : ℕ) → made + after ≤ before + tells → made ≡ 256 → 1 ≤ after → before ≤ 1 → tells ≡ told → told < 256 → ⊥
too_many made after before tells told bound all one few same less = omega arith

pub words_rest : (network : GrownState) (plan : StagePlan) (plans : List StagePlan) (turns : List Turn) (at : ℕ) → IsReady network (plan ∷ plans) → StillByWords network (plan ∷ plans)
    → StopsUnrested (grown_for network plan).world (batch_of plan) turns at → ⊥
words_rest network plan plans turns at ready still stops =
    let grown = all_by_words (growths_of plan) network ready.lawful.0 still.now in
    too_many _ _ _ _ _
    (words_bound_shifts (grown_for network plan).world stops.last turns at (sound_for network plan plans ready) (grown.by_words at) stops.stopped.runs) stops.restless.made
    (shift_to_come (box_at stops.last at) stops.restless.first.can) (grown.one_left at) (same_tells at (batch_of plan) turns (stops.used_up at)) (still.few.0 at)

-- ---- no programs

one_unprogrammed : (growth : Growth) (network : GrownState) → MayAskAll network (growth ∷ []) → HasNoPrograms network.world → HasNoPrograms (grown_by network growth).world
one_unprogrammed (Join medium from to) network may none = λ who.
    program_same (box_at network.world who) (box_at (joined network.world medium from to) who) (box_grows network.world medium from to who may.0) ∙ none who
one_unprogrammed (Cut channel) network may none = none

pub all_unprogrammed : (growths : List Growth) (network : GrownState) → MayAskAll network growths → HasNoPrograms network.world → HasNoPrograms (grown_by_all network growths).world
all_unprogrammed [] network may none = none
all_unprogrammed (growth ∷ growths) network may none = all_unprogrammed growths (grown_by network growth) may.1 (one_unprogrammed growth network (may.0, tt) none)

abbrev pub Unprogrammed : GrownState → List StagePlan → Type 0
Unprogrammed network plans = HasNoPrograms network.world

pub keeps_unprogrammed : Keeps Unprogrammed
keeps_unprogrammed network plan plans turns next ready settles none =
    still_none next (grown_for network plan).world (run_keeps_shape (grown_for network plan).world next turns (sound_for network plan plans ready) settles.settled.runs)
    (all_unprogrammed (growths_of plan) network ready.lawful.0 none)

no_shift : (box : BoxState) → box.program ≡ None → is_enabled box Shift ≡ true → ⊥
no_shift box none can = let not : is_enabled box Shift ≡ false = rw none refl in cc

pub none_restless : (network : GrownState) (plan : StagePlan) (plans : List StagePlan) (turns : List Turn) (at : ℕ) → IsReady network (plan ∷ plans) → Unprogrammed network (plan ∷ plans)
    → StopsUnrested (grown_for network plan).world (batch_of plan) turns at → ⊥
none_restless network plan plans turns at ready none stops =
    let grown = grown_for network plan in
    no_shift (box_at stops.last at)
    (still_none stops.last grown.world (run_keeps_shape grown.world stops.last turns (sound_for network plan plans ready) stops.stopped.runs) (all_unprogrammed (growths_of plan) network ready.lawful.0 none) at)
    stops.restless.first.can
