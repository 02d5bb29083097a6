-- A segment whose batch is its own commands, as a turn comes.
use Rattle.std.proofs.Common.{◌≡◌, ◌≤◌, ◌++◌, ◌==◌, ◌&&◌, cond, if◌then◌else◌, ℕ, Bool, true, false, List, [], ◌∷◌, Some, Result, Err, length, append-nil, refl, ap, sym, ◌∙◌, subst, arith}
use Rattle.std.proofs.lemmas.List.Elements.{filter-append}
use Rattle.mc_box.specs.BoxEvents.{is_command}
use Rattle.mc_box.specs.declared.event.Event.{Event}
use Rattle.mc_box.specs.declared.event.Event.TheVariants.{Take, Set, Media, Tell, Retry, Shift}
use Rattle.mc_box.specs.declared.event.Turn.{Turn}
use Rattle.mc_laws.proofs.ShapesKept.{run_keeps_shape, step_keeps_shape}
use Rattle.mc_model.specs.Settles.{commands_of, rests, takes_or_retries}
use Rattle.mc_model.specs.Sound.{IsSound}
use Rattle.mc_model.specs.Steps.{step}
use Rattle.mc_model.specs.Worlds.{WorldState, slot_count}
use Rattle.mc_seq.specs.Commands.{commands_left}
use Rattle.mc_seq.specs.Schedule.{without_next}
use Rattle.mc_replay.specs.Counts.{AreCounted}
use Rattle.mc_replay.specs.Follows.{AreCommands, Follows, TriedStep}
use Rattle.mc_replay.specs.Moments.{AreNumbered, CountsRetry}
use Rattle.mc_replay.specs.declared.counts.Counts.{Counts}
use Rattle.mc_replay.specs.declared.moments.QuietMoment.{QuietMoment}
use Rattle.mc_replay.specs.declared.segment.Segment.{Segment}
use Rattle.mc_replay.specs.declared.segment.TurnFault.{TurnFault}
use Rattle.mc_replay.specs.declared.segment.TurnFault.TheVariants.{NoMemory, NotEnabled, NotNext}
use Rattle.mc_replay.proofs.Commands.{left_none}
use Rattle.mc_replay.proofs.Followed.{follows_more, kept_now, slots_same}
use Rattle.mc_replay.proofs.MomentsKept.{AreMomentsBefore, moment_was}
use Rattle.mc_replay.proofs.Prefixes.{after_is, longer, run_more}
use Rattle.mc_replay.proofs.RetriesKept.{retries_more}
use Rattle.mc_segments.specs.Ends.{commands_in}
use Rattle.mc_segments.specs.Following.{FollowsOwn, MakesOwn}

-- ---- its commands

commands_twice_by : (b : Bool) (turn : Turn) (rest : List Turn) (who : ℕ) → is_command turn.event ≡ b → commands_of who (commands_in rest) ≡ commands_of who rest
    → commands_of who (if b then turn ∷ commands_in rest else commands_in rest) ≡ commands_of who (turn ∷ rest)
commands_twice_by true turn rest who is same = ap (λ (l : List Turn). cond (is_command turn.event && turn.who == who) (turn ∷ l) l) same
commands_twice_by false turn rest who is same = same ∙ ap (λ (b : Bool). cond (b && turn.who == who) (turn ∷ commands_of who rest) (commands_of who rest)) (sym is)

-- the commands of a box among commands are those among all turns
pub commands_twice : (turns : List Turn) (who : ℕ) → commands_of who (commands_in turns) ≡ commands_of who turns
commands_twice [] who = refl
commands_twice (turn ∷ rest) who = commands_twice_by (is_command turn.event) turn rest who refl (commands_twice rest who)

-- nothing is left of its batch
own_left : (begins : WorldState) (turns : List Turn) (segment : Segment) → FollowsOwn begins turns segment → commands_left segment.left ≡ []
own_left begins turns segment follows =
    left_none (commands_in turns) turns (commands_left segment.left) follows.stands.commands follows.commands (λ who. sym (commands_twice turns who))

-- a turn that is no command adds none
commands_same : (turns : List Turn) (turn : Turn) → is_command turn.event ≡ false → commands_in (turns ++ turn ∷ []) ≡ commands_in turns
commands_same turns turn is =
    filter-append (λ (t : Turn). is_command t.event) turns (turn ∷ [])
    ∙ (ap (λ (b : Bool). commands_in turns ++ cond b (turn ∷ []) []) is ∙ append-nil (commands_in turns))

-- ---- its moments

-- a command is no Take and no retry
pub comes_before : (event : Event) → is_command event ≡ true → takes_or_retries event ≡ false
comes_before (Take local) is = absurd (cc)
comes_before (Set change) is = refl
comes_before (Media change) is = refl
comes_before (Tell word) is = refl
comes_before (Retry local) is = absurd (cc)
comes_before Shift is = refl

-- so after it no moment from before is one
none_before : (begins : WorldState) (batch turns : List Turn) (turn : Turn) (before : ℕ) (kept old : List QuietMoment) → is_command turn.event ≡ true → kept ≡ (if takes_or_retries turn.event then old else [])
    → AreMomentsBefore begins batch (turns ++ turn ∷ []) before kept
none_before begins batch turns turn before kept old is forgets =
    let other : takes_or_retries turn.event ≡ false = comes_before turn.event is in
    let empty : kept ≡ [] = forgets ∙ ap (λ (b : Bool). cond b old []) other in
    subst (AreMomentsBefore begins batch (turns ++ turn ∷ []) before) (sym empty) (record {
      each = λ i inside. absurd (omega (arith, inside));
      past = λ n below moment.
          let within : n ≤ length turns = omega (arith, below, longer turns turn) in
          absurd (let besides = (moment_was begins batch turns turn n within moment).1 in cc);
    })

-- ---- one turn more

-- what a turn makes of a segment
pub record Made (old new : Segment) (turn : Turn) (kept : List QuietMoment) : Type 0 where
  pub steps : step old.world turn ≡ Some new.world
  pub counted : AreCounted new.world new.counts
  pub left : new.left ≡ old.left
  pub counts : CountsRetry new.world old.retries new.retries turn.who turn.event
  pub forgets : kept ≡ (if takes_or_retries turn.event then old.moments.items else [])
  pub moments : new.moments.items ≡ (if rests new.world && length (commands_left new.left) == 0 then kept ++ record { retries = new.retries.made; owed = new.counts.owed } ∷ [] else kept)

-- no command
other_made : (begins : WorldState) (turns : List Turn) (turn : Turn) (old new : Segment) (kept : List QuietMoment) → is_command turn.event ≡ false → FollowsOwn begins turns old → IsSound old.world → Made old new turn kept → FollowsOwn begins (turns ++ turn ∷ []) new
other_made begins turns turn old new kept is follows sound made =
    subst (λ (batch : List Turn). Follows begins batch (turns ++ turn ∷ []) new) (sym (commands_same turns turn is))
    (follows_more begins (commands_in turns) turns turn old new kept follows sound made.steps made.counted
    (rw made.left follows.stands.kept.kept)
    (rw made.left refl)
    (rw made.left (ap (λ (b : Bool). cond b (without_next turn.who (commands_left old.left)) (commands_left old.left)) (sym is)))
    (λ command. absurd (cc (is, command)))
    made.counts made.forgets made.moments)

-- a command
command_made : (begins : WorldState) (turns : List Turn) (turn : Turn) (old new : Segment) (kept : List QuietMoment) → is_command turn.event ≡ true → FollowsOwn begins turns old → IsSound old.world → Made old new turn kept → FollowsOwn begins (turns ++ turn ∷ []) new
command_made begins turns turn old new kept is follows sound made =
    let shape = run_keeps_shape begins old.world turns follows.sound follows.runs in
    let shape_next = step_keeps_shape old.world new.world turn sound made.steps in
    let channels = shape_next.channels ∙ shape.channels in
    let numbered_old : AreNumbered (slot_count begins) old.retries = subst (λ (n : ℕ). AreNumbered n old.retries) (slots_same old.world begins shape.channels) follows.stands.numbered in
    let retries = retries_more begins old.world new.world turns turn follows.before old.retries new.retries follows.sound sound shape.channels channels made.steps numbered_old made.counts follows.retries in
    let runs = run_more begins old.world new.world turns turn follows.runs made.steps in
    let none : commands_left new.left ≡ [] = ap commands_left made.left ∙ own_left begins turns old follows in
    let all = turns ++ turn ∷ [] in
    let commands : (who : ℕ) → commands_of who all ++ commands_of who (commands_left new.left) ≡ commands_of who (commands_in all) = λ who.
    ap (λ (l : List Turn). commands_of who all ++ commands_of who l) none ∙ (append-nil (commands_of who all) ∙ sym (commands_twice all who)) in
    let commands_all = subst AreCommands (ap commands_left (sym made.left)) follows.stands.commands in
    record {
      runs = runs;
      sound = follows.sound;
      stands = record {
        kept = record { kept = rw made.left follows.stands.kept.kept; boxes = rw made.left (follows.stands.kept.boxes ∙ sym shape_next.boxes) };
        commands = commands_all;
        counted = made.counted;
        numbered = subst (λ (n : ℕ). AreNumbered n new.retries) (sym (slots_same new.world begins channels)) retries.1;
      };
      commands = commands;
      before = follows.before;
      retries = retries.0;
      moments = kept_now begins new.world (commands_in all) all (commands_left new.left) follows.before kept new.moments.items new.retries new.counts.owed runs commands_all commands
          (none_before begins (commands_in all) turns turn follows.before kept old.moments.items is made.forgets) retries.0.made made.counted.owed made.moments;
    }

made_by : (b : Bool) (begins : WorldState) (turns : List Turn) (turn : Turn) (old new : Segment) (kept : List QuietMoment) → is_command turn.event ≡ b → FollowsOwn begins turns old → IsSound old.world → Made old new turn kept → FollowsOwn begins (turns ++ turn ∷ []) new
made_by true begins turns turn old new kept is follows sound made = command_made begins turns turn old new kept is follows sound made
made_by false begins turns turn old new kept is follows sound made = other_made begins turns turn old new kept is follows sound made

pub own_made : (begins : WorldState) (turns : List Turn) (turn : Turn) (old new : Segment) (kept : List QuietMoment) → FollowsOwn begins turns old → IsSound old.world → Made old new turn kept → FollowsOwn begins (turns ++ turn ∷ []) new
own_made begins turns turn old new kept follows sound made = made_by (is_command turn.event) begins turns turn old new kept refl follows sound made

-- a step that isn't made
pub own_tried : (fault : TurnFault) (result : Result (Unit {0}) TurnFault) (begins world : WorldState) (turns : List Turn) (turn : Turn) (counts : Counts) (old new : Segment) → result ≡ Err fault → FollowsOwn begins turns old
    → TriedStep old.world world counts turn (Err fault) → MakesOwn begins turns turn result new
own_tried NotNext result begins world turns turn counts old new is follows tried = absurd tried
own_tried NotEnabled result begins world turns turn counts old new is follows tried =
    subst (λ (r : Result (Unit {0}) TurnFault). MakesOwn begins turns turn r new) (sym is) (ap (λ (w : WorldState). step w turn) (after_is begins old.world turns follows.runs) ∙ tried)
own_tried (NoMemory e) result begins world turns turn counts old new is follows tried =
    subst (λ (r : Result (Unit {0}) TurnFault). MakesOwn begins turns turn r new) (sym is) tt
