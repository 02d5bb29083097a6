-- A segment from its beginning on: what it keeps as a turn comes, and what it says of settling.
use Rattle.std.proofs.Common.{◌≡◌, ◌≢◌, ◌≤◌, ◌<◌, ◌+◌, ◌-◌, ◌++◌, ◌==◌, ◌&&◌, ◌||◌, if◌then◌else◌, not, ℕ, zero, suc, Bool, true, false, List, [], ◌∷◌, IsTrue, Option, Some, None, Result, Err, length, take, drop, nat_le, refl, ap, sym, ◌∙◌, subst, arith}
use Rattle.std.specs.List.{list_any}
use Rattle.std.specs.Option.{is_some}
use Rattle.std.proofs.Math.ListN.{get_or}
use Rattle.std.proofs.lemmas.Grind.{common_steps}
use Rattle.std.proofs.lemmas.List.{take-append-drop}
use Rattle.std.proofs.lemmas.List.Folds.{list_any_at}
use Rattle.std.proofs.lemmas.List.Sums.{sum_by-append}
use Rattle.mc_box.specs.BoxEvents.{is_command, is_retry}
use Rattle.mc_box.specs.declared.event.Turn.{Turn}
use Rattle.mc_laws.proofs.CommandsGo.{both_true}
use Rattle.mc_laws.proofs.Resting.{rests_quiet}
use Rattle.mc_laws.proofs.ShapesKept.{run_keeps_shape, step_keeps_shape}
use Rattle.mc_laws.proofs.StepKeeps.{run_keeps_sound}
use Rattle.mc_model.specs.Paths.{has_ring}
use Rattle.mc_model.specs.Settles.{IsSettled, commands_of, next_command, rests, takes_or_retries}
use Rattle.mc_model.specs.Shapes.{AreAllowed}
use Rattle.mc_model.specs.Sound.{IsSound}
use Rattle.mc_model.specs.Steps.{after, run, step}
use Rattle.mc_model.specs.Worlds.{ChannelState, WorldState, places_among, slot_count}
use Rattle.mc_path_laws.proofs.OwedSince.{owed_since_quiet}
use Rattle.mc_seq.specs.Commands.{AreKept, AreKeptFor, commands_left}
use Rattle.mc_seq.specs.Schedule.{left_by, next_of}
use Rattle.mc_seq.proofs.AllowedCommands.{left_pass}
use Rattle.mc_seq.proofs.Scheduled.{allowed_commands}
use Rattle.mc_seq.proofs.Segments.{both_there}
use Rattle.mc_replay.specs.Counts.{AreCounted, owed_count}
use Rattle.mc_replay.specs.Follows.{AreCommands, Follows, IsNext, MakesTurn, TellsNext, TellsSettled, TriedStep, is_last}
use Rattle.mc_replay.specs.Moments.{AreMoments, AreNumbered, CountsRetry, IsMoment, no_moment, retry_count, serves}
use Rattle.mc_replay.specs.declared.moments.QuietMoment.{QuietMoment}
use Rattle.mc_replay.specs.declared.retries.Retries.{Retries}
use Rattle.mc_replay.specs.declared.segment.Segment.{Segment}
use Rattle.mc_replay.specs.declared.segment.TurnFault.{TurnFault}
use Rattle.mc_replay.specs.declared.segment.TurnFault.TheVariants.{NoMemory, NotEnabled, NotNext}
use Rattle.mc_replay.specs.declared.counts.Counts.{Counts}
use Rattle.mc_replay.proofs.Commands.{commands_more, left_none, next_same, used_up}
use Rattle.mc_replay.proofs.MomentsKept.{AreMomentsBefore, is_moment, moment_now, moments_forgotten, moments_now, no_moments}
use Rattle.mc_replay.proofs.Prefixes.{after_is, moment_goes, run_more}
use Rattle.mc_replay.proofs.RetriesKept.{first_retries, retries_more}
use Rattle.mc_replay.proofs.Serving.{retried_serves, serves_retried}

-- ---- the present moment

pub none_by : (left : List Turn) → (length left == 0) ≡ true → left ≡ []
none_by [] is = refl
none_by (turn ∷ left) is = absurd (let none : length (turn ∷ left) ≡ 0 = grind (arith, common_steps) in omega (arith, none))

pub zero_by : (left : List Turn) → left ≡ [] → (length left == 0) ≡ true
zero_by left is = ap (λ (l : List Turn). length l == 0) is

-- it is kept exactly where the world rests and nothing is left
pub kept_now : (begins last : WorldState) (batch turns left : List Turn) (before : ℕ) (old new : List QuietMoment) (retries : Retries) (owed : ℕ) → run begins turns ≡ Some last → AreCommands left
    → ((who : ℕ) → commands_of who turns ++ commands_of who left ≡ commands_of who batch) → AreMomentsBefore begins batch turns before old → retries.made ≡ before + retry_count turns → owed ≡ owed_count last
    → new ≡ (if rests last && length left == 0 then old ++ record { retries = retries.made; owed = owed } ∷ [] else old) → AreMoments begins batch turns before new
kept_now begins last batch turns left before old new retries owed goes all commands moments made owed_is is =
    moments_now (rests last && length left == 0) begins last batch turns before old new (record { retries = retries.made; owed = owed }) goes moments made owed_is
    (λ now.
    let both = both_true (rests last) (length left == 0) now in
    is_moment begins last batch turns goes both.0 (λ who. used_up batch turns left who (none_by left both.1) (commands who)))
    (λ n end moment.
    let here = moment_now begins last batch turns n goes end moment in
    both_there (rests last) (length left == 0) here.0 (zero_by left (left_none batch turns left all commands here.1)))
    is

-- ---- the beginning

pub follows_begin : (world : WorldState) (batch : List Turn) (segment : Segment) (old : List QuietMoment) → segment.world ≡ world → IsSound world → AreAllowed world batch → AreKeptFor world segment.left → commands_left segment.left ≡ batch
    → AreCounted world segment.counts → AreNumbered (slot_count world) segment.retries → old ≡ []
    → segment.moments.items ≡ (if rests world && length (commands_left segment.left) == 0 then old ++ record { retries = segment.retries.made; owed = segment.counts.owed } ∷ [] else old)
    → Follows world batch [] segment
follows_begin world batch segment old same sound allowed kept left counted numbered empty is =
    let all : AreCommands (commands_left segment.left) = subst AreCommands (sym left) (allowed_commands batch world allowed) in
    record {
      runs = ap (λ (w : WorldState). Some w) (sym same);
      sound = sound;
      stands = record {
        kept = subst (λ (w : WorldState). AreKeptFor w segment.left) (sym same) kept;
        commands = all;
        counted = subst (λ (w : WorldState). AreCounted w segment.counts) (sym same) counted;
        numbered = subst (λ (w : WorldState). AreNumbered (slot_count w) segment.retries) (sym same) numbered;
      };
      commands = λ who. ap (commands_of who) left;
      before = segment.retries.made;
      retries = first_retries world segment.retries (slot_count world) numbered;
      moments = kept_now world world batch [] (commands_left segment.left) segment.retries.made old segment.moments.items segment.retries segment.counts.owed refl all (λ who. ap (commands_of who) left)
          (subst (AreMomentsBefore world batch [] segment.retries.made) (sym empty) (no_moments world batch segment.retries.made)) (omega arith) counted.owed is;
    }

-- ---- one turn more

pub slots_same : (one two : WorldState) → one.channels ≡ two.channels → slot_count one ≡ slot_count two
slots_same one two same = ap (λ (channels : List ChannelState). length (places_among channels)) same

pub follows_more : (begins : WorldState) (batch turns : List Turn) (turn : Turn) (old new : Segment) (forgotten : List QuietMoment) → Follows begins batch turns old → IsSound old.world → step old.world turn ≡ Some new.world → AreCounted new.world new.counts
    → AreKept new.left → length new.left.queues.items ≡ length old.left.queues.items → commands_left new.left ≡ left_by turn (commands_left old.left) → (is_command turn.event ≡ true → next_of turn.who (commands_left old.left) ≡ Some turn)
    → CountsRetry new.world old.retries new.retries turn.who turn.event → forgotten ≡ (if takes_or_retries turn.event then old.moments.items else [])
    → new.moments.items ≡ (if rests new.world && length (commands_left new.left) == 0 then forgotten ++ record { retries = new.retries.made; owed = new.counts.owed } ∷ [] else forgotten)
    → Follows begins batch (turns ++ turn ∷ []) new
follows_more begins batch turns turn old new forgotten follows sound_now goes counted kept boxes left next counts forgets is =
    let shape = run_keeps_shape begins old.world turns follows.sound follows.runs in
    let shape_next = step_keeps_shape old.world new.world turn sound_now goes in
    let channels = shape_next.channels ∙ shape.channels in
    let numbered_old : AreNumbered (slot_count begins) old.retries = subst (λ (n : ℕ). AreNumbered n old.retries) (slots_same old.world begins shape.channels) follows.stands.numbered in
    let retries = retries_more begins old.world new.world turns turn follows.before old.retries new.retries follows.sound sound_now shape.channels channels goes numbered_old counts follows.retries in
    let runs = run_more begins old.world new.world turns turn follows.runs goes in
    let all : AreCommands (commands_left new.left) = subst AreCommands (sym left) (left_pass (λ (t : Turn). is_command t.event) turn (commands_left old.left) follows.stands.commands) in
    let commands : (who : ℕ) → commands_of who (turns ++ turn ∷ []) ++ commands_of who (commands_left new.left) ≡ commands_of who batch = λ who.
    ap (λ (l : List Turn). commands_of who (turns ++ turn ∷ []) ++ commands_of who l) left ∙ commands_more batch turns (commands_left old.left) turn who next (follows.commands who) in
    record {
      runs = runs;
      sound = follows.sound;
      stands = record {
        kept = record { kept = kept; boxes = boxes ∙ (follows.stands.kept.boxes ∙ sym shape_next.boxes) };
        commands = all;
        counted = counted;
        numbered = subst (λ (n : ℕ). AreNumbered n new.retries) (sym (slots_same new.world begins channels)) retries.1;
      };
      commands = commands;
      before = follows.before;
      retries = retries.0;
      moments = kept_now begins new.world batch (turns ++ turn ∷ []) (commands_left new.left) follows.before forgotten new.moments.items new.retries new.counts.owed runs all commands
          (moments_forgotten begins batch turns turn follows.before old.moments.items forgotten follows.moments forgets) retries.0.made counted.owed is;
    }

-- a turn that is the next of those that are left is the next command
pub next_of_batch : (begins : WorldState) (batch turns : List Turn) (turn : Turn) (segment : Segment) → Follows begins batch turns segment → (is_command turn.event ≡ true → next_of turn.who (commands_left segment.left) ≡ Some turn) → IsNext batch turns turn
next_of_batch begins batch turns turn segment follows next command =
    next_same batch turns (commands_left segment.left) turn.who follows.stands.commands (follows.commands turn.who) ∙ next command

-- a command that isn't the next of those that are left isn't the next of the batch
pub not_next : (begins : WorldState) (batch turns : List Turn) (turn : Turn) (segment : Segment) → Follows begins batch turns segment → TellsNext (commands_left segment.left) turn false
    → IsTrue (is_command turn.event) × (next_command batch turns turn.who ≢ Some turn)
not_next begins batch turns turn segment follows tells =
    (tells.0, λ next. tells.1 (sym (next_same batch turns (commands_left segment.left) turn.who follows.stands.commands (follows.commands turn.who)) ∙ next))

-- a step that isn't made
pub tried_makes : (fault : TurnFault) (result : Result (Unit {0}) TurnFault) (begins world : WorldState) (batch turns : List Turn) (turn : Turn) (counts : Counts) (old new : Segment) → result ≡ Err fault → Follows begins batch turns old
    → TellsNext (commands_left old.left) turn true → TriedStep old.world world counts turn (Err fault) → MakesTurn begins batch turns turn result new
tried_makes NotNext result begins world batch turns turn counts old new is follows next tried = absurd tried
tried_makes NotEnabled result begins world batch turns turn counts old new is follows next tried =
    subst (λ (r : Result (Unit {0}) TurnFault). MakesTurn begins batch turns turn r new) (sym is)
    (next_of_batch begins batch turns turn old follows next, ap (λ (w : WorldState). step w turn) (after_is begins old.world turns follows.runs) ∙ tried)
tried_makes (NoMemory e) result begins world batch turns turn counts old new is follows next tried =
    subst (λ (r : Result (Unit {0}) TurnFault). MakesTurn begins batch turns turn r new) (sym is) tt

-- ---- settling

-- the first value passes, or a later one
pub any_by : (b : Bool) (p : QuietMoment → Bool) (x : QuietMoment) (xs : List QuietMoment) → p x ≡ b → (list_any p xs ≡ true → (i : ℕ) × (i < length xs) × (p (get_or xs i no_moment) ≡ true)) → list_any p (x ∷ xs) ≡ true
    → (i : ℕ) × (i < length (x ∷ xs)) × (p (get_or (x ∷ xs) i no_moment) ≡ true)
any_by true p x xs is later any = (zero, omega arith, is)
any_by false p x xs is later any =
    let rest = later (ap (λ (b : Bool). b || list_any p xs) (sym is) ∙ any) in
    (suc rest.0, omega (arith, rest.1), rest.2)

-- a value that passes, by its place
pub any_at : (p : QuietMoment → Bool) (xs : List QuietMoment) → list_any p xs ≡ true → (i : ℕ) × (i < length xs) × (p (get_or xs i no_moment) ≡ true)
any_at p [] any = absurd (cc)
any_at p (x ∷ xs) any = any_by (p x) p x xs refl (λ later. any_at p xs later) any

-- what a moment that serves says
pub serves_says : (moment : QuietMoment) (retries : Retries) → serves moment retries ≡ true → (retries.low ≤ moment.retries) × (retries.made - moment.retries ≡ moment.owed)
serves_says moment retries is = let both = both_true (nat_le retries.low moment.retries) (retries.made - moment.retries == moment.owed) is in (low_by retries.low moment.retries both.0, same_by (retries.made - moment.retries) moment.owed both.1)
  where
    low_by : (a b : ℕ) → nat_le a b ≡ true → a ≤ b
    low_by a b is = grind (arith, common_steps)

    same_by : (a b : ℕ) → (a == b) ≡ true → a ≡ b
    same_by a b is = grind (arith, common_steps)

pub says_serves : (moment : QuietMoment) (retries : Retries) → retries.low ≤ moment.retries → retries.made - moment.retries ≡ moment.owed → serves moment retries ≡ true
says_serves moment retries low same = both_there (nat_le retries.low moment.retries) (retries.made - moment.retries == moment.owed) (low_test retries.low moment.retries low) (same_test (retries.made - moment.retries) moment.owed same)
  where
    low_test : (a b : ℕ) → a ≤ b → nat_le a b ≡ true
    low_test a b is = grind (arith, common_steps)

    same_test : (a b : ℕ) → a ≡ b → (a == b) ≡ true
    same_test a b is = grind (arith, common_steps)

-- the retries up to a moment, and those after it
pub retries_parts : (turns : List Turn) (n : ℕ) → retry_count turns ≡ retry_count (take n turns) + retry_count (drop n turns)
retries_parts turns n = ap retry_count (sym (take-append-drop n turns)) ∙ sum_by-append (λ (t : Turn). if is_retry t.event then 1 else 0) (take n turns) (drop n turns)

pub settled_here : (begins : WorldState) (batch turns : List Turn) (segment : Segment) → Follows begins batch turns segment → is_last segment ≡ true → has_ring segment.world ≡ false → IsSettled begins batch turns segment.world
settled_here begins batch turns segment follows last no_ring =
    let one = both_true (length (commands_left segment.left) == 0) (rests segment.world && list_any (λ (moment : QuietMoment). serves moment segment.retries) segment.moments.items) last in
    let two = both_true (rests segment.world) (list_any (λ (moment : QuietMoment). serves moment segment.retries) segment.moments.items) one.1 in
    let found = any_at (λ (moment : QuietMoment). serves moment segment.retries) segment.moments.items two.1 in
    let moment : QuietMoment = get_or segment.moments.items found.0 no_moment in
    let says = serves_says moment segment.retries found.2 in
    let kept = follows.moments.each found.0 found.1 in
    let n : ℕ = kept.0 in
    let world : WorldState = after begins (take n turns) in
    let goes = moment_goes begins segment.world turns n follows.runs in
    let once = (follows.retries.low n kept.1.within).0 (omega (arith, says.0, kept.2.retries)) in
    let same : retry_count (drop n turns) ≡ owed_count world = omega (arith, says.1, kept.2.retries, kept.2.owed, follows.retries.made, retries_parts turns n) in
    let retried = serves_retried owed_since_quiet world segment.world (drop n turns) (run_keeps_sound begins world (take n turns) follows.sound goes.0) (rests_quiet world kept.1.at_rest) goes.1 kept.1.besides once same in
    record {
      runs = follows.runs;
      commands = λ who. used_up batch turns (commands_left segment.left) who (none_by (commands_left segment.left) one.0) (follows.commands who);
      at_rest = two.0;
      no_ring = no_ring;
      moment = n;
      last_rest = record { within = kept.1.within; at_rest = kept.1.at_rest; used_up = kept.1.used_up; retries = retried; besides = kept.1.besides };
    }

-- and only there
pub only_here : (begins other : WorldState) (batch turns : List Turn) (segment : Segment) → Follows begins batch turns segment → IsSettled begins batch turns other → (is_last segment ≡ true) × (has_ring segment.world ≡ false)
only_here begins other batch turns segment follows settled =
    let same : other ≡ segment.world = cc (settled.runs, follows.runs) in
    let none = left_none batch turns (commands_left segment.left) follows.stands.commands follows.commands settled.commands in
    let n : ℕ = settled.moment in
    let world : WorldState = after begins (take n turns) in
    let rest = settled.last_rest in
    let is : IsMoment begins batch turns n = record { within = rest.within; at_rest = rest.at_rest; used_up = rest.used_up; besides = rest.besides } in
    let kept = follows.moments.all n is in
    let moment : QuietMoment = get_or segment.moments.items kept.0 no_moment in
    let goes = moment_goes begins segment.world turns n follows.runs in
    let serving = retried_serves world segment.world (drop n turns) (run_keeps_sound begins world (take n turns) follows.sound goes.0) goes.1 rest.retries in
    let low : segment.retries.low ≤ moment.retries = let low_is = (follows.retries.low n rest.within).1 serving.0 in omega (arith, low_is, kept.2.retries) in
    let owed : segment.retries.made - moment.retries ≡ moment.owed = omega (arith, serving.1, kept.2.retries, kept.2.owed, follows.retries.made, retries_parts turns n) in
    let any : list_any (λ (m : QuietMoment). serves m segment.retries) segment.moments.items ≡ true =
    list_any_at (λ (m : QuietMoment). serves m segment.retries) segment.moments.items kept.0 no_moment kept.1 (says_serves moment segment.retries low owed) in (
      both_there (length (commands_left segment.left) == 0) (rests segment.world && list_any (λ (m : QuietMoment). serves m segment.retries) segment.moments.items) (zero_by (commands_left segment.left) none)
          (both_there (rests segment.world) (list_any (λ (m : QuietMoment). serves m segment.retries) segment.moments.items) (ap rests (sym same) ∙ settled.at_rest) any),
      ap has_ring (sym same) ∙ settled.no_ring,
    )

-- what is told of settling
pub tells_settled : (result : Bool) (begins : WorldState) (batch turns : List Turn) (segment : Segment) → (result ≡ true → (is_last segment ≡ true) × (has_ring segment.world ≡ false))
    → (result ≡ false → is_last segment ≡ true → has_ring segment.world ≡ false → ⊥) → Follows begins batch turns segment → TellsSettled begins batch turns segment.world result
tells_settled true begins batch turns segment forth back follows = let here = forth refl in settled_here begins batch turns segment follows here.0 here.1
tells_settled false begins batch turns segment forth back follows = λ other settled. let here = only_here begins other batch turns segment follows settled in back refl here.0 here.1

-- by the tests that are made
pub settled_by : (result : Bool) (ring : Option ℕ) (begins : WorldState) (batch turns : List Turn) (segment : Segment) (found : WorldState) → is_last segment ≡ true → found ≡ segment.world → has_ring found ≡ is_some ring → is_some ring ≡ not result → Follows begins batch turns segment
    → TellsSettled begins batch turns segment.world result
settled_by result None begins batch turns segment found last same has is follows =
    tells_settled result begins batch turns segment (λ yes. (last, sym (ap has_ring same) ∙ has)) (λ none. absurd (let never : false ≡ true = is ∙ ap not none in cc never)) follows
settled_by result (Some s) begins batch turns segment found last same has is follows =
    tells_settled result begins batch turns segment (λ yes. absurd (let never : true ≡ false = is ∙ ap not yes in cc never)) (λ none here ring. let there : has_ring segment.world ≡ true = sym (ap has_ring same) ∙ has in cc (ring, there)) follows

pub unsettled_by : (result : Bool) (begins : WorldState) (batch turns : List Turn) (segment : Segment) → result ≡ is_last segment → result ≡ false → Follows begins batch turns segment → TellsSettled begins batch turns segment.world result
unsettled_by result begins batch turns segment is unsettled follows =
    tells_settled result begins batch turns segment (λ yes. absurd (cc (unsettled, yes))) (λ none last ring. cc (is, unsettled, last)) follows

-- as many slots after a step as before
pub slots_after : (world next : WorldState) (turn : Turn) → IsSound world → step world turn ≡ Some next → slot_count next ≡ slot_count world
slots_after world next turn sound goes = slots_same next world (step_keeps_shape world next turn sound goes).channels
