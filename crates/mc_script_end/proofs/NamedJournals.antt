-- The lines of a journal that settles a text can be printed.
use Rattle.std.proofs.Common.{◌≡◌, ℕ, ◌<◌, true, All, List, [], ◌∷◌, Option, Some, None, length, map, nat_lt, refl, sym, subst, arith}
use Rattle.std.proofs.lemmas.List.Elements.{All-append, All-cons, All-contains, All-head, All-nil, All-tail, All-weaker}
use Rattle.mc_box.proofs.Options.{if_some, map_some, then_some}
use Rattle.mc_box.specs.BoxEvents.{box_event, event_step, is_command, is_enabled}
use Rattle.mc_box.specs.Boxes.{box_owes, is_slot}
use Rattle.mc_box.specs.BoxShapes.{BoxShapeState}
use Rattle.mc_box.specs.declared.event.Event.{Event}
use Rattle.mc_box.specs.declared.event.Event.TheVariants.{Take, Set, Media, Tell, Retry, Shift}
use Rattle.mc_box.specs.declared.event.Turn.{Turn}
use Rattle.mc_journal.specs.Printed.{AllowsLine, AllowsTurn, IsNamedLine, IsNamedTurn}
use Rattle.mc_laws.proofs.Chains.{used_up_come}
use Rattle.mc_laws.proofs.CommandsGo.{both_true}
use Rattle.mc_laws.proofs.Numbers.{box_inside, number_is, slot_inside}
use Rattle.mc_laws.proofs.ShapesKept.{step_keeps_shape}
use Rattle.mc_laws.proofs.StepKeeps.{step_keeps_sound}
use Rattle.mc_laws.specs.Chains.{ComeFrom, ComesFrom, IsAmong}
use Rattle.mc_model.specs.Sound.{IsSound}
use Rattle.mc_model.specs.Steps.{after_making, run, step, step_by, take_at}
use Rattle.mc_model.specs.Worlds.{WorldState, box_at, number, place}
use Rattle.mc_net.proofs.MadeNets.{nets_are_named}
use Rattle.mc_net.specs.Nets.{DeclaresNet, IsSayable, IsWellNamed, NamesAll, batch_turns}
use Rattle.mc_lines.specs.declared.tail.Tail.{Tail}
use Rattle.mc_net.specs.declared.net.Net.{Net}
use Rattle.mc_script.specs.Printed.{IsNamedEvent, IsSlot}
use Rattle.mc_script.specs.declared.command.JournalLine.{JournalLine}
use Rattle.mc_script.specs.declared.command.JournalLine.TheVariants.{Turn as Made, Settled}
use Rattle.mc_text.specs.NameLists.{NameLists}
use Rattle.mc_replay.specs.Journals.{IsJournal, lines_for}
use Rattle.mc_script_end.specs.Journals.{IsJournalTo}
use Rattle.mc_seq.specs.declared.stopping.SettleStop.{SettleStop}
use Rattle.mc_script_end.proofs.Running.{after_settle, names_kept}

-- ---- one turn

-- a slot of a box of a world has a name
has_name : (names : NameLists) (world : WorldState) (who local : ℕ) → NamesAll names world → who < length world.boxes → local < length (box_at world who).slots → IsSlot names who local
has_name names world who local all below inside =
    (subst (λ (n : ℕ). who < n) (sym all.boxes) below, subst (λ (n : ℕ). local < n) (sym (all.slots who below)) inside)

-- a Take is of a slot that is there
take_named : (names : NameLists) (world next : WorldState) (who local : ℕ) → IsSound world → NamesAll names world → who < length world.boxes → step_by world who (Take local) ≡ Some next → IsSlot names who local
take_named names world next who local sound all below goes =
    let s = then_some (take_at world who local) (number world who local) next goes in
    let is = number_is world who local s.0 s.1 in
    let placed = sound.numbered.slots s.0 is.0 in
    let inside : local < length (box_at world who).slots =
    subst (λ (n : ℕ). n < length (box_at world who).slots) is.2 (subst (λ (n : ℕ). (place world s.0).1 < length (box_at world n).slots) is.1 placed) in
    has_name names world who local all below inside

-- and so is a Retry
retry_named : (names : NameLists) (world next : WorldState) (who local : ℕ) → NamesAll names world → who < length world.boxes → step_by world who (Retry local) ≡ Some next → IsSlot names who local
retry_named names world next who local all below goes =
    let box = box_at world who in
    let made = map_some (after_making world who) (box_event box (Retry local) None) next goes in
    let enabled = (if_some (is_enabled box (Retry local)) (event_step box (Retry local)) made.0 made.1).0 in
    has_name names world who local all below (slot_inside box local (both_true (is_slot box local) (box_owes box local) enabled).0)

module _ (names : NameLists) where
  by_event : (world next : WorldState) (who : ℕ) (event : Event) → IsSound world → NamesAll names world → who < length world.boxes → step_by world who event ≡ Some next → (is_command event ≡ true → IsNamedEvent names who event)
      → IsNamedTurn names who event
  by_event world next who (Take local) sound all below goes command = take_named names world next who local sound all below goes
  by_event world next who (Retry local) sound all below goes command = retry_named names world next who local all below goes
  by_event world next who Shift sound all below goes command = subst (λ (n : ℕ). who < n) (sym all.boxes) below
  by_event world next who (Set change) sound all below goes command = command refl
  by_event world next who (Media change) sound all below goes command = command refl
  by_event world next who (Tell word) sound all below goes command = command refl

  -- a step is a turn whose box, slots and word have names, if a command's have
  step_named : (world next : WorldState) (turn : Turn) → IsSound world → NamesAll names world → step world turn ≡ Some next → (is_command turn.event ≡ true → IsNamedEvent names turn.who turn.event)
      → IsNamedTurn names turn.who turn.event
  step_named world next turn sound all goes command =
      let one = if_some (nat_lt turn.who (length world.boxes)) (step_by world turn.who turn.event) next goes in
      by_event world next turn.who turn.event sound all (box_inside world turn.who one.0) one.1 command

-- ---- journals

-- the shape of a box allows what is a command
turn_allowed : (shape : List BoxShapeState) (who : ℕ) (event : Event) → (is_command event ≡ true → AllowsTurn shape who event) → AllowsTurn shape who event
turn_allowed shape who (Take local) command = tt
turn_allowed shape who (Retry local) command = tt
turn_allowed shape who Shift command = tt
turn_allowed shape who (Set change) command = command refl
turn_allowed shape who (Media change) command = command refl
turn_allowed shape who (Tell word) command = command refl

-- what is asked of a turn that a command makes
sayable_named : (names : NameLists) (shape : List BoxShapeState) (turn : Turn) → IsSayable names shape turn → IsNamedEvent names turn.who turn.event
sayable_named names shape turn said = said.0

by_allowed : (names : NameLists) (shape : List BoxShapeState) (who : ℕ) (event : Event) → is_command event ≡ true → IsSayable names shape (record { who = who; event = event }) → AllowsTurn shape who event
by_allowed names shape who (Set change) is said = said.1
by_allowed names shape who (Media change) is said = said.1
by_allowed names shape who (Tell word) is said = said.1
by_allowed names shape who (Take local) is said = absurd cc
by_allowed names shape who (Retry local) is said = absurd cc
by_allowed names shape who Shift is said = absurd cc

module _ (names : NameLists) (shape : List BoxShapeState) where
  -- the line can be printed, and is allowed where it is read
  abbrev pub IsReadable : JournalLine → Type 0
  IsReadable line = IsNamedLine names line × AllowsLine shape line

  -- a turn that is a command is one that was said
  abbrev pub IsSaid : Turn → Type 0
  IsSaid turn = is_command turn.event ≡ true → IsSayable names shape turn

  turns_readable : (turns : List Turn) (world last : WorldState) → IsSound world → NamesAll names world → run world turns ≡ Some last → All IsSaid turns → All IsReadable (map Made turns)
  turns_readable [] world last sound all goes said = All-nil IsReadable
  turns_readable (turn ∷ turns) world last sound all goes said =
      let one = then_some (λ (w : WorldState). run w turns) (step world turn) last goes in
      let here = All-head IsSaid turn turns said in
      let named : IsNamedTurn names turn.who turn.event = step_named names world one.0 turn sound all one.1 (λ is. sayable_named names shape turn (here is)) in
      let allowed : AllowsTurn shape turn.who turn.event = turn_allowed shape turn.who turn.event (λ is. by_allowed names shape turn.who turn.event is (here is)) in
      All-cons IsReadable (Made turn) (map Made turns) (named, allowed)
      (turns_readable turns one.0 last (step_keeps_sound world one.0 turn sound one.1) (names_kept names one.0 world (step_keeps_shape world one.0 turn sound one.1) all) one.2 (All-tail IsSaid turn turns said))

  -- what is among the batches was said
  among_said : (batches : List (List Turn)) (turn : Turn) → All (All IsSaid) batches → IsAmong batches turn → IsSaid turn
  among_said batches turn all (k, batch, inside, is, there) =
      All-contains IsSaid batch turn (All-contains (All IsSaid) batches batch all (k, inside, is)) there

  -- each line of a journal of batches whose commands were said can be
  pub said_readable : (batches : List (List Turn)) (world : WorldState) (journal : List JournalLine) → IsSound world → NamesAll names world → All (All IsSaid) batches → IsJournal world batches journal → All IsReadable journal
  said_readable [] world journal sound all said is = subst (λ (lines : List JournalLine). All IsReadable lines) (sym is) (All-nil IsReadable)
  said_readable (batch ∷ batches) world journal sound all said (turns, last, rest, is, settled, later) =
      let next = after_settle names world last batch turns sound all settled in
      let come : ComeFrom (batch ∷ batches) turns = used_up_come (batch ∷ batches) batch turns (0, omega arith, refl) settled.commands in
      let said_here : All IsSaid turns = All-weaker (ComesFrom (batch ∷ batches)) IsSaid (λ turn comes command. among_said (batch ∷ batches) turn said (comes command) command) turns come in
      let behind : All IsReadable rest = said_readable batches last rest next.sound next.named (All-tail (All IsSaid) batch batches said) later in
      let segment : All IsReadable (lines_for turns) =
      All-append IsReadable (map Made turns) (Settled ∷ []) (turns_readable turns world last sound all settled.runs said_here) (All-cons IsReadable Settled [] (tt, tt) (All-nil IsReadable)) in
      subst (λ (lines : List JournalLine). All IsReadable lines) (sym is) (All-append IsReadable (lines_for turns) rest segment behind)

  -- so can that of batches all of which were
  pub journal_readable : (batches : List (List Turn)) (world : WorldState) (journal : List JournalLine) → IsSound world → NamesAll names world → All (All (IsSayable names shape)) batches → IsJournal world batches journal → All IsReadable journal
  journal_readable batches world journal sound all said settles =
      said_readable batches world journal sound all
      (All-weaker (All (IsSayable names shape)) (All IsSaid) (λ batch every. All-weaker (IsSayable names shape) IsSaid (λ turn one command. one) batch every) batches said) settles

-- ---- texts

-- the lines of a journal of a text's network can be printed
journal_named : (tail : Tail) (text : List ℕ) (net : Net) (journal : List JournalLine) → DeclaresNet tail text net → IsSound net.world → IsJournal net.world (map batch_turns net.batches.items) journal → All (IsNamedLine net.names) journal
journal_named tail text net journal declares sound settled =
    let named : IsWellNamed net = nets_are_named tail text net declares in
    All-weaker (IsReadable net.names net.shape) (IsNamedLine net.names) (λ line readable. readable.0) journal
    (journal_readable net.names net.shape (map batch_turns net.batches.items) net.world journal sound named.world named.commands settled)

-- those of a script that came to its end
pub ran_named : (stop : Option SettleStop) (tail : Tail) (text : List ℕ) (net : Net) (journal : List JournalLine) → DeclaresNet tail text net → IsSound net.world → IsJournalTo stop net.world (map batch_turns net.batches.items) journal → stop ≡ None
    → All (IsNamedLine net.names) journal
ran_named stop tail text net journal declares sound ran none =
    journal_named tail text net journal declares sound (subst (λ (s : Option SettleStop). IsJournalTo s net.world (map batch_turns net.batches.items) journal) none ran)
