-- What is printed of a journal that settles a text is read again.
use Rattle.std.proofs.Common.{ℕ, All, map}
use Rattle.std.proofs.lemmas.List.Elements.{All-weaker}
use Rattle.mc_box.specs.declared.event.Change.TheVariants.{End as NewEnd}
use Rattle.mc_box.specs.declared.event.Event.{Event}
use Rattle.mc_box.specs.declared.event.Event.TheVariants.{Take, Set, Media, Tell, Retry, Shift}
use Rattle.mc_journal.proofs.Again.{journals_are_read}
use Rattle.mc_journal.specs.Printed.{AllowsLine, IsFoundLine, IsFoundTurn, IsNamedLine, IsNamedTurn}
use Rattle.mc_net.proofs.MadeNets.{nets_are_named}
use Rattle.mc_net.specs.Nets.{IsWellNamed, batch_turns}
use Rattle.mc_script.proofs.Read.{named_is_found}
use Rattle.mc_script.specs.Printed.{HaveNames, IsFoundEvent, IsFoundSlot, IsNamedEvent, IsSlot}
use Rattle.mc_script.specs.declared.command.Command.TheVariants.{Stimulus}
use Rattle.mc_script.specs.declared.command.JournalLine.{JournalLine}
use Rattle.mc_script.specs.declared.command.JournalLine.TheVariants.{Turn as Made, Settled}
use Rattle.mc_slot.specs.declared.Goal.TheVariants.{Hold as ToHold}
use Rattle.mc_text.proofs.Places.{found_again}
use Rattle.mc_text.specs.NameLists.{NameLists}
use Rattle.mc_top.specs.JournalLaws.{RunsAreReadBack}
use Rattle.mc_script_end.proofs.NamedJournals.{IsReadable, journal_readable}

module _ (names : NameLists) where
  -- what a command names is found by its name
  event_found : HaveNames names → (who : ℕ) (event : Event) → IsNamedEvent names who event → IsFoundEvent names who event
  event_found have who event is = named_is_found names (Stimulus (record { who = who; event = event })) have is

  -- and so is a slot, as that of a Set is
  slot_found : HaveNames names → (who local : ℕ) → IsSlot names who local → IsFoundSlot names who local
  slot_found have who local is = event_found have who (Set (NewEnd local ToHold)) is

  turn_is_found : HaveNames names → (who : ℕ) (event : Event) → IsNamedTurn names who event → IsFoundTurn names who event
  turn_is_found have who (Take local) is = slot_found have who local is
  turn_is_found have who (Retry local) is = slot_found have who local is
  turn_is_found have who Shift is = (have.of_boxes.spelt who is, found_again names.boxes who is have.of_boxes)
  turn_is_found have who (Set change) is = event_found have who (Set change) is
  turn_is_found have who (Media change) is = event_found have who (Media change) is
  turn_is_found have who (Tell word) is = event_found have who (Tell word) is

  line_is_found : HaveNames names → (line : JournalLine) → IsNamedLine names line → IsFoundLine names line
  line_is_found have (Made turn) is = turn_is_found have turn.who turn.event is
  line_is_found have Settled is = tt

-- ---- texts

-- the lines of a journal of a text are read again
pub runs_are_read_back : RunsAreReadBack
runs_are_read_back tail text net journal one =
    let named : IsWellNamed net = nets_are_named tail text net one.declares in
    let readable : All (IsReadable net.names net.shape) journal =
    journal_readable net.names net.shape (map batch_turns net.batches.items) net.world journal one.sound named.world named.commands one.settles in
    journals_are_read net.names net.shape journal
    (All-weaker (IsReadable net.names net.shape) (IsFoundLine net.names) (λ line both. line_is_found net.names named.names line both.0) journal readable)
    (All-weaker (IsReadable net.names net.shape) (AllowsLine net.shape) (λ line both. both.1) journal readable)
