-- The lines of the journal of a live run can be printed; and the batches of a text are short enough to be asked for.
use Rattle.std.proofs.Common.{◌≡◌, ◌<◌, ◌≤◌, ◌+◌, ℕ, All, List, [], ◌∷◌, Option, None, arith, length, map, subst, sym}
use Rattle.std.specs.List.{AllByRecursion}
use Rattle.std.proofs.lemmas.List.Elements.{All-from_recursion, All-weaker}
use Rattle.mc_box.specs.declared.event.Turn.{Turn}
use Rattle.mc_desk.specs.declared.limit.TheConstants.{REQUEST_LIMIT}
use Rattle.mc_journal.specs.Printed.{IsNamedLine}
use Rattle.mc_lines.specs.declared.tail.Tail.TheVariants.{Nothing}
use Rattle.mc_livetop.proofs.Orders.{orders_hold}
use Rattle.mc_livetop.specs.Journals.{IsLiveJournal, IsLiveJournalTo}
use Rattle.mc_model.specs.Sound.{IsSound}
use Rattle.mc_net.proofs.MadeNets.{nets_are_named}
use Rattle.mc_net.proofs.Runnable.{says_runnable}
use Rattle.mc_net.specs.Nets.{DeclaresNet, IsSayable, batch_turns, batches_of, before_next}
use Rattle.mc_net.specs.declared.net.Net.{Net}
use Rattle.mc_script.specs.declared.command.Command.{Command}
use Rattle.mc_script.specs.declared.command.Command.TheVariants.{Stimulus, Settle}
use Rattle.mc_script.specs.declared.command.JournalLine.{JournalLine}
use Rattle.mc_script_end.proofs.NamedJournals.{IsReadable, IsSaid, said_readable}
use Rattle.mc_seq.specs.declared.stopping.SettleStop.{SettleStop}

-- ---- journals

journal_named : (operators : ℕ) (text : List ℕ) (net : Net) (journal : List JournalLine) → DeclaresNet Nothing text net → IsSound net.world → IsLiveJournal operators net.world (map batch_turns net.batches.items) journal
    → All (IsNamedLine net.names) journal
journal_named operators text net journal declares sound ran =
    let named = nets_are_named Nothing text net declares in
    let said = All-weaker (All (IsSayable net.names net.shape)) (All (IsSaid net.names net.shape)) (λ batch every. All-weaker (IsSayable net.names net.shape) (IsSaid net.names net.shape) (λ turn one command. one) batch every) (map batch_turns net.batches.items) named.commands in
    All-weaker (IsReadable net.names net.shape) (IsNamedLine net.names) (λ line readable. readable.0) journal
    (said_readable net.names net.shape ran.orders net.world journal sound named.world (orders_hold (IsSayable net.names net.shape) operators (map batch_turns net.batches.items) ran.orders ran.are said) ran.settled)

-- those of a script that came to its end
pub live_named : (stop : Option SettleStop) (operators : ℕ) (text : List ℕ) (net : Net) (journal : List JournalLine) → DeclaresNet Nothing text net → IsSound net.world
    → IsLiveJournalTo operators stop net.world (map batch_turns net.batches.items) journal → stop ≡ None → All (IsNamedLine net.names) journal
live_named stop operators text net journal declares sound ran none =
    journal_named operators text net journal declares sound (subst (λ (s : Option SettleStop). IsLiveJournalTo operators s net.world (map batch_turns net.batches.items) journal) none ran)

-- ---- how long batches are

-- at most so many turns
abbrev IsWithin : ℕ → List Turn → Type 0
IsWithin most batch = length batch ≤ most

within_more : (most : ℕ) (batches : List (List Turn)) → AllByRecursion (IsWithin most) batches → AllByRecursion (IsWithin (most + 1)) batches
within_more most [] all = tt
within_more most (batch ∷ batches) all = let here = all.0 in (omega (arith, here), within_more most batches all.1)

one_more : (most : ℕ) (turn : Turn) (batches : List (List Turn)) → AllByRecursion (IsWithin most) batches → AllByRecursion (IsWithin (most + 1)) (before_next turn batches)
one_more most turn [] all = tt
one_more most turn (batch ∷ batches) all = let here = all.0 in (omega (arith, here), within_more most batches all.1)

-- than there are commands
batches_within : (commands : List Command) → AllByRecursion (IsWithin (length commands)) (batches_of commands)
batches_within [] = tt
batches_within (Stimulus turn ∷ commands) =
    let long : length commands + 1 ≡ length (Stimulus turn ∷ commands) = omega arith in
    subst (λ (n : ℕ). AllByRecursion (IsWithin n) (batches_of (Stimulus turn ∷ commands))) long (one_more (length commands) turn (batches_of commands) (batches_within commands))
batches_within (Settle ∷ commands) =
    let long : length commands + 1 ≡ length (Settle ∷ commands) = omega arith in
    subst (λ (n : ℕ). AllByRecursion (IsWithin n) (batches_of (Settle ∷ commands))) long (omega arith, within_more (length commands) (batches_of commands) (batches_within commands))

-- so the commands of a batch of a text may be asked for
pub batches_short : (text : List ℕ) (net : Net) → DeclaresNet Nothing text net → All (λ batch. length batch < REQUEST_LIMIT) (map batch_turns net.batches.items)
batches_short text net declares =
    let few = (says_runnable Nothing text declares.declared declares.says).few in
    subst (λ (batches : List (List Turn)). All (λ batch. length batch < REQUEST_LIMIT) batches) (sym declares.batches)
    (All-weaker (IsWithin (length declares.declared.commands)) (λ batch. length batch < REQUEST_LIMIT) (λ batch short. omega (arith, few, short)) (batches_of declares.declared.commands)
    (All-from_recursion (IsWithin (length declares.declared.commands)) (batches_of declares.declared.commands) (batches_within declares.declared.commands)))
