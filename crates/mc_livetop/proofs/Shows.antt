-- What a stop shows of a script that is run live.
use Rattle.std.proofs.Common.{◌≡◌, ◌<◌, ◌≤◌, ◌+◌, inl, inr, ℕ, All, List, [], ◌∷◌, arith, Contains, count_by, refl, subst, sym, ap, ◌∙◌}
use Rattle.std.specs.List.{AllByRecursion}
use Rattle.std.proofs.lemmas.List.Elements.{All-cons, All-contains, All-contains_itself, All-nil, All-weaker, recursion_from_All}
use Rattle.mc_box.specs.declared.event.Turn.{Turn}
use Rattle.mc_laws.proofs.Chains.{first_named, named_links_close_none, run_keeps_named, used_up_come}
use Rattle.mc_laws.proofs.HearCounts.{commands_hear, settles_count_hears}
use Rattle.mc_laws.proofs.LastMet.{last_is_passed}
use Rattle.mc_laws.proofs.NoPrograms.{still_none}
use Rattle.mc_laws.proofs.RunVersions.{versions_count_hears}
use Rattle.mc_laws.proofs.ShapesKept.{run_keeps_shape}
use Rattle.mc_laws.proofs.StepKeeps.{run_keeps_sound}
use Rattle.mc_laws.proofs.Words.{rest_awaits_words, run_keeps_words, shift_to_come, words_bound_shifts}
use Rattle.mc_laws.specs.Chains.{ClosesNoChain, ComeFrom, ComesFrom, IsAmong, LinksAreNamed}
use Rattle.mc_laws.specs.Versions.{PassesLast}
use Rattle.mc_live_settle.proofs.BehindLeft.{settles_what_is_used, stops_live_in_order}
use Rattle.mc_live_settle.proofs.Dealt.{one_hand_keeps_order, orders_have_the_same}
use Rattle.mc_live_settle.specs.Orders.{IsOrderOf}
use Rattle.mc_live_settle.specs.Settles.{SettlesLive}
use Rattle.mc_livetop.proofs.Orders.{order_holds}
use Rattle.mc_livetop.specs.Journals.{IsStoppedLive}
use Rattle.mc_livetop.specs.Laws.{LiveStopsShowCause, OneOperatorSettlesBatches}
use Rattle.mc_model.specs.Settles.{IsSettled, hears_in, hears_of, is_hear_of, is_shift_of, is_tell_of}
use Rattle.mc_model.specs.Sound.{IsSound}
use Rattle.mc_model.specs.Unprogrammed.{HasNoPrograms}
use Rattle.mc_model.specs.Worlds.{WorldState, box_at}
use Rattle.mc_rounds.proofs.Plays.{count_both}
use Rattle.mc_script.specs.declared.command.JournalLine.{JournalLine}
use Rattle.mc_script_end.proofs.LastVersions.{hears_more}
use Rattle.mc_script_end.proofs.ToldWords.{StillByWords, commands_tell, no_shift, same_tells, still_first}
use Rattle.mc_seq.specs.declared.stopping.SettleStop.TheVariants.{Restless, Ring, VersionEnd}
use Rattle.mc_settings.proofs.BatchesLeft.{no_ring_is_met, no_ring_stays}
use Rattle.mc_settings.specs.Batches.{LeavesNoRing, UseUp}

-- ---- one operator

-- it keeps the order of the batch, so what settles its order settles the batch
settles_batch : (world last : WorldState) (batch turns : List Turn) → SettlesLive 1 world batch turns last → IsSettled world batch turns last
settles_batch world last batch turns s = settles_what_is_used world last batch s.order turns (one_hand_keeps_order batch s.order s.is_order) s.settled

pub one_settles : OneOperatorSettlesBatches
one_settles world [] [] journal are is = is
one_settles world [] (order ∷ orders) journal are is = absurd are
one_settles world (batch ∷ batches) [] journal are is = absurd are
one_settles world (batch ∷ batches) (order ∷ orders) journal are (turns, last, rest, lines, settled, later) =
    (turns, last, rest, lines, settles_what_is_used world last batch order turns (one_hand_keeps_order batch order are.0) settled, one_settles last batches orders rest are.1 later)

-- ---- the last version

-- an order has the Hears of its batch
same_hears : (operators who local : ℕ) (batch order : List Turn) → 0 < operators → IsOrderOf operators batch order → hears_of who local order ≡ hears_of who local batch
same_hears operators who local batch order some is =
    sym (commands_hear order who local) ∙ (orders_have_the_same operators batch order some is (is_hear_of who local) who ∙ commands_hear batch who local)

passes_live : (operators : ℕ) (batches : List (List Turn)) (world : WorldState) (at : ℕ) (journal : List JournalLine) → 0 < operators → IsSound world → IsStoppedLive operators (VersionEnd at) world batches journal
    → PassesLast world (λ who local. hears_in who local batches)
passes_live operators [] world at journal some sound stopped = absurd stopped
passes_live operators (batch ∷ batches) world at journal some sound (inl here) =
    let s = stops_live_in_order operators world batch here.turns (VersionEnd at) here.stopped in
    let one = last_is_passed world s.last s.order here.turns at sound s.stopped s.cause in
    record {
      who = one.who;
      local = one.local;
      here = one.here;
      inside = one.inside;
      passes =
          let passes = one.passes in
          let all = hears_more one.who one.local batch batches in
          let same = same_hears operators one.who one.local batch s.order some s.is_order in
          omega arith;
    }
passes_live operators (batch ∷ batches) world at journal some sound (inr (turns, last, rest, is, s, later)) =
    let runs = s.settled.runs in
    let one = passes_live operators batches last at rest some (run_keeps_sound world last turns sound runs) later in
    let shape = run_keeps_shape world last turns sound runs in
    record {
      who = one.who;
      local = one.local;
      here = subst (λ (n : ℕ). one.who < n) shape.boxes one.here;
      inside = subst (λ (n : ℕ). one.local < n) (shape.alike one.who).slots one.inside;
      passes =
          let passes = one.passes in
          let all = hears_more one.who one.local batch batches in
          let grown = versions_count_hears world last turns sound runs one.who one.local in
          let made = settles_count_hears world last s.order turns s.settled one.who one.local in
          let same = same_hears operators one.who one.local batch s.order some s.is_order in
          omega arith;
    }

-- ---- rings

-- where one operator asks, at the goals that a batch leaves
leaves_live : (batches : List (List Turn)) (world : WorldState) (at : ℕ) (journal : List JournalLine) → IsSound world → HasNoPrograms world → IsStoppedLive 1 (Ring at) world batches journal → LeavesNoRing world batches → ⊥
leaves_live [] world at journal sound unprogrammed stopped none = stopped
leaves_live (batch ∷ batches) world at journal sound unprogrammed (inl here) none =
    let s = stops_live_in_order 1 world batch here.turns (Ring at) here.stopped in
    let met =
    no_ring_is_met world s.last batch here.turns batches sound unprogrammed none
    (record { runs = s.stopped.runs; commands = λ who. s.cause.0 who ∙ one_hand_keeps_order batch s.order s.is_order who }) in
    met.1 at s.cause.1.inside s.cause.1.on
leaves_live (batch ∷ batches) world at journal sound unprogrammed (inr (turns, last, rest, is, s, later)) none =
    let settled = settles_batch world last batch turns s in
    leaves_live batches last at rest (run_keeps_sound world last turns sound settled.runs) (still_none last world (run_keeps_shape world last turns sound settled.runs) unprogrammed) later
    (no_ring_stays world last batch turns batches sound unprogrammed none settled)

leaves_for : (operators : ℕ) (batches : List (List Turn)) (world : WorldState) (at : ℕ) (journal : List JournalLine) → operators ≡ 1 → IsSound world → IsStoppedLive operators (Ring at) world batches journal
    → HasNoPrograms world → LeavesNoRing world batches → ⊥
leaves_for operators batches world at journal one sound stopped unprogrammed none =
    leaves_live batches world at journal sound unprogrammed (subst (λ (n : ℕ). IsStoppedLive n (Ring at) world batches journal) one stopped) none

-- turns that use up an order of a batch come from the batches
come_live : (operators : ℕ) (all : List (List Turn)) (batch order turns : List Turn) → Contains all batch → IsOrderOf operators batch order → UseUp order turns → ComeFrom all turns
come_live operators all batch order turns among is used =
    let of_batch : All (ComesFrom all) batch = λ k d inside command. (among.0, batch, among.1, among.2, All-contains_itself batch k d inside) in
    let of_order : All (ComesFrom all) order = order_holds (IsAmong all) operators batch order is of_batch in
    let of_one : All (All (ComesFrom all)) (order ∷ []) = All-cons (All (ComesFrom all)) order [] of_order (All-nil (All (ComesFrom all))) in
    All-weaker (ComesFrom (order ∷ [])) (ComesFrom all) (λ turn comes command. by of_one turn (comes command) command) turns (used_up_come (order ∷ []) order turns (0, omega arith, refl) used)
  where
    by : All (All (ComesFrom all)) (order ∷ []) → (turn : Turn) → IsAmong (order ∷ []) turn → ComesFrom all turn
    by of_one turn (k, list, inside, is, there) = All-contains (ComesFrom all) list turn (All-contains (All (ComesFrom all)) (order ∷ []) list of_one (k, inside, is)) there

-- in the first of the batches that are left, or in a later one
closes_by : (operators : ℕ) (all batches : List (List Turn)) (start world : WorldState) (at : ℕ) (journal : List JournalLine) → IsSound world → LinksAreNamed start all world → AllByRecursion (Contains all) batches
    → ClosesNoChain start all → IsStoppedLive operators (Ring at) world batches journal → ⊥
closes_by operators all [] start world at journal sound named among closes stopped = stopped
closes_by operators all (batch ∷ batches) start world at journal sound named among closes (inl here) =
    let s = stops_live_in_order operators world batch here.turns (Ring at) here.stopped in
    let come = come_live operators all batch s.order here.turns among.0 s.is_order s.cause.0 in
    let later = run_keeps_named start world s.last all here.turns sound named come s.stopped.runs in
    (named_links_close_none start s.last all (run_keeps_sound world s.last here.turns sound s.stopped.runs) later closes).1 at s.cause.1
closes_by operators all (batch ∷ batches) start world at journal sound named among closes (inr (turns, last, rest, is, s, later)) =
    let come = come_live operators all batch s.order turns among.0 s.is_order s.settled.commands in
    closes_by operators all batches start last at rest (run_keeps_sound world last turns sound s.settled.runs) (run_keeps_named start world last all turns sound named come s.settled.runs) among.1 closes later

-- links that close no chain leave no ring
closes_live : (operators : ℕ) (batches : List (List Turn)) (world : WorldState) (at : ℕ) (journal : List JournalLine) → IsSound world → IsStoppedLive operators (Ring at) world batches journal → ClosesNoChain world batches → ⊥
closes_live operators batches world at journal sound stopped closes =
    closes_by operators batches batches world world at journal sound (first_named world batches) (recursion_from_All (Contains batches) batches (All-contains_itself batches)) closes stopped

-- ---- boxes that don't rest

-- none has a program
none_live : (operators : ℕ) (batches : List (List Turn)) (world : WorldState) (at : ℕ) (journal : List JournalLine) → IsSound world → IsStoppedLive operators (Restless at) world batches journal → HasNoPrograms world → ⊥
none_live operators [] world at journal sound stopped unprogrammed = stopped
none_live operators (batch ∷ batches) world at journal sound (inl here) unprogrammed =
    let s = stops_live_in_order operators world batch here.turns (Restless at) here.stopped in
    no_shift (box_at s.last at) (still_none s.last world (run_keeps_shape world s.last here.turns sound s.stopped.runs) unprogrammed at) s.cause.1.first.can
none_live operators (batch ∷ batches) world at journal sound (inr (turns, last, rest, is, s, later)) unprogrammed =
    none_live operators batches last at rest (run_keeps_sound world last turns sound s.settled.runs) later (still_none last world (run_keeps_shape world last turns sound s.settled.runs) unprogrammed)

-- an order has the Tells of its batch
order_tells : (operators who : ℕ) (batch order : List Turn) → 0 < operators → IsOrderOf operators batch order → count_by (is_tell_of who) order ≡ count_by (is_tell_of who) batch
order_tells operators who batch order some is =
    sym (commands_tell order who) ∙ (orders_have_the_same operators batch order some is (is_tell_of who) who ∙ commands_tell batch who)

-- 256 Shifts after a phase, and those of the phase, are too many
too_many : (early late after before tells told : ℕ) → (early + late) + after ≤ before + tells → late ≡ 256 → 1 ≤ after → before ≤ 1 → tells ≡ told → told < 256 → ⊥
too_many early late after before tells told bound all one few same less = omega arith

-- or all go by words, of which few are told
by_words : (operators : ℕ) (batches : List (List Turn)) (world : WorldState) (at : ℕ) (journal : List JournalLine) → 0 < operators → IsSound world → IsStoppedLive operators (Restless at) world batches journal
    → StillByWords world batches → ⊥
by_words operators [] world at journal some sound stopped still = stopped
by_words operators (batch ∷ batches) world at journal some sound (inl here) still =
    let stop = here.stopped in
    let s = stops_live_in_order operators world batch here.turns (Restless at) here.stopped in
    let shifts = ap (count_by (is_shift_of at)) stop.turns_are ∙ count_both (is_shift_of at) stop.before stop.after in
    let bound = words_bound_shifts world s.last here.turns at sound (still.by_words at) s.stopped.runs in
    too_many _ _ _ _ _ _ (rw shifts at bound) stop.stopped.restless.made (shift_to_come (box_at s.last at) s.cause.1.first.can) (still.one_left at)
    (same_tells at s.order here.turns (s.cause.0 at) ∙ order_tells operators at batch s.order some s.is_order) (still.few.0 at)
by_words operators (batch ∷ batches) world at journal some sound (inr (turns, last, rest, is, s, later)) still =
    by_words operators batches last at rest some (run_keeps_sound world last turns sound s.settled.runs) later (record {
      by_words = run_keeps_words world last turns sound still.by_words s.settled.runs;
      one_left = λ who. let none = rest_awaits_words last who s.settled.at_rest in omega arith;
      few = still.few.1;
    })

-- ---- whatever the stop is

pub stops_show : LiveStopsShowCause
stops_show operators (VersionEnd at) batches world journal some sound stopped = passes_live operators batches world at journal some sound stopped
stops_show operators (Ring at) batches world journal some sound stopped =
    (λ one. leaves_for operators batches world at journal one sound stopped, λ chain. closes_live operators batches world at journal sound stopped chain)
stops_show operators (Restless at) batches world journal some sound stopped =
    (λ unprogrammed. none_live operators batches world at journal sound stopped unprogrammed, λ rests. by_words operators batches world at journal some sound stopped (still_first world batches rests))
