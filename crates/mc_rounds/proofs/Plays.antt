-- Phases one after another.
use Rattle.std.proofs.Common.{◌≡◌, ◌<◌, ◌≤◌, ◌+◌, ◌-◌, ◌++◌, ◌&&◌, ◌==◌, cond, ℕ, zero, suc, Bool, true, List, [], ◌∷◌, length, map, count_by, Option, inl, inr, append_assoc, length-append, refl, ap, sym, ◌∙◌, subst, arith}
use Rattle.std.proofs.lemmas.Bool.{cases_eq}
use Rattle.std.proofs.lemmas.List.Elements.{filter-append}
use Rattle.std.proofs.lemmas.List.Sums.{sum_by-append}
use Rattle.std.proofs.lemmas.List.{append-nil, length-map, nil_from_length}
use Rattle.mc_box.specs.BoxEvents.{is_command, turn_of}
use Rattle.mc_box.specs.declared.event.Event.{Event}
use Rattle.mc_box.specs.declared.event.Turn.{Turn}
use Rattle.mc_box.specs.declared.limit.TheConstants.{SHIFT_LIMIT}
use Rattle.mc_laws.proofs.ShapesKept.{run_keeps_shape}
use Rattle.mc_laws.proofs.Sums.{total_le}
use Rattle.mc_model.specs.Settles.{commands_of, is_shift_of}
use Rattle.mc_model.specs.Sound.{IsSound}
use Rattle.mc_divided.specs.Networks.{IsDividedNetwork, network_state, shifts_among}
use Rattle.mc_divided.specs.States.{IsPhaseTo, NetworkState, NoneLeft, PlaysOn}
use Rattle.mc_divided.specs.declared.network.DividedNetwork.{DividedNetwork}
use Rattle.mc_part.specs.Parts.{IsWithin}
use Rattle.mc_part.specs.Phases.{EachOf}
use Rattle.mc_part.specs.declared.part_run.PartRun.{PartRun}
use Rattle.mc_seq.proofs.Runs.{run-append}
use Rattle.mc_rounds.proofs.Inside.{run_below, shift_there}
use Rattle.mc_rounds.specs.Playing.{HasPlayed, Plays, some_shift, spare_shifts}
use Rattle.mc_slot_laws.specs.Sums.{total}

-- ---- two lists of turns

-- the commands of a box are those in the one and in the other
pub commands_both : (who : ℕ) (one two : List Turn)
    → commands_of who (one ++ two) ≡ commands_of who one ++ commands_of who two
commands_both who one two = filter-append (λ (turn : Turn). is_command turn.event && turn.who == who) one two

-- and so is the count of any kind of turn
pub count_both : (p : Turn → Bool) (one two : List Turn) → count_by p (one ++ two) ≡ count_by p one + count_by p two
count_both p one two = sum_by-append (λ (t : Turn). cond (p t) 1 0) one two

-- ---- turns that lead from one state to another

-- no box has made too many Shifts
abbrev pub FewShifts : NetworkState → Type 0
FewShifts state = (who : ℕ) → state.shifts who ≤ SHIFT_LIMIT

-- no turns at all
pub plays_none : (state : NetworkState) → FewShifts state → Plays state state []
plays_none state few = record { runs = refl; commands = λ who. refl; shifts = λ who. omega arith; few_shifts = few }

-- turns after turns
pub plays_both : (a b c : NetworkState) (one two : List Turn) → Plays a b one → Plays b c two → Plays a c (one ++ two)
plays_both a b c one two p q = record {
  runs = run-append one two a.world b.world p.runs ∙ q.runs;
  commands = λ who.
      ap (λ (t : List Turn). t ++ map (turn_of who) (c.stimuli who)) (commands_both who one two)
      ∙ (append_assoc (commands_of who one) (commands_of who two) (map (turn_of who) (c.stimuli who))
      ∙ (ap (λ (t : List Turn). commands_of who one ++ t) (q.commands who) ∙ p.commands who));
  shifts = λ who.
      let first = p.shifts who in
      let second = q.shifts who in
      let both = count_both (is_shift_of who) one two in
      omega arith;
  few_shifts = q.few_shifts;
}

-- those of a phase
pub phase_plays : (retries : Bool) (old new : NetworkState) (made : List Turn) (last : Option (ℕ × ℕ))
    → IsPhaseTo retries old new made last → Plays old new made
phase_plays retries old new made last phase = record {
  runs = phase.plays.runs;
  commands = phase.plays.commands;
  shifts = phase.plays.shifts_are;
  few_shifts = phase.plays.few_shifts;
}

-- none, to begin with
abbrev pub begins : (state : NetworkState) (turns : List Turn) → FewShifts state → HasPlayed state state turns turns
begins state turns few = record { made = []; added = sym (append-nil turns); plays = plays_none state few }

-- and then others
abbrev pub played_both : (a b c : NetworkState) (first before after made : List Turn) → HasPlayed a b first before
    → after ≡ before ++ made → Plays b c made → HasPlayed a c first after
played_both a b c first before after made p added plays = record {
  made = p.made ++ made;
  added = added ∙ (ap (λ (t : List Turn). t ++ made) p.added ∙ append_assoc first p.made made);
  plays = plays_both a b c p.made made p.plays plays;
}

-- those of one phase more
abbrev pub played_more : (a b c : NetworkState) (first before after : List Turn) (retries : Bool)
    (last : Option (ℕ × ℕ)) → HasPlayed a b first before → PlaysOn retries b c before after last
    → HasPlayed a c first after
played_more a b c first before after retries last p on =
    played_both a b c first before after on.made p on.added (phase_plays retries b c on.made last on.phase)

-- with all that came before
pub plays_more : (a b c : NetworkState) (before after : List Turn) → Plays a b before → HasPlayed b c before after
    → Plays a c after
plays_more a b c before after p played =
    subst (λ (t : List Turn). Plays a c t) (sym played.added) (plays_both a b c before played.made p played.plays)

-- those that came after none are all
pub plays_from : (old new : NetworkState) (before after : List Turn) → HasPlayed old new before after → before ≡ []
    → Plays old new after
plays_from old new before after played none =
    subst (λ (t : List Turn). Plays old new t)
    (sym (played.added ∙ ap (λ (t : List Turn). t ++ played.made) none)) played.plays

-- ---- a network

-- its counts of Shifts are within the limit
pub few_shifts_of : (network : DividedNetwork) → IsDividedNetwork network → FewShifts (network_state network)
few_shifts_of network is who = few_among network.runs.items _ _ (λ k run at. (is.idle k run at).within)
  where
    few_among : (runs : List PartRun) (part local : ℕ) → EachOf (λ (run : PartRun). IsWithin run.part) runs
        → shifts_among runs part local ≤ SHIFT_LIMIT
    few_among [] part local each = omega arith
    few_among (run ∷ runs) zero local each = (each 0 run refl).shifts local
    few_among (run ∷ runs) (suc part) local each = few_among runs part local (λ k other at. each (suc k) other at)

-- ---- commands

-- no phase leaves more commands to a box
pub no_more : (old new : NetworkState) (made : List Turn) (who : ℕ) → Plays old new made
    → length (commands_of who made) + length (new.stimuli who) ≡ length (old.stimuli who)
no_more old new made who p =
    let all = ap (λ (t : List Turn). length t) (p.commands who) in
    let both = length-append (commands_of who made) (map (turn_of who) (new.stimuli who)) in
    let left = length-map (new.stimuli who) (turn_of who) in
    let begun = length-map (old.stimuli who) (turn_of who) in
    omega arith

-- where none was left none is
pub none_still : (old new : NetworkState) (made : List Turn) → Plays old new made → NoneLeft old → NoneLeft new
none_still old new made p none who =
    let all = no_more old new made who p in
    let nothing = ap (λ (l : List Event). length l) (none who) in
    nil_from_length (new.stimuli who) (omega arith)

-- and no turn was a command
pub none_made : (old new : NetworkState) (made : List Turn) (who : ℕ) → Plays old new made → NoneLeft old
    → commands_of who made ≡ []
none_made old new made who p none =
    let all = no_more old new made who p in
    let nothing = ap (λ (l : List Event). length l) (none who) in
    nil_from_length (commands_of who made) (omega arith)

-- ---- sums over boxes

-- where none is greater and one is less, so is the sum
pub total_less : (f g : ℕ → ℕ) (k s : ℕ) → s < k → ((t : ℕ) → t < k → f t ≤ g t) → f s < g s → total f k < total g k
total_less f g zero s inside less one = absurd (omega (arith, inside))
total_less f g (suc k) s inside less one = elim (cases_eq s k) [
  | inl last ↦
      let here : f k < g k = subst (λ (n : ℕ). f n < g n) last one in
      let others = total_le f g k (λ t below. less t (omega arith)) in
      omega arith
  | inr before ↦
      let here = less k (omega arith) in
      let others = total_less f g k s (omega arith) (λ t below. less t (omega arith)) one in
      omega arith
]

-- as many boxes in each world
pub same_count : (old new : NetworkState) (made : List Turn) → IsSound old.world → Plays old new made
    → length new.world.boxes ≡ length old.world.boxes
same_count old new made sound p = (run_keeps_shape old.world new.world made sound p.runs).boxes

-- ---- Shifts

-- what is left of a limit is no more
shift_less : (old new count limit : ℕ) → new ≡ old + count → limit - new ≤ limit - old
shift_less old new count limit is = omega arith

-- and less where some were made
shift_fewer : (old new count limit : ℕ) → new ≡ old + count → new ≤ limit → 1 ≤ count → limit - new < limit - old
shift_fewer old new count limit is few some = omega arith

-- no phase leaves more Shifts to make
pub no_more_shifts : (old new : NetworkState) (made : List Turn) → IsSound old.world → Plays old new made
    → spare_shifts new ≤ spare_shifts old
no_more_shifts old new made sound p =
    subst (λ (n : ℕ). total (λ (k : ℕ). SHIFT_LIMIT - new.shifts k) n ≤ spare_shifts old)
    (sym (same_count old new made sound p))
    (total_le (λ (k : ℕ). SHIFT_LIMIT - new.shifts k) (λ (k : ℕ). SHIFT_LIMIT - old.shifts k) (length old.world.boxes)
    (λ k below. shift_less (old.shifts k) (new.shifts k) (count_by (is_shift_of k) made) SHIFT_LIMIT (p.shifts k)))

-- and one with a Shift leaves fewer
pub fewer_shifts : (old new : NetworkState) (made : List Turn) → IsSound old.world → Plays old new made
    → some_shift made ≡ true → spare_shifts new < spare_shifts old
fewer_shifts old new made sound p some =
    let shift = shift_there (length old.world.boxes) made (run_below made old.world new.world sound p.runs) some in
    subst (λ (n : ℕ). total (λ (k : ℕ). SHIFT_LIMIT - new.shifts k) n < spare_shifts old)
    (sym (same_count old new made sound p))
    (total_less (λ (k : ℕ). SHIFT_LIMIT - new.shifts k) (λ (k : ℕ). SHIFT_LIMIT - old.shifts k)
    (length old.world.boxes) shift.who shift.inside
    (λ k below. shift_less (old.shifts k) (new.shifts k) (count_by (is_shift_of k) made) SHIFT_LIMIT (p.shifts k))
    (shift_fewer (old.shifts shift.who) (new.shifts shift.who) (count_by (is_shift_of shift.who) made) SHIFT_LIMIT
    (p.shifts shift.who) (p.few_shifts shift.who) shift.some))
