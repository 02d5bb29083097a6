-- Phases after the commands.
use Rattle.std.proofs.Common.{◌≡◌, ◌<◌, ◌≤◌, ◌-◌, ◌++◌, ℕ, Bool, true, false, is_some, IsTrue, List, [], ◌∷◌, length, drop, take, count_by, Option, Some, None, length-append, refl, ap, sym, ◌∙◌, subst, arith}
use Rattle.std.specs.List.{slice_get}
use Rattle.std.proofs.Math.Seq.{drop-append_seam}
use Rattle.std.proofs.lemmas.List.{append-nil, length-drop, nil_from_length, take_all}
use Rattle.mc_box.specs.BoxEvents.{is_enabled}
use Rattle.mc_box.specs.declared.event.Event.{Event}
use Rattle.mc_box.specs.declared.event.Event.TheVariants.{Media, Shift}
use Rattle.mc_box.specs.declared.event.MediaChange.TheVariants.{Hear}
use Rattle.mc_box.specs.declared.event.Turn.{Turn}
use Rattle.mc_box.specs.declared.limit.TheConstants.{SHIFT_LIMIT}
use Rattle.mc_laws.proofs.GoalsKept.{rest_keeps_rings}
use Rattle.mc_laws.proofs.Lowers.{takes_end}
use Rattle.mc_laws.proofs.StepKeeps.{run_keeps_sound}
use Rattle.mc_laws.specs.Measures.{IsRingFree, measure}
use Rattle.mc_model.specs.Paths.{has_ring}
use Rattle.mc_model.specs.Settles.{is_quiet, is_shift_of}
use Rattle.mc_model.specs.Steps.{run}
use Rattle.mc_model.specs.Worlds.{WorldState, box_at}
use Rattle.mc_divided.specs.Networks.{IsDividedNetwork, network_state}
use Rattle.mc_divided.specs.States.{HasWork, by_command, by_program, by_retry, by_signal, IsAtLast, NetworkState, NoneLeft, PlaysOn}
use Rattle.mc_divided.specs.declared.network.DividedNetwork.{DividedNetwork}
use Rattle.mc_rounds.proofs.Plays.{begins, few_shifts_of, none_made, none_still, phase_plays, played_more}
use Rattle.mc_rounds.proofs.TurnKinds.{both_take, shift_after, takes_alone, takes_besides}
use Rattle.mc_rounds.specs.Playing.{GoesOn, HasNoWork, HasPlayed, Plays, all_take, some_shift}

-- ---- no last version

-- where no command is left no box stops at a last version
at_none : (state : NetworkState) (at : ℕ × ℕ) → state.stimuli at.0 ≡ [] → IsAtLast state at → ⊥
at_none state at none is =
    let next : slice_get [] 0 ≡ Some (Media (Hear at.1 is.on)) =
    subst (λ (l : List Event). slice_get l 0 ≡ Some (Media (Hear at.1 is.on))) none is.next in
    cc

-- so no phase stops at one
pub never_last : (retries : Bool) (a b : NetworkState) (before after : List Turn) (last : Option (ℕ × ℕ)) → NoneLeft a
    → PlaysOn retries a b before after last → is_some last ≡ true → ⊥
never_last retries a b before after None none on some = absurd cc
never_last retries a b before after (Some at) none on some =
    at_none b at (none_still a b on.made (phase_plays retries a b on.made (Some at) on.phase) none at.0)
    on.phase.at_last

-- and none is told of
last_none : (retries : Bool) (a b : NetworkState) (before after : List Turn) (last : Option (ℕ × ℕ)) → NoneLeft a
    → PlaysOn retries a b before after last → last ≡ None
last_none retries a b before after None none on = refl
last_none retries a b before after (Some at) none on =
    absurd (never_last retries a b before after (Some at) none on refl)

-- ---- the turns of one phase, as code reads them

-- those after the ones before
made_is : (before after made : List Turn) → after ≡ before ++ made → drop (length before) after ≡ made
made_is before after made is = ap (drop (length before)) is ∙ drop-append_seam before made

told : (before after slice : List Turn) (n : ℕ) → n ≡ length before → slice ≡ after
    → drop (length before) after ≡ take (length slice - n) (drop n slice)
told before after slice n count is =
    let long : length (drop n slice) ≡ length slice - n = length-drop n slice in
    rw (← count, ← is) (sym (take_all (length slice - n) (drop n slice) (omega arith)))

-- so code sees whether a Shift is among them
pub shift_told : (before after made slice : List Turn) (n : ℕ) (shift : Bool) → after ≡ before ++ made
    → n ≡ length before → slice ≡ after → some_shift (take (length slice - n) (drop n slice)) ≡ shift
    → some_shift made ≡ shift
shift_told before after made slice n shift added count is found =
    sym (ap some_shift (made_is before after made added))
    ∙ (ap some_shift (told before after slice n count is) ∙ found)

-- a list that is as long as before had nothing added
none_added : (before after made : List Turn) → after ≡ before ++ made → length after ≡ length before → made ≡ []
none_added before after made is same =
    let all = ap (λ (t : List Turn). length t) is in
    let both = length-append before made in
    nil_from_length made (omega arith)

-- and one of another length had
some_added : (before after made : List Turn) → after ≡ before ++ made → (length after ≡ length before → ⊥)
    → 1 ≤ length made
some_added before after made is off = some_by made refl
  where
    some_by : (l : List Turn) → made ≡ l → 1 ≤ length made
    some_by [] none =
        absurd (off (ap (λ (t : List Turn). length t) (is ∙ (ap (λ (t : List Turn). before ++ t) none
        ∙ append-nil before))))
    some_by (x ∷ l) some = let all = ap (λ (t : List Turn). length t) some in omega arith

-- ---- nothing left to do

-- where a phase made no turn nothing was left to do
no_work_then : (a b : NetworkState) (before after : List Turn) (last : Option (ℕ × ℕ)) → NoneLeft a
    → (on : PlaysOn false a b before after last) → on.made ≡ [] → HasNoWork a
no_work_then a b before after last none on nothing works =
    on.phase.moved (last_none false a b before after last none on) works nothing

-- what is left to do there was left before
work_before : (a b : NetworkState) → a.world ≡ b.world → ((who : ℕ) → b.shifts who ≡ a.shifts who) → NoneLeft b
    → HasWork false b → HasWork false a
work_before a b same shifts none (by_command who some) = absurd (some (none who))
work_before a b same shifts none (by_program who inside less on) =
    by_program who (subst (λ (w : WorldState). who < length w.boxes) (sym same) inside)
    (subst (λ (n : ℕ). n < SHIFT_LIMIT) (shifts who) less)
    (subst (λ (w : WorldState). IsTrue (is_enabled (box_at w who) Shift)) (sym same) on)
work_before a b same shifts none (by_signal some) = by_signal (ap (λ (w : WorldState). is_quiet w) same ∙ some)
work_before a b same shifts none (by_retry on who local owes) = absurd cc

-- the world after no turns
same_world : (world last : WorldState) (made : List Turn) → made ≡ [] → run world made ≡ Some last → world ≡ last
same_world world last made nothing goes =
    let is : Some world ≡ Some last = sym (ap (run world) nothing) ∙ goes in
    cc

-- so nothing is left to do after it
no_work_after : (a b : NetworkState) (made : List Turn) → Plays a b made → NoneLeft a → made ≡ [] → HasNoWork a
    → HasNoWork b
no_work_after a b made p none nothing still works =
    still (work_before a b (same_world a.world b.world made nothing p.runs)
    (λ who.
    let count : count_by (is_shift_of who) made ≡ 0 = ap (count_by (is_shift_of who)) nothing in
    let counted = p.shifts who in
    omega arith)
    (none_still a b made p none) works)

-- ---- phases of Takes

-- Takes alone led from one state to another
pub record HasTaken (old new : NetworkState) (before after : List Turn) : Type 0 where
  pub played : HasPlayed old new before after
  pub take : all_take played.made ≡ true
  pub none : NoneLeft new
  pub free : IsRingFree new.world

-- none, to begin with
pub takes_begin : (network : DividedNetwork) (turns : List Turn) → IsDividedNetwork network
    → NoneLeft (network_state network) → has_ring (network_state network).world ≡ false
    → HasTaken (network_state network) (network_state network) turns turns
takes_begin network turns is none free = record {
  played = begins (network_state network) turns (few_shifts_of network is);
  take = refl;
  none = none;
  free = record { sound = is.sound; free = free };
}

-- without a Shift a phase after the commands made Takes alone
takes_of : (a b : NetworkState) (before after : List Turn) (last : Option (ℕ × ℕ)) → NoneLeft a
    → (on : PlaysOn false a b before after last) → some_shift on.made ≡ false → all_take on.made ≡ true
takes_of a b before after last none on off =
    takes_alone on.made (λ who. none_made a b on.made who (phase_plays false a b on.made last on.phase) none)
    on.phase.plays.retried off

-- Takes make no ring
free_still : (a b : NetworkState) (made : List Turn) → IsRingFree a.world → all_take made ≡ true → Plays a b made
    → IsRingFree b.world
free_still a b made free take p = record {
  sound = run_keeps_sound a.world b.world made free.sound p.runs;
  free = rest_keeps_rings a.world b.world made free.sound (takes_besides made take) p.runs ∙ free.free;
}

-- a phase more
pub takes_more : (a b c : NetworkState) (first before after : List Turn) (last : Option (ℕ × ℕ))
    → HasTaken a b first before → (on : PlaysOn false b c before after last) → some_shift on.made ≡ false
    → HasTaken a c first after
takes_more a b c first before after last so_far on off =
    let take = takes_of b c before after last so_far.none on off in
    let plays = phase_plays false b c on.made last on.phase in
    record {
      played = played_more a b c first before after false last so_far.played on;
      take = both_take so_far.played.made on.made so_far.take take;
      none = none_still b c on.made plays so_far.none;
      free = free_still b c on.made so_far.free take plays;
    }

-- lowers the measure
pub takes_lower : (a b c : NetworkState) (first before after : List Turn) (last : Option (ℕ × ℕ))
    → HasTaken a b first before → (on : PlaysOn false b c before after last) → some_shift on.made ≡ false
    → (length after ≡ length before → ⊥) → measure c.world < measure b.world
takes_lower a b c first before after last so_far on off more =
    let fewer = takes_end b.world c.world on.made so_far.free (takes_of b c before after last so_far.none on off)
    on.phase.plays.runs in
    let some = some_added before after on.made on.added more in
    omega arith

-- ---- how they end

-- with a phase that made nothing
pub ends_still : (a b c : NetworkState) (first before after : List Turn) (last : Option (ℕ × ℕ))
    → HasTaken a b first before → PlaysOn false b c before after last → length after ≡ length before
    → GoesOn a c first after false
ends_still a b c first before after last so_far on same =
    let nothing = none_added before after on.made on.added same in
    let off : some_shift on.made ≡ false = ap some_shift nothing in
    let next = takes_more a b c first before after last so_far on off in
    record {
      played = next.played;
      none = next.none;
      ended = (
        no_work_after b c on.made (phase_plays false b c on.made last on.phase) so_far.none nothing
            (no_work_then b c before after last so_far.none on nothing),
        next.take,
      );
    }

-- or with one in which a Shift came
pub ends_shifted : (a b c : NetworkState) (first before after : List Turn) (last : Option (ℕ × ℕ))
    → HasTaken a b first before → (on : PlaysOn false b c before after last) → some_shift on.made ≡ true
    → GoesOn a c first after true
ends_shifted a b c first before after last so_far on some = record {
  played = played_more a b c first before after false last so_far.played on;
  none = none_still b c on.made (phase_plays false b c on.made last on.phase) so_far.none;
  ended = shift_after so_far.played.made on.made some;
}
