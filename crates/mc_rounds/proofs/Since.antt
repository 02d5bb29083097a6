-- What is known within a settle, after some of its turns.
use Rattle.std.proofs.Common.{◌≡◌, ◌==◌, ◌<◌, ◌≤◌, ◌+◌, ◌++◌, ◌&&◌, ◌||◌, inl, inr, cond, ℕ, zero, suc, Bool, true, false, IsTrue, List, [], ◌∷◌, length, get_or, slice_get, Some, Option, count_by, refl, ap, ap₂, sym, ◌∙◌, subst, arith, true≢false, None}
use Rattle.std.specs.List.{list_any}
use Rattle.std.proofs.lemmas.Bool.{cases_lt, eqb-true}
use Rattle.std.proofs.lemmas.List.Sums.{sum_by-cons}
use Rattle.mc_box.specs.BoxEvents.{is_enabled, is_shift}
use Rattle.mc_box.specs.Boxes.{BoxState, no_box}
use Rattle.mc_box.specs.LinkFree.{is_linking}
use Rattle.mc_box.specs.declared.event.Event.TheVariants.{Shift}
use Rattle.mc_box.specs.declared.event.Turn.{Turn}
use Rattle.mc_box.specs.declared.limit.TheConstants.{SHIFT_LIMIT}
use Rattle.mc_box.proofs.Options.{then_some}
use Rattle.mc_laws.proofs.StepKeeps.{step_keeps_sound}
use Rattle.mc_model.specs.Paths.{has_ring}
use Rattle.mc_model.specs.Rings.{IsLeastOnRing}
use Rattle.mc_model.specs.Settles.{can_shift, is_shift_of}
use Rattle.mc_model.specs.Sound.{IsSound}
use Rattle.mc_model.specs.Steps.{run, step}
use Rattle.mc_model.specs.Worlds.{WorldState, box_at}
use Rattle.mc_divided.specs.States.HasWork.{by_program}
use Rattle.mc_divided.specs.States.{NetworkState}
use Rattle.mc_divided.proofs.NetworkBoxes.{none_shifts}
use Rattle.mc_rounds.proofs.Plays.{count_both}
use Rattle.mc_rounds.proofs.Rested.{free_by, least_by}
use Rattle.mc_rounds.proofs.TurnKinds.{either_false}
use Rattle.mc_rounds.specs.Playing.{HasNoWork, HasPlayed, Rests}
use Rattle.mc_rounds.specs.Settling.{HasBatch, sets_link}
use Rattle.mc_rounds.specs.Since.{CountsShifts, ShiftedHaveNone, ShiftsNone}
use Rattle.mc_world.proofs.Ringless.{step_makes_none}

-- ---- rings

-- turns that link no slots make no ring
none_linked : (turns : List Turn) (world next : WorldState) → IsSound world → run world turns ≡ Some next → sets_link turns ≡ false → IsLeastOnRing world None → IsLeastOnRing next None
none_linked [] world next sound goes none free = let same : world ≡ next = cc in subst (λ (w : WorldState). IsLeastOnRing w None) same free
none_linked (turn ∷ turns) world next sound goes none free =
    let parts = either_false (is_linking turn.event) (sets_link turns) none in
    let one = then_some (λ (w : WorldState). run w turns) (step world turn) next goes in
    none_linked turns one.0 next (step_keeps_sound world one.0 turn sound one.1) one.2 parts.1 (step_makes_none world one.0 turn sound parts.0 one.1 free)

still_free : (turns : List Turn) (world next : WorldState) → IsSound world → IsSound next → run world turns ≡ Some next → sets_link turns ≡ false → has_ring world ≡ false → has_ring next ≡ false
still_free turns world next sound sound_2 goes none free = free_by next None sound_2 (none_linked turns world next sound goes none (least_by world sound free)) refl

-- so a batch that links none makes none
pub free_batch : (old start now : NetworkState) (batch before after : List Turn) → before ≡ [] → IsSound old.world
    → IsSound now.world → HasBatch old.world batch start → HasPlayed start now before after
    → has_ring old.world ≡ false → sets_link after ≡ false → has_ring now.world ≡ false
free_batch old start now batch before after none sound sound_2 has played free links =
    let made : after ≡ played.made = played.added ∙ ap (λ (l : List Turn). l ++ played.made) none in
    still_free played.made start.world now.world (subst IsSound (sym has.same) sound) sound_2 played.plays.runs
    (sym (ap (λ (l : List Turn). sets_link l) made) ∙ links)
    (ap (λ (w : WorldState). has_ring w) has.same ∙ free)

-- ---- Shifts are counted

pub counted_first : (old start : NetworkState) (batch before : List Turn) → before ≡ [] → HasBatch old.world batch start
    → CountsShifts before start
counted_first old start batch before none has who =
    has.no_shifts who ∙ sym (ap (λ (l : List Turn). count_by (is_shift_of who) l) none)

pub counted_more : (a b : NetworkState) (before after : List Turn) → HasPlayed a b before after
    → CountsShifts before a → CountsShifts after b
counted_more a b before after played counts who =
    let made = played.plays.shifts who in
    let first = counts who in
    let both : count_by (is_shift_of who) after ≡ count_by (is_shift_of who) before + count_by (is_shift_of who) played.made =
    ap (λ (l : List Turn). count_by (is_shift_of who) l) played.added ∙ count_both (is_shift_of who) before played.made in
    omega (arith, made, first, both)

pub counted_rested : (a b : NetworkState) (before after : List Turn) (ring : Option ℕ) (shifted : Bool)
    → Rests a b before after ring shifted → CountsShifts before a → CountsShifts after b
counted_rested a b before after ring shifted rests counts = counted_more a b before after rests.played counts

pub counted_as : (read turns : List Turn) (state : NetworkState) → read ≡ turns → CountsShifts turns state
    → CountsShifts read state
counted_as read turns state is counts = subst (λ (l : List Turn). CountsShifts l state) (sym is) counts

-- a Shift that is counted is there
record HasShiftAt (who : ℕ) (turns : List Turn) : Type 0 where
  at : ℕ
  turn : Turn
  there : slice_get turns at ≡ Some turn
  shift : is_shift turn.event ≡ true
  is : turn.who ≡ who

shift_at : (who : ℕ) (turns : List Turn) → 0 < count_by (is_shift_of who) turns → HasShiftAt who turns
shift_at who [] some = absurd (omega (arith, some))
shift_at who (turn ∷ turns) some = by (is_shift turn.event) refl (turn.who == who) refl (shift_at who turns)
  where
    later : HasShiftAt who turns → HasShiftAt who (turn ∷ turns)
    later found = record { at = suc found.at; turn = found.turn; there = found.there; shift = found.shift; is = found.is }

    counted : (b : Bool) (n m : ℕ) → n ≡ cond b 1 0 + m → b ≡ false → 0 < n → 0 < m
    counted true n m sum off less = absurd (true≢false off)
    counted false n m sum off less = omega (arith, sum, less)

    rest : is_shift_of who turn ≡ false → 0 < count_by (is_shift_of who) turns
    rest off =
        counted (is_shift_of who turn) (count_by (is_shift_of who) (turn ∷ turns)) (count_by (is_shift_of who) turns)
        (sum_by-cons (λ (t : Turn). cond (is_shift_of who t) 1 0) turn turns) off some

    by : (shift : Bool) → is_shift turn.event ≡ shift → (mine : Bool) → (turn.who == who) ≡ mine
        → (0 < count_by (is_shift_of who) turns → HasShiftAt who turns) → HasShiftAt who (turn ∷ turns)
    by true shift true mine found = record { at = 0; turn = turn; there = refl; shift = shift; is = eqb-true turn.who who mine }
    by true shift false mine found = later (found (rest (ap₂ (λ (a b : Bool). a && b) shift mine)))
    by false shift mine is found = later (found (rest (ap (λ (a : Bool). a && (turn.who == who)) shift)))

-- ---- at a rest a box that can make a Shift has made all of its own

still_at : (state : NetworkState) → HasNoWork state
    → ((who : ℕ) → SHIFT_LIMIT ≤ state.shifts who → ShiftsNone state.world who) → can_shift state.world ≡ false
still_at state idle most = none_shifts state.world (λ who below. by who below (is_enabled (box_at state.world who) Shift) refl)
  where
    by : (who : ℕ) → who < length state.world.boxes → (can : Bool) → is_enabled (box_at state.world who) Shift ≡ can → is_enabled (box_at state.world who) Shift ≡ false
    by who below false is = is
    by who below true is = elim (cases_lt (state.shifts who) SHIFT_LIMIT) [
      | inl fewer ↦ absurd (idle (by_program who below fewer is))
      | inr made ↦ most who made
    ]

pub still_none : (state : NetworkState) → HasNoWork state → ((who : ℕ) → state.shifts who ≡ 0) → can_shift state.world ≡ false
still_none state idle none =
    still_at state idle (λ who most. let zero_is : state.shifts who ≡ 0 = none who in absurd (omega (arith, most, zero_is)))

pub still_shifted : (state : NetworkState) (turns : List Turn) → HasNoWork state → CountsShifts turns state
    → ShiftedHaveNone state.world turns → can_shift state.world ≡ false
still_shifted state turns idle counts none =
    still_at state idle (λ who most.
    let counted = counts who in
    let found = shift_at who turns (omega (arith, most, counted)) in
    subst (λ (n : ℕ). ShiftsNone state.world n) found.is (none found.at found.turn found.there found.shift))

-- a box that isn't there
pub shifts_past : (world : WorldState) (who : ℕ) → length world.boxes ≤ who → ShiftsNone world who
shifts_past world who past = none_there world.boxes who past
  where
    none_there : (boxes : List BoxState) (who : ℕ) → length boxes ≤ who → is_enabled (get_or boxes who no_box) Shift ≡ false
    none_there [] who past = refl
    none_there (one ∷ boxes) zero past = absurd (omega (arith, past))
    none_there (one ∷ boxes) (suc who) past = none_there boxes who (omega (arith, past))
