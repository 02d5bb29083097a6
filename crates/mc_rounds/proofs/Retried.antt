-- Phases of retries, and how a settle ends.
use Rattle.std.proofs.Common.{◌≡◌, ◌<◌, ◌≤◌, ◌+◌, ◌*◌, ◌++◌, ◌||◌, if◌then◌else◌, ℕ, Bool, true, false, IsTrue, MatchBool, MatchOption, List, length, map, count_by, take, Option, Some, None, Result, Ok, Err, IfOk, inl, inr, append_assoc, append-nil, refl, ap, sym, ◌∙◌, subst, arith}
use Rattle.std.specs.List.{list_all}
use Rattle.std.proofs.lemmas.List.Folds.{list_all-append}
use Rattle.std.proofs.lemmas.Bool.{MatchBool-at_false, and_from, cases_lt}
use Rattle.std.proofs.lemmas.List.{take_all}
use Rattle.mc_box.specs.BoxEvents.{turn_of}
use Rattle.mc_box.specs.declared.event.Event.{Event}
use Rattle.mc_box.specs.declared.event.Turn.{Turn}
use Rattle.mc_box.specs.declared.limit.TheConstants.{SHIFT_LIMIT}
use Rattle.mc_laws.proofs.GoalsKept.{rest_keeps_rings}
use Rattle.mc_model.specs.Paths.{has_ring}
use Rattle.mc_model.specs.Rings.{IsFirstOnRing}
use Rattle.mc_model.specs.Settles.{IsSettled, IsStopped, can_shift, commands_of, is_quiet, is_retry_of, is_shift_of, takes_or_retries, world_owes}
use Rattle.mc_model.specs.Sound.{IsSound}
use Rattle.mc_model.specs.Steps.{run}
use Rattle.mc_model.specs.Worlds.{WorldState}
use Rattle.mc_divided.specs.States.{by_program, by_signal, IsFirstShifter, IsFirstShifterOr, NetworkState, NoneLeft, PlaysOn}
use Rattle.mc_seq.proofs.Runs.{run-append}
use Rattle.mc_seq.proofs.Segments.{Resting, settled_at}
use Rattle.mc_seq.specs.ShiftLimit.{KeepsShiftLimit}
use Rattle.mc_seq.specs.declared.stopping.SettleStop.{SettleStop}
use Rattle.mc_seq.specs.declared.stopping.SettleStop.TheVariants as stops
use Rattle.mc_settings.specs.Batches.{UseUp}
use Rattle.mc_rounds.proofs.Plays.{count_both, fewer_shifts, no_more_shifts, none_made, none_still, phase_plays, plays_more}
use Rattle.mc_rounds.proofs.TurnKinds.{either_false, takes_and_retries, takes_besides, takes_unretried}
use Rattle.mc_rounds.specs.Playing.{HasNoWork, Plays, Rests, Retries, all_take, some_shift, spare_shifts}
use Rattle.mc_rounds.specs.Settling.{EndsSettle, HasBatch, rests_left}

-- ---- nothing under way

-- where nothing is left to do nothing is under way
pub no_work_quiet : (state : NetworkState) → HasNoWork state → is_quiet state.world ≡ true
no_work_quiet state none = quiet_by (is_quiet state.world) refl
  where
    quiet_by : (quiet : Bool) → is_quiet state.world ≡ quiet → quiet ≡ true
    quiet_by true is = refl
    quiet_by false is = absurd (none (by_signal is))

-- ---- retries

-- after a rest at which the batch was used up each retry that was owed there has come once, and besides only Takes
pub record RestedAt (world : WorldState) (batch turns : List Turn) (now : WorldState) : Type 0 where
  pub begun : List Turn
  pub rest : List Turn
  pub rested : WorldState
  pub parts : turns ≡ begun ++ rest
  pub resting : Resting rested
  pub ran : run world begun ≡ Some rested
  pub goes : run rested rest ≡ Some now
  pub used : (who : ℕ) → commands_of who begun ≡ commands_of who batch
  pub counts : (who local : ℕ) → count_by (is_retry_of who local) rest
      ≡ (if world_owes rested who local then 1 else 0)
  pub besides : list_all (λ turn. takes_or_retries turn.event) rest ≡ true

-- nothing more in a sum
none_more : (n m k : ℕ) → n ≡ m + k → k ≡ 0 → n ≡ m
none_more n m k sum none = omega arith

-- Takes after it change nothing of that
rested_more : (world now next : WorldState) (batch turns after made : List Turn) → RestedAt world batch turns now
    → after ≡ turns ++ made → run now made ≡ Some next → all_take made ≡ true → RestedAt world batch after next
rested_more world now next batch turns after made so_far added goes take = record {
  begun = so_far.begun;
  rest = so_far.rest ++ made;
  rested = so_far.rested;
  parts = added
      ∙ (ap (λ (t : List Turn). t ++ made) so_far.parts ∙ append_assoc so_far.begun so_far.rest made);
  resting = so_far.resting;
  ran = so_far.ran;
  goes = run-append so_far.rest made so_far.rested now so_far.goes ∙ goes;
  used = so_far.used;
  counts = λ who local.
      let kind : Turn → Bool = is_retry_of who local in
      none_more (count_by kind (so_far.rest ++ made)) (count_by kind so_far.rest) (count_by kind made)
      (count_both kind so_far.rest made) (takes_unretried made take who local) ∙ so_far.counts who local;
  besides =
      list_all-append (λ (turn : Turn). takes_or_retries turn.event) so_far.rest made
      ∙ and_from (list_all (λ turn. takes_or_retries turn.event) so_far.rest)
      (list_all (λ turn. takes_or_retries turn.event) made) so_far.besides (takes_besides made take);
}

-- ---- from the beginning of a settle

-- all commands of the batch were made
pub used_up : (world : WorldState) (batch turns : List Turn) (start now : NetworkState) → HasBatch world batch start
    → Plays start now turns → NoneLeft now → UseUp batch turns
used_up world batch turns start now has p none who =
    sym (append-nil (commands_of who turns))
    ∙ (ap (λ (l : List Event). commands_of who turns ++ map (turn_of who) l) (sym (none who))
    ∙ (p.commands who ∙ has.commands who))

-- the turns lead from the world of the batch
pub ran_on : (world : WorldState) (batch turns : List Turn) (start now : NetworkState) → HasBatch world batch start
    → Plays start now turns → run world turns ≡ Some now.world
ran_on world batch turns start now has p = ap (λ (w : WorldState). run w turns) (sym has.same) ∙ p.runs

-- and stop with all commands made
stopped_at : (world : WorldState) (batch turns : List Turn) (start now : NetworkState) → HasBatch world batch start
    → Plays start now turns → NoneLeft now → IsStopped world batch turns now.world
stopped_at world batch turns start now has p none = record {
  runs = ran_on world batch turns start now has p;
  commands = λ who.
      let used = used_up world batch turns start now has p none who in
      let long = ap (λ (t : List Turn). length t) used in
      used ∙ sym (take_all (length (commands_of who turns)) (commands_of who batch) (omega arith));
}

-- no box has made more Shifts than the limit
pub limit_played : (world : WorldState) (batch turns : List Turn) (start now : NetworkState)
    → HasBatch world batch start → Plays start now turns → KeepsShiftLimit turns
limit_played world batch turns start now has plays who =
    let none = has.no_shifts who in
    let counted = plays.shifts who in
    let most = plays.few_shifts who in
    omega arith

-- where a settle stands after its commands
pub record WentOn (world : WorldState) (batch : List Turn) (start now : NetworkState) (turns : List Turn)
    (due : Bool) : Type 0 where
  pub plays : Plays start now turns
  pub retried : due ≡ false → RestedAt world batch turns now.world

-- and for every batch and beginning that led to where it stood first
abbrev pub HasWentOn : NetworkState → List Turn → NetworkState → List Turn → Bool → Type 0
HasWentOn first begun now turns due = (world : WorldState) (batch : List Turn) (start : NetworkState)
    → HasBatch world batch start → Plays start first begun → WentOn world batch start now turns due

-- as it begins
pub went_begin : (first : NetworkState) (begun : List Turn) → HasWentOn first begun first begun true
went_begin first begun world batch start has p = record { plays = p; retried = λ off. absurd cc }

-- retries are due at a rest after it if they were, or if a Shift came
pub went_rest : (first b c : NetworkState) (begun before after : List Turn) (due shifted : Bool) (ring : Option ℕ)
    → HasWentOn first begun b before due → Rests b c before after ring shifted
    → HasWentOn first begun c after (due || shifted)
went_rest first b c begun before after due shifted ring went came world batch start has p =
    let so_far = went world batch start has p in
    record {
      plays = plays_more start b c before after so_far.plays came.played;
      retried = λ is.
          let both = either_false due shifted is in
          rested_more world b.world c.world batch before after came.played.made (so_far.retried both.0)
          came.played.added came.played.plays.runs
          (MatchBool-at_false (spare_shifts c < spare_shifts b) (IsTrue (all_take came.played.made)) both.1 came.fewer);
    }

-- ---- its ends

-- what a settle has come to, whatever led to where it stood first
abbrev pub EndsFrom : NetworkState → (begun after : List Turn) → WorldState → Option SettleStop → Type 0
EndsFrom first begun after last ending = (world : WorldState) (batch : List Turn) (start : NetworkState)
    → HasBatch world batch start → Plays start first begun → EndsSettle world batch after last ending

-- so it has come to that from the batch that led there
pub ends_for : {E : Type 0} (result : Result (Option SettleStop) E) (first start : NetworkState) (begun after : List Turn)
    (last world : WorldState) (batch : List Turn) → HasBatch world batch start → Plays start first begun
    → IfOk result (EndsFrom first begun after last) → IfOk result (EndsSettle world batch after last)
ends_for (Ok ending) first start begun after last world batch has p ends = ends world batch start has p
ends_for (Err e) first start begun after last world batch has p ends = tt

-- at a ring
pub ends_at_ring : (first c : NetworkState) (begun after : List Turn) (due : Bool) (at : ℕ)
    → HasWentOn first begun c after due → NoneLeft c → IsFirstOnRing c.world at
    → EndsFrom first begun after c.world (Some (stops.Ring at))
ends_at_ring first c begun after due at went none ring world batch start has p =
    let so_far = went world batch start has p in (
      stopped_at world batch after start c has so_far.plays none,
      used_up world batch after start c has so_far.plays none,
      ring,
      limit_played world batch after start c has so_far.plays,
    )

-- at a box that can go on, and has made all its Shifts
all_made : (shifts count limit : ℕ) → shifts ≡ 0 + count → shifts ≤ limit → (shifts < limit → ⊥) → count ≡ limit
all_made shifts count limit is few most = elim (cases_lt shifts limit) [
  | inl less ↦ absurd (most less)
  | inr not ↦ omega arith
]

-- so the settle ends there as restless
pub ends_restless : (first c : NetworkState) (begun after : List Turn) (due : Bool) (at : ℕ)
    → HasWentOn first begun c after due → NoneLeft c → HasNoWork c → has_ring c.world ≡ false
    → IsFirstShifter c.world at → EndsFrom first begun after c.world (Some (stops.Restless at))
ends_restless first c begun after due at went none idle free shifter world batch start has p =
    let so_far = went world batch start has p in
    let counted : c.shifts at ≡ 0 + count_by (is_shift_of at) after =
    so_far.plays.shifts at ∙ ap (λ (n : ℕ). n + count_by (is_shift_of at) after) (has.no_shifts at) in (
      stopped_at world batch after start c has so_far.plays none,
      used_up world batch after start c has so_far.plays none,
      record {
        quiet = no_work_quiet c idle;
        no_ring = free;
        first = record { inside = shifter.inside; can = shifter.can; least = shifter.least };
        made = all_made (c.shifts at) (count_by (is_shift_of at) after) SHIFT_LIMIT counted (so_far.plays.few_shifts at)
            (λ less. idle (by_program at shifter.inside less shifter.can));
      },
      limit_played world batch after start c has so_far.plays,
    )

-- and at a rest after a phase of retries
pub ends_settled : (first c : NetworkState) (begun after : List Turn) → HasWentOn first begun c after false
    → HasNoWork c → has_ring c.world ≡ false → can_shift c.world ≡ false
    → EndsFrom first begun after c.world None
ends_settled first c begun after went idle free unshifted world batch start has p =
    let so_far = went world batch start has p in
    let rested = so_far.retried refl in
    record {
      settled = subst (λ (t : List Turn). IsSettled world batch t c.world) (sym rested.parts)
          (settled_at world rested.rested c.world batch rested.begun rested.rest rested.resting
          (record { quiet = no_work_quiet c idle; no_shift = unshifted }) free rested.ran rested.goes rested.used
          rested.counts rested.besides);
      shift_limit = limit_played world batch after start c has so_far.plays;
    }

-- in a network that is kept
pub ends_kept : (first c d : NetworkState) (begun after : List Turn) → d ≡ c → EndsFrom first begun after c.world None
    → EndsFrom first begun after d.world None
ends_kept first c d begun after same ends =
    subst (λ (state : NetworkState). EndsFrom first begun after state.world None) (sym same) ends

-- ---- a phase of retries after a rest

-- after it retries are due if a Shift came in it
pub went_retry : (first c d : NetworkState) (begun after last : List Turn) (due shifted : Bool)
    → HasWentOn first begun c after due → NoneLeft c → HasNoWork c → can_shift c.world ≡ false
    → Retries c d after last shifted → HasWentOn first begun d last shifted
went_retry first c d begun after last due shifted went none idle unshifted retries world batch start has p =
    let so_far = went world batch start has p in
    record {
      plays = plays_more start c d after last so_far.plays retries.played;
      retried = λ off. record {
        begun = after;
        rest = retries.played.made;
        rested = c.world;
        parts = retries.played.added;
        resting = record { quiet = no_work_quiet c idle; no_shift = unshifted };
        ran = ran_on world batch after start c has so_far.plays;
        goes = retries.played.plays.runs;
        used = used_up world batch after start c has so_far.plays none;
        counts = retries.retried;
        besides = MatchBool-at_false (spare_shifts d < spare_shifts c)
            (IsTrue (list_all (λ (turn : Turn). takes_or_retries turn.event) retries.played.made)) off retries.kinds;
      };
    }

-- it makes no ring where no Shift came in it
pub free_retry : (c d : NetworkState) (before after : List Turn) (shifted : Bool) → IsSound c.world
    → Retries c d before after shifted → has_ring c.world ≡ false → shifted ≡ false → has_ring d.world ≡ false
free_retry c d before after shifted sound retries free off =
    let besides = MatchBool-at_false (spare_shifts d < spare_shifts c)
    (IsTrue (list_all (λ (turn : Turn). takes_or_retries turn.event) retries.played.made)) off retries.kinds in
    rest_keeps_rings c.world d.world retries.played.made sound besides retries.played.plays.runs ∙ free

-- what a phase of retries is
pub retries_of : (a b : NetworkState) (before after : List Turn) (last : Option (ℕ × ℕ)) (shifted : Bool)
    → IsSound a.world → NoneLeft a → (on : PlaysOn true a b before after last) → some_shift on.made ≡ shifted
    → Retries a b before after shifted
retries_of a b before after last true sound none on shift =
    let plays = phase_plays true a b on.made last on.phase in
    record {
      played = record { made = on.made; added = on.added; plays = plays };
      none = none_still a b on.made plays none;
      retried = on.phase.plays.retried;
      kinds = fewer_shifts a b on.made sound plays shift;
    }
retries_of a b before after last false sound none on shift =
    let plays = phase_plays true a b on.made last on.phase in
    record {
      played = record { made = on.made; added = on.added; plays = plays };
      none = none_still a b on.made plays none;
      retried = on.phase.plays.retried;
      kinds = takes_and_retries on.made (λ who. none_made a b on.made who plays none) shift;
    }

-- ---- fewer to come

-- less by twice the Shifts, and by whether retries are due
less_by : (b c d : ℕ) (due shifted again : Bool) → (due || shifted) ≡ true → MatchBool shifted (c < b) (c ≤ b)
    → MatchBool again (d < c) (d ≤ c) → 2 * d + (if again then 1 else 0) < 2 * b + (if due then 1 else 0)
less_by b c d true true true is one two = omega arith
less_by b c d true true false is one two = omega arith
less_by b c d true false true is one two = omega arith
less_by b c d true false false is one two = omega arith
less_by b c d false true true is one two = omega arith
less_by b c d false true false is one two = omega arith
less_by b c d false false again is one two = absurd cc

-- fewer or no more, whether a Shift came or not
less_or : (shifted : Bool) (new old : ℕ) (P : Type 0) → MatchBool shifted (new < old) P → new ≤ old
    → MatchBool shifted (new < old) (new ≤ old)
less_or true new old P m no_more = m
less_or false new old P m no_more = no_more

-- so with each phase of retries fewer rests are left
pub rests_fewer : (b c d : NetworkState) (before after last : List Turn) (due shifted again : Bool) (ring : Option ℕ)
    → IsSound b.world → IsSound c.world → Rests b c before after ring shifted → Retries c d after last again
    → (due || shifted) ≡ true → rests_left d again < rests_left b due
rests_fewer b c d before after last due shifted again ring sound_b sound_c came retries on =
    less_by (spare_shifts b) (spare_shifts c) (spare_shifts d) due shifted again on
    (less_or shifted (spare_shifts c) (spare_shifts b) (IsTrue (all_take came.played.made)) came.fewer
    (no_more_shifts b c came.played.made sound_b came.played.plays))
    (less_or again (spare_shifts d) (spare_shifts c)
    (IsTrue (list_all (λ turn. takes_or_retries turn.event) retries.played.made)) retries.kinds
    (no_more_shifts c d retries.played.made sound_c retries.played.plays))

-- ---- what a rest is

-- one without a ring
pub at_rest : (c : NetworkState) (ring : Option ℕ)
    → MatchOption ring (HasNoWork c × (has_ring c.world ≡ false)) (λ at. IsFirstOnRing c.world at) → ring ≡ None
    → HasNoWork c × (has_ring c.world ≡ false)
at_rest c None m is = m
at_rest c (Some at) m is = absurd cc

-- or on a ring
pub on_ring : (c : NetworkState) (ring : Option ℕ) (at : ℕ)
    → MatchOption ring (HasNoWork c × (has_ring c.world ≡ false)) (λ slot. IsFirstOnRing c.world slot)
    → ring ≡ Some at → IsFirstOnRing c.world at
on_ring c None at m is = absurd cc
on_ring c (Some slot) at m is =
    let same : slot ≡ at = cc in subst (λ (n : ℕ). IsFirstOnRing c.world n) same m

-- the box that can shift, or that none can
pub shifter_of : (world : WorldState) (found : Option ℕ) (at : ℕ) → IsFirstShifterOr world found → found ≡ Some at
    → IsFirstShifter world at
shifter_of world found at shifter is = subst (λ (o : Option ℕ). IsFirstShifterOr world o) is shifter

pub none_shifts : (world : WorldState) (found : Option ℕ) → IsFirstShifterOr world found → found ≡ None
    → can_shift world ≡ false
none_shifts world found shifter is = subst (λ (o : Option ℕ). IsFirstShifterOr world o) is shifter
