-- The turns of a round: whose they are, and what each box has used of its commands, its Shifts and its retries.
use Rattle.std.proofs.Common.{◌≡◌, ◌≢◌, ◌⊎◌, inl, inr, ℕ, zero, suc, ◌+◌, ◌≤◌, ◌==◌, ◌&&◌, ◌++◌, Bool, true, false, cond, if◌then◌else◌, IsTrue, List, [], ◌∷◌, filter, length, map, nat_lt, refl, sym, ◌∙◌, ap, subst, arith, eq-eqb, ne_eqb}
use Rattle.std.specs.List.{count_by}
use Rattle.std.proofs.lemmas.Bool.{both_ways, cases_eq, cases_lt, le-ltb, lt-ltb}
use Rattle.std.proofs.lemmas.List.{length-append, length-map, map-append}
use Rattle.std.proofs.lemmas.List.Elements.{filter-append}
use Rattle.std.proofs.lemmas.List.Sums.{length-filter}
use Rattle.std.proofs.Math.Nat.{add-zero, zero-add}
use Rattle.mc_box.specs.BoxEvents.{is_command, is_enabled, is_retry, is_shift, turn_of}
use Rattle.mc_box.specs.Boxes.{BoxState, box_owes, is_slot}
use Rattle.mc_box.specs.declared.event.Event.{Event}
use Rattle.mc_box.specs.declared.event.Event.TheVariants.{Media, Retry, Set, Shift, Take, Tell}
use Rattle.mc_box.specs.declared.event.Turn.{Turn}
use Rattle.mc_box.specs.declared.limit.TheConstants.{SHIFT_LIMIT}
use Rattle.mc_team.specs.Teams.{TeamState, shifts_at, stimuli_at}
use Rattle.mc_port.specs.Entries.{Claimed, event_of, events_that}
use Rattle.mc_model.specs.Settles.{commands_of, is_retry_at, is_retry_of, is_shift_of, of_kind, world_owes}
use Rattle.mc_worker.specs.Account.{owed_below, owed_retry_of, retries_below}
use Rattle.mc_worker.specs.Rounds.{IsRound}
use Rattle.mc_worker.specs.Turns.{is_memory}
use Rattle.mc_worker.specs.declared.stop.RoundEnd.{RoundEnd}
use Rattle.mc_worker.specs.declared.worker.Worker.{Worker}

-- ---- events of a kind

-- a choice of one in front of a list
kept_one : (here : Bool) (event : Event) (events : List Event) → (if here then event ∷ [] else []) ++ events ≡ cond here (event ∷ events) events
kept_one true event events = refl
kept_one false event events = refl

-- they are those of all events
pub events_are : (test : Event → Bool) (log : List Claimed) → events_that test log ≡ filter test (map event_of log)
events_are test [] = refl
events_are test (claimed ∷ log) =
    ap (λ (l : List Event). (if test claimed.entry.event then claimed.entry.event ∷ [] else []) ++ l) (events_are test log)
    ∙ kept_one (test claimed.entry.event) claimed.entry.event (filter test (map event_of log))

-- of two lists they are those of the first, and then the others
pub events_joined : (test : Event → Bool) (first rest : List Claimed) → events_that test (first ++ rest) ≡ filter test (map event_of first) ++ events_that test rest
events_joined test first rest =
    events_are test (first ++ rest)
    ∙ (ap (filter test) (map-append event_of first rest)
    ∙ (filter-append test (map event_of first) (map event_of rest)
    ∙ ap (λ (l : List Event). filter test (map event_of first) ++ l) (sym (events_are test rest))))

-- what isn't a retry is none of a slot
retry_kind : (event : Event) (local : ℕ) → is_retry event ≡ false → is_retry_at local event ≡ false
retry_kind (Take slot) local off = refl
retry_kind (Set change) local off = refl
retry_kind (Media change) local off = refl
retry_kind (Tell word) local off = refl
retry_kind (Retry slot) local off = absurd (both_ways true off refl)
retry_kind Shift local off = refl

-- where nothing was kept nothing passed
none_kept : (here : Bool) (event : Event) (events : List Event) → (if here then event ∷ [] else []) ++ events ≡ [] → (here ≡ false) × (events ≡ [])
none_kept true event events none = absurd (cc)
none_kept false event events none = (refl, none)

-- where no retry is, there is none of a slot
pub no_retry_at : (log : List Claimed) (local : ℕ) → events_that is_retry log ≡ [] → events_that (is_retry_at local) log ≡ []
no_retry_at [] local none = refl
no_retry_at (claimed ∷ log) local none =
    let parts = none_kept (is_retry claimed.entry.event) claimed.entry.event (events_that is_retry log) none in
    rw (retry_kind claimed.entry.event local parts.0) (no_retry_at log local parts.1)

-- ---- retries of the slots that owe one

-- one where a test holds
abbrev pub one_if : Bool → ℕ
one_if test = if test then 1 else 0

-- a slot that owes a retry makes one
retry_here : (owes : Bool) (n local : ℕ) → local ≡ n → length (filter (is_retry_at local) (if owes then Retry n ∷ [] else [])) ≡ one_if owes
retry_here true n local is = rw (eq-eqb n local (sym is)) refl
retry_here false n local is = refl

-- another slot makes none of its retries
retry_else : (owes : Bool) (n local : ℕ) → local ≢ n → length (filter (is_retry_at local) (if owes then Retry n ∷ [] else [])) ≡ 0
retry_else true n local off = rw (ne_eqb n local (λ is. off (sym is))) refl
retry_else false n local off = refl

-- the numbers below the next one are those below this one, but for itself
one_more : (local n : ℕ) → (local ≡ n → ⊥) → nat_lt local (suc n) ≡ nat_lt local n
one_more local n off = elim (cases_lt local n) [
  | inl below ↦ lt-ltb local (suc n) (omega arith) ∙ sym (lt-ltb local n below)
  | inr past ↦ le-ltb local (suc n) (let other : local ≢ n = off in omega arith) ∙ sym (le-ltb local n past)
]

-- a slot more, for each slot number
last_count : (box : BoxState) (n local : ℕ) → (local ≡ n) ⊎ (local ≡ n → ⊥)
    → one_if (nat_lt local n && is_enabled box (Retry local)) + length (filter (is_retry_at local) (owed_retry_of box n)) ≡ one_if (nat_lt local (suc n) && is_enabled box (Retry local))
last_count box n local (inl is) =
    let past : nat_lt local n ≡ false = le-ltb local n (omega arith) in
    let below : nat_lt local (suc n) ≡ true = lt-ltb local (suc n) (omega arith) in
    let last : length (filter (is_retry_at local) (owed_retry_of box n)) ≡ one_if (is_enabled box (Retry n)) = retry_here (is_enabled box (Retry n)) n local is in
    let same : is_enabled box (Retry local) ≡ is_enabled box (Retry n) = ap (λ (s : ℕ). is_enabled box (Retry s)) is in
    ap (λ (b : Bool). one_if (b && is_enabled box (Retry local)) + length (filter (is_retry_at local) (owed_retry_of box n))) past
    ∙ (zero-add (length (filter (is_retry_at local) (owed_retry_of box n)))
    ∙ (last ∙ (ap one_if (sym same) ∙ ap (λ (b : Bool). one_if (b && is_enabled box (Retry local))) (sym below))))
last_count box n local (inr off) =
    let last : length (filter (is_retry_at local) (owed_retry_of box n)) ≡ 0 = retry_else (is_enabled box (Retry n)) n local off in
    ap (λ (k : ℕ). one_if (nat_lt local n && is_enabled box (Retry local)) + k) last
    ∙ (add-zero (one_if (nat_lt local n && is_enabled box (Retry local)))
    ∙ ap (λ (b : Bool). one_if (b && is_enabled box (Retry local))) (sym (one_more local n off)))

-- one for each below a number
owed_count : (box : BoxState) (n local : ℕ) → length (filter (is_retry_at local) (owed_below box n)) ≡ one_if (nat_lt local n && is_enabled box (Retry local))
owed_count box zero local = ap (λ (b : Bool). one_if (b && is_enabled box (Retry local))) (sym (le-ltb local 0 (omega arith)))
owed_count box (suc n) local =
    ap (λ (l : List Event). length l) (filter-append (is_retry_at local) (owed_below box n) (owed_retry_of box n))
    ∙ (length-append (filter (is_retry_at local) (owed_below box n)) (filter (is_retry_at local) (owed_retry_of box n))
    ∙ (ap (λ (k : ℕ). k + length (filter (is_retry_at local) (owed_retry_of box n))) (owed_count box n local)
    ∙ last_count box n local (cases_eq local n)))

-- a test that stands twice
twice : (a b : Bool) → (a && (a && b)) ≡ (a && b)
twice true b = refl
twice false b = refl

-- so one for each slot that owes one
owed_all : (box : BoxState) (local : ℕ) → length (filter (is_retry_at local) (owed_below box (length box.slots))) ≡ one_if (is_enabled box (Retry local))
owed_all box local = owed_count box (length box.slots) local ∙ ap one_if (twice (is_slot box local) (box_owes box local))

-- in a round that asks for retries, or none
retry_count : (retries : Bool) (box : BoxState) (below local : ℕ) → below ≡ length box.slots → length (filter (is_retry_at local) (retries_below retries box below)) ≡ one_if (retries && is_enabled box (Retry local))
retry_count true box below local is = ap (λ (n : ℕ). length (filter (is_retry_at local) (owed_below box n))) is ∙ owed_all box local
retry_count false box below local is = refl

-- ---- what a box has used

-- a box used its first commands, made Shifts, and made a retry for each slot that owed one, where they were asked for
pub record BoxAccount (retries : Bool) (old new : TeamState) (log : List Claimed) (who : ℕ) : Type 0 where
  pub stimuli : events_that is_command log ++ stimuli_at new who ≡ stimuli_at old who
  pub shifts : shifts_at new who ≡ shifts_at old who + length (events_that is_shift log)
  pub few : shifts_at new who ≤ SHIFT_LIMIT
  pub retried : (local : ℕ) → length (events_that (is_retry_at local) log) ≡ one_if (retries && world_owes old.world who local)

-- a round that wasn't cut has the other of two things
no_cut : (cut : Bool) (P : Type 0) → cut ≡ false → IsTrue cut ⊎ P → P
no_cut cut P off (inl on) = absurd (both_ways cut off on)
no_cut cut P off (inr p) = p

-- a round that didn't stop for want of memory has made the retries of all slots
pub all_below : (retries : Bool) (b c : Worker) (end : RoundEnd) (round : IsRound retries b c end) → is_memory end.stop ≡ false → round.account.below ≡ length b.part.slots
all_below retries b c end round whole = no_cut (is_memory end.stop) (round.account.below ≡ length b.part.slots) whole round.account.whole

-- the retries of a round, slot by slot
retries_made : (retries : Bool) (b c : Worker) (end : RoundEnd) (round : IsRound retries b c end) (local : ℕ) → is_memory end.stop ≡ false
    → length (events_that (is_retry_at local) round.log) ≡ one_if (retries && is_enabled b.part (Retry local))
retries_made retries b c end round local whole =
    let account = round.account in
    ap (λ (l : List Claimed). length (events_that (is_retry_at local) l)) account.parts
    ∙ (ap (λ (l : List Event). length l) (events_joined (is_retry_at local) account.first account.rest)
    ∙ (length-append (filter (is_retry_at local) (map event_of account.first)) (events_that (is_retry_at local) account.rest)
    ∙ (ap (λ (l : List Event). length (filter (is_retry_at local) (map event_of account.first)) + length l) (no_retry_at account.rest local account.no_other)
    ∙ (add-zero (length (filter (is_retry_at local) (map event_of account.first)))
    ∙ (ap (λ (l : List Event). length (filter (is_retry_at local) l)) account.retried
    ∙ retry_count retries b.part account.below local (all_below retries b c end round whole))))))

-- a box that made a round
pub round_account : (retries : Bool) (old new : TeamState) (log : List Claimed) (who : ℕ) (b c : Worker) (end : RoundEnd) (round : IsRound retries b c end) → log ≡ round.log → is_memory end.stop ≡ false
    → stimuli_at old who ≡ b.stimuli.items → stimuli_at new who ≡ c.stimuli.items → shifts_at old who ≡ b.shifts → shifts_at new who ≡ c.shifts
    → ((local : ℕ) → world_owes old.world who local ≡ is_enabled b.part (Retry local)) → BoxAccount retries old new log who
round_account retries old new log who b c end round own whole old_stimuli new_stimuli old_shifts new_shifts owes = record {
  stimuli = ap (λ (l : List Claimed). events_that is_command l ++ stimuli_at new who) own
      ∙ (ap (λ (l : List Event). events_that is_command round.log ++ l) new_stimuli ∙ (round.account.work.stimuli ∙ sym old_stimuli));
  shifts = new_shifts
      ∙ (round.account.work.shifts ∙ (ap (λ (n : ℕ). n + length (events_that is_shift round.log)) (sym old_shifts)
      ∙ ap (λ (l : List Claimed). shifts_at old who + length (events_that is_shift l)) (sym own)));
  few = subst (λ (n : ℕ). n ≤ SHIFT_LIMIT) (sym new_shifts) round.account.few_shifts;
  retried = λ local.
      ap (λ (l : List Claimed). length (events_that (is_retry_at local) l)) own
      ∙ (retries_made retries b c end round local whole ∙ ap (λ (t : Bool). one_if (retries && t)) (sym (owes local)));
}

-- and one that made none
pub idle_account : (retries : Bool) (old new : TeamState) (log : List Claimed) (who : ℕ) → log ≡ [] → stimuli_at new who ≡ stimuli_at old who → shifts_at new who ≡ shifts_at old who → shifts_at new who ≤ SHIFT_LIMIT
    → ((local : ℕ) → (retries && world_owes old.world who local) ≡ false) → BoxAccount retries old new log who
idle_account retries old new log who none stimuli shifts few owes = record {
  stimuli = ap (λ (l : List Claimed). events_that is_command l ++ stimuli_at new who) none ∙ stimuli;
  shifts = shifts ∙ (sym (add-zero (shifts_at old who)) ∙ ap (λ (l : List Claimed). shifts_at old who + length (events_that is_shift l)) (sym none));
  few = few;
  retried = λ local. ap (λ (l : List Claimed). length (events_that (is_retry_at local) l)) none ∙ ap one_if (sym (owes local));
}

-- ---- so the turns have of each box

-- of each kind, just the events of its log
abbrev pub AreOwn : List Turn → ℕ → List Claimed → Type 0
AreOwn turns who log = (kind : Event → Bool) → of_kind kind who turns ≡ map (turn_of who) (events_that kind log)

-- so the commands of the turns, and those that are left, are those that were there
pub commands_used : (retries : Bool) (old new : TeamState) (turns : List Turn) (log : List Claimed) (who : ℕ) → AreOwn turns who log → BoxAccount retries old new log who
    → commands_of who turns ++ map (turn_of who) (stimuli_at new who) ≡ map (turn_of who) (stimuli_at old who)
commands_used retries old new turns log who own account =
    ap (λ (l : List Turn). l ++ map (turn_of who) (stimuli_at new who)) (own is_command)
    ∙ (sym (map-append (turn_of who) (events_that is_command log) (stimuli_at new who)) ∙ ap (map (turn_of who)) account.stimuli)

-- and the turns of a kind are as many as in the log
pub own_count : (turns : List Turn) (log : List Claimed) (who : ℕ) (kind : Event → Bool) → AreOwn turns who log → count_by (λ (turn : Turn). kind turn.event && turn.who == who) turns ≡ length (events_that kind log)
own_count turns log who kind own =
    sym (length-filter (λ (turn : Turn). kind turn.event && turn.who == who) turns)
    ∙ (ap (λ (l : List Turn). length l) (own kind) ∙ length-map (events_that kind log) (turn_of who))

-- and as many Shifts
pub shifts_made : (retries : Bool) (old new : TeamState) (turns : List Turn) (log : List Claimed) (who : ℕ) → AreOwn turns who log → BoxAccount retries old new log who
    → shifts_at new who ≡ shifts_at old who + count_by (is_shift_of who) turns
shifts_made retries old new turns log who own account = account.shifts ∙ ap (λ (n : ℕ). shifts_at old who + n) (sym (own_count turns log who is_shift own))

-- and as many retries, slot by slot
pub retries_counted : (retries : Bool) (old new : TeamState) (turns : List Turn) (log : List Claimed) (who local : ℕ) → AreOwn turns who log → BoxAccount retries old new log who
    → count_by (is_retry_of who local) turns ≡ (if retries && world_owes old.world who local then 1 else 0)
retries_counted retries old new turns log who local own account = own_count turns log who (is_retry_at local) own ∙ account.retried local
