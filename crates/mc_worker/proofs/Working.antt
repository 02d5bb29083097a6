-- Whether there is work, and a round that had some.
use Rattle.std.proofs.Common.{◌≡◌, ◌≢◌, ℕ, zero, suc, ◌≤◌, ◌<◌, ◌==◌, ◌⊎◌, inl, inr, IfSome, IfNone, Bool, true, false, Option, Some, None, MatchBool, IsTrue, is_some, if◌then◌else◌, List, [], ◌∷◌, ◌++◌, map, length, slice_get, refl, sym, ◌∙◌, ap, subst, arith}
use Rattle.std.proofs.lemmas.Bool.{and_parts, cases_lt}
use Rattle.std.proofs.lemmas.List.{append-nil, length-map}
use Rattle.mc_box.specs.BoxEvents.{is_enabled}
use Rattle.mc_box.specs.Boxes.{BoxState, box_owes, is_slot}
use Rattle.mc_box.specs.declared.event.Event.{Event}
use Rattle.mc_box.specs.declared.event.Event.TheVariants.{Retry, Shift}
use Rattle.mc_box.specs.declared.limit.TheConstants.{SHIFT_LIMIT}
use Rattle.mc_box.proofs.Changes.{slot_inside}
use Rattle.mc_port.specs.Entries.{Claimed, event_of}
use Rattle.mc_port.specs.Ends.{in_ring}
use Rattle.mc_port.specs.declared.stamped.Stamped.{Stamped}
use Rattle.mc_signal.specs.declared.Tagged.{Tagged}
use Rattle.mc_worker.specs.Account.{IsAccount, in_at, owed_below, owed_retry_of}
use Rattle.mc_worker.specs.Ends.{InAccount, InEnd, IsIdle, Passed, next_in, unclaimed}
use Rattle.mc_worker.specs.Boxes.{AreEmpty, box_of}
use Rattle.mc_worker.specs.Rounds.{AllIdle, HasWaitingWork, HasWork, HasStopped, IsRound, OwesRetry, by_retry, by_shift, by_signal, by_stimulus, waiting_retry, waiting_shift, waiting_signal, waiting_stimulus}
use Rattle.mc_worker.specs.Turns.{AllPassed, IsNextAt, is_memory}
use Rattle.mc_worker.specs.declared.stop.RoundEnd.{RoundEnd}
use Rattle.mc_worker.specs.declared.stop.Stop.{Stop}
use Rattle.mc_worker.specs.declared.stop.Stop.TheVariants.{Rested}
use Rattle.mc_worker.specs.declared.worker.Worker.{Worker}

-- no shift is left to make
abbrev pub NoShift : Worker → Type 0
NoShift worker = (is_enabled worker.part Shift ≡ false) ⊎ (SHIFT_LIMIT ≤ worker.shifts)

-- an empty list
pub nil_of : {X : Type 0} (xs : List X) → (length xs == 0) ≡ true → xs ≡ []
nil_of [] is = refl
nil_of (x ∷ xs) is = absurd (not_none (length xs) is)
  where
    not_none : (n : ℕ) → (suc n == 0) ≡ true → ⊥
    not_none n is = grind arith

none_next : (end from : ℕ) (a b : InEnd) (item : Stamped) → (end < from → ⊥) → Passed from end a b → next_in b ≡ Some item → ⊥
none_next end from a b item off (inl same) next = off same.0
none_next end from a b item off (inr idle) next = let nothing = rw (idle.inbox, idle.known) at next in cc

no_work : (retries : Bool) (a b : Worker) → b.stimuli.items ≡ [] → NoShift b → (IsTrue retries × OwesRetry b.part → ⊥) → AllPassed 0 (length b.ins.items) a b → HasWork retries b → ⊥
no_work retries a b none cant unowed idle (by_stimulus some) = some none
no_work retries a b none (inl off) unowed idle (by_shift less on) = cc
no_work retries a b none (inr most) unowed idle (by_shift less on) = absurd (omega (arith, most, less))
no_work retries a b none cant unowed idle (by_signal end item inside next) = none_next end 0 (in_at a end) (in_at b end) item (λ h. absurd (omega (arith, h))) (idle end inside) next
no_work retries a b none cant unowed idle (by_retry on owes) = unowed (on, owes)

-- there is work just where something is found at an end, where there is nothing else
pub work_found : (found : Option (ℕ × Stamped)) (retries : Bool) (a b : Worker) (passed : ℕ) → b.stimuli.items ≡ [] → NoShift b → (IsTrue retries × OwesRetry b.part → ⊥)
    → length b.ins.items ≡ length a.ins.items → IfSome found (IsNextAt b passed) → IfNone found (passed ≡ length a.ins.items)
    → AllPassed 0 passed a b → MatchBool (is_some found) (HasWork retries b) (HasWork retries b → ⊥)
work_found (Some f) retries a b passed none cant unowed ports next last all = by_signal f.0 f.1 next.there next.next
work_found None retries a b passed none cant unowed ports next last all = no_work retries a b none cant unowed (λ e h. all e (omega (arith, last, ports, h)))

-- ---- what waits before any ring is looked at

none_waits : (retries : Bool) (w : Worker) → w.stimuli.items ≡ [] → NoShift w → (IsTrue retries × OwesRetry w.part → ⊥) → AreEmpty w.inboxes → HasWaitingWork retries w → ⊥
none_waits retries w none cant unowed empty (waiting_stimulus some) = some none
none_waits retries w none (inl off) unowed empty (waiting_shift less on) = cc
none_waits retries w none (inr most) unowed empty (waiting_shift less on) = absurd (omega (arith, most, less))
none_waits retries w none cant unowed empty (waiting_signal end some) = some (empty end)
none_waits retries w none cant unowed empty (waiting_retry on owes) = unowed (on, owes)

first_some : (tagged : Tagged) (lane : List Tagged) → slice_get lane 0 ≡ Some tagged → lane ≢ []
first_some tagged [] is = cc
first_some tagged (one ∷ lane) is = λ none. absurd (not_nil none)
  where
    not_nil : one ∷ lane ≡ [] → ⊥
    not_nil e = cc

-- something waits just where an inbox has something, where there is nothing else
pub waiting_found : (found : Option (ℕ × Tagged)) (retries : Bool) (w : Worker) → w.stimuli.items ≡ [] → NoShift w → (IsTrue retries × OwesRetry w.part → ⊥)
    → IfSome found (λ f. slice_get (box_of w.inboxes f.0) 0 ≡ Some f.1) → IfNone found (AreEmpty w.inboxes) → MatchBool (is_some found) (HasWaitingWork retries w) (HasWaitingWork retries w → ⊥)
waiting_found (Some f) retries w none cant unowed first empty = waiting_signal f.0 (first_some f.1 (box_of w.inboxes f.0) first)
waiting_found None retries w none cant unowed first empty = none_waits retries w none cant unowed empty

-- ---- a round that had work, and made no turn

no_items : (log : List Claimed) → length log ≡ 0 → log ≡ []
no_items [] e = refl
no_items (claimed ∷ log) e = cc

no_front : (xs ys : List Claimed) → [] ≡ xs ++ ys → xs ≡ []
no_front [] ys e = refl
no_front (x ∷ xs) ys e = cc

no_end : (xs : List Event) (y : Event) → xs ++ y ∷ [] ≢ []
no_end [] y e = cc
no_end (x ∷ xs) y e = cc

front_none : (xs ys : List Event) → xs ++ ys ≡ [] → xs ≡ []
front_none [] ys e = refl
front_none (x ∷ xs) ys e = cc

enabled_inside : (box : BoxState) (slot : ℕ) → is_enabled box (Retry slot) ≡ true → slot < length box.slots
enabled_inside box slot owed = slot_inside box slot (and_parts (is_slot box slot) (box_owes box slot) owed).0

-- what some slot owes is among what all owe
owed_in : (n slot : ℕ) (box : BoxState) → slot < n → is_enabled box (Retry slot) ≡ true → owed_below box n ≢ []
owed_in zero slot box inside owed none = absurd (omega arith)
owed_in (suc n) slot box inside owed none = elim (cases_lt slot n) [
  | inl less ↦ owed_in n slot box less owed (front_none (owed_below box n) (owed_retry_of box n) none)
  | inr past ↦
      let same : slot ≡ n = omega arith in
      let one : owed_retry_of box n ≡ Retry n ∷ [] = ap (λ (test : Bool). if test then Retry n ∷ [] else []) (subst (λ (k : ℕ). is_enabled box (Retry k) ≡ true) same owed) in
      no_end (owed_below box n) (Retry n) (ap (λ (l : List Event). owed_below box n ++ l) (sym one) ∙ none)
]

nothing_known : (got known rest : List Stamped) → (got ++ known) ++ rest ≡ got → known ≡ []
nothing_known [] [] rest e = refl
nothing_known [] (x ∷ known) rest e = cc
nothing_known (y ∷ got) known rest e = nothing_known got known rest (cc)

nothing_left : (pairs : List Tagged) (gave : List Stamped) → [] ≡ map unclaimed pairs ++ gave → (pairs ≡ []) × (gave ≡ [])
nothing_left [] gave e = (refl, sym e)
nothing_left (pair ∷ pairs) gave e = cc

-- an end at which nothing was taken and nothing is left had nothing
was_idle : (a b : InEnd) (item : Stamped) → InAccount a b [] → IsIdle a b → next_in a ≡ Some item → ⊥
was_idle a b item account idle next =
    let inbox = rw idle.inbox at account.order in
    let none = nothing_left a.inbox account.gave inbox in
    let ring : b.got ≡ a.got = account.ring ∙ (ap (λ (l : List Stamped). a.got ++ l) none.1 ∙ append-nil a.got) in
    let all : (a.got ++ a.known) ++ account.knows.0 ≡ a.got =
    account.knows.1 ∙ (ap (λ (l : List Stamped). b.got ++ l) idle.known ∙ (append-nil b.got ∙ ring)) in
    let known : a.known ≡ [] = nothing_known a.got a.known account.knows.0 all in
    let nothing = rw (none.0, known) at next in cc

same_count : (a b : Worker) → map in_ring b.ins.items ≡ map in_ring a.ins.items → length b.ins.items ≡ length a.ins.items
same_count a b same = sym (length-map b.ins.items in_ring) ∙ (ap length same ∙ length-map a.ins.items in_ring)

had_work : (retries : Bool) (a b : Worker) (account : IsAccount retries false a b []) → HasStopped (AllIdle a b) b Rested → HasWork retries a → ⊥
had_work retries a b account cause (by_stimulus some) = some (sym account.work.stimuli ∙ cause.0)
had_work retries a b account cause (by_shift less on) = elim cause.1 [
  | inl off ↦ let same : is_enabled a.part Shift ≡ false = ap (λ (box : BoxState). is_enabled box Shift) account.work.made ∙ off in cc
  | inr most ↦ absurd (let shifts = account.work.shifts in omega (arith, most, less, shifts))
]
had_work retries a b account cause (by_signal end item inside next) =
    was_idle (in_at a end) (in_at b end) item (account.work.ins end) (cause.2 end (omega (arith, inside, same_count a b account.work.in_rings))) next
had_work false a b account cause (by_retry on owes) = cc
had_work true a b account cause (by_retry on owes) =
    let none : account.first ≡ [] = no_front account.first account.rest account.parts in
    let owing : owed_below a.part account.below ≡ [] = sym account.retried ∙ ap (λ (l : List Claimed). map event_of l) none in
    elim account.whole [
      | inl cut ↦ absurd (cc)
      | inr whole ↦ owed_in account.below owes.slot a.part (subst (λ (n : ℕ). owes.slot < n) (sym whole) (enabled_inside a.part owes.slot owes.owed)) owes.owed owing
    ]

-- it didn't rest
pub rested_idle : (retries : Bool) (a b : Worker) (end : RoundEnd) → IsRound retries a b end → HasStopped (AllIdle a b) b end.stop → HasWork retries a → end.turns ≡ 0 → end.stop ≡ Rested → ⊥
rested_idle retries a b end round cause work none rested =
    let log : round.log ≡ [] = no_items round.log (sym round.turns ∙ none) in
    had_work retries a b (subst (λ (l : List Claimed). IsAccount retries false a b l) log (subst (λ (stop : Stop). IsAccount retries (is_memory stop) a b round.log) rested round.account))
    (subst (λ (stop : Stop). HasStopped (AllIdle a b) b stop) rested cause) work

pub not_rested : (stop : Stop) → IsTrue (is_memory stop) → stop ≡ Rested → ⊥
not_rested stop memory rested = let off : IsTrue (is_memory Rested) = subst (λ (s : Stop). IsTrue (is_memory s)) rested memory in cc
