-- What the entries of a part use up and count, box by box.
use Rattle.std.specs.Prelude.{◌≡◌, ◌≢◌, if◌then◌else◌, ℕ, ◌+◌, ◌≤◌, List, [], ◌∷◌, ◌++◌}
use Rattle.mc_box.specs.declared.event.Event.{Event}
use Rattle.mc_box.specs.declared.event.Event.TheVariants.{Take, Retry, Shift}
use Rattle.mc_box.specs.declared.limit.TheConstants.{SHIFT_LIMIT}
use Rattle.mc_port.specs.Entries.{Entry}
use Rattle.mc_merge.specs.Phases.{IsUse}
use Rattle.mc_model.specs.Settles.{is_retry_at}
use Rattle.mc_merge.specs.Logs.{Own, own_log}

-- two goes of a box are one
abbrev pub UsesJoin : Type 0
UsesJoin = (retries retries_2 : ℕ → ℕ) (entries entries_2 : List Entry) (stimuli stimuli_2 stimuli_3 : List Event)
    (shifts shifts_2 shifts_3 : ℕ)
    → IsUse retries entries stimuli stimuli_2 shifts shifts_2
    → IsUse retries_2 entries_2 stimuli_2 stimuli_3 shifts_2 shifts_3
    → IsUse (λ local. retries local + retries_2 local) (entries ++ entries_2) stimuli stimuli_3 shifts shifts_3

-- one event of a box: a command is the first of those that were left, and a Shift counts
abbrev pub UsesOne : Event → (stimuli stimuli_2 : List Event) → (shifts shifts_2 : ℕ) → Type 0
UsesOne (Take local) stimuli stimuli_2 shifts shifts_2 = (stimuli ≡ stimuli_2) × (shifts_2 ≡ shifts)
UsesOne (Retry local) stimuli stimuli_2 shifts shifts_2 = (stimuli ≡ stimuli_2) × (shifts_2 ≡ shifts)
UsesOne Shift stimuli stimuli_2 shifts shifts_2 = (stimuli ≡ stimuli_2) × (shifts_2 ≡ shifts + 1)
UsesOne event stimuli stimuli_2 shifts shifts_2 = (stimuli ≡ event ∷ stimuli_2) × (shifts_2 ≡ shifts)

abbrev pub retry_count : Event → ℕ → ℕ
retry_count event local = if is_retry_at local event then 1 else 0

-- the commands that are left to each box of a part, the Shifts that it has made, and its retries
pub record Uses : Type 0 where
  pub stimuli : ℕ → List Event
  pub shifts : ℕ → ℕ
  pub retries : ℕ → ℕ → ℕ

abbrev pub AreOwnUses : List Own → (before after : Uses) → Type 0
AreOwnUses log before after = (at : ℕ) → IsUse (after.retries at) (own_log at log) (before.stimuli at)
    (after.stimuli at) (before.shifts at) (after.shifts at)

-- one entry more, and nothing changes for other boxes
pub record UsesMore (own : Own) (before after : Uses) : Type 0 where
  pub one : UsesOne own.entry.event (before.stimuli own.who) (after.stimuli own.who) (before.shifts own.who)
      (after.shifts own.who)
  pub few : after.shifts own.who ≤ SHIFT_LIMIT
  pub retries : (local : ℕ)
      → after.retries own.who local ≡ before.retries own.who local + retry_count own.entry.event local
  pub stimuli_stay : (other : ℕ) → other ≢ own.who → after.stimuli other ≡ before.stimuli other
  pub shifts_stay : (other : ℕ) → other ≢ own.who → after.shifts other ≡ before.shifts other
  pub retries_stay : (other local : ℕ) → other ≢ own.who → after.retries other local ≡ before.retries other local

abbrev pub UsesBegin : Type 0
UsesBegin = (uses : Uses) → ((at : ℕ) → uses.shifts at ≤ SHIFT_LIMIT) → ((at local : ℕ) → uses.retries at local ≡ 0)
    → AreOwnUses [] uses uses

abbrev pub UsesGoOn : Type 0
UsesGoOn = (log : List Own) (own : Own) (first before after : Uses) → AreOwnUses log first before
    → UsesMore own before after → AreOwnUses (log ++ own ∷ []) first after

-- and of all boxes: the retries of both goes are counted
abbrev pub OwnUsesJoin : Type 0
OwnUsesJoin = (log log_2 : List Own) (a b c : Uses) → AreOwnUses log a b → AreOwnUses log_2 b c
    → AreOwnUses (log ++ log_2) a (record c { retries = λ at local. b.retries at local + c.retries at local })
