-- The statuses of scripts that ended.
use Rattle.std.proofs.Common.{◌≡◌, ◌⊎◌, ℕ, false, inl, inr, subst}
use Rattle.mc_call.specs.Statuses.{keeps_journal, stop_status}
use Rattle.mc_seq.specs.declared.stopping.SettleStop.{SettleStop}
use Rattle.mc_seq.specs.declared.stopping.SettleStop.TheVariants.{Restless, Ring, VersionEnd}

-- the status of work that was done keeps the journal
pub kept_zero : (due : ℕ) → due ≡ 0 → keeps_journal due ≡ false → ⊥
kept_zero due none some = let here : keeps_journal 0 ≡ false = subst (λ (n : ℕ). keeps_journal n ≡ false) none some in cc

-- the status of a stop is that of a fault, of a restless box or of a ring, and each keeps the journal
pub stop_by : (stop : SettleStop) (due : ℕ) → due ≡ stop_status stop → (due ≡ 1) ⊎ (due ≡ 6) ⊎ (due ≡ 7)
stop_by (VersionEnd at) due is = inl is
stop_by (Restless at) due is = inr (inl is)
stop_by (Ring at) due is = inr (inr is)

pub stop_keeps : (stop : SettleStop) (due : ℕ) → due ≡ stop_status stop → keeps_journal due ≡ false → ⊥
stop_keeps (VersionEnd at) due is some = let here : keeps_journal 1 ≡ false = subst (λ (n : ℕ). keeps_journal n ≡ false) is some in cc
stop_keeps (Restless at) due is some = let here : keeps_journal 6 ≡ false = subst (λ (n : ℕ). keeps_journal n ≡ false) is some in cc
stop_keeps (Ring at) due is some = let here : keeps_journal 7 ≡ false = subst (λ (n : ℕ). keeps_journal n ≡ false) is some in cc
