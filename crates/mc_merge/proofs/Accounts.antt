-- The account of one lane: each taking takes the next signal, which was under way before or was sent with a lower stamp.
use Rattle.std.proofs.Common.{◌≡◌, ℕ, ◌+◌, ◌<◌, ◌≤◌, suc, List, [], ◌∷◌, ◌++◌, drop, length, map, Some, append_assoc, refl, ap, sym, ◌∙◌, arith}
use Rattle.std.specs.List.{AllByRecursion, slice_get}
use Rattle.mc_signal.specs.declared.Tagged.{Tagged}
use Rattle.mc_merge.specs.LaneLogs.{without_stamps}
use Rattle.mc_merge.specs.Merging.{LaneKeeps}
use Rattle.mc_port.specs.Ends.{with_stamp, without_stamp}
use Rattle.mc_port.specs.declared.stamped.Stamped.{Stamped}

abbrev pub Follows : List Stamped → List Tagged → List Stamped → List Tagged → Type 0
Follows [] lane sent rest = rest ≡ lane ++ without_stamps sent
Follows (taking ∷ taken) [] [] rest = ⊥
Follows (taking ∷ taken) [] (sending ∷ sent) rest = (without_stamp taking ≡ without_stamp sending) × (sending.stamp < taking.stamp) × Follows taken [] sent rest
Follows (taking ∷ taken) (tagged ∷ lane) sent rest = (without_stamp taking ≡ tagged) × Follows taken lane sent rest

-- ---- what the law asks for is such an account

abbrev Later : ℕ → List Stamped → List Stamped → Type 0
Later under taken sent = (j k : ℕ) (taking sending : Stamped) → j ≡ under + k → slice_get taken j ≡ Some taking → slice_get sent k ≡ Some sending → sending.stamp < taking.stamp

follows_by : (taken : List Stamped) (lane : List Tagged) (sent : List Stamped) (rest : List Tagged) → without_stamps taken ++ rest ≡ lane ++ without_stamps sent → Later (length lane) taken sent → Follows taken lane sent rest
follows_by [] lane sent rest order later = order
follows_by (taking ∷ taken) [] [] rest order later = absurd (cc)
follows_by (taking ∷ taken) [] (sending ∷ sent) rest order later = (
  cc,
  later 0 0 taking sending refl refl refl,
  follows_by taken [] sent rest (cc) (λ j k t s is at_taken at_sent. later (suc j) (suc k) t s (omega arith) at_taken at_sent),
)
follows_by (taking ∷ taken) (tagged ∷ lane) sent rest order later = (
  cc,
  follows_by taken lane sent rest (cc) (λ j k t s is at_taken at_sent. later (suc j) k t s (omega arith) at_taken at_sent),
)

pub follows : (taken : List Stamped) (lane : List Tagged) (sent : List Stamped) (rest : List Tagged) → LaneKeeps lane taken sent rest → Follows taken lane sent rest
follows taken lane sent rest keeps = follows_by taken lane sent rest keeps.order keeps.later

-- ---- one event

-- what an event takes stands at the front of the lane, where nothing is sent with a lower stamp any more
pub record Splits (now : List Tagged) (taken : List Stamped) (lane : List Tagged) (sent : List Stamped) (rest : List Tagged) : Type 0 where
  pub is : lane ≡ now ++ drop (length now) lane
  pub next : Follows taken (drop (length now) lane) sent rest

pub splits : (now : List Tagged) (stamp : ℕ) (taken : List Stamped) (lane : List Tagged) (sent : List Stamped) (rest : List Tagged) → AllByRecursion (λ (s : Stamped). stamp ≤ s.stamp) sent
    → Follows (map (with_stamp stamp) now ++ taken) lane sent rest → Splits now taken lane sent rest
splits [] stamp taken lane sent rest late is = record { is = refl; next = is }
splits (tagged ∷ now) stamp taken [] [] rest late is = absurd is
splits (tagged ∷ now) stamp taken [] (sending ∷ sent) rest late is =
    let early : sending.stamp < stamp = is.1 in
    let low : stamp ≤ sending.stamp = late.0 in
    absurd (omega arith)
splits (tagged ∷ now) stamp taken (first ∷ lane) sent rest late is =
    let later = splits now stamp taken lane sent rest late is.1 in
    let same : tagged ≡ first = is.0 in
    record { is = ap (λ (p : Tagged). p ∷ lane) (sym same) ∙ ap (λ (l : List Tagged). tagged ∷ l) later.is; next = later.next }

pub without_stamps_sent : (now : List Tagged) (stamp : ℕ) (sent : List Stamped) → without_stamps (map (with_stamp stamp) now ++ sent) ≡ now ++ without_stamps sent
without_stamps_sent [] stamp sent = refl
without_stamps_sent (tagged ∷ now) stamp sent = ap (λ (l : List Tagged). tagged ∷ l) (without_stamps_sent now stamp sent)

-- what an event sends is under way from then on
pub moves : (now : List Tagged) (stamp : ℕ) (taken : List Stamped) (lane : List Tagged) (sent : List Stamped) (rest : List Tagged)
    → Follows taken lane (map (with_stamp stamp) now ++ sent) rest → Follows taken (lane ++ now) sent rest
moves now stamp [] lane sent rest is = is ∙ (ap (λ (l : List Tagged). lane ++ l) (without_stamps_sent now stamp sent) ∙ sym (append_assoc lane now (without_stamps sent)))
moves now stamp (taking ∷ taken) (tagged ∷ lane) sent rest is = (is.0, moves now stamp taken lane sent rest is.1)
moves [] stamp (taking ∷ taken) [] sent rest is = is
moves (tagged ∷ now) stamp (taking ∷ taken) [] sent rest is = (is.0, moves now stamp taken [] sent rest is.2)
