-- How great the stamps of parts get.
use Rattle.std.specs.Prelude.{◌≡◌, ◌⊎◌, ℕ, zero, suc, ◌+◌, ◌<◌, ◌≤◌, All, Contains, List, [], ◌∷◌, ◌++◌, length, map}
use Rattle.mc_merge.specs.Account.{PartState}
use Rattle.mc_merge.specs.Logs.{Own}
use Rattle.mc_merge.specs.Together.{Ran}
use Rattle.mc_merge.specs.Turns.{IsTurn, no_items}
use Rattle.mc_model.specs.Worlds.{WorldState}
use Rattle.mc_port.specs.declared.stamped.Stamped.{Stamped}

abbrev pub own_stamps : List Own → List ℕ
own_stamps log = map (λ (own : Own). own.entry.stamp) log

abbrev pub item_stamps : List Stamped → List ℕ
item_stamps items = map (λ (item : Stamped). item.stamp) items

-- a stamp of a turn, or that of the last turn before
abbrev pub IsMadeStamp : PartState → List Own → ℕ → Type 0
IsMadeStamp a log stamp = (a.stamp ≡ stamp) ⊎ Contains (own_stamps log) stamp

-- a stamp of what came, or the greatest of what came before
abbrev pub IsHeardStamp : PartState → (ℕ → List Stamped) → ℕ → Type 0
IsHeardStamp a gave stamp = (a.heard ≡ stamp) ⊎ ((lane : ℕ) × Contains (item_stamps (gave lane)) stamp)

-- a stamp is one more than one that was made or heard, and what goes out has one that was made
pub record IsClocked (a b : PartState) (log : List Own) (gave put : ℕ → List Stamped) : Type 0 where
  pub stamp : IsMadeStamp a log b.stamp
  pub heard : IsHeardStamp a gave b.heard
  pub turns : (k : ℕ) → Contains (own_stamps log) (k + 1) → IsMadeStamp a log k ⊎ IsHeardStamp a gave k
  pub puts : (lane k : ℕ) → Contains (item_stamps (put lane)) k → IsMadeStamp a log k

-- all of so many parts begin from 0, and what came to one went out of one
pub record AreClocked (count : ℕ) (parts : ℕ → Ran) : Type 0 where
  pub clocked : (part : ℕ) → part < count → IsClocked (parts part).old (parts part).new (parts part).log
      (parts part).gave (parts part).put
  pub stamp : (part : ℕ) → part < count → (parts part).old.stamp ≡ 0
  pub heard : (part : ℕ) → part < count → (parts part).old.heard ≡ 0
  pub rings : (part lane k : ℕ) → part < count → Contains (item_stamps ((parts part).gave lane)) k
      → (from : ℕ) × (from < count) × ((outer : ℕ) × Contains (item_stamps ((parts from).put outer)) k)

-- the stamps of the parts below a number
abbrev pub stamps_below : ℕ → (ℕ → Ran) → List ℕ
stamps_below zero parts = []
stamps_below (suc part) parts = stamps_below part parts ++ own_stamps (parts part).log

-- no stamp is above the number of all turns
abbrev pub PartStampsFit : Type 0
PartStampsFit = (count : ℕ) (parts : ℕ → Ran) → AreClocked count parts
    → All (λ stamp. stamp ≤ length (stamps_below count parts)) (stamps_below count parts)

-- what is clocked in two goes is clocked in one
abbrev pub ClocksJoin : Type 0
ClocksJoin = (a b c : PartState) (log log_2 : List Own) (gave gave_2 put put_2 : ℕ → List Stamped)
    → IsClocked a b log gave put → IsClocked b c log_2 gave_2 put_2
    → IsClocked a c (log ++ log_2) (λ lane. gave lane ++ gave_2 lane) (λ lane. put lane ++ put_2 lane)

-- and a turn is
abbrev pub TurnsAreClocked : Type 0
TurnsAreClocked = (tables : WorldState) (a b : PartState) (own : Own) → IsTurn tables a b own
    → IsClocked a b (own ∷ []) no_items no_items
