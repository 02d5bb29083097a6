-- What a part does in a span, with what went through its ports: it is this that its loop keeps.
use Rattle.std.specs.Prelude.{◌≡◌, ℕ, ◌<◌, List, [], ◌++◌, length}
use Rattle.std.specs.List.{AllByRecursion}
use Rattle.mc_model.specs.Worlds.{WorldState}
use Rattle.mc_merge.specs.Account.{IsPartWork, PartState}
use Rattle.mc_merge.specs.Clocks.{IsClocked}
use Rattle.mc_merge.specs.Logs.{Own}
use Rattle.mc_merge.specs.Turns.{no_items}
use Rattle.mc_port.specs.declared.stamped.Stamped.{Stamped}

-- what was received and given by the port of each lane that crosses, since the port was made
pub record Ports : Type 0 where
  pub received : ℕ → List Stamped
  pub given : ℕ → List Stamped

pub record HasSpanned (tables : WorldState) (a b : PartState) (before after : Ports) (log : List Own)
    (gave put : ℕ → List Stamped) : Type 0 where
  pub work : IsPartWork tables a b log gave put
  pub clocked : IsClocked a b log gave put
  pub known : AllByRecursion (λ (own : Own). own.who < length a.boxes) log
  pub received : (lane : ℕ) → after.received lane ≡ before.received lane ++ gave lane
  pub given : (lane : ℕ) → after.given lane ≡ before.given lane ++ put lane

-- ---- laws

abbrev pub NothingIsSpan : Type 0
NothingIsSpan = (tables : WorldState) (a : PartState) (ports : Ports)
    → HasSpanned tables a a ports ports [] no_items no_items

abbrev pub SpansJoin : Type 0
SpansJoin = (tables : WorldState) (a b c : PartState) (one two three : Ports) (log log_2 : List Own)
    (gave gave_2 put put_2 : ℕ → List Stamped)
    → HasSpanned tables a b one two log gave put → HasSpanned tables b c two three log_2 gave_2 put_2
    → HasSpanned tables a c one three (log ++ log_2) (λ lane. gave lane ++ gave_2 lane)
    (λ lane. put lane ++ put_2 lane)
