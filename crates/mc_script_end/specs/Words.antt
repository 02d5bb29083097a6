-- What was told in first worlds.
use Rattle.std.specs.Prelude.{◌≡◌, ℕ, None}
use Rattle.mc_model.specs.Worlds.{WorldState, box_at}
use Rattle.mc_lines.specs.SoFar.{Declared}
use Rattle.mc_net.specs.Nets.{IsFirstWorld}

-- in the first world of a text no word is told yet
abbrev pub FirstWorldsAwaitWords : Type 0
FirstWorldsAwaitWords =
    (d : Declared) (world : WorldState) → IsFirstWorld d world → (who : ℕ) → (box_at world who).told ≡ None
