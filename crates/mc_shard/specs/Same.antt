-- When two signals at ends are the same: what `==` answers.
use Rattle.std.specs.Prelude.{Bool}
use Rattle.mc_shard.specs.declared.entry.AtEnd.{AtEnd}
use Rattle.mc_shard.specs.contracts.entry.AtEndPartialEq.TheImpl as at_end

abbrev pub is_same_at : AtEnd → AtEnd → Bool
is_same_at = (at_end.ghosts).eq
