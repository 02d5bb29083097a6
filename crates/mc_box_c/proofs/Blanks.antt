-- What stands in a place of a list of sendings that isn't used.
use Rattle.std.proofs.Common.{ℕ}
use Rattle.mc_signal.specs.declared.Signal.{Signal}
use Rattle.mc_signal.specs.declared.Signal.TheVariants.{Close}

abbrev pub nothing : ℕ × Signal
nothing = (0, Close)

abbrev pub blank : ℕ × Signal → ℕ × Signal
blank sending = nothing
