use Rattle.std.proofs.Common.{◌≡◌, ◌++◌, drop, filter}
use Rattle.mc_ladder_choice.specs.Choices.{takes_path}
use Rattle.mc_ladder_choice.proofs.choice.Choice.shown_among.Given as goal

-- what is left makes the whole
abbrev pub invariant-loop-view : goal.invariant-loop-view
invariant-loop-view l = l.shown.items ++ filter (takes_path l.self l.world) (drop l.view-index l.views) ≡ filter (takes_path l.self l.world) l.views
