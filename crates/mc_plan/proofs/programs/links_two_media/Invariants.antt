use Rattle.std.proofs.Common.{◌≡◌, drop}
use Rattle.mc_plan.specs.Layouts.{links_two_media, media_of, some_crosses}
use Rattle.mc_plan.proofs.programs.links_two_media.Given as goal

-- what is left to look at decides
abbrev pub invariant-loop-local : goal.invariant-loop-local
invariant-loop-local l = links_two_media (media_of l.slots) l.one ≡ some_crosses (media_of l.slots) l.local (drop l.local l.one.goals)
