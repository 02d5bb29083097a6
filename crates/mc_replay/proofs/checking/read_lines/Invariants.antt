use Rattle.std.proofs.Common.{[], map, take, IfSome}
use Rattle.mc_script.specs.Batches.{batch_turns}
use Rattle.mc_replay.specs.Replays.{HasReplayed, views_of}
use Rattle.mc_replay.specs.Told.{HasTold, KeepsPace}
use Rattle.mc_replay.proofs.checking.read_lines.Given as goal

-- the lines so far were read, each turn was noted, and why slots were closed was told at the marks among them
abbrev pub invariant-loop-line : goal.invariant-loop-line
invariant-loop-line g l =
    HasReplayed (g.V.Viewer.shows l.viewer) l.fn.replay.segment.world (map batch_turns l.batches) (take l.line-index l.lines) l.replay (views_of l.views.items)
    × IfSome l.telling.whys (KeepsPace l.replay)
    × (HasTold l.fn.replay.segment.world [] l.fn.replay.segment.world l.fn.telling → HasTold l.fn.replay.segment.world (take l.line-index l.lines) l.replay.segment.world l.telling)
