-- Turns, as they are followed.
use Rattle.std.specs.Prelude.{◌≡◌, ℕ, ◌+◌, ◌<◌, ◌≤◌, ◌++◌, List, [], ◌∷◌, length, take, Result, Ok, Err, None, Some}
use Rattle.mc_box.specs.declared.event.Turn.{Turn}
use Rattle.mc_model.specs.Steps.{after, run, step}
use Rattle.mc_model.specs.Worlds.{WorldState}
use Rattle.mc_replay.specs.Follows.{Follows}
use Rattle.mc_replay.specs.declared.segment.Segment.{Segment}
use Rattle.mc_replay.specs.declared.segment.TurnFault.{TurnFault}
use Rattle.mc_replay.specs.declared.segment.TurnFault.TheVariants.{NoMemory, NotEnabled, NotNext}
use Rattle.mc_segments.specs.Ends.{AreEnds, IsEnd, IsSegmentsFault, commands_in, turns_between}
use Rattle.mc_segments.specs.declared.fault.SegmentsFault.{SegmentsFault}
use Rattle.mc_segments.specs.declared.fault.SegmentsFault.TheVariants as own
use Rattle.mc_segments.specs.declared.following.Following.{Following}

-- a segment has followed turns, whose commands are its batch
abbrev pub FollowsOwn : WorldState → List Turn → Segment → Type 0
FollowsOwn begins turns segment = Follows begins (commands_in turns) turns segment

-- what becomes of a turn after those that a segment has followed
abbrev pub MakesOwn : WorldState → List Turn → Turn → Result (Unit {0}) TurnFault → Segment → Type 0
MakesOwn begins turns turn (Ok done) new = FollowsOwn begins (turns ++ turn ∷ []) new
MakesOwn begins turns turn (Err NotNext) new = ⊥
MakesOwn begins turns turn (Err NotEnabled) new = step (after begins turns) turn ≡ None
MakesOwn begins turns turn (Err (NoMemory e)) new = Unit {0}

-- the turns before a place were followed: those before the last end led to where the segment begins, which has followed
-- the others; no end comes between; and the ends after the last one stand after those so far
pub record HasFollowed (world : WorldState) (turns : List Turn) (place : ℕ) (following : Following) : Type 0 where
  pub from : following.from ≤ place
  pub within : place ≤ length turns
  pub began : run world (take following.from turns) ≡ Some (after world (take following.from turns))
  pub follows : FollowsOwn (after world (take following.from turns)) (turns_between following.from place turns)
      following.segment
  pub retries : following.segment.retries.made ≤ place
  pub none : (other : ℕ) → other < place → IsEnd world turns following.from other → ⊥
  pub ends : (more : List ℕ) → AreEnds world turns following.from more
      → AreEnds world turns 0 (following.ends.items ++ more)

-- and no settle ends at the place itself
pub record EndsHere (world : WorldState) (turns : List Turn) (place : ℕ) (following : Following) : Type 0 where
  pub followed : HasFollowed world turns place following
  pub none : IsEnd world turns following.from place → ⊥

-- what becomes of the turn at a place
abbrev pub FollowsTurn : WorldState → List Turn → ℕ → Result (Unit {0}) SegmentsFault → Following → Type 0
FollowsTurn world turns place (Ok done) new = HasFollowed world turns (place + 1) new
FollowsTurn world turns place (Err fault) new = IsSegmentsFault world turns fault

-- why turns aren't followed, where the turn at a place isn't made
abbrev pub fault_at : TurnFault → ℕ → SegmentsFault
fault_at NotNext place = own.NotEnabled place
fault_at NotEnabled place = own.NotEnabled place
fault_at (NoMemory e) place = own.NoMemory e
