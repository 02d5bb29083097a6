use Rattle.std.proofs.Common.{◌<◌, ◌≤◌, ◌+◌, ◌∙◌, ℕ, List, [], map, ap, subst, sym}
use Rattle.std.proofs.lemmas.List.{length-map}
use Rattle.mc_box.specs.declared.event.Turn.{Turn}
use Rattle.mc_model.specs.Shapes.{AreAllowed}
use Rattle.mc_script.specs.Batches.{batch_turns}
use Rattle.mc_script.specs.declared.command.JournalLine.TheVariants.{Settled}
use Rattle.mc_replay.specs.Follows.{Follows, TellsSettled}
use Rattle.mc_replay.specs.Points.{batch_at}
use Rattle.mc_replay.specs.declared.replay.Replay.{Replay}
use Rattle.mc_replay.specs.declared.segment.Segment.{Segment}
use Rattle.mc_replay.proofs.Stands.{marked, misplaced, none_left, place_allowed}
use Rattle.mc_replay.proofs.replay.Replay.settle.Goals as goal
use Rattle.mc_replay.proofs.replay.Replay.settle.Goals.{then-self-batches-via-then-self-batches, then-self-batches-via-else-self-batches+then-not-is_settled}

pub returns-then-self-batches-clause-reads : goal.returns-then-self-batches-clause-reads
returns-then-self-batches-clause-reads c = λ point stands. rw c.fault.ensures (elim c.then-self-batches.branch [
  | then-self-batches-via-then-self-batches w ↦ (
    none_left (map batch_turns c.args.batches.now) point Settled c.args.self.now
        (subst (λ (n : ℕ). n ≤ c.args.self.now.settled) (sym (length-map c.args.batches.now batch_turns)) w.if-self-batches.true) stands,
    ap (λ (r : Replay). r.turns + 1) w.self-is,
    ap (λ (r : Replay). r.turns + r.settled) w.self-is,
  )
  | then-self-batches-via-else-self-batches+then-not-is_settled w ↦ (
    misplaced point c.args.self.now.segment.world
        (subst (TellsSettled point.begins (batch_at point) point.turns c.args.self.now.segment.world) w.if-not-is_settled.true
        (w.is_settled.ensures.settled point.begins (batch_at point) point.turns stands.follows)),
    ap (λ (r : Replay). r.turns + 1) w.self-is,
    ap (λ (r : Replay). r.turns + r.settled) w.self-is,
  )
])

pub go_on-requires-clause-allowed : goal.go_on-requires-clause-allowed
go_on-requires-clause-allowed c =
    subst (λ (s : Segment). AreAllowed s.world c.batch_at-next.result.now) (sym c.is_settled.ensures.same)
    (subst (AreAllowed c.args.self.now.segment.world) (sym c.batch_at-next.ensures)
    (place_allowed (map batch_turns c.args.batches.now) c.args.self.now.segment.world (c.args.self.now.settled + 1) c.requires.allowed))

pub returns-clause-reads : goal.returns-clause-reads
returns-clause-reads c = λ point stands.
    marked (map batch_turns c.args.batches.now) point c.args.self.now c.go_on.new.self
    (subst (λ (n : ℕ). c.args.self.now.settled < n) (sym (length-map c.args.batches.now batch_turns)) c.if-self-batches.false) stands
    (subst (TellsSettled point.begins (batch_at point) point.turns c.args.self.now.segment.world) c.if-not-is_settled.false
    (c.is_settled.ensures.settled point.begins (batch_at point) point.turns stands.follows))
    (subst (λ (batch : List Turn). Follows c.args.self.now.segment.world batch [] c.go_on.new.self) c.batch_at-next.ensures
    (subst (λ (s : Segment). Follows s.world c.batch_at-next.result.now [] c.go_on.new.self) c.is_settled.ensures.same c.in_ok-go_on.ensures.follows))
    (c.in_ok-go_on.ensures.made ∙ ap (λ (s : Segment). s.retries.made) c.is_settled.ensures.same)
