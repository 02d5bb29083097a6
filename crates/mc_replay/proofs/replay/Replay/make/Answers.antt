use Rattle.std.proofs.Common.{◌<◌, ℕ, map, refl, subst, sym, Err}
use Rattle.std.proofs.lemmas.List.{length-map}
use Rattle.mc_script.specs.Batches.{batch_turns}
use Rattle.mc_replay.specs.Follows.{MakesTurn}
use Rattle.mc_replay.specs.Points.{batch_at}
use Rattle.mc_replay.specs.declared.segment.TurnFault.{TurnFault}
use Rattle.mc_replay.proofs.Stands.{made, not_enabled, out_of_order}
use Rattle.mc_replay.proofs.replay.Replay.make.Goals as goal

pub returns-in-Ok-clause-reads : goal.returns-in-Ok-clause-reads
returns-in-Ok-clause-reads c = λ point stands.
    let done = c.in-Ok.ensures.makes point.begins (batch_at point) point.turns stands.follows in
    made (map batch_turns c.args.batches.now) point c.args.turn c.args.self.now c.make.new.self
    (subst (λ (n : ℕ). c.args.self.now.settled < n) (sym (length-map c.args.batches.now batch_turns)) c.if-self-batches.false) stands done.0 done.1 c.in-Ok.ensures.made

pub returns-in-Err-NotNext-clause-reads : goal.returns-in-Err-NotNext-clause-reads
returns-in-Err-NotNext-clause-reads c = λ point stands.
    let why = subst (λ (fault : TurnFault). MakesTurn point.begins (batch_at point) point.turns c.args.turn (Err fault) c.make.new.self) c.in-Err-NotNext.field-0-is
    (c.in-Err-NotNext.ensures.makes point.begins (batch_at point) point.turns stands.follows) in
    rw c.fault-in-Err-NotNext.ensures (
      out_of_order (map batch_turns c.args.batches.now) point c.args.turn c.args.self.now
          (subst (λ (n : ℕ). c.args.self.now.settled < n) (sym (length-map c.args.batches.now batch_turns)) c.if-self-batches.false) stands why,
      refl,
      refl,
    )

pub returns-in-Err-NotEnabled-clause-reads : goal.returns-in-Err-NotEnabled-clause-reads
returns-in-Err-NotEnabled-clause-reads c = λ point stands.
    let why = subst (λ (fault : TurnFault). MakesTurn point.begins (batch_at point) point.turns c.args.turn (Err fault) c.make.new.self) c.in-Err-NotEnabled.field-0-is
    (c.in-Err-NotEnabled.ensures.makes point.begins (batch_at point) point.turns stands.follows) in
    rw c.fault-in-Err-NotEnabled.ensures (
      not_enabled (map batch_turns c.args.batches.now) point c.args.turn c.args.self.now
          (subst (λ (n : ℕ). c.args.self.now.settled < n) (sym (length-map c.args.batches.now batch_turns)) c.if-self-batches.false) stands why.0 why.1,
      refl,
      refl,
    )
