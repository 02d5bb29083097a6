use Rattle.std.proofs.Common.{◌∙◌, sym, subst}
use Rattle.mc_divided.specs.Networks.{network_state}
use Rattle.mc_rounds.proofs.Plays.{fewer_shifts}
use Rattle.mc_rounds.proofs.Rested.{free_by, rests_begin, rests_still, rests_more, rests_on_ring}
use Rattle.mc_rounds.proofs.resting.come_to_rest.Goals.{then-is_some-via-then-is_some, then-is_some-via-else-is_some+in_ok-go_on+then-not-branch}
use Rattle.mc_rounds.specs.Playing.{GoesOn}
use Rattle.mc_rounds.proofs.resting.come_to_rest.Goals as goal

pub stretches-init : goal.stretches-init
stretches-init g c = record {
  divided = c.requires.divided;
  free = c.requires.free;
  came = rests_begin c.args.network.now c.args.turns.now.items c.requires.divided c.requires.used_up;
}

pub go_on-requires-clause-free : goal.go_on-requires-clause-free
go_on-requires-clause-free g c κs within =
    free_by (network_state c.stretches.network).world c.in_ok-ring.ring c.stretches.invariant.divided.sound
    c.in_ok-ring.ensures (sym c.is_some.ensures ∙ c.if-is_some.false)

pub returns-then-is_some-clause-came : goal.returns-then-is_some-clause-came
returns-then-is_some-clause-came g c = elim c.then-is_some.branch [
  | then-is_some-via-then-is_some w ↦ rw (w.network-is, w.turns-is)
      (rests_on_ring (network_state c.args.network.now) (network_state c.stretches.network) c.args.turns.now.items
      c.stretches.turns.items c.in_ok-ring.ring c.stretches.shifted c.stretches.invariant.came c.in_ok-ring.ensures
      (sym c.is_some.ensures ∙ w.if-is_some.true))
  | then-is_some-via-else-is_some+in_ok-go_on+then-not-branch w ↦ rw (w.network-is, w.turns-is)
      (let none = sym c.is_some.ensures ∙ w.if-is_some.false in
      rests_still (network_state c.args.network.now) (network_state c.stretches.network)
      (network_state w.go_on.new.network) c.args.turns.now.items c.stretches.turns.items w.go_on.new.turns.items
      c.in_ok-ring.ring c.stretches.shifted c.stretches.invariant.divided.sound c.stretches.invariant.came
      (subst (GoesOn (network_state c.stretches.network) (network_state w.go_on.new.network) c.stretches.turns.items
      w.go_on.new.turns.items) w.if-not-branch.true w.in_ok-go_on.ensures.went)
      (free_by (network_state c.stretches.network).world c.in_ok-ring.ring c.stretches.invariant.divided.sound
      c.in_ok-ring.ensures none) none)
]

pub stretches-smaller : goal.stretches-smaller
stretches-smaller g c =
    let went = subst (GoesOn (network_state c.stretches.network) (network_state c.go_on.new.network)
    c.stretches.turns.items c.go_on.new.turns.items) c.if-not-branch.false c.in_ok-go_on.ensures.went in
    fewer_shifts (network_state c.stretches.network) (network_state c.go_on.new.network) went.played.made
    c.stretches.invariant.divided.sound went.played.plays went.ended

pub stretches-preserved : goal.stretches-preserved
stretches-preserved g c = record {
  divided = c.in_ok-go_on.ensures.divided;
  free = λ unlinked. absurd cc;
  came =
      rests_more (network_state c.args.network.now) (network_state c.stretches.network)
      (network_state c.go_on.new.network) c.args.turns.now.items c.stretches.turns.items c.go_on.new.turns.items
      c.stretches.shifted c.requires.divided.sound c.stretches.invariant.divided.sound c.stretches.invariant.came
      (subst (GoesOn (network_state c.stretches.network) (network_state c.go_on.new.network) c.stretches.turns.items
      c.go_on.new.turns.items) c.if-not-branch.false c.in_ok-go_on.ensures.went);
}
