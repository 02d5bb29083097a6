use Rattle.std.proofs.Common.{arith, false, sym, true, ◌∙◌}
use Rattle.mc_divided.specs.Networks.{network_state}
use Rattle.mc_rounds.proofs.Takes.{ends_still, ends_shifted, never_last, shift_told, takes_begin, takes_lower, takes_more}
use Rattle.mc_rounds.proofs.playing.go_on.Goals as goal

pub phases-init : goal.phases-init
phases-init g c = record {
  divided = c.requires.divided;
  takes = takes_begin c.args.network.now c.args.turns.now.items c.requires.divided c.requires.used_up c.requires.free;
}

pub unreachable-requires : goal.unreachable-requires
unreachable-requires g c =
    never_last false (network_state c.phases.network) (network_state c.run_phase.new.network) c.phases.turns.items
    c.run_phase.new.turns.items c.in_ok-run_phase.field-0 c.phases.invariant.takes.none c.in_ok-run_phase.ensures.played
    (sym c.is_some.ensures ∙ c.if-is_some.true)

pub returns-then-len-before-clause-went : goal.returns-then-len-before-clause-went
returns-then-len-before-clause-went g c =
    ends_still (network_state c.args.network.now) (network_state c.phases.network)
    (network_state c.run_phase.new.network) c.args.turns.now.items c.phases.turns.items c.run_phase.new.turns.items c.in_ok-run_phase.field-0
    c.phases.invariant.takes c.in_ok-run_phase.ensures.played (omega arith)

pub returns-then-has_shift-clause-went : goal.returns-then-has_shift-clause-went
returns-then-has_shift-clause-went g c =
    let played = c.in_ok-run_phase.ensures.played in
    ends_shifted (network_state c.args.network.now) (network_state c.phases.network)
    (network_state c.run_phase.new.network) c.args.turns.now.items c.phases.turns.items c.run_phase.new.turns.items
    c.in_ok-run_phase.field-0 c.phases.invariant.takes played
    (shift_told c.phases.turns.items c.run_phase.new.turns.items played.made c.deref.result.now c.len-before.result true
    played.added (omega arith) c.deref.ensures.value (sym c.has_shift.ensures ∙ c.if-has_shift.true))

pub phases-smaller : goal.phases-smaller
phases-smaller g c =
    let played = c.in_ok-run_phase.ensures.played in
    takes_lower (network_state c.args.network.now) (network_state c.phases.network)
    (network_state c.run_phase.new.network) c.args.turns.now.items c.phases.turns.items c.run_phase.new.turns.items
    c.in_ok-run_phase.field-0 c.phases.invariant.takes played
    (shift_told c.phases.turns.items c.run_phase.new.turns.items played.made c.deref.result.now c.len-before.result
    false played.added (omega arith) c.deref.ensures.value (sym c.has_shift.ensures ∙ c.if-has_shift.false))
    (λ same. let off = c.if-len-before.false in omega (arith, same, off))

pub phases-preserved : goal.phases-preserved
phases-preserved g c =
    let played = c.in_ok-run_phase.ensures.played in
    record {
      divided = c.in_ok-run_phase.ensures.divided;
      takes =
          takes_more (network_state c.args.network.now) (network_state c.phases.network)
          (network_state c.run_phase.new.network) c.args.turns.now.items c.phases.turns.items
          c.run_phase.new.turns.items c.in_ok-run_phase.field-0 c.phases.invariant.takes played
          (shift_told c.phases.turns.items c.run_phase.new.turns.items played.made c.deref.result.now
          c.len-before.result false played.added (omega arith) c.deref.ensures.value
          (sym c.has_shift.ensures ∙ c.if-has_shift.false));
    }
