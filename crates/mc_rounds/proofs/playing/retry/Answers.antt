use Rattle.std.proofs.Common.{◌≡◌, ◌∙◌, false, true, sym, subst, arith}
use Rattle.mc_divided.specs.Networks.{network_state}
use Rattle.mc_divided.specs.States.{NetworkState, NoneLeft}
use Rattle.mc_rounds.proofs.NoneOwed.{none_owed}
use Rattle.mc_rounds.proofs.Takes.{never_last, shift_told}
use Rattle.mc_rounds.proofs.Retried.{retries_of}
use Rattle.mc_rounds.specs.Playing.{Retries}
use Rattle.mc_rounds.proofs.playing.retry.Goals as goal

pub unreachable-requires : goal.unreachable-requires
unreachable-requires g c =
    never_last true (network_state c.owes_retry.new.network) (network_state c.run_phase.new.network) c.args.turns.now.items
    c.run_phase.new.turns.items c.in_ok-run_phase.field-0
    (subst NoneLeft (sym c.owes_retry.ensures.same) c.requires.used_up) c.in_ok-run_phase.ensures.played
    (sym c.is_some.ensures ∙ c.if-is_some.true)

pub returns-clause-retried : goal.returns-clause-retried
returns-clause-retried g c =
    let played = c.in_ok-run_phase.ensures.played in
    subst (λ (s : NetworkState). Retries s (network_state c.run_phase.new.network) c.args.turns.now.items
    c.run_phase.new.turns.items c.has_shift.result) c.owes_retry.ensures.same
    (retries_of (network_state c.owes_retry.new.network) (network_state c.run_phase.new.network) c.args.turns.now.items
    c.run_phase.new.turns.items c.in_ok-run_phase.field-0 c.has_shift.result c.owes_retry.ensures.divided.sound
    (subst NoneLeft (sym c.owes_retry.ensures.same) c.requires.used_up) played
    (shift_told c.args.turns.now.items c.run_phase.new.turns.items played.made c.deref.result.now c.len-before.result
    c.has_shift.result played.added (omega arith) c.deref.ensures.value (sym c.has_shift.ensures)))

pub returns-then-not-owes_retry-clause-retried : goal.returns-then-not-owes_retry-clause-retried
returns-then-not-owes_retry-clause-retried g c =
    subst (λ (s : NetworkState). Retries (network_state c.args.network.now) s c.args.turns.now.items
    c.args.turns.now.items false) (sym c.owes_retry.ensures.same)
    (none_owed c.args.network.now c.args.turns.now.items c.requires.divided c.requires.used_up
    (c.owes_retry.ensures.none c.if-not-owes_retry.true))
