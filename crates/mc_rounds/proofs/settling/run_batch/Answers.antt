use Rattle.std.proofs.Common.{◌∙◌, List, ap, sym}
use Rattle.mc_box.specs.declared.event.Turn.{Turn}
use Rattle.mc_divided.specs.Networks.{network_state}
use Rattle.mc_divided.specs.States.{IsAtLast, NoneLeft}
use Rattle.mc_rounds.proofs.AtLast.{at_last, ends_at_last}
use Rattle.mc_rounds.proofs.Plays.{plays_from}
use Rattle.mc_rounds.proofs.Retried.{ends_for}
use Rattle.mc_rounds.proofs.Since.{counted_first, counted_more, free_batch}
use Rattle.mc_rounds.specs.Settling.{sets_link}
use Rattle.mc_rounds.proofs.settling.run_batch.Goals as goal

pub finish-requires-clause-counted : goal.finish-requires-clause-counted
finish-requires-clause-counted g c κs below =
    counted_more (network_state c.begin.new.network) (network_state c.use_up.new.network) c.args.turns.now.items
    c.use_up.new.turns.items c.in_ok-who.ensures.used.played
    (counted_first (network_state c.args.network.now) (network_state c.begin.new.network) c.args.batch.now
    c.args.turns.now.items c.requires.none_yet c.in_ok-begin.ensures.has)

pub finish-requires-clause-free : goal.finish-requires-clause-free
finish-requires-clause-free g c κs below off =
    free_batch (network_state c.args.network.now) (network_state c.begin.new.network) (network_state c.use_up.new.network)
    c.args.batch.now c.args.turns.now.items c.use_up.new.turns.items c.requires.none_yet c.requires.divided.sound
    c.in_ok-who.ensures.divided.sound c.in_ok-begin.ensures.has c.in_ok-who.ensures.used.played
    (c.requires.divided.free (c.may_be_linked-linked.ensures.free off))
    (ap (λ (l : List Turn). sets_link l) (sym c.deref.ensures.value) ∙ c.may_be_linked-linked.ensures.links off)

pub returns-in-Some-clause-ended : goal.returns-in-Some-clause-ended
returns-in-Some-clause-ended g c =
    let used = c.in_ok-who.ensures.used in
    ends_at_last (network_state c.args.network.now).world c.args.batch.now c.use_up.new.turns.items
    (network_state c.begin.new.network) (network_state c.use_up.new.network) _ c.number.result
    c.in_ok-begin.ensures.has
    (plays_from (network_state c.begin.new.network) (network_state c.use_up.new.network) c.args.turns.now.items
    c.use_up.new.turns.items used.played c.requires.none_yet)
    (at_last (NoneLeft (network_state c.use_up.new.network)) (IsAtLast (network_state c.use_up.new.network))
    c.in_ok-who.field-0 _ used.ended c.in-Some.is) c.number.ensures

pub returns-in-None-clause-ended : goal.returns-in-None-clause-ended
returns-in-None-clause-ended g c =
    let used = c.in_ok-who.ensures.used in
    ends_for c.finish.result (network_state c.use_up.new.network) (network_state c.begin.new.network)
    c.use_up.new.turns.items c.finish.new.turns.items (network_state c.finish.new.network).world
    (network_state c.args.network.now).world c.args.batch.now c.in_ok-begin.ensures.has
    (plays_from (network_state c.begin.new.network) (network_state c.use_up.new.network) c.args.turns.now.items
    c.use_up.new.turns.items used.played c.requires.none_yet) c.finish.ensures.ended
