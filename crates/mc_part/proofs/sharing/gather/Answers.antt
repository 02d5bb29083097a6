use Rattle.std.proofs.Common.{◌-◌, ◌∙◌, length, refl, arith}
use Rattle.mc_part.specs.DividedParts.{inner_lists}
use Rattle.mc_part.proofs.Gathering.{all_gathered, list_count, lists_kept, more_gathered, none_gathered, one_left}
use Rattle.mc_part.proofs.sharing.gather.Goals as goal

pub loop-done-init : goal.loop-done-init
loop-done-init g c = λ all shared.
    none_gathered all c.args.assigned.now (inner_lists c.args.shares.items) c.in_ok-things.things.items
    c.in_ok-things.ensures.items shared

pub take_last-thing-requires-clause-part : goal.take_last-thing-requires-clause-part
take_last-thing-requires-clause-part g c =
    let below = c.requires.parts (length c.args.assigned.now - 1 - c.loop-done.done) 0 (omega arith) in
    let kept = lists_kept c.requires.shared.things c.args.assigned.now c.args.shares.items c.loop-done.shares.items
    c.loop-done.done c.loop-done.things.items
    (c.loop-done.invariant c.requires.shared.things c.requires.shared.shared) in
    omega (arith, below, kept)

pub take_last-thing-requires-clause-some : goal.take_last-thing-requires-clause-some
take_last-thing-requires-clause-some g c =
    let below = c.requires.parts (length c.args.assigned.now - 1 - c.loop-done.done) 0 (omega arith) in
    let count = list_count c.args.shares.items in
    one_left c.requires.shared.things c.args.assigned.now (inner_lists c.loop-done.shares.items)
    (length (inner_lists c.args.shares.items)) c.loop-done.done _ _ c.loop-done.things.items
    c.requires.shared.shared.each (omega arith) refl refl (omega (arith, below, count))
    (c.loop-done.invariant c.requires.shared.things c.requires.shared.shared)

pub loop-done-preserved : goal.loop-done-preserved
loop-done-preserved g c = λ all shared.
    let below = c.requires.parts (length c.args.assigned.now - 1 - c.loop-done.done) 0 (omega arith) in
    let count = list_count c.args.shares.items in
    more_gathered all c.args.assigned.now (inner_lists c.loop-done.shares.items) _
    (length (inner_lists c.args.shares.items)) c.loop-done.done _ _ c.take_last-thing.result c.loop-done.things.items _
    shared.each (omega arith) refl refl (omega (arith, below, count)) (c.loop-done.invariant all shared)
    c.take_last-thing.ensures c.in_ok-push_front.ensures.items

pub returns : goal.returns
returns g c = λ all shared.
    c.into_vec.ensures.items
    ∙ all_gathered all c.args.assigned.now (inner_lists c.loop-done.shares.items)
    (length (inner_lists c.args.shares.items)) c.loop-done.done c.loop-done.things.items (omega arith)
    (c.loop-done.invariant all shared)
