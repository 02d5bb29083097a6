use Rattle.mc_live.proofs.Asks.{accepted_few, asked_set, pass_of, pass_there, passes_stay, same_passes}
use Rattle.std.proofs.Common.{refl}
use Rattle.std.specs.Vec.{with_item}
use Rattle.mc_live.specs.declared.asker.Asker.{Asker}
use Rattle.mc_live.proofs.asking.ask_at.Goals as goal

pub ask-requires-clause-operator : goal.ask-requires-clause-operator
ask-requires-clause-operator g c = pass_of c.args.desks.now c.args.asker.now c.args.at c.index-desks-at.result c.index_mut.result.now c.requires.passes c.requires.there c.index-desks-at.is c.index_mut.ensures.value

pub ask-requires-clause-few : goal.ask-requires-clause-few
ask-requires-clause-few g c =
    accepted_few c.args.asker.now c.args.at c.index_mut.result.now (pass_there c.args.desks.now c.args.asker.now c.args.at c.index_mut.result.now c.requires.passes c.requires.there c.index_mut.ensures.value) c.requires.few

pub returns-clause-passes : goal.returns-clause-passes
returns-clause-passes g c =
    let there = pass_there c.args.desks.now c.args.asker.now c.args.at c.index_mut.result.now c.requires.passes c.requires.there c.index_mut.ensures.value in
    passes_stay c.args.desks.now c.args.asker.now _ (same_passes c.args.asker.now _ c.args.at c.index_mut.result.now c.ask.new.who refl refl there c.ask.ensures.same) c.requires.passes

pub returns-clause-same : goal.returns-clause-same
returns-clause-same g c =
    let there = pass_there c.args.desks.now c.args.asker.now c.args.at c.index_mut.result.now c.requires.passes c.requires.there c.index_mut.ensures.value in
    same_passes c.args.asker.now _ c.args.at c.index_mut.result.now c.ask.new.who refl refl there c.ask.ensures.same

pub returns-clause-asked : goal.returns-clause-asked
returns-clause-asked g c who =
    let there = pass_there c.args.desks.now c.args.asker.now c.args.at c.index_mut.result.now c.requires.passes c.requires.there c.index_mut.ensures.value in
    let after : Asker = record { number = c.args.asker.now.number; passes = with_item c.args.asker.now.passes c.args.at c.ask.new.who; asks = c.ask.new.asks } in
    asked_set c.args.asker.now after c.args.at who c.index_mut.result.now c.ask.new.who c.args.event refl there c.ask.ensures.accepted
