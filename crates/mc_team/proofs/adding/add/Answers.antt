use Rattle.std.proofs.Common.{◌≡◌, ℕ, List, Some, length, slice_get, refl}
use Rattle.std.proofs.lemmas.Option.{slice_get_read}
use Rattle.mc_team.proofs.Lists.{on_ok}
use Rattle.mc_team.proofs.OneCommand.{allowed_there, none_more, on_err, one_more, stand_still}
use Rattle.mc_team.specs.declared.member.Member.{Member}
use Rattle.mc_team.proofs.adding.add.Goals as goal

pub add-requires-clause-ready : goal.add-requires-clause-ready
add-requires-clause-ready c =
    let team = c.args.team.now in
    let there = allowed_there team.members.items team.channels.items team.lanes.items c.args.turn c.requires.allowed in
    c.requires.team.ready c.args.turn.who c.index_mut.result.now (slice_get_read team.members.items (length team.members.items) c.args.turn.who c.index_mut.result.now refl there c.index_mut.ensures.value)

pub returns-clause-team : goal.returns-clause-team
returns-clause-team c =
    let team = c.args.team.now in
    let members : List Member = team.members.items in
    let who : ℕ = c.args.turn.who in
    let member : Member = c.index_mut.result.now in
    let there = allowed_there members team.channels.items team.lanes.items c.args.turn c.requires.allowed in
    let at : slice_get members who ≡ Some member = slice_get_read members (length members) who member refl there c.index_mut.ensures.value in
    stand_still team.channels.items members team.lanes.items _ who member c.add.new.self at c.add.ensures.others c.add.ensures.ready c.requires.team

pub returns-clause-added : goal.returns-clause-added
returns-clause-added c =
    let team = c.args.team.now in
    let members : List Member = team.members.items in
    let there = allowed_there members team.channels.items team.lanes.items c.args.turn c.requires.allowed in
    let at : slice_get members c.args.turn.who ≡ Some c.index_mut.result.now = slice_get_read members (length members) c.args.turn.who c.index_mut.result.now refl there c.index_mut.ensures.value in
    on_ok _ _ c.add.result (λ more. one_more team.channels.items members team.lanes.items c.args.turn c.index_mut.result.now c.add.new.self at c.add.ensures.others more) c.add.ensures.added

pub returns-clause-kept : goal.returns-clause-kept
returns-clause-kept c =
    let team = c.args.team.now in
    let members : List Member = team.members.items in
    let there = allowed_there members team.channels.items team.lanes.items c.args.turn c.requires.allowed in
    let at : slice_get members c.args.turn.who ≡ Some c.index_mut.result.now = slice_get_read members (length members) c.args.turn.who c.index_mut.result.now refl there c.index_mut.ensures.value in
    on_err _ _ c.add.result (λ kept. none_more team.channels.items members team.lanes.items c.args.turn.who c.index_mut.result.now c.add.new.self at c.add.ensures.others kept) c.add.ensures.kept
