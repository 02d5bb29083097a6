use Rattle.std.proofs.Common.{slice_index_or, ap, ◌∙◌}
use Rattle.std.specs.Option.{option_map}
use Rattle.std.proofs.lemmas.Option.{slice_get-get_or, slice_get-map}
use Rattle.mc_phase.proofs.LeftTurns.{drop_at, left_more}
use Rattle.mc_team.specs.Ends.{stimuli_of}
use Rattle.mc_team.specs.declared.member.Member.{Member}
use Rattle.mc_phase.proofs.leaving.left_to.Goals as goal

pub loop-who-preserved : goal.loop-who-preserved
loop-who-preserved c =
    let members = c.args.members.now in
    let item : Member = slice_index_or members c.loop-who.who c.index-members-who.result in
    left_more c.loop-who.who c.loop-who.turns.items c.add_left.new.turns.items item.worker.stimuli.items _ _ _ c.loop-who.invariant
    (drop_at (stimuli_of members) c.loop-who.who item.worker.stimuli.items (slice_get-map (λ (m : Member). m.worker.stimuli.items) members c.loop-who.who ∙ ap (option_map (λ (m : Member). m.worker.stimuli.items)) (slice_get-get_or members c.loop-who.who c.index-members-who.result c.loop-who-test.true)))
    c.in_ok-add_left.ensures
