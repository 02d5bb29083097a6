use Rattle.std.proofs.Common.{◌≡◌, ℕ, List, [], length, sym, ◌∙◌, ap, subst, arith, rules}
use Rattle.std.proofs.lemmas.List.{length-map, nil_from_length}
use Rattle.mc_box.specs.Boxes.{BoxState}
use Rattle.mc_team.proofs.NewWorlds.{all_made, laid_with, new_state, numbered_first, stand_as_new}
use Rattle.mc_team.proofs.NewBoxes.{can_make, next_part, making_more}
use Rattle.mc_team.specs.Teams.{StandForWorld, team_of}
use Rattle.mc_team.specs.Made.{CanMake, IsNewMember, IsTakenFor, LeavesOthers}
use Rattle.mc_lane.specs.Queue.{Queue}
use Rattle.mc_team.specs.Layouts.{IsLayoutOf, inner_lists, of_box}
use Rattle.mc_model.specs.Sound.{IsNumbered}
use Rattle.mc_model.specs.Worlds.{ChannelState, first_world}
use Rattle.mc_team.specs.declared.member.Member.{Member}
use Rattle.mc_signal.specs.declared.Tagged.{Tagged}
use Rattle.mc_worker.specs.Boxes.{items_of}
use Rattle.mc_team.proofs.making.make.Goals as goal

pub lay_out-requires-clause-numbered : goal.lay_out-requires-clause-numbered
lay_out-requires-clause-numbered c =
    subst (λ (b : List BoxState). IsNumbered (first_world b c.deref-2.result.now)) (sym c.deref.ensures.value)
    (subst (λ (l : List ChannelState). IsNumbered (first_world c.args.boxes.items l)) (sym c.deref-2.ensures.value) (numbered_first c.args.boxes.items c.args.channels.items (items_of c.args.lanes.items) c.requires.sound.numbered))

pub make_member-requires : goal.make_member-requires
make_member-requires c =
    let so_far = c.loop-part.invariant in
    let members : List Member = c.loop-part.members.items in
    let now : List (List Tagged) = items_of c.loop-part.lanes.items in
    let count : c.len-who.result ≡ length members = search rules in
    let next = next_part members c.loop-part.part-iterator.rest.items c.next.new.self.rest.items c.args.boxes.items c.in-Some.part c.in-Some.ensures.steps.0 so_far.all in
    let laid : IsLayoutOf c.args.boxes.items c.args.channels.items c.in_ok-layout.layout = laid_with _ _ _ _ c.in_ok-layout.layout c.deref.ensures.value c.deref-2.ensures.value c.in_ok-layout.ensures in
    subst (λ (n : ℕ). CanMake c.loop-part.layout (length c.loop-part.lanes.items) (length c.in-Some.part.slots) n) (sym count)
    (can_make c.args.boxes.items c.args.channels.items c.in_ok-layout.layout c.loop-part.layout (items_of c.args.lanes.items) now (length c.loop-part.lanes.items) (length c.in-Some.part.slots) (length members) laid so_far.left
    next.0 (ap (λ (b : BoxState). length b.slots) (sym next.1)) (sym (length-map c.loop-part.lanes.items (λ (q : Queue Tagged). q.items))) c.requires.sound.numbered.lanes)

pub loop-part-preserved : goal.loop-part-preserved
loop-part-preserved c =
    let so_far = c.loop-part.invariant in
    let first = c.in_ok-layout.layout in
    let members : List Member = c.loop-part.members.items in
    let now : List (List Tagged) = items_of c.loop-part.lanes.items in
    let more : List (List Tagged) = items_of c.make_member.new.lanes.items in
    let old = c.loop-part.layout in
    let count : c.len-who.result ≡ length members = search rules in
    let laid : IsLayoutOf c.args.boxes.items c.args.channels.items first = laid_with _ _ _ _ first c.deref.ensures.value c.deref-2.ensures.value c.in_ok-layout.ensures in
    making_more first old c.make_member.new.layout (items_of c.args.lanes.items) now more c.args.boxes.items members c.push.new.self.items c.in_ok-make_member.field-0 c.loop-part.part-iterator.rest.items c.next.new.self.rest.items c.in-Some.part
    laid.whole.ends so_far c.in-Some.ensures.steps.0 c.in_ok-make_member.ensures.part
    (subst (λ (n : ℕ). IsNewMember old now n c.in_ok-make_member.field-0) count c.in_ok-make_member.ensures.made)
    (subst (λ (n : ℕ). IsTakenFor n old c.make_member.new.layout) count c.in_ok-make_member.ensures.taken)
    (subst (λ (n : ℕ). LeavesOthers (of_box (inner_lists old.ends.items) n) now more) count c.in_ok-make_member.ensures.lanes)
    c.in_ok-push.ensures.items

pub returns-clause-team : goal.returns-clause-team
returns-clause-team c =
    let so_far = c.loop-part.invariant in
    let first = c.in_ok-layout.layout in
    let members : List Member = c.loop-part.members.items in
    let channels : List ChannelState = c.args.channels.items in
    let laid : IsLayoutOf c.args.boxes.items channels first = laid_with _ _ _ _ first c.deref.ensures.value c.deref-2.ensures.value c.in_ok-layout.ensures in
    let none : c.loop-part.part-iterator.rest.items ≡ [] = nil_from_length _ (omega (arith, c.in-None.ensures.steps.0, c.loop-part.part-iterator.rest.ok.0)) in
    let are = all_made c.args.boxes.items channels first c.loop-part.layout (items_of c.args.lanes.items) _ members c.loop-part.part-iterator.rest.items so_far none laid c.requires.sound.numbered.lanes in
    let stand = stand_as_new c.args.boxes.items channels first (items_of c.args.lanes.items) members are c.requires.channels c.requires.sound c.requires.few in
    subst (λ v. StandForWorld channels members v.items (inner_lists c.loop-part.layout.ends.items)) (sym so_far.left.lanes)
    (subst (λ v. StandForWorld channels members first.lanes.items (inner_lists v.items)) (sym so_far.left.ends) stand)

pub returns-clause-new : goal.returns-clause-new
returns-clause-new c =
    let so_far = c.loop-part.invariant in
    let first = c.in_ok-layout.layout in
    let members : List Member = c.loop-part.members.items in
    let channels : List ChannelState = c.args.channels.items in
    let laid : IsLayoutOf c.args.boxes.items channels first = laid_with _ _ _ _ first c.deref.ensures.value c.deref-2.ensures.value c.in_ok-layout.ensures in
    let none : c.loop-part.part-iterator.rest.items ≡ [] = nil_from_length _ (omega (arith, c.in-None.ensures.steps.0, c.loop-part.part-iterator.rest.ok.0)) in
    let are = all_made c.args.boxes.items channels first c.loop-part.layout (items_of c.args.lanes.items) _ members c.loop-part.part-iterator.rest.items so_far none laid c.requires.sound.numbered.lanes in
    ap (λ v. team_of channels members v.items) so_far.left.lanes ∙ new_state c.args.boxes.items channels first (items_of c.args.lanes.items) members are
