use Rattle.std.proofs.Common.{◌≡◌, [], List, map, sym, ◌∙◌, ap, subst, arith}
use Rattle.std.proofs.lemmas.List.{nil_from_length}
use Rattle.mc_team.proofs.TakenInboxes.{all_apart, apart_more, leads_apart, pushed_inboxes, world_left}
use Rattle.mc_team.specs.Made.{LeadApart, inbox_at, inboxes_of}
use Rattle.mc_team.specs.Layouts.{inner_lists}
use Rattle.mc_team.specs.declared.layout.LaneEnds.{LaneEnds}
use Rattle.mc_team.proofs.ending.take_apart.Goals as goal

pub loop-member-preserved : goal.loop-member-preserved
loop-member-preserved c =
    apart_more c.args.team.members.items c.loop-member.member-iterator.rest.items c.next.new.self.rest.items c.in-Some.member c.loop-member.boxes.items c.push.new.self.items (inboxes_of c.loop-member.inboxes.items) (inboxes_of c.push-in-loop-member.new.self.items) _ _
    c.loop-member.invariant c.in-Some.ensures.steps.0 c.in_ok-push.ensures.items (pushed_inboxes _ _ _ c.in_ok-push-2.ensures.items) c.take_member-part.ensures.part c.take_member-part.ensures.inboxes

pub take_each-requires : goal.take_each-requires
take_each-requires c =
    let team = c.args.team in
    let none : c.loop-member.member-iterator.rest.items ≡ [] = nil_from_length _ (omega (arith, c.in-None.ensures.steps.0, c.loop-member.member-iterator.rest.ok.0)) in
    let all = all_apart team.members.items c.loop-member.boxes.items (inboxes_of c.loop-member.inboxes.items) c.loop-member.member-iterator.rest.items c.loop-member.invariant none in
    subst (λ (l : List LaneEnds). LeadApart l (inboxes_of c.loop-member.inboxes.items)) (sym c.deref.ensures.value)
    (leads_apart team.channels.items team.members.items team.lanes.items (inner_lists team.ends.items) (inboxes_of c.loop-member.inboxes.items) c.requires all.1)

pub returns : goal.returns
returns c =
    let team = c.args.team in
    let none : c.loop-member.member-iterator.rest.items ≡ [] = nil_from_length _ (omega (arith, c.in-None.ensures.steps.0, c.loop-member.member-iterator.rest.ok.0)) in
    let own = inboxes_of c.loop-member.inboxes.items in
    let all = all_apart team.members.items c.loop-member.boxes.items own c.loop-member.member-iterator.rest.items c.loop-member.invariant none in
    world_left team.channels.items team.members.items team.lanes.items (inner_lists team.ends.items) c.loop-member.boxes.items own c.in_ok-lanes.lanes.items c.requires all.0 all.1
    (c.in_ok-lanes.ensures ∙ ap (λ (l : List LaneEnds). map (inbox_at own) l) c.deref.ensures.value)
