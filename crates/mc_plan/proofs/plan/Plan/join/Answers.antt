use Rattle.std.proofs.Common.{rules, ◌≡◌, ◌∙◌, ℕ, List, None, ap, length, subst, sym}
use Rattle.std.specs.Vec.{with_items}
use Rattle.mc_model.specs.Worlds.{ChannelState}
use Rattle.mc_plan.specs.LaidOut.{IsCountedPlan, MayCount}
use Rattle.mc_plan.specs.Plans.{PlanState, with_channel}
use Rattle.mc_plan.specs.Refusals.{join_fault}
use Rattle.mc_plan.proofs.Counted.{joined_counted, may_count, written_counted}
use Rattle.mc_plan.proofs.Joined.{gets_by_join}
use Rattle.mc_plan.proofs.Widened.{no_fault}
use Rattle.mc_plan.proofs.plan.Plan.join.Goals as goal

pub count_slots-requires : goal.count_slots-requires
count_slots-requires c =
    let plan : PlanState = record { boxes = c.self.inside.boxes.items; channels = c.self.inside.channels.items } in
    let none : join_fault (record { boxes = c.self.inside.boxes.items; channels = c.self.inside.channels.items }) c.args.from c.args.to c.args.media.now ≡ None = search rules in
    subst (λ (counts : List ℕ). MayCount counts c.args.from c.args.to (length c.args.media.now)) (sym c.deref_mut.ensures.value)
    (may_count plan c.self.inside.slot_counts.items c.args.from c.args.to c.args.media.now c.self.invariant (gets_by_join plan c.args.from c.args.to c.args.media.now none))

-- the channels then are those of the next plan
channels_are : (c : goal.After-self-1) → c.push.new.self.items ≡ (with_channel (record { boxes = c.self.inside.boxes.items; channels = c.self.inside.channels.items }) c.args.from c.args.to c.args.media.now).channels
channels_are c = search rules

pub invariant_of-self-2 : goal.invariant_of-self-2
invariant_of-self-2 c =
    let plan : PlanState = record { boxes = c.self.inside.boxes.items; channels = c.self.inside.channels.items } in
    let none : join_fault (record { boxes = c.self.inside.boxes.items; channels = c.self.inside.channels.items }) c.args.from c.args.to c.args.media.now ≡ None = search rules in
    let may = may_count plan c.self.inside.slot_counts.items c.args.from c.args.to c.args.media.now c.self.invariant (gets_by_join plan c.args.from c.args.to c.args.media.now none) in
    subst (λ (l : List ChannelState). IsCountedPlan (record { boxes = c.self.inside.boxes.items; channels = l }) (with_items c.self.inside.slot_counts c.count_slots.new.counts).items) (sym (channels_are c))
    (written_counted (with_channel plan c.args.from c.args.to c.args.media.now) c.self.inside.slot_counts c.deref_mut.result.now c.count_slots.new.counts c.args.from c.args.to (length c.args.media.now) c.deref_mut.ensures.value c.count_slots.ensures
    (joined_counted plan c.self.inside.slot_counts.items c.args.from c.args.to c.args.media.now c.self.invariant may none))

pub returns-clause-answer : goal.returns-clause-answer
returns-clause-answer c = (
  no_fault (join_fault c.args.self.now c.args.from c.args.to c.args.media.now) (sym c.may_join.ensures ∙ c.in_ok-may_join.was),
  c.len-number.ensures ∙ (c.self.inside.channels.ok.0 ∙ ap (λ (p : PlanState). length p.channels) c.self.view_is),
)

pub returns-clause-joined : goal.returns-clause-joined
returns-clause-joined c =
    ap (λ (l : List ChannelState). record { boxes = c.self.inside.boxes.items; channels = l }) (channels_are c) ∙ ap (λ (p : PlanState). with_channel p c.args.from c.args.to c.args.media.now) c.self.view_is
