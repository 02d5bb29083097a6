use Rattle.std.proofs.Common.{◌≡◌, ℕ, List, length, map, sym, ◌∙◌, ap, subst, arith}
use Rattle.std.proofs.lemmas.List.{length-map}
use Rattle.mc_team.proofs.NewMembers.{made_member}
use Rattle.mc_team.specs.Made.{LeavesOthers}
use Rattle.mc_lane.specs.Queue.{Queue}
use Rattle.mc_team.proofs.Pushed.{read_box}
use Rattle.mc_team.specs.Layouts.{inner_lists, of_box}
use Rattle.mc_signal.specs.declared.Tagged.{Tagged}
use Rattle.mc_worker.specs.Boxes.{box_of, items_of}
use Rattle.mc_team.proofs.making.make_member.Goals as goal

pub new-requires-2 : goal.new-requires-2
new-requires-2 c =
    let layout = c.args.layout.now in
    let own : of_box (inner_lists layout.ends.items) c.args.who ≡ c.deref.result.now = read_box layout.ends.items c.args.who c.index.result.now c.requires.in_ends c.index.ensures ∙ sym c.deref.ensures.value in
    let taken : items_of c.in_ok-under_way.under_way.items ≡ map (box_of (items_of c.args.lanes.now.items)) c.deref.result.now = c.in_ok-under_way.ensures.taken in
    omega (arith, c.requires.few, c.requires.ends, ap (λ (l : List ℕ). length l) own, ap (λ (l : List (List Tagged)). length l) taken, length-map c.in_ok-under_way.under_way.items (λ (q : Queue Tagged). q.items), length-map c.deref.result.now (box_of (items_of c.args.lanes.now.items)))

pub returns-clause-made : goal.returns-clause-made
returns-clause-made c =
    let layout = c.args.layout.now in
    let lanes : List (List Tagged) = items_of c.args.lanes.now.items in
    let own : of_box (inner_lists layout.ends.items) c.args.who ≡ c.deref.result.now = read_box layout.ends.items c.args.who c.index.result.now c.requires.in_ends c.index.ensures ∙ sym c.deref.ensures.value in
    let inboxes : c.new-2.result ≡ map (box_of lanes) (of_box (inner_lists layout.ends.items) c.args.who) = c.new-2.ensures ∙ (c.in_ok-under_way.ensures.taken ∙ ap (λ (l : List ℕ). map (box_of lanes) l) (sym own)) in
    made_member layout lanes c.new-2.result _ _ c.args.who _ c.in_ok-worker.worker _ _ _ c.requires c.in_ok-worker.ensures.ready c.in_ok-worker.ensures.new
    (c.new-place.ensures ∙ c.take_list.ensures.taken) c.take_list-ins.ensures.taken c.take_list-outs.ensures.taken inboxes

pub returns-clause-lanes : goal.returns-clause-lanes
returns-clause-lanes c =
    let layout = c.args.layout.now in
    let own : of_box (inner_lists layout.ends.items) c.args.who ≡ c.deref.result.now = read_box layout.ends.items c.args.who c.index.result.now c.requires.in_ends c.index.ensures ∙ sym c.deref.ensures.value in
    subst (λ (l : List ℕ). LeavesOthers l (items_of c.args.lanes.now.items) (items_of c.take_lanes.new.lanes.items)) (sym own) c.in_ok-under_way.ensures.left
