-- The script of a text that can grow doesn't stop.
use Rattle.std.proofs.Common.{◌≡◌, List, ap, sym, ◌∙◌, subst, map}
use Rattle.mc_box.specs.declared.event.Turn.{Turn}
use Rattle.mc_growth.specs.Growths.{grown_from}
use Rattle.mc_lines.specs.SoFar.{Declared}
use Rattle.mc_net.specs.Nets.{IsFirstWorld, batch_turns, batches_of}
use Rattle.mc_stage_plans.specs.Planned.{ArePlansOf}
use Rattle.mc_stage_plans.proofs.PlansHappen.{plans_may_happen}
use Rattle.mc_tail.specs.SoFar.{TailState}
use Rattle.mc_tail.specs.declared.item.Item.{Item}
use Rattle.mc_grown_rest.specs.GrowingTexts.{TextsNeverStop}
use Rattle.mc_grown_rest.proofs.ComingToEnd.{never_stops}
use Rattle.mc_grown_rest.proofs.FirstClosed.{first_worlds_are_closed}

pub texts_never_stop : TextsNeverStop
texts_never_stop text net tail plans stop run can are sound stopped =
    let d : Declared = can.0 in
    let t : TailState = can.1 in
    let declares = are.declares in
    let same : declares.declared ≡ d = declares.says.declared ∙ sym can.2.declared in
    let tails : are.grows.state ≡ t = are.grows.says.state ∙ sym can.3.state in
    let items : tail.items.items ≡ t.items = are.grows.items ∙ ap (λ (s : TailState). s.items) tails in
    let batches : map batch_turns net.batches.items ≡ batches_of d.commands = declares.batches ∙ ap (λ (d : Declared). batches_of d.commands) same in
    let first : IsFirstWorld d net.world = subst (λ (d : Declared). IsFirstWorld d net.world) same declares.world in
    let planned : ArePlansOf (batches_of d.commands) t.items plans =
    subst (λ (l : List Item). ArePlansOf (batches_of d.commands) l plans) items (subst (λ (l : List (List Turn)). ArePlansOf l tail.items.items plans) batches are.planned) in
    never_stops stop tail.names (grown_from net.world) plans run sound (first_worlds_are_closed d net.world first) (plans_may_happen text net tail plans are)
    (can.4 net.world plans first planned) stopped
