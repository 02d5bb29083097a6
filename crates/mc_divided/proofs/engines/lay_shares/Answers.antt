use Rattle.std.proofs.Common.{◌≡◌, ◌+◌, ℕ, List, [], length, length-set, drop, get_or, subst, sym, ap, ◌∙◌, refl, arith, rules}
use Rattle.std.proofs.lemmas.List.{length-map}
use Rattle.std.specs.declared.alloc.Global.{Global}
use Rattle.std.specs.declared.vec.Vec.{Vec}
use Rattle.mc_box.specs.Boxes.{BoxState}
use Rattle.mc_part.proofs.Shares.{next_thing}
use Rattle.mc_part.specs.DividedParts.{inner_lists}
use Rattle.mc_divided.specs.Laying.{AreLaid, FitTogether, ports_in}
use Rattle.mc_divided.proofs.PartsLaid.{all_laid, laid_more, list_read, none_laid, ports_after}
use Rattle.mc_part.specs.declared.port.Port.{Port}
use Rattle.mc_world.specs.Lanes.{signals_of}
use Rattle.mc_divided.proofs.engines.lay_shares.Goals as goal

pub loop-boxes-init : goal.loop-boxes-init
loop-boxes-init c = record {
  rest = c.into_iter-boxes-iterator.ensures.into_iter_gives.0 ∙ ap (λ (l : List _). drop (length l) c.args.shares.items) (sym c.new-runs.ensures.items);
  few = let none = ap (λ (l : List _). length l) c.new-runs.ensures.items in omega (arith, none);
  count = refl;
  ports = λ part past. refl;
  laid = none_laid c.args.division.now.assigned.items c.args.channels.now (signals_of c.args.lanes.now) (λ part. get_or (inner_lists c.args.shares.items) part []) (inner_lists c.args.ports.items) c.new-runs.result.items c.new-runs.ensures.items;
}

pub lay_part-requires-clause-together : goal.lay_part-requires-clause-together
lay_part-requires-clause-together c =
    let next = next_thing c.args.shares.items c.loop-boxes.boxes-iterator.rest.items c.next.new.self.rest.items (length c.loop-boxes.runs.items) c.in-Some.boxes c.loop-boxes.invariant.rest c.in-Some.ensures.steps.0 in
    let n_is : length c.loop-boxes.runs.items ≡ c.len-part.result = search rules in
    let own = list_read c.args.shares.items (length c.loop-boxes.runs.items) c.in-Some.boxes next.0 next.1 in
    let ports : c.take_ports-own_ports.result.items ≡ ports_in (inner_lists c.args.ports.items) (length c.loop-boxes.runs.items) =
    c.take_ports-own_ports.ensures.taken ∙ (ap (λ (n : ℕ). ports_in (inner_lists c.loop-boxes.ports.items) n) (sym n_is) ∙ c.loop-boxes.invariant.ports (length c.loop-boxes.runs.items) (omega arith)) in
    let fit = c.requires.together (length c.loop-boxes.runs.items) (omega (arith, next.0, c.requires.count)) in
    subst (λ (n : ℕ). FitTogether c.args.division.now.assigned.items c.args.channels.now n c.in-Some.boxes.items c.take_ports-own_ports.result.items) n_is
    (subst (λ (l : List BoxState). FitTogether c.args.division.now.assigned.items c.args.channels.now (length c.loop-boxes.runs.items) l c.take_ports-own_ports.result.items) (sym own)
    (subst (λ (l : List Port). FitTogether c.args.division.now.assigned.items c.args.channels.now (length c.loop-boxes.runs.items) (get_or (inner_lists c.args.shares.items) (length c.loop-boxes.runs.items) []) l) (sym ports) fit))

pub loop-boxes-preserved : goal.loop-boxes-preserved
loop-boxes-preserved c =
    let n : ℕ = length c.loop-boxes.runs.items in
    let next = next_thing c.args.shares.items c.loop-boxes.boxes-iterator.rest.items c.next.new.self.rest.items (length c.loop-boxes.runs.items) c.in-Some.boxes c.loop-boxes.invariant.rest c.in-Some.ensures.steps.0 in
    let n_is : length c.loop-boxes.runs.items ≡ c.len-part.result = search rules in
    let more : length c.push.new.self.items ≡ length c.loop-boxes.runs.items + 1 = search rules in
    let own = list_read c.args.shares.items (length c.loop-boxes.runs.items) c.in-Some.boxes next.0 next.1 in
    let left : inner_lists c.take_ports-own_ports.new.ports.items ≡ _ = c.take_ports-own_ports.ensures.left in
    record {
      rest = next.2 ∙ ap (λ (m : ℕ). drop m c.args.shares.items) (sym more);
      few = omega (arith, more, next.0);
      count = sym (length-map c.take_ports-own_ports.new.ports.items (λ (v : Vec Port Global). v.items)) ∙ (ap length c.take_ports-own_ports.ensures.left
          ∙ (length-set (inner_lists c.loop-boxes.ports.items) c.len-part.result [] ∙ (length-map c.loop-boxes.ports.items (λ (v : Vec Port Global). v.items) ∙ c.loop-boxes.invariant.count)));
      ports = λ part past. ports_after (inner_lists c.loop-boxes.ports.items) (inner_lists c.take_ports-own_ports.new.ports.items) (inner_lists c.args.ports.items) c.len-part.result c.take_ports-own_ports.ensures.left
          (λ k low. c.loop-boxes.invariant.ports k (omega (arith, low, n_is))) part (omega (arith, past, more, n_is));
      laid = laid_more c.args.division.now.assigned.items c.args.channels.now (signals_of c.args.lanes.now) (λ part. get_or (inner_lists c.args.shares.items) part []) (inner_lists c.args.ports.items)
          c.loop-boxes.runs.items c.push.new.self.items c.in_ok-run.run' c.len-part.result c.in-Some.boxes.items c.take_ports-own_ports.result.items c.loop-boxes.invariant.laid c.in_ok-run.ensures (sym n_is)
          (own ∙ ap (λ (m : ℕ). get_or (inner_lists c.args.shares.items) m []) n_is)
          (c.take_ports-own_ports.ensures.taken ∙ c.loop-boxes.invariant.ports c.len-part.result (omega (arith, n_is))) c.in_ok-push.ensures.items;
    }

pub returns : goal.returns
returns c =
    let none : length c.loop-boxes.boxes-iterator.rest.items ≡ 0 = search rules in
    subst (λ (n : ℕ). AreLaid c.args.division.now.assigned.items c.args.channels.now (signals_of c.args.lanes.now) (λ part. get_or (inner_lists c.args.shares.items) part []) (inner_lists c.args.ports.items) n c.loop-boxes.runs.items)
    (all_laid c.args.shares.items c.loop-boxes.boxes-iterator.rest.items c.loop-boxes.runs.items c.args.division.now.count c.loop-boxes.invariant.rest none c.loop-boxes.invariant.few c.requires.count) c.loop-boxes.invariant.laid
