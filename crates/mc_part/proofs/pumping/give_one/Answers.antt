use Rattle.std.proofs.Common.{◌≡◌, ◌<◌, ◌∷◌, ◌∙◌, [], drop, slice_get, Some, length, refl, ap, subst, ℕ, rules, arith}
use Rattle.std.specs.Vec.{with_item}
use Rattle.std.proofs.lemmas.Grind.{common_steps}
use Rattle.mc_merge.specs.Account.{part_lane}
use Rattle.mc_merge.specs.Steps.{at_lane}
use Rattle.mc_merge.specs.Turns.{no_items}
use Rattle.mc_port.specs.Ends.{in_ring, received}
use Rattle.mc_port.specs.declared.ends.InPort.{InPort}
use Rattle.mc_port.specs.declared.stamped.Stamped.{Stamped}
use Rattle.mc_world.specs.Pumping.{IsOutgoing, without_first}
use Rattle.mc_part.specs.Parts.{state_of}
use Rattle.mc_part.specs.Ports.{out_lane}
use Rattle.mc_part.specs.declared.port.Port.{Port}
use Rattle.mc_part.specs.declared.part.Part.{Part}
use Rattle.mc_part.proofs.PortLanes.{IsAt, idle_run, kept_to, one_port, port_read, went}
use Rattle.mc_part.proofs.Ran.{runs_none}
use Rattle.mc_part.proofs.pumping.give_one.Goals as goal

pub returns-in_default-clause-run : goal.returns-in_default-clause-run
returns-in_default-clause-run c = runs_none c.args.part.now c.requires.within

pub returns-then-out-out_lane-clause-run : goal.returns-then-out-out_lane-clause-run
returns-then-out-out_lane-clause-run c = runs_none c.args.part.now c.requires.within

pub returns-then-not-give-clause-run : goal.returns-then-not-give-clause-run
returns-then-not-give-clause-run c =
    let a : Part = c.args.part.now in
    let read : Port = c.index_mut.result.now in
    let b : Part = record a { ports = with_item a.ports c.args.channel c.give.new.self } in
    let at : IsAt a.ports.items b.ports.items c.args.channel read c.give.new.self = record {
      there = port_read a.ports.items c.args.channel read c.requires.here c.index_mut.ensures.value;
      new = refl;
      starts = c.give.ensures.starts;
      in_ring = ap (λ (p : InPort). in_ring p) c.give.ensures.from;
      out_ring = c.give.ensures.ring;
      kept = kept_to read c.give.new.self c.give.ensures.kept c.give.ensures.from;
    } in
    record {
      gave = no_items;
      put = no_items;
      run = idle_run a b c.args.channel read c.give.new.self at (ap (λ (p : InPort). received p) c.give.ensures.from) (c.give.ensures.full (search rules)) refl refl refl c.requires.within (record { used = refl; commands = refl; shifts = refl });
    }

pub returns-clause-run : goal.returns-clause-run
returns-clause-run c =
    let a : Part = c.args.part.now in
    let read : Port = c.index_mut.result.now in
    let there : slice_get a.ports.items c.args.channel ≡ Some read = port_read a.ports.items c.args.channel read c.requires.here c.index_mut.ensures.value in
    let same : c.index-port.result.now ≡ read = one_port a.ports.items c.args.channel c.index-port.result.now read there c.index-port.ensures in
    let out : IsOutgoing a.engine c.in-Some.out = search rules in
    let is : c.in-Some.out.lane ≡ c.out_lane.result = grind (arith, common_steps) in
    let lane : c.in-Some.out.lane ≡ out_lane c.args.channel read.starts_here = is ∙ (c.out_lane.ensures ∙ ap (λ (p : Port). out_lane c.args.channel p.starts_here) same) in
    let item : Stamped = record { stamp = a.stamp; tunnel = c.in-Some.out.tunnel; signal = c.in-Some.out.signal } in
    let b : Part = record a { engine = c.pop_out.new.self; ports = with_item a.ports c.args.channel c.give.new.self } in
    let at : IsAt a.ports.items b.ports.items c.args.channel read c.give.new.self = record {
      there = there;
      new = refl;
      starts = c.give.ensures.starts;
      in_ring = ap (λ (p : InPort). in_ring p) c.give.ensures.from;
      out_ring = c.give.ensures.ring;
      kept = kept_to read c.give.new.self c.give.ensures.kept c.give.ensures.from;
    } in
    record {
      gave = no_items;
      put = at_lane (out_lane c.args.channel read.starts_here) (item ∷ []);
      run = went a b c.args.channel read c.give.new.self item at (c.give.ensures.given (search rules)) (ap (λ (p : InPort). received p) c.give.ensures.from)
          (c.pop_out.ensures ∙ ap (λ (n : ℕ). without_first a.engine n) lane)
          (subst (λ (n : ℕ). n < length a.engine.lanes) lane out.there)
          (subst (λ (n : ℕ). part_lane (state_of a) n ≡ record { tunnel = c.in-Some.out.tunnel; signal = c.in-Some.out.signal } ∷ drop 1 (part_lane (state_of a) n)) lane out.first)
          refl refl refl refl c.requires.away c.requires.within (record { used = refl; commands = refl; shifts = refl });
    }
