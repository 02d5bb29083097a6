use Rattle.std.proofs.Common.{◌++◌, ◌∷◌, [], ℕ, List, true, false, length, refl, ap, ap₂, sym, ◌∙◌}
use Rattle.mc_part.specs.DividedParts.{inner_lists}
use Rattle.mc_divided.specs.Laying.{ports_in, with_port}
use Rattle.mc_divided.specs.declared.network.Crossing.{Crossing}
use Rattle.mc_part.specs.declared.port.Port.{Port}
use Rattle.mc_divided.proofs.wiring.add_crossing.Goals as goal

abbrev crossing_of : ℕ → ℕ → ℕ → ℕ → Crossing
crossing_of from from_port to to_port = record { from = from; from_port = from_port; to = to; to_port = to_port }

pub returns : goal.returns
returns c =
    let near : Port = record { holder = 0; starts_here = true; first = 0; from = c.in_ok-out_back.into_back; to = c.in_ok-out.out } in
    let far : Port = record { holder = 0; starts_here = false; first = 0; from = c.in_ok-out.into; to = c.in_ok-out_back.out_back } in
    let lists : List (List Port) = inner_lists c.args.wiring.now.ports.items in
    record {
      a = near;
      b = far;
      starts = refl;
      ends = refl;
      rings = record {
        there = c.in_ok-out.ensures.ring;
        back = c.in_ok-out_back.ensures.ring;
        even = c.in_ok-out.ensures.received ∙ sym c.in_ok-out.ensures.given;
        even_back = c.in_ok-out_back.ensures.received ∙ sym c.in_ok-out_back.ensures.given;
      };
      ports_are = c.in_ok-to_port.ensures.added ∙ ap (λ (l : List (List Port)). with_port l c.args.to far) c.in_ok-from_port.ensures.added;
      crossings_are = c.in_ok-push.ensures.items
          ∙ ap₂ (λ (m n : ℕ). c.args.wiring.now.crossings.items ++ crossing_of c.args.from m c.args.to n ∷ []) c.in_ok-from_port.ensures.number
          (c.in_ok-to_port.ensures.number ∙ ap (λ (l : List (List Port)). length (ports_in l c.args.to)) c.in_ok-from_port.ensures.added);
    }
