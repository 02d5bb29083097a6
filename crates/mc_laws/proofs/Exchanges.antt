-- The worked exchanges come to what they should.
use Rattle.std.proofs.Common.{[], Some, None, refl}
use Rattle.mc_slot.specs.declared.State.TheVariants.{Closed, Flowing}
use Rattle.mc_laws.specs.Exchanges.{ComesTo, WorkedExchanges, opens_held, opens_closed, holds_held, flows_held, opens_and_closes}

nothing_comes : ComesTo [] Closed None None
nothing_comes = record {
  runs = refl;
  at_rest = refl;
  no_ring = refl;
  one_path = refl;
  answer = refl;
  low_state = refl;
  high_state = refl;
  low_selected = refl;
  high_selected = refl;
  low_hears = λ flows. absurd cc;
  high_hears = λ flows. absurd cc;
}

opens_held_comes : ComesTo opens_held Flowing (Some 1) (Some 1)
opens_held_comes = record {
  runs = refl;
  at_rest = refl;
  no_ring = refl;
  one_path = refl;
  answer = refl;
  low_state = refl;
  high_state = refl;
  low_selected = refl;
  high_selected = refl;
  low_hears = λ flows. refl;
  high_hears = λ flows. refl;
}

opens_closed_comes : ComesTo opens_closed Closed None None
opens_closed_comes = record {
  runs = refl;
  at_rest = refl;
  no_ring = refl;
  one_path = refl;
  answer = refl;
  low_state = refl;
  high_state = refl;
  low_selected = refl;
  high_selected = refl;
  low_hears = λ flows. absurd cc;
  high_hears = λ flows. absurd cc;
}

holds_held_comes : ComesTo holds_held Closed None None
holds_held_comes = record {
  runs = refl;
  at_rest = refl;
  no_ring = refl;
  one_path = refl;
  answer = refl;
  low_state = refl;
  high_state = refl;
  low_selected = refl;
  high_selected = refl;
  low_hears = λ flows. absurd cc;
  high_hears = λ flows. absurd cc;
}

flows_held_comes : ComesTo flows_held Flowing (Some 1) (Some 1)
flows_held_comes = record {
  runs = refl;
  at_rest = refl;
  no_ring = refl;
  one_path = refl;
  answer = refl;
  low_state = refl;
  high_state = refl;
  low_selected = refl;
  high_selected = refl;
  low_hears = λ flows. refl;
  high_hears = λ flows. refl;
}

opens_and_closes_comes : ComesTo opens_and_closes Closed None None
opens_and_closes_comes = record {
  runs = refl;
  at_rest = refl;
  no_ring = refl;
  one_path = refl;
  answer = refl;
  low_state = refl;
  high_state = refl;
  low_selected = refl;
  high_selected = refl;
  low_hears = λ flows. absurd cc;
  high_hears = λ flows. absurd cc;
}

pub worked_exchanges : WorkedExchanges
worked_exchanges = record {
  nothing = nothing_comes;
  opens_held = opens_held_comes;
  opens_closed = opens_closed_comes;
  holds_held = holds_held_comes;
  flows_held = flows_held_comes;
  opens_and_closes = opens_and_closes_comes;
}
