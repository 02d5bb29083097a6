-- What goes into a lane of a world is what its box sends at that end.
use Rattle.std.proofs.Common.{◌≡◌, ◌==◌, ◌++◌, if◌then◌else◌, ℕ, Bool, true, false, Option, Some, None, List, [], ◌∷◌, map, refl, ap, ◌∙◌}
use Rattle.std.specs.Option.{option_map}
use Rattle.std.proofs.lemmas.List.{map-append}
use Rattle.mc_signal.specs.declared.Signal.{Signal}
use Rattle.mc_laws.specs.Sendings.{sent_on, signal_on}
use Rattle.mc_port.specs.Tunnels.{event_sends, sent_if, tunnel_if_at}
use Rattle.mc_merge.specs.Lanes.{lane_place, out_of_box}
use Rattle.mc_model.specs.Worlds.{WorldState, far, lane_of, number, tunnel_of}
use Rattle.mc_port.specs.Ends.{with_stamp}
use Rattle.mc_port.specs.declared.stamped.Stamped.{Stamped}

sent_by_test : (test : Bool) (tunnel stamp : ℕ) (signal : Signal)
    → map (with_stamp stamp) (if test then record { tunnel = tunnel; signal = signal } ∷ [] else []) ≡ sent_if (if test then Some tunnel else None) stamp signal
sent_by_test true tunnel stamp signal = refl
sent_by_test false tunnel stamp signal = refl

one_sent : (found : Option ℕ) (world : WorldState) (lane stamp : ℕ) (signal : Signal)
    → map (with_stamp stamp) (signal_on world lane signal found) ≡ sent_if (tunnel_if_at lane (option_map (λ s. lane_place world (far s)) found)) stamp signal
one_sent None world lane stamp signal = refl
one_sent (Some s) world lane stamp signal = sent_by_test (lane_of world (far s) == lane) (tunnel_of world (far s)).within stamp signal

pub sends_are : (sent : List (ℕ × Signal)) (world : WorldState) (lane who stamp : ℕ) → map (with_stamp stamp) (sent_on world who lane sent) ≡ event_sends (out_of_box world who lane) stamp sent
sends_are [] world lane who stamp = refl
sends_are (sending ∷ sent) world lane who stamp =
    map-append (with_stamp stamp) (signal_on world lane sending.1 (number world who sending.0)) (sent_on world who lane sent)
    ∙ (ap (λ (l : List Stamped). l ++ map (with_stamp stamp) (sent_on world who lane sent)) (one_sent (number world who sending.0) world lane stamp sending.1)
    ∙ ap (λ (l : List Stamped). sent_if (out_of_box world who lane sending.0) stamp sending.1 ++ l) (sends_are sent world lane who stamp))
