-- The fronts after a merge are lawful, since the world is sound then.
use Rattle.std.proofs.Common.{◌≡◌, ℕ, List, [], ◌∷◌, get_or, ap, sym, ◌∙◌, subst}
use Rattle.mc_signal.specs.declared.Tagged.{Tagged}
use Rattle.mc_laws.proofs.StepGoes.{served_front}
use Rattle.mc_laws.proofs.StepKeeps.{front_is_taken}
use Rattle.mc_merge.specs.Fronts.{FrontsAreLawful, IsLawfulFront}
use Rattle.mc_merge.specs.Lanes.{leads_to}
use Rattle.mc_merge.proofs.LaneEnds.{leads_is, place_end}
use Rattle.mc_merge.proofs.Merging.{merge_keeps_sound}
use Rattle.mc_model.specs.Served.{AllServed}
use Rattle.mc_model.specs.Sound.{IsSound}
use Rattle.mc_model.specs.Worlds.{WorldState}

lawful_front : (world : WorldState) (lane : ℕ) (tagged : Tagged) (rest : List Tagged) → IsSound world → get_or world.lanes lane [] ≡ tagged ∷ rest → IsLawfulFront world lane tagged
lawful_front world lane tagged rest sound is =
    let all : AllServed world lane (tagged ∷ rest) = subst (λ (l : List Tagged). AllServed world lane l) is (sound.served lane) in
    record {
      s = all.0.0;
      fits = all.0.1;
      who = place_end world all.0.0 all.0.1.inside ∙ (sym (leads_is world all.0.0) ∙ ap (leads_to world) all.0.1.leads);
      lawful = front_is_taken world all.0.0 tagged.signal sound all.0.1.inside (served_front world lane all.0.0 tagged rest is all.0.1);
    }

pub fronts_are_lawful : FrontsAreLawful
fronts_are_lawful world logs boxes rests logged sound lane tagged rest is =
    lawful_front (record world { boxes = boxes; lanes = rests }) lane tagged rest (merge_keeps_sound world logs boxes rests logged sound) is
