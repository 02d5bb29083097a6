-- The texts of the two scenes, line by line.
use Rattle.std.specs.Prelude.{ℕ, List, [], ◌∷◌, codes}
use Rattle.mc_scene.specs.Lines.{lines_text}
use Rattle.mc_scene.specs.declared.scenes.Scene.{Scene}
use Rattle.mc_scene.specs.declared.scenes.Scene.TheVariants.{Pbx, Prepaid}

-- alice speaks with bob, then with carol, then with bob again, who then closes
abbrev pub pbx_lines : List (List ℕ)
pbx_lines =
    codes "media 1"
    ∷ codes "codec g711"
    ∷ codes "dev alice g711"
    ∷ codes "dev bob g711"
    ∷ codes "dev carol g711"
    ∷ codes "feat pbx"
    ∷ codes "chan audio alice a pbx a"
    ∷ codes "chan audio bob a pbx b"
    ∷ codes "chan audio carol a pbx c"
    ∷ codes "prog pbx ab ac"
    ∷ codes "state ab"
    ∷ codes "link a b"
    ∷ codes "goal c hold"
    ∷ codes "when told swap ac"
    ∷ codes "state ac"
    ∷ codes "link a c"
    ∷ codes "goal b hold"
    ∷ codes "when told swap ab"
    ∷ codes "begin"
    ∷ codes "set alice a open"
    ∷ codes "set bob a hold"
    ∷ codes "set carol a open"
    ∷ codes "settle"
    ∷ codes "tell pbx swap"
    ∷ codes "settle"
    ∷ codes "tell pbx swap"
    ∷ codes "settle"
    ∷ codes "set bob a close"
    ∷ codes "settle"
    ∷ []

-- the caller speaks with the callee, then hears the voice, and then pays and speaks with the callee again
abbrev pub prepaid_lines : List (List ℕ)
prepaid_lines =
    codes "media 1"
    ∷ codes "codec g711"
    ∷ codes "codec g729"
    ∷ codes "dev caller g711 g729"
    ∷ codes "dev callee g729"
    ∷ codes "dev voice g711"
    ∷ codes "feat pc"
    ∷ codes "chan audio caller a pc a"
    ∷ codes "chan audio pc c callee a"
    ∷ codes "chan audio pc v voice a"
    ∷ codes "prog pc talk prompt"
    ∷ codes "state talk"
    ∷ codes "link a c"
    ∷ codes "goal v close"
    ∷ codes "when told out prompt"
    ∷ codes "state prompt"
    ∷ codes "link a v"
    ∷ codes "goal c hold"
    ∷ codes "when told paid talk"
    ∷ codes "begin"
    ∷ codes "set caller a open"
    ∷ codes "set callee a hold"
    ∷ codes "set voice a hold"
    ∷ codes "settle"
    ∷ codes "tell pc out"
    ∷ codes "settle"
    ∷ codes "tell pc paid"
    ∷ codes "settle"
    ∷ []

abbrev pub scene_text : Scene → List ℕ
scene_text Pbx = lines_text pbx_lines
scene_text Prepaid = lines_text prepaid_lines
