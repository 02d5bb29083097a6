-- What the two scenes print, line by line.
use Rattle.std.specs.Prelude.{ℕ, List, [], ◌∷◌, ◌++◌, codes}
use Rattle.mc_scene.specs.Lines.{lines_text}
use Rattle.mc_scene.specs.declared.scenes.Scene.{Scene}
use Rattle.mc_scene.specs.declared.scenes.Scene.TheVariants.{Pbx, Prepaid}

-- ---- alice, bob and carol

-- alice speaks with bob, and carol is held
abbrev pub with_bob : List (List ℕ)
with_bob =
    codes "path alice/a bob/a open hold flowing audio"
    ∷ codes "hears alice/a g711"
    ∷ codes "hears bob/a g711"
    ∷ codes "path carol/a pbx/c open hold flowing audio"
    ∷ codes "hears carol/a none"
    ∷ codes "hears pbx/c none"
    ∷ []

-- alice speaks with carol, and bob is held
abbrev pub with_carol : List (List ℕ)
with_carol =
    codes "path alice/a carol/a open open flowing audio"
    ∷ codes "hears alice/a g711"
    ∷ codes "hears carol/a g711"
    ∷ codes "path bob/a pbx/b hold hold flowing audio"
    ∷ codes "hears bob/a none"
    ∷ codes "hears pbx/b none"
    ∷ []

-- bob has closed, and carol is held
abbrev pub without_bob : List (List ℕ)
without_bob =
    codes "path alice/a bob/a open close closed audio"
    ∷ codes "path carol/a pbx/c open hold flowing audio"
    ∷ codes "hears carol/a none"
    ∷ codes "hears pbx/c none"
    ∷ []

-- ---- the caller, the callee and the voice

-- the caller speaks with the callee, and the voice is closed
abbrev pub with_callee : List (List ℕ)
with_callee =
    codes "path caller/a callee/a open hold flowing audio"
    ∷ codes "hears caller/a g729"
    ∷ codes "hears callee/a g729"
    ∷ codes "path pc/v voice/a close hold closed audio"
    ∷ []

-- the caller hears the voice, and the callee is held
abbrev pub with_voice : List (List ℕ)
with_voice =
    codes "path caller/a voice/a open hold flowing audio"
    ∷ codes "hears caller/a g711"
    ∷ codes "hears voice/a g711"
    ∷ codes "path pc/c callee/a hold hold flowing audio"
    ∷ codes "hears pc/c none"
    ∷ codes "hears callee/a none"
    ∷ []

-- ---- whole outputs

-- a settle, and what is printed of its paths
abbrev pub settle_lines : List ℕ → List (List ℕ) → List ℕ
settle_lines settle shown = lines_text (settle ∷ shown)

abbrev pub scene_output : Scene → List ℕ
scene_output Pbx =
    settle_lines (codes "settle 1") with_bob
    ++ settle_lines (codes "settle 2") with_carol
    ++ settle_lines (codes "settle 3") with_bob
    ++ settle_lines (codes "settle 4") without_bob
scene_output Prepaid =
    settle_lines (codes "settle 1") with_callee
    ++ settle_lines (codes "settle 2") with_voice
    ++ settle_lines (codes "settle 3") with_callee
