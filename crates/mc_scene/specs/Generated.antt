-- Whole texts of drawn chains.
use Rattle.std.specs.Prelude.{ℕ, List, [], ◌∷◌, ◌++◌, codes}
use Rattle.mc_scene.specs.Chains.{drawn_chains}
use Rattle.mc_scene.specs.Groups.{group_text}
use Rattle.mc_scene.specs.Lines.{lines_text, words_line}
use Rattle.mc_scene.specs.declared.chains.Chain.{Chain}
use Rattle.mc_scene.specs.declared.groups.Group.{Group}
use Rattle.mc_scene.specs.declared.groups.Group.TheVariants.{Boxes, Channels, Calls, Holds, Closes}

-- the version and the eight codecs
abbrev pub codecs_text : List ℕ
codecs_text = lines_text (
    codes "media 1"
    ∷ codes "codec c0"
    ∷ codes "codec c1"
    ∷ codes "codec c2"
    ∷ codes "codec c3"
    ∷ codes "codec c4"
    ∷ codes "codec c5"
    ∷ codes "codec c6"
    ∷ codes "codec c7"
    ∷ [])

-- all lines before the commands
abbrev pub network_text : List Chain → List ℕ
network_text chains =
    codecs_text ++ group_text Boxes chains ++ group_text Channels chains ++ words_line (codes "begin" ∷ [])

-- the commands of a group, and a settle
abbrev pub batch_text : Group → List Chain → List ℕ
batch_text group chains = group_text group chains ++ words_line (codes "settle" ∷ [])

abbrev pub commands_text : List Chain → List ℕ
commands_text chains = batch_text Calls chains ++ batch_text Holds chains ++ batch_text Closes chains

-- the text of the chains that are drawn from a number on
abbrev pub generated : ℕ → ℕ → List ℕ
generated number size = network_text (drawn_chains number size) ++ commands_text (drawn_chains number size)
