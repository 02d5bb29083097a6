-- What is printed for a conference.
use Rattle.std.specs.Prelude.{◌<◌, ◌++◌, ℕ, List, [], ◌∷◌, All, codes, length, slice_index_or}
use Rattle.std.specs.Fmt.{decimal}
use Rattle.std.specs.List.{flat_map}
use Rattle.mc_signal.specs.Choice.{codecs_of}
use Rattle.mc_table.specs.Words.{line_of}
use Rattle.mc_text.specs.NameLists.{NameLists, slot_names, slot_word}
use Rattle.mc_view.specs.declared.EndView.{EndView}
use Rattle.mc_view.specs.declared.PathView.{PathView}
use Rattle.mc_conf.specs.Legs.{legs}
use Rattle.mc_conf.specs.Mixes.{mixes}
use Rattle.mc_conf.specs.declared.mixing.Mix.{Mix}

-- ---- names

-- the box, the slot and the own codecs of an end have names
pub record IsNamedParty (names : NameLists) (end : EndView) : Type 0 where
  pub box : end.who < length names.boxes
  pub slot : end.local < length (slot_names names end.who)
  pub codecs : All (λ codec. codec < length names.codecs) (codecs_of end.own.codecs)

-- so do those of both ends of a path
pub record AreNamedEnds (names : NameLists) (view : PathView) : Type 0 where
  pub low : IsNamedParty names view.low
  pub high : IsNamedParty names view.high

-- both parties of a pair and their codec have names
pub record IsNamedMix (names : NameLists) (mix : Mix) : Type 0 where
  pub hearer_box : mix.hearer.0 < length names.boxes
  pub hearer_slot : mix.hearer.1 < length (slot_names names mix.hearer.0)
  pub heard_box : mix.heard.0 < length names.boxes
  pub heard_slot : mix.heard.1 < length (slot_names names mix.heard.0)
  pub codec : mix.codec < length names.codecs

-- ---- lines

-- the box, with the number of its legs
abbrev pub heading_line : NameLists → (who count : ℕ) → List ℕ
heading_line names who count =
    line_of (codes "conf" ∷ slice_index_or names.boxes who [] ∷ codes "legs" ∷ decimal count ∷ [])

-- who hears whom, and in which codec
abbrev pub mix_line : NameLists → Mix → List ℕ
mix_line names mix = line_of (
    codes "mix"
    ∷ slot_word names mix.hearer.0 mix.hearer.1
    ∷ slot_word names mix.heard.0 mix.heard.1
    ∷ slice_index_or names.codecs mix.codec []
    ∷ [])

-- a conference at a box: how many legs it has, and then each pair, in their order
abbrev pub print_conf : NameLists → ℕ → List PathView → List ℕ
print_conf names who views = heading_line names who (legs views who) ++ flat_map (mix_line names) (mixes views who)
