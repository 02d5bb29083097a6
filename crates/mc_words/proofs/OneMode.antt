-- The words ask for one mode.
use Rattle.std.proofs.Common.{◌≡◌, ◌<◌, ◌≤◌, ℕ, Bool, IsFalse, true, false, List, [], ◌∷◌, Some, codes, get_or, map, refl, ap, ap₂, sym, ◌∙◌, arith}
use Rattle.std.specs.Prelude.{string_bytes}
use Rattle.std.proofs.lemmas.Grind.{common_steps}
use Rattle.mc_text.specs.Spelling.{is_name, number_of}
use Rattle.mc_words.proofs.BoxNames.{bytes_tell_name}
use Rattle.mc_words.specs.Commands.{AsksFor, GrowingIsNoMode, Spells, SpellsGrow, SpellsWithin, WordsAskForOneMode, bytes_of, check_word, plain_words, prints_journal, scene_word}
use Rattle.mc_words.specs.declared.words.Mode.{Mode}
use Rattle.mc_words.specs.declared.words.Mode.TheVariants as mode
use Rattle.mc_scene.specs.declared.limit.TheConstants.{NUMBER_LIMIT, SIZE_LIMIT}
use Rattle.mc_scene.specs.declared.scenes.Scene.{Scene}
use Rattle.mc_scene.specs.declared.scenes.Scene.TheVariants.{Pbx, Prepaid}

same_number : (limit : ℕ) (word other : List ℕ) (number more : ℕ) → word ≡ other → SpellsWithin limit word number → SpellsWithin limit other more → number ≡ more
same_number limit word other number more is one two = let both : Some number ≡ Some more = sym one.0 ∙ (ap number_of is ∙ two.0) in cc

same_scene : (scene other : Scene) → scene_word scene ≡ scene_word other → scene ≡ other
same_scene Pbx Pbx e = refl
same_scene Pbx Prepaid e = let clash : codes "pbx" ≡ codes "prepaid" = e in cc
same_scene Prepaid Pbx e = let clash : codes "prepaid" ≡ codes "pbx" = e in cc
same_scene Prepaid Prepaid e = refl

-- the first word of a mode
abbrev mode_word : Mode → List ℕ
mode_word (mode.Run journal) = codes "run"
mode_word (mode.One state journal) = codes "one"
mode_word (mode.Check why) = check_word why
mode_word (mode.Gen number size) = codes "gen"
mode_word (mode.Scene scene) = codes "scene"
mode_word (mode.Conf name) = codes "conf"

-- and the words after it
begins : (m : Mode) (words : List (List ℕ)) → Spells m words → (rest : List (List ℕ)) × (words ≡ mode_word m ∷ rest)
begins (mode.Run journal) words is = ([], is)
begins (mode.One state journal) words (word, is, spelt) = (word ∷ [], is)
begins (mode.Check why) words is = ([], is)
begins (mode.Gen number size) words (word, size_word, is, spelt, sized, some) = (word ∷ size_word ∷ [], is)
begins (mode.Scene scene) words is = (scene_word scene ∷ [], is)
begins (mode.Conf name) words (is, spelt) = (bytes_of name ∷ [], is)

same_word : (m other : Mode) (words : List (List ℕ)) → Spells m words → Spells other words → mode_word m ≡ mode_word other
same_word m other words one two =
    let both : mode_word m ∷ (begins m words one).0 ≡ mode_word other ∷ (begins other words two).0 = sym (begins m words one).1 ∙ (begins other words two).1 in
    cc

-- two words that are the same begin alike
first_letter : (word other : List ℕ) → word ≡ other → get_or word 0 0 ≡ get_or other 0 0
first_letter word other same = ap (λ (w : List ℕ). get_or w 0 0) same

letters_apart : (one other : ℕ) → one < other → one ≡ other → ⊥
letters_apart one other less same = omega arith

-- plain words spell one mode, with the journal or without it
spells_one : (m other : Mode) (words : List (List ℕ)) → mode_word m ≡ mode_word other → Spells m words → Spells other words → prints_journal m ≡ prints_journal other → m ≡ other
spells_one (mode.Run asked) (mode.Run flag) words first one two same = ap mode.Run same
spells_one (mode.One state asked) (mode.One more flag) words first (word, one, spelt) (next, two, spelt_next) same =
    let both : codes "one" ∷ word ∷ [] ≡ codes "one" ∷ next ∷ [] = sym one ∙ two in
    let alike : word ≡ next = cc (both) in
    ap₂ mode.One (same_number _ word next state more alike spelt spelt_next) same
spells_one (mode.Check false) (mode.Check false) words first one two same = refl
spells_one (mode.Check true) (mode.Check true) words first one two same = refl
spells_one (mode.Check false) (mode.Check true) words first one two same = absurd (letters_apart 99 119 (omega arith) (first_letter (codes "check") (codes "why") first))
spells_one (mode.Check true) (mode.Check false) words first one two same = absurd (letters_apart 99 119 (omega arith) (sym (first_letter (codes "why") (codes "check") first)))
spells_one (mode.Gen number size) (mode.Gen next more) words first (word, size_word, one, spelt, sized, some) (other, other_size, two, spelt_next, sized_next, some_next) same =
    let both : codes "gen" ∷ word ∷ size_word ∷ [] ≡ codes "gen" ∷ other ∷ other_size ∷ [] = sym one ∙ two in
    let alike : word ≡ other = cc (both) in
    let sizes_alike : size_word ≡ other_size = cc (both) in
    ap₂ mode.Gen (same_number _ word other number next alike spelt spelt_next) (same_number _ size_word other_size size more sizes_alike sized sized_next)
spells_one (mode.Scene scene) (mode.Scene other) words first one two same =
    let both : codes "scene" ∷ scene_word scene ∷ [] ≡ codes "scene" ∷ scene_word other ∷ [] = sym one ∙ two in
    let alike : scene_word scene ≡ scene_word other = cc (both) in
    ap mode.Scene (same_scene scene other alike)
spells_one (mode.Conf name) (mode.Conf other) words first (one, spelt) (two, spelt_other) same =
    let both : codes "conf" ∷ bytes_of name ∷ [] ≡ codes "conf" ∷ bytes_of other ∷ [] = sym one ∙ two in
    let alike : bytes_of name ≡ bytes_of other = cc (both) in
    ap mode.Conf (bytes_tell_name name other alike)
spells_one (mode.Run asked) (mode.One more flag) words first one two same = let clash : codes "run" ≡ codes "one" = first in cc
spells_one (mode.Run asked) (mode.Check false) words first one two same = let clash : codes "run" ≡ codes "check" = first in cc
spells_one (mode.Run asked) (mode.Check true) words first one two same = absurd (letters_apart 114 119 (omega arith) (first_letter (codes "run") (codes "why") first))
spells_one (mode.Run asked) (mode.Gen next more) words first one two same = let clash : codes "run" ≡ codes "gen" = first in cc
spells_one (mode.Run asked) (mode.Scene other) words first one two same = let clash : codes "run" ≡ codes "scene" = first in cc
spells_one (mode.One state asked) (mode.Run flag) words first one two same = let clash : codes "one" ≡ codes "run" = first in cc
spells_one (mode.One state asked) (mode.Check false) words first one two same = let clash : codes "one" ≡ codes "check" = first in cc
spells_one (mode.One state asked) (mode.Check true) words first one two same = absurd (letters_apart 111 119 (omega arith) (first_letter (codes "one") (codes "why") first))
spells_one (mode.One state asked) (mode.Gen next more) words first one two same = let clash : codes "one" ≡ codes "gen" = first in cc
spells_one (mode.One state asked) (mode.Scene other) words first one two same = let clash : codes "one" ≡ codes "scene" = first in cc
spells_one (mode.Check false) (mode.Run flag) words first one two same = let clash : codes "check" ≡ codes "run" = first in cc
spells_one (mode.Check true) (mode.Run flag) words first one two same = absurd (letters_apart 114 119 (omega arith) (sym (first_letter (codes "why") (codes "run") first)))
spells_one (mode.Check false) (mode.One more flag) words first one two same = let clash : codes "check" ≡ codes "one" = first in cc
spells_one (mode.Check true) (mode.One more flag) words first one two same = absurd (letters_apart 111 119 (omega arith) (sym (first_letter (codes "why") (codes "one") first)))
spells_one (mode.Check false) (mode.Gen next more) words first one two same = let clash : codes "check" ≡ codes "gen" = first in cc
spells_one (mode.Check true) (mode.Gen next more) words first one two same = absurd (letters_apart 103 119 (omega arith) (sym (first_letter (codes "why") (codes "gen") first)))
spells_one (mode.Check false) (mode.Scene other) words first one two same = let clash : codes "check" ≡ codes "scene" = first in cc
spells_one (mode.Check true) (mode.Scene other) words first one two same = absurd (letters_apart 115 119 (omega arith) (sym (first_letter (codes "why") (codes "scene") first)))
spells_one (mode.Gen number size) (mode.Run flag) words first one two same = let clash : codes "gen" ≡ codes "run" = first in cc
spells_one (mode.Gen number size) (mode.One more flag) words first one two same = let clash : codes "gen" ≡ codes "one" = first in cc
spells_one (mode.Gen number size) (mode.Check false) words first one two same = let clash : codes "gen" ≡ codes "check" = first in cc
spells_one (mode.Gen number size) (mode.Check true) words first one two same = absurd (letters_apart 103 119 (omega arith) (first_letter (codes "gen") (codes "why") first))
spells_one (mode.Gen number size) (mode.Scene other) words first one two same = let clash : codes "gen" ≡ codes "scene" = first in cc
spells_one (mode.Scene scene) (mode.Run flag) words first one two same = let clash : codes "scene" ≡ codes "run" = first in cc
spells_one (mode.Scene scene) (mode.One more flag) words first one two same = let clash : codes "scene" ≡ codes "one" = first in cc
spells_one (mode.Scene scene) (mode.Check false) words first one two same = let clash : codes "scene" ≡ codes "check" = first in cc
spells_one (mode.Scene scene) (mode.Check true) words first one two same = absurd (letters_apart 115 119 (omega arith) (first_letter (codes "scene") (codes "why") first))
spells_one (mode.Scene scene) (mode.Gen next more) words first one two same = let clash : codes "scene" ≡ codes "gen" = first in cc
spells_one (mode.Run asked) (mode.Conf other) words first one two same = let clash : codes "run" ≡ codes "conf" = first in cc
spells_one (mode.One state asked) (mode.Conf other) words first one two same = let clash : codes "one" ≡ codes "conf" = first in cc
spells_one (mode.Check false) (mode.Conf other) words first one two same = let clash : codes "check" ≡ codes "conf" = first in cc
spells_one (mode.Check true) (mode.Conf other) words first one two same = absurd (letters_apart 99 119 (omega arith) (sym (first_letter (codes "why") (codes "conf") first)))
spells_one (mode.Gen number size) (mode.Conf other) words first one two same = let clash : codes "gen" ≡ codes "conf" = first in cc
spells_one (mode.Scene scene) (mode.Conf other) words first one two same = let clash : codes "scene" ≡ codes "conf" = first in cc
spells_one (mode.Conf name) (mode.Run asked) words first one two same = let clash : codes "conf" ≡ codes "run" = first in cc
spells_one (mode.Conf name) (mode.One state asked) words first one two same = let clash : codes "conf" ≡ codes "one" = first in cc
spells_one (mode.Conf name) (mode.Check false) words first one two same = let clash : codes "conf" ≡ codes "check" = first in cc
spells_one (mode.Conf name) (mode.Check true) words first one two same = absurd (letters_apart 99 119 (omega arith) (first_letter (codes "conf") (codes "why") first))
spells_one (mode.Conf name) (mode.Gen number size) words first one two same = let clash : codes "conf" ≡ codes "gen" = first in cc
spells_one (mode.Conf name) (mode.Scene scene) words first one two same = let clash : codes "conf" ≡ codes "scene" = first in cc

pub asks_for_one : WordsAskForOneMode
asks_for_one words m other one two = spells_one m other (plain_words (map string_bytes words)) (same_word m other _ one.0 two.0) one.0 two.0 (one.1 ∙ sym two.1)

-- no mode's first word is that of a script that grows
grow_apart : (m : Mode) → codes "grow" ≡ mode_word m → ⊥
grow_apart (mode.Run journal) first = let clash : codes "grow" ≡ codes "run" = first in cc
grow_apart (mode.One state journal) first = let clash : codes "grow" ≡ codes "one" = first in cc
grow_apart (mode.Check false) first = let clash : codes "grow" ≡ codes "check" = first in cc
grow_apart (mode.Check true) first = let clash : codes "grow" ≡ codes "why" = first in cc
grow_apart (mode.Gen number size) first = let clash : codes "grow" ≡ codes "gen" = first in cc
grow_apart (mode.Scene scene) first = let clash : codes "grow" ≡ codes "scene" = first in cc
grow_apart (mode.Conf name) first = absurd (letters_apart 99 103 (omega arith) (sym (first_letter (codes "grow") (codes "conf") first)))

grow_spells_none : (m : Mode) (words : List (List ℕ)) → SpellsGrow words → Spells m words → ⊥
grow_spells_none m words grows spells =
    let both : codes "grow" ∷ [] ≡ mode_word m ∷ (begins m words spells).0 = sym grows ∙ (begins m words spells).1 in
    let same : codes "grow" ≡ mode_word m = cc (both) in
    grow_apart m same

pub growing_no_mode : GrowingIsNoMode
growing_no_mode words m grows asks = grow_spells_none m (plain_words (map string_bytes words)) grows.spelt asks.0

-- where no number is spelt, nothing is generated
pub no_number : (first second third : List ℕ) (journal : Bool) → first ≡ codes "gen" → ((number : ℕ) → SpellsWithin NUMBER_LIMIT second number → ⊥) → (m : Mode) → AsksFor m journal (first ∷ second ∷ third ∷ []) → ⊥
no_number first second third journal is none (mode.Run asked) asks = let clash : first ∷ second ∷ third ∷ [] ≡ codes "run" ∷ [] = asks.0 in cc
no_number first second third journal is none (mode.One state asked) ((word, one, spelt), same) = let clash : first ∷ second ∷ third ∷ [] ≡ codes "one" ∷ word ∷ [] = one in cc
no_number first second third journal is none (mode.Check false) asks = let clash : first ∷ second ∷ third ∷ [] ≡ codes "check" ∷ [] = asks.0 in cc
no_number first second third journal is none (mode.Check true) asks = let clash : first ∷ second ∷ third ∷ [] ≡ codes "why" ∷ [] = asks.0 in cc
no_number first second third journal is none (mode.Gen number size) ((word, size_word, one, spelt, sized, some), same) =
    let both : first ∷ second ∷ third ∷ [] ≡ codes "gen" ∷ word ∷ size_word ∷ [] = one in
    let alike : second ≡ word = cc (both) in
    none number (ap number_of alike ∙ spelt.0, spelt.1)
no_number first second third journal is none (mode.Scene scene) asks = let clash : first ∷ second ∷ third ∷ [] ≡ codes "scene" ∷ scene_word scene ∷ [] = asks.0 in cc
no_number first second third journal is none (mode.Conf name) ((one, spelt), same) = let clash : first ∷ second ∷ third ∷ [] ≡ codes "conf" ∷ bytes_of name ∷ [] = one in cc

-- and neither where no size is
pub no_size : (first second third : List ℕ) (journal : Bool) → first ≡ codes "gen" → ((size : ℕ) → SpellsWithin SIZE_LIMIT third size → 1 ≤ size → ⊥) → (m : Mode) → AsksFor m journal (first ∷ second ∷ third ∷ []) → ⊥
no_size first second third journal is none (mode.Run asked) asks = let clash : first ∷ second ∷ third ∷ [] ≡ codes "run" ∷ [] = asks.0 in cc
no_size first second third journal is none (mode.One state asked) ((word, one, spelt), same) = let clash : first ∷ second ∷ third ∷ [] ≡ codes "one" ∷ word ∷ [] = one in cc
no_size first second third journal is none (mode.Check false) asks = let clash : first ∷ second ∷ third ∷ [] ≡ codes "check" ∷ [] = asks.0 in cc
no_size first second third journal is none (mode.Check true) asks = let clash : first ∷ second ∷ third ∷ [] ≡ codes "why" ∷ [] = asks.0 in cc
no_size first second third journal is none (mode.Gen number size) ((word, size_word, one, spelt, sized, some), same) =
    let both : first ∷ second ∷ third ∷ [] ≡ codes "gen" ∷ word ∷ size_word ∷ [] = one in
    let alike : third ≡ size_word = cc (both) in
    none size (ap number_of alike ∙ sized.0, sized.1) some
no_size first second third journal is none (mode.Scene scene) asks = let clash : first ∷ second ∷ third ∷ [] ≡ codes "scene" ∷ scene_word scene ∷ [] = asks.0 in cc
no_size first second third journal is none (mode.Conf name) ((one, spelt), same) = let clash : first ∷ second ∷ third ∷ [] ≡ codes "conf" ∷ bytes_of name ∷ [] = one in cc

-- where no state is spelt, nothing is run by draws that begin there
pub no_state : (first second : List ℕ) (journal : Bool) → first ≡ codes "one" → ((state : ℕ) → SpellsWithin NUMBER_LIMIT second state → ⊥) → (m : Mode) → AsksFor m journal (first ∷ second ∷ []) → ⊥
no_state first second journal is none (mode.Run asked) asks = let clash : first ∷ second ∷ [] ≡ codes "run" ∷ [] = asks.0 in cc
no_state first second journal is none (mode.One state asked) ((word, one, spelt), same) =
    let both : first ∷ second ∷ [] ≡ codes "one" ∷ word ∷ [] = one in
    let alike : second ≡ word = cc (both) in
    none state (ap number_of alike ∙ spelt.0, spelt.1)
no_state first second journal is none (mode.Check false) asks = let clash : first ∷ second ∷ [] ≡ codes "check" ∷ [] = asks.0 in cc
no_state first second journal is none (mode.Check true) asks = let clash : first ∷ second ∷ [] ≡ codes "why" ∷ [] = asks.0 in cc
no_state first second journal is none (mode.Gen number size) ((word, size_word, one, spelt, sized, some), same) = let clash : first ∷ second ∷ [] ≡ codes "gen" ∷ word ∷ size_word ∷ [] = one in cc
no_state first second journal is none (mode.Scene scene) asks =
    let both : first ∷ second ∷ [] ≡ codes "scene" ∷ scene_word scene ∷ [] = asks.0 in
    let named : first ≡ codes "scene" = cc (both) in
    let clash : codes "one" ≡ codes "scene" = sym is ∙ named in
    cc
no_state first second journal is none (mode.Conf name) ((one, spelt), same) =
    let named : first ≡ codes "conf" = cc in
    let clash : codes "one" ≡ codes "conf" = sym is ∙ named in
    cc

-- and where no scene is named, none is run
pub no_scene : (first second : List ℕ) (journal : Bool) → first ≡ codes "scene" → ((scene : Scene) → second ≡ scene_word scene → ⊥) → (m : Mode) → AsksFor m journal (first ∷ second ∷ []) → ⊥
no_scene first second journal is none (mode.Run asked) asks = let clash : first ∷ second ∷ [] ≡ codes "run" ∷ [] = asks.0 in cc
no_scene first second journal is none (mode.One state asked) ((word, one, spelt), same) =
    let both : first ∷ second ∷ [] ≡ codes "one" ∷ word ∷ [] = one in
    let named : first ≡ codes "one" = cc (both) in
    let clash : codes "scene" ≡ codes "one" = sym is ∙ named in
    cc
no_scene first second journal is none (mode.Check false) asks = let clash : first ∷ second ∷ [] ≡ codes "check" ∷ [] = asks.0 in cc
no_scene first second journal is none (mode.Check true) asks = let clash : first ∷ second ∷ [] ≡ codes "why" ∷ [] = asks.0 in cc
no_scene first second journal is none (mode.Gen number size) ((word, size_word, one, spelt, sized, some), same) = let clash : first ∷ second ∷ [] ≡ codes "gen" ∷ word ∷ size_word ∷ [] = one in cc
no_scene first second journal is none (mode.Scene scene) asks =
    let both : first ∷ second ∷ [] ≡ codes "scene" ∷ scene_word scene ∷ [] = asks.0 in
    let alike : second ≡ scene_word scene = cc (both) in
    none scene alike
no_scene first second journal is none (mode.Conf name) ((one, spelt), same) =
    let named : first ≡ codes "conf" = cc in
    let clash : codes "scene" ≡ codes "conf" = sym is ∙ named in
    cc

-- and where no box is named, no conference is printed
pub no_box : (first second : List ℕ) (journal : Bool) → first ≡ codes "conf" → IsFalse (is_name second) → (m : Mode) → AsksFor m journal (first ∷ second ∷ []) → ⊥
no_box first second journal is none (mode.Run asked) asks = let clash : first ∷ second ∷ [] ≡ codes "run" ∷ [] = asks.0 in cc
no_box first second journal is none (mode.One state asked) ((word, one, spelt), same) =
    let named : first ≡ codes "one" = cc in
    let clash : codes "conf" ≡ codes "one" = sym is ∙ named in
    cc
no_box first second journal is none (mode.Check false) asks = let clash : first ∷ second ∷ [] ≡ codes "check" ∷ [] = asks.0 in cc
no_box first second journal is none (mode.Check true) asks = let clash : first ∷ second ∷ [] ≡ codes "why" ∷ [] = asks.0 in cc
no_box first second journal is none (mode.Gen number size) ((word, size_word, one, spelt, sized, some), same) = let clash : first ∷ second ∷ [] ≡ codes "gen" ∷ word ∷ size_word ∷ [] = one in cc
no_box first second journal is none (mode.Scene scene) asks =
    let both : first ∷ second ∷ [] ≡ codes "scene" ∷ scene_word scene ∷ [] = asks.0 in
    let named : first ≡ codes "scene" = cc (both) in
    let clash : codes "conf" ≡ codes "scene" = sym is ∙ named in
    cc
no_box first second journal is none (mode.Conf name) ((one, spelt), same) =
    let both : first ∷ second ∷ [] ≡ codes "conf" ∷ bytes_of name ∷ [] = one in
    let alike : second ≡ bytes_of name = cc (both) in
    let not_spelt : is_name second ≡ false = grind (arith, common_steps) in
    let is_spelt : is_name (bytes_of name) ≡ true = grind (arith, common_steps) in
    let clash : true ≡ false = sym is_spelt ∙ (ap is_name (sym alike) ∙ not_spelt) in
    cc
