-- Words that are printed one after the other.
use Rattle.std.proofs.Common.{◌≡◌, ◌+◌, ◌<◌, ℕ, List, [], ◌∷◌, ◌++◌, length, take, flat_map, ap, sym, ◌∙◌, arith}
use Rattle.std.proofs.lemmas.List.{flat_map_more, get_or-map, length-map, take_more}
use Rattle.std.specs.Prelude.{Vec, slice_index_or}
use Rattle.std.specs.declared.alloc.Global.{Global}
use Rattle.mc_program_lines.specs.Programs.{words_of}
use Rattle.mc_net_text.specs.Lines.{next_word}

-- one word more
pub word_more : (out : List ℕ) (words : List (Vec ℕ Global)) (k : ℕ) (word : Vec ℕ Global) → k < length words
    → word ≡ slice_index_or words k word
    → (out ++ flat_map next_word (take k (words_of words))) ++ next_word word.items
    ≡ out ++ flat_map next_word (take (k + 1) (words_of words))
word_more out words k word low is =
    let long : length (words_of words) ≡ length words = length-map words (λ (w : Vec ℕ Global). w.items) in
    let here : slice_index_or (words_of words) k [] ≡ word.items =
    get_or-map (λ (w : Vec ℕ Global). w.items) words k word [] low ∙ ap (λ (w : Vec ℕ Global). w.items) (sym is) in
    let more : take (k + 1) (words_of words) ≡ take k (words_of words) ++ word.items ∷ [] =
    take_more (words_of words) k [] (omega (arith, long)) ∙ ap (λ (w : List ℕ). take k (words_of words) ++ w ∷ []) here in
    flat_map_more next_word out (take k (words_of words)) word.items ∙ ap (λ (l : List (List ℕ)). out ++ flat_map next_word l) (sym more)
