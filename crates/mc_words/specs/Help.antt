-- Which words of the command line ask for help.
use Rattle.std.specs.Prelude.{ℕ, ◌==◌, ◌&&◌, ◌||◌, Bool, IsTrue, List, [], ◌∷◌, codes, get_or, length, map, string_bytes, String}
use Rattle.std.specs.declared.alloc.Global.{Global}
use Rattle.std.specs.Str.{bytes_eq}

-- a word asks for help
abbrev pub is_help_word : List ℕ → Bool
is_help_word word = bytes_eq word (codes "-h") || bytes_eq word (codes "--help") || bytes_eq word (codes "help")

-- there are no words, or the only one asks for help
abbrev pub asks_for_help : List (List ℕ) → Bool
asks_for_help words = length words == 0 || length words == 1 && is_help_word (get_or words 0 [])

-- so do the words of the command line
abbrev pub AsksForHelp : List (String Global) → Type 0
AsksForHelp words = IsTrue (asks_for_help (map string_bytes words))
