-- A line that is told, and bytes as a terminal can show them.
use Rattle.std.specs.Prelude.{ℕ, ◌/◌, ◌%◌, ◌&&◌, Bool, List, [], ◌∷◌, ◌++◌, codes, flat_map, get_or, if◌then◌else◌, nat_le}

-- a line of what is told: whose it is, the sentence, and a line end
abbrev pub told_line : List ℕ → List ℕ
told_line sentence = codes "mediactl: " ++ sentence ++ 10 ∷ []

-- a terminal can show the byte
abbrev pub is_shown : ℕ → Bool
is_shown byte = nat_le 32 byte && nat_le byte 126

abbrev pub hex_digit : ℕ → ℕ
hex_digit value = get_or (codes "0123456789abcdef") value 48

-- a byte as it is, or its two hexadecimal digits after `\x`
abbrev pub escaped : ℕ → List ℕ
escaped byte = if is_shown byte then byte ∷ [] else 92 ∷ 120 ∷ hex_digit (byte / 16) ∷ hex_digit (byte % 16) ∷ []

-- a line that shows these bytes
abbrev pub quote : List ℕ → List ℕ
quote bytes = told_line (codes "the line is: " ++ flat_map escaped bytes)
