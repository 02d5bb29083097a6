-- How names and numbers are spelt.
use Rattle.std.specs.Prelude.{ℕ, ◌^◌, ◌==◌, Bool, false, ◌&&◌, ◌||◌, not, List, [], ◌∷◌, length, Option, Some, None, if◌then◌else◌, nat_lt, nat_le}
use Rattle.std.specs.List.{list_all}
use Rattle.std.specs.Str.Parse.{digits_value}
use Rattle.mc_text.specs.declared.limit.TheConstants.{NAME_LIMIT}

-- `a` to `z`
abbrev pub is_letter : ℕ → Bool
is_letter byte = nat_le 97 byte && nat_le byte 122

-- `0` to `9`
abbrev pub is_digit : ℕ → Bool
is_digit byte = nat_le 48 byte && nat_le byte 57

-- a letter, a digit, `_` or `-`
abbrev pub is_name_byte : ℕ → Bool
is_name_byte byte = is_letter byte || is_digit byte || byte == 95 || byte == 45

-- spelt as a name, of whatever length
abbrev pub is_spelt : List ℕ → Bool
is_spelt [] = false
is_spelt (first ∷ others) = is_letter first && list_all is_name_byte others

-- and of at most so many bytes
abbrev pub is_name : List ℕ → Bool
is_name word = is_spelt word && nat_le (length word) NAME_LIMIT

-- `0`, or 1 to 10 digits without a leading zero
abbrev pub is_numeral : List ℕ → Bool
is_numeral [] = false
is_numeral (first ∷ others) =
    list_all is_digit (first ∷ others) && nat_lt (length others) 10 && (length others == 0 || not (first == 48))

-- the number that a word spells
abbrev pub number_of : List ℕ → Option ℕ
number_of word = if is_numeral word && nat_lt (digits_value 10 word) (2 ^ 32) then Some (digits_value 10 word) else None
