-- What adding a name answers.
use Rattle.std.specs.Prelude.{ℕ, ◌≡◌, List, length, Option, Some, None, Result, Ok, Err, IsOk, if◌then◌else◌, nat_lt}
use Rattle.std.specs.Option.{is_some}
use Rattle.mc_text.specs.declared.name_fault.NameFault.{NameFault}
use Rattle.mc_text.specs.declared.name_fault.NameFault.TheVariants.{Used, TooMany, NoMemory}
use Rattle.mc_text.specs.NameLists.{place_of}
use Rattle.mc_text.specs.declared.limit.TheConstants.{TOLD_LIMIT}

-- the number of a name that comes last, if there is room for it
abbrev pub last_number : List (List ℕ) → ℕ → Result ℕ NameFault
last_number names limit = if nat_lt (length names) limit then Ok (length names) else Err TooMany

-- the number of a new name: `Used` where the list has it, else `TooMany` where the list is full
abbrev pub add_name : List (List ℕ) → ℕ → List ℕ → Result ℕ NameFault
add_name names limit name = if is_some (place_of names name) then Err Used else last_number names limit

-- the number that there is, or else this answer
abbrev pub number_or : Option ℕ → Result ℕ NameFault → Result ℕ NameFault
number_or None other = other
number_or (Some number) other = Ok number

-- the number of a told word, which is added where it is new
abbrev pub told_number : List (List ℕ) → List ℕ → Result ℕ NameFault
told_number names name = number_or (place_of names name) (last_number names TOLD_LIMIT)

-- a call answered what it ought to; want of memory comes only where it ought to succeed
abbrev pub GivesNumber : {X : Type 0} → Result X NameFault → Result X NameFault → Type 0
GivesNumber (Ok x) answer = answer ≡ Ok x
GivesNumber (Err (NoMemory e)) answer = IsOk answer
GivesNumber (Err Used) answer = answer ≡ Err Used
GivesNumber (Err TooMany) answer = answer ≡ Err TooMany
