-- What a code says.
use Rattle.std.specs.Prelude.{ℕ, Bool, ◌==◌, ◌-◌, ◌++◌, codes, if◌then◌else◌, length, List, [], nat_lt, replicate}
use Rattle.mc_plain.specs.declared.answer.TheConstants.{OK, NO_BOX, HAS_BOX, MEMORY, INVALID, NO_SLOT, UNLAWFUL, DISABLED, VERSION_END, NO_ROOM}

-- the number is a code
abbrev pub is_code : ℕ → Bool
is_code code = nat_lt code 10

-- what a code says, and nothing where the number is none
abbrev pub text_of : ℕ → List ℕ
text_of code =
    if code == OK then codes "it was done" else
    if code == NO_BOX then codes "there is no box" else
    if code == HAS_BOX then codes "there is a box already" else
    if code == MEMORY then codes "there is no memory" else
    if code == INVALID then codes "the numbers say nothing that can be asked" else
    if code == NO_SLOT then codes "the box has no such slot" else
    if code == UNLAWFUL then codes "the slot can't take this signal now" else
    if code == DISABLED then codes "the event can't happen now" else
    if code == VERSION_END then codes "the descriptor has the last version" else
    if code == NO_ROOM then codes "the buffer has too few places" else []

-- a text, and zeros up to 48 bytes
abbrev pub padded : List ℕ → List ℕ
padded text = text ++ replicate (48 - length text) 0
