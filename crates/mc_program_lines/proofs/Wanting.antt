-- A name that may be added is refused for want of memory alone.
use Rattle.std.proofs.Common.{◌≡◌, ◌&&◌, ℕ, true, false, nat_le, nat_lt, length, List, Option, Some, None, Result, Ok, Err, IsOk, refl, arith}
use Rattle.std.proofs.lemmas.Grind.{common_steps}
use Rattle.std.specs.Option.{is_none}
use Rattle.mc_text.specs.Adding.{GivesNumber, last_number, number_or, told_number}
use Rattle.mc_text.specs.NameLists.{NameLists, place_of}
use Rattle.mc_text.specs.declared.name_fault.NameFault.{NameFault}
use Rattle.mc_text.specs.declared.name_fault.NameFault.TheVariants.{Used, TooMany, NoMemory}
use Rattle.mc_text.specs.declared.limit.TheConstants.{TOLD_LIMIT}
use Rattle.mc_program_lines.specs.Programs.{has_no_room}
use Rattle.mc_program_lines.specs.Readings.{IsWanting}

-- a call that ought to answer a number refuses for want of memory
pub refused_wanting : {X : Type 0} (fault : NameFault) (answer : Result X NameFault) → IsOk answer → GivesNumber {X = X} (Err fault) answer → IsWanting fault
refused_wanting Used (Ok x) ok gives = absurd cc
refused_wanting Used (Err e) ok gives = absurd cc
refused_wanting TooMany (Ok x) ok gives = absurd cc
refused_wanting TooMany (Err e) ok gives = absurd cc
refused_wanting (NoMemory e) answer ok gives = tt

-- where it was added before, or there is room for it, there is a number
is_numbered : (told : List (List ℕ)) (place : Option ℕ) → (is_none place && nat_le TOLD_LIMIT (length told)) ≡ false → IsOk (number_or place (last_number told TOLD_LIMIT))
is_numbered told (Some number) room = refl
is_numbered told None room =
    let below : nat_lt (length told) TOLD_LIMIT ≡ true = grind (arith, common_steps) in
    rw below refl

-- a told word for which there is room is refused for want of memory
pub told_wanting : (names : NameLists) (word : List ℕ) (fault : NameFault) → has_no_room names (Some word) ≡ false → GivesNumber {X = ℕ} (Err fault) (told_number names.told word) → IsWanting fault
told_wanting names word fault room gives = refused_wanting fault (told_number names.told word) (is_numbered names.told (place_of names.told word) room) gives
