-- What reading a line answers.
use Rattle.std.specs.Prelude.{ℕ, ◌≡◌, Option, Some, None, Result, Ok, Err}
use Rattle.mc_text.specs.declared.name_fault.NameFault.{NameFault}
use Rattle.mc_text.specs.declared.name_fault.NameFault.TheVariants.{Used, TooMany, NoMemory as OutOfMemory}
use Rattle.mc_script.specs.declared.command.LineFault.{LineFault}
use Rattle.mc_script.specs.declared.rule.TheConstants.{GIVEN_TWICE, LIMIT_PASSED}
use Rattle.mc_program_lines.specs.declared.fault.ReadFault.{ReadFault}
use Rattle.mc_program_lines.specs.declared.fault.ReadFault.TheVariants.{Line, NoMemory}

-- why a line isn't taken whose name can't be added
abbrev pub name_refusal : NameFault → ReadFault
name_refusal Used = Line (record { number = GIVEN_TWICE })
name_refusal TooMany = Line (record { number = LIMIT_PASSED })
name_refusal (OutOfMemory e) = NoMemory e

-- a name isn't added for want of memory
abbrev pub IsWanting : NameFault → Type 0
IsWanting Used = ⊥
IsWanting TooMany = ⊥
IsWanting (OutOfMemory e) = Unit {0}

-- a line is refused by its fault, and else there is now what it makes
abbrev pub Makes : {X : Type 0} → Result (Unit {0}) LineFault → X → Option ℕ → Option X → Type 0
Makes (Ok done) now fault after = (fault ≡ None) × (after ≡ Some now)
Makes (Err e) now fault after = fault ≡ Some e.number

-- what a line declares is declared now, or the fault is the line's; memory runs out only where there is none
abbrev pub Declares : {X : Type 0} → Result (Unit {0}) ReadFault → X → Option ℕ → Option X → Type 0
Declares (Ok done) now fault after = (fault ≡ None) × (after ≡ Some now)
Declares (Err (Line e)) now fault after = fault ≡ Some e.number
Declares (Err (NoMemory e)) now fault after = fault ≡ None
