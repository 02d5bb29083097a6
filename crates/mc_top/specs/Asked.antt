-- What the words ask for.
use Rattle.std.specs.Prelude.{List, String}
use Rattle.std.specs.declared.alloc.Global.{Global}
use Rattle.mc_top.specs.declared.top.Asked.{Asked}
use Rattle.mc_top.specs.declared.top.Asked.TheVariants.{Grow, Nothing, Work}
use Rattle.mc_words.specs.Commands.{AsksToGrow, IsCommand}
use Rattle.mc_words.specs.declared.words.Mode.{Mode}

-- a mode, a script that grows, or nothing that the program does
abbrev pub AskFor : List (String Global) → Asked → Type 0
AskFor words (Work mode) = IsCommand words mode
AskFor words Grow = AsksToGrow words × ((mode : Mode) → ¬ IsCommand words mode)
AskFor words Nothing = (¬ AsksToGrow words) × ((mode : Mode) → ¬ IsCommand words mode)
