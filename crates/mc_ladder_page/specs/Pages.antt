-- A whole page.
use Rattle.std.specs.Prelude.{ℕ, List, ◌++◌}
use Rattle.mc_ladder_page.specs.declared.frame.TheConstants.{HEAD, MIDDLE, TAIL}

-- a page with a ladder, and with what is told of each row
abbrev pub page_of : (ladder told : List ℕ) → List ℕ
page_of ladder told = HEAD.now ++ ladder ++ MIDDLE.now ++ told ++ TAIL.now
