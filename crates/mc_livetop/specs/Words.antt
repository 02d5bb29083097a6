-- What the words of the command line ask for.
use Rattle.std.specs.Prelude.{◌≡◌, ◌≤◌, ◌<◌, ℕ, Bool, List, [], ◌∷◌, String, codes, map, string_bytes}
use Rattle.std.specs.declared.alloc.Global.{Global}
use Rattle.mc_desk.specs.declared.limit.TheConstants.{OPERATOR_LIMIT}
use Rattle.mc_words.specs.Arguments.{HasNoOtherFlag, has_journal_flag, plain_words}
use Rattle.mc_words.specs.Commands.{SpellsWithin}

-- so many operators may ask
abbrev pub MayAsk : (operators : ℕ) → Type 0
MayAsk operators = (0 < operators) × (operators ≤ OPERATOR_LIMIT)

-- plain words ask for a live run with so many operators, of whom there is one at least
abbrev pub SpellsLive : (operators : ℕ) → List (List ℕ) → Type 0
SpellsLive operators words =
    (word : List ℕ) × (words ≡ codes "live" ∷ word ∷ []) × SpellsWithin OPERATOR_LIMIT word operators × (0 < operators)

-- the words of the command line do, with the flag for the journal or without it, and no other flag stands among them
pub record IsLiveCommand (words : List (String Global)) (operators : ℕ) (journal : Bool) : Type 0 where
  pub spelt : SpellsLive operators (plain_words (map string_bytes words))
  pub flag : journal ≡ has_journal_flag (map string_bytes words)
  pub no_other : HasNoOtherFlag (map string_bytes words)

-- they ask for some live run
abbrev pub AskForLive : List (String Global) → Type 0
AskForLive words = (operators : ℕ) × (journal : Bool) × IsLiveCommand words operators journal
