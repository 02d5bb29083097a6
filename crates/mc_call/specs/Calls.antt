-- What a call read, and what it delivered.
use Rattle.std.specs.Prelude.{◌≡◌, ◌≢◌, ◌≤◌, ℕ, List, [], ◌∷◌, ◌++◌, codes, length, IfSome}
use Rattle.std.specs.declared.option.Option.{Option}
use Rattle.std.specs.Io.KnownBytes.{Appends, Consumes, IsAtEnd, Keeps}
use Rattle.mc_call.specs.declared.done.Done.{Done}
use Rattle.mc_call.specs.declared.status.TheConstants.{USAGE, NO_MEMORY, WRITE_FAULT}
use Rattle.mc_io.specs.Bytes.{AppendsPart}
use Rattle.mc_lines.specs.Rules.{read_limit, text_limit}
use Rattle.mc_lines.specs.declared.tail.Tail.{Tail}
use Rattle.mc_net.specs.Nets.{DeclaresNet}
use Rattle.mc_net.specs.TextLaws.{first_bytes}
use Rattle.mc_net.specs.Texts.{IsFault}
use Rattle.mc_net.specs.declared.net.Net.{Net}

-- the one line that is printed for words that are no command
abbrev pub usage_text : List ℕ
usage_text = codes "usage" ++ 10 ∷ []

-- the output that is due was written whole, or at a fault in writing a part of it that isn't the whole
pub record Delivers (status due : ℕ) (old new : Option (List ℕ)) (output : List ℕ) : Type 0 where
  pub whole : status ≡ due → Appends old new output
  pub part : status ≢ due → (status ≡ WRITE_FAULT) × AppendsPart old new output

-- the text was read to its end, or to the byte past the limit
pub record ReadsWhole (tail : Tail) (old new : Option (List ℕ)) (text : List ℕ) : Type 0 where
  pub consumed : Consumes old new text
  pub within : length text ≤ read_limit tail
  pub at_end : length text ≤ text_limit tail → IsAtEnd new

-- so some text was
abbrev pub HasReadWhole : Tail → (old new : Option (List ℕ)) → Type 0
HasReadWhole tail old new = (text : List ℕ) × ReadsWhole tail old new text

-- the text, or its first bytes up to one more than the limit, of what is told
abbrev pub IsTextOf : Tail → Option (List ℕ) → List ℕ → Type 0
IsTextOf tail told text = IfSome told (λ all. text ≡ first_bytes tail all)

-- what is told of a text declares this network
abbrev pub ToldDeclares : Tail → Option (List ℕ) → Net → Type 0
ToldDeclares tail told net = IfSome told (λ text. DeclaresNet tail text net)

-- the first fault of what is told of a text is this one: a line breaks the rule of this number and none with a lesser
-- one, and no line before it breaks a rule
abbrev pub ToldFault : Tail → Option (List ℕ) → ℕ → ℕ → Type 0
ToldFault tail told number line = IfSome told (λ text. IsFault tail text number line)

-- the one line for words that are no command was delivered
abbrev pub PrintsUsage : (old new : Option (List ℕ)) → Done → Type 0
PrintsUsage old new done = Delivers done.status USAGE old new usage_text

-- memory was wanting, and nothing was delivered
abbrev pub GivesUp : (old new : Option (List ℕ)) → Done → Type 0
GivesUp old new done = (done.due ≡ NO_MEMORY) × (done.status ≡ NO_MEMORY) × Keeps old new
