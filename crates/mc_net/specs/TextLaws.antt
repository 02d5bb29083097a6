-- Laws of texts: each says something or has a fault, and never both, nor two faults. A line that breaks no rule means
-- something. The first bytes of a long text show its fault. A text declares one network. It says which boxes have
-- programs, and names all of its network.
use Rattle.std.specs.Prelude.{ℕ, suc, ◌≡◌, ◌⊎◌, ◌++◌, IsSome, List, [], None, Some, drop, length, map, slice_index_or, take}
use Rattle.mc_text.specs.Lines.{lines}
use Rattle.mc_lines.specs.Meaning.{line_after}
use Rattle.mc_lines.specs.Rules.{line_fault, read_limit}
use Rattle.mc_lines.specs.SoFar.{Declared}
use Rattle.mc_model.specs.Unprogrammed.{HasNoPrograms}
use Rattle.mc_model.specs.Worlds.{WorldState}
use Rattle.mc_lines.specs.declared.tail.Tail.{Tail}
use Rattle.mc_lines.specs.declared.tail.Tail.TheVariants.{Nothing}
use Rattle.mc_program_lines.specs.Programs.{BlockState}
use Rattle.mc_net.specs.Nets.{DeclaresBlocks, DeclaresNet, IsFirstWorld, IsUnprogrammed, IsWellNamed, batch_turns}
use Rattle.mc_net.specs.Texts.{IsFault, Says, declared_by, fault_at, text_end, text_lines}
use Rattle.mc_net.specs.declared.net.Net.{Net}

-- a text that says something has no fault
abbrev pub DeclaresOrFaults : Type 0
DeclaresOrFaults =
    (tail : Tail) (text : List ℕ) (d : Declared) (number line : ℕ) → Says tail text d → IsFault tail text number line
    → ⊥

-- a text has no two faults
abbrev pub OneFault : Type 0
OneFault =
    (tail : Tail) (text : List ℕ) (number line other_number other_line : ℕ) → IsFault tail text number line
    → IsFault tail text other_number other_line → (number ≡ other_number) × (line ≡ other_line)

-- a text says something, or it has a fault
abbrev pub OneOrTheOther : Type 0
OneOrTheOther =
    (tail : Tail) (text : List ℕ)
    → ((d : Declared) × Says tail text d) ⊎ ((number : ℕ) × (line : ℕ) × IsFault tail text number line)

-- a line that breaks no rule means something, whatever was declared before it
abbrev pub SoundLinesMean : Type 0
SoundLinesMean =
    (total before : ℕ) (d : Declared) (line : List ℕ) → line_fault total before d line ≡ None
    → IsSome (line_after d line)

-- so what lines declare, up to one that breaks no rule, is what this one means after those before it
abbrev pub EachLineDeclares : Type 0
EachLineDeclares =
    (tail : Tail) (total : ℕ) (lines : List (List ℕ)) (k : ℕ) → fault_at tail total lines k ≡ None
    → line_after (declared_by tail lines k) (slice_index_or lines k []) ≡ Some (declared_by tail lines (suc k))

-- the bytes up to the one with which a text passes its limit
abbrev pub first_bytes : Tail → List ℕ → List ℕ
first_bytes tail text = take (read_limit tail) text

-- the fault of the first bytes is that of the whole text
abbrev pub FaultsOfTheFirstBytes : Type 0
FaultsOfTheFirstBytes =
    (tail : Tail) (text : List ℕ) (number line : ℕ) → IsFault tail (first_bytes tail text) number line
    → IsFault tail text number line

-- the network that the first bytes declare is that of the whole text
abbrev pub NetsOfTheFirstBytes : Type 0
NetsOfTheFirstBytes =
    (tail : Tail) (text : List ℕ) (net : Net) → DeclaresNet tail (first_bytes tail text) net → DeclaresNet tail text net

-- and so are the blocks of its programs
abbrev pub BlocksOfTheFirstBytes : Type 0
BlocksOfTheFirstBytes = (tail : Tail) (text : List ℕ) (given : List BlockState)
    → DeclaresBlocks tail (first_bytes tail text) given → DeclaresBlocks tail text given

-- first bytes that say something are the whole text, where nothing stands after the commands
abbrev pub SaysTheWhole : Type 0
SaysTheWhole =
    (text : List ℕ) (d : Declared) → Says Nothing (first_bytes Nothing text) d → first_bytes Nothing text ≡ text

-- after the last line of a text stand the other lines
abbrev pub LinesBehind : Type 0
LinesBehind =
    (tail : Tail) (text : List ℕ) → lines text ≡ text_lines tail text ++ lines (drop (text_end tail text) text)

-- where nothing may stand after the commands, a text has all lines, and its end is that of the bytes
abbrev pub UnendedTexts : Type 0
UnendedTexts = (text : List ℕ) → (text_lines Nothing text ≡ lines text) × (text_end Nothing text ≡ length text)

-- a text says one thing
abbrev pub OneDeclared : Type 0
OneDeclared = (tail : Tail) (text : List ℕ) (d other : Declared) → Says tail text d → Says tail text other → d ≡ other

-- what was declared has one first world
abbrev pub OneFirstWorld : Type 0
OneFirstWorld = (d : Declared) (world other : WorldState) → IsFirstWorld d world → IsFirstWorld d other → world ≡ other

-- networks of which clauses see the same
pub record IsSameNet (net other : Net) : Type 0 where
  pub world : net.world ≡ other.world
  pub names : net.names ≡ other.names
  pub shape : net.shape ≡ other.shape
  pub batches : map batch_turns net.batches.items ≡ map batch_turns other.batches.items
  pub rest : net.rest ≡ other.rest

-- a text declares one network
abbrev pub OneNet : Type 0
OneNet =
    (tail : Tail) (text : List ℕ) (net other : Net) → DeclaresNet tail text net → DeclaresNet tail text other
    → IsSameNet net other

-- where no program was declared, no box of the first world has one
abbrev pub UnprogrammedTexts : Type 0
UnprogrammedTexts = (d : Declared) (world : WorldState) → IsFirstWorld d world → IsUnprogrammed d → HasNoPrograms world

-- the network that a text declares is well named
abbrev pub NetsAreNamed : Type 0
NetsAreNamed = (tail : Tail) (text : List ℕ) (net : Net) → DeclaresNet tail text net → IsWellNamed net
