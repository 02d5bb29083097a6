-- What the lines of a text so far have declared.
use Rattle.std.specs.Prelude.{ℕ, Bool, false, List, []}
use Rattle.mc_text.specs.NameLists.{NameLists, no_names}
use Rattle.mc_box.specs.BoxShapes.{BoxShapeState}
use Rattle.mc_box.specs.declared.event.Kind.{Kind}
use Rattle.mc_model.specs.Worlds.{ChannelState}
use Rattle.mc_script.specs.declared.command.Command.{Command}
use Rattle.mc_program_lines.specs.Programs.{BlockState}
use Rattle.mc_lines.specs.declared.section.Section.{Section}
use Rattle.mc_lines.specs.declared.tail.Tail.{Tail}
use Rattle.mc_lines.specs.declared.section.Section.TheVariants as section

-- what the lines of a box say of it: its kind, the version that its descriptors begin at, the codecs that it receives
-- and those that it sends
pub record DeclaredBox : Type 0 where
  pub kind : Kind
  pub version : ℕ
  pub receives : List ℕ
  pub sends : List ℕ

-- What may stand after the commands, the section of the last line, whether the version line and `begin` came, the
-- names, for each box its shape and what its lines say, the channels, the programs with the last one still open, and
-- the commands. Where send lists stand apart, which is so in version 2, they may have lines of their own, and `senders`
-- are the boxes that had one.
pub record Declared : Type 0 where
  pub tail : Tail
  pub section : Section
  pub versioned : Bool
  pub sends_apart : Bool
  pub begun : Bool
  pub names : NameLists
  pub shape : List BoxShapeState
  pub boxes : List DeclaredBox
  pub senders : List ℕ
  pub channels : List ChannelState
  pub blocks : List BlockState
  pub commands : List Command

-- as long as no line was read
abbrev pub nothing : Tail → Declared
nothing tail = record {
  tail = tail;
  section = section.Version;
  versioned = false;
  sends_apart = false;
  begun = false;
  names = no_names;
  shape = [];
  boxes = [];
  senders = [];
  channels = [];
  blocks = [];
  commands = [];
}
