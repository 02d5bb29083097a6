-- Where there are no programs none is open.
use Rattle.std.proofs.Common.{◌≡◌, [], None, refl}
use Rattle.mc_lines.specs.Rules.{block_in}
use Rattle.mc_lines.specs.declared.section.Section.{Section}
use Rattle.mc_lines.specs.declared.section.Section.TheVariants.{Version, Codecs, Boxes, Channels, Programs, Begin, Commands}

pub none_open : (section : Section) → block_in section [] ≡ None
none_open Version = refl
none_open Codecs = refl
none_open Boxes = refl
none_open Channels = refl
none_open Programs = refl
none_open Begin = refl
none_open Commands = refl
