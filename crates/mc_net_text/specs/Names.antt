-- The lists of names, by what has them.
use Rattle.std.specs.Prelude.{ℕ, ◌<◌, List, length}
use Rattle.mc_text.specs.NameLists.{NameLists, slot_names}
use Rattle.mc_net_text.specs.declared.same_names.NamesOf.{NamesOf}
use Rattle.mc_net_text.specs.declared.same_names.NamesOf.TheVariants as of

-- the names in a list
abbrev pub names_in : NameLists → NamesOf → List (List ℕ)
names_in names of.Codecs = names.codecs
names_in names of.Boxes = names.boxes
names_in names (of.Slots who) = slot_names names who
names_in names of.Told = names.told

-- there is such a list: that of a box's slots stands where the box does
abbrev pub IsList : NameLists → NamesOf → Type 0
IsList names of.Codecs = Unit {0}
IsList names of.Boxes = Unit {0}
IsList names (of.Slots who) = who < length names.boxes
IsList names of.Told = Unit {0}
