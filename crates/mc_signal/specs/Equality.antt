-- That `==` on descriptors, and on selectors, is equality, and that a list of codecs is told by its codecs.
use Rattle.std.specs.Prelude.{◌≡◌, ◌↔◌, true}
use Rattle.mc_signal.specs.Choice.{codecs_of}
use Rattle.mc_signal.specs.Same.{is_same_descriptor, is_same_selector}
use Rattle.mc_signal.specs.declared.codec_list.CodecList.{CodecList}
use Rattle.mc_signal.specs.declared.Descriptor.{Descriptor}
use Rattle.mc_signal.specs.declared.Selector.{Selector}

-- two descriptors are the same just where they are equal
abbrev pub DescriptorEquality : Type 0
DescriptorEquality = (a b : Descriptor) → (is_same_descriptor a b ≡ true) ↔ (a ≡ b)

-- two selectors are the same just where they are equal
abbrev pub SelectorEquality : Type 0
SelectorEquality = (a b : Selector) → (is_same_selector a b ≡ true) ↔ (a ≡ b)

-- two lists with the same codecs, in the same order, are one and the same value
abbrev pub CodecsTellList : Type 0
CodecsTellList = (a b : CodecList) → codecs_of a ≡ codecs_of b → a ≡ b
