-- What a handle holds.
use Rattle.std.specs.Prelude.{Option, Some, None}
use Rattle.std.specs.Option.{option_map}
use Rattle.std.specs.declared.alloc.Global.{Global}
use Rattle.std.specs.declared.boxed.Box.{Box}
use Rattle.mc_box.specs.Boxes.{BoxState}
use Rattle.mc_box_c.specs.declared.held.HeldBox.{HeldBox}

-- the box that is held, where there is one
abbrev pub box_of : Option HeldBox → Option BoxState
box_of held = option_map (λ b. b.part) held

-- the box on the heap, where there is one
abbrev pub boxed_part : Option (Box HeldBox Global) → Option BoxState
boxed_part boxed = option_map (λ b. b.value.part) boxed

-- both are there, and so they are to each other
abbrev pub Between : Option BoxState → Option BoxState → (BoxState → BoxState → Type 0) → Type 0
Between (Some old) (Some new) P = P old new
Between old new P = ⊥

-- it is there, and so it is
abbrev pub OfBox : Option BoxState → (BoxState → Type 0) → Type 0
OfBox (Some old) P = P old
OfBox None P = ⊥
