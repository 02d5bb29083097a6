-- What clauses of exports say of the box that C holds.
use Rattle.std.specs.Prelude.{◌≡◌, ℕ, List, Option}
use Rattle.mc_box.specs.Boxes.{BoxState}
use Rattle.mc_box_c.specs.Handles.{box_of}
use Rattle.mc_box_c.specs.declared.handle.Handle.{Handle}
use Rattle.mc_plain.specs.declared.signals.PlainSent.{PlainSent}

-- the box of a handle, where it has one
abbrev pub box_in : Handle → Option BoxState
box_in handle = box_of handle.kept.held

-- the box is as it was, nothing is written, and nothing is counted
abbrev pub NothingDone : Handle → Handle → List PlainSent → List PlainSent → ℕ → Type 0
NothingDone old new before after count = (box_in new ≡ box_in old) × (after ≡ before) × (count ≡ 0)
