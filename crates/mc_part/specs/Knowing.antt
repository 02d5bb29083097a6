-- What is known of a part, so that a settle needn't look for it at each box.
use Rattle.std.specs.Prelude.{◌≡◌, ℕ, false, IsTrue, List, slice_get, Some}
use Rattle.mc_box.specs.BoxEvents.{is_shift}
use Rattle.mc_model.specs.Settles.{world_owes}
use Rattle.mc_model.specs.Worlds.{WorldState}
use Rattle.mc_merge.specs.declared.log.Made.{Made}
use Rattle.mc_part.specs.Parts.{shifts_of}
use Rattle.mc_part.specs.declared.knowing.Known.{Known}
use Rattle.mc_part.specs.declared.part.Part.{Part}

-- no slot of a box owes a retry
abbrev pub OwesNone : WorldState → ℕ → Type 0
OwesNone world who = (local : ℕ) → world_owes world who local ≡ false

-- what is known of a part is so
pub record HoldsOf (known : Known) (part : Part) : Type 0 where
  pub owes : IsTrue known.unowed → (who : ℕ) → OwesNone part.engine who
  pub shifts : IsTrue known.unshifted → (who : ℕ) → shifts_of part who ≡ 0

-- no slot of a box that has an entry in the log owes a retry
abbrev pub MadeOweNone : Part → Type 0
MadeOweNone part = (at : ℕ) (made : Made) → slice_get part.log.items at ≡ Some made → OwesNone part.engine made.who

-- no entry is a Shift
abbrev pub NoneShifted : List Made → Type 0
NoneShifted log = (at : ℕ) (made : Made) → slice_get log at ≡ Some made → is_shift made.event ≡ false
