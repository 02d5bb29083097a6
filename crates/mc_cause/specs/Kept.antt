-- What causes keep by themselves.
use Rattle.mc_cause.specs.Carried.{AreOfSlots, CausesState}
use Rattle.mc_cause.specs.declared.causes.Causes.TheInside.{Inside}

abbrev pub causes_state : Inside → CausesState
causes_state inside = record { world = inside.world; whys = inside.whys }

-- both lists of what is noted have a place for each slot
abbrev pub IsOfItsSlots : Inside → Type 0
IsOfItsSlots inside = AreOfSlots inside.world inside.whys
