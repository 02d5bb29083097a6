-- Where no slot can take its front, nothing is under way.
use Rattle.std.proofs.Common.{◌≡◌, ◌<◌, ℕ, Bool, true, false, None, List, ◌∷◌, IsTrue, refl, subst}
use Rattle.mc_signal.specs.declared.Tagged.{Tagged}
use Rattle.mc_model.specs.Served.{AllServed}
use Rattle.mc_model.specs.Settles.{is_quiet}
use Rattle.mc_model.specs.Sound.{IsSound}
use Rattle.mc_model.specs.Worlds.{WorldState, front, slot_count}
use Rattle.mc_laws.proofs.StepGoes.{served_front, waits_some}

-- a lane that isn't empty has a front, which is for a slot
quiet_by : (quiet : Bool) (world : WorldState) → is_quiet world ≡ quiet → IsSound world → ((t : ℕ) → t < slot_count world → front world t ≡ None) → IsTrue quiet
quiet_by true world is sound none = refl
quiet_by false world is sound none =
    let found = waits_some world.lanes is in
    let all : AllServed world found.lane (found.tagged ∷ found.rest) = subst (λ (l : List Tagged). AllServed world found.lane l) found.is (sound.served found.lane) in
    let there = served_front world found.lane all.0.0 found.tagged found.rest found.is all.0.1 in
    let nothing = none all.0.0 all.0.1.inside in
    absurd (cc (there, nothing))

-- so without fronts all lanes are empty
pub none_quiet : (world : WorldState) → IsSound world → ((t : ℕ) → t < slot_count world → front world t ≡ None) → IsTrue (is_quiet world)
none_quiet world sound none = quiet_by (is_quiet world) world refl sound none
