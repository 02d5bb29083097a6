-- In a sound world some slot can take its front as long as anything is under way.
use Rattle.std.proofs.Common.{◌≡◌, ◌<◌, nat_lt, ℕ, suc, true, false, Option, Some, None, IsSome, List, [], ◌∷◌, length, refl, ap, ◌∙◌, subst, arith}
use Rattle.std.specs.List.{list_all}
use Rattle.std.proofs.Math.ListN.{get_or}
use Rattle.std.proofs.lemmas.Grind.{common_steps}
use Rattle.mc_signal.specs.declared.Signal.{Signal}
use Rattle.mc_signal.specs.declared.Tagged.{Tagged}
use Rattle.mc_box.specs.BoxEvents.{BoxStep, box_event}
use Rattle.mc_model.specs.Served.{AllServed, IsFor}
use Rattle.mc_model.specs.Settles.{is_empty}
use Rattle.mc_laws.specs.StepLaws.{FrontStepGoes, UnderWayGoes}
use Rattle.mc_model.specs.Steps.{step, take_of}
use Rattle.mc_model.specs.Worlds.{WorldState, box_at, front, front_for, tunnel_of, number, place}
use Rattle.mc_box.specs.declared.event.Event.TheVariants.{Take}
use Rattle.mc_box.proofs.EventGoes.{take_goes as box_take_goes}
use Rattle.mc_laws.proofs.StepKeeps.{front_is_taken}

-- ---- a front is taken

pub some_of : {A : Type 0} (o : Option A) → IsSome o → (x : A) × (o ≡ Some x)
some_of None is = absurd (cc)
some_of (Some x) is = (x, refl)

-- the step of a Take, from the box's
take_goes : (world : WorldState) (s : ℕ) (signal : Signal) (turn : BoxStep) → nat_lt (place world s).0 (length world.boxes) ≡ true
    → number world (place world s).0 (place world s).1 ≡ Some s → front world s ≡ Some signal
    → box_event (box_at world (place world s).0) (Take (place world s).1) (Some signal) ≡ Some turn
    → IsSome (step world (take_of world s))
take_goes world s signal turn below numbered fronts goes = rw (below, numbered, fronts, goes) refl

pub below_test : (a b : ℕ) → a < b → nat_lt a b ≡ true
below_test a b below = grind (arith, common_steps)

pub front_step_goes : FrontStepGoes
front_step_goes world s signal sound inside fronts =
    let placed = sound.numbered.placed s inside in
    let turn = some_of (box_event (box_at world (place world s).0) (Take (place world s).1) (Some signal))
    (box_take_goes (box_at world (place world s).0) (place world s).1 signal (sound.boxes (place world s).0 placed) (sound.numbered.slots s inside) (front_is_taken world s signal sound inside fronts)) in
    take_goes world s signal turn.0 (below_test (place world s).0 (length world.boxes) placed) (sound.numbered.once s inside) fronts turn.1

-- ---- something goes

-- a lane that isn't empty
pub record Waits (lanes : List (List Tagged)) : Type 0 where
  pub lane : ℕ
  pub tagged : Tagged
  pub rest : List Tagged
  pub is : get_or lanes lane [] ≡ tagged ∷ rest

waits_by : (lane : List Tagged) (lanes : List (List Tagged)) → (list_all is_empty lanes ≡ false → Waits lanes) → list_all is_empty (lane ∷ lanes) ≡ false → Waits (lane ∷ lanes)
waits_by [] lanes later some =
    let rest : list_all is_empty lanes ≡ false = grind (arith, common_steps) in
    let found = later rest in
    record { lane = suc found.lane; tagged = found.tagged; rest = found.rest; is = found.is }
waits_by (tagged ∷ rest) lanes later some = record { lane = 0; tagged = tagged; rest = rest; is = refl }

pub waits_some : (lanes : List (List Tagged)) → list_all is_empty lanes ≡ false → Waits lanes
waits_some [] some = absurd (cc)
waits_some (lane ∷ lanes) some = waits_by lane lanes (waits_some lanes) some

front_there : (tunnel : ℕ) (tagged : Tagged) (rest : List Tagged) → tunnel ≡ tagged.tunnel → front_for tunnel (tagged ∷ rest) ≡ Some tagged.signal
front_there tunnel tagged rest is = grind (arith, common_steps)

-- the signal at a lane's front is at the front for its slot
pub served_front : (world : WorldState) (lane s : ℕ) (tagged : Tagged) (rest : List Tagged) → get_or world.lanes lane [] ≡ tagged ∷ rest → IsFor world lane tagged s → front world s ≡ Some tagged.signal
served_front world lane s tagged rest is served =
    ap (λ (k : ℕ). front_for (tunnel_of world s).within (get_or world.lanes k [])) served.leads
    ∙ (ap (front_for (tunnel_of world s).within) is ∙ front_there (tunnel_of world s).within tagged rest served.within)

pub under_way_goes : UnderWayGoes
under_way_goes world sound some =
    let found = waits_some world.lanes some in
    let all : AllServed world found.lane (found.tagged ∷ found.rest) = subst (λ (l : List Tagged). AllServed world found.lane l) found.is (sound.served found.lane) in
    (all.0.0, all.0.1.inside, front_step_goes world all.0.0 found.tagged.signal sound all.0.1.inside (served_front world found.lane all.0.0 found.tagged found.rest found.is all.0.1))
