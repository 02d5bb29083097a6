-- A settle begins, and commands are left or not.
use Rattle.std.proofs.Common.{◌≡◌, ◌≢◌, inl, inr, ◌<◌, Bool, ℕ, IsTrue, Some, List, [], ◌∷◌, drop, length, get_or, slice_get, ap, sym, ◌∙◌, subst, arith, Vec, Global}
use Rattle.std.specs.List.{AllByRecursion}
use Rattle.std.specs.Vec.{with_items}
use Rattle.std.proofs.Math.Path.{fun_ext}
use Rattle.std.proofs.lemmas.List.{with_items_is}
use Rattle.std.proofs.lemmas.Option.{slice_get-get_or, slice_get_within}
use Rattle.mc_box.specs.BoxEvents.{is_enabled}
use Rattle.mc_box.specs.declared.event.Event.{Event}
use Rattle.mc_box.specs.declared.event.Event.TheVariants.{Shift}
use Rattle.mc_box.specs.declared.event.Turn.{Turn}
use Rattle.mc_box.specs.declared.limit.TheConstants.{SHIFT_LIMIT}
use Rattle.mc_model.specs.Shapes.{is_allowed}
use Rattle.mc_model.specs.Worlds.{WorldState, box_at}
use Rattle.mc_part.specs.Divisions.{home_at}
use Rattle.mc_part.specs.Parts.{shifts_of, stimuli_of}
use Rattle.mc_part.specs.Phases.{EachChanged, EachOf}
use Rattle.mc_part.specs.Running.{AreCalm}
use Rattle.mc_part.specs.declared.part_run.PartRun.{PartRun}
use Rattle.mc_part.proofs.Calm.{all_used}
use Rattle.mc_part.proofs.Uses.{first_is}
use Rattle.mc_divided.specs.Commanding.{AreRecommanded, HasBegunSettle, HasSpare, IsLeftIn, IsNoneLeft}
use Rattle.mc_divided.specs.Networks.{IsDividedNetwork, network_state, world_in}
use Rattle.mc_divided.specs.States.{HasCommands, NoneLeft, new_state, no_shifts, no_stimuli}
use Rattle.mc_divided.specs.declared.network.DividedNetwork.{DividedNetwork}
use Rattle.mc_divided.proofs.PartsBy.{run_there}
use Rattle.mc_divided.proofs.Played.{to_turns}
use Rattle.mc_divided.proofs.Progressed.{command_here, home_of, number_of, shifts_at, stimuli_at}
use Rattle.mc_divided.proofs.Recommanded.{divided_same, world_same}

-- ---- a settle begins

recommands : (old new : List PartRun) → EachChanged HasBegunSettle old new → AreRecommanded old new
recommands old new begun = record { count = begun.count; each = λ i a b p q. (begun.each i a b p q).same }

-- each box has all its Shifts again
calm_again : (a b : PartRun) → HasBegunSettle a b → AreCalm a.part → HasSpare a → AreCalm b.part
calm_again a b begun calm spare who inside = elim (calm who (subst (λ (w : WorldState). who < length w.boxes) begun.same.engine inside)) [
  | inl none ↦ inl (ap (λ (w : WorldState). is_enabled (box_at w who) Shift) begun.same.engine ∙ none)
  | inr most ↦ absurd (let fewer : shifts_of a.part who < SHIFT_LIMIT = spare who in omega (arith, most, fewer))
]

pub begun_divided : (n : DividedNetwork) (runs : Vec PartRun Global) (calm : Bool) → IsDividedNetwork n → EachChanged HasBegunSettle n.runs.items runs.items → (IsTrue calm → IsTrue n.calm) → (IsTrue calm → EachOf HasSpare n.runs.items) → IsDividedNetwork (record n { runs = runs; calm = calm })
begun_divided n runs calm divided begun was spare =
    divided_same n runs calm divided (recommands n.runs.items runs.items begun) (record {
      within = λ i b there. let a = before i b there in (begun.each i a.0 b a.1 there).within (divided.idle i a.0 a.1).within;
      allowed = λ i b there.
          let a = before i b there in
          to_turns (λ (who : ℕ) (event : Event). IsTrue (is_allowed b.part.engine (record { who = who; event = event }))) (drop b.part.used b.part.commands.items)
          (λ who. subst (λ (l : List Event). AllByRecursion (λ (event : Event). IsTrue (is_allowed b.part.engine (record { who = who; event = event }))) l) (sym ((begun.each i a.0 b a.1 there).left who)) tt);
      calm_is = λ on i b there. let a = before i b there in calm_again a.0 b (begun.each i a.0 b a.1 there) (divided.calm (was on) i a.0 a.1) (spare on i a.0 a.1);
      known = λ i b there. let a = before i b there in (begun.each i a.0 b a.1 there).known (divided.idle i a.0 a.1).known;
    })
  where
    before : (i : ℕ) (b : PartRun) → slice_get runs.items i ≡ Some b → (a : PartRun) × (slice_get n.runs.items i ≡ Some a)
    before i b there = run_there n.runs.items i (subst (λ (k : ℕ). i < k) begun.count (slice_get_within runs.items i b there))

pub begun_state : (n : DividedNetwork) (runs : Vec PartRun Global) (calm : Bool) → IsDividedNetwork n → EachChanged HasBegunSettle n.runs.items runs.items → IsDividedNetwork (record n { runs = runs; calm = calm })
    → network_state (record n { runs = runs; calm = calm }) ≡ new_state (network_state n).world
begun_state n runs calm divided begun new =
    let m : DividedNetwork = record n { runs = runs; calm = calm } in
    let world : world_in m ≡ world_in n = world_same n runs calm (recommands n.runs.items runs.items begun) in
    let stimuli : (network_state m).stimuli ≡ no_stimuli = fun_ext (λ who.
    let home = home_of m new who in
    stimuli_at m who (home_at n.assigned.items who).0 (home_at n.assigned.items who).1 home.0 new home.1 ∙ (begun_at home.0 (home_at n.assigned.items who).0 home.1.there).left (home_at n.assigned.items who).1) in
    let shifts : (network_state m).shifts ≡ no_shifts = fun_ext (λ who.
    let home = home_of m new who in
    shifts_at m who (home_at n.assigned.items who).0 (home_at n.assigned.items who).1 home.0 new home.1 ∙ (begun_at home.0 (home_at n.assigned.items who).0 home.1.there).shifts (home_at n.assigned.items who).1) in
    ap (λ (w : WorldState). record { world = w; stimuli = (network_state m).stimuli; shifts = (network_state m).shifts }) world
    ∙ (ap (λ (f : ℕ → List Event). record { world = world_in n; stimuli = f; shifts = (network_state m).shifts }) stimuli
    ∙ ap (λ (f : ℕ → ℕ). record { world = world_in n; stimuli = no_stimuli; shifts = f }) shifts)
  where
    begun_at : (b : PartRun) (i : ℕ) (there : slice_get runs.items i ≡ Some b) → HasBegunSettle (run_there n.runs.items i (subst (λ (k : ℕ). i < k) begun.count (slice_get_within runs.items i b there))).0 b
    begun_at b i there = let a = run_there n.runs.items i (subst (λ (k : ℕ). i < k) begun.count (slice_get_within runs.items i b there)) in begun.each i a.0 b a.1 there

-- the network has the list that was changed
pub begun_vec : (n : DividedNetwork) (read new : List PartRun) → read ≡ n.runs.items → EachChanged HasBegunSettle read new → EachChanged HasBegunSettle n.runs.items (with_items n.runs new).items
begun_vec n read new is begun =
    subst (λ (l : List PartRun). EachChanged HasBegunSettle n.runs.items l) (sym (with_items_is n.runs new (begun.count ∙ (ap (λ (l : List PartRun). length l) is ∙ sym n.runs.ok.0))))
    (subst (λ (l : List PartRun). EachChanged HasBegunSettle l new) is begun)

pub spare_as : (calm : Bool) (read runs : List PartRun) → read ≡ runs → (IsTrue calm → EachOf HasSpare read) → IsTrue calm → EachOf HasSpare runs
spare_as calm read runs is spare = subst (λ (l : List PartRun). IsTrue calm → EachOf HasSpare l) is spare

-- ---- whether a command is left

not_none : (event : Event) (rest all : List Event) → all ≡ event ∷ rest → all ≢ []
not_none event rest [] is none = absurd (cc)
not_none event rest (e ∷ all) is none = absurd (cc)

pub some_left : (n : DividedNetwork) (read : List PartRun) → IsDividedNetwork n → read ≡ n.runs.items → IsLeftIn read → HasCommands (network_state n)
some_left n read divided is left =
    let there : slice_get n.runs.items left.part ≡ Some left.run = ap (λ (l : List PartRun). slice_get l left.part) (sym is) ∙ left.there in
    let turn : Turn = get_or left.run.part.commands.items left.run.part.used (record { who = 0; event = Shift }) in
    let first = first_is left.run.part turn (slice_get-get_or left.run.part.commands.items left.run.part.used (record { who = 0; event = Shift }) left.some) in
    let some : stimuli_of left.run.part turn.who ≢ [] = not_none turn.event _ (stimuli_of left.run.part turn.who) first in
    let number = number_of n divided left.part turn.who left.run there (command_here n divided left.part left.run there turn.who some) in
    (number.who, λ none. some (sym (stimuli_at n number.who left.part turn.who left.run divided number.home) ∙ none))

pub all_none : (n : DividedNetwork) (read : List PartRun) → IsDividedNetwork n → read ≡ n.runs.items → EachOf IsNoneLeft read → NoneLeft (network_state n)
all_none n read divided is none who =
    let home = home_of n divided who in
    let past = none (home_at n.assigned.items who).0 home.0 (ap (λ (l : List PartRun). slice_get l (home_at n.assigned.items who).0) is ∙ home.1.there) in
    stimuli_at n who (home_at n.assigned.items who).0 (home_at n.assigned.items who).1 home.0 divided home.1 ∙ all_used home.0.part past (home_at n.assigned.items who).1
