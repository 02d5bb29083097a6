-- What is known of a network within a settle and between two.
use Rattle.std.proofs.Common.{◌≡◌, ◌<◌, ◌||◌, ℕ, Bool, true, false, IsTrue, Some, List, length, slice_get, drop, get_or, refl, ap, sym, ◌∙◌, subst, arith, Vec, Global}
use Rattle.std.specs.List.{AllByRecursion}
use Rattle.std.specs.Vec.{with_items}
use Rattle.std.proofs.lemmas.List.{with_items_is}
use Rattle.std.proofs.lemmas.Option.{slice_get_within}
use Rattle.mc_box.specs.declared.event.Event.{Event}
use Rattle.mc_box.specs.declared.event.Turn.{Turn}
use Rattle.mc_model.specs.Paths.{has_ring}
use Rattle.mc_model.specs.Shapes.{is_allowed}
use Rattle.mc_model.specs.Worlds.{WorldState}
use Rattle.mc_part.specs.Divisions.{home_at}
use Rattle.mc_part.specs.Knowing.{OwesNone}
use Rattle.mc_part.specs.Parts.{IsWithin, shifts_of, stimuli_of}
use Rattle.mc_part.specs.Phases.{EachChanged, EachOf, IsKnown}
use Rattle.mc_part.specs.Running.{AreCalm}
use Rattle.mc_part.specs.declared.part.Part.{Part}
use Rattle.mc_part.specs.declared.part_run.PartRun.{PartRun}
use Rattle.mc_divided.specs.Commanding.{AreRecommanded, HasNoShifts, HasNoneOwed, IsKnownAnew}
use Rattle.mc_divided.specs.Networks.{IsDividedNetwork, network_state, world_in}
use Rattle.mc_divided.specs.States.{NoneOwes, no_shifts, no_stimuli}
use Rattle.mc_divided.specs.declared.network.DividedNetwork.{DividedNetwork}
use Rattle.mc_divided.proofs.PartsBy.{run_there}
use Rattle.mc_divided.proofs.Progressed.{home_of, shifts_at}
use Rattle.mc_divided.proofs.Recommanded.{divided_same, world_same}
use Rattle.mc_divided.proofs.Swapped.{maps_same}
use Rattle.mc_divided.proofs.Working.{owed_at}

-- no slot stands on a ring
pub free_now : (n : DividedNetwork) → IsDividedNetwork n → has_ring (world_in n) ≡ false → IsDividedNetwork (record n { free = true })
free_now n divided free = record {
  frame = divided.frame;
  few = divided.few;
  some = divided.some;
  assigned = divided.assigned;
  numbers = divided.numbers;
  logs = divided.logs;
  none_logged = divided.none_logged;
  channels = divided.channels;
  boxes = divided.boxes;
  laid = divided.laid;
  empty = divided.empty;
  crossings = divided.crossings;
  joined = divided.joined;
  ported = divided.ported;
  clocks = divided.clocks;
  idle = divided.idle;
  calm = divided.calm;
  sound = divided.sound;
  free = λ on. free;
}

-- ---- the parts as they are read

pub known_as : (n : DividedNetwork) (read : List PartRun) → IsDividedNetwork n → read ≡ n.runs.items → EachOf IsKnown read
known_as n read divided is = subst (λ (l : List PartRun). EachOf IsKnown l) (sym is) (λ i run there. (divided.idle i run there).known)

-- where no box of any part has made a Shift, none has
pub none_shifted : (n : DividedNetwork) (read : List PartRun) → IsDividedNetwork n → read ≡ n.runs.items → EachOf HasNoShifts read
    → (who : ℕ) → (network_state n).shifts who ≡ 0
none_shifted n read divided is none who =
    let home = home_of n divided who in
    shifts_at n who (home_at n.assigned.items who).0 (home_at n.assigned.items who).1 home.0 divided home.1
    ∙ none (home_at n.assigned.items who).0 home.0
    (ap (λ (l : List PartRun). slice_get l (home_at n.assigned.items who).0) is ∙ home.1.there)
    (home_at n.assigned.items who).1

-- and no slot owes a retry where none of any part does
none_owed_in : (n : DividedNetwork) → IsDividedNetwork n → EachOf HasNoneOwed n.runs.items → NoneOwes (network_state n)
none_owed_in n divided none who local =
    let home = home_of n divided who in
    sym (owed_at n divided who local)
    ∙ none (home_at n.assigned.items who).0 home.0 home.1.there (home_at n.assigned.items who).1 local

-- ---- parts that were looked over

looked_over : (n : DividedNetwork) (runs : Vec PartRun Global) → EachChanged IsKnownAnew n.runs.items runs.items → AreRecommanded n.runs.items runs.items
looked_over n runs looks = record {
  count = looks.count;
  each = λ i a b p q.
      let part : b.part ≡ a.part = ap (λ (r : PartRun). r.part) (looks.each i a b p q).kept in
      record {
        engine = ap (λ (q : Part). q.engine) part;
        ports = ap (λ (q : Part). q.ports) part;
        log = ap (λ (q : Part). q.log) part;
        stamp = ap (λ (q : Part). q.stamp) part;
        heard = ap (λ (q : Part). q.heard) part;
      };
}

before : (n : DividedNetwork) (runs : Vec PartRun Global) → EachChanged IsKnownAnew n.runs.items runs.items → (i : ℕ) (b : PartRun)
    → slice_get runs.items i ≡ Some b → (a : PartRun) × ((slice_get n.runs.items i ≡ Some a) × (b.part ≡ a.part))
before n runs looks i b there =
    let a = run_there n.runs.items i (subst (λ (k : ℕ). i < k) looks.count (slice_get_within runs.items i b there)) in
    (a.0, (a.1, ap (λ (r : PartRun). r.part) (looks.each i a.0 b a.1 there).kept))

pub looked_divided : (n : DividedNetwork) (runs : Vec PartRun Global) → IsDividedNetwork n → EachChanged IsKnownAnew n.runs.items runs.items
    → IsDividedNetwork (record n { runs = runs })
looked_divided n runs divided looks =
    divided_same n runs n.calm divided (looked_over n runs looks) (record {
      within = λ i b there.
          let a = before n runs looks i b there in subst (λ (q : Part). IsWithin q) (sym a.1.1) (divided.idle i a.0 a.1.0).within;
      allowed = λ i b there.
          let a = before n runs looks i b there in
          subst (λ (q : Part). AllByRecursion (λ (turn : Turn). IsTrue (is_allowed q.engine turn)) (drop q.used q.commands.items))
          (sym a.1.1) (divided.idle i a.0 a.1.0).allowed;
      calm_is = λ on i b there.
          let a = before n runs looks i b there in subst (λ (q : Part). AreCalm q) (sym a.1.1) (divided.calm on i a.0 a.1.0);
      known = λ i b there.
          let a = before n runs looks i b there in (looks.each i a.0 b a.1.0 there).known;
    })

pub looked_state : (n : DividedNetwork) (runs : Vec PartRun Global) → EachChanged IsKnownAnew n.runs.items runs.items
    → network_state (record n { runs = runs }) ≡ network_state n
looked_state n runs looks =
    let m : DividedNetwork = record n { runs = runs } in
    let world : world_in m ≡ world_in n = world_same n runs n.calm (looked_over n runs looks) in
    let stimuli : (network_state m).stimuli ≡ (network_state n).stimuli =
    ap (λ (l : List (ℕ → List Event)). λ (who : ℕ). get_or l (home_at n.assigned.items who).0 no_stimuli (home_at n.assigned.items who).1)
    (maps_same (λ (run : PartRun). stimuli_of run.part) (λ (run : PartRun). stimuli_of run.part) runs.items n.runs.items looks.count
    (λ i b a q p. ap (λ (r : PartRun). stimuli_of r.part) (looks.each i a b p q).kept)) in
    let shifts : (network_state m).shifts ≡ (network_state n).shifts =
    ap (λ (l : List (ℕ → ℕ)). λ (who : ℕ). get_or l (home_at n.assigned.items who).0 no_shifts (home_at n.assigned.items who).1)
    (maps_same (λ (run : PartRun). shifts_of run.part) (λ (run : PartRun). shifts_of run.part) runs.items n.runs.items looks.count
    (λ i b a q p. ap (λ (r : PartRun). shifts_of r.part) (looks.each i a b p q).kept)) in
    ap (λ (w : WorldState). record { world = w; stimuli = (network_state m).stimuli; shifts = (network_state m).shifts }) world
    ∙ (ap (λ (f : ℕ → List Event). record { world = world_in n; stimuli = f; shifts = (network_state m).shifts }) stimuli
    ∙ ap (λ (f : ℕ → ℕ). record { world = world_in n; stimuli = (network_state n).stimuli; shifts = f }) shifts)

pub read_new : (n : DividedNetwork) (read new : List PartRun) → read ≡ n.runs.items → EachChanged IsKnownAnew read new
    → (with_items n.runs new).items ≡ new
read_new n read new is looks =
    with_items_is n.runs new (looks.count ∙ (ap (λ (l : List PartRun). length l) is ∙ sym n.runs.ok.0))

pub looked_vec : (n : DividedNetwork) (read new : List PartRun) → read ≡ n.runs.items → EachChanged IsKnownAnew read new
    → EachChanged IsKnownAnew n.runs.items (with_items n.runs new).items
looked_vec n read new is looks =
    subst (λ (l : List PartRun). EachChanged IsKnownAnew n.runs.items l)
    (sym (read_new n read new is looks)) (subst (λ (l : List PartRun). EachChanged IsKnownAnew l new) is looks)

pub known_anew : (old new : List PartRun) → EachChanged IsKnownAnew old new → EachOf IsKnown new
known_anew old new looks i b there =
    let a = run_there old i (subst (λ (k : ℕ). i < k) looks.count (slice_get_within new i b there)) in
    (looks.each i a.0 b a.1 there).known

pub none_owed_by : (n : DividedNetwork) (read new : List PartRun) → IsDividedNetwork n → read ≡ n.runs.items → EachChanged IsKnownAnew read new
    → EachOf HasNoneOwed new → NoneOwes (network_state n)
none_owed_by n read new divided is looks none =
    none_owed_in n divided (λ i a there.
    let below : i < length new = subst (λ (k : ℕ). i < k) (sym (looks.count ∙ ap (λ (l : List PartRun). length l) is)) (slice_get_within n.runs.items i a there) in
    let b = run_there new i below in
    let same : b.0.part ≡ a.part = ap (λ (r : PartRun). r.part) (looks.each i a b.0 (ap (λ (l : List PartRun). slice_get l i) is ∙ there) b.1).kept in
    subst (λ (q : Part). (who : ℕ) → OwesNone q.engine who) same (none i b.0 b.1))
