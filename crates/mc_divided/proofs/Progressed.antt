-- Where something was to do a turn was made, and a command used up.
use Rattle.std.proofs.Common.{◌≡◌, ◌≢◌, inl, inr, ◌&&◌, ◌<◌, ◌≤◌, ◌*◌, if◌then◌else◌, Bool, true, false, ℕ, nat_lt, IsTrue, Some, None, Option, List, [], ◌∷◌, drop, length, map, get_or, slice_get, Result, Ok, Err, refl, ap, sym, ◌∙◌, subst, arith, true≢false, Vec, Global}
use Rattle.std.specs.List.{AllByRecursion}
use Rattle.std.specs.Option.{option_map}
use Rattle.std.proofs.lemmas.Bool.{and_parts, cases_lt, lt-ltb, ltb-true}
use Rattle.std.proofs.lemmas.List.{get_or_past}
use Rattle.std.proofs.lemmas.List.FromFn.{get_or-map-range_with_len, length-map-range_with_len}
use Rattle.std.proofs.lemmas.Option.{slice_get_within}
use Rattle.mc_box.specs.BoxEvents.{BoxStep, box_event, is_enabled, is_version_end, turn_of}
use Rattle.mc_box.specs.BoxShapes.{box_shape, is_enabled_by}
use Rattle.mc_box.specs.Boxes.{BoxState, no_box}
use Rattle.mc_box.specs.declared.event.Event.{Event}
use Rattle.mc_box.specs.declared.event.Event.TheVariants.{Media, Shift}
use Rattle.mc_box.specs.declared.event.MediaChange.TheVariants.{Hear}
use Rattle.mc_box.specs.declared.event.Turn.{Turn}
use Rattle.mc_box.specs.declared.limit.TheConstants.{SLOT_LIMIT}
use Rattle.mc_model.specs.Shapes.{is_allowed}
use Rattle.mc_model.specs.Steps.{after_making, ends_version_at}
use Rattle.mc_model.specs.Worlds.{WorldState, box_at}
use Rattle.mc_merge.specs.Account.{PartState, part_box}
use Rattle.mc_merge.specs.Phases.{box_in}
use Rattle.mc_merge.specs.Weaving.{log_at, numbers_of, of_part, turn_in}
use Rattle.mc_merge.specs.Wholes.{numbers_in}
use Rattle.mc_merge.specs.declared.log.Made.{Made}
use Rattle.mc_merge.specs.declared.log.PartLog.{PartLog}
use Rattle.mc_world.specs.StepAnswers.{LacksVersion}
use Rattle.mc_part.specs.Divisions.{home_at}
use Rattle.mc_part.specs.Networks.{HaveHomes}
use Rattle.mc_part.specs.Parts.{shifts_of, state_of, stimuli_of}
use Rattle.mc_part.specs.Phases.{EachOf, HasEnded, HasGone}
use Rattle.mc_part.specs.Running.{AreCalm, EndsAs, IsToCommand, MakesSome, MeetsVersionEnd, Progresses, UsesAs, UsesCommand, UsesFirst, owed_of}
use Rattle.mc_part.specs.Running.{HasWork as HasPartWork}
use Rattle.mc_part.specs.declared.part.Part.{Part}
use Rattle.mc_part.specs.declared.part_run.PartRun.{PartRun}
use Rattle.mc_part.specs.declared.stop.Ended.{Ended}
use Rattle.mc_part.specs.declared.stop.PartStop.{PartStop}
use Rattle.mc_part.specs.declared.stop.PartStop.TheVariants.{NoMemory, Spent, VersionEnd, Unable, Strange, Stray}
use Rattle.mc_part.proofs.Progress.{still_may}
use Rattle.mc_part.proofs.Uses.{next_is_first}
use Rattle.mc_divided.specs.Networks.{IsDividedNetwork, base_of, network_layout, network_state, states_among, turn_budget, world_in}
use Rattle.mc_divided.specs.Phasing.{EndsWell, HasNothing, IsChosen, StopsAtLast, logs_in}
use Rattle.mc_divided.specs.States.{HasCommands, IsAtLast, UsesOne}
use Rattle.mc_divided.specs.declared.network.DividedNetwork.{DividedNetwork}
use Rattle.mc_divided.proofs.Closed.{ClosedAt, Phased, closed_at, homes_in, opened_at}
use Rattle.mc_divided.proofs.Drained.{IsLike}
use Rattle.mc_divided.proofs.Lists.{one_of}
use Rattle.mc_divided.proofs.PartsBy.{by_map, empty_part, part_in, part_is, parts_by, run_there, states_are, unasked}
use Rattle.mc_divided.proofs.Phased.{RanAt, none_of, ran_at, same_logs}
use Rattle.mc_divided.proofs.PhaseTurns.{home_inside, shifts_are, stimuli_are}
use Rattle.mc_divided.proofs.Played.{by_boxes, keeps_counts, same_stimuli}

-- ---- a box of the network, and of its part

pub record IsHome (n : DividedNetwork) (who : ℕ) (x : PartRun) (part at : ℕ) : Type 0 where
  pub home : home_at n.assigned.items who ≡ (part, at)
  pub there : slice_get n.runs.items part ≡ Some x

-- each number has a part
pub home_of : (n : DividedNetwork) → IsDividedNetwork n → (who : ℕ) → (x : PartRun) × IsHome n who x (home_at n.assigned.items who).0 (home_at n.assigned.items who).1
home_of n divided who =
    let run = run_there n.runs.items (home_at n.assigned.items who).0 (home_inside n divided who) in
    (run.0, record { home = refl; there = run.1 })

pub stimuli_at : (n : DividedNetwork) (who part at : ℕ) (x : PartRun) → IsDividedNetwork n → IsHome n who x part at → (network_state n).stimuli who ≡ stimuli_of x.part at
stimuli_at n who part at x divided home =
    let none = (none_of n divided).none in
    ap (λ (f : ℕ → List Event). f who) (sym (stimuli_are n none divided))
    ∙ (ap (λ (t : ℕ × ℕ). stimuli_of (parts_by none n.runs.items t.0) t.1) home.home ∙ ap (λ (q : Part). stimuli_of q at) (part_is none n.runs.items part x home.there))

pub shifts_at : (n : DividedNetwork) (who part at : ℕ) (x : PartRun) → IsDividedNetwork n → IsHome n who x part at → (network_state n).shifts who ≡ shifts_of x.part at
shifts_at n who part at x divided home =
    let none = (none_of n divided).none in
    ap (λ (f : ℕ → ℕ). f who) (sym (shifts_are n none divided))
    ∙ (ap (λ (t : ℕ × ℕ). shifts_of (parts_by none n.runs.items t.0) t.1) home.home ∙ ap (λ (q : Part). shifts_of q at) (part_is none n.runs.items part x home.there))

pub box_is : (n : DividedNetwork) (who part at : ℕ) (x : PartRun) → IsDividedNetwork n → IsHome n who x part at → who < length (base_of n).boxes → box_at (world_in n) who ≡ box_at x.part.engine at
box_is n who part at x divided home inside =
    let none = (none_of n divided).none in
    get_or-map-range_with_len (box_in (network_layout n) (states_among n.runs.items)) 0 (length (base_of n).boxes) who who no_box inside (omega arith)
    ∙ (ap (λ (states : ℕ → PartState). part_box (states (home_at n.assigned.items who).0) (home_at n.assigned.items who).1) (states_are none n.runs.items)
    ∙ (ap (λ (t : ℕ × ℕ). part_box (state_of (parts_by none n.runs.items t.0)) t.1) home.home ∙ ap (λ (q : Part). box_at q.engine at) (part_is none n.runs.items part x home.there)))

pub world_boxes : (n : DividedNetwork) → length (world_in n).boxes ≡ length (base_of n).boxes
world_boxes n = length-map-range_with_len (box_in (network_layout n) (states_among n.runs.items)) 0 (length (base_of n).boxes)

-- a box of a part has a number
pub record HasNumber (n : DividedNetwork) (x : PartRun) (part at : ℕ) : Type 0 where
  pub who : ℕ
  pub number : who ≡ numbers_in (numbers_of n.logs.items) part at
  pub inside : who < length (base_of n).boxes
  pub home : IsHome n who x part at

pub number_of : (n : DividedNetwork) → IsDividedNetwork n → (part at : ℕ) (x : PartRun) → slice_get n.runs.items part ≡ Some x → at < length x.part.engine.boxes → HasNumber n x part at
number_of n divided part at x there inside =
    let none = (none_of n divided).none in
    let homes : HaveHomes (network_layout n) (numbers_of n.logs.items) (parts_by none n.runs.items) (length (base_of n).boxes) = homes_in n none divided in
    let below : at < length (parts_by none n.runs.items part).engine.boxes = subst (λ (q : Part). at < length q.engine.boxes) (sym (part_is none n.runs.items part x there)) inside in
    record { who = numbers_in (numbers_of n.logs.items) part at; number = refl; inside = homes.inside part at below; home = record { home = homes.there part at below; there = there } }

-- ---- a last version

-- an event that takes nothing has no step where the box can't make it
no_event : (o : Option BoxStep) (world world_2 : WorldState) (who who_2 : ℕ) → option_map (after_making world who) o ≡ None → option_map (after_making world_2 who_2) o ≡ None
no_event None world world_2 who who_2 is = refl
no_event (Some s) world world_2 who who_2 is = absurd (cc)

no_step_by : (test test_2 : Bool) (on : Bool) (local : ℕ) (world world_2 : WorldState) (who who_2 : ℕ) → box_at world_2 who_2 ≡ box_at world who → test ≡ true
    → (if test then option_map (after_making world who) (box_event (box_at world who) (Media (Hear local on)) None) else None) ≡ None
    → (if test_2 then option_map (after_making world_2 who_2) (box_event (box_at world_2 who_2) (Media (Hear local on)) None) else None) ≡ None
no_step_by true false on local world world_2 who who_2 same here none = refl
no_step_by true true on local world world_2 who who_2 same here none =
    ap (λ (b : BoxState). option_map (after_making world_2 who_2) (box_event b (Media (Hear local on)) None)) same ∙ no_event (box_event (box_at world who) (Media (Hear local on)) None) world world_2 who who_2 none
no_step_by false test_2 on local world world_2 who who_2 same here none = absurd (true≢false (sym here))

lacks_too : (world world_2 : WorldState) (who who_2 local : ℕ) (on : Bool) → box_at world_2 who_2 ≡ box_at world who → who_2 < length world_2.boxes → LacksVersion world (turn_of who (Media (Hear local on))) → LacksVersion world_2 (turn_of who_2 (Media (Hear local on)))
lacks_too world world_2 who who_2 local on same inside lacks =
    let parts = and_parts (nat_lt who (length world.boxes)) (ends_version_at world who (Media (Hear local on))) lacks.1 in (
      no_step_by (nat_lt who (length world.boxes)) (nat_lt who_2 (length world_2.boxes)) on local world world_2 who who_2 same parts.0 lacks.0,
      ap (λ (b : Bool). b && ends_version_at world_2 who_2 (Media (Hear local on))) (lt-ltb who_2 (length world_2.boxes) inside)
          ∙ (ap (λ (b : BoxState). is_version_end b (Media (Hear local on)) && is_enabled b (Media (Hear local on))) same ∙ parts.1),
    )

version_of : (o : Option (Result Ended PartStop)) (r : Result Ended PartStop) (part : Part) (budget who local : ℕ) → o ≡ Some r → o ≡ Some (Err (VersionEnd who local)) → EndsAs r part budget → MeetsVersionEnd part who local
version_of o r part budget who local is is_2 ends = subst (λ (y : Result Ended PartStop). EndsAs y part budget) (let same : r ≡ Err (VersionEnd who local) = cc in same) ends

met_by : (n : DividedNetwork) (retries every : Bool) (budget i who local : ℕ) (x b c : PartRun) → IsChosen every x b → HasGone retries budget b c → c.ended ≡ Some (Err (VersionEnd who local)) → (active : Bool) → b.active ≡ active → MeetsVersionEnd c.part who local
met_by n retries every budget i who local x b c chose went ended true is =
    let at : HasEnded retries budget b c = went.ended is in
    version_of c.ended at.result c.part budget who local at.is ended at.ends
met_by n retries every budget i who local x b c chose went ended false is = absurd (let none : c.ended ≡ None = ap (λ (r : PartRun). r.ended) (went.idle is) ∙ chose.ended in cc)

first_of : (event : Event) (rest all : List Event) → all ≡ event ∷ rest → slice_get all 0 ≡ Some event
first_of event rest all is = ap (λ (l : List Event). slice_get l 0) is

pub at_last : (n : DividedNetwork) (retries every : Bool) (budget : ℕ) (chosen gone carried : List PartRun) (runs : Vec PartRun Global) (logs : Vec PartLog Global) (calm : Bool) (before after : List Turn) → Phased n retries every budget chosen gone carried runs.items logs.items before after → IsDividedNetwork (record n { runs = runs; logs = logs; calm = calm; free = false }) → (at : ℕ × ℕ) → StopsAtLast (numbers_of logs.items) runs.items at → IsAtLast (network_state (record n { runs = runs; logs = logs; calm = calm; free = false })) at
at_last n retries every budget chosen gone carried runs logs calm before after p divided at stops =
    let m : DividedNetwork = (record n { runs = runs; logs = logs; calm = calm; free = false }) in
    let opened = opened_at n retries every budget chosen gone carried runs.items logs.items before after p stops.part stops.run stops.there in
    let x : PartRun = opened.0 in
    let closed : ClosedAt gone runs.items n retries every budget chosen stops.part x = closed_at n retries every budget chosen gone carried runs.items logs.items before after p stops.part x opened.1 in
    let same : closed.d ≡ stops.run = one_of (slice_get runs.items stops.part) closed.d stops.run closed.d_there stops.there in
    let c : PartRun = closed.ran.c in
    let mid = run_there carried stops.part (subst (λ (k : ℕ). stops.part < k) (sym p.over.same.count) (slice_get_within gone stops.part c closed.ran.c_there)) in
    let ended : c.ended ≡ Some (Err (VersionEnd stops.who at.1)) =
    sym (ap (λ (r : PartRun). r.ended) (p.merged.closed.each stops.part mid.0 stops.run mid.1 stops.there).kept ∙ (p.over.same.each stops.part c mid.0 closed.ran.c_there mid.1).ended) ∙ stops.ended in
    let met : MeetsVersionEnd c.part stops.who at.1 = met_by n retries every budget stops.part stops.who at.1 x closed.ran.b c closed.ran.chose closed.ran.went ended closed.ran.b.active refl in
    let here : stops.who < length c.part.engine.boxes = ltb-true stops.who (length c.part.engine.boxes) (and_parts (nat_lt stops.who (length c.part.engine.boxes)) (ends_version_at c.part.engine stops.who (Media (Hear at.1 met.on))) met.lacks.1).0 in
    let like : IsLike c.part stops.run.part = subst (λ (r : PartRun). IsLike c.part r.part) same closed.like in
    let here_2 : stops.who < length stops.run.part.engine.boxes = subst (λ (k : ℕ). stops.who < k) (sym (ap (λ (l : List BoxState). length l) like.boxes)) here in
    let number : HasNumber m stops.run stops.part stops.who = number_of m divided stops.part stops.who stops.run stops.there here_2 in
    let at_is : at.0 ≡ number.who = stops.is ∙ sym number.number in
    let first = next_is_first c.part (turn_of stops.who (Media (Hear at.1 met.on))) met.next in
    let keeps = keeps_counts n retries every budget chosen gone carried runs.items logs.items before after p stops.part c stops.run closed.ran.c_there stops.there in
    let left : (network_state m).stimuli at.0 ≡ Media (Hear at.1 met.on) ∷ first.0 =
    ap (λ (k : ℕ). (network_state m).stimuli k) at_is ∙ (stimuli_at m number.who stops.part stops.who stops.run divided number.home ∙ (same_stimuli c.part stops.run.part keeps stops.who ∙ first.1)) in
    let box : box_at (world_in m) number.who ≡ box_at c.part.engine stops.who = box_is m number.who stops.part stops.who stops.run divided number.home number.inside ∙ ap (λ (l : List BoxState). get_or l stops.who no_box) like.boxes in
    record {
      on = met.on;
      next = first_of (Media (Hear at.1 met.on)) first.0 ((network_state m).stimuli at.0) left;
      lacks = subst (λ (k : ℕ). LacksVersion (world_in m) (turn_of k (Media (Hear at.1 met.on)))) (sym at_is)
          (lacks_too c.part.engine (world_in m) stops.who number.who at.1 met.on box (subst (λ (k : ℕ). number.who < k) (sym (world_boxes m)) number.inside) met.lacks);
    }

-- ---- a command

-- a box that has an allowed command is there
allowed_here : (x : Part) (at : ℕ) (events : List Event) → AllByRecursion (λ (event : Event). IsTrue (is_allowed x.engine (record { who = at; event = event }))) events → events ≢ [] → at < length x.engine.boxes
allowed_here x at [] all some = absurd (some refl)
allowed_here x at (event ∷ events) all some = ltb-true at (length x.engine.boxes) (and_parts (nat_lt at (length x.engine.boxes)) (is_enabled_by (box_shape (box_at x.engine at)) event) all.0).0

pub command_here : (n : DividedNetwork) → IsDividedNetwork n → (i : ℕ) (x : PartRun) → slice_get n.runs.items i ≡ Some x → (at : ℕ) → stimuli_of x.part at ≢ [] → at < length x.part.engine.boxes
command_here n divided i x there at some =
    allowed_here x.part at (stimuli_of x.part at) (by_boxes (λ (who : ℕ) (event : Event). IsTrue (is_allowed x.part.engine (record { who = who; event = event }))) (drop x.part.used x.part.commands.items) (divided.idle i x there).allowed at) some

-- so there is room for a turn
room_here : (n : DividedNetwork) (budget : ℕ) → IsDividedNetwork n → (i : ℕ) (x : PartRun) → slice_get n.runs.items i ≡ Some x → (at : ℕ) → at < length x.part.engine.boxes → (0 < turn_budget (length n.runs.items) → 0 < budget) → 0 < budget
room_here n budget divided i x there at here some =
    let room : SLOT_LIMIT * length x.part.engine.boxes ≤ turn_budget (length n.runs.items) = (divided.idle i x there).room in
    some (omega (arith, room, here))

uses_by : (budget : ℕ) (a b : Part) (o : Option (Result Ended PartStop)) (r : Result Ended PartStop) → o ≡ Some r → EndsWell o → UsesAs budget a b r → UsesFirst budget a b
uses_by budget a b o (Ok ended) is well uses = uses
uses_by budget a b o (Err Spent) is well uses = uses
uses_by budget a b o (Err (NoMemory e)) is well uses = absurd (subst (λ (y : Option (Result Ended PartStop)). EndsWell y) is well)
uses_by budget a b o (Err (VersionEnd who local)) is well uses = absurd (subst (λ (y : Option (Result Ended PartStop)). EndsWell y) is well)
uses_by budget a b o (Err (Unable who)) is well uses = absurd (subst (λ (y : Option (Result Ended PartStop)). EndsWell y) is well)
uses_by budget a b o (Err (Strange who local)) is well uses = absurd (subst (λ (y : Option (Result Ended PartStop)). EndsWell y) is well)
uses_by budget a b o (Err (Stray port)) is well uses = absurd (subst (λ (y : Option (Result Ended PartStop)). EndsWell y) is well)

makes_by : (retries : Bool) (budget : ℕ) (a b : Part) (o : Option (Result Ended PartStop)) (r : Result Ended PartStop) → o ≡ Some r → EndsWell o → Progresses retries budget a b r → MakesSome retries budget a b
makes_by retries budget a b o (Ok ended) is well makes = makes
makes_by retries budget a b o (Err Spent) is well makes = makes
makes_by retries budget a b o (Err (NoMemory e)) is well makes = absurd (subst (λ (y : Option (Result Ended PartStop)). EndsWell y) is well)
makes_by retries budget a b o (Err (VersionEnd who local)) is well makes = absurd (subst (λ (y : Option (Result Ended PartStop)). EndsWell y) is well)
makes_by retries budget a b o (Err (Unable who)) is well makes = absurd (subst (λ (y : Option (Result Ended PartStop)). EndsWell y) is well)
makes_by retries budget a b o (Err (Strange who local)) is well makes = absurd (subst (λ (y : Option (Result Ended PartStop)). EndsWell y) is well)
makes_by retries budget a b o (Err (Stray port)) is well makes = absurd (subst (λ (y : Option (Result Ended PartStop)). EndsWell y) is well)

-- a part that has a command runs, and uses one up
used_by : (retries every : Bool) (budget : ℕ) (x b c : PartRun) (at : ℕ) → retries ≡ false → x.part.log.items ≡ [] → 0 < budget → stimuli_of x.part at ≢ [] → IsChosen every x b → HasGone retries budget b c → EndsWell c.ended → (active : Bool) → b.active ≡ active → UsesCommand x.part c.part
used_by retries every budget x b c at off none room some chose went well true is =
    let ended : HasEnded retries budget b c = went.ended is in
    let first : UsesFirst budget b.part c.part = uses_by budget b.part c.part c.ended ended.result ended.is well (ended.used off) in
    subst (λ (q : Part). UsesCommand q c.part) chose.part
    (first (subst (λ (q : Part). IsToCommand budget q) (sym chose.part) (record {
      room = subst (λ (l : List Made). length l < budget) (sym none) room;
      who = at;
      left = some;
    })))
used_by retries every budget x b c at off none room some chose went well false is = absurd (some (ap (λ (q : Part). stimuli_of q at) (sym chose.part) ∙ (chose.idle is).left at))

has_less : (one two : List Event) → length one < length two → two ≢ []
has_less one [] less same = absurd (omega (arith, less))
has_less one (e ∷ two) less same = absurd (cc)

-- all runs ended well
ended_at : (n : DividedNetwork) (retries every : Bool) (budget : ℕ) (chosen gone carried closed : List PartRun) (logs_2 : List PartLog) (before after : List Turn) → Phased n retries every budget chosen gone carried closed logs_2 before after → EachOf (λ (run : PartRun). EndsWell run.ended) closed → (i : ℕ) (c : PartRun) → slice_get gone i ≡ Some c → EndsWell c.ended
ended_at n retries every budget chosen gone carried closed logs_2 before after p well i c there =
    let mid = run_there carried i (subst (λ (k : ℕ). i < k) (sym p.over.same.count) (slice_get_within gone i c there)) in
    let d = run_there closed i (subst (λ (k : ℕ). i < k) (sym p.merged.closed.count) (slice_get_within carried i mid.0 mid.1)) in
    let same : d.0.ended ≡ c.ended = ap (λ (r : PartRun). r.ended) (p.merged.closed.each i mid.0 d.0 mid.1 d.1).kept ∙ (p.over.same.each i c mid.0 there mid.1).ended in
    subst (λ (o : Option (Result Ended PartStop)). EndsWell o) same (well i d.0 d.1)

pub used_one : (n : DividedNetwork) (retries every : Bool) (budget : ℕ) (chosen gone carried : List PartRun) (runs : Vec PartRun Global) (logs : Vec PartLog Global) (calm : Bool) (before after : List Turn) → Phased n retries every budget chosen gone carried runs.items logs.items before after → IsDividedNetwork (record n { runs = runs; logs = logs; calm = calm; free = false }) → (0 < turn_budget (length n.runs.items) → 0 < budget) → EachOf (λ (run : PartRun). EndsWell run.ended) runs.items → retries ≡ false → HasCommands (network_state n) → UsesOne (network_state n) (network_state (record n { runs = runs; logs = logs; calm = calm; free = false }))
used_one n retries every budget chosen gone carried runs logs calm before after p divided room well off commands =
    let m : DividedNetwork = (record n { runs = runs; logs = logs; calm = calm; free = false }) in
    let old = p.went.divided in
    let home = home_of n old commands.0 in
    let x : PartRun = home.0 in
    let i : ℕ = (home_at n.assigned.items commands.0).0 in
    let some : stimuli_of x.part (home_at n.assigned.items commands.0).1 ≢ [] = λ none. commands.1 (stimuli_at n commands.0 i (home_at n.assigned.items commands.0).1 x old home.1 ∙ none) in
    let here = command_here n old i x home.1.there (home_at n.assigned.items commands.0).1 some in
    let closed : ClosedAt gone runs.items n retries every budget chosen i x = closed_at n retries every budget chosen gone carried runs.items logs.items before after p i x home.1.there in
    let uses : UsesCommand x.part closed.ran.c.part =
    used_by retries every budget x closed.ran.b closed.ran.c (home_at n.assigned.items commands.0).1 off (old.idle i x home.1.there).log (room_here n budget old i x home.1.there (home_at n.assigned.items commands.0).1 here room) some
    closed.ran.chose closed.ran.went (ended_at n retries every budget chosen gone carried runs.items logs.items before after p well i closed.ran.c closed.ran.c_there) closed.ran.b.active refl in
    let here_2 = command_here n old i x home.1.there uses.who (has_less (stimuli_of closed.ran.c.part uses.who) (stimuli_of x.part uses.who) uses.fewer) in
    let number : HasNumber n x i uses.who = number_of n old i uses.who x home.1.there here_2 in
    let keeps = keeps_counts n retries every budget chosen gone carried runs.items logs.items before after p i closed.ran.c closed.d closed.ran.c_there closed.d_there in
    let was : (network_state n).stimuli number.who ≡ stimuli_of x.part uses.who = stimuli_at n number.who i uses.who x old number.home in
    let is : (network_state m).stimuli number.who ≡ stimuli_of closed.ran.c.part uses.who =
    stimuli_at m number.who i uses.who closed.d divided (record { home = number.home.home; there = closed.d_there }) ∙ same_stimuli closed.ran.c.part closed.d.part keeps uses.who in
    record {
      who = number.who;
      fewer = subst (λ (l : List Event). length l < length ((network_state n).stimuli number.who)) (sym is) (subst (λ (l : List Event). length (stimuli_of closed.ran.c.part uses.who) < length l) (sym was) uses.fewer);
    }

-- ---- any work

-- a part with something to do makes a turn
made_by : (retries every : Bool) (budget : ℕ) (x b c : PartRun) → (IsTrue retries → IsTrue every) → (every ≡ false → AreCalm x.part) → x.part.log.items ≡ [] → 0 < budget → HasPartWork retries x.part → IsChosen every x b → HasGone retries budget b c → EndsWell c.ended → (active : Bool) → b.active ≡ active
    → c.part.log.items ≢ []
made_by retries every budget x b c asked calm none room work chose went well true is same =
    let ended : HasEnded retries budget b c = went.ended is in
    let makes : MakesSome retries budget b.part c.part = makes_by retries budget b.part c.part c.ended ended.result ended.is well ended.progress in
    let empty : length b.part.log.items ≡ 0 = ap (λ (q : Part). length q.log.items) chose.part ∙ ap (λ (l : List Made). length l) none in
    let more : length b.part.log.items < length c.part.log.items = makes (subst (λ (k : ℕ). k < budget) (sym empty) room) (subst (λ (q : Part). HasPartWork retries q) (sym chose.part) work) in
    let long : length c.part.log.items ≡ 0 = ap (λ (l : List Made). length l) same in
    absurd (omega (arith, more, long))
made_by retries every budget x b c asked calm none room work chose went well false is same =
    absurd (idle_work (subst (λ (q : Part). HasNothing every q) chose.part (chose.idle is)) work)
  where
    idle_work : HasNothing every x.part → HasPartWork retries x.part → ⊥
    idle_work nothing (inl (who, some)) = some (nothing.left who)
    idle_work nothing (inr (inl (who, (local, here)))) = true≢false (sym here.1 ∙ nothing.waits who local here.0)
    idle_work nothing (inr (inr (inl (who, (local, owed))))) =
        absurd (let none_owed : owed_of false x.part who local ≡ 1 = subst (λ (t : Bool). owed_of t x.part who local ≡ 1) (unasked retries every asked nothing.some) owed in omega (arith, none_owed))
    idle_work nothing (inr (inr (inr (who, may)))) = still_may x.part who may (calm nothing.some who may.here)

of_none : (part : ℕ) (woven : List (ℕ × Made)) → woven ≡ [] → of_part part woven ≡ []
of_none part [] is = refl
of_none part (w ∷ woven) is = absurd (cc)

map_none : {X Y : Type 0} (f : X → Y) (xs : List X) → map f xs ≡ [] → xs ≡ []
map_none f [] is = refl
map_none f (x ∷ xs) is = absurd (cc)

-- a part with work
pub record Works (n : DividedNetwork) (retries : Bool) : Type 0 where
  pub i : ℕ
  pub x : PartRun
  pub there : slice_get n.runs.items i ≡ Some x
  pub at : ℕ
  pub here : at < length x.part.engine.boxes
  pub work : HasPartWork retries x.part

pub moved_by : (n : DividedNetwork) (retries every : Bool) (budget : ℕ) (chosen gone carried closed : List PartRun) (logs_2 : List PartLog) (before after : List Turn) → (p : Phased n retries every budget chosen gone carried closed logs_2 before after) → (every ≡ false → n.calm ≡ true) → (0 < turn_budget (length n.runs.items) → 0 < budget) → EachOf (λ (run : PartRun). EndsWell run.ended) closed → Works n retries → map (turn_in (numbers_of n.logs.items)) p.merged.woven ≢ []
moved_by n retries every budget chosen gone carried closed logs_2 before after p calm room well works none =
    let old = p.went.divided in
    let ran : RanAt n retries every budget chosen gone works.i works.x = ran_at n retries every budget chosen gone p.went works.i works.x works.there in
    let some = made_by retries every budget works.x ran.b ran.c p.went.asked (λ off. old.calm (calm off) works.i works.x works.there) (old.idle works.i works.x works.there).log
    (room_here n budget old works.i works.x works.there works.at works.here room) works.work ran.chose ran.went (ended_at n retries every budget chosen gone carried closed logs_2 before after p well works.i ran.c ran.c_there) ran.b.active refl in
    let none_woven : p.merged.woven ≡ [] = map_none (turn_in (numbers_of n.logs.items)) p.merged.woven none in
    let first = (none_of n old).none in
    let log : log_at (logs_in carried) works.i ≡ ran.c.part.log.items =
    ap (λ (l : List (List Made)). log_at l works.i) (same_logs gone carried p.over.same) ∙ (by_map part_in (λ (q : Part). q.log.items) gone works.i (empty_part first) ∙ ap (λ (q : Part). q.log.items) (part_is first gone works.i ran.c ran.c_there)) in
    some (sym log ∙ (sym (p.merged.are.each works.i) ∙ of_none works.i p.merged.woven none_woven))

-- ---- which part has the work

pub enabled_here : (boxes : List BoxState) (at : ℕ) → is_enabled (get_or boxes at no_box) Shift ≡ true → at < length boxes
enabled_here boxes at enabled = elim (cases_lt at (length boxes)) [
  | inl inside ↦ inside
  | inr past ↦ absurd (let none : is_enabled no_box Shift ≡ true = ap (λ (b : BoxState). is_enabled b Shift) (sym (get_or_past boxes at no_box past)) ∙ enabled in cc)
]
