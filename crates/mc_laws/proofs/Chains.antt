-- Links come from programs and commands alone, so where those that they name close no chain there is no ring.
use Rattle.std.proofs.Common.{◌≡◌, ◌<◌, ◌+◌, ◌⊎◌, ◌==◌, ◌&&◌, inl, inr, ℕ, zero, suc, Bool, true, false, cond, if◌then◌else◌, Option, Some, None, List, [], ◌∷◌, Contains, filter, length, take, refl, ap, sym, ◌∙◌, subst, arith}
use Rattle.std.proofs.Math.ListN.{get_or}
use Rattle.std.specs.Option.{unwrap_or}
use Rattle.std.proofs.lemmas.Bool.{cases_eq, eq-eqb, eqb-true}
use Rattle.std.proofs.lemmas.List.Elements.{All-contains_itself, All-head, All-tail}
use Rattle.mc_slot.specs.declared.Goal.{Goal}
use Rattle.mc_slot.specs.declared.Goal.TheVariants.{Close as ToClose, Hold as ToHold}
use Rattle.mc_slot.specs.declared.SlotGoal.{SlotGoal}
use Rattle.mc_slot.specs.declared.SlotGoal.TheVariants.{End, Link}
use Rattle.mc_signal.specs.declared.Signal.{Signal}
use Rattle.mc_rule.specs.Programs.{ProgStateState}
use Rattle.mc_box.specs.BoxEvents.{BoxStep, box_event, event_step, is_command, turn_of}
use Rattle.mc_box.specs.Boxes.{BoxState, goal_at, goals_in, states_of}
use Rattle.mc_box.specs.Goals.{change_goals, goal_after, without_link}
use Rattle.mc_box.specs.declared.event.Change.{Change}
use Rattle.mc_box.specs.declared.event.Change.TheVariants.{End as NewEnd, Link as NewLink}
use Rattle.mc_box.specs.declared.event.Event.{Event}
use Rattle.mc_box.specs.declared.event.Event.TheVariants.{Take, Set, Media, Tell, Retry, Shift}
use Rattle.mc_box.specs.declared.event.Turn.{Turn}
use Rattle.mc_box.proofs.Changes.{at_goals_after, length_goals_from}
use Rattle.mc_box.proofs.Events.{event_goes, taking_is}
use Rattle.mc_box.proofs.Options.{then_some}
use Rattle.mc_model.specs.Paths.{next_slot, partner_of}
use Rattle.mc_model.specs.Rings.{IsOnRing}
use Rattle.mc_model.specs.Settles.{IsSettled, IsStopped, commands_of}
use Rattle.mc_model.specs.Sound.{IsSound}
use Rattle.mc_model.specs.Steps.{run, step}
use Rattle.mc_model.specs.Worlds.{ChannelState, WorldState, box_at, far, goal_of, number, place, slot_count}
use Rattle.mc_laws.specs.Chains.{ClosesChain, ClosesNoChain, ComeFrom, ComesFrom, IsAmong, Joins, LinksAreNamed, NamedLinksCloseNone, NamedLinksMakeRings, NamesLink, RingsAreNamed, RunKeepsNamed, StateLinks, StepKeepsNamed}
use Rattle.mc_laws.proofs.ActedWorlds.{far_inside}
use Rattle.mc_laws.proofs.BothWays.{has_by}
use Rattle.mc_laws.proofs.BoxStays.{media_stays, set_stays, shift_made, take_stays, tell_stays, turn_stays}
use Rattle.mc_laws.proofs.Partners.{linked_with}
use Rattle.mc_laws.proofs.ShapesKept.{same_shape, shape_both, step_keeps_shape}
use Rattle.mc_laws.proofs.StepActs.{Turned, step_turns}
use Rattle.mc_laws.proofs.StepKeeps.{run_keeps_sound, step_keeps_sound}
use Rattle.mc_laws.proofs.RingChains.{ComesBackFirst, after_inside, back_first, chain_from, never_twice, passes, slots_from}

-- ---- the links of a box after an event

-- where a link of a box comes from
abbrev Comes : BoxState → Event → (first second : ℕ) → Type 0
Comes box event first second = (goal_at box first ≡ Link second) ⊎ (StateLinks box first second ⊎ ((event ≡ Set (NewLink first second)) ⊎ (event ≡ Set (NewLink second first))))

parted_by : (same : Bool) (q partner : ℕ) → (if same then End ToHold else Link q) ≡ Link partner → Link q ≡ Link partner
parted_by true q partner is = absurd (cc)
parted_by false q partner is = is

parted : (old : SlotGoal) (local partner : ℕ) → without_link local old ≡ Link partner → old ≡ Link partner
parted (End goal) local partner is = absurd (cc)
parted (Link q) local partner is = parted_by (q == local) q partner is

end_by : (here : Bool) (slot : ℕ) (goal : Goal) (old : SlotGoal) (second : ℕ) → (if here then End goal else without_link slot old) ≡ Link second → old ≡ Link second
end_by true slot goal old second is = absurd (cc)
end_by false slot goal old second is = parted old slot second is

-- a link that is there after a link is set is the new one, or was there before
link_by : (one two : Bool) (a b first second : ℕ) (old : SlotGoal) → (first == a) ≡ one → (first == b) ≡ two
    → (if one then Link b else (if two then Link a else without_link a (without_link b old))) ≡ Link second
    → (old ≡ Link second) ⊎ ((NewLink a b ≡ NewLink first second) ⊎ (NewLink a b ≡ NewLink second first))
link_by true two a b first second old here there is =
    let same : b ≡ second = cc in inr (inl (ap (λ (n : ℕ). NewLink n b) (sym (eqb-true first a here)) ∙ ap (λ (n : ℕ). NewLink first n) same))
link_by false true a b first second old here there is =
    let same : a ≡ second = cc in inr (inr (ap (λ (n : ℕ). NewLink n b) same ∙ ap (λ (n : ℕ). NewLink second n) (sym (eqb-true first b there))))
link_by false false a b first second old here there is = inl (parted old b second (parted (without_link b old) a second is))

goal_comes : (change : Change) (first second : ℕ) (old : SlotGoal) → goal_after change first old ≡ Link second
    → (old ≡ Link second) ⊎ ((change ≡ NewLink first second) ⊎ (change ≡ NewLink second first))
goal_comes (NewEnd slot goal) first second old is = inl (end_by (first == slot) slot goal old second is)
goal_comes (NewLink a b) first second old is = link_by (first == a) (first == b) a b first second old refl refl is

-- past the goals no slot is linked
link_inside : (goals : List SlotGoal) (first second : ℕ) → get_or goals first (End ToClose) ≡ Link second → first < length goals
link_inside [] first second is = absurd (cc)
link_inside (goal ∷ goals) zero second is = omega arith
link_inside (goal ∷ goals) (suc first) second is = omega (arith, link_inside goals first second is)

set_comes : (box : BoxState) (change : Change) (first second : ℕ) → get_or (change_goals box.goals change) first (End ToClose) ≡ Link second → Comes box (Set change) first second
set_comes box change first second is =
    let inside : first < length box.goals = omega (arith, link_inside (change_goals box.goals change) first second is, length_goals_from change 0 box.goals) in
    elim (goal_comes change first second (goal_at box first) (sym (at_goals_after change box.goals first inside) ∙ is)) [
      | inl old ↦ inl old
      | inr new ↦ elim new [
        | inl one ↦ inr (inr (inl (ap Set one)))
        | inr two ↦ inr (inr (inr (ap Set two)))
      ]
    ]

-- where goals stay, so do links
stays_come : (box after : BoxState) (event : Event) (first second : ℕ) → after.goals ≡ box.goals → goal_at after first ≡ Link second → Comes box event first second
stays_come box after event first second same is = inl (ap (λ (l : List SlotGoal). get_or l first (End ToClose)) (sym same) ∙ is)

acts : (event : Event) (box : BoxState) (step : BoxStep) (first second : ℕ) → event_step box event ≡ Some step → goal_at step.after first ≡ Link second → Comes box event first second
acts (Take local) box step first second goes is = absurd (cc)
acts (Set change) box step first second goes is =
    set_comes box change first second (ap (λ (l : List SlotGoal). get_or l first (End ToClose)) (sym (set_stays box change step goes).goals) ∙ is)
acts (Media change) box step first second goes is = stays_come box step.after (Media change) first second (media_stays change box step goes).goals is
acts (Tell word) box step first second goes is = stays_come box step.after (Tell word) first second (tell_stays box word step goes).goals is
acts (Retry local) box step first second goes is = stays_come box step.after (Retry local) first second (turn_stays box local _ step goes).goals is
acts Shift box step first second goes is =
    let made = shift_made box step goes in
    inr (inl (made.shift.target, ap (λ (l : List SlotGoal). get_or l first (End ToClose)) (sym made.stays.goals) ∙ is))

event_comes : (box : BoxState) (event : Event) (signal : Option Signal) (step : BoxStep) (first second : ℕ) → box_event box event signal ≡ Some step
    → goal_at step.after first ≡ Link second → Comes box event first second
event_comes box event None step first second goes is = acts event box step first second (event_goes event box step goes).1 is
event_comes box event (Some signal) step first second goes is =
    let one = taking_is event box signal step goes in
    stays_come box step.after event first second (take_stays box one.0 signal step one.3).goals is

-- ---- links stay named

-- they are so at the beginning
pub first_named : (world : WorldState) (batches : List (List Turn)) → LinksAreNamed world batches world
first_named world batches = record { shape = same_shape world; named = λ who first second is. inl is }

-- a command that links is among the batches
command_links : (batches : List (List Turn)) (turn : Turn) (a b : ℕ) → ComesFrom batches turn → turn.event ≡ Set (NewLink a b) → IsAmong batches (turn_of turn.who (Set (NewLink a b)))
command_links batches turn a b comes is =
    subst (λ (e : Event). IsAmong batches (turn_of turn.who e)) is (comes (ap is_command is))

state_links : (program other : Option (List ProgStateState)) (first at second : ℕ) → program ≡ other → get_or (goals_in (states_of program) at) first (End ToClose) ≡ Link second
    → get_or (goals_in (states_of other) at) first (End ToClose) ≡ Link second
state_links program other first at second same is = subst (λ (p : Option (List ProgStateState)). get_or (goals_in (states_of p) at) first (End ToClose) ≡ Link second) same is

turn_named : (world now next : WorldState) (batches : List (List Turn)) (turn : Turn) (first second : ℕ) → LinksAreNamed world batches now → ComesFrom batches turn
    → Turned now next turn.who turn.event → goal_at (box_at next turn.who) first ≡ Link second → NamesLink world batches turn.who first second
turn_named world now next batches turn first second links comes turned is =
    let after : goal_at turned.step.after first ≡ Link second = ap (λ (b : BoxState). goal_at b first) (sym turned.after) ∙ is in
    elim (event_comes (box_at now turn.who) turn.event turned.signal turned.step first second turned.goes after) [
      | inl old ↦ links.named turn.who first second old
      | inr new ↦ elim new [
        | inl state ↦ inr (inl (state.0, state_links (box_at now turn.who).program (box_at world turn.who).program first state.0 second (links.shape.alike turn.who).program state.1))
        | inr set ↦ elim set [
          | inl one ↦ inr (inr (inl (command_links batches turn first second comes one)))
          | inr two ↦ inr (inr (inr (command_links batches turn second first comes two)))
        ]
      ]
    ]

named_after : (world now next : WorldState) (batches : List (List Turn)) (turn : Turn) (who first second : ℕ) → LinksAreNamed world batches now → ComesFrom batches turn
    → Turned now next turn.who turn.event → goal_at (box_at next who) first ≡ Link second → NamesLink world batches who first second
named_after world now next batches turn who first second links comes turned is = elim (cases_eq who turn.who) [
  | inl same ↦
      subst (λ (w : ℕ). NamesLink world batches w first second) (sym same)
      (turn_named world now next batches turn first second links comes turned (subst (λ (w : ℕ). goal_at (box_at next w) first ≡ Link second) same is))
  | inr other ↦ links.named who first second (ap (λ (b : BoxState). goal_at b first) (sym (turned.stepped.boxes who other)) ∙ is)
]

pub step_keeps_named : StepKeepsNamed
step_keeps_named world now next batches turn sound links comes goes = record {
  shape = shape_both next now world (step_keeps_shape now next turn sound goes) links.shape;
  named = λ who first second is. named_after world now next batches turn who first second links comes (step_turns now next turn sound goes) is;
}

run_by : (turns : List Turn) (world now next : WorldState) (batches : List (List Turn)) → IsSound now → LinksAreNamed world batches now → ComeFrom batches turns
    → run now turns ≡ Some next → LinksAreNamed world batches next
run_by [] world now next batches sound links come goes = let same : now ≡ next = cc in subst (λ (w : WorldState). LinksAreNamed world batches w) same links
run_by (turn ∷ turns) world now next batches sound links come goes =
    let one = then_some (λ (w : WorldState). run w turns) (step now turn) next goes in
    run_by turns world one.0 next batches (step_keeps_sound now one.0 turn sound one.1)
    (step_keeps_named world now one.0 batches turn sound links (All-head (ComesFrom batches) turn turns come) one.1) (All-tail (ComesFrom batches) turn turns come) one.2

pub run_keeps_named : RunKeepsNamed
run_keeps_named world now next batches turns sound links come goes = run_by turns world now next batches sound links come goes

-- ---- rings

-- numbers are of channels alone
number_same : (world now : WorldState) (who local : ℕ) → now.channels ≡ world.channels → number now who local ≡ number world who local
number_same world now who local same = ap (λ (c : List ChannelState). number (record world { channels = c }) who local) same

-- a link after a tunnel is a named one
next_joins : (world now : WorldState) (batches : List (List Turn)) (s t : ℕ) → IsSound now → LinksAreNamed world batches now → s < slot_count now → next_slot now s ≡ Some t
    → Joins world batches (far s) t
next_joins world now batches s t sound links inside is =
    let link = linked_with now (far s) t (goal_of now (far s)) is in
    record {
      who = (place now (far s)).0;
      first = (place now (far s)).1;
      second = link.0;
      near = sym (number_same world now (place now (far s)).0 (place now (far s)).1 links.shape.channels) ∙ sound.numbered.once (far s) (far_inside now s inside);
      beyond = sym (number_same world now (place now (far s)).0 link.0 links.shape.channels) ∙ link.2;
      named = links.named (place now (far s)).0 (place now (far s)).1 link.0 link.1;
    }

-- a slot on a ring begins a closed chain: it ends where the walk first comes back, so that no tunnel is in it twice
ring_closes : (world now : WorldState) (batches : List (List Turn)) (s : ℕ) → IsSound now → LinksAreNamed world batches now → s < slot_count now → (ring : IsOnRing now s)
    → ComesBackFirst (slots_from now s) ring.count → (at : ℕ → ℕ) × (count : ℕ) × (at 0 ≡ s) × ClosesChain world batches at count
ring_closes world now batches s sound links inside ring first =
    let chain = chain_from now ring.count s s sound inside ring.back in
    let there : (k : ℕ) → k < first.count → slots_from now s k < slot_count now =
    λ k below. after_inside now k s (slots_from now s k) sound inside (passes now ring.count k s s ring.back (omega (arith, below, first.within))) in (
      slots_from now s,
      first.count,
      refl,
      record {
        some = first.some;
        joins = λ k below. next_joins world now batches (slots_from now s k) (slots_from now s (suc k)) sound links (there k below) (chain.on k (omega (arith, below, first.within)));
        back = first.back;
        once = never_twice (partner_of now) (slots_from now s) ring.count chain first;
      },
    )

pub rings_are_named : RingsAreNamed
rings_are_named world now batches s sound links inside ring =
    ring_closes world now batches s sound links inside ring (first_way_back ring.count ring.some (ap (λ (o : Option ℕ). unwrap_or o 0) ring.back))
  where
    first_way_back : (count : ℕ) → 0 < count → slots_from now s count ≡ slots_from now s 0 → ComesBackFirst (slots_from now s) count
    first_way_back zero some back = absurd (omega (arith, some))
    first_way_back (suc more) some back =
        let sum : suc 0 + more ≡ suc more = omega arith in
        subst (ComesBackFirst (slots_from now s)) sum
        (back_first (slots_from now s) more 0 (λ k some below. absurd (omega (arith, some, below))) (subst (λ (n : ℕ). slots_from now s n ≡ slots_from now s 0) (sym sum) back))

-- ---- chains that close nothing

-- so many tunnels, each with a named link after it, lead from one slot to another, whether one of them comes twice or not
abbrev pub Leads : WorldState → List (List Turn) → (count s t : ℕ) → Type 0
Leads world batches zero s t = s ≡ t
Leads world batches (suc count) s t = (u : ℕ) × Joins world batches (far s) u × Leads world batches count u t

leads_on : (world : WorldState) (batches : List (List Turn)) (at : ℕ → ℕ) (count from : ℕ) → ((k : ℕ) → k < from + count → Joins world batches (far (at k)) (at (suc k)))
    → Leads world batches count (at from) (at (from + count))
leads_on world batches at zero from joins = let here : from ≡ from + 0 = omega arith in ap at here
leads_on world batches at (suc count) from joins =
    let sum : suc from + count ≡ from + suc count = omega arith in (
      at (suc from),
      joins from (omega arith),
      subst (λ (n : ℕ). Leads world batches count (at (suc from)) (at n)) sum (leads_on world batches at count (suc from) (λ k below. joins k (omega (arith, below)))),
    )

-- a closed chain leads back to where it begins, so none is closed where no such way leads back
pub no_way_closes : (world : WorldState) (batches : List (List Turn)) → ((s count : ℕ) → 0 < count → Leads world batches count s s → ⊥) → ClosesNoChain world batches
no_way_closes world batches none at count chain =
    let sum : 0 + count ≡ count = omega arith in
    let leads : Leads world batches count (at 0) (at (0 + count)) = leads_on world batches at count 0 (λ k below. chain.joins k (omega (arith, below))) in
    none (at 0) count chain.some (subst (λ (t : ℕ). Leads world batches count (at 0) t) (ap at sum ∙ chain.back) leads)

-- where no link is named, none closes a chain
pub unnamed_close_none : (world : WorldState) (batches : List (List Turn)) → ((who first second : ℕ) → NamesLink world batches who first second → ⊥) → ClosesNoChain world batches
unnamed_close_none world batches none at count chain =
    let one = chain.joins 0 chain.some in
    none one.who one.first one.second one.named

-- where named links close no chain
pub no_ring_closes : (world now : WorldState) (batches : List (List Turn)) (s : ℕ) → IsSound now → LinksAreNamed world batches now → ClosesNoChain world batches → s < slot_count now → IsOnRing now s → ⊥
no_ring_closes world now batches s sound links closes inside ring =
    let chain = rings_are_named world now batches s sound links inside ring in
    closes chain.0 chain.1 chain.3

pub named_links_close_none : NamedLinksCloseNone
named_links_close_none world now batches sound links closes = (
  has_by now None sound (λ s inside ring. no_ring_closes world now batches s sound links closes inside ring),
  λ at first. no_ring_closes world now batches at sound links closes first.inside first.on,
)

pub named_links_make_rings : NamedLinksMakeRings
named_links_make_rings world last turns batches sound come goes closes =
    (named_links_close_none world last batches (run_keeps_sound world last turns sound goes) (run_keeps_named world world last batches turns sound (first_named world batches) come goes) closes).0

-- ---- segments that settle or stop

-- what passes the test is among what the test keeps
kept_by : (b : Bool) (x turn : Turn) (rest : List Turn) → Contains rest turn → Contains (cond b (x ∷ rest) rest) turn
kept_by true x turn rest there = (suc there.0, omega (arith, there.1), there.2)
kept_by false x turn rest there = there

kept_first : (b : Bool) (x turn : Turn) (rest : List Turn) → b ≡ true → x ≡ turn → Contains (cond b (x ∷ rest) rest) turn
kept_first true x turn rest is same = (0, omega arith, same)
kept_first false x turn rest is same = absurd (cc)

is_kept : (p : Turn → Bool) (turns : List Turn) (turn : Turn) (k : ℕ) → k < length turns → get_or turns k turn ≡ turn → p turn ≡ true → Contains (filter p turns) turn
is_kept p [] turn k inside is passes = absurd (omega (arith, inside))
is_kept p (x ∷ turns) turn zero inside is passes = kept_first (p x) x turn (filter p turns) (ap p is ∙ passes) is
is_kept p (x ∷ turns) turn (suc k) inside is passes = kept_by (p x) x turn (filter p turns) (is_kept p turns turn k (omega (arith, inside)) is passes)

-- and what is kept was there
first_or_later : (x turn : Turn) (rest turns : List Turn) → (Contains rest turn → Contains turns turn) → (k : ℕ) → k < length (x ∷ rest) → get_or (x ∷ rest) k turn ≡ turn → Contains (x ∷ turns) turn
first_or_later x turn rest turns later zero inside is = (0, omega arith, is)
first_or_later x turn rest turns later (suc k) inside is = let there = later (k, omega (arith, inside), is) in (suc there.0, omega (arith, there.1), there.2)

was_by : (b : Bool) (x turn : Turn) (rest turns : List Turn) → (Contains rest turn → Contains turns turn) → Contains (cond b (x ∷ rest) rest) turn → Contains (x ∷ turns) turn
was_by true x turn rest turns later there = first_or_later x turn rest turns later there.0 there.1 there.2
was_by false x turn rest turns later there = let one = later there in (suc one.0, omega (arith, one.1), one.2)

was_there : (p : Turn → Bool) (turns : List Turn) (turn : Turn) → Contains (filter p turns) turn → Contains turns turn
was_there p [] turn there = there
was_there p (x ∷ turns) turn there = was_by (p x) x turn (filter p turns) turns (was_there p turns turn) there

was_taken : (n : ℕ) (turns : List Turn) (turn : Turn) → Contains (take n turns) turn → Contains turns turn
was_taken zero turns turn there = absurd (omega (arith, there.1))
was_taken (suc n) [] turn there = there
was_taken (suc n) (x ∷ turns) turn there = first_or_later x turn (take n turns) turns (was_taken n turns turn) there.0 there.1 there.2

both_true : (a b : Bool) → a ≡ true → b ≡ true → (a && b) ≡ true
both_true a b one two = rw (one, two) refl

-- a command of the turns is among its box's, and so, where these are all of a batch, of the batch
of_batch : (batch turns : List Turn) (turn : Turn) → ((t : Turn) → Contains (commands_of turn.who turns) t → Contains (commands_of turn.who batch) t) → Contains turns turn → is_command turn.event ≡ true
    → Contains batch turn
of_batch batch turns turn within there command =
    was_there (λ (t : Turn). is_command t.event && t.who == turn.who) batch turn
    (within turn (is_kept (λ (t : Turn). is_command t.event && t.who == turn.who) turns turn there.0 there.1 there.2
    (both_true (is_command turn.event) (turn.who == turn.who) command (eq-eqb turn.who turn.who refl))))

come_by : (batches : List (List Turn)) (batch turns : List Turn) → Contains batches batch → ((who : ℕ) (turn : Turn) → Contains (commands_of who turns) turn → Contains (commands_of who batch) turn)
    → ComeFrom batches turns
come_by batches batch turns among within k d inside command =
    (among.0, batch, among.1, among.2, of_batch batch turns (get_or turns k d) (within (get_or turns k d).who) (All-contains_itself turns k d inside) command)

-- turns whose commands, box by box, are the first of a batch come from it
pub stopped_come : (batches : List (List Turn)) (batch turns : List Turn) → Contains batches batch
    → ((who : ℕ) → commands_of who turns ≡ take (length (commands_of who turns)) (commands_of who batch)) → ComeFrom batches turns
stopped_come batches batch turns among same =
    come_by batches batch turns among (λ who turn there. was_taken (length (commands_of who turns)) (commands_of who batch) turn (subst (λ (l : List Turn). Contains l turn) (same who) there))

-- and so do those that use the batch up
pub used_up_come : (batches : List (List Turn)) (batch turns : List Turn) → Contains batches batch → ((who : ℕ) → commands_of who turns ≡ commands_of who batch) → ComeFrom batches turns
used_up_come batches batch turns among same = come_by batches batch turns among (λ who turn there. subst (λ (l : List Turn). Contains l turn) (same who) there)

-- so segments leave links named, whether they settle
pub settled_keeps_named : (world now last : WorldState) (batches : List (List Turn)) (batch turns : List Turn) → IsSound now → LinksAreNamed world batches now → Contains batches batch
    → IsSettled now batch turns last → LinksAreNamed world batches last
settled_keeps_named world now last batches batch turns sound links among settled =
    run_keeps_named world now last batches turns sound links (used_up_come batches batch turns among settled.commands) settled.runs

-- or stop
pub stopped_keeps_named : (world now last : WorldState) (batches : List (List Turn)) (batch turns : List Turn) → IsSound now → LinksAreNamed world batches now → Contains batches batch
    → IsStopped now batch turns last → LinksAreNamed world batches last
stopped_keeps_named world now last batches batch turns sound links among stopped =
    run_keeps_named world now last batches turns sound links (stopped_come batches batch turns among stopped.commands) stopped.runs
