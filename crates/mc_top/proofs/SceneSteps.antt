-- Settled segments of a world in which one box has a program, seen as worlds that are written out.
use Rattle.std.proofs.Common.{◌≡◌, ◌≢◌, ◌<◌, ℕ, false, List, [], ◌∷◌, Option, Some, None, IsTrue, All, inl, inr, refl, ap, sym, ◌∙◌, subst}
use Rattle.std.specs.List.{slice_get}
use Rattle.std.specs.Option.{unwrap_or}
use Rattle.std.proofs.lemmas.Bool.{cases_eq}
use Rattle.std.proofs.lemmas.Option.{get_or_from_slice_get, slice_get_within}
use Rattle.mc_rule.specs.Programs.{ProgStateState}
use Rattle.mc_signal.specs.Choice.{codecs_of}
use Rattle.mc_slot.specs.EndTurn.{owes_in}
use Rattle.mc_slot.specs.declared.Goal.{Goal}
use Rattle.mc_slot.specs.declared.Goal.TheVariants.{Open as ToOpen, Hold as ToHold, Close as ToClose}
use Rattle.mc_slot.specs.declared.Slot.{Slot}
use Rattle.mc_slot.specs.declared.SlotGoal.{SlotGoal}
use Rattle.mc_slot.specs.declared.SlotGoal.TheVariants.{End, Link}
use Rattle.mc_slot.specs.declared.State.{State}
use Rattle.mc_slot.specs.declared.State.TheVariants.{Closed, Opening, Opened, Flowing, Closing}
use Rattle.mc_box.specs.BoxEvents.{turn_of}
use Rattle.mc_box.specs.Boxes.{BoxState, slot_owes}
use Rattle.mc_box.specs.declared.event.Event.TheVariants.{Tell}
use Rattle.mc_box.specs.declared.event.Turn.{Turn}
use Rattle.mc_laws.proofs.ShapesKept.{run_keeps_shape}
use Rattle.mc_laws.proofs.StepKeeps.{run_keeps_sound}
use Rattle.mc_model.specs.PathTable.{PathHolds, path_state, table}
use Rattle.mc_model.specs.Paths.{PathEnds, end_goal, end_goal_of, paths}
use Rattle.mc_model.specs.Settles.{IsSettled, commands_of, is_quiet, rests}
use Rattle.mc_model.specs.Sound.{IsSound}
use Rattle.mc_model.specs.Steps.{run}
use Rattle.mc_model.specs.Worlds.{WorldState, box_at, far, goal_of, slot_count, slot_of}
use Rattle.mc_path_laws.specs.PathLaws.{AreIn}
use Rattle.mc_path_laws.proofs.SettledHold.{settled_paths_hold}
use Rattle.mc_program_laws.specs.Held.{TunnelFlows, stays_open}
use Rattle.mc_program_laws.specs.Told.{AwaitsWord, IsOnlyProgram, LeadsTo, OwesNoRetry, ShiftsFirst, ProgramStands, settings_in}
use Rattle.mc_program_laws.proofs.HeldTunnels.{held_tunnels_flow_on}
use Rattle.mc_program_laws.proofs.ToldWords.{told_word_leads}
use Rattle.mc_program_laws.proofs.Untold.{begins_at_first, unprogrammed_follows, untold_stays}
use Rattle.mc_settings.specs.Settings.{Settings, set_by_all, settings_of}
use Rattle.mc_top.proofs.SeenAlike.{AreSeenAlike, count_seen, goal_seen, paths_seen}

-- ---- one segment

-- a sound world that is seen as one that is written out, and in which no box but this one has a program
pub record IsSeenAs (world ref : WorldState) (feature : ℕ) : Type 0 where
  pub sound : IsSound world
  pub seen : AreSeenAlike world ref
  pub only : IsOnlyProgram world feature

-- boxes of one kind, with lists of the same codecs
pub record HaveSameLists (box other : BoxState) : Type 0 where
  pub kind : box.kind ≡ other.kind
  pub receives : codecs_of box.receives ≡ codecs_of other.receives
  pub sends : codecs_of box.sends ≡ codecs_of other.sends

-- of two worlds that are written out the second is what a batch makes of the first, but for the settings of one box
pub record Leads (ref next : WorldState) (batch : List Turn) (feature : ℕ) : Type 0 where
  pub channels : next.channels ≡ ref.channels
  pub lists : (k : ℕ) → HaveSameLists (box_at next k) (box_at ref k)
  pub set : (k : ℕ) → k ≢ feature → set_by_all (commands_of k batch) (settings_of (box_at ref k)) ≡ settings_of (box_at next k)

-- after a settled segment the world is seen as the second one, if it has the settings of that box
seen_next : (world last ref next : WorldState) (batch turns : List Turn) (feature : ℕ) → IsSeenAs world ref feature → Leads ref next batch feature → IsSettled world batch turns last
    → settings_of (box_at last feature) ≡ settings_of (box_at next feature) → IsSeenAs last next feature
seen_next world last ref next batch turns feature seen_as leads settled set =
    let shape = run_keeps_shape world last turns seen_as.sound settled.runs in
    record {
      sound = run_keeps_sound world last turns seen_as.sound settled.runs;
      seen = record {
        channels = shape.channels ∙ (seen_as.seen.channels ∙ sym leads.channels);
        boxes = λ k. record {
          kind = (shape.alike k).kind ∙ ((seen_as.seen.boxes k).kind ∙ sym (leads.lists k).kind);
          receives = ap codecs_of (shape.alike k).receives ∙ ((seen_as.seen.boxes k).receives ∙ sym (leads.lists k).receives);
          sends = ap codecs_of (shape.alike k).sends ∙ ((seen_as.seen.boxes k).sends ∙ sym (leads.lists k).sends);
          settings = settings_next k;
        };
      };
      only = λ other apart. (shape.alike other).program ∙ seen_as.only other apart;
    }
  where
    settings_next : (k : ℕ) → settings_of (box_at last k) ≡ settings_of (box_at next k)
    settings_next k = elim (cases_eq k feature) [
      | inl same ↦ subst (λ (n : ℕ). settings_of (box_at last n) ≡ settings_of (box_at next n)) (sym same) set
      | inr other ↦
          unprogrammed_follows world last turns k seen_as.sound (seen_as.only k other) settled.runs
          ∙ (ap (λ (l : List Turn). set_by_all l (settings_of (box_at world k))) (settled.commands k)
          ∙ (ap (set_by_all (commands_of k batch)) (seen_as.seen.boxes k).settings ∙ leads.set k other))
    ]

-- ---- settled worlds

-- after a settled segment a world is seen so, and its program stands at this state, with these settings
pub record SettledAs (last ref : WorldState) (feature : ℕ) (states : List ProgStateState) (settings : Settings) (at : ℕ) : Type 0 where
  pub seen_as : IsSeenAs last ref feature
  pub stands : ProgramStands (box_at last feature) states (Some at) None settings
  pub rest : IsTrue (rests last)
  pub holds : All (PathHolds last) (paths last)

settled_as : (world last ref next : WorldState) (batch turns : List Turn) (feature : ℕ) (states : List ProgStateState) (settings : Settings) (at : ℕ) → IsSeenAs world ref feature
    → Leads ref next batch feature → IsSettled world batch turns last → ProgramStands (box_at last feature) states (Some at) None settings → settings ≡ settings_of (box_at next feature)
    → SettledAs last next feature states settings at
settled_as world last ref next batch turns feature states settings at seen_as leads settled stands is = record {
  seen_as = seen_next world last ref next batch turns feature seen_as leads settled (stands.set ∙ is);
  stands = stands;
  rest = settled.at_rest;
  holds = settled_paths_hold world last batch turns seen_as.sound settled;
}

-- the first segment, in which the program begins
pub first_settled : (world last ref next : WorldState) (batch turns : List Turn) (feature : ℕ) (states : List ProgStateState) (settings : Settings) → IsSeenAs world ref feature
    → ProgramStands (box_at world feature) states None None settings → AwaitsWord states 0 → commands_of feature batch ≡ [] → Leads ref next batch feature
    → settings_in states settings.media 0 ≡ settings_of (box_at next feature) → IsSettled world batch turns last
    → SettledAs last next feature states (settings_in states settings.media 0) 0
first_settled world last ref next batch turns feature states settings seen_as stands awaits none leads is settled =
    settled_as world last ref next batch turns feature states (settings_in states settings.media 0) 0 seen_as leads settled
    (begins_at_first world last batch turns feature states settings seen_as.sound awaits stands none settled) is

-- a segment without a Tell
pub untold_settled : (world last ref next : WorldState) (batch turns : List Turn) (feature : ℕ) (states : List ProgStateState) (settings : Settings) (at : ℕ)
    → SettledAs world ref feature states settings at → AwaitsWord states at → commands_of feature batch ≡ [] → Leads ref next batch feature → settings ≡ settings_of (box_at next feature)
    → IsSettled world batch turns last → SettledAs last next feature states settings at
untold_settled world last ref next batch turns feature states settings at now awaits none leads is settled =
    settled_as world last ref next batch turns feature states settings at now.seen_as leads settled
    (untold_stays world last turns feature at states settings now.seen_as.sound awaits now.stands (settled.commands feature ∙ none) settled.runs) is

-- the segment of one Tell
pub told_settled : (world last ref next : WorldState) (turns : List Turn) (feature word : ℕ) (states : List ProgStateState) (settings : Settings) (at target : ℕ)
    → SettledAs world ref feature states settings at → OwesNoRetry world → LeadsTo states at word target → AwaitsWord states target → Leads ref next (turn_of feature (Tell word) ∷ []) feature
    → settings_in states settings.media target ≡ settings_of (box_at next feature) → IsSettled world (turn_of feature (Tell word) ∷ []) turns last
    → ShiftsFirst feature word turns × SettledAs last next feature states (settings_in states settings.media target) target
told_settled world last ref next turns feature word states settings at target now owes to awaits leads is settled =
    let led = told_word_leads world last turns feature word at target states settings now.seen_as.sound now.rest owes now.seen_as.only now.stands to awaits settled in
    (led.0, settled_as world last ref next (turn_of feature (Tell word) ∷ []) turns feature states (settings_in states settings.media target) target now.seen_as leads settled led.1 is)

-- ---- paths

-- the goals at the ends of a path, as they are seen
table_seen : (last ref : WorldState) (path : PathEnds) → AreSeenAlike last ref → table (end_goal last path.low) (end_goal last path.high) ≡ table (end_goal ref path.low) (end_goal ref path.high)
table_seen last ref path seen =
    ap (λ (goal : Goal). table goal (end_goal last path.high)) (ap end_goal_of (goal_seen last ref path.low seen))
    ∙ ap (table (end_goal ref path.low)) (ap end_goal_of (goal_seen last ref path.high seen))

-- so where the table has an answer, the path is in that state
pub state_seen : (last ref : WorldState) (path : PathEnds) (state : State) → AreSeenAlike last ref → table (end_goal ref path.low) (end_goal ref path.high) ≡ Some state → path_state last path ≡ state
state_seen last ref path state seen is = ap (λ (answer : Option State). unwrap_or answer (slot_of last path.low).state) (table_seen last ref path seen ∙ is)

-- and where it leaves two, in that of its lower end
pub state_held : (last ref : WorldState) (path : PathEnds) → AreSeenAlike last ref → table (end_goal ref path.low) (end_goal ref path.high) ≡ None → path_state last path ≡ (slot_of last path.low).state
state_held last ref path seen none = ap (λ (answer : Option State). unwrap_or answer (slot_of last path.low).state) (table_seen last ref path seen ∙ none)

-- both ends of a path that the table decides
pub ends_in : (last ref : WorldState) (path : PathEnds) (k : ℕ) (state : State) → AreSeenAlike last ref → All (PathHolds last) (paths last) → slice_get (paths ref) k ≡ Some path
    → table (end_goal ref path.low) (end_goal ref path.high) ≡ Some state → AreIn last path state
ends_in last ref path k state seen holds at is =
    let here : slice_get (paths last) k ≡ Some path = ap (λ (list : List PathEnds). slice_get list k) (paths_seen last ref seen) ∙ at in
    let path_holds : PathHolds last path =
    subst (PathHolds last) (get_or_from_slice_get (paths last) k path path here) (holds k path (slice_get_within (paths last) k path here)) in
    let same = state_seen last ref path state seen is in
    record { low = path_holds.low ∙ same; high = path_holds.high ∙ same }

-- ---- retries

hold_owes_none : (state : State) → owes_in ToHold state ≡ false
hold_owes_none Closed = refl
hold_owes_none Opening = refl
hold_owes_none Opened = refl
hold_owes_none Flowing = refl
hold_owes_none Closing = refl

close_owes_none : (state : State) → owes_in ToClose state ≡ false
close_owes_none Closed = refl
close_owes_none Opening = refl
close_owes_none Opened = refl
close_owes_none Flowing = refl
close_owes_none Closing = refl

owes_by_goal : (goal : SlotGoal) (slot : Slot) → (goal ≡ End ToOpen → slot.state ≡ Flowing) → slot_owes goal slot ≡ false
owes_by_goal (End ToOpen) slot flows = ap (owes_in ToOpen) (flows refl)
owes_by_goal (End ToHold) slot flows = hold_owes_none slot.state
owes_by_goal (End ToClose) slot flows = close_owes_none slot.state
owes_by_goal (Link partner) slot flows = refl

-- where each end that opens flows, no retry is owed
pub none_owed : (last ref : WorldState) → AreSeenAlike last ref → ((s : ℕ) → s < slot_count ref → goal_of ref s ≡ End ToOpen → (slot_of last s).state ≡ Flowing) → OwesNoRetry last
none_owed last ref seen flows s inside =
    owes_by_goal (goal_of last s) (slot_of last s)
    (λ opens. flows s (subst (λ (n : ℕ). s < n) (count_seen last ref seen) inside) (sym (goal_seen last ref s seen) ∙ opens))

-- ---- held tunnels

-- a tunnel one of whose slots flowed before a Tell, and whose slots both hold after it, flows on
pub held_on : (world last ref next : WorldState) (turns : List Turn) (feature word s : ℕ) → IsSeenAs world ref feature → IsTrue (is_quiet world) → ShiftsFirst feature word turns
    → run world turns ≡ Some last → AreSeenAlike last next → s < slot_count ref → (slot_of world s).state ≡ Flowing → goal_of next s ≡ End ToHold → goal_of next (far s) ≡ End ToHold
    → TunnelFlows last s
held_on world last ref next turns feature word s seen_as quiet shifts goes seen inside flows holds far_holds =
    held_tunnels_flow_on world last feature word s shifts.rest seen_as.sound quiet (subst (λ (n : ℕ). s < n) (sym (count_seen world ref seen_as.seen)) inside) flows shifts.besides
    (subst (λ (all : List Turn). run world all ≡ Some last) shifts.are goes)
    (record { near = ap stays_open (goal_seen last next s seen ∙ holds); away = ap stays_open (goal_seen last next (far s) seen ∙ far_holds) })
