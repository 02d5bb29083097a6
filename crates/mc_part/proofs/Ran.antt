-- What a part makes in one go, and in two.
use Rattle.std.proofs.Common.{◌≡◌, ◌<◌, ◌≤◌, ◌+◌, max, ℕ, IsTrue, List, [], ◌∷◌, ◌++◌, length, map, set, refl, ap, sym, ◌∙◌, subst, arith, Bool, slice_get, Some, Vec, Global}
use Rattle.std.specs.List.{AllByRecursion}
use Rattle.std.proofs.lemmas.Grind.{common_steps}
use Rattle.std.proofs.lemmas.List.{append-nil, append_assoc, length-append, length-map, map-append}
use Rattle.mc_box.specs.BoxEvents.{is_command}
use Rattle.mc_box.specs.declared.event.Event.{Event}
use Rattle.mc_box.specs.declared.event.Event.TheVariants.{Take, Retry, Shift}
use Rattle.mc_box.specs.declared.event.Turn.{Turn}
use Rattle.mc_box.specs.declared.limit.TheConstants.{SHIFT_LIMIT}
use Rattle.mc_model.specs.Worlds.{ChannelState, WorldState, channel_number_limit}
use Rattle.mc_merge.specs.Account.{IsPartWork, PartState}
use Rattle.mc_merge.specs.Clocks.{IsClocked}
use Rattle.mc_merge.specs.Turns.{no_items}
use Rattle.mc_merge.specs.Uses.{AreOwnUses}
use Rattle.mc_merge.specs.Wholes.{made_of}
use Rattle.mc_merge.specs.declared.log.Made.{Made}
use Rattle.mc_merge.proofs.Usage.{own_uses_as, own_uses_join, uses_begin}
use Rattle.mc_port.specs.declared.stamped.Stamped.{Stamped}
use Rattle.mc_part.specs.Parts.{HasRun, IsWithin, LeadsAway, Runs, TurnsOnce, no_retries, ports_of, shifts_of, state_of, tables_of, uses_of}
use Rattle.mc_part.specs.Ports.{LeadAway, given_at, received_at, rings_of, sides}
use Rattle.mc_part.specs.Spans.{HasSpanned}
use Rattle.mc_part.specs.declared.limit.TheConstants.{STAMP_LIMIT}
use Rattle.mc_part.specs.declared.part.Part.{Part}
use Rattle.mc_part.specs.declared.port.Port.{Port}
use Rattle.mc_part.proofs.Spanning.{nothing_is_span, nothing_is_work, spans_join}
use Rattle.mc_part.proofs.Uses.{IsIdle, command_uses, once_at, retry_uses, shift_uses, take_uses}

-- ---- nothing at all

same_part : (a b : Part) → IsIdle a b → record b { used = a.used; commands = a.commands; shifts = a.shifts } ≡ b
same_part a b idle =
    ap (λ (n : ℕ). record b { used = n; commands = a.commands; shifts = a.shifts }) (sym idle.used)
    ∙ (ap (λ (v : Vec Turn Global). record b { used = b.used; commands = v; shifts = a.shifts }) (sym idle.commands) ∙ ap (λ (v : Vec ℕ Global). record b { used = b.used; commands = b.commands; shifts = v }) (sym idle.shifts))

pub no_uses : (a b : Part) → IsWithin a → IsIdle a b → AreOwnUses [] (uses_of a no_retries) (uses_of b no_retries)
no_uses a b within idle =
    subst (λ (p : Part). AreOwnUses [] (uses_of a no_retries) (uses_of p no_retries)) (same_part a b idle) (uses_begin (uses_of a no_retries) within.shifts (λ at local. refl))

-- a part at which nothing has changed but the room of its log, and what ports know
pub record IsStill (a b : Part) : Type 0 where
  pub state : state_of b ≡ state_of a
  pub channels : b.engine.channels ≡ a.engine.channels
  pub log : b.log.items ≡ a.log.items
  pub idle : IsIdle a b
  pub received : (lane : ℕ) → received_at b.ports.items lane ≡ received_at a.ports.items lane
  pub given : (lane : ℕ) → given_at b.ports.items lane ≡ given_at a.ports.items lane
  pub sides : sides b.ports.items ≡ sides a.ports.items
  pub rings : map rings_of b.ports.items ≡ map rings_of a.ports.items

pub still_run : (a b : Part) → IsWithin a → IsStill a b → HasRun a b no_items no_items no_retries
still_run a b within still = record {
  log = [];
  spanned = record {
    work = subst (λ (s : PartState). IsPartWork (tables_of a) (state_of a) s [] no_items no_items) (sym still.state) (nothing_is_work (tables_of a) (state_of a));
    clocked = subst (λ (s : PartState). IsClocked (state_of a) s [] no_items no_items) (sym still.state) (nothing_is_span (tables_of a) (state_of a) (ports_of a)).clocked;
    known = tt;
    received = λ lane. still.received lane ∙ sym (append-nil (received_at a.ports.items lane));
    given = λ lane. still.given lane ∙ sym (append-nil (given_at a.ports.items lane));
  };
  channels = still.channels;
  logged = still.log ∙ sym (append-nil a.log.items);
  uses = no_uses a b within still.idle;
  commands = still.idle.commands;
  sides = still.sides;
  rings = still.rings;
}

pub idle : (a : Part) → IsIdle a a
idle a = record { used = refl; commands = refl; shifts = refl }

-- no work of a part at all, whatever else it keeps
pub runs_nothing : (a : Part) → ((who : ℕ) → shifts_of a who ≤ SHIFT_LIMIT) → Runs a a no_retries
runs_nothing a few = record {
  gave = no_items;
  put = no_items;
  run = record {
    log = [];
    spanned = nothing_is_span (tables_of a) (state_of a) (ports_of a);
    channels = refl;
    logged = sym (append-nil a.log.items);
    uses = uses_begin (uses_of a no_retries) few (λ at local. refl);
    commands = refl;
    sides = refl;
    rings = refl;
  };
}

pub runs_none : (a : Part) → IsWithin a → Runs a a no_retries
runs_none a within = record {
  gave = no_items;
  put = no_items;
  run = still_run a a within (record { state = refl; channels = refl; log = refl; idle = idle a; received = λ lane. refl; given = λ lane. refl; sides = refl; rings = refl });
}

-- a turn that wasn't made changes only the room of the log
pub failed : (a b : Part) → IsWithin a → b ≡ record a { log = b.log } → b.log.items ≡ a.log.items → Runs a b no_retries
failed a b within kept log = subst (λ (p : Part). Runs a p no_retries) (sym kept) (record {
  gave = no_items;
  put = no_items;
  run = still_run a (record a { log = b.log }) within (record {
    state = refl;
    channels = refl;
    log = log;
    idle = record { used = refl; commands = refl; shifts = refl };
    received = λ lane. refl;
    given = λ lane. refl;
    sides = refl;
    rings = refl;
  });
})

-- ---- one turn

-- what a turn has made, once it is counted
pub record IsCounted (a b c : Part) : Type 0 where
  pub state : state_of c ≡ state_of b
  pub channels : c.engine.channels ≡ b.engine.channels
  pub log : c.log.items ≡ b.log.items
  pub ports : c.ports ≡ a.ports
  pub commands : c.commands ≡ a.commands

once_run : (a b c : Part) (who : ℕ) (event : Event) (retries : ℕ → ℕ → ℕ) (turn : TurnsOnce a b who event) → IsCounted a b c → AreOwnUses (turn.own ∷ []) (uses_of a no_retries) (uses_of c retries) → Runs a c retries
once_run a b c who event retries turn counted uses = record {
  gave = no_items;
  put = no_items;
  run = record {
    log = turn.own ∷ [];
    spanned = record {
      work = subst (λ (s : PartState). IsPartWork (tables_of a) (state_of a) s (turn.own ∷ []) no_items no_items) (sym counted.state) turn.work;
      clocked = subst (λ (s : PartState). IsClocked (state_of a) s (turn.own ∷ []) no_items no_items) (sym counted.state) turn.clocked;
      known = (turn.here, tt);
      received = λ lane. ap (λ (p : Vec Port Global). received_at p.items lane) counted.ports ∙ sym (append-nil (received_at a.ports.items lane));
      given = λ lane. ap (λ (p : Vec Port Global). given_at p.items lane) counted.ports ∙ sym (append-nil (given_at a.ports.items lane));
    };
    channels = counted.channels ∙ turn.channels;
    logged = counted.log ∙ turn.log;
    uses = uses;
    commands = counted.commands;
    sides = ap (λ (p : Vec Port Global). sides p.items) counted.ports;
    rings = ap (λ (p : Vec Port Global). map rings_of p.items) counted.ports;
  };
}

idle_kept : (a b : Part) (who : ℕ) (event : Event) → TurnsOnce a b who event → IsIdle a b
idle_kept a b who event turn = record { used = ap (λ (p : Part). p.used) turn.kept; commands = ap (λ (p : Part). p.commands) turn.kept; shifts = ap (λ (p : Part). p.shifts) turn.kept }

pub command_run : (a b : Part) (turn : Turn) → IsWithin a → slice_get a.commands.items a.used ≡ Some turn → IsTrue (is_command turn.event) → TurnsOnce a b turn.who turn.event → Runs a (record b { used = a.used + 1 }) no_retries
command_run a b turn within next is once =
    let same = idle_kept a b turn.who turn.event once in
    once_run a b (record b { used = a.used + 1 }) turn.who turn.event no_retries once
    (record { state = refl; channels = refl; log = refl; ports = ap (λ (p : Part). p.ports) once.kept; commands = same.commands })
    (command_uses a (record b { used = a.used + 1 }) once.own turn within next is once.box once.event_is refl same.commands same.shifts)

pub take_run : (a b : Part) (who local : ℕ) → IsWithin a → TurnsOnce a b who (Take local) → Runs a b no_retries
take_run a b who local within once =
    let same = idle_kept a b who (Take local) once in
    once_run a b b who (Take local) no_retries once
    (record { state = refl; channels = refl; log = refl; ports = ap (λ (p : Part). p.ports) once.kept; commands = same.commands })
    (take_uses a b once.own local within once.event_is same)

pub shift_run : (a b : Part) (who : ℕ) (shifts : Vec ℕ Global) → IsWithin a → shifts.items ≡ set a.shifts.items who (shifts_of a who + 1) → shifts_of a who < SHIFT_LIMIT → TurnsOnce a b who Shift
    → Runs a (record b { shifts = shifts }) no_retries
shift_run a b who shifts within counted fewer once =
    let same = idle_kept a b who Shift once in
    let inside : who < length a.shifts.items = subst (λ (n : ℕ). who < n) (sym within.counts) (subst (λ (n : ℕ). n < length a.engine.boxes) once.box once.here) in
    once_run a b (record b { shifts = shifts }) who Shift no_retries once
    (record { state = refl; channels = refl; log = refl; ports = ap (λ (p : Part). p.ports) once.kept; commands = same.commands })
    (shift_uses a (record b { shifts = shifts }) once.own who within once.box once.event_is same.used same.commands counted inside fewer)

pub retry_run : (a b : Part) (who local : ℕ) → IsWithin a → TurnsOnce a b who (Retry local) → Runs a b (once_at who local)
retry_run a b who local within once =
    let same = idle_kept a b who (Retry local) once in
    once_run a b b who (Retry local) (once_at who local) once
    (record { state = refl; channels = refl; log = refl; ports = ap (λ (p : Part). p.ports) once.kept; commands = same.commands })
    (retry_uses a b once.own who local within once.box once.event_is same)

-- ---- two goes

runs_join : (a b c : Part) (gave put gave_2 put_2 : ℕ → List Stamped) (retries retries_2 : ℕ → ℕ → ℕ) → HasRun a b gave put retries → HasRun b c gave_2 put_2 retries_2
    → HasRun a c (λ lane. gave lane ++ gave_2 lane) (λ lane. put lane ++ put_2 lane) (λ at local. retries at local + retries_2 at local)
runs_join a b c gave put gave_2 put_2 retries retries_2 one two =
    let tables : tables_of b ≡ tables_of a = ap (λ (channels : List ChannelState). record { boxes = []; channels = channels; lanes = [] }) one.channels in
    record {
      log = one.log ++ two.log;
      spanned = spans_join (tables_of a) (state_of a) (state_of b) (state_of c) (ports_of a) (ports_of b) (ports_of c) one.log two.log gave gave_2 put put_2 one.spanned
          (subst (λ (tables : WorldState). HasSpanned tables (state_of b) (state_of c) (ports_of b) (ports_of c) two.log gave_2 put_2) tables two.spanned);
      channels = two.channels ∙ one.channels;
      logged = two.logged
          ∙ (ap (λ (l : List Made). l ++ map made_of two.log) one.logged
          ∙ (append_assoc a.log.items (map made_of one.log) (map made_of two.log) ∙ ap (λ (l : List Made). a.log.items ++ l) (sym (map-append made_of one.log two.log))));
      uses = own_uses_join one.log two.log (uses_of a no_retries) (uses_of b retries) (uses_of c retries_2) one.uses two.uses;
      commands = two.commands ∙ one.commands;
      sides = two.sides ∙ one.sides;
      rings = two.rings ∙ one.rings;
    }

pub runs_sum : (a b c : Part) (retries retries_2 : ℕ → ℕ → ℕ) → Runs a b retries → Runs b c retries_2 → Runs a c (λ at local. retries at local + retries_2 at local)
runs_sum a b c retries retries_2 one two = record {
  gave = λ lane. one.gave lane ++ two.gave lane;
  put = λ lane. one.put lane ++ two.put lane;
  run = runs_join a b c one.gave one.put two.gave two.put retries retries_2 one.run two.run;
}

-- with retries that are as many
pub runs_as : (a b : Part) (retries retries_2 : ℕ → ℕ → ℕ) → ((at local : ℕ) → retries at local ≡ retries_2 at local) → Runs a b retries → Runs a b retries_2
runs_as a b retries retries_2 same runs = record {
  gave = runs.gave;
  put = runs.put;
  run = record {
    log = runs.run.log;
    spanned = runs.run.spanned;
    channels = runs.run.channels;
    logged = runs.run.logged;
    uses = own_uses_as runs.run.log (uses_of a no_retries) (uses_of b retries) retries_2 same runs.run.uses;
    commands = runs.run.commands;
    sides = runs.run.sides;
    rings = runs.run.rings;
  };
}

pub runs_on : (a b c : Part) → Runs a b no_retries → Runs b c no_retries → Runs a c no_retries
runs_on a b c one two = runs_sum a b c no_retries no_retries one two

-- it has as many ports
pub run_ports : (a b : Part) (retries : ℕ → ℕ → ℕ) → Runs a b retries → length b.ports.items ≡ length a.ports.items
run_ports a b retries runs = sym (length-map b.ports.items (λ (p : Port). p.starts_here)) ∙ (ap (λ (l : List Bool). length l) runs.run.sides ∙ length-map a.ports.items (λ (p : Port). p.starts_here))

-- ports lead away from it still
pub still_away : (a b : Part) (retries : ℕ → ℕ → ℕ) → Runs a b retries → LeadsAway a → LeadsAway b
still_away a b retries runs away =
    let boxes : length b.engine.boxes ≡ length a.engine.boxes = runs.run.spanned.work.box_count in
    subst (λ (n : ℕ). LeadAway (tables_of b) n (sides b.ports.items)) (sym boxes)
    (subst (λ (l : List Bool). LeadAway (tables_of b) (length a.engine.boxes) l) (sym runs.run.sides)
    (subst (λ (channels : List ChannelState). LeadAway (record { boxes = []; channels = channels; lanes = [] }) (length a.engine.boxes) (sides a.ports.items)) (sym runs.run.channels) away))

-- ---- stamps and counts

most_of : (m n k : ℕ) → m ≤ k → n ≤ k → max m n ≤ k
most_of m n k one two = grind (arith, common_steps)

one_longer : (log : List Made) (made : Made) → length (log ++ made ∷ []) ≡ length log + 1
one_longer log made = length-append log (made ∷ [])

pub once_longer : (a b : Part) (who : ℕ) (event : Event) → TurnsOnce a b who event → length b.log.items ≡ length a.log.items + 1
once_longer a b who event turn = ap (λ (l : List Made). length l) turn.log ∙ one_longer a.log.items (made_of turn.own)

-- after a turn, whatever is counted of it
pub once_within : (a b c : Part) (who : ℕ) (event : Event) (retries : ℕ → ℕ → ℕ) → IsWithin a → TurnsOnce a b who event → c.stamp ≡ b.stamp → c.heard ≡ b.heard → c.log.items ≡ b.log.items → length c.shifts.items ≡ length a.shifts.items
    → Runs a c retries → IsWithin c
once_within a b c who event retries within turn stamp heard log counts runs =
    let more : length c.log.items ≡ length a.log.items + 1 = ap (λ (l : List Made). length l) log ∙ once_longer a b who event turn in
    let most : max a.stamp a.heard ≤ STAMP_LIMIT + length a.log.items = most_of a.stamp a.heard (STAMP_LIMIT + length a.log.items) within.stamp (omega (arith, within.heard)) in
    record {
      stamp = omega (arith, stamp, turn.stamp, most, more);
      heard = subst (λ (n : ℕ). n ≤ STAMP_LIMIT) (sym (heard ∙ ap (λ (p : Part). p.heard) turn.kept)) within.heard;
      counts = counts ∙ (within.counts ∙ sym runs.run.spanned.work.box_count);
      shifts = λ who. (runs.run.uses who).few;
      commands = subst (λ (v : Vec Turn Global). AllByRecursion (λ (turn : Turn). IsTrue (is_command turn.event)) v.items) (sym runs.run.commands) within.commands;
      ports = subst (λ (n : ℕ). n ≤ channel_number_limit) (sym (run_ports a c retries runs)) within.ports;
    }

-- and where there was none
pub none_within : (a b : Part) → IsWithin a → b ≡ record a { log = b.log } → b.log.items ≡ a.log.items → IsWithin b
none_within a b within kept log = subst (λ (p : Part). IsWithin p) (sym kept) (record {
  stamp = subst (λ (l : List Made). a.stamp ≤ STAMP_LIMIT + length l) (sym log) within.stamp;
  heard = within.heard;
  counts = within.counts;
  shifts = within.shifts;
  commands = within.commands;
  ports = within.ports;
})
