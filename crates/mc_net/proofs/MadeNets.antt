-- All of a network's world has names, and it allows each command. There are no more batches than commands may be.
use Rattle.std.proofs.Common.{◌≡◌, ℕ, zero, suc, ◌+◌, ◌<◌, ◌≤◌, Bool, true, List, [], ◌∷◌, length, map, nat_lt, slice_index_or, refl, sym, ◌∙◌, subst, arith}
use Rattle.std.specs.Prelude.{IsTrue}
use Rattle.std.proofs.lemmas.List.{length-map}
use Rattle.std.proofs.lemmas.List.Elements.{All-cons, All-head, All-nil, All-tail, All-weaker}
use Rattle.std.specs.List.{All, list_all}
use Rattle.mc_signal.specs.Choice.{codecs_of}
use Rattle.mc_text.specs.NameLists.{NameLists}
use Rattle.mc_box.specs.BoxShapes.{BoxShapeState, box_shape, shape_of}
use Rattle.mc_box.specs.Boxes.{no_box}
use Rattle.mc_model.specs.Shapes.{AreAllAllowed, AreAllowed, is_allowed}
use Rattle.mc_model.specs.Worlds.{ChannelState, WorldState, box_at}
use Rattle.mc_box.specs.declared.event.Turn.{Turn}
use Rattle.mc_plan.specs.Plans.{PlanState, boxes_from, world_of}
use Rattle.mc_plan.specs.declared.plan.BoxPlan.{BoxPlan}
use Rattle.mc_plan.proofs.Numbered.{box_slots, length_boxes}
use Rattle.mc_script.specs.Printed.{HaveNames, IsNamed}
use Rattle.mc_script.specs.declared.command.Command.{Command}
use Rattle.mc_script.specs.declared.command.Command.TheVariants.{Stimulus, Settle}
use Rattle.mc_lines.specs.BoxLines.{box_seen}
use Rattle.mc_lines.specs.Forms.{IsInForm, NamesEach}
use Rattle.mc_net.specs.Nets.{IsMadeOf, IsSayable, MayHavePrograms, NamesAll, batch_turns, batches_of, before_next}
use Rattle.mc_lines.specs.SoFar.{Declared}
use Rattle.mc_net.specs.TextLaws.{NetsAreNamed}
use Rattle.mc_lines.specs.declared.tail.Tail.{Tail}
use Rattle.mc_net.specs.Texts.{Says}
use Rattle.mc_lines.specs.declared.limit.TheConstants.{COMMAND_LIMIT}
use Rattle.mc_net.specs.declared.net.Net.{Net}
use Rattle.mc_lines.specs.declared.reader.Declarations.{Declarations}
use Rattle.mc_net.proofs.Batches.{few_batches}
use Rattle.mc_net.proofs.Declaring.{AreOf}
use Rattle.mc_net.proofs.Enabled.{IsEnabled, IsOfLine, line_enabled, line_named}
use Rattle.mc_net.proofs.Named.{HasCodecs}
use Rattle.mc_net.proofs.FirstPrograms.{programs_may, programs_named, programs_shaped}
use Rattle.mc_net.proofs.Laid.{AllFinished, AreLaid, owners}
use Rattle.mc_net.proofs.Runnable.{IsRunnable, says_finished, says_runnable}
use Rattle.mc_net.proofs.Shaped.{AreShapes}

-- ---- names

-- each box of the world receives the codecs that its plan names
codecs_known : (names : NameLists) (channels : List ChannelState) (plans : List BoxPlan) (first who : ℕ) → All (HasCodecs names) (map box_seen plans)
    → All (λ codec. codec < length names.codecs) (codecs_of (slice_index_or (boxes_from channels first plans) who no_box).receives)
codecs_known names channels [] first who known = All-nil (λ codec. codec < length names.codecs)
codecs_known names channels (planned ∷ plans) first zero known = All-head (HasCodecs names) (box_seen planned) (map box_seen plans) known
codecs_known names channels (planned ∷ plans) first (suc who) known = codecs_known names channels plans (first + 1) who (All-tail (HasCodecs names) (box_seen planned) (map box_seen plans) known)

-- all of a plan's world has names
plan_named : (names : NameLists) (plan : PlanState) → NamesEach names (map box_seen plan.boxes) plan.channels → All (HasCodecs names) (map box_seen plan.boxes) → NamesAll names (world_of plan)
plan_named names plan each known =
    let same : length (world_of plan).boxes ≡ length plan.boxes = length_boxes plan.channels plan.boxes 0 in
    record {
      boxes = sym each.boxes ∙ length-map plan.boxes box_seen ∙ sym same;
      slots = λ who below. sym (box_slots plan who (subst (λ (n : ℕ). who < n) same below) ∙ each.slots who);
      codecs = λ who. codecs_known names plan.channels plan.boxes 0 who known;
    }

-- so has all of a network's
pub net_named : (tail : Tail) (text : List ℕ) (d : Declared) (parts : Declarations) (net : Net) (place : ℕ) → Says tail text d → IsInForm d → AreOf d parts → IsMadeOf parts place net → NamesAll net.names net.world
net_named tail text d parts net place says form are made =
    let runs : IsRunnable d = says_runnable tail text d says in
    rw (made.names, made.world, are.names)
    (programs_named d.names (world_of parts.plan) parts.blocks.items (plan_named d.names parts.plan (rw (are.boxes, are.channels) form.named) (rw are.boxes runs.known)))

-- ---- commands

-- a world of boxes with these shapes allows each command that a shape enables
enabled_is_allowed : (names : NameLists) (shape : List BoxShapeState) (world : WorldState) (turn : Turn) → length names.boxes ≡ length world.boxes
    → ((who : ℕ) → who < length world.boxes → box_shape (box_at world who) ≡ shape_of shape who) → IsEnabled names shape (Stimulus turn) → IsTrue (is_allowed world turn)
enabled_is_allowed names shape world turn same alike enabled =
    let known = enabled.0 in
    let below : turn.who < length world.boxes = omega arith in
    let here : nat_lt turn.who (length world.boxes) ≡ true = grind arith in
    rw (here, alike turn.who below) enabled.1

-- ---- batches

module _ (P : Turn → Type 0) where
  -- what holds of the turns of commands
  abbrev OfTurn : Command → Type 0
  OfTurn (Stimulus turn) = P turn
  OfTurn Settle = Unit {0}

  all_before : (turn : Turn) (batches : List (List Turn)) → P turn → All (All P) batches → All (All P) (before_next turn batches)
  all_before turn [] holds all = all
  all_before turn (batch ∷ batches) holds all = All-cons (All P) (turn ∷ batch) batches (All-cons P turn batch holds (All-head (All P) batch batches all)) (All-tail (All P) batch batches all)

  -- holds in each batch
  all_batches : (commands : List Command) → All OfTurn commands → All (All P) (batches_of commands)
  all_batches [] all = All-nil (All P)
  all_batches (Stimulus turn ∷ commands) all = all_before turn (batches_of commands) (All-head OfTurn (Stimulus turn) commands all) (all_batches commands (All-tail OfTurn (Stimulus turn) commands all))
  all_batches (Settle ∷ commands) all = All-cons (All P) [] (batches_of commands) (All-nil P) (all_batches commands (All-tail OfTurn Settle commands all))

-- where each turn passes a test, all do
all_pass : (test : Turn → Bool) (turns : List Turn) → All (λ turn. IsTrue (test turn)) turns → IsTrue (list_all test turns)
all_pass test [] all = refl
all_pass test (turn ∷ turns) all =
    rw (All-head (λ turn. IsTrue (test turn)) turn turns all) (all_pass test turns (All-tail (λ turn. IsTrue (test turn)) turn turns all))

-- the first world allows each command of a network
pub net_allowed : (tail : Tail) (text : List ℕ) (d : Declared) (parts : Declarations) (net : Net) (place : ℕ) → Says tail text d → IsInForm d → AreOf d parts → IsMadeOf parts place net → AreAllAllowed net.world (map batch_turns net.batches.items)
net_allowed tail text d parts net place says form are made =
    let named : NamesAll net.names net.world = net_named tail text d parts net place says form are made in
    let runs : IsRunnable d = says_runnable tail text d says in
    let shaped : AreShapes d.shape (map box_seen parts.plan.boxes) parts.plan.channels (owners parts.blocks.items) = rw (are.boxes, are.channels, are.blocks) runs.shaped in
    let laid : AreLaid d.shape d.section parts.blocks.items = rw are.blocks runs.laid in
    let finished : AllFinished parts.blocks.items = rw are.blocks (says_finished tail text d says) in
    let same : length d.names.boxes ≡ length net.world.boxes = rw (← are.names, ← made.names) named.boxes in
    let alike : (who : ℕ) → who < length net.world.boxes → box_shape (box_at net.world who) ≡ shape_of d.shape who = rw made.world (programs_shaped d.shape parts.plan d.section parts.blocks.items shaped laid finished) in
    let each : All (All (λ turn. IsTrue (is_allowed net.world turn))) (batches_of parts.commands.items) =
    all_batches (λ turn. IsTrue (is_allowed net.world turn)) parts.commands.items (rw are.commands (All-weaker (IsOfLine d.names d.shape) (OfTurn (λ turn. IsTrue (is_allowed net.world turn))) (λ it line. by same alike it (line_enabled d.names d.shape form.fits it line)) d.commands runs.of_lines)) in
    rw made.batches (All-weaker (All (λ turn. IsTrue (is_allowed net.world turn))) (AreAllowed net.world) (λ batch. all_pass (is_allowed net.world) batch) (batches_of parts.commands.items) each)
  where
    by : length d.names.boxes ≡ length net.world.boxes → ((who : ℕ) → who < length net.world.boxes → box_shape (box_at net.world who) ≡ shape_of d.shape who) → (it : Command) → IsEnabled d.names d.shape it → OfTurn (λ turn. IsTrue (is_allowed net.world turn)) it
    by same alike (Stimulus turn) enabled = enabled_is_allowed d.names d.shape net.world turn same alike enabled
    by same alike Settle enabled = tt

-- the programs of a text may be laid out
pub net_programs : (tail : Tail) (text : List ℕ) (d : Declared) (parts : Declarations) → Says tail text d → AreOf d parts → MayHavePrograms (world_of parts.plan) parts.blocks.items
net_programs tail text d parts says are =
    let runs : IsRunnable d = says_runnable tail text d says in
    let shaped : AreShapes d.shape (map box_seen parts.plan.boxes) parts.plan.channels (owners parts.blocks.items) = rw (are.boxes, are.channels, are.blocks) runs.shaped in
    let laid : AreLaid d.shape d.section parts.blocks.items = rw are.blocks runs.laid in
    let finished : AllFinished parts.blocks.items = rw are.blocks (says_finished tail text d says) in
    programs_may d.shape parts.plan d.section parts.blocks.items shaped laid finished

-- so a network has no more than commands may be
pub net_has_few : (tail : Tail) (text : List ℕ) (d : Declared) (parts : Declarations) (net : Net) (place : ℕ) → Says tail text d → AreOf d parts → IsMadeOf parts place net → length net.batches.items ≤ COMMAND_LIMIT
net_has_few tail text d parts net place says are made =
    let runs : IsRunnable d = says_runnable tail text d says in
    let listed : length (batches_of parts.commands.items) ≤ length parts.commands.items = few_batches parts.commands.items in
    let few : length parts.commands.items ≤ COMMAND_LIMIT = rw are.commands runs.few in
    let made_of : length (map batch_turns net.batches.items) ≤ length parts.commands.items = rw made.batches listed in
    omega (arith, length-map net.batches.items batch_turns)

-- ---- texts

-- the network of a text is well named, by the text alone
pub nets_are_named : NetsAreNamed
nets_are_named tail text net declares =
    let d = declares.declared in
    let plan = declares.world.plan in
    let runs : IsRunnable d = says_runnable tail text d declares.says in
    let each : NamesEach d.names (map box_seen plan.boxes) plan.channels = rw (declares.world.boxes, declares.world.channels) runs.named in
    let known : All (HasCodecs d.names) (map box_seen plan.boxes) = rw declares.world.boxes runs.known in
    record {
      names = subst HaveNames (sym declares.names) runs.called.have;
      fits = rw (declares.names, declares.shape) runs.fits;
      world = rw (declares.names, declares.world.world) (programs_named d.names (world_of plan) d.blocks (plan_named d.names plan each known));
      commands = rw (declares.names, declares.shape, declares.batches)
          (all_batches (IsSayable d.names d.shape) d.commands (All-weaker (IsOfLine d.names d.shape) (OfTurn (IsSayable d.names d.shape)) (λ it line. sayable d runs it (line_named d.names d.shape runs.fits it line) (line_enabled d.names d.shape runs.fits it line)) d.commands runs.of_lines));
    }
  where
    sayable : (d : Declared) → IsRunnable d → (it : Command) → IsNamed d.names it → IsEnabled d.names d.shape it → OfTurn (IsSayable d.names d.shape) it
    sayable d runs (Stimulus turn) named enabled = (named, enabled.1)
    sayable d runs Settle named enabled = tt
