-- The plans that a text makes may be asked for, all has names, and they are few.
use Rattle.std.proofs.Common.{◌≡◌, ℕ, ◌+◌, ◌<◌, ◌≤◌, Bool, true, false, List, [], ◌∷◌, length, map, refl, sym, ap, ◌∙◌, subst, arith}
use Rattle.std.specs.Prelude.{IsTrue}
use Rattle.std.specs.List.{All}
use Rattle.std.proofs.lemmas.List.{length-map}
use Rattle.std.proofs.lemmas.List.Elements.{All-head, All-tail, All-weaker}
use Rattle.mc_signal.specs.Choice.{codecs_of}
use Rattle.mc_signal.specs.declared.codec_list.CodecList.{CodecList}
use Rattle.mc_box.specs.BoxShapes.{BoxShapeState, box_shape, shape_of}
use Rattle.mc_box.specs.declared.event.Change.TheVariants.{End as NewEnd, Link as NewLink}
use Rattle.mc_box.specs.declared.event.Event.{Event}
use Rattle.mc_box.specs.declared.event.Event.TheVariants as event
use Rattle.mc_box.specs.declared.event.MediaChange.TheVariants.{Hear, Talk}
use Rattle.mc_box.specs.declared.event.Turn.{Turn}
use Rattle.mc_growth.specs.Growths.{grown_from}
use Rattle.mc_lines.specs.SoFar.{Declared}
use Rattle.mc_lines.specs.declared.limit.TheConstants.{COMMAND_LIMIT}
use Rattle.mc_lines.specs.declared.tail.Tail.TheVariants.{Grow}
use Rattle.mc_model.specs.Shapes.{AreAllowed, is_allowed}
use Rattle.mc_model.specs.Worlds.{WorldState, box_at, slot_count}
use Rattle.mc_net.proofs.Batches.{few_batches}
use Rattle.mc_net.proofs.MadeNets.{nets_are_named}
use Rattle.mc_net.proofs.Runnable.{IsRunnable, says_runnable}
use Rattle.mc_net.specs.Nets.{DeclaresNet, IsSayable, batch_turns}
use Rattle.mc_net.specs.declared.net.Net.{Net}
use Rattle.mc_script.specs.Printed.{IsNamedEvent}
use Rattle.mc_stages.specs.Plans.{MayCommand, NamesEnough, grown_at_end}
use Rattle.mc_tail.specs.Tails.{head, tail_start}
use Rattle.mc_text.specs.NameLists.{NameLists}
use Rattle.mc_stage_plans.specs.PlanLaws.{PlansAreFew, PlansAreNamed, PlansMayHappen}
use Rattle.mc_stage_plans.specs.Planned.{settled_parts}
use Rattle.mc_stage_plans.proofs.Acting.{after_items, lawful_parts}
use Rattle.mc_stage_plans.proofs.Asked.{turn_allowed}
use Rattle.mc_stage_plans.proofs.Lawful.{few_plans, items_come, lawful_plans}
use Rattle.mc_stage_plans.proofs.Likeness.{IsLike, first_like, none_out, slots_named}
use Rattle.mc_stage_plans.proofs.TailLines.{Follows, says_follow}

-- ---- the network that the text declares

-- before the lines after `grow` nothing came
starts : (text : List ℕ) (net : Net) → DeclaresNet Grow text net → Follows (grown_from net.world) (length net.batches.items) (tail_start text)
starts text net declares =
    let d = declares.declared in
    let runs : IsRunnable d = says_runnable Grow text d declares.says in
    let same : declares.declared ≡ head text = declares.says.declared in
    let batches : length net.batches.items ≤ length declares.declared.commands =
    omega (arith, sym (length-map net.batches.items batch_turns), ap (λ (l : List (List Turn)). length l) declares.batches, few_batches d.commands) in
    let counted : length net.batches.items + 0 ≤ length declares.declared.commands = omega arith in
    record {
      like = subst (λ (x : Declared). IsLike x [] (grown_from net.world)) same (first_like text net declares);
      come = tt;
      pending = λ on. absurd cc;
      parts = subst (λ (x : Declared). length net.batches.items + 0 ≤ length x.commands) same counted;
      few = subst (λ (x : Declared). length x.commands ≤ COMMAND_LIMIT) same runs.few;
    }

all_pass : (world : WorldState) (turns : List Turn) → All (λ turn. IsTrue (is_allowed world turn)) turns → AreAllowed world turns
all_pass world [] all = refl
all_pass world (turn ∷ turns) all = rw (All-head (λ turn. IsTrue (is_allowed world turn)) turn turns all) (all_pass world turns (All-tail (λ turn. IsTrue (is_allowed world turn)) turn turns all))

-- the box of a command that has names is there
box_there : (names : NameLists) (who : ℕ) (it : Event) → IsNamedEvent names who it → who < length names.boxes
box_there names who (event.Set (NewEnd local goal)) named = named.0
box_there names who (event.Set (NewLink first second)) named = named.0.0
box_there names who (event.Media (Hear local on)) named = named.0
box_there names who (event.Media (Talk local on)) named = named.0
box_there names who (event.Tell word) named = named.0
box_there names who (event.Take local) named = absurd named
box_there names who (event.Retry local) named = absurd named
box_there names who event.Shift named = absurd named

-- its batches may be asked for
batches_asked : (text : List ℕ) (net : Net) → DeclaresNet Grow text net → All (MayCommand (grown_from net.world)) (map batch_turns net.batches.items)
batches_asked text net declares =
    let like = first_like text net declares in
    let d = declares.declared in
    let named = nets_are_named Grow text net declares in
    let each : All (All (IsSayable d.names d.shape)) (map batch_turns net.batches.items) =
    subst (λ (names : NameLists). All (All (IsSayable names d.shape)) (map batch_turns net.batches.items)) declares.names
    (subst (λ (shape : List BoxShapeState). All (All (IsSayable net.names shape)) (map batch_turns net.batches.items)) declares.shape named.commands) in
    All-weaker (All (IsSayable d.names d.shape)) (MayCommand (grown_from net.world)) (λ batch all. record {
      allowed = all_pass net.world batch (All-weaker (IsSayable d.names d.shape) (λ turn. IsTrue (is_allowed net.world turn)) (λ turn sayable. allowed d net.world turn like.count like.shaped sayable) batch all);
      none_out = λ s inside out. absurd (clash (none_out (slot_count net.world) s) out);
    }) (map batch_turns net.batches.items) each
  where
    clash : {b : Bool} → b ≡ false → b ≡ true → ⊥
    clash one two = absurd (let both : true ≡ false = sym two ∙ one in cc)

    allowed : (d : Declared) (world : WorldState) (turn : Turn) → length d.names.boxes ≡ length world.boxes → ((who : ℕ) → who < length world.boxes → box_shape (box_at world who) ≡ shape_of d.shape who)
        → IsSayable d.names d.shape turn → IsTrue (is_allowed world turn)
    allowed d world turn same alike sayable = turn_allowed d.names d.shape world turn same alike (box_there d.names turn.who turn.event sayable.0, sayable.1)

-- ---- the laws

pub plans_may_happen : PlansMayHappen
plans_may_happen text net tail plans are =
    let follows = says_follow (grown_from net.world) (length net.batches.items) text are.grows.state (starts text net are.declares) are.grows.says in
    let items = tail.items.items in
    let come = lawful_parts (grown_from net.world) are.grows.state.items follows.come in
    lawful_plans (map batch_turns net.batches.items) (settled_parts items) plans (grown_from net.world) are.planned.growths are.planned.batches_of (batches_asked text net are.declares) (rw are.grows.items come)

pub plans_are_named : PlansAreNamed
plans_are_named text net tail plans are =
    let first = grown_from net.world in
    let follows = says_follow (grown_from net.world) (length net.batches.items) text are.grows.state (starts text net are.declares) are.grows.says in
    let items = tail.items.items in
    let like : IsLike are.grows.state.declared are.grows.state.out (after_items (grown_from net.world) tail.items.items) = rw are.grows.items follows.like in
    let comes = items_come (map batch_turns net.batches.items) items plans first are.planned.growths in
    subst (λ (names : NameLists). NamesEnough names (grown_at_end (grown_from net.world) plans).world) (sym are.grows.names) (record {
      boxes = like.count ∙ comes.boxes;
      slots = λ who below.
          let here : who < length (after_items (grown_from net.world) tail.items.items).world.boxes = subst (λ (n : ℕ). who < n) (sym comes.boxes) below in
          omega (arith, comes.slots who, slots_named are.grows.state.declared.names are.grows.state.declared.shape are.grows.state.declared.boxes are.grows.state.declared.channels are.grows.state.out (after_items first items) who like here);
      codecs = λ who. subst (λ (list : CodecList). All (λ codec. codec < length are.grows.state.declared.names.codecs) (codecs_of list)) (comes.receives who) (like.codecs who);
    })

pub plans_are_few : PlansAreFew
plans_are_few text net tail plans are =
    let follows = says_follow (grown_from net.world) (length net.batches.items) text are.grows.state (starts text net are.declares) are.grows.says in
    let counted : length plans ≡ length (map batch_turns net.batches.items) + length (settled_parts tail.items.items) = few_plans (map batch_turns net.batches.items) (settled_parts tail.items.items) plans are.planned.batches_of in
    let parts : length net.batches.items + length (settled_parts tail.items.items) ≤ length are.grows.state.declared.commands = rw are.grows.items follows.parts in
    omega (arith, length-map net.batches.items batch_turns, follows.few)
