-- What a network that is like what is declared may be asked: each join and cut, and each command, of a line that breaks no rule.
use Rattle.std.proofs.Common.{◌≡◌, inl, inr, ℕ, ◌<◌, ◌==◌, ◌&&◌, ◌||◌, Bool, true, false, List, [], ◌∷◌, length, nat_le, nat_lt, slice_index_or, Option, Some, None, refl, sym, ap, ◌∙◌, subst, arith}
use Rattle.std.specs.Prelude.{IsTrue}
use Rattle.std.specs.List.{slice_get}
use Rattle.std.specs.Option.{is_none}
use Rattle.std.proofs.lemmas.Bool.{cases_lt, or_parts}
use Rattle.std.proofs.lemmas.Grind.{common_steps}
use Rattle.std.proofs.lemmas.List.{get_or_past}
use Rattle.std.proofs.lemmas.List.Quantifiers.{position-Some}
use Rattle.mc_box.specs.BoxShapes.{BoxShapeState, box_shape, shape_of}
use Rattle.mc_box.specs.Boxes.{BoxState, no_box}
use Rattle.mc_box.specs.declared.event.Change.TheVariants.{End as NewEnd, Link as NewLink}
use Rattle.mc_box.specs.declared.event.Event.{Event}
use Rattle.mc_box.specs.declared.event.Event.TheVariants as event
use Rattle.mc_box.specs.declared.event.Turn.{Turn}
use Rattle.mc_growth.proofs.Lists.{not_true}
use Rattle.mc_growth.specs.Growths.{GrownState}
use Rattle.mc_growth.specs.Joins.{HasRoom, MayJoin}
use Rattle.mc_growth.specs.Outs.{IsUnprogrammed, MayCut, channel_at, is_out, sets_slot}
use Rattle.mc_lines.proofs.FirstBroken.{all_before, all_behind}
use Rattle.mc_lines.specs.Joins.{also_broken, among_channels, has_program, join_rules, names_programmed}
use Rattle.mc_lines.specs.Rules.{channel_rules, is_pending, of_slots}
use Rattle.mc_lines.specs.SoFar.{Declared}
use Rattle.mc_lines.specs.declared.limit.TheConstants.{CHANNEL_LIMIT}
use Rattle.mc_model.specs.Shapes.{is_allowed}
use Rattle.mc_model.specs.Worlds.{ChannelState, WorldState, box_at, place, places_among, slot_count}
use Rattle.mc_net.proofs.Enabled.{IsEnabled}
use Rattle.mc_plan.specs.LaidOut.{AreInOrder}
use Rattle.mc_plan.specs.Plans.{no_channel}
use Rattle.mc_program_lines.proofs.Found.{named_within}
use Rattle.mc_program_lines.proofs.KeptRules.{first_kept, kept_at, others_kept}
use Rattle.mc_script.specs.Places.{box_named}
use Rattle.mc_script.specs.Rules.{least_broken}
use Rattle.mc_script.specs.declared.command.Command.TheVariants.{Stimulus}
use Rattle.mc_script.specs.declared.rule.TheConstants.{LIMIT_PASSED, NOT_SETTLED, NO_SUCH_SLOT, WRONG_WORD}
use Rattle.mc_tail.specs.Rules.{cut_channel_rules, cut_rules, cut_word_rules, is_programmed, joins_programmed}
use Rattle.mc_tail.specs.SoFar.{TailState, channel_named, channel_of, has_end, is_cut, known_channel}
use Rattle.mc_text.specs.NameLists.{NameLists, slot_names}
use Rattle.mc_text.specs.declared.limit.TheConstants.{SLOT_LIMIT}
use Rattle.mc_stage_plans.proofs.Acting.{MayTurn}
use Rattle.mc_stage_plans.proofs.ChannelSlots.{box_of_end, channel_found, end_there}
use Rattle.mc_stage_plans.proofs.InOrder.{boxes_apart}
use Rattle.mc_stage_plans.proofs.Likeness.{IsLike, slots_named}

-- ---- rules

-- where none is broken, nothing more being so, none is broken
pub not_also : (number : ℕ) (more : Bool) (rules : List (ℕ × Bool)) → least_broken (also_broken number more rules) ≡ None → least_broken rules ≡ None
not_also number more [] kept = refl
not_also number more (rule ∷ rules) kept = by rule.1 refl (not_also number more rules)
  where
    by : (b : Bool) → rule.1 ≡ b → (least_broken (also_broken number more rules) ≡ None → least_broken rules ≡ None) → least_broken (rule ∷ rules) ≡ None
    by true e rest = absurd (let clash : Some rule.0 ≡ None = rw e at kept in cc)
    by false e rest = rw e (rest (others_kept rule.0 (rule.1 || (rule.0 == number && more)) (also_broken number more rules) kept))

-- ---- boxes without programs

no_program : (box : BoxState) → (box_shape box).programmed ≡ false → box.program ≡ None
no_program box none = by box.program refl
  where
    by : (program : _) → box.program ≡ program → program ≡ None
    by None e = refl
    by (Some states) e = absurd (let clash : true ≡ false = rw e at none in cc)

-- a box whose shape has no program has none, nor has one that isn't there
unprogrammed_box : (d : Declared) (cut : List ℕ) (network : GrownState) (who : ℕ) → IsLike d cut network → (shape_of d.shape who).programmed ≡ false → (box_at network.world who).program ≡ None
unprogrammed_box d cut network who like none = elim (cases_lt who (length network.world.boxes)) [
  | inl below ↦ no_program (box_at network.world who) (ap (λ (s : BoxShapeState). s.programmed) (like.shaped who below) ∙ none)
  | inr past ↦ ap (λ (box : BoxState). box.program) (get_or_past network.world.boxes who no_box past)
]

-- ---- a join

three : (a b c : Bool) → (a || b || c) ≡ false → (a ≡ false) × (b ≡ false) × (c ≡ false)
three a b c none = (grind arith, grind arith, grind arith)

fewer : (most n : ℕ) → nat_le most n ≡ false → n < most
fewer most n not = grind arith

room_for : (d : Declared) (cut : List ℕ) (network : GrownState) (who : ℕ) → IsLike d cut network → who < length network.world.boxes → nat_le SLOT_LIMIT (length (slot_names d.names who)) ≡ false → (shape_of d.shape who).programmed ≡ false
    → HasRoom (box_at network.world who)
room_for d cut network who like below room none =
    let few : length (slot_names d.names who) < 64 = fewer 64 (length (slot_names d.names who)) room in
    let same : length (slot_names d.names who) ≡ length (box_at network.world who).slots = slots_named d.names d.shape d.boxes d.channels cut network who like below in
    record { room = omega arith; unprogrammed = unprogrammed_box d cut network who like none }

-- a line that breaks no rule names no box with a program
none_programmed : (d : Declared) (words : List (List ℕ)) → least_broken (also_broken WRONG_WORD (names_programmed d words) (channel_rules (among_channels d) words)) ≡ None → names_programmed d words ≡ false
none_programmed d words own = (or_parts _ (names_programmed d words) (kept_at (also_broken WRONG_WORD (names_programmed d words) (channel_rules (among_channels d) words)) 1 _ own refl)).1

pub may_join : (d : Declared) (cut : List ℕ) (network : GrownState) (words : List (List ℕ)) (from to : ℕ) → IsLike d cut network → least_broken (join_rules d words) ≡ None
    → box_named d.names (slice_get words 1) ≡ Some from → box_named d.names (slice_get words 3) ≡ Some to → MayJoin network.world from to
may_join d cut network words from to like kept a b =
    let near = box_named d.names (slice_get words 1) in
    let far = box_named d.names (slice_get words 3) in
    let plain_rules : List (ℕ × Bool) = channel_rules (among_channels d) words in
    let settled : List (ℕ × Bool) = (NOT_SETTLED, is_pending d.commands) ∷ [] in
    let own : least_broken (also_broken WRONG_WORD (names_programmed d words) (channel_rules (among_channels d) words)) ≡ None = all_before (also_broken WRONG_WORD (names_programmed d words) plain_rules) settled kept in
    let plain : least_broken (channel_rules (among_channels d) words) ≡ None = not_also WRONG_WORD (names_programmed d words) plain_rules own in
    let bare : names_programmed d words ≡ false = none_programmed d words own in
    let both = or_parts (has_program d.shape near) (has_program d.shape far) bare in
    let near_bare : (shape_of d.shape from).programmed ≡ false = rw a at both.0 in
    let far_bare : (shape_of d.shape to).programmed ≡ false = rw b at both.1 in
    let limits : (nat_le SLOT_LIMIT (length (slot_names d.names from)) || nat_le SLOT_LIMIT (length (slot_names d.names to)) || nat_le CHANNEL_LIMIT (length d.channels)) ≡ false =
    rw (a, b) at (kept_at (channel_rules (among_channels d) words) 6 (
      LIMIT_PASSED,
      of_slots d.names near (λ slots. nat_le SLOT_LIMIT (length slots)) || of_slots d.names far (λ slots. nat_le SLOT_LIMIT (length slots)) || nat_le CHANNEL_LIMIT (length d.channels),
    ) plain refl) in
    let each = three (nat_le SLOT_LIMIT (length (slot_names d.names from))) (nat_le SLOT_LIMIT (length (slot_names d.names to))) (nat_le CHANNEL_LIMIT (length d.channels)) limits in
    let near_in : from < length network.world.boxes = omega (arith, named_within d.names.boxes (slice_get words 1) from a, like.count) in
    let far_in : to < length network.world.boxes = omega (arith, named_within d.names.boxes (slice_get words 3) to b, like.count) in
    let channels : length d.channels < 1024 = fewer 1024 (length d.channels) each.2 in
    let as_many : length network.world.channels ≡ length d.channels = ap (λ (l : List ChannelState). length l) like.same in
    record {
      near = near_in;
      away = far_in;
      apart = boxes_apart (among_channels d) words from to plain a b;
      near_room = room_for d cut network from like near_in each.0 near_bare;
      away_room = room_for d cut network to like far_in each.1 far_bare;
      few = omega arith;
    }

-- and it comes after a settle
pub join_settled : (d : Declared) (words : List (List ℕ)) → least_broken (join_rules d words) ≡ None → is_pending d.commands ≡ false
join_settled d words kept =
    first_kept NOT_SETTLED (is_pending d.commands) [] (all_behind (also_broken WRONG_WORD (names_programmed d words) (channel_rules (among_channels d) words)) ((NOT_SETTLED, is_pending d.commands) ∷ []) kept)

-- ---- a cut

-- a channel that has a slot is there
known_below : (channels : List ChannelState) (who local : Option ℕ) (channel : ℕ) → known_channel channels who local ≡ Some channel → channel < length channels
known_below channels None local channel is = absurd cc
known_below channels (Some who) None channel is = absurd cc
known_below channels (Some who) (Some local) channel is = (position-Some (has_end who local) channels channel no_channel is).0

pub named_below : (d : Declared) (box slot : Option (List ℕ)) (channel : ℕ) → channel_named d box slot ≡ Some channel → channel < length d.channels
named_below d box slot channel is = known_below d.channels (box_named d.names box) _ channel is

-- a slot of a channel is of one of its two boxes, which have no programs
slot_unprogrammed : (d : Declared) (cut : List ℕ) (network : GrownState) (channel s : ℕ) → IsLike d cut network → s < slot_count network.world → channel_at network.world s ≡ channel
    → is_programmed d.shape (slice_index_or d.channels channel no_channel).from ≡ false → is_programmed d.shape (slice_index_or d.channels channel no_channel).to ≡ false → IsUnprogrammed network.world s
slot_unprogrammed d cut network channel s like inside at near far =
    let who = (place network.world s).0 in
    let there = (end_there network.world.channels s inside).1 in
    let same : slice_index_or network.world.channels (channel_at network.world s) no_channel ≡ slice_index_or d.channels channel no_channel =
    ap (λ (l : List ChannelState). slice_index_or l (channel_at network.world s) no_channel) like.same ∙ ap (λ (n : ℕ). slice_index_or d.channels n no_channel) at in
    let end : has_end (place network.world s).0 (place network.world s).1 (slice_index_or d.channels channel no_channel) ≡ true = subst (λ (ends : ChannelState). has_end (place network.world s).0 (place network.world s).1 ends ≡ true) same there in
    elim (box_of_end who (place network.world s).1 (slice_index_or d.channels channel no_channel) end) [
      | inl is ↦ unprogrammed_box d cut network who like (subst (λ (n : ℕ). is_programmed d.shape n ≡ false) is near)
      | inr is ↦ unprogrammed_box d cut network who like (subst (λ (n : ℕ). is_programmed d.shape n ≡ false) is far)
    ]

pub may_cut : (t : TailState) (network : GrownState) (words : List (List ℕ)) (channel : ℕ) → IsLike t.declared t.out network → least_broken (cut_rules t words) ≡ None
    → channel_named t.declared (slice_get words 0) (slice_get words 1) ≡ Some channel → MayCut network.world network.out channel
may_cut t network words channel like kept is =
    let d = t.declared in
    let named = channel_named t.declared (slice_get words 0) (slice_get words 1) in
    let of_words : least_broken (cut_word_rules t.declared words) ≡ None = all_before (cut_word_rules d words) (cut_channel_rules t named) kept in
    let of_channel : least_broken (cut_channel_rules t (channel_named t.declared (slice_get words 0) (slice_get words 1))) ≡ None = all_behind (cut_word_rules d words) (cut_channel_rules t named) kept in
    let bare : (is_programmed t.declared.shape (slice_index_or t.declared.channels channel no_channel).from || is_programmed t.declared.shape (slice_index_or t.declared.channels channel no_channel).to) ≡ false =
    rw is at (kept_at (cut_word_rules d words) 1 (WRONG_WORD, joins_programmed d named) of_words refl) in
    let both = or_parts (is_programmed d.shape (slice_index_or d.channels channel no_channel).from) (is_programmed d.shape (slice_index_or d.channels channel no_channel).to) bare in
    let present : is_cut t.out (Some channel) ≡ false = rw is at (kept_at (cut_channel_rules t named) 0 (NO_SUCH_SLOT, is_none named || is_cut t.out named) of_channel refl) in
    let below : channel < length t.declared.channels = named_below d (slice_get words 0) (slice_get words 1) channel is in
    let as_many : length network.world.channels ≡ length t.declared.channels = ap (λ (l : List ChannelState). length l) like.same in
    record {
      there = omega arith;
      within = λ s inside at. like.outs s inside ∙ ap (λ (n : ℕ). is_cut t.out (Some n)) at ∙ present;
      unprogrammed = λ s inside at. slot_unprogrammed d t.out network channel s like inside at both.0 both.1;
    }

pub cut_settled : (t : TailState) (words : List (List ℕ)) → least_broken (cut_rules t words) ≡ None → is_pending t.declared.commands ≡ false
cut_settled t words kept =
    let named = channel_named t.declared (slice_get words 0) (slice_get words 1) in
    kept_at (cut_channel_rules t named) 1 (NOT_SETTLED, is_pending t.declared.commands) (all_behind (cut_word_rules t.declared words) (cut_channel_rules t named) kept) refl

-- ---- a command

-- no slot that a turn sets is of a channel that was cut
abbrev pub NamesNone : List ChannelState → List ℕ → ℕ → Event → Type 0
NamesNone channels cut who (event.Set (NewEnd local goal)) = is_cut cut (channel_of channels who local) ≡ false
NamesNone channels cut who (event.Set (NewLink first second)) = (is_cut cut (channel_of channels who first) ≡ false) × (is_cut cut (channel_of channels who second) ≡ false)
NamesNone channels cut who other = Unit {0}

same_parts : (a b c d : ℕ) → (a == b && c == d) ≡ true → (a ≡ b) × (c ≡ d)
same_parts a b c d is = (grind (arith, common_steps), grind (arith, common_steps))

clash : (b : Bool) → b ≡ true → b ≡ false → ⊥
clash b one two = absurd cc

-- a slot of a channel that was not cut isn't out
not_there : (d : Declared) (cut : List ℕ) (network : GrownState) (who local s : ℕ) → IsLike d cut network → is_cut cut (channel_of d.channels who local) ≡ false → s < slot_count network.world → is_out network.out s ≡ true
    → (who == (place network.world s).0 && local == (place network.world s).1) ≡ false
not_there d cut network who local s like none inside out =
    let at = place network.world s in
    let ordered : AreInOrder (places_among network.world.channels) = subst (λ (l : List ChannelState). AreInOrder (places_among l)) (sym like.same) like.placed.ordered in
    not_true (who == (place network.world s).0 && local == (place network.world s).1) (λ same.
    let parts = same_parts who at.0 local at.1 same in
    let found : channel_of network.world.channels (place network.world s).0 (place network.world s).1 ≡ Some (channel_at network.world s) = channel_found network.world.channels s ordered inside in
    let here : channel_of d.channels who local ≡ Some (channel_at network.world s) =
    ap (λ (l : List ChannelState). channel_of l who local) (sym like.same)
    ∙ ap (λ (n : ℕ). channel_of network.world.channels n local) parts.0
    ∙ ap (λ (n : ℕ). channel_of network.world.channels (place network.world s).0 n) parts.1
    ∙ found in
    clash (is_cut cut (Some (channel_at network.world s))) (sym (like.outs s inside) ∙ out) (sym (ap (is_cut cut) here) ∙ none))

and_false : (a : Bool) → (a && false) ≡ false
and_false true = refl
and_false false = refl

and_either : (a b c : Bool) → (a && b) ≡ false → (a && c) ≡ false → (a && (b || c)) ≡ false
and_either true true c one two = absurd cc
and_either true false c one two = two
and_either false b c one two = refl

sets_none : (d : Declared) (cut : List ℕ) (network : GrownState) (who s : ℕ) (it : Event) → IsLike d cut network → NamesNone d.channels cut who it → s < slot_count network.world → is_out network.out s ≡ true
    → (who == (place network.world s).0 && sets_slot (place network.world s).1 it) ≡ false
sets_none d cut network who s (event.Set (NewEnd local goal)) like none inside out = not_there d cut network who local s like none inside out
sets_none d cut network who s (event.Set (NewLink first second)) like none inside out =
    and_either (who == (place network.world s).0) (first == (place network.world s).1) (second == (place network.world s).1) (not_there d cut network who first s like none.0 inside out) (not_there d cut network who second s like none.1 inside out)
sets_none d cut network who s (event.Take local) like none inside out = and_false (who == (place network.world s).0)
sets_none d cut network who s (event.Media change) like none inside out = and_false (who == (place network.world s).0)
sets_none d cut network who s (event.Tell word) like none inside out = and_false (who == (place network.world s).0)
sets_none d cut network who s (event.Retry local) like none inside out = and_false (who == (place network.world s).0)
sets_none d cut network who s event.Shift like none inside out = and_false (who == (place network.world s).0)

-- a command that the shape of its box enables is allowed
pub turn_allowed : (names : NameLists) (shape : List BoxShapeState) (world : WorldState) (turn : Turn) → length names.boxes ≡ length world.boxes
    → ((who : ℕ) → who < length world.boxes → box_shape (box_at world who) ≡ shape_of shape who) → IsEnabled names shape (Stimulus turn) → IsTrue (is_allowed world turn)
turn_allowed names shape world turn same alike enabled =
    let known = enabled.0 in
    let below : turn.who < length world.boxes = omega arith in
    let here : nat_lt turn.who (length world.boxes) ≡ true = grind arith in
    rw (here, alike turn.who below) enabled.1

pub may_turn : (d : Declared) (cut : List ℕ) (network : GrownState) (turn : Turn) → IsLike d cut network → IsEnabled d.names d.shape (Stimulus turn) → NamesNone d.channels cut turn.who turn.event → MayTurn network turn
may_turn d cut network turn like enabled none = record {
  allowed = turn_allowed d.names d.shape network.world turn like.count like.shaped enabled;
  none_out = λ s inside out. sets_none d cut network turn.who s turn.event like none inside out;
}
