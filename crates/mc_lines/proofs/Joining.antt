-- Two boxes are joined: whether they may be is the plan's to say, and names, shapes and channels go on to fit.
use Rattle.std.proofs.Common.{◌≡◌, ℕ, ◌+◌, ◌<◌, ◌==◌, ◌||◌, Bool, true, false, nat_le, nat_lt, Result, Ok, Err, Option, Some, None, List, [], ◌∷◌, ◌++◌, length, slice_index_or, slice_set, refl, ap, sym, ◌∙◌, subst, arith, map}
use Rattle.std.proofs.lemmas.Grind.{common_steps}
use Rattle.std.proofs.lemmas.List.{length-map, length-set}
use Rattle.mc_signal.specs.declared.Medium.{Medium}
use Rattle.mc_text.specs.NameLists.{NameLists, slot_names, with_slot_name}
use Rattle.mc_box.specs.BoxShapes.{BoxShapeState, shape_of}
use Rattle.mc_model.specs.Worlds.{ChannelState}
use Rattle.mc_plan.specs.Plans.{PlanState, channel_between, last_channel, slots_of, widened}
use Rattle.mc_plan.specs.Refusals.{IsRefusal, fault_if, unless_fault, widen_fault}
use Rattle.mc_plan.specs.Refusals as plan
use Rattle.mc_plan.specs.declared.fault.PlanFault.{PlanFault}
use Rattle.mc_plan.specs.declared.fault.PlanFault.TheVariants.{TooManyTunnels, SlotsFull}
use Rattle.mc_plan.proofs.Slots.{part, slots_append, slots_one}
use Rattle.mc_plan.specs.LaidOut.{IsLaidOut}
use Rattle.mc_plan.proofs.Widened.{last_there, slots_widened}
use Rattle.mc_script.specs.Places.{unless}
use Rattle.mc_script.specs.declared.command.LineFault.{LineFault}
use Rattle.mc_script.specs.declared.rule.TheConstants.{LIMIT_PASSED}
use Rattle.mc_lines.specs.BoxLines.{box_seen, check_join, check_widen}
use Rattle.mc_lines.specs.Rules.{is_full}
use Rattle.mc_lines.specs.Forms.{IsInForm}
use Rattle.mc_lines.specs.Meaning.{with_joined, with_medium, with_new_slot, with_widened}
use Rattle.mc_lines.specs.SoFar.{Declared}
use Rattle.mc_lines.specs.declared.limit.TheConstants.{CHANNEL_LIMIT}
use Rattle.mc_lines.specs.declared.section.Section.TheVariants as section

-- ---- whether they may be

-- what a plan that has room for a channel answers: whether each of two boxes has room for a slot
abbrev pub slots_alone : (near far : Bool) → Result (Unit {0}) PlanFault
slots_alone near far = unless_fault (fault_if (near || far) SlotsFull None)

-- and what the line's rules do
abbrev pub slots_rule : (near far : Bool) → Result (Unit {0}) LineFault
slots_rule near far = unless (near || far) LIMIT_PASSED tt

rule_alone : (near far : Bool) → unless (near || far || false) LIMIT_PASSED tt ≡ slots_rule near far
rule_alone true far = refl
rule_alone false true = refl
rule_alone false false = refl

-- one slot more is too many where there are as many as there may be
one_too_many : (count : ℕ) → nat_lt 64 (count + 1) ≡ nat_le 64 count
one_too_many count = grind (arith, common_steps)

-- two boxes are declared, and there are fewer channels than a text may have, so fewer than a plan may have, too
pub joins_by_plan : (names : NameLists) (planned : PlanState) (from to : ℕ) (medium : Medium) → length planned.boxes ≡ length names.boxes → ((who : ℕ) → slots_of planned.channels who ≡ length (slot_names names who))
    → from < length names.boxes → to < length names.boxes → (from == to) ≡ false → length planned.channels < CHANNEL_LIMIT
    → (plan.may_join planned from to (medium ∷ []) ≡ slots_alone (is_full names from) (is_full names to)) × (check_join names planned.channels from to ≡ slots_rule (is_full names from) (is_full names to))
joins_by_plan names planned from to medium boxes slots near far apart room =
    let first : nat_le (length planned.boxes) from ≡ false = grind (arith, common_steps) in
    let second : nat_le (length planned.boxes) to ≡ false = grind (arith, common_steps) in
    let near_full : nat_lt 64 (slots_of planned.channels from + 1) ≡ is_full names from = ap (λ (n : ℕ). nat_lt 64 (n + 1)) (slots from) ∙ one_too_many (length (slot_names names from)) in
    let far_full : nat_lt 64 (slots_of planned.channels to + 1) ≡ is_full names to = ap (λ (n : ℕ). nat_lt 64 (n + 1)) (slots to) ∙ one_too_many (length (slot_names names to)) in
    let text_full : nat_le 1024 (length planned.channels) ≡ false = grind (arith, common_steps) in
    let plan_full : nat_le 262144 (length planned.channels) ≡ false = grind (arith, common_steps) in
    (rw (first, second, apart, plan_full, near_full, far_full) refl, rw (apart, text_full) (rule_alone (is_full names from) (is_full names to)))

-- the fault of the line for the plan's refusal of one tunnel more
abbrev pub widening_refusal : Result (Unit {0}) PlanFault → Result (Unit {0}) LineFault
widening_refusal (Ok done) = Ok tt
widening_refusal (Err fault) = Err (record { number = LIMIT_PASSED })

same_widening : (tunnels near far : Bool) → widening_refusal (unless_fault (fault_if tunnels TooManyTunnels (fault_if (near || far) SlotsFull None))) ≡ unless (near || far || tunnels) LIMIT_PASSED tt
same_widening true true far = refl
same_widening true false true = refl
same_widening true false false = refl
same_widening false true far = refl
same_widening false false true = refl
same_widening false false false = refl

pub widens_by_plan : (names : NameLists) (planned : PlanState) → ((who : ℕ) → slots_of planned.channels who ≡ length (slot_names names who)) → 0 < length planned.channels
    → widening_refusal (plan.may_widen planned) ≡ check_widen names (last_channel planned.channels)
widens_by_plan names planned slots some =
    let last = last_channel planned.channels in
    let first : (length planned.channels == 0) ≡ false = grind (arith, common_steps) in
    let near_full : nat_lt 64 (slots_of planned.channels (last_channel planned.channels).from + 1) ≡ is_full names (last_channel planned.channels).from = ap (λ (n : ℕ). nat_lt 64 (n + 1)) (slots last.from) ∙ one_too_many (length (slot_names names last.from)) in
    let far_full : nat_lt 64 (slots_of planned.channels (last_channel planned.channels).to + 1) ≡ is_full names (last_channel planned.channels).to = ap (λ (n : ℕ). nat_lt 64 (n + 1)) (slots last.to) ∙ one_too_many (length (slot_names names last.to)) in
    rw (first, near_full, far_full) (same_widening (nat_le 8 (length last.tunnels)) (is_full names last.from) (is_full names last.to))

-- a tunnel more that the line's rules let pass breaks no rule of the plan
none_refused : (fault : Option PlanFault) → widening_refusal (unless_fault fault) ≡ Ok tt → fault ≡ None
none_refused None passes = refl
none_refused (Some fault) passes = absurd cc

-- so it is refused for want of memory alone
pub widen_wanting : (names : NameLists) (planned : PlanState) (fault : PlanFault) → ((who : ℕ) → slots_of planned.channels who ≡ length (slot_names names who)) → 0 < length planned.channels
    → check_widen names (last_channel planned.channels) ≡ Ok tt → IsRefusal fault (widen_fault planned) → IsRefusal fault None
widen_wanting names planned fault slots some widens refused =
    subst (λ (o : Option PlanFault). IsRefusal fault o) (none_refused (widen_fault planned) (widens_by_plan names planned slots some ∙ widens)) refused

-- ---- names, shapes and channels

-- a list of lists, one of which gets one more
one_longer : {A : Type 0} (xs : List (List A)) (i j : ℕ) (x : A) → i < length xs
    → length (slice_index_or (slice_set xs i (slice_index_or xs i [] ++ x ∷ [])) j []) ≡ length (slice_index_or xs j []) + part (i == j) 1
one_longer xs i j x within = grind (arith, common_steps)

-- a box gets the name of one more slot
slots_grow : (names : NameLists) (who k : ℕ) (name : List ℕ) → who < length names.slots → length (slot_names (with_slot_name names who name) k) ≡ length (slot_names names k) + part (who == k) 1
slots_grow names who k name within = one_longer names.slots who k name within

-- and the medium of one
media_grow : (shape : List BoxShapeState) (who k : ℕ) (medium : Medium) → who < length shape → length (shape_of (with_medium shape who medium) k).media ≡ length (shape_of shape k).media + part (who == k) 1
media_grow shape who k medium within = grind (arith, common_steps)

-- and a channel gives it the slot
channels_grow : (channels : List ChannelState) (from to : ℕ) (medium : Medium) (who : ℕ)
    → slots_of (channels ++ channel_between channels from to (medium ∷ []) ∷ []) who ≡ slots_of channels who + (part (from == who) 1 + part (to == who) 1)
channels_grow channels from to medium who = slots_append channels (channel_between channels from to (medium ∷ []) ∷ []) who
    ∙ ap (λ (n : ℕ). slots_of channels who + n) (slots_one (channel_between channels from to (medium ∷ [])) who)

-- channels that give two boxes one slot more each, with its name and medium
in_form_with_slots : (d : Declared) (channels : List ChannelState) (medium : Medium) (from : ℕ) (slot : List ℕ) (to : ℕ) (far_slot : List ℕ)
    → ((who : ℕ) → slots_of channels who ≡ slots_of d.channels who + (part (from == who) 1 + part (to == who) 1)) → from < length d.names.boxes → to < length d.names.boxes → IsInForm d
    → IsInForm (record (with_new_slot (with_new_slot (record d { channels = channels }) from slot medium) to far_slot medium) { section = section.Channels })
in_form_with_slots d channels medium from slot to far_slot grow near far form =
    let listed = form.named.listed in
    let fits = form.fits.boxes in
    let one_named = with_slot_name d.names from slot in
    let one_shaped = with_medium d.shape from medium in
    let as_many : length one_named.slots ≡ length d.names.slots = length-set d.names.slots from (slot_names d.names from ++ slot ∷ []) in
    let as_many_still : length (with_slot_name one_named to far_slot).slots ≡ length one_named.slots = length-set one_named.slots to (slot_names one_named to ++ far_slot ∷ []) in
    let as_many_shapes : length one_shaped ≡ length d.shape = grind (arith, common_steps) in
    let all_shapes : length (with_medium one_shaped to medium) ≡ length one_shaped = grind (arith, common_steps) in
    let names_grow : (who : ℕ) → length (slot_names (with_slot_name one_named to far_slot) who) ≡ length (slot_names d.names who) + part (from == who) 1 + part (to == who) 1 =
    λ who. omega (arith, slots_grow one_named to who far_slot (omega arith), slots_grow d.names from who slot (omega arith)) in
    record {
      fits = record {
        boxes = omega arith;
        slots = λ who within. omega (arith, form.fits.slots who within, names_grow who, media_grow one_shaped to who medium (omega arith), media_grow d.shape from who medium (omega arith));
      };
      named = record {
        listed = omega arith;
        boxes = form.named.boxes;
        slots = λ who. omega (arith, grow who, form.named.slots who, names_grow who);
      };
      block = tt;
    }

-- a channel more, and a slot of each of its boxes
pub in_form_with_channel : (d : Declared) (medium : Medium) (from : ℕ) (slot : List ℕ) (to : ℕ) (far_slot : List ℕ)
    → from < length d.names.boxes → to < length d.names.boxes → IsInForm d → IsInForm (with_joined d medium from slot to far_slot)
in_form_with_channel d medium from slot to far_slot near far form =
    in_form_with_slots d (d.channels ++ channel_between d.channels from to (medium ∷ []) ∷ []) medium from slot to far_slot (λ who. channels_grow d.channels from to medium who) near far form

-- and a tunnel more of the last channel
pub in_form_with_tunnel : (d : Declared) (medium : Medium) (slot far_slot : List ℕ) (from to : ℕ) → 0 < length d.channels → from ≡ (last_channel d.channels).from → to ≡ (last_channel d.channels).to
    → from < length d.names.boxes → to < length d.names.boxes → IsInForm d → IsInForm (with_widened d medium from slot to far_slot)
in_form_with_tunnel d medium slot far_slot from to some first second near far form =
    in_form_with_slots d (widened d.channels medium) medium from slot to far_slot (λ who. rw (first, second) (slots_widened d.channels medium who some)) near far form

-- the last channel's boxes are declared
pub last_declared : (planned : PlanState) (d : Declared) → IsLaidOut planned → IsInForm d → map box_seen planned.boxes ≡ d.boxes → planned.channels ≡ d.channels → 0 < length d.channels
    → ((last_channel d.channels).from < length d.names.boxes) × ((last_channel d.channels).to < length d.names.boxes)
last_declared planned d laid form boxes channels some =
    let there : ((last_channel d.channels).from < length planned.boxes) × ((last_channel d.channels).to < length planned.boxes) =
    subst (λ (l : List ChannelState). ((last_channel l).from < length planned.boxes) × ((last_channel l).to < length planned.boxes)) channels (last_there planned laid (subst (λ (l : List ChannelState). 0 < length l) (sym channels) some)) in
    let as_many : length d.boxes ≡ length d.names.boxes = form.named.boxes in
    let seen : length d.boxes ≡ length (map box_seen planned.boxes) = ap length (sym boxes) in
    (omega (arith, there.0, as_many, seen, length-map planned.boxes box_seen), omega (arith, there.1, as_many, seen, length-map planned.boxes box_seen))
