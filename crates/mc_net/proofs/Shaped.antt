-- The shapes that lines leave are those of the boxes of the first world.
use Rattle.std.proofs.Common.{None, ◌≡◌, ◌≢◌, ◌||◌, ℕ, zero, suc, ◌+◌, ◌*◌, ◌<◌, ◌==◌, Bool, true, false, if◌then◌else◌, List, [], ◌∷◌, ◌++◌, length, map, slice_index_or, refl, sym, ap, ◌∙◌, subst, arith, append_assoc, length-append, zero-add}
use Rattle.std.proofs.lemmas.Grind.{common_steps}
use Rattle.std.proofs.lemmas.List.{append-nil, get_or-set_other, get_or-set_same, length-set, map-append}
use Rattle.mc_signal.specs.declared.Medium.{Medium}
use Rattle.mc_slot.specs.declared.Slot.{Slot}
use Rattle.mc_box.specs.BoxShapes.{BoxShapeState, box_shape, no_shape, shape_of}
use Rattle.mc_box.specs.Boxes.{first_slot, no_box}
use Rattle.mc_box.specs.declared.event.Kind.{Kind}
use Rattle.mc_box.specs.declared.setup.SlotSetup.{SlotSetup}
use Rattle.mc_model.specs.Worlds.{ChannelState, box_at}
use Rattle.mc_plan.specs.Plans.{PlanState, boxes_from, channel_between, last_channel, slots_of, widened, world_of}
use Rattle.mc_plan.proofs.Widened.{setups_widened}
use Rattle.mc_plan.specs.Setups.{setup_if, setups_at, setups_from, setups_of}
use Rattle.mc_plan.specs.declared.plan.BoxPlan.{BoxPlan}
use Rattle.mc_lines.specs.BoxLines.{box_seen}
use Rattle.mc_net.proofs.Laid.{has_owner, owner_push}
use Rattle.mc_lines.specs.Meaning.{declared_at, new_shape, with_medium, programmed_shape, with_send_list}
use Rattle.mc_lines.specs.SoFar.{DeclaredBox}

-- the media of the slots that channels give a box
abbrev pub media_of : List ChannelState → ℕ → List Medium
media_of channels who = map (λ (setup : SlotSetup). setup.medium) (setups_of channels who)

-- the shape of a box without a program
abbrev pub plain_shape : Kind → List Medium → BoxShapeState
plain_shape kind media = record { kind = kind; media = media; programmed = false }

-- the shape of a declared box, where these have programs: it has a slot for each tunnel that leads to it
abbrev pub declared_shape : List DeclaredBox → List ChannelState → List ℕ → ℕ → BoxShapeState
declared_shape boxes channels whos who = record { kind = (declared_at boxes who).kind; media = media_of channels who; programmed = has_owner whos who }

-- the shapes are those of the declared boxes
pub record AreShapes (shape : List BoxShapeState) (boxes : List DeclaredBox) (channels : List ChannelState) (whos : List ℕ) : Type 0 where
  pub count : length shape ≡ length boxes
  pub each : (who : ℕ) → shape_of shape who ≡ declared_shape boxes channels whos who

pub none_shaped : AreShapes [] [] [] []
none_shaped = record { count = refl; each = λ who. refl }

-- ---- a box more

pub box_shaped : (shape : List BoxShapeState) (boxes : List DeclaredBox) (channels : List ChannelState) (declared : DeclaredBox) → AreShapes shape boxes channels [] → AreShapes (shape ++ new_shape declared.kind ∷ []) (boxes ++ declared ∷ []) channels []
box_shaped shape boxes channels declared are = record {
  count = let same = are.count in omega (arith, length-append shape (new_shape declared.kind ∷ []), length-append boxes (declared ∷ []));
  each = λ who. by who (who == length shape) refl;
}
  where
    by : (who : ℕ) (last : Bool) → (who == length shape) ≡ last → shape_of (shape ++ new_shape declared.kind ∷ []) who ≡ declared_shape (boxes ++ declared ∷ []) channels [] who
    by who true e =
        let same = are.count in
        let new : shape_of (shape ++ new_shape declared.kind ∷ []) who ≡ new_shape declared.kind = grind (arith, common_steps) in
        let last : declared_at (boxes ++ declared ∷ []) who ≡ declared = grind (arith, common_steps) in
        let none : shape_of shape who ≡ no_shape = grind (arith, common_steps) in
        let empty : media_of channels who ≡ [] = ap (λ (s : BoxShapeState). s.media) (sym (are.each who) ∙ none) in
        rw (new, last, empty) refl
    by who false e =
        let same = are.count in
        let old : shape_of (shape ++ new_shape declared.kind ∷ []) who ≡ shape_of shape who = grind (arith, common_steps) in
        let earlier : declared_at (boxes ++ declared ∷ []) who ≡ declared_at boxes who = grind (arith, common_steps) in
        rw (old, earlier) (are.each who)

-- ---- a box sends other codecs

same_kind : (boxes : List DeclaredBox) (who k : ℕ) (sends : List ℕ) → (declared_at (with_send_list boxes who sends) k).kind ≡ (declared_at boxes k).kind
same_kind [] who k sends = refl
same_kind (box ∷ boxes) zero zero sends = refl
same_kind (box ∷ boxes) zero (suc k) sends = refl
same_kind (box ∷ boxes) (suc who) zero sends = refl
same_kind (box ∷ boxes) (suc who) (suc k) sends = same_kind boxes who k sends

pub send_shaped : (shape : List BoxShapeState) (boxes : List DeclaredBox) (channels : List ChannelState) (who : ℕ) (sends : List ℕ) → AreShapes shape boxes channels [] → AreShapes shape (with_send_list boxes who sends) channels []
send_shaped shape boxes channels who sends are = record {
  count = are.count ∙ sym (length-set boxes who (record (declared_at boxes who) { sends = sends }));
  each = λ k. rw (same_kind boxes who k sends) (are.each k);
}

-- ---- a channel more

-- a medium, or none
abbrev medium_if : Bool → Medium → List Medium
medium_if here medium = if here then medium ∷ [] else []

-- a shape with more slots
abbrev grown : BoxShapeState → List Medium → BoxShapeState
grown shape media = record shape { media = shape.media ++ media }

-- a box of the list gets a slot
one_grown : (shape : List BoxShapeState) (who k : ℕ) (medium : Medium) → who < length shape → shape_of (with_medium shape who medium) k ≡ grown (shape_of shape k) (medium_if (who == k) medium)
one_grown shape who k medium within = by (who == k) refl
  where
    by : (here : Bool) → (who == k) ≡ here → shape_of (with_medium shape who medium) k ≡ grown (shape_of shape k) (medium_if here medium)
    by true e =
        let same : who ≡ k = grind arith in
        let new : shape_of (with_medium shape who medium) k ≡ grown (shape_of shape who) (medium ∷ []) = grind (arith, common_steps) in
        rw (← same) (rw (← same) at new)
    by false e =
        let old : shape_of (with_medium shape who medium) k ≡ shape_of shape k = grind (arith, common_steps) in
        rw old (ap (λ (media : List Medium). record (shape_of shape k) { media = media }) (sym (append-nil (shape_of shape k).media)))

-- the slots at a channel of one tunnel
at_tunnel : (near far : Bool) (one two : SlotSetup) → map (λ (setup : SlotSetup). setup.medium) (setup_if near one ++ setup_if far two ++ [] ++ []) ≡ [] ++ medium_if near one.medium ++ medium_if far two.medium
at_tunnel true true one two = refl
at_tunnel true false one two = refl
at_tunnel false true one two = refl
at_tunnel false false one two = refl

-- a channel of one tunnel
abbrev one_tunnel : (from to near far : ℕ) → Medium → ChannelState
one_tunnel from to near far medium = record { from = from; to = to; tunnels = record { medium = medium; from = near; to = far } ∷ [] }

regrouped : (a b c d : List Medium) → a ++ (b ++ c ++ d) ≡ a ++ b ++ c ++ d
regrouped a b c d = simp append_assoc

media_grow : (channels : List ChannelState) (from to near far : ℕ) (medium : Medium) (who count : ℕ)
    → map (λ (setup : SlotSetup). setup.medium) (setups_from who count (channels ++ one_tunnel from to near far medium ∷ []))
    ≡ map (λ (setup : SlotSetup). setup.medium) (setups_from who count channels) ++ medium_if (from == who) medium ++ medium_if (to == who) medium
media_grow [] from to near far medium who count =
    at_tunnel (from == who) (to == who) (record { origin = 2 * count; medium = medium; initiator = true; address = None }) (record { origin = 2 * count + 1; medium = medium; initiator = false; address = None })
media_grow (ends ∷ channels) from to near far medium who count =
    let medium_in = λ (setup : SlotSetup). setup.medium in
    let here = setups_at who count ends in
    let rest = setups_from who (count + length ends.tunnels) channels in
    let more = setups_from who (count + length ends.tunnels) (channels ++ one_tunnel from to near far medium ∷ []) in
    map-append medium_in here more
    ∙ ap (λ (media : List Medium). map medium_in here ++ media) (media_grow channels from to near far medium who (count + length ends.tunnels))
    ∙ regrouped (map medium_in here) (map medium_in rest) (medium_if (from == who) medium) (medium_if (to == who) medium)
    ∙ ap (λ (media : List Medium). media ++ medium_if (from == who) medium ++ medium_if (to == who) medium) (sym (map-append medium_in here rest))

pub channel_shaped : (shape : List BoxShapeState) (boxes : List DeclaredBox) (channels : List ChannelState) (from to : ℕ) (medium : Medium) → from < length shape → to < length shape → AreShapes shape boxes channels []
    → AreShapes (with_medium (with_medium shape from medium) to medium) boxes (channels ++ channel_between channels from to (medium ∷ []) ∷ []) []
channel_shaped shape boxes channels from to medium near far are = record {
  count = as_many to (with_medium shape from medium) ∙ as_many from shape ∙ are.count;
  each = λ who.
      one_grown (with_medium shape from medium) to who medium (subst (λ (n : ℕ). to < n) (sym (as_many from shape)) far)
      ∙ ap (λ (s : BoxShapeState). grown s (medium_if (to == who) medium)) (one_grown shape from who medium near)
      ∙ ap (λ (s : BoxShapeState). grown (grown s (medium_if (from == who) medium)) (medium_if (to == who) medium)) (are.each who)
      ∙ ap (plain_shape (declared_at boxes who).kind) (sym (media_grow channels from to (slots_of channels from) (slots_of channels to) medium who 0));
}
  where
    as_many : (who : ℕ) (shape : List BoxShapeState) → length (with_medium shape who medium) ≡ length shape
    as_many who shape = length-set shape who (grown (shape_of shape who) (medium ∷ []))

-- a tunnel more of the last channel
pub tunnel_shaped : (shape : List BoxShapeState) (boxes : List DeclaredBox) (channels : List ChannelState) (medium : Medium) → 0 < length channels
    → (last_channel channels).from < length shape → (last_channel channels).to < length shape → AreShapes shape boxes channels []
    → AreShapes (with_medium (with_medium shape (last_channel channels).from medium) (last_channel channels).to medium) boxes (widened channels medium) []
tunnel_shaped shape boxes channels medium some near far are =
    let joined = channel_shaped shape boxes channels (last_channel channels).from (last_channel channels).to medium near far are in
    record {
      count = joined.count;
      each = λ who. joined.each who ∙ ap (λ (setups : List SlotSetup). plain_shape (declared_at boxes who).kind (map (λ (setup : SlotSetup). setup.medium) setups)) (sym (setups_widened channels medium who some));
    }

-- ---- a program more

pub program_shaped : (shape : List BoxShapeState) (boxes : List DeclaredBox) (channels : List ChannelState) (whos : List ℕ) (who : ℕ) → who < length shape → AreShapes shape boxes channels whos
    → AreShapes (programmed_shape shape who) boxes channels (whos ++ who ∷ [])
program_shaped shape boxes channels whos who below are = record {
  count = length-set shape who (record (shape_of shape who) { programmed = true }) ∙ are.count;
  each = λ k. rw (owner_push whos who k) (by k (who == k) refl);
}
  where
    always : (b : Bool) → true ≡ (b || true)
    always true = refl
    always false = refl

    never : (b : Bool) → b ≡ (b || false)
    never true = refl
    never false = refl

    by : (k : ℕ) (here : Bool) → (who == k) ≡ here → shape_of (programmed_shape shape who) k ≡ record { kind = (declared_at boxes k).kind; media = media_of channels k; programmed = has_owner whos k || who == k }
    by k true e =
        let same : who ≡ k = grind arith in
        let new : shape_of (programmed_shape shape who) who ≡ record (shape_of shape who) { programmed = true } = get_or-set_same shape who (record (shape_of shape who) { programmed = true }) no_shape below in
        let here : shape_of (programmed_shape shape who) k ≡ record (shape_of shape k) { programmed = true } = subst (λ (n : ℕ). shape_of (programmed_shape shape who) n ≡ record (shape_of shape n) { programmed = true }) same new in
        here ∙ ap (λ (s : BoxShapeState). record s { programmed = true }) (are.each k)
        ∙ ap (λ (b : Bool). record { kind = (declared_at boxes k).kind; media = media_of channels k; programmed = b }) (always (has_owner whos k) ∙ ap (λ (b : Bool). has_owner whos k || b) (sym e))
    by k false e =
        let apart : k ≢ who = grind arith in
        get_or-set_other shape who k (record (shape_of shape who) { programmed = true }) no_shape apart ∙ are.each k
        ∙ ap (λ (b : Bool). record { kind = (declared_at boxes k).kind; media = media_of channels k; programmed = b }) (never (has_owner whos k) ∙ ap (λ (b : Bool). has_owner whos k || b) (sym e))

-- ---- the first world

-- the slots of a new box have the media of their setups
first_media_of : (setups : List SlotSetup) → map (λ (slot : Slot). slot.medium) (map first_slot setups) ≡ map (λ (setup : SlotSetup). setup.medium) setups
first_media_of [] = refl
first_media_of (setup ∷ setups) = ap (λ (media : List Medium). setup.medium ∷ media) (first_media_of setups)

shape_from : (channels : List ChannelState) (plans : List BoxPlan) (first who : ℕ) → who < length plans
    → box_shape (slice_index_or (boxes_from channels first plans) who no_box) ≡ plain_shape (declared_at (map box_seen plans) who).kind (media_of channels (first + who))
shape_from channels [] first who below = absurd (omega arith)
shape_from channels (planned ∷ plans) first zero below =
    let same : first ≡ first + zero = omega arith in
    ap (λ (media : List Medium). plain_shape planned.kind media) (first_media_of (setups_of channels first) ∙ ap (media_of channels) same)
shape_from channels (planned ∷ plans) first (suc who) below =
    let next : first + 1 + who ≡ first + suc who = omega arith in
    rw (← next) (shape_from channels plans (first + 1) who (omega arith))

-- each box of a plan's world has its shape, without a program
pub plan_shaped : (plan : PlanState) (who : ℕ) → who < length plan.boxes → box_shape (box_at (world_of plan) who) ≡ declared_shape (map box_seen plan.boxes) plan.channels [] who
plan_shaped plan who below =
    shape_from plan.channels plan.boxes 0 who below
    ∙ ap (λ (n : ℕ). plain_shape (declared_at (map box_seen plan.boxes) who).kind (media_of plan.channels n)) (zero-add who)
