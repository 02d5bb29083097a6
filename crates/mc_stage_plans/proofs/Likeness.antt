-- What is declared, and the network of that time: they are of the same boxes, slots and channels, and the same channels are out.
use Rattle.std.proofs.Common.{◌≡◌, ◌≢◌, inl, inr, ℕ, zero, suc, ◌+◌, ◌<◌, ◌==◌, ◌||◌, Bool, true, false, List, [], ◌∷◌, ◌++◌, length, length-append, map, replicate, Some, refl, sym, ap, ◌∙◌, subst, zero-add, arith}
use Rattle.std.specs.List.{All, enumerate_from, list_any}
use Rattle.std.proofs.lemmas.Bool.{cases_eq}
use Rattle.std.proofs.lemmas.List.{get_or-map, get_or_past, get_or-set_other, get_or-set_same, length-map, length-set, map-append}
use Rattle.std.proofs.lemmas.List.Elements.{All-head, All-nil, All-push, All-tail, All-weaker}
use Rattle.std.proofs.lemmas.List.FromFn.{get_or-enumerate_from, length-enumerate_from}
use Rattle.mc_signal.specs.Choice.{codecs_of}
use Rattle.mc_signal.specs.declared.Medium.{Medium}
use Rattle.mc_signal.specs.declared.codec_list.CodecList.{CodecList}
use Rattle.mc_slot.specs.declared.Slot.{Slot}
use Rattle.mc_text.specs.NameLists.{NameLists, slot_names}
use Rattle.mc_box.specs.BoxShapes.{BoxShapeState, box_shape, no_shape, shape_of}
use Rattle.mc_box.specs.Boxes.{BoxState, first_slot, with_new_slot}
use Rattle.mc_box.specs.declared.setup.SlotSetup.{SlotSetup}
use Rattle.mc_growth.proofs.Joined.{SlotKind, away, before, box_away, box_else, box_near, count_joined, kind_of, length_boxes, near, tunnel_away, tunnel_before, tunnel_near}
use Rattle.mc_growth.proofs.Lists.{defaults_added, length_two}
use Rattle.mc_growth.specs.Growths.{GrownState, Join as AJoin, grown_from, with_cut, with_join}
use Rattle.mc_growth.specs.Joins.{MayJoin, away_slot, joined, joining, near_slot}
use Rattle.mc_growth.specs.Outs.{channel_at, flags_without, is_of, is_out}
use Rattle.mc_lines.proofs.Joining.{in_form_with_channel}
use Rattle.mc_lines.specs.BoxLines.{box_seen}
use Rattle.mc_lines.specs.Forms.{IsInForm, NamesEach}
use Rattle.mc_lines.specs.Meaning.{with_joined, with_medium}
use Rattle.mc_lines.specs.SoFar.{Declared, DeclaredBox}
use Rattle.mc_lines.specs.declared.tail.Tail.TheVariants.{Grow}
use Rattle.mc_model.specs.Worlds.{ChannelState, TunnelPlace, WorldState, box_at, slot_count}
use Rattle.mc_net.proofs.FirstPrograms.{programs_shaped}
use Rattle.mc_net.proofs.Laid.{owner_push, owners}
use Rattle.mc_net.proofs.MadeNets.{nets_are_named}
use Rattle.mc_net.proofs.Runnable.{IsRunnable, says_finished, says_runnable}
use Rattle.mc_net.proofs.Shaped.{AreShapes}
use Rattle.mc_net.proofs.Unfinished.{none_open}
use Rattle.mc_net.specs.Nets.{DeclaresNet, NamesAll, with_programs}
use Rattle.mc_net.specs.declared.net.Net.{Net}
use Rattle.mc_plan.specs.Layouts.{with_program}
use Rattle.mc_plan.specs.Plans.{channel_between, slots_of, world_of}
use Rattle.mc_program_lines.specs.Finished.{program_of}
use Rattle.mc_program_lines.specs.Programs.{BlockState}
use Rattle.mc_script.specs.Places.{Fits}
use Rattle.mc_tail.specs.SoFar.{is_cut}
use Rattle.mc_stage_plans.proofs.InOrder.{AreInPlace, channel_placed, says_placed}
use Rattle.mc_stage_plans.proofs.Lawful.{growth_comes}

pub record AreLike (names : NameLists) (shape : List BoxShapeState) (boxes : List DeclaredBox) (channels : List ChannelState) (cut : List ℕ) (network : GrownState) : Type 0 where
  pub fits : Fits names shape
  pub named : NamesEach names boxes channels
  pub count : length names.boxes ≡ length network.world.boxes
  pub codecs : (who : ℕ) → All (λ codec. codec < length names.codecs) (codecs_of (box_at network.world who).receives)
  pub shaped : (who : ℕ) → who < length network.world.boxes → box_shape (box_at network.world who) ≡ shape_of shape who
  pub same : network.world.channels ≡ channels
  pub placed : AreInPlace channels
  pub all : length network.out ≡ slot_count network.world
  pub outs : (s : ℕ) → s < slot_count network.world → is_out network.out s ≡ is_cut cut (Some (channel_at network.world s))
  pub known : All (λ channel. channel < length channels) cut

-- what is declared is that of the network
abbrev pub IsLike : Declared → List ℕ → GrownState → Type 0
IsLike d cut network = AreLike d.names d.shape d.boxes d.channels cut network

-- each box has as many slots as names for them
pub slots_named : (names : NameLists) (shape : List BoxShapeState) (boxes : List DeclaredBox) (channels : List ChannelState) (cut : List ℕ) (network : GrownState) (who : ℕ)
    → AreLike names shape boxes channels cut network → who < length network.world.boxes → length (slot_names names who) ≡ length (box_at network.world who).slots
slots_named names shape boxes channels cut network who like below =
    sym (like.fits.slots who (subst (λ (n : ℕ). who < n) (sym like.count) below))
    ∙ ap (λ (s : BoxShapeState). length s.media) (sym (like.shaped who below))
    ∙ length-map (box_at network.world who).slots (λ (slot : Slot). slot.medium)

-- ---- before `grow`

pub none_out : (n s : ℕ) → is_out (replicate n false) s ≡ false
none_out zero s = refl
none_out (suc n) zero = refl
none_out (suc n) (suc s) = none_out n s

as_long : (n : ℕ) → length (replicate {A = Bool} n false) ≡ n
as_long zero = refl
as_long (suc n) = ap suc (as_long n)

same_channels : (first : WorldState) (blocks : List BlockState) → (with_programs first blocks).channels ≡ first.channels
same_channels first [] = refl
same_channels first (block ∷ blocks) = same_channels (with_program first block.who (program_of block)) blocks

pub first_like : (text : List ℕ) (net : Net) (declares : DeclaresNet Grow text net) → IsLike declares.declared [] (grown_from net.world)
first_like text net declares =
    let d = declares.declared in
    let plan = declares.world.plan in
    let runs : IsRunnable d = says_runnable Grow text d declares.says in
    let finished = says_finished Grow text d declares.says in
    let named : NamesAll d.names net.world = subst (λ (names : NameLists). NamesAll names net.world) declares.names (nets_are_named Grow text net declares).world in
    let shaped : AreShapes d.shape (map box_seen plan.boxes) plan.channels (owners d.blocks) = rw (declares.world.boxes, declares.world.channels) runs.shaped in
    record {
      fits = runs.fits;
      named = runs.named;
      count = named.boxes;
      codecs = named.codecs;
      shaped = rw declares.world.world (programs_shaped d.shape plan d.section d.blocks shaped runs.laid finished);
      same = ap (λ (w : WorldState). w.channels) declares.world.world ∙ same_channels (world_of plan) d.blocks ∙ declares.world.channels;
      placed = says_placed Grow text d declares.says;
      all = as_long (slot_count net.world);
      outs = λ s inside. none_out (slot_count net.world) s;
      known = All-nil (λ channel. channel < length d.channels);
    }

-- ---- a channel is cut

-- the flag of a slot after a cut
flag_is : (world : WorldState) (out : List Bool) (channel s : ℕ) → s < length out → is_out (flags_without world out channel) s ≡ (is_out out s || is_of world channel s)
flag_is world out channel s inside =
    get_or-map (λ (entry : ℕ × Bool). entry.1 || is_of world channel entry.0) (enumerate_from 0 out) s (0, false) false (omega (arith, length-enumerate_from 0 out, inside))
    ∙ ap (λ (entry : ℕ × Bool). entry.1 || is_of world channel entry.0) (get_or-enumerate_from 0 out s (0, false) inside ∙ ap (λ (n : ℕ). (n, is_out out s)) (zero-add s))

other_way : (a b : ℕ) → (a == b) ≡ (b == a)
other_way a b = by (a == b) refl (b == a) refl
  where
    by : (x : Bool) → (a == b) ≡ x → (y : Bool) → (b == a) ≡ y → x ≡ y
    by true e true f = refl
    by false e false f = refl
    by true e false f = absurd (let same : a ≡ b = grind arith in let apart : b ≢ a = grind arith in apart (sym same))
    by false e true f = absurd (let same : b ≡ a = grind arith in let apart : a ≢ b = grind arith in apart (sym same))

pub cut_like : (names : NameLists) (shape : List BoxShapeState) (boxes : List DeclaredBox) (channels : List ChannelState) (cut : List ℕ) (network : GrownState) (channel : ℕ)
    → channel < length channels → AreLike names shape boxes channels cut network → AreLike names shape boxes channels (cut ++ channel ∷ []) (with_cut network channel)
cut_like names shape boxes channels cut network channel below like = record {
  fits = like.fits;
  named = like.named;
  count = like.count;
  codecs = like.codecs;
  shaped = like.shaped;
  same = like.same;
  placed = like.placed;
  all = length-map (enumerate_from 0 network.out) (λ (entry : ℕ × Bool). entry.1 || is_of network.world channel entry.0) ∙ length-enumerate_from 0 network.out ∙ like.all;
  outs = λ s inside.
      flag_is network.world network.out channel s (omega (arith, like.all, inside))
      ∙ ap (λ (b : Bool). b || is_of network.world channel s) (like.outs s inside)
      ∙ ap (λ (b : Bool). is_cut cut (Some (channel_at network.world s)) || b) (other_way (channel_at network.world s) channel)
      ∙ sym (owner_push cut channel (channel_at network.world s));
  known = All-push (λ one. one < length channels) cut channel like.known below;
}

-- ---- a channel joins

-- a shape with a slot more
abbrev grown_shape : BoxShapeState → Medium → BoxShapeState
grown_shape shape medium = record shape { media = shape.media ++ medium ∷ [] }

shape_grows : (box : BoxState) (setup : SlotSetup) → box_shape (with_new_slot box setup) ≡ grown_shape (box_shape box) setup.medium
shape_grows box setup = ap (λ (media : List Medium). record (box_shape box) { media = media }) (map-append (λ (slot : Slot). slot.medium) box.slots (first_slot setup ∷ []))

joined_shaped : (shape : List BoxShapeState) (world : WorldState) (medium : Medium) (from to who : ℕ) → length shape ≡ length world.boxes → ((k : ℕ) → k < length world.boxes → box_shape (box_at world k) ≡ shape_of shape k)
    → MayJoin world from to → who < length world.boxes → box_shape (box_at (joined world medium from to) who) ≡ shape_of (with_medium (with_medium shape from medium) to medium) who
joined_shaped shape world medium from to who count shaped may below = elim (cases_eq who from) [
  | inl same ↦ subst (λ (k : ℕ). box_shape (box_at (joined world medium from to) k) ≡ shape_of (with_medium half to medium) k) (sym same)
      (ap box_shape (box_near world medium from to may)
      ∙ shape_grows (box_at world from) (near_slot world medium)
      ∙ ap (λ (s : BoxShapeState). grown_shape s medium) (shaped from may.near)
      ∙ sym (get_or-set_other half to from (grown_shape (shape_of half to) medium) no_shape may.apart ∙ get_or-set_same shape from (grown_shape (shape_of shape from) medium) no_shape (omega (arith, may.near))))
  | inr other ↦ elim (cases_eq who to) [
    | inl same ↦ subst (λ (k : ℕ). box_shape (box_at (joined world medium from to) k) ≡ shape_of (with_medium half to medium) k) (sym same)
        (ap box_shape (box_away world medium from to may)
        ∙ shape_grows (box_at world to) (away_slot world medium)
        ∙ ap (λ (s : BoxShapeState). grown_shape s medium) (shaped to may.away ∙ sym (get_or-set_other shape from to (grown_shape (shape_of shape from) medium) no_shape back))
        ∙ sym (get_or-set_same half to (grown_shape (shape_of half to) medium) no_shape (omega (arith, may.away, length-set shape from (grown_shape (shape_of shape from) medium)))))
    | inr neither ↦
        ap box_shape (box_else world medium from to who other neither)
        ∙ shaped who below
        ∙ sym (get_or-set_other half to who (grown_shape (shape_of half to) medium) no_shape neither ∙ get_or-set_other shape from who (grown_shape (shape_of shape from) medium) no_shape other)
  ]
]
  where
    half : List BoxShapeState
    half = with_medium shape from medium

    back : to ≢ from
    back same = may.apart (sym same)

none_such : (cut : List ℕ) (n : ℕ) → All (λ channel. channel < n) cut → list_any (λ channel. channel == n) cut ≡ false
none_such [] n all = refl
none_such (one ∷ cut) n all =
    let less : one < n = All-head (λ channel. channel < n) one cut all in
    let here : (one == n) ≡ false = grind arith in
    ap (λ (b : Bool). b || list_any (λ channel. channel == n) cut) here ∙ none_such cut n (All-tail (λ channel. channel < n) one cut all)

joined_outs : (world : WorldState) (medium : Medium) (from to : ℕ) (out : List Bool) (cut : List ℕ) (s : ℕ) → length out ≡ slot_count world → All (λ channel. channel < length world.channels) cut
    → ((k : ℕ) → k < slot_count world → is_out out k ≡ is_cut cut (Some (channel_at world k))) → SlotKind (slot_count world) s
    → is_out (out ++ false ∷ false ∷ []) s ≡ is_cut cut (Some (channel_at (joined world medium from to) s))
joined_outs world medium from to out cut s all known outs (before below) =
    defaults_added out false s ∙ outs s below ∙ ap (λ (t : TunnelPlace). is_cut cut (Some t.channel)) (sym (tunnel_before world medium from to s below))
joined_outs world medium from to out cut s all known outs (near is) =
    let channel : channel_at (joined world medium from to) s ≡ length world.channels = ap (λ (n : ℕ). channel_at (joined world medium from to) n) is ∙ ap (λ (t : TunnelPlace). t.channel) (tunnel_near world medium from to) in
    defaults_added out false s ∙ get_or_past out s false (omega (arith, is, all)) ∙ sym (ap (λ (n : ℕ). is_cut cut (Some n)) channel ∙ none_such cut (length world.channels) known)
joined_outs world medium from to out cut s all known outs (away is) =
    let channel : channel_at (joined world medium from to) s ≡ length world.channels = ap (λ (n : ℕ). channel_at (joined world medium from to) n) is ∙ ap (λ (t : TunnelPlace). t.channel) (tunnel_away world medium from to) in
    defaults_added out false s ∙ get_or_past out s false (omega (arith, is, all)) ∙ sym (ap (λ (n : ℕ). is_cut cut (Some n)) channel ∙ none_such cut (length world.channels) known)

-- a channel of one tunnel
abbrev one_tunnel : Medium → (from to low high : ℕ) → ChannelState
one_tunnel medium from to low high = record { from = from; to = to; tunnels = record { medium = medium; from = low; to = high } ∷ [] }

pub join_like : (d : Declared) (cut : List ℕ) (network : GrownState) (medium : Medium) (from : ℕ) (slot : List ℕ) (to : ℕ) (far_slot : List ℕ) → MayJoin network.world from to → IsLike d cut network
    → IsLike (with_joined d medium from slot to far_slot) cut (with_join network medium from to)
join_like d cut network medium from slot to far_slot may like =
    let world = network.world in
    let near_named : from < length d.names.boxes = omega (arith, may.near, like.count) in
    let far_named : to < length d.names.boxes = omega (arith, may.away, like.count) in
    let form : IsInForm (record d { blocks = [] }) = record { fits = like.fits; named = like.named; block = rw (none_open d.section) tt } in
    let after = in_form_with_channel (record d { blocks = [] }) medium from slot to far_slot near_named far_named form in
    let near_slots : length (box_at network.world from).slots ≡ slots_of d.channels from = sym (like.named.slots from ∙ slots_named d.names d.shape d.boxes d.channels cut network from like may.near) in
    let far_slots : length (box_at network.world to).slots ≡ slots_of d.channels to = sym (like.named.slots to ∙ slots_named d.names d.shape d.boxes d.channels cut network to like may.away) in
    let channel : joining network.world medium from to ≡ channel_between d.channels from to (medium ∷ []) =
    ap (λ (n : ℕ). one_tunnel medium from to n (length (box_at world to).slots)) near_slots ∙ ap (λ (n : ℕ). one_tunnel medium from to (slots_of d.channels from) n) far_slots in
    record {
      fits = after.fits;
      named = after.named;
      count = like.count ∙ sym (length_boxes world medium from to);
      codecs = λ who. subst (λ (list : CodecList). All (λ codec. codec < length d.names.codecs) (codecs_of list)) (sym ((growth_comes network (AJoin medium from to)).receives who)) (like.codecs who);
      shaped = λ who below. joined_shaped d.shape world medium from to who (like.fits.boxes ∙ like.count) like.shaped may (subst (λ (n : ℕ). who < n) (length_boxes world medium from to) below);
      same = ap (λ (l : List ChannelState). l ++ joining network.world medium from to ∷ []) like.same ∙ ap (λ (ends : ChannelState). d.channels ++ ends ∷ []) channel;
      placed = channel_placed d.channels from to medium may.apart like.placed;
      all = length_two network.out false false ∙ (ap (λ (n : ℕ). n + 2) like.all ∙ sym (count_joined world medium from to));
      outs = λ s inside. joined_outs world medium from to network.out cut s like.all (subst (λ (l : List ChannelState). All (λ channel. channel < length l) cut) (sym like.same) like.known) like.outs (kind_of world medium from to s inside);
      known = All-weaker (λ one. one < length d.channels) (λ one. one < length (d.channels ++ channel_between d.channels from to (medium ∷ []) ∷ []))
          (λ one less. omega (arith, less, length-append d.channels (channel_between d.channels from to (medium ∷ []) ∷ []))) cut like.known;
    }
