-- Slots are put into the lists of their boxes, tunnel by tunnel.
use Rattle.std.proofs.Common.{None, ◌≡◌, ◌+◌, ◌*◌, ◌<◌, ◌≤◌, ◌==◌, ℕ, zero, suc, Bool, true, false, All, List, [], ◌∷◌, ◌++◌, length, length-append, drop, replicate, slice_set, refl, ap, sym, ◌∙◌, subst, arith, append_assoc, flat_map, Vec}
use Rattle.std.specs.declared.alloc.Global.{Global}
use Rattle.std.proofs.Math.ListN.{get_or}
use Rattle.std.proofs.lemmas.Grind.{common_steps}
use Rattle.std.proofs.lemmas.List.{append-nil, drop_all, drop_more, get_or-append-add, get_or-map, map-set, map_push, replicate_more}
use Rattle.std.proofs.lemmas.List.Elements.{All-cons, All-head, All-nil, All-tail}
use Rattle.mc_box.specs.Boxes.{BoxState}
use Rattle.mc_box.specs.declared.setup.SlotSetup.{SlotSetup}
use Rattle.mc_model.specs.Worlds.{ChannelState, HasTunnels, places_among, places_of, places_within}
use Rattle.mc_model.specs.declared.channel.Tunnel.{Tunnel}
use Rattle.mc_plan.specs.LaidOut.{AreThere, HasBoxes}
use Rattle.mc_plan.specs.Plans.{box_given, boxes_from, boxes_given}
use Rattle.mc_plan.specs.Setups.{lists_of, setup_if, setups_at, setups_from, setups_of, setups_within, with_more}
use Rattle.mc_plan.specs.declared.plan.BoxPlan.{BoxPlan}
use Rattle.mc_plan.proofs.Places.{same_box}
use Rattle.mc_plan.proofs.Widened.{both_there}

-- ---- empty lists

-- one more
pub list_more : (lists : List (Vec SlotSetup Global)) (list : Vec SlotSetup Global) (n : ℕ) → lists_of lists ≡ replicate n [] → list.items ≡ [] → lists_of (lists ++ list ∷ []) ≡ replicate (n + 1) []
list_more lists list n before none = rw (map_push (λ (l : Vec SlotSetup Global). l.items) lists list, before, none) (replicate_more n [])

-- ---- lists that get more

-- first some, and then others
pub more_twice : (first others : ℕ → List SlotSetup) (who : ℕ) (lists : List (List SlotSetup)) → with_more others who (with_more first who lists) ≡ with_more (λ k. first k ++ others k) who lists
more_twice first others who [] = refl
more_twice first others who (list ∷ lists) =
    ap (λ (l : List SlotSetup). l ∷ with_more others (who + 1) (with_more first (who + 1) lists)) (append_assoc list (first who) (others who))
    ∙ ap (λ (ls : List (List SlotSetup)). (list ++ (first who ++ others who)) ∷ ls) (more_twice first others (who + 1) lists)

-- nothing
pub more_none : (more : ℕ → List SlotSetup) (who : ℕ) (lists : List (List SlotSetup)) → ((k : ℕ) → who ≤ k → more k ≡ []) → with_more more who lists ≡ lists
more_none more who [] none = refl
more_none more who (list ∷ lists) none =
    ap (λ (l : List SlotSetup). (list ++ l) ∷ with_more more (who + 1) lists) (none who (omega arith))
    ∙ (ap (λ (l : List SlotSetup). l ∷ with_more more (who + 1) lists) (append-nil list)
    ∙ ap (λ (ls : List (List SlotSetup)). list ∷ ls) (more_none more (who + 1) lists (λ k above. none k (omega (arith, above)))))

-- a slot that is of the box
one_if : (who : ℕ) (setup : SlotSetup) → setup_if (who == who) setup ≡ setup ∷ []
one_if who setup = ap (λ (here : Bool). setup_if here setup) (same_box who)

-- a slot that isn't
none_if : (who other : ℕ) (setup : SlotSetup) → who < other → setup_if (who == other) setup ≡ []
none_if who other setup below = grind (arith, common_steps)

-- one list with a slot more
more_one : (lists : List (List SlotSetup)) (i first who : ℕ) (setup : SlotSetup) → first + i ≡ who → i < length lists
    → slice_set lists i (get_or lists i [] ++ setup ∷ []) ≡ with_more (λ k. setup_if (who == k) setup) first lists
more_one [] i first who setup is inside = absurd (omega arith)
more_one (list ∷ lists) zero first who setup is inside =
    let here : first ≡ who = omega (arith, is) in
    subst (λ (k : ℕ). (list ++ setup ∷ []) ∷ lists ≡ (list ++ setup_if (who == k) setup) ∷ with_more (λ other. setup_if (who == other) setup) (k + 1) lists) (sym here)
    (ap (λ (l : List SlotSetup). (list ++ l) ∷ lists) (sym (one_if who setup))
    ∙ ap (λ (ls : List (List SlotSetup)). (list ++ setup_if (who == who) setup) ∷ ls)
    (sym (more_none (λ other. setup_if (who == other) setup) (who + 1) lists (λ k above. none_if who k setup (omega (arith, above))))))
more_one (list ∷ lists) (suc i) first who setup is inside =
    ap (λ (l : List SlotSetup). l ∷ slice_set lists i (get_or lists i [] ++ setup ∷ [])) (sym (append-nil list))
    ∙ (ap (λ (l : List SlotSetup). (list ++ l) ∷ slice_set lists i (get_or lists i [] ++ setup ∷ [])) (sym (before_if who first setup (omega (arith, is))))
    ∙ ap (λ (ls : List (List SlotSetup)). (list ++ setup_if (who == first) setup) ∷ ls) (more_one lists i (first + 1) who setup (omega (arith, is)) (omega arith)))
  where
    before_if : (who other : ℕ) (setup : SlotSetup) → other < who → setup_if (who == other) setup ≡ []
    before_if who other setup above = grind (arith, common_steps)

-- ---- the lists that code keeps

-- one of them has a slot more
pub slot_added : (lists : List (Vec SlotSetup Global)) (who : ℕ) (setup : SlotSetup) (was new : Vec SlotSetup Global) → who < length lists → was ≡ get_or lists who was → new.items ≡ was.items ++ setup ∷ []
    → lists_of (slice_set lists who new) ≡ with_more (λ k. setup_if (who == k) setup) 0 (lists_of lists)
slot_added lists who setup was new inside is more =
    let found : get_or (lists_of lists) who [] ≡ was.items = get_or-map (λ (list : Vec SlotSetup Global). list.items) lists who was [] inside ∙ ap (λ (list : Vec SlotSetup Global). list.items) (sym is) in
    map-set (λ (list : Vec SlotSetup Global). list.items) lists who new
    ∙ (ap (slice_set (lists_of lists) who) (more ∙ ap (λ (l : List SlotSetup). l ++ setup ∷ []) (sym found))
    ∙ more_one (lists_of lists) who 0 who setup (omega arith) (omega (arith, long lists)))
  where
    long : (lists : List (Vec SlotSetup Global)) → length (lists_of lists) ≡ length lists
    long [] = refl
    long (list ∷ lists) = ap suc (long lists)

-- the slots of one tunnel, and then those of the others
pub tunnel_added : (ends : ChannelState) (count : ℕ) (tunnel : Tunnel) (tunnels : List Tunnel) (lists : List (List SlotSetup))
    → with_more (λ who. setups_within who (count + 1) ends tunnels) 0
    (with_more (λ who. setup_if (ends.to == who) (record { origin = 2 * count + 1; medium = tunnel.medium; initiator = false; address = None })) 0
    (with_more (λ who. setup_if (ends.from == who) (record { origin = 2 * count; medium = tunnel.medium; initiator = true; address = None })) 0 lists))
    ≡ with_more (λ who. setups_within who count ends (tunnel ∷ tunnels)) 0 lists
tunnel_added ends count tunnel tunnels lists =
    let near : ℕ → List SlotSetup = λ who. setup_if (ends.from == who) (record { origin = 2 * count; medium = tunnel.medium; initiator = true; address = None }) in
    let far : ℕ → List SlotSetup = λ who. setup_if (ends.to == who) (record { origin = 2 * count + 1; medium = tunnel.medium; initiator = false; address = None }) in
    let rest : ℕ → List SlotSetup = λ who. setups_within who (count + 1) ends tunnels in
    more_twice far rest 0 (with_more near 0 lists)
    ∙ (more_twice near (λ who. far who ++ rest who) 0 lists
    ∙ more_alike (λ who. near who ++ (far who ++ rest who)) (λ who. setups_within who count ends (tunnel ∷ tunnels)) 0 lists (λ who. sym (append_assoc (near who) (far who) (rest who))))
  where
    more_alike : (one two : ℕ → List SlotSetup) (who : ℕ) (lists : List (List SlotSetup)) → ((k : ℕ) → one k ≡ two k) → with_more one who lists ≡ with_more two who lists
    more_alike one two who [] same = refl
    more_alike one two who (list ∷ lists) same =
        ap (λ (l : List SlotSetup). (list ++ l) ∷ with_more one (who + 1) lists) (same who) ∙ ap (λ (ls : List (List SlotSetup)). (list ++ two who) ∷ ls) (more_alike one two (who + 1) lists same)

-- a tunnel of a channel gives its slots, where those of the tunnels from it on give all
pub tunnel_step : (ends : ChannelState) (count i : ℕ) (tunnel : Tunnel) (lists mid next all : List (List SlotSetup)) → i < length ends.tunnels → tunnel ≡ get_or ends.tunnels i tunnel
    → mid ≡ with_more (λ who. setup_if (ends.from == who) (record { origin = 2 * (count + i); medium = tunnel.medium; initiator = true; address = None })) 0 lists
    → next ≡ with_more (λ who. setup_if (ends.to == who) (record { origin = 2 * (count + i) + 1; medium = tunnel.medium; initiator = false; address = None })) 0 mid
    → with_more (λ who. setups_within who (count + i) ends (drop i ends.tunnels)) 0 lists ≡ all → with_more (λ who. setups_within who (count + (i + 1)) ends (drop (i + 1) ends.tunnels)) 0 next ≡ all
tunnel_step ends count i tunnel lists mid next all inside is near far whole =
    let behind : List Tunnel = drop (i + 1) ends.tunnels in
    let later : count + (i + 1) ≡ count + i + 1 = omega arith in
    let front : drop i ends.tunnels ≡ tunnel ∷ drop (i + 1) ends.tunnels = drop_more ends.tunnels i tunnel inside ∙ ap (λ (t : Tunnel). t ∷ drop (i + 1) ends.tunnels) (sym is) in
    ap (λ (n : ℕ). with_more (λ who. setups_within who n ends behind) 0 next) later
    ∙ (ap (λ (l : List (List SlotSetup)). with_more (λ who. setups_within who (count + i + 1) ends behind) 0 l)
    (far ∙ ap (λ (l : List (List SlotSetup)). with_more (λ who. setup_if (ends.to == who) (record { origin = 2 * (count + i) + 1; medium = tunnel.medium; initiator = false; address = None })) 0 l) near)
    ∙ (tunnel_added ends (count + i) tunnel behind lists
    ∙ (ap (λ (l : List Tunnel). with_more (λ who. setups_within who (count + i) ends l) 0 lists) (sym front) ∙ whole)))

-- nothing is left to give
none_left : (lists : List (List SlotSetup)) → with_more (λ who. []) 0 lists ≡ lists
none_left lists = more_none (λ who. []) 0 lists (λ k above. refl)

-- after the last tunnel all is given
pub tunnels_done : (ends : ChannelState) (count i : ℕ) (lists all : List (List SlotSetup)) → length ends.tunnels ≤ i
    → with_more (λ who. setups_within who (count + i) ends (drop i ends.tunnels)) 0 lists ≡ all → lists ≡ all
tunnels_done ends count i lists all past whole =
    sym (none_left lists) ∙ (ap (λ (l : List Tunnel). with_more (λ who. setups_within who (count + i) ends l) 0 lists) (sym (drop_all i ends.tunnels past)) ∙ whole)

-- a channel gives its slots, where those of the channels from it on give all
pub channel_step : (channels : List ChannelState) (count i long : ℕ) (ends : ChannelState) (lists next all : List (List SlotSetup)) → i < length channels → ends ≡ get_or channels i ends → long ≡ length ends.tunnels
    → next ≡ with_more (λ who. setups_at who count ends) 0 lists → with_more (λ who. setups_from who count (drop i channels)) 0 lists ≡ all
    → with_more (λ who. setups_from who (count + long) (drop (i + 1) channels)) 0 next ≡ all
channel_step channels count i long ends lists next all inside is as_long more whole =
    let behind : List ChannelState = drop (i + 1) channels in
    let rest : ℕ → List SlotSetup = λ who. setups_from who (count + length ends.tunnels) behind in
    let front : drop i channels ≡ ends ∷ drop (i + 1) channels = drop_more channels i ends inside ∙ ap (λ (e : ChannelState). e ∷ drop (i + 1) channels) (sym is) in
    ap (λ (n : ℕ). with_more (λ who. setups_from who (count + n) behind) 0 next) as_long
    ∙ (ap (λ (l : List (List SlotSetup)). with_more rest 0 l) more
    ∙ (more_twice (λ who. setups_at who count ends) rest 0 lists ∙ (ap (λ (l : List ChannelState). with_more (λ who. setups_from who count l) 0 lists) (sym front) ∙ whole)))

-- after the last channel all is given
pub channels_done : (channels : List ChannelState) (count i : ℕ) (lists all : List (List SlotSetup)) → length channels ≤ i
    → with_more (λ who. setups_from who count (drop i channels)) 0 lists ≡ all → lists ≡ all
channels_done channels count i lists all past whole =
    sym (none_left lists) ∙ (ap (λ (l : List ChannelState). with_more (λ who. setups_from who count l) 0 lists) (sym (drop_all i channels past)) ∙ whole)

-- ---- the boxes of these lists

-- a box for each list, with the slots of the channels
pub boxes_filled : (channels : List ChannelState) (who : ℕ) (plans : List BoxPlan) → boxes_given who (with_more (setups_of channels) who (replicate (length plans) [])) plans ≡ boxes_from channels who plans
boxes_filled channels who [] = refl
boxes_filled channels who (planned ∷ plans) = ap (λ (boxes : List BoxState). box_given (setups_of channels who) who planned ∷ boxes) (boxes_filled channels (who + 1) plans)

-- there are as many lists as before
pub more_length : (more : ℕ → List SlotSetup) (who : ℕ) (lists : List (List SlotSetup)) → length (with_more more who lists) ≡ length lists
more_length more who [] = refl
more_length more who (list ∷ lists) = ap suc (more_length more (who + 1) lists)

-- ---- the boxes of channels

-- what comes later is there, too
there_behind : (boxes : ℕ) (xs ys : List (ℕ × ℕ)) → AreThere boxes (xs ++ ys) → AreThere boxes ys
there_behind boxes xs ys there s inside =
    subst (λ (place : ℕ × ℕ). place.0 < boxes) (get_or-append-add xs ys s (0, 0)) (there (length xs + s) (omega (arith, length-append xs ys)))

-- the boxes of a channel with a tunnel are those of its first places
first_there : (boxes : ℕ) (ends : ChannelState) (tunnels : List Tunnel) (rest : List (ℕ × ℕ)) → 0 < length tunnels → AreThere boxes (flat_map (places_of ends) tunnels ++ rest) → HasBoxes boxes ends
first_there boxes ends [] rest some there = absurd (omega arith)
first_there boxes ends (tunnel ∷ tunnels) rest some there =
    let both = both_there boxes [] (ends.from, tunnel.from) (ends.to, tunnel.to) (flat_map (places_of ends) tunnels ++ rest) there in
    record { near = both.0; far = both.1 }

-- where those of all places are there, those of all channels are
pub all_there : (boxes : ℕ) (channels : List ChannelState) → All HasTunnels channels → AreThere boxes (places_among channels) → All (HasBoxes boxes) channels
all_there boxes [] tunnels there = All-nil (HasBoxes boxes)
all_there boxes (ends ∷ channels) tunnels there =
    All-cons (HasBoxes boxes) ends channels
    (first_there boxes ends ends.tunnels (places_among channels) (All-head HasTunnels ends channels tunnels).some there)
    (all_there boxes channels (All-tail HasTunnels ends channels tunnels) (there_behind boxes (places_within ends) (places_among channels) there))

-- where no list is left all boxes are given
pub all_given : (made all : List BoxState) (who : ℕ) (rest : List (Vec SlotSetup Global)) (plans : List BoxPlan) → length rest ≡ 0 → made ++ boxes_given who (lists_of rest) plans ≡ all → made ≡ all
all_given made all who [] plans none whole = sym (append-nil made) ∙ whole
all_given made all who (list ∷ rest) plans none whole = absurd (omega arith)
