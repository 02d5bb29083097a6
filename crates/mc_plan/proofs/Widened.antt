-- A plan stays laid out where its last channel gets one tunnel more.
use Rattle.std.proofs.Common.{◌≡◌, ◌≢◌, ◌+◌, ◌*◌, ◌-◌, ◌<◌, ◌≤◌, ◌==◌, ℕ, true, false, suc, Option, Some, None, Ok, All, List, [], ◌∷◌, ◌++◌, length, length-append, slice_set, refl, ap, sym, ◌∙◌, subst, arith, flat_map, count_by}
use Rattle.std.proofs.Math.Seq.{set-append_seam}
use Rattle.std.proofs.lemmas.Grind.{common_steps}
use Rattle.std.proofs.lemmas.List.{append-nil, append_assoc, get_or-append-add}
use Rattle.std.proofs.lemmas.List.Concat.{flat_map-append}
use Rattle.std.proofs.lemmas.List.Elements.{All-head, All-set, All-tail}
use Rattle.std.proofs.Math.ListN.{get_or}
use Rattle.mc_signal.specs.declared.Medium.{Medium}
use Rattle.mc_model.specs.Worlds.{ChannelState, HasTunnels, places_among, places_of, places_within}
use Rattle.mc_model.specs.declared.channel.Tunnel.{Tunnel}
use Rattle.mc_box.specs.declared.setup.SlotSetup.{SlotSetup}
use Rattle.mc_plan.specs.Setups.{setup_if, setups_at, setups_from, setups_of, setups_within}
use Rattle.mc_plan.specs.LaidOut.{AreInOrder, AreThere, IsLaidOut}
use Rattle.mc_plan.specs.Plans.{PlanState, channel_between, is_of, last_channel, next_tunnel, no_channel, slots_of, widened, with_one_more, with_tunnel, with_tunnel_at}
use Rattle.mc_plan.specs.declared.fault.PlanFault.{PlanFault}
use Rattle.mc_plan.specs.declared.plan.BoxPlan.{BoxPlan}
use Rattle.mc_plan.specs.Refusals.{unless_fault, widen_fault}
use Rattle.mc_plan.proofs.Slots.{part, slots_append, slots_one}
use Rattle.mc_plan.proofs.Joined.{MayGet, joined_ordered, joined_slots, joined_there, places_joined}

-- a list that has a last is those before it, and it
last_of : {X : Type 0} (xs : List X) (d : X) → 0 < length xs → (before : List X) × (xs ≡ before ++ get_or xs (length xs - 1) d ∷ [])
last_of [] d some = absurd (omega arith)
last_of (y ∷ []) d some = ([], refl)
last_of {X} (y ∷ z ∷ ys) d some =
    let rest = last_of (z ∷ ys) d (omega arith) in
    let place : length (y ∷ z ∷ ys) - 1 ≡ suc (length (z ∷ ys) - 1) = omega arith in
    (y ∷ rest.0, rw place (ap (λ (l : List X). y ∷ l) rest.1))

-- the last becomes another
set_last : {X : Type 0} (before : List X) (x y : X) → slice_set (before ++ x ∷ []) (length (before ++ x ∷ []) - 1) y ≡ before ++ y ∷ []
set_last {X} before x y =
    let place : length (before ++ x ∷ []) - 1 ≡ length before = omega (arith, length-append before (x ∷ [])) in
    rw place (set-append_seam before x [] y)

-- and it is found
get_last : {X : Type 0} (before : List X) (x d : X) → get_or (before ++ x ∷ []) (length (before ++ x ∷ []) - 1) d ≡ x
get_last {X} before x d =
    let place : length (before ++ x ∷ []) - 1 ≡ length before + 0 = omega (arith, length-append before (x ∷ [])) in
    rw place (get_or-append-add before (x ∷ []) 0 d)

-- the last of these channels, with one tunnel more
abbrev wider : List ChannelState → ChannelState → Medium → ChannelState
wider before ends medium = with_one_more (next_tunnel (before ++ ends ∷ []) ends medium) ends

widened_last : (before : List ChannelState) (ends : ChannelState) (medium : Medium) → widened (before ++ ends ∷ []) medium ≡ before ++ wider before ends medium ∷ []
widened_last before ends medium =
    let found : last_channel (before ++ ends ∷ []) ≡ ends = get_last before ends no_channel in
    rw found (set_last before ends (wider before ends medium))

-- the places of one tunnel more come last, as those of one more channel with that tunnel alone
places_widened : (before : List ChannelState) (ends : ChannelState) (medium : Medium)
    → places_among (before ++ wider before ends medium ∷ [])
    ≡ places_among ((before ++ ends ∷ []) ++ channel_between (before ++ ends ∷ []) ends.from ends.to (medium ∷ []) ∷ [])
places_widened before ends medium =
    let all : List ChannelState = before ++ ends ∷ [] in
    let new : List Tunnel = next_tunnel all ends medium ∷ [] in
    places_joined before (wider before ends medium)
    ∙ ap (λ (l : List (ℕ × ℕ)). places_among before ++ l) (flat_map-append (places_of ends) ends.tunnels new)
    ∙ sym (append_assoc (places_among before) (places_within ends) (flat_map (places_of ends) new))
    ∙ ap (λ (l : List (ℕ × ℕ)). l ++ flat_map (places_of ends) new) (sym (places_joined before ends))
    ∙ sym (places_joined all (channel_between all ends.from ends.to (medium ∷ [])))

-- the boxes of two places that stand among others
pub both_there : (boxes : ℕ) (xs : List (ℕ × ℕ)) (near far : ℕ × ℕ) (rest : List (ℕ × ℕ)) → AreThere boxes (xs ++ near ∷ far ∷ rest) → (near.0 < boxes) × (far.0 < boxes)
both_there boxes xs near far rest there =
    let ys : List (ℕ × ℕ) = near ∷ far ∷ rest in (
      subst (λ (place : ℕ × ℕ). place.0 < boxes) (get_or-append-add xs ys 0 (0, 0)) (there (length xs + 0) (omega (arith, length-append xs ys))),
      subst (λ (place : ℕ × ℕ). place.0 < boxes) (get_or-append-add xs ys 1 (0, 0)) (there (length xs + 1) (omega (arith, length-append xs ys))),
    )

-- so are those of a channel that has a tunnel
ends_there : (boxes : ℕ) (before : List ChannelState) (ends : ChannelState) → 0 < length ends.tunnels → AreThere boxes (places_among (before ++ ends ∷ [])) → (ends.from < boxes) × (ends.to < boxes)
ends_there boxes before ends some there = by ends.tunnels some (subst (AreThere boxes) (places_joined before ends) there)
  where
    by : (tunnels : List Tunnel) → 0 < length tunnels → AreThere boxes (places_among before ++ flat_map (places_of ends) tunnels) → (ends.from < boxes) × (ends.to < boxes)
    by [] none there = absurd (omega arith)
    by (tunnel ∷ tunnels) some there = both_there boxes (places_among before) (ends.from, tunnel.from) (ends.to, tunnel.to) (flat_map (places_of ends) tunnels) there

-- what is asked before the last channel gets a tunnel
pub record MayWiden (plan : PlanState) (ends : ChannelState) : Type 0 where
  pub tunnels : length ends.tunnels < 8
  pub near_slots : slots_of plan.channels ends.from + 1 ≤ 64
  pub far_slots : slots_of plan.channels ends.to + 1 ≤ 64

pub kept_by_widen : (plan : PlanState) → widen_fault plan ≡ None → (0 < length plan.channels) × MayWiden plan (last_channel plan.channels)
kept_by_widen plan none = (
  grind (arith, common_steps),
  record {
    tunnels = grind (arith, common_steps);
    near_slots = grind (arith, common_steps);
    far_slots = grind (arith, common_steps);
  },
)

-- what holds of all holds of the last
of_last : (P : ChannelState → Type 0) (before : List ChannelState) (ends : ChannelState) → All P (before ++ ends ∷ []) → P ends
of_last P [] ends all = All-head P ends [] all
of_last P (other ∷ before) ends all = of_last P before ends (All-tail P other (before ++ ends ∷ []) all)

-- all that a plan keeps
widened_by : (boxes : List BoxPlan) (before : List ChannelState) (ends : ChannelState) (medium : Medium)
    → IsLaidOut (record { boxes = boxes; channels = before ++ ends ∷ [] }) → MayWiden (record { boxes = boxes; channels = before ++ ends ∷ [] }) ends
    → IsLaidOut (record { boxes = boxes; channels = before ++ wider before ends medium ∷ [] })
widened_by boxes before ends medium laid may =
    let all : List ChannelState = before ++ ends ∷ [] in
    let plan : PlanState = record { boxes = boxes; channels = all } in
    let now : ChannelState = wider before ends medium in
    let new : List Tunnel = next_tunnel all ends medium ∷ [] in
    let has : HasTunnels ends = of_last HasTunnels before ends laid.tunnels in
    let boxes_there = ends_there (length boxes) before ends has.some laid.there in
    let gets : MayGet plan ends.from ends.to (medium ∷ []) = record {
      near = boxes_there.0;
      far = boxes_there.1;
      apart = of_last (λ (e : ChannelState). e.from ≢ e.to) before ends laid.apart;
      near_slots = may.near_slots;
      far_slots = may.far_slots;
    } in
    let places = places_widened before ends medium in
    let same : before ++ wider before ends medium ∷ [] ≡ slice_set (before ++ ends ∷ []) (length (before ++ ends ∷ []) - 1) (wider before ends medium) = sym (set_last before ends now) in
    record {
      boxes = laid.boxes;
      channels = omega (arith, laid.channels, length-append before (ends ∷ []), length-append before (now ∷ []));
      tunnels = subst (All HasTunnels) (sym same) (All-set HasTunnels all (length all - 1) now (record {
        some = omega (arith, has.some, length-append ends.tunnels new);
        few = omega (arith, may.tunnels, length-append ends.tunnels new);
      }) laid.tunnels);
      apart = subst (All (λ (e : ChannelState). e.from ≢ e.to)) (sym same) (All-set (λ (e : ChannelState). e.from ≢ e.to) all (length all - 1) now gets.apart laid.apart);
      slots = λ who. subst (λ (l : List (ℕ × ℕ)). count_by (is_of who) l ≤ 64) (sym places) (joined_slots plan ends.from ends.to (medium ∷ []) who laid gets);
      there = subst (AreThere (length boxes)) (sym places) (joined_there plan ends.from ends.to (medium ∷ []) laid gets);
      ordered = subst AreInOrder (sym places) (joined_ordered plan ends.from ends.to (medium ∷ []) laid gets);
    }

-- ---- whatever channel is the last

-- the boxes of the last channel are there
pub last_there : (plan : PlanState) → IsLaidOut plan → 0 < length plan.channels → ((last_channel plan.channels).from < length plan.boxes) × ((last_channel plan.channels).to < length plan.boxes)
last_there plan laid some =
    let split = last_of plan.channels no_channel some in
    let tunnels : All HasTunnels (split.0 ++ last_channel plan.channels ∷ []) = subst (All HasTunnels) split.1 laid.tunnels in
    let there : AreThere (length plan.boxes) (places_among (split.0 ++ last_channel plan.channels ∷ [])) = subst (λ (l : List ChannelState). AreThere (length plan.boxes) (places_among l)) split.1 laid.there in
    let has : HasTunnels (last_channel plan.channels) = of_last HasTunnels split.0 (last_channel plan.channels) tunnels in
    ends_there (length plan.boxes) split.0 (last_channel plan.channels) has.some there

-- they may get the slots of a tunnel that breaks no rule
pub gets_by_widen : (plan : PlanState) (medium : Medium) → IsLaidOut plan → widen_fault plan ≡ None → MayGet plan (last_channel plan.channels).from (last_channel plan.channels).to (medium ∷ [])
gets_by_widen plan medium laid none =
    let kept = kept_by_widen plan none in
    let there = last_there plan laid kept.0 in
    let split = last_of plan.channels no_channel kept.0 in
    record {
      near = there.0;
      far = there.1;
      apart = of_last (λ (e : ChannelState). e.from ≢ e.to) split.0 (last_channel plan.channels) (subst (All (λ (e : ChannelState). e.from ≢ e.to)) split.1 laid.apart);
      near_slots = kept.1.near_slots;
      far_slots = kept.1.far_slots;
    }

-- a tunnel more gives each of its boxes a slot
pub slots_widened : (channels : List ChannelState) (medium : Medium) (who : ℕ) → 0 < length channels
    → slots_of (widened channels medium) who ≡ slots_of channels who + (part ((last_channel channels).from == who) 1 + part ((last_channel channels).to == who) 1)
slots_widened channels medium who some =
    let split = last_of channels no_channel some in
    by channels (last_channel channels) split.0 split.1
  where
    by : (channels : List ChannelState) (ends : ChannelState) (before : List ChannelState) → channels ≡ before ++ ends ∷ []
        → slots_of (with_tunnel_at channels (length channels - 1) (next_tunnel channels (last_channel channels) medium)) who ≡ slots_of channels who + (part (ends.from == who) 1 + part (ends.to == who) 1)
    by channels ends before is =
        let all : List ChannelState = before ++ ends ∷ [] in
        let new : ChannelState = channel_between all ends.from ends.to (medium ∷ []) in
        subst (λ (l : List ChannelState). slots_of (with_tunnel_at l (length l - 1) (next_tunnel l (last_channel l) medium)) who ≡ slots_of l who + (part (ends.from == who) 1 + part (ends.to == who) 1)) (sym is)
        (ap (λ (l : List ChannelState). slots_of l who) (widened_last before ends medium)
        ∙ ap (λ (l : List (ℕ × ℕ)). count_by (is_of who) l) (places_widened before ends medium)
        ∙ slots_append all (new ∷ []) who
        ∙ ap (λ (n : ℕ). slots_of all who + n) (slots_one new who))

-- ---- the slots that it gives

-- a tunnel after those of a channel gives what it would in a channel of its own
setups_behind : (who count : ℕ) (ends : ChannelState) (tunnel : Tunnel) (tunnels : List Tunnel)
    → setups_within who count (with_one_more tunnel ends) (tunnels ++ tunnel ∷ []) ≡ setups_within who count ends tunnels ++ setups_within who (count + length tunnels) ends (tunnel ∷ [])
setups_behind who count ends tunnel [] = let same : count + 0 ≡ count = omega arith in rw same refl
setups_behind who count ends tunnel (other ∷ tunnels) =
    let near = setup_if (ends.from == who) (record { origin = 2 * count; medium = other.medium; initiator = true; address = None }) in
    let far = setup_if (ends.to == who) (record { origin = 2 * count + 1; medium = other.medium; initiator = false; address = None }) in
    let next : count + 1 + length tunnels ≡ count + suc (length tunnels) = omega arith in
    ap (λ (l : List SlotSetup). near ++ far ++ l) (setups_behind who (count + 1) ends tunnel tunnels)
    ∙ sym (append_assoc (near ++ far) (setups_within who (count + 1) ends tunnels) (setups_within who (count + 1 + length tunnels) ends (tunnel ∷ [])))
    ∙ ap (λ (n : ℕ). near ++ far ++ setups_within who (count + 1) ends tunnels ++ setups_within who n ends (tunnel ∷ [])) next

-- the channel of its own
abbrev alone : ChannelState → Tunnel → ChannelState
alone ends tunnel = record { from = ends.from; to = ends.to; tunnels = tunnel ∷ [] }

setups_last : (who count : ℕ) (before : List ChannelState) (ends : ChannelState) (tunnel : Tunnel)
    → setups_from who count (before ++ with_one_more tunnel ends ∷ []) ≡ setups_from who count ((before ++ ends ∷ []) ++ alone ends tunnel ∷ [])
setups_last who count [] ends tunnel =
    append-nil (setups_within who count (with_one_more tunnel ends) (ends.tunnels ++ tunnel ∷ []))
    ∙ setups_behind who count ends tunnel ends.tunnels
    ∙ ap (λ (l : List SlotSetup). setups_within who count ends ends.tunnels ++ l) (sym (append-nil (setups_within who (count + length ends.tunnels) ends (tunnel ∷ []))))
setups_last who count (other ∷ before) ends tunnel = ap (λ (l : List SlotSetup). setups_at who count other ++ l) (setups_last who (count + length other.tunnels) before ends tunnel)

-- one tunnel more of the last channel gives each box the slots that one more channel with that tunnel alone would
pub setups_widened : (channels : List ChannelState) (medium : Medium) (who : ℕ) → 0 < length channels
    → setups_of (widened channels medium) who ≡ setups_of (channels ++ channel_between channels (last_channel channels).from (last_channel channels).to (medium ∷ []) ∷ []) who
setups_widened channels medium who some =
    let split = last_of channels no_channel some in
    by channels (last_channel channels) split.0 split.1
  where
    by : (channels : List ChannelState) (ends : ChannelState) (before : List ChannelState) → channels ≡ before ++ ends ∷ []
        → setups_of (widened channels medium) who ≡ setups_of (channels ++ channel_between channels ends.from ends.to (medium ∷ []) ∷ []) who
    by channels ends before is =
        let all : List ChannelState = before ++ ends ∷ [] in
        subst (λ (l : List ChannelState). setups_of (widened l medium) who ≡ setups_of (l ++ channel_between l ends.from ends.to (medium ∷ []) ∷ []) who) (sym is)
        (ap (λ (l : List ChannelState). setups_of l who) (widened_last before ends medium) ∙ setups_last who 0 before ends (next_tunnel all ends medium))

-- no fault, where that is said
pub no_fault : (fault : Option PlanFault) → unless_fault fault ≡ Ok tt → fault ≡ None
no_fault None says = refl
no_fault (Some fault) says = absurd cc

-- where the tunnel breaks no rule
pub widened_laid_out : (plan : PlanState) (medium : Medium) → IsLaidOut plan → widen_fault plan ≡ None → IsLaidOut (with_tunnel plan medium)
widened_laid_out plan medium laid none =
    let kept = kept_by_widen plan none in
    let split = last_of plan.channels no_channel kept.0 in
    by plan.channels (last_channel plan.channels) split.0 split.1 laid kept.1
  where
    by : (channels : List ChannelState) (ends : ChannelState) (before : List ChannelState) → channels ≡ before ++ ends ∷ [] → IsLaidOut (record plan { channels = channels }) → MayWiden (record plan { channels = channels }) ends
        → IsLaidOut (with_tunnel (record plan { channels = channels }) medium)
    by channels ends before is laid may =
        subst (λ (l : List ChannelState). IsLaidOut (with_tunnel (record plan { channels = l }) medium)) (sym is)
        (whole before ends (subst (λ (l : List ChannelState). IsLaidOut (record plan { channels = l })) is laid) (subst (λ (l : List ChannelState). MayWiden (record plan { channels = l }) ends) is may))
      where
        whole : (before : List ChannelState) (ends : ChannelState) → IsLaidOut (record plan { channels = before ++ ends ∷ [] }) → MayWiden (record plan { channels = before ++ ends ∷ [] }) ends
            → IsLaidOut (with_tunnel (record plan { channels = before ++ ends ∷ [] }) medium)
        whole before ends laid may =
            subst (λ (l : List ChannelState). IsLaidOut (record plan { channels = l })) (sym (widened_last before ends medium)) (widened_by plan.boxes before ends medium laid may)
