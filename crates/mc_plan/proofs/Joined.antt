-- A plan stays laid out where a channel comes last.
use Rattle.std.proofs.Common.{◌≡◌, ◌≢◌, ◌+◌, ◌<◌, ◌≤◌, ◌==◌, ℕ, None, All, List, [], ◌∷◌, ◌++◌, length, length-append, refl, ap, sym, ◌∙◌, subst, arith, append-nil}
use Rattle.std.proofs.lemmas.Grind.{common_steps}
use Rattle.std.proofs.lemmas.List.Concat.{flat_map-append}
use Rattle.std.proofs.lemmas.List.Elements.{All-append, All-cons, All-nil}
use Rattle.mc_signal.specs.declared.Medium.{Medium}
use Rattle.mc_model.specs.Worlds.{ChannelState, HasTunnels, places_among, places_within}
use Rattle.mc_plan.specs.LaidOut.{AreInOrder, AreThere, IsLaidOut}
use Rattle.mc_plan.specs.Plans.{PlanState, channel_between, with_channel, slots_of, tunnels_between}
use Rattle.mc_plan.specs.Refusals.{join_fault}
use Rattle.mc_plan.proofs.Orders.{channel_ordered, channel_there, ordered_append, there_append}
use Rattle.mc_plan.proofs.Slots.{length_tunnels, part, slots_append, slots_one}

-- slots that two boxes may get
pub record MayGet (plan : PlanState) (from to : ℕ) (media : List Medium) : Type 0 where
  pub near : from < length plan.boxes
  pub far : to < length plan.boxes
  pub apart : from ≢ to
  pub near_slots : slots_of plan.channels from + length media ≤ 64
  pub far_slots : slots_of plan.channels to + length media ≤ 64

-- what a channel that breaks no rule keeps
record KeepsRules (plan : PlanState) (from to : ℕ) (media : List Medium) : Type 0 where
  gets : MayGet plan from to media
  some : 0 < length media
  tunnels : length media ≤ 8
  channels : length plan.channels < 262144

-- by what is asked before
kept_by_join : (plan : PlanState) (from to : ℕ) (media : List Medium) → join_fault plan from to media ≡ None → KeepsRules plan from to media
kept_by_join plan from to media none = record {
  gets = record {
    near = grind (arith, common_steps);
    far = grind (arith, common_steps);
    apart = grind (arith, common_steps);
    near_slots = grind (arith, common_steps);
    far_slots = grind (arith, common_steps);
  };
  some = grind (arith, common_steps);
  tunnels = grind (arith, common_steps);
  channels = grind (arith, common_steps);
}

pub gets_by_join : (plan : PlanState) (from to : ℕ) (media : List Medium) → join_fault plan from to media ≡ None → MayGet plan from to media
gets_by_join plan from to media none = (kept_by_join plan from to media none).gets

-- each box keeps to its slots
fits_by : (from to who more : ℕ) (slots : ℕ → ℕ) → from ≢ to → slots from + more ≤ 64 → slots to + more ≤ 64 → slots who ≤ 64 → slots who + (part (from == who) more + part (to == who) more) ≤ 64
fits_by from to who more slots apart one two three = grind (arith, common_steps)

-- the places of the new channel come last
pub places_joined : (channels : List ChannelState) (ends : ChannelState) → places_among (channels ++ ends ∷ []) ≡ places_among channels ++ places_within ends
places_joined channels ends = flat_map-append places_within channels (ends ∷ []) ∙ ap (λ (l : List (ℕ × ℕ)). places_among channels ++ l) (append-nil (places_within ends))

-- what the new channel gives each box
pub slots_joined : (channels : List ChannelState) (from to : ℕ) (media : List Medium) (who : ℕ)
    → slots_of (channels ++ channel_between channels from to media ∷ []) who ≡ slots_of channels who + (part (from == who) (length media) + part (to == who) (length media))
slots_joined channels from to media who =
    let ends : ChannelState = channel_between channels from to media in
    let near : ℕ = slots_of channels from in
    let far : ℕ = slots_of channels to in
    slots_append channels (ends ∷ []) who
    ∙ ap (λ (n : ℕ). slots_of channels who + n) (slots_one ends who ∙ ap (λ (n : ℕ). part (from == who) n + part (to == who) n) (length_tunnels near far media))

-- no box has too many slots then
pub joined_slots : (plan : PlanState) (from to : ℕ) (media : List Medium) (who : ℕ) → IsLaidOut plan → MayGet plan from to media
    → slots_of (plan.channels ++ channel_between plan.channels from to media ∷ []) who ≤ 64
joined_slots plan from to media who laid may =
    omega (arith, slots_joined plan.channels from to media who, fits_by from to who (length media) (slots_of plan.channels) may.apart may.near_slots may.far_slots (laid.slots who))

-- each slot's box is there
pub joined_there : (plan : PlanState) (from to : ℕ) (media : List Medium) → IsLaidOut plan → MayGet plan from to media
    → AreThere (length plan.boxes) (places_among (plan.channels ++ channel_between plan.channels from to media ∷ []))
joined_there plan from to media laid may =
    let ends : ChannelState = channel_between plan.channels from to media in
    let near : ℕ = slots_of plan.channels from in
    let far : ℕ = slots_of plan.channels to in
    subst (AreThere (length plan.boxes)) (sym (places_joined plan.channels ends)) (there_append (length plan.boxes) (places_among plan.channels) (places_within ends) laid.there (channel_there ends media near far (length plan.boxes) may.near may.far))

-- and the slots of a box are in order
pub joined_ordered : (plan : PlanState) (from to : ℕ) (media : List Medium) → IsLaidOut plan → MayGet plan from to media
    → AreInOrder (places_among (plan.channels ++ channel_between plan.channels from to media ∷ []))
joined_ordered plan from to media laid may =
    let ends : ChannelState = channel_between plan.channels from to media in
    let near : ℕ = slots_of plan.channels from in
    let far : ℕ = slots_of plan.channels to in
    subst AreInOrder (sym (places_joined plan.channels ends)) (ordered_append (places_among plan.channels) (places_within ends) laid.ordered (channel_ordered ends media near far (slots_of plan.channels) may.apart refl refl))

-- what holds of the new channel holds of it alone
one_all : (P : ChannelState → Type 0) (ends : ChannelState) → P ends → All P (ends ∷ [])
one_all P ends holds = All-cons P ends [] holds (All-nil P)

-- all that a plan keeps
joined_by : (plan : PlanState) (from to : ℕ) (media : List Medium) → IsLaidOut plan → KeepsRules plan from to media → IsLaidOut (with_channel plan from to media)
joined_by plan from to media laid may =
    let ends : ChannelState = channel_between plan.channels from to media in
    let near : ℕ = slots_of plan.channels from in
    let far : ℕ = slots_of plan.channels to in
    let few : length (tunnels_between (slots_of plan.channels from) (slots_of plan.channels to) media) ≤ 8 = omega (arith, length_tunnels near far media, may.tunnels) in
    let any : 0 < length (tunnels_between (slots_of plan.channels from) (slots_of plan.channels to) media) = omega (arith, length_tunnels near far media, may.some) in
    record {
      boxes = laid.boxes;
      channels = omega (arith, length-append plan.channels (ends ∷ []), may.channels);
      tunnels = All-append HasTunnels plan.channels (ends ∷ []) laid.tunnels (one_all HasTunnels ends (record { some = any; few = few }));
      apart = All-append (λ (e : ChannelState). e.from ≢ e.to) plan.channels (ends ∷ []) laid.apart (one_all (λ (e : ChannelState). e.from ≢ e.to) ends may.gets.apart);
      slots = λ who. joined_slots plan from to media who laid may.gets;
      there = joined_there plan from to media laid may.gets;
      ordered = joined_ordered plan from to media laid may.gets;
    }

-- where the channel breaks no rule
pub joined_laid_out : (plan : PlanState) (from to : ℕ) (media : List Medium) → IsLaidOut plan → join_fault plan from to media ≡ None → IsLaidOut (with_channel plan from to media)
joined_laid_out plan from to media laid none = joined_by plan from to media laid (kept_by_join plan from to media none)
