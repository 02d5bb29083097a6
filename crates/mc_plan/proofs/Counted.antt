-- The numbers of slots that a plan keeps stay those of its channels.
use Rattle.std.proofs.Common.{◌≡◌, ◌≢◌, ◌+◌, ◌<◌, ◌==◌, inl, inr, ℕ, zero, suc, Bool, None, List, [], ◌∷◌, ◌++◌, Vec, length, length-append, refl, ap, sym, ◌∙◌, subst, arith}
use Rattle.std.specs.Vec.{with_items}
use Rattle.std.specs.declared.alloc.Global.{Global}
use Rattle.std.proofs.Math.ListN.{get_or}
use Rattle.std.proofs.lemmas.Bool.{cases_eq}
use Rattle.std.proofs.lemmas.Grind.{common_steps}
use Rattle.std.proofs.lemmas.List.{get_or-set_other, get_or-set_same, length-set, with_items_is}
use Rattle.std.proofs.lemmas.List.Elements.{All-nil}
use Rattle.mc_model.specs.Worlds.{ChannelState, HasTunnels}
use Rattle.mc_signal.specs.declared.Medium.{Medium}
use Rattle.mc_plan.specs.LaidOut.{AreSlotCounts, IsCountedPlan, IsLaidOut, MayCount, raised}
use Rattle.mc_plan.specs.Plans.{PlanState, empty_plan, last_channel, slots_of, widened, with_channel, with_plan, with_tunnel}
use Rattle.mc_plan.specs.Refusals.{join_fault, widen_fault}
use Rattle.mc_plan.specs.declared.limit.TheConstants.{PLAN_BOX_LIMIT}
use Rattle.mc_plan.specs.declared.plan.BoxPlan.{BoxPlan}
use Rattle.mc_plan.proofs.Joined.{MayGet, joined_laid_out, slots_joined}
use Rattle.mc_plan.proofs.Places.{same_box}
use Rattle.mc_plan.proofs.Slots.{part}
use Rattle.mc_plan.proofs.Widened.{gets_by_widen, kept_by_widen, slots_widened, widened_laid_out}

-- of the box itself
part_here : (who more : ℕ) → part (who == who) more ≡ more
part_here who more = ap (λ (here : Bool). part here more) (same_box who)

-- of another box
part_there : (who other more : ℕ) → who ≢ other → part (who == other) more ≡ 0
part_there who other more apart = grind (arith, common_steps)

-- what it is of each box then
pub raised_at : (counts : List ℕ) (who more other : ℕ) → who < length counts → get_or (raised counts who more) other 0 ≡ get_or counts other 0 + part (who == other) more
raised_at counts who more other inside = elim (cases_eq who other) [
  | inl same ↦ subst (λ (k : ℕ). get_or (raised counts who more) k 0 ≡ get_or counts k 0 + part (who == k) more) same (
      get_or-set_same counts who (get_or counts who 0 + more) 0 inside ∙ ap (λ (n : ℕ). get_or counts who 0 + n) (sym (part_here who more))
      )
  | inr apart ↦
      omega (arith, get_or-set_other counts who other (get_or counts who 0 + more) 0 (λ same. apart (sym same)), part_there who other more apart)
]

-- another box has as many as before
pub raised_other : (counts : List ℕ) (who other more : ℕ) → who ≢ other → get_or (raised counts who more) other 0 ≡ get_or counts other 0
raised_other counts who other more apart = get_or-set_other counts who other (get_or counts who 0 + more) 0 (λ same. apart (sym same))

-- two boxes have as many more as new channels give them
pub raised_both : (counts : List ℕ) (old new : List ChannelState) (from to more : ℕ) → from < length counts → to < length counts → AreSlotCounts counts old
    → ((who : ℕ) → slots_of new who ≡ slots_of old who + (part (from == who) more + part (to == who) more))
    → AreSlotCounts (raised (raised counts from more) to more) new
raised_both counts old new from to more near far counted grown who =
    let long : length (raised counts from more) ≡ length counts = length-set counts from (get_or counts from 0 + more) in
    omega (arith, raised_at counts from more who near, raised_at (raised counts from more) to more who (omega (arith, long, far)), counted who, grown who)

-- nothing is laid out
pub none_laid_out : (boxes : List BoxPlan) (channels : List ChannelState) → boxes ≡ [] → channels ≡ [] → IsLaidOut (record { boxes = boxes; channels = channels })
none_laid_out boxes channels none empty = rw (none, empty) nothing
  where
    nothing : IsLaidOut empty_plan
    nothing = record {
      boxes = omega arith;
      channels = omega arith;
      tunnels = All-nil HasTunnels;
      apart = All-nil (λ ends. ends.from ≢ ends.to);
      slots = λ who. omega arith;
      there = λ s inside. absurd (omega arith);
      ordered = λ s inside. absurd (omega arith);
    }

-- one box more has no slot yet
counted_more : (counts : List ℕ) (who : ℕ) → get_or (counts ++ 0 ∷ []) who 0 ≡ get_or counts who 0
counted_more [] zero = refl
counted_more [] (suc who) = refl
counted_more (count ∷ counts) zero = refl
counted_more (count ∷ counts) (suc who) = counted_more counts who

-- a box comes last
pub added_counted : (plan : PlanState) (counts : List ℕ) (planned : BoxPlan) → IsCountedPlan plan counts → length plan.boxes < PLAN_BOX_LIMIT → IsCountedPlan (with_plan plan planned) (counts ++ 0 ∷ [])
added_counted plan counts planned kept few =
    let longer : length (plan.boxes ++ planned ∷ []) ≡ length plan.boxes + 1 = length-append plan.boxes (planned ∷ []) in
    record {
      laid = record {
        boxes = omega (arith, longer, few);
        channels = kept.laid.channels;
        tunnels = kept.laid.tunnels;
        apart = kept.laid.apart;
        slots = kept.laid.slots;
        there = λ s inside. omega (arith, longer, kept.laid.there s inside);
        ordered = kept.laid.ordered;
      };
      long = omega (arith, longer, length-append counts (0 ∷ []), kept.long);
      counted = λ who. counted_more counts who ∙ kept.counted who;
    }

-- as many boxes are counted when two have more slots
raised_long : (counts : List ℕ) (from to more : ℕ) → length (raised (raised counts from more) to more) ≡ length counts
raised_long counts from to more =
    let once : List ℕ = raised counts from more in
    length-set once to (get_or once to 0 + more) ∙ length-set counts from (get_or counts from 0 + more)

-- nothing is counted
pub none_counted : (boxes : List BoxPlan) (channels : List ChannelState) (counts : List ℕ) → boxes ≡ [] → channels ≡ [] → counts ≡ [] → IsCountedPlan (record { boxes = boxes; channels = channels }) counts
none_counted boxes channels counts none empty nothing = record {
  laid = none_laid_out boxes channels none empty;
  long = rw (none, nothing) refl;
  counted = λ who. rw (empty, nothing) refl;
}

-- the counts that code leaves are those that it wrote
pub written_counted : (plan : PlanState) (counts : Vec ℕ Global) (old new : List ℕ) (from to more : ℕ) → old ≡ counts.items → new ≡ raised (raised old from more) to more
    → IsCountedPlan plan (raised (raised counts.items from more) to more) → IsCountedPlan plan (with_items counts new).items
written_counted plan counts old new from to more same is kept =
    let all : new ≡ raised (raised counts.items from more) to more = is ∙ ap (λ (l : List ℕ). raised (raised l from more) to more) same in
    let long : length new ≡ counts.len = ap length all ∙ (raised_long counts.items from to more ∙ sym counts.ok.0) in
    subst (λ (l : List ℕ). IsCountedPlan plan l) (sym (with_items_is counts new long ∙ all)) kept

-- two boxes that may get slots are counted
pub may_count : (plan : PlanState) (counts : List ℕ) (from to : ℕ) (media : List Medium) → IsCountedPlan plan counts → MayGet plan from to media → MayCount counts from to (length media)
may_count plan counts from to media kept may = record {
  near = omega (arith, kept.long, may.near);
  far = omega (arith, kept.long, may.far);
  apart = may.apart;
  near_few = omega (arith, kept.counted from, may.near_slots);
  far_few = omega (arith, kept.counted to, may.far_slots);
}

-- a channel that breaks no rule comes last
pub joined_counted : (plan : PlanState) (counts : List ℕ) (from to : ℕ) (media : List Medium) → IsCountedPlan plan counts → MayCount counts from to (length media) → join_fault plan from to media ≡ None
    → IsCountedPlan (with_channel plan from to media) (raised (raised counts from (length media)) to (length media))
joined_counted plan counts from to media kept may none = record {
  laid = joined_laid_out plan from to media kept.laid none;
  long = raised_long counts from to (length media) ∙ kept.long;
  counted = raised_both counts plan.channels (with_channel plan from to media).channels from to (length media) may.near may.far kept.counted (slots_joined plan.channels from to media);
}

-- the boxes of the last channel, which may get a tunnel, are counted
pub last_may_count : (plan : PlanState) (counts : List ℕ) (medium : Medium) (ends : ChannelState) → IsCountedPlan plan counts → widen_fault plan ≡ None → ends ≡ last_channel plan.channels → MayCount counts ends.from ends.to 1
last_may_count plan counts medium ends kept none is =
    subst (λ (e : ChannelState). MayCount counts e.from e.to 1) (sym is)
    (may_count plan counts (last_channel plan.channels).from (last_channel plan.channels).to (medium ∷ []) kept (gets_by_widen plan medium kept.laid none))

-- it gets one
pub widened_counted : (plan : PlanState) (counts : List ℕ) (medium : Medium) (ends : ChannelState) → IsCountedPlan plan counts → widen_fault plan ≡ None → ends ≡ last_channel plan.channels
    → IsCountedPlan (with_tunnel plan medium) (raised (raised counts ends.from 1) ends.to 1)
widened_counted plan counts medium ends kept none is =
    let last : ChannelState = last_channel plan.channels in
    let may : MayCount counts (last_channel plan.channels).from (last_channel plan.channels).to 1 = last_may_count plan counts medium last kept none refl in
    subst (λ (e : ChannelState). IsCountedPlan (with_tunnel plan medium) (raised (raised counts e.from 1) e.to 1)) (sym is) (record {
      laid = widened_laid_out plan medium kept.laid none;
      long = raised_long counts last.from last.to 1 ∙ kept.long;
      counted = raised_both counts plan.channels (widened plan.channels medium) last.from last.to 1 may.near may.far kept.counted (λ who. slots_widened plan.channels medium who (kept_by_widen plan none).0);
    })
