-- Plans while items are read: the part that is still open comes before that of the next settle.
use Rattle.std.proofs.Common.{◌≡◌, ◌<◌, ◌≤◌, ◌+◌, ℕ, zero, suc, List, [], ◌∷◌, ◌++◌, append_assoc, drop, get_or, length, map, refl, ap, sym, ◌∙◌, subst, arith}
use Rattle.std.proofs.lemmas.List.{append-nil, map-append}
use Rattle.mc_signal.specs.declared.Medium.{Medium}
use Rattle.mc_box.specs.declared.event.Turn.{Turn}
use Rattle.mc_growth.specs.Growths.{Growth}
use Rattle.mc_script.specs.declared.command.Command.{Command}
use Rattle.mc_script.specs.declared.command.Command.TheVariants.{Settle, Stimulus}
use Rattle.mc_stages.specs.Plans.{batch_of, growth_of, growths_of}
use Rattle.mc_stages.specs.declared.plan.ChannelChange.{ChannelChange}
use Rattle.mc_stages.specs.declared.plan.ChannelChange.TheVariants as change
use Rattle.mc_stages.specs.declared.plan.StagePlan.{StagePlan}
use Rattle.mc_tail.specs.declared.item.Item.{Item}
use Rattle.mc_tail.specs.declared.item.Item.TheVariants.{Cut, Join, Line}
use Rattle.mc_stage_plans.specs.Planned.{MoreArePlanned, before_next, growths_in, settled_parts, turns_in}
use Rattle.mc_stage_plans.proofs.Acting.{growths_append}

-- these plans, the open part and what is left make the plans of all items, after those at the start
pub record StillPlans (start plans : List StagePlan) (growths : List ChannelChange) (batch : List Turn) (all left : List Item) : Type 0 where
  pub growths_left : map growths_of plans ++ before_next (map growth_of growths) (map growths_in (settled_parts left)) ≡ map growths_of start ++ map growths_in (settled_parts all)
  pub batches_left : map batch_of plans ++ before_next batch (map turns_in (settled_parts left)) ≡ map batch_of start ++ map turns_in (settled_parts all)

none_before : {A : Type 0} (parts : List (List A)) → before_next [] parts ≡ parts
none_before [] = refl
none_before (part ∷ parts) = refl

-- before the first item
pub plans_start : (start : List StagePlan) (all : List Item) → StillPlans start start [] [] all all
plans_start start all = record {
  growths_left = ap (λ (l : List (List Growth)). map growths_of start ++ l) (none_before (map growths_in (settled_parts all)));
  batches_left = ap (λ (l : List (List Turn)). map batch_of start ++ l) (none_before (map turns_in (settled_parts all)));
}

drop_past : (all : List Item) (i : ℕ) → length all ≤ i → drop i all ≡ []
drop_past [] zero past = refl
drop_past [] (suc i) past = refl
drop_past (item ∷ all) zero past = absurd (omega arith)
drop_past (item ∷ all) (suc i) past = drop_past all i (omega arith)

-- where nothing is left
pub plans_end : (start plans : List StagePlan) (growths : List ChannelChange) (batch : List Turn) (all : List Item) (i : ℕ) → length all ≤ i → StillPlans start plans growths batch all (drop i all) → MoreArePlanned start all plans
plans_end start plans growths batch all i past still = by (drop i all) (drop_past all i past) still
  where
    by : (left : List Item) → left ≡ [] → StillPlans start plans growths batch all left → MoreArePlanned start all plans
    by [] none still = record {
      growths = sym (append-nil (map growths_of plans)) ∙ still.growths_left;
      batches_of = sym (append-nil (map batch_of plans)) ∙ still.batches_left;
    }
    by (item ∷ left) none still = absurd cc

two_before : {A : Type 0} (xs ys : List A) (parts : List (List A)) → before_next xs (before_next ys parts) ≡ before_next (xs ++ ys) parts
two_before xs ys [] = refl
two_before {A} xs ys (part ∷ parts) = ap (λ (l : List A). l ∷ parts) (sym (append_assoc xs ys part))

mapped_before : {A : Type 0} (f : List Item → List A) (item : Item) (parts : List (List Item)) → ((part : List Item) → f (item ∷ part) ≡ f (item ∷ []) ++ f part)
    → map f (before_next (item ∷ []) parts) ≡ before_next (f (item ∷ [])) (map f parts)
mapped_before f item [] each = refl
mapped_before {A} f item (part ∷ parts) each = ap (λ (l : List A). l ∷ map f parts) (each part)

turns_first : (item : Item) (part : List Item) → turns_in (item ∷ part) ≡ turns_in (item ∷ []) ++ turns_in part
turns_first (Join medium from to) part = refl
turns_first (Cut channel) part = refl
turns_first (Line (Stimulus turn)) part = refl
turns_first (Line Settle) part = refl

-- an item that is no settle goes into the open part
pub item_more : (start plans : List StagePlan) (growths more : List ChannelChange) (batch next : List Turn) (all left : List Item) (item : Item) → settled_parts (item ∷ left) ≡ before_next (item ∷ []) (settled_parts left)
    → map growth_of more ≡ map growth_of growths ++ growths_in (item ∷ []) → next ≡ batch ++ turns_in (item ∷ []) → StillPlans start plans growths batch all (item ∷ left) → StillPlans start plans more next all left
item_more start plans growths more batch next all left item one grown made still =
    let parts : List (List Item) = settled_parts left in
    let own : before_next (map growth_of growths) (map growths_in (settled_parts (item ∷ left))) ≡ before_next (map growth_of more) (map growths_in (settled_parts left)) =
    ap (λ (l : List (List Item)). before_next (map growth_of growths) (map growths_in l)) one
    ∙ ap (before_next (map growth_of growths)) (mapped_before growths_in item parts (λ part. growths_append (item ∷ []) part))
    ∙ two_before (map growth_of growths) (growths_in (item ∷ [])) (map growths_in parts)
    ∙ ap (λ (l : List Growth). before_next l (map growths_in parts)) (sym grown) in
    let turns : before_next batch (map turns_in (settled_parts (item ∷ left))) ≡ before_next next (map turns_in (settled_parts left)) =
    ap (λ (l : List (List Item)). before_next batch (map turns_in l)) one
    ∙ ap (before_next batch) (mapped_before turns_in item parts (turns_first item))
    ∙ two_before batch (turns_in (item ∷ [])) (map turns_in parts)
    ∙ ap (λ (l : List Turn). before_next l (map turns_in parts)) (sym made) in
    record {
      growths_left = ap (λ (l : List (List Growth)). map growths_of plans ++ l) (sym own) ∙ still.growths_left;
      batches_left = ap (λ (l : List (List Turn)). map batch_of plans ++ l) (sym turns) ∙ still.batches_left;
    }

-- at a settle the open part is a plan
pub settle_more : (start plans : List StagePlan) (growths : List ChannelChange) (batch : List Turn) (all left : List Item) (plan : StagePlan) → growths_of plan ≡ map growth_of growths → batch_of plan ≡ batch
    → StillPlans start plans growths batch all (Line Settle ∷ left) → StillPlans start (plans ++ plan ∷ []) [] [] all left
settle_more start plans growths batch all left plan grown made still =
    let parts : List (List Item) = settled_parts left in
    record {
      growths_left = ap (λ (l : List (List Growth)). map growths_of (plans ++ plan ∷ []) ++ l) (none_before (map growths_in parts))
          ∙ ap (λ (l : List (List Growth)). l ++ map growths_in parts) (map-append growths_of plans (plan ∷ []))
          ∙ append_assoc (map growths_of plans) (growths_of plan ∷ []) (map growths_in parts)
          ∙ ap (λ (l : List Growth). map growths_of plans ++ l ∷ map growths_in parts) (grown ∙ sym (append-nil (map growth_of growths)))
          ∙ still.growths_left;
      batches_left = ap (λ (l : List (List Turn)). map batch_of (plans ++ plan ∷ []) ++ l) (none_before (map turns_in parts))
          ∙ ap (λ (l : List (List Turn)). l ++ map turns_in parts) (map-append batch_of plans (plan ∷ []))
          ∙ append_assoc (map batch_of plans) (batch_of plan ∷ []) (map turns_in parts)
          ∙ ap (λ (l : List Turn). map batch_of plans ++ l ∷ map turns_in parts) (made ∙ sym (append-nil batch))
          ∙ still.batches_left;
    }

-- ---- in the loop

at_item : (all : List Item) (i : ℕ) (none item : Item) → i < length all → get_or all i none ≡ item → drop i all ≡ item ∷ drop (i + 1) all
at_item [] i none item within is = absurd (omega arith)
at_item (one ∷ all) zero none item within is = ap (λ (it : Item). it ∷ all) is
at_item (one ∷ all) (suc i) none item within is =
    let next : suc i + 1 ≡ suc (i + 1) = omega arith in
    rw next (at_item all i none item (omega arith) is)

pub join_at : (start plans : List StagePlan) (growths more : List ChannelChange) (batch : List Turn) (all : List Item) (i : ℕ) (none : Item) (medium : Medium) (from to : ℕ) → i < length all → get_or all i none ≡ Join medium from to
    → more ≡ growths ++ change.Join medium from to ∷ [] → StillPlans start plans growths batch all (drop i all) → StillPlans start plans more batch all (drop (i + 1) all)
join_at start plans growths more batch all i none medium from to within is made still =
    item_more start plans growths more batch batch all (drop (i + 1) all) (Join medium from to) refl (ap (map growth_of) made ∙ map-append growth_of growths (change.Join medium from to ∷ [])) (sym (append-nil batch))
    (subst (λ (left : List Item). StillPlans start plans growths batch all left) (at_item all i none (Join medium from to) within is) still)

pub cut_at : (start plans : List StagePlan) (growths more : List ChannelChange) (batch : List Turn) (all : List Item) (i : ℕ) (none : Item) (channel : ℕ) → i < length all → get_or all i none ≡ Cut channel
    → more ≡ growths ++ change.Cut channel ∷ [] → StillPlans start plans growths batch all (drop i all) → StillPlans start plans more batch all (drop (i + 1) all)
cut_at start plans growths more batch all i none channel within is made still =
    item_more start plans growths more batch batch all (drop (i + 1) all) (Cut channel) refl (ap (map growth_of) made ∙ map-append growth_of growths (change.Cut channel ∷ [])) (sym (append-nil batch))
    (subst (λ (left : List Item). StillPlans start plans growths batch all left) (at_item all i none (Cut channel) within is) still)

pub turn_at : (start plans : List StagePlan) (growths : List ChannelChange) (batch next : List Turn) (all : List Item) (i : ℕ) (none : Item) (command : Command) (turn : Turn) → i < length all → get_or all i none ≡ Line command → command ≡ Stimulus turn
    → next ≡ batch ++ turn ∷ [] → StillPlans start plans growths batch all (drop i all) → StillPlans start plans growths next all (drop (i + 1) all)
turn_at start plans growths batch next all i none command turn within is says made still =
    item_more start plans growths growths batch next all (drop (i + 1) all) (Line (Stimulus turn)) refl (sym (append-nil (map growth_of growths))) made
    (subst (λ (left : List Item). StillPlans start plans growths batch all left) (at_item all i none (Line (Stimulus turn)) within (is ∙ ap Line says)) still)

pub settle_at : (start plans more : List StagePlan) (growths : List ChannelChange) (batch : List Turn) (all : List Item) (i : ℕ) (none : Item) (command : Command) (plan : StagePlan) → i < length all → get_or all i none ≡ Line command → command ≡ Settle
    → growths_of plan ≡ map growth_of growths → batch_of plan ≡ batch → more ≡ plans ++ plan ∷ [] → StillPlans start plans growths batch all (drop i all) → StillPlans start more [] [] all (drop (i + 1) all)
settle_at start plans more growths batch all i none command plan within is says grown made added still =
    subst (λ (l : List StagePlan). StillPlans start l [] [] all (drop (i + 1) all)) (sym added)
    (settle_more start plans growths batch all (drop (i + 1) all) plan grown made
    (subst (λ (left : List Item). StillPlans start plans growths batch all left) (at_item all i none (Line Settle) within (is ∙ ap Line says)) still))
