-- Plans are lawful where the parts of which they are may be asked for. What they leave of a network, and how many they are.
use Rattle.std.proofs.Common.{◌≡◌, ◌≤◌, ◌+◌, ◌⊎◌, inl, inr, ℕ, zero, suc, List, [], ◌∷◌, ◌++◌, flat_map, length, length-append, map, slice_set, slice_index_or, refl, ap, sym, ◌∙◌, subst, arith}
use Rattle.std.specs.List.{All}
use Rattle.std.proofs.lemmas.List.{length-map, length-set}
use Rattle.std.proofs.lemmas.List.Elements.{All-head, All-tail}
use Rattle.mc_box.specs.Boxes.{BoxState, first_slot, no_box, with_new_slot}
use Rattle.mc_box.specs.declared.setup.SlotSetup.{SlotSetup}
use Rattle.mc_box.specs.declared.event.Turn.{Turn}
use Rattle.mc_growth.specs.Growths.{Cut as ACut, GrownState, Growth, Join as AJoin, grown_by, grown_by_all}
use Rattle.mc_growth.specs.Joins.{away_box, near_box}
use Rattle.mc_model.specs.Worlds.{WorldState, box_at}
use Rattle.mc_script.specs.declared.command.Command.TheVariants.{Settle, Stimulus}
use Rattle.mc_stages.specs.Plans.{AreLawful, MayAskAll, MayCommand, batch_of, grown_at_end, growths_of}
use Rattle.mc_stages.specs.declared.plan.StagePlan.{StagePlan}
use Rattle.mc_tail.specs.declared.item.Item.{Item}
use Rattle.mc_tail.specs.declared.item.Item.TheVariants.{Cut, Join, Line}
use Rattle.mc_stage_plans.specs.Planned.{before_next, growths_in, no_growths, settled_parts, turns_in}
use Rattle.mc_stage_plans.proofs.Acting.{AreLawfulParts}

-- ---- plans

lawful_by_parts : (parts : List (List Item)) (plans : List StagePlan) (network : GrownState) → map growths_of plans ≡ map growths_in parts → map batch_of plans ≡ map turns_in parts
    → AreLawfulParts network parts → AreLawful network plans
lawful_by_parts [] [] network growths batches lawful = tt
lawful_by_parts [] (plan ∷ plans) network growths batches lawful = absurd (cc)
lawful_by_parts (part ∷ parts) [] network growths batches lawful = absurd (cc)
lawful_by_parts (part ∷ parts) (plan ∷ plans) network growths batches lawful =
    let here : growths_of plan ≡ growths_in part = cc in
    let these : batch_of plan ≡ turns_in part = cc in
    let others : map growths_of plans ≡ map growths_in parts = cc in
    let rest : map batch_of plans ≡ map turns_in parts = cc in (
      subst (λ (l : List Growth). MayAskAll network l) (sym here) lawful.0,
      subst (λ (l : List Growth). MayCommand (grown_by_all network l) (batch_of plan)) (sym here) (subst (λ (l : List Turn). MayCommand (grown_by_all network (growths_in part)) l) (sym these) lawful.1),
      subst (λ (l : List Growth). AreLawful (grown_by_all network l) plans) (sym here) (lawful_by_parts parts plans (grown_by_all network (growths_in part)) others rest lawful.2),
    )

-- batches without joins and cuts, and then parts
pub lawful_plans : (batches : List (List Turn)) (parts : List (List Item)) (plans : List StagePlan) (network : GrownState) → map growths_of plans ≡ no_growths batches ++ map growths_in parts
    → map batch_of plans ≡ batches ++ map turns_in parts → All (MayCommand network) batches → AreLawfulParts network parts → AreLawful network plans
lawful_plans [] parts plans network growths batches all lawful = lawful_by_parts parts plans network growths batches lawful
lawful_plans (batch ∷ others) parts [] network growths batches all lawful = absurd (cc)
lawful_plans (batch ∷ others) parts (plan ∷ plans) network growths batches all lawful =
    let here : growths_of plan ≡ [] = cc in
    let these : batch_of plan ≡ batch = cc in
    let more : map growths_of plans ≡ no_growths others ++ map growths_in parts = cc in
    let rest : map batch_of plans ≡ others ++ map turns_in parts = cc in (
      subst (λ (l : List Growth). MayAskAll network l) (sym here) tt,
      subst (λ (l : List Growth). MayCommand (grown_by_all network l) (batch_of plan)) (sym here) (subst (λ (l : List Turn). MayCommand network l) (sym these) (All-head (MayCommand network) batch others all)),
      subst (λ (l : List Growth). AreLawful (grown_by_all network l) plans) (sym here) (lawful_plans others parts plans network more rest (All-tail (MayCommand network) batch others all) lawful),
    )

-- ---- how many

as_many_before : (item : Item) (parts : List (List Item)) → length (before_next (item ∷ []) parts) ≡ length parts
as_many_before item [] = refl
as_many_before item (part ∷ parts) = refl

-- an item more is at most a part more, and only at a settle
pub parts_more : (items : List Item) (item : Item) → length (settled_parts (items ++ item ∷ [])) ≤ length (settled_parts items) + length (settled_parts (item ∷ []))
parts_more [] item = omega arith
parts_more (Join medium from to ∷ items) item = omega (arith, parts_more items item, as_many_before (Join medium from to) (settled_parts (items ++ item ∷ [])), as_many_before (Join medium from to) (settled_parts items))
parts_more (Cut channel ∷ items) item = omega (arith, parts_more items item, as_many_before (Cut channel) (settled_parts (items ++ item ∷ [])), as_many_before (Cut channel) (settled_parts items))
parts_more (Line (Stimulus turn) ∷ items) item =
    omega (arith, parts_more items item, as_many_before (Line (Stimulus turn)) (settled_parts (items ++ item ∷ [])), as_many_before (Line (Stimulus turn)) (settled_parts items))
parts_more (Line Settle ∷ items) item = omega (arith, parts_more items item)

pub few_plans : (batches : List (List Turn)) (parts : List (List Item)) (plans : List StagePlan) → map batch_of plans ≡ batches ++ map turns_in parts → length plans ≡ length batches + length parts
few_plans batches parts plans is = sym (length-map plans batch_of) ∙ ap (λ (l : List (List Turn)). length l) is ∙ length-append batches (map turns_in parts) ∙ ap (λ (n : ℕ). length batches + n) (length-map parts turns_in)

-- ---- what the plans leave

abbrev joined_lists : List (List Growth) → List Growth
joined_lists lists = flat_map (λ (l : List Growth). l) lists

all_growths : (plans : List StagePlan) → flat_map growths_of plans ≡ joined_lists (map growths_of plans)
all_growths [] = refl
all_growths (plan ∷ plans) = ap (λ (l : List Growth). growths_of plan ++ l) (all_growths plans)

none_first : (batches : List (List Turn)) (lists : List (List Growth)) → joined_lists (no_growths batches ++ lists) ≡ joined_lists lists
none_first [] lists = refl
none_first (batch ∷ batches) lists = none_first batches lists

-- what comes after the last settle
record Unsettled (items : List Item) : Type 0 where
  more : List Growth
  is : growths_in items ≡ joined_lists (map growths_in (settled_parts items)) ++ more

before_parts : (growth : Growth) (item : Item) (all : List Growth) (parts : List (List Item)) (more : List Growth) → ((part : List Item) → growths_in (item ∷ part) ≡ growth ∷ growths_in part)
    → all ≡ joined_lists (map growths_in parts) ++ more → (rest : List Growth) × (growth ∷ all ≡ joined_lists (map growths_in (before_next (item ∷ []) parts)) ++ rest)
before_parts growth item all [] more one is = (growth ∷ all, refl)
before_parts growth item all (part ∷ parts) more one is = (
  more,
  ap (λ (l : List Growth). growth ∷ l) is ∙ ap (λ (l : List Growth). l ++ joined_lists (map growths_in parts) ++ more) (sym (one part)),
)

command_before : (turn : Turn) (all : List Growth) (parts : List (List Item)) (more : List Growth) → all ≡ joined_lists (map growths_in parts) ++ more
    → (rest : List Growth) × (all ≡ joined_lists (map growths_in (before_next (Line (Stimulus turn) ∷ []) parts)) ++ rest)
command_before turn all [] more is = (more, is)
command_before turn all (part ∷ parts) more is = (more, is)

unsettled : (items : List Item) → Unsettled items
unsettled [] = record { more = []; is = refl }
unsettled (Join medium from to ∷ items) =
    let rest = unsettled items in
    let first = before_parts (AJoin medium from to) (Join medium from to) (growths_in items) (settled_parts items) rest.more (λ part. refl) rest.is in
    record { more = first.0; is = first.1 }
unsettled (Cut channel ∷ items) =
    let rest = unsettled items in
    let first = before_parts (ACut channel) (Cut channel) (growths_in items) (settled_parts items) rest.more (λ part. refl) rest.is in
    record { more = first.0; is = first.1 }
unsettled (Line (Stimulus turn) ∷ items) =
    let rest = unsettled items in
    let first = command_before turn (growths_in items) (settled_parts items) rest.more rest.is in
    record { more = first.0; is = first.1 }
unsettled (Line Settle ∷ items) = let rest = unsettled items in record { more = rest.more; is = rest.is }

-- ---- boxes keep what they have

-- a world comes of another where its boxes have at least the slots and receive the same codecs
pub record ComesOf (new old : WorldState) : Type 0 where
  pub boxes : length new.boxes ≡ length old.boxes
  pub slots : (who : ℕ) → length (box_at old who).slots ≤ length (box_at new who).slots
  pub receives : (who : ℕ) → (box_at new who).receives ≡ (box_at old who).receives

comes_of_self : (world : WorldState) → ComesOf world world
comes_of_self world = record { boxes = refl; slots = λ who. omega arith; receives = λ who. refl }

comes_on : (new mid old : WorldState) → ComesOf new mid → ComesOf mid old → ComesOf new old
comes_on new mid old late early = record {
  boxes = late.boxes ∙ early.boxes;
  slots = λ who. omega (arith, late.slots who, early.slots who);
  receives = λ who. late.receives who ∙ early.receives who;
}

-- a box that is set at a place is there, or all is as before
set_or_not : (boxes : List BoxState) (k : ℕ) (box : BoxState) (who : ℕ)
    → ((k ≡ who) × (slice_index_or (slice_set boxes k box) who no_box ≡ box)) ⊎ (slice_index_or (slice_set boxes k box) who no_box ≡ slice_index_or boxes who no_box)
set_or_not [] k box who = inr refl
set_or_not (one ∷ boxes) zero box zero = inl (refl, refl)
set_or_not (one ∷ boxes) zero box (suc who) = inr refl
set_or_not (one ∷ boxes) (suc k) box zero = inr refl
set_or_not (one ∷ boxes) (suc k) box (suc who) = elim (set_or_not boxes k box who) [
  | inl here ↦ inl (ap suc here.0, here.1)
  | inr stays ↦ inr stays
]

-- what a box keeps
record Keeps (new old : BoxState) : Type 0 where
  slots : length old.slots ≤ length new.slots
  receives : new.receives ≡ old.receives

keeps_self : (box : BoxState) → Keeps box box
keeps_self box = record { slots = omega arith; receives = refl }

keeps_slot : (box : BoxState) (setup : SlotSetup) → Keeps (with_new_slot box setup) box
keeps_slot box setup = record { slots = omega (arith, length-append box.slots (first_slot setup ∷ [])); receives = refl }

join_keeps : (world : WorldState) (new : BoxState) (away : BoxState) (from to who : ℕ) → Keeps new (box_at world from) → Keeps away (box_at world to)
    → Keeps (slice_index_or (slice_set (slice_set world.boxes from new) to away) who no_box) (box_at world who)
join_keeps world new away from to who near far = elim (set_or_not (slice_set world.boxes from new) to away who) [
  | inl here ↦ subst (λ (box : BoxState). Keeps box (box_at world who)) (sym here.1) (subst (λ (n : ℕ). Keeps away (box_at world n)) here.0 far)
  | inr stays ↦ subst (λ (box : BoxState). Keeps box (box_at world who)) (sym stays) (elim (set_or_not world.boxes from new who) [
    | inl here ↦ subst (λ (box : BoxState). Keeps box (box_at world who)) (sym here.1) (subst (λ (n : ℕ). Keeps new (box_at world n)) here.0 near)
    | inr same ↦ subst (λ (box : BoxState). Keeps box (box_at world who)) (sym same) (keeps_self (box_at world who))
  ])
]

pub growth_comes : (network : GrownState) (growth : Growth) → ComesOf (grown_by network growth).world network.world
growth_comes network (AJoin medium from to) =
    let each = λ (who : ℕ). join_keeps network.world (near_box network.world medium from) (away_box network.world medium to) from to who (keeps_slot (box_at network.world from) _) (keeps_slot (box_at network.world to) _) in
    record {
      boxes = length-set (slice_set network.world.boxes from (near_box network.world medium from)) to (away_box network.world medium to) ∙ length-set network.world.boxes from (near_box network.world medium from);
      slots = λ who. (each who).slots;
      receives = λ who. (each who).receives;
    }
growth_comes network (ACut channel) = comes_of_self network.world

grown_comes : (growths : List Growth) (network : GrownState) → ComesOf (grown_by_all network growths).world network.world
grown_comes [] network = comes_of_self network.world
grown_comes (growth ∷ growths) network =
    comes_on (grown_by_all (grown_by network growth) growths).world (grown_by network growth).world network.world (grown_comes growths (grown_by network growth)) (growth_comes network growth)

grown_split : (growths more : List Growth) (network : GrownState) → ComesOf (grown_by_all network (growths ++ more)).world (grown_by_all network growths).world
grown_split [] more network = grown_comes more network
grown_split (growth ∷ growths) more network = grown_split growths more (grown_by network growth)

-- the network of all items comes of the one that the plans leave
pub items_come : (batches : List (List Turn)) (items : List Item) (plans : List StagePlan) (network : GrownState) → map growths_of plans ≡ no_growths batches ++ map growths_in (settled_parts items)
    → ComesOf (grown_by_all network (growths_in items)).world (grown_at_end network plans).world
items_come batches items plans network is =
    let rest = unsettled items in
    let settled : List Growth = joined_lists (map growths_in (settled_parts items)) in
    let these : flat_map growths_of plans ≡ joined_lists (map growths_in (settled_parts items)) = all_growths plans ∙ ap joined_lists is ∙ none_first batches (map growths_in (settled_parts items)) in
    subst (λ (l : List Growth). ComesOf (grown_by_all network (growths_in items)).world (grown_by_all network l).world) (sym these)
    (subst (λ (l : List Growth). ComesOf (grown_by_all network l).world (grown_by_all network settled).world) (sym rest.is) (grown_split settled rest.more network))
