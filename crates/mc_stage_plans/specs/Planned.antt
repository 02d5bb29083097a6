-- The plans that the batches of a text and its lines after `grow` make: the joins and cuts before each settle, and its
-- batch.
use Rattle.std.specs.Prelude.{◌≡◌, List, [], ◌∷◌, ◌++◌, map}
use Rattle.mc_box.specs.declared.event.Turn.{Turn}
use Rattle.mc_growth.specs.Growths.{Cut as ACut, Growth, Join as AJoin}
use Rattle.mc_script.specs.declared.command.Command.TheVariants.{Settle, Stimulus}
use Rattle.mc_stages.specs.Plans.{batch_of, growths_of}
use Rattle.mc_stages.specs.declared.plan.StagePlan.{StagePlan}
use Rattle.mc_tail.specs.declared.item.Item.{Item}
use Rattle.mc_tail.specs.declared.item.Item.TheVariants.{Cut, Join, Line}

-- the joins and cuts among items, in order
abbrev pub growths_in : List Item → List Growth
growths_in [] = []
growths_in (Join medium from to ∷ items) = AJoin medium from to ∷ growths_in items
growths_in (Cut channel ∷ items) = ACut channel ∷ growths_in items
growths_in (Line command ∷ items) = growths_in items

-- the turns that their commands make
abbrev pub turns_in : List Item → List Turn
turns_in [] = []
turns_in (Line (Stimulus turn) ∷ items) = turn ∷ turns_in items
turns_in (other ∷ items) = turns_in items

-- items before those of the next part, where there is one
abbrev pub before_next : {A : Type 0} → List A → List (List A) → List (List A)
before_next items [] = []
before_next items (part ∷ parts) = (items ++ part) ∷ parts

-- one part for each settle, with the items since the one before; those after the last settle are in none
abbrev pub settled_parts : List Item → List (List Item)
settled_parts [] = []
settled_parts (Line Settle ∷ items) = [] ∷ settled_parts items
settled_parts (item ∷ items) = before_next (item ∷ []) (settled_parts items)

-- to some plans one is added for each settle among items
pub record MoreArePlanned (old : List StagePlan) (items : List Item) (new : List StagePlan) : Type 0 where
  pub growths : map growths_of new ≡ map growths_of old ++ map growths_in (settled_parts items)
  pub batches_of : map batch_of new ≡ map batch_of old ++ map turns_in (settled_parts items)

-- no join and no cut before any of these batches
abbrev pub no_growths : List (List Turn) → List (List Growth)
no_growths batches = map (λ batch. []) batches

-- the plans are one for each of these batches, without joins and cuts, and then one for each settle among the items
pub record ArePlansOf (batches : List (List Turn)) (items : List Item) (plans : List StagePlan) : Type 0 where
  pub growths : map growths_of plans ≡ no_growths batches ++ map growths_in (settled_parts items)
  pub batches_of : map batch_of plans ≡ batches ++ map turns_in (settled_parts items)
