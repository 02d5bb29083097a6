-- Items one after the other: what each may do to the network of its time. And what the parts up to settles may do then.
use Rattle.std.proofs.Common.{◌≡◌, ◌<◌, ◌||◌, ℕ, Bool, true, false, List, [], ◌∷◌, ◌++◌, refl, ap, sym, ◌∙◌, subst}
use Rattle.std.specs.Prelude.{IsTrue}
use Rattle.std.specs.List.{list_any}
use Rattle.mc_signal.specs.declared.Medium.{Medium}
use Rattle.mc_box.specs.declared.event.Turn.{Turn}
use Rattle.mc_growth.specs.Growths.{Cut as ACut, GrownState, Growth, Join as AJoin, grown_by, grown_by_all, with_cut, with_join}
use Rattle.mc_growth.specs.Joins.{MayJoin}
use Rattle.mc_growth.specs.Outs.{MayCut, is_out, sets}
use Rattle.mc_model.specs.Shapes.{is_allowed}
use Rattle.mc_model.specs.Worlds.{slot_count}
use Rattle.mc_script.specs.declared.command.Command.TheVariants.{Settle, Stimulus}
use Rattle.mc_stages.specs.Plans.{MayAskAll, MayCommand}
use Rattle.mc_tail.specs.declared.item.Item.{Item}
use Rattle.mc_tail.specs.declared.item.Item.TheVariants.{Cut, Join, Line}
use Rattle.mc_stage_plans.specs.Planned.{before_next, growths_in, settled_parts, turns_in}

-- ---- one item after the other

-- a turn may be asked for: the network allows it, and it is no Set on a slot that is out
pub record MayTurn (network : GrownState) (turn : Turn) : Type 0 where
  pub allowed : IsTrue (is_allowed network.world turn)
  pub none_out : (s : ℕ) → s < slot_count network.world → is_out network.out s ≡ true → sets network.world s turn ≡ false

-- an item may come, where commands may have come since the last settle: joins and cuts come before them
abbrev pub MayCome : GrownState → (commanded : Bool) → Item → Type 0
MayCome network commanded (Join medium from to) = MayJoin network.world from to × (commanded ≡ false)
MayCome network commanded (Cut channel) = MayCut network.world network.out channel × (commanded ≡ false)
MayCome network commanded (Line (Stimulus turn)) = MayTurn network turn
MayCome network commanded (Line Settle) = Unit {0}

-- the network after it
abbrev pub after_item : GrownState → Item → GrownState
after_item network item = grown_by_all network (growths_in (item ∷ []))

-- commands came since the last settle then
abbrev pub commanded_after : Bool → Item → Bool
commanded_after commanded (Line (Stimulus turn)) = true
commanded_after commanded (Line Settle) = false
commanded_after commanded other = commanded

abbrev pub commanded_by : Bool → List Item → Bool
commanded_by commanded [] = commanded
commanded_by commanded (item ∷ items) = commanded_by (commanded_after commanded item) items

-- each of them may come after those before it
abbrev pub MayComeAll : GrownState → (commanded : Bool) → List Item → Type 0
MayComeAll network commanded [] = Unit {0}
MayComeAll network commanded (item ∷ items) = MayCome network commanded item × MayComeAll (after_item network item) (commanded_after commanded item) items

-- the network after all of them
abbrev pub after_items : GrownState → List Item → GrownState
after_items network items = grown_by_all network (growths_in items)

-- ---- an item more

pub growths_append : (items more : List Item) → growths_in (items ++ more) ≡ growths_in items ++ growths_in more
growths_append [] more = refl
growths_append (Join medium from to ∷ items) more = ap (λ (l : List Growth). AJoin medium from to ∷ l) (growths_append items more)
growths_append (Cut channel ∷ items) more = ap (λ (l : List Growth). ACut channel ∷ l) (growths_append items more)
growths_append (Line command ∷ items) more = growths_append items more

grown_append : (growths more : List Growth) (network : GrownState) → grown_by_all network (growths ++ more) ≡ grown_by_all (grown_by_all network growths) more
grown_append [] more network = refl
grown_append (growth ∷ growths) more network = grown_append growths more (grown_by network growth)

pub after_push : (network : GrownState) (items : List Item) (item : Item) → after_items network (items ++ item ∷ []) ≡ after_item (after_items network items) item
after_push network items item = ap (grown_by_all network) (growths_append items (item ∷ [])) ∙ grown_append (growths_in items) (growths_in (item ∷ [])) network

pub commanded_push : (items : List Item) (item : Item) (commanded : Bool) → commanded_by commanded (items ++ item ∷ []) ≡ commanded_after (commanded_by commanded items) item
commanded_push [] item commanded = refl
commanded_push (one ∷ items) item commanded = commanded_push items item (commanded_after commanded one)

pub come_push : (items : List Item) (item : Item) (network : GrownState) (commanded : Bool) → MayComeAll network commanded items → MayCome (after_items network items) (commanded_by commanded items) item
    → MayComeAll network commanded (items ++ item ∷ [])
come_push [] item network commanded all may = (may, tt)
come_push (Join medium from to ∷ items) item network commanded all may = (all.0, come_push items item (with_join network medium from to) commanded all.1 may)
come_push (Cut channel ∷ items) item network commanded all may = (all.0, come_push items item (with_cut network channel) commanded all.1 may)
come_push (Line (Stimulus turn) ∷ items) item network commanded all may = (all.0, come_push items item network true all.1 may)
come_push (Line Settle ∷ items) item network commanded all may = (all.0, come_push items item network false all.1 may)

-- ---- the parts up to settles

-- each part may be asked for after those before it
abbrev pub AreLawfulParts : GrownState → List (List Item) → Type 0
AreLawfulParts network [] = Unit {0}
AreLawfulParts network (part ∷ parts) =
    MayAskAll network (growths_in part) × MayCommand (grown_by_all network (growths_in part)) (turns_in part) × AreLawfulParts (grown_by_all network (growths_in part)) parts

abbrev first_growths : List (List Item) → List Growth
first_growths [] = []
first_growths (part ∷ parts) = growths_in part

-- they may, and where commands came before them, the first has no joins and cuts
record AreLawfulFrom (network : GrownState) (commanded : Bool) (parts : List (List Item)) : Type 0 where
  lawful : AreLawfulParts network parts
  apart : commanded ≡ true → first_growths parts ≡ []

no_commands : (network : GrownState) → MayCommand network []
no_commands network = record { allowed = refl; none_out = λ s inside out. refl }

turn_more : (network : GrownState) (turn : Turn) (turns : List Turn) → MayTurn network turn → MayCommand network turns → MayCommand network (turn ∷ turns)
turn_more network turn turns may more = record {
  allowed = rw may.allowed more.allowed;
  none_out = λ s inside out. ap (λ (b : Bool). b || list_any (sets network.world s) turns) (may.none_out s inside out) ∙ more.none_out s inside out;
}

not_both : (b : Bool) → b ≡ false → b ≡ true → ⊥
not_both b one two = absurd (cc)

before_join : (medium : Medium) (from to : ℕ) (network : GrownState) (commanded : Bool) (parts : List (List Item)) → MayJoin network.world from to → commanded ≡ false
    → AreLawfulFrom (with_join network medium from to) commanded parts → AreLawfulFrom network commanded (before_next (Join medium from to ∷ []) parts)
before_join medium from to network commanded [] may off rest = record { lawful = tt; apart = λ on. refl }
before_join medium from to network commanded (part ∷ parts) may off rest = record {
  lawful = ((may, rest.lawful.0), rest.lawful.1, rest.lawful.2);
  apart = λ on. absurd (not_both commanded off on);
}

before_cut : (channel : ℕ) (network : GrownState) (commanded : Bool) (parts : List (List Item)) → MayCut network.world network.out channel → commanded ≡ false
    → AreLawfulFrom (with_cut network channel) commanded parts → AreLawfulFrom network commanded (before_next (Cut channel ∷ []) parts)
before_cut channel network commanded [] may off rest = record { lawful = tt; apart = λ on. refl }
before_cut channel network commanded (part ∷ parts) may off rest = record {
  lawful = ((may, rest.lawful.0), rest.lawful.1, rest.lawful.2);
  apart = λ on. absurd (not_both commanded off on);
}

before_turn : (turn : Turn) (network : GrownState) (commanded : Bool) (parts : List (List Item)) → MayTurn network turn → AreLawfulFrom network true parts
    → AreLawfulFrom network commanded (before_next (Line (Stimulus turn) ∷ []) parts)
before_turn turn network commanded [] may rest = record { lawful = tt; apart = λ on. refl }
before_turn turn network commanded (part ∷ parts) may rest =
    let none : growths_in part ≡ [] = rest.apart refl in
    let now : MayCommand network (turns_in part) = subst (λ (l : List Growth). MayCommand (grown_by_all network l) (turns_in part)) none rest.lawful.1 in
    record {
      lawful = (rest.lawful.0, subst (λ (l : List Growth). MayCommand (grown_by_all network l) (turn ∷ turns_in part)) (sym none) (turn_more network turn (turns_in part) may now), rest.lawful.2);
      apart = λ on. none;
    }

lawful_from : (items : List Item) (network : GrownState) (commanded : Bool) → MayComeAll network commanded items → AreLawfulFrom network commanded (settled_parts items)
lawful_from [] network commanded all = record { lawful = tt; apart = λ on. refl }
lawful_from (Join medium from to ∷ items) network commanded all =
    before_join medium from to network commanded (settled_parts items) all.0.0 all.0.1 (lawful_from items (with_join network medium from to) commanded all.1)
lawful_from (Cut channel ∷ items) network commanded all =
    before_cut channel network commanded (settled_parts items) all.0.0 all.0.1 (lawful_from items (with_cut network channel) commanded all.1)
lawful_from (Line (Stimulus turn) ∷ items) network commanded all = before_turn turn network commanded (settled_parts items) all.0 (lawful_from items network true all.1)
lawful_from (Line Settle ∷ items) network commanded all = record { lawful = (tt, no_commands network, (lawful_from items network false all.1).lawful); apart = λ on. refl }

-- where each item may come, each part may be asked for
pub lawful_parts : (network : GrownState) (items : List Item) → MayComeAll network false items → AreLawfulParts network (settled_parts items)
lawful_parts network items all = (lawful_from items network false all).lawful
