-- Hands that operators may ask for.
use Rattle.std.proofs.Common.{◌≡◌, ℕ, ◌<◌, List, [], ◌∷◌, length, nat_lt, sym, ◌∙◌, ap, subst}
use Rattle.std.specs.List.{AllByRecursion, list_all}
use Rattle.std.specs.Option.{option_map}
use Rattle.std.specs.declared.alloc.Global.{Global}
use Rattle.std.specs.declared.vec.Vec.{Vec}
use Rattle.std.proofs.lemmas.Bool.{and_parts, ltb-true}
use Rattle.std.proofs.lemmas.List.Elements.{All-from_recursion}
use Rattle.std.proofs.lemmas.Option.{slice_get-map}
use Rattle.mc_box.specs.BoxShapes.{box_shape, is_enabled_by}
use Rattle.mc_box.specs.declared.event.Turn.{Turn}
use Rattle.mc_desk.specs.declared.desk.Desk.{Desk}
use Rattle.mc_desks.proofs.Lists.{of_all, zip_from}
use Rattle.mc_live.proofs.Freed.{zip_count}
use Rattle.mc_live.specs.Askers.{AreNewAskers, CanBeAsked, IsNewAsker}
use Rattle.mc_live.specs.BoxRuns.{IsNewRun}
use Rattle.mc_live.specs.Phases.{IsSetFree}
use Rattle.mc_live.specs.declared.asker.Asker.{Asker}
use Rattle.mc_live.specs.declared.box_run.BoxRun.{BoxRun}
use Rattle.mc_model.specs.Shapes.{AreAllowed, is_allowed}
use Rattle.mc_model.specs.Worlds.{WorldState, box_at}
use Rattle.mc_phase.specs.Asked.{AreHandsFor, IsHandFor, hand_lists}
use Rattle.mc_phase.specs.Prepared.{AreAskersOf, IsPrepared}
use Rattle.mc_phase.specs.declared.preparing.PhaseParts.{PhaseParts}
use Rattle.mc_team.specs.declared.member.Member.{Member}

-- the turns of a hand are of boxes that are there
within_all : (world : WorldState) (n : ℕ) (hand : List Turn) → length world.boxes ≡ n → AreAllowed world hand → AllByRecursion (λ (turn : Turn). turn.who < n) hand
within_all world n [] same allowed = tt
within_all world n (turn ∷ hand) same allowed =
    let parts = and_parts (is_allowed world turn) (list_all (is_allowed world) hand) allowed in
    let own = and_parts (nat_lt turn.who (length world.boxes)) (is_enabled_by (box_shape (box_at world turn.who)) turn.event) parts.0 in
    (subst (λ (k : ℕ). turn.who < k) same (ltb-true turn.who (length world.boxes) own.0), within_all world n hand same parts.1)

pub new_askers : (world : WorldState) (desks : List Desk) (hands : List (Vec Turn Global)) (askers : List Asker) (operators : ℕ) → AreHandsFor world (hand_lists hands) → length world.boxes ≡ length desks → AreAskersOf desks operators askers → operators ≡ length hands
    → AreNewAskers desks hands askers
new_askers world desks hands askers operators are same of count =
    zip_from (λ (hand : Vec Turn Global) (asker : Asker). CanBeAsked desks hand × IsNewAsker desks asker) hands askers (of.count ∙ count) (λ k hand asker p q.
    let is : IsHandFor world hand.items = of_all (IsHandFor world) (hand_lists hands) k hand.items are (slice_get-map (λ (v : Vec Turn Global). v.items) hands k ∙ ap (option_map (λ (v : Vec Turn Global). v.items)) p) in (
      record { boxes = All-from_recursion (λ (turn : Turn). turn.who < length desks) hand.items (within_all world (length desks) hand.items same is.allowed); few = is.few },
      (of.each k asker q).new,
    ))

-- there is a desk for each member
pub desk_each : (operators : ℕ) (members : List Member) (parts : PhaseParts) → IsPrepared operators members parts → length members ≡ length parts.desks.items
desk_each operators members parts is =
    let one = zip_count IsSetFree members parts.runs.items is.free in
    let two = zip_count (λ (desk : Desk) (run : BoxRun). IsNewRun desk parts.flight run) parts.desks.items parts.runs.items is.begin in
    sym one ∙ two
