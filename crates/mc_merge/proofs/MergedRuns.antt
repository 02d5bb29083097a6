-- Entries of several boxes in one list, none of which has a lower stamp than one before it, are a run.
use Rattle.std.proofs.Common.{◌≡◌, ◌≢◌, ◌==◌, ◌<◌, ◌≤◌, ◌*◌, if◌then◌else◌, inl, inr, ℕ, true, nat_lt, Option, Some, List, [], ◌∷◌, ◌++◌, drop, length, map, refl, ap, ap₂, sym, ◌∙◌, subst, arith}
use Rattle.std.specs.List.{AllByRecursion}
use Rattle.std.specs.Option.{option_and_then}
use Rattle.std.proofs.Math.ListN.{get_or, set, length-set}
use Rattle.std.proofs.lemmas.Bool.{cases_eq}
use Rattle.std.proofs.lemmas.Grind.{common_steps}
use Rattle.std.proofs.lemmas.List.{append-nil, ext_get_or, get_or-set_same, get_or-set_other}
use Rattle.mc_signal.specs.declared.Tagged.{Tagged}
use Rattle.mc_box.specs.Boxes.{BoxState, no_box}
use Rattle.mc_box.specs.declared.event.Turn.{Turn}
use Rattle.mc_model.specs.Steps.{run, step}
use Rattle.mc_model.specs.Worlds.{WorldState, box_at}
use Rattle.mc_laws.specs.Sendings.{sent_on}
use Rattle.mc_merge.specs.Lanes.{FitsTunnel}
use Rattle.mc_merge.proofs.Accounts.{Follows, Splits, moves, splits}
use Rattle.mc_merge.proofs.EntrySteps.{event_steps, takes_from}
use Rattle.mc_port.specs.Entries.{Entry, AreMade}
use Rattle.mc_port.specs.Ends.{with_stamp}
use Rattle.mc_port.specs.declared.stamped.Stamped.{Stamped}

-- an entry, with the number of its box
abbrev pub Placed : Type 0
Placed = ℕ × Entry

abbrev pub placed_turn : Placed → Turn
placed_turn placed = record { who = placed.0; event = placed.1.event }

-- the entries of one box
abbrev pub own : ℕ → List Placed → List Entry
own who [] = []
own who (placed ∷ rest) = if placed.0 == who then placed.1 ∷ own who rest else own who rest

pub own_here : (who : ℕ) (placed : Placed) (rest : List Placed) → placed.0 ≡ who → own who (placed ∷ rest) ≡ placed.1 ∷ own who rest
own_here who placed rest is = grind (arith, common_steps)

pub own_else : (who : ℕ) (placed : Placed) (rest : List Placed) → placed.0 ≢ who → own who (placed ∷ rest) ≡ own who rest
own_else who placed rest other = grind (arith, common_steps)

-- what they take from a lane and send into it
abbrev pub all_taken : WorldState → ℕ → List Placed → List Stamped
all_taken world lane [] = []
all_taken world lane (placed ∷ rest) = map (with_stamp placed.1.stamp) (takes_from world lane placed.0 placed.1.event placed.1.taken) ++ all_taken world lane rest

abbrev pub all_sent : WorldState → ℕ → List Placed → List Stamped
all_sent world lane [] = []
all_sent world lane (placed ∷ rest) = map (with_stamp placed.1.stamp) (sent_on world placed.0 lane placed.1.sent) ++ all_sent world lane rest

-- no stamp is below one before it
abbrev pub NeverFalls : List Placed → Type 0
NeverFalls [] = Unit {0}
NeverFalls (placed ∷ rest) = AllByRecursion (λ (later : Placed). placed.1.stamp ≤ later.1.stamp) rest × NeverFalls rest

-- what makes them a run from a world to the one with these boxes and lanes
pub record Leads (world : WorldState) (entries : List Placed) (boxes : List BoxState) (rests : List (List Tagged)) : Type 0 where
  pub each_lane : length world.lanes ≡ 2 * length world.channels
  pub box_count : length boxes ≡ length world.boxes
  pub lane_count : length rests ≡ length world.lanes
  pub below : AllByRecursion (λ (placed : Placed). placed.0 < length boxes) entries
  pub fits : AllByRecursion (λ (placed : Placed). FitsTunnel world placed.0 placed.1.event placed.1.taken) entries
  pub rises : NeverFalls entries
  pub made : (who : ℕ) → who < length boxes → AreMade (box_at world who) (own who entries) (get_or boxes who no_box)
  pub follows : (lane : ℕ) → lane < length rests → Follows (all_taken world lane entries) (get_or world.lanes lane []) (all_sent world lane entries) (get_or rests lane [])

-- ---- no entry to come

ended : (world : WorldState) (boxes : List BoxState) (rests : List (List Tagged)) → Leads world [] boxes rests → world ≡ record world { boxes = boxes; lanes = rests }
ended world boxes rests leads =
    let same_boxes : world.boxes ≡ boxes = ext_get_or no_box world.boxes boxes (sym leads.box_count) (λ who below. leads.made who (subst (λ (n : ℕ). who < n) (sym leads.box_count) below)) in
    let same_lanes : world.lanes ≡ rests = ext_get_or [] world.lanes rests (sym leads.lane_count)
    (λ lane below. sym (leads.follows lane (subst (λ (n : ℕ). lane < n) (sym leads.lane_count) below) ∙ append-nil (get_or world.lanes lane []))) in
    ap₂ (λ (b : List BoxState) (l : List (List Tagged)). record world { boxes = b; lanes = l }) same_boxes same_lanes

-- ---- one entry

late_own : (stamp : ℕ) (now : List Tagged) (sent : List Stamped) → AllByRecursion (λ (s : Stamped). stamp ≤ s.stamp) sent → AllByRecursion (λ (s : Stamped). stamp ≤ s.stamp) (map (with_stamp stamp) now ++ sent)
late_own stamp [] sent late = late
late_own stamp (tagged ∷ now) sent late = (omega arith, late_own stamp now sent late)

late_more : (stamp other : ℕ) (now : List Tagged) (sent : List Stamped) → stamp ≤ other → AllByRecursion (λ (s : Stamped). stamp ≤ s.stamp) sent → AllByRecursion (λ (s : Stamped). stamp ≤ s.stamp) (map (with_stamp other) now ++ sent)
late_more stamp other [] sent below late = late
late_more stamp other (tagged ∷ now) sent below late = (below, late_more stamp other now sent below late)

-- nothing that is still to be sent has a lower stamp
late_all : (entries : List Placed) (world : WorldState) (lane stamp : ℕ) → AllByRecursion (λ (later : Placed). stamp ≤ later.1.stamp) entries → AllByRecursion (λ (s : Stamped). stamp ≤ s.stamp) (all_sent world lane entries)
late_all [] world lane stamp late = tt
late_all (placed ∷ rest) world lane stamp late =
    late_more stamp placed.1.stamp (sent_on world placed.0 lane placed.1.sent) (all_sent world lane rest) late.0 (late_all rest world lane stamp late.1)

below_test : (a b : ℕ) → a < b → nat_lt a b ≡ true
below_test a b below = grind (arith, common_steps)

-- what is left of a lane after an entry has taken from it
abbrev left_of : WorldState → Placed → ℕ → List Tagged
left_of world placed lane = drop (length (takes_from world lane placed.0 placed.1.event placed.1.taken)) (get_or world.lanes lane [])

pub record OneStep (world : WorldState) (placed : Placed) (rest : List Placed) (boxes : List BoxState) (rests : List (List Tagged)) : Type 0 where
  pub next : WorldState
  pub goes : step world (placed_turn placed) ≡ Some next
  pub leads : Leads next rest boxes rests
  pub last : record next { boxes = boxes; lanes = rests } ≡ record world { boxes = boxes; lanes = rests }

lane_splits : (world : WorldState) (placed : Placed) (rest : List Placed) (boxes : List BoxState) (rests : List (List Tagged)) (lane : ℕ) → Leads world (placed ∷ rest) boxes rests → lane < length rests
    → Splits (takes_from world lane placed.0 placed.1.event placed.1.taken) (all_taken world lane rest) (get_or world.lanes lane []) (all_sent world lane (placed ∷ rest)) (get_or rests lane [])
lane_splits world placed rest boxes rests lane leads inside =
    splits (takes_from world lane placed.0 placed.1.event placed.1.taken) placed.1.stamp (all_taken world lane rest) (get_or world.lanes lane []) (all_sent world lane (placed ∷ rest)) (get_or rests lane [])
    (late_own placed.1.stamp (sent_on world placed.0 lane placed.1.sent) (all_sent world lane rest) (late_all rest world lane placed.1.stamp leads.rises.0))
    (leads.follows lane inside)

-- the box that acts, and each other
made_next : (world : WorldState) (placed : Placed) (rest : List Placed) (boxes : List BoxState) (rests : List (List Tagged)) (who : ℕ) → Leads world (placed ∷ rest) boxes rests → who < length boxes
    → AreMade (get_or (set world.boxes placed.0 placed.1.after) who no_box) (own who rest) (get_or boxes who no_box)
made_next world placed rest boxes rests who leads inside = elim (cases_eq placed.0 who) [
  | inl is ↦
      let made : AreMade (box_at world who) (placed.1 ∷ own who rest) (get_or boxes who no_box) =
      subst (λ (entries : List Entry). AreMade (box_at world who) entries (get_or boxes who no_box)) (own_here who placed rest is) (leads.made who inside) in
      let now : get_or (set world.boxes placed.0 placed.1.after) who no_box ≡ placed.1.after =
      ap (λ (k : ℕ). get_or (set world.boxes k placed.1.after) who no_box) is ∙ get_or-set_same world.boxes who placed.1.after no_box (subst (λ (n : ℕ). who < n) leads.box_count inside) in
      subst (λ (box : BoxState). AreMade box (own who rest) (get_or boxes who no_box)) (sym now) made.1
  | inr away ↦
      let made : AreMade (box_at world who) (own who rest) (get_or boxes who no_box) =
      subst (λ (entries : List Entry). AreMade (box_at world who) entries (get_or boxes who no_box)) (own_else who placed rest away) (leads.made who inside) in
      let now : get_or (set world.boxes placed.0 placed.1.after) who no_box ≡ box_at world who =
      get_or-set_other world.boxes placed.0 who placed.1.after no_box (λ same. away (sym same)) in
      subst (λ (box : BoxState). AreMade box (own who rest) (get_or boxes who no_box)) (sym now) made
]

one_step : (world : WorldState) (placed : Placed) (rest : List Placed) (boxes : List BoxState) (rests : List (List Tagged)) → Leads world (placed ∷ rest) boxes rests → OneStep world placed rest boxes rests
one_step world placed rest boxes rests leads =
    let made : AreMade (box_at world placed.0) (placed.1 ∷ own placed.0 rest) (get_or boxes placed.0 no_box) =
    subst (λ (entries : List Entry). AreMade (box_at world placed.0) entries (get_or boxes placed.0 no_box)) (own_here placed.0 placed rest refl) (leads.made placed.0 leads.below.0) in
    let acts = event_steps placed.1.event placed.1.taken world placed.0 placed.1.sent placed.1.after (left_of world placed) leads.each_lane
    (below_test placed.0 (length world.boxes) (subst (λ (n : ℕ). placed.0 < n) leads.box_count leads.below.0))
    made.0 leads.fits.0
    (λ lane inside. (lane_splits world placed rest boxes rests lane leads (subst (λ (n : ℕ). lane < n) (sym leads.lane_count) inside)).is) in
    record {
      next = record world { boxes = set world.boxes placed.0 placed.1.after; lanes = acts.lanes };
      goes = acts.goes;
      leads = record {
        each_lane = acts.count ∙ leads.each_lane;
        box_count = leads.box_count ∙ sym (length-set world.boxes placed.0 placed.1.after);
        lane_count = leads.lane_count ∙ sym acts.count;
        below = leads.below.1;
        fits = leads.fits.1;
        rises = leads.rises.1;
        made = λ who inside. made_next world placed rest boxes rests who leads inside;
        follows = λ lane inside.
            subst (λ (l : List Tagged). Follows (all_taken world lane rest) l (all_sent world lane rest) (get_or rests lane [])) (sym (acts.lists lane (subst (λ (n : ℕ). lane < n) leads.lane_count inside)))
            (moves (sent_on world placed.0 lane placed.1.sent) placed.1.stamp (all_taken world lane rest) (left_of world placed lane) (all_sent world lane rest) (get_or rests lane [])
            (lane_splits world placed rest boxes rests lane leads inside).next);
      };
      last = refl;
    }

-- ---- all entries

run_more : (world next last : WorldState) (turn : Turn) (turns : List Turn) → step world turn ≡ Some next → run next turns ≡ Some last → run world (turn ∷ turns) ≡ Some last
run_more world next last turn turns goes later = ap (λ (o : Option WorldState). option_and_then (λ (w : WorldState). run w turns) o) goes ∙ later

pub merged_runs : (entries : List Placed) (world : WorldState) (boxes : List BoxState) (rests : List (List Tagged)) → Leads world entries boxes rests
    → run world (map placed_turn entries) ≡ Some (record world { boxes = boxes; lanes = rests })
merged_runs [] world boxes rests leads = ap (λ (w : WorldState). Some w) (ended world boxes rests leads)
merged_runs (placed ∷ rest) world boxes rests leads =
    let one = one_step world placed rest boxes rests leads in
    run_more world one.next (record world { boxes = boxes; lanes = rests }) (placed_turn placed) (map placed_turn rest) one.goes
    (merged_runs rest one.next boxes rests one.leads ∙ ap (λ (w : WorldState). Some w) one.last)
