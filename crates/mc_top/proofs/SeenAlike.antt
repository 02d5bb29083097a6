-- Worlds that are seen alike have the same paths, and where goals decide these the same is printed of them.
use Rattle.std.proofs.Common.{◌≡◌, ◌++◌, ℕ, Bool, true, false, if◌then◌else◌, List, [], ◌∷◌, Option, Some, None, IsSome, All, codes, refl, ap, sym, ◌∙◌, subst}
use Rattle.std.specs.Fmt.{decimal}
use Rattle.std.specs.List.{AllByRecursion, flat_map}
use Rattle.std.specs.Option.{unwrap_or}
use Rattle.std.proofs.Math.ListN.{get_or}
use Rattle.std.proofs.lemmas.List.Elements.{recursion_from_All}
use Rattle.mc_signal.specs.Choice.{codecs_of, shared_codec}
use Rattle.mc_signal.specs.Empty.{no_codecs}
use Rattle.mc_signal.specs.declared.Tagged.{Tagged}
use Rattle.mc_signal.specs.declared.codec_list.CodecList.{CodecList}
use Rattle.mc_slot.specs.declared.Goal.{Goal}
use Rattle.mc_slot.specs.declared.State.{State}
use Rattle.mc_slot.specs.declared.State.TheVariants.{Closed, Opening, Opened, Flowing, Closing}
use Rattle.mc_box.specs.Acting.{IsAlike}
use Rattle.mc_box.specs.Boxes.{BoxState, media_at, own, own_of, sender, sender_of}
use Rattle.mc_box.specs.declared.event.Kind.{Kind}
use Rattle.mc_box.specs.declared.event.Kind.TheVariants.{Device, Feature}
use Rattle.mc_box.specs.declared.setup.SlotMedia.{SlotMedia}
use Rattle.mc_laws.proofs.Reaches.{GoalsStay, with_boxes}
use Rattle.mc_model.specs.PathTable.{heard_codec, high_hears, low_hears, path_state, table}
use Rattle.mc_model.specs.Paths.{PathEnds, end_goal, paths}
use Rattle.mc_model.specs.Worlds.{ChannelState, WorldState, box_at, goal_of, own_descriptor, own_sender, place, slot_count, slot_of, tunnel_of}
use Rattle.mc_settings.proofs.SamePaths.{end_goal_same, goals_stay, media_same, paths_same}
use Rattle.mc_settings.specs.Alike.{AreAlike}
use Rattle.mc_settings.specs.Batches.{AreDecided, IsDecided}
use Rattle.mc_settings.specs.Settings.{settings_of}
use Rattle.mc_script.specs.Meaning.{goal_word}
use Rattle.mc_table.specs.Words.{line_of, medium_word}
use Rattle.mc_text.specs.NameLists.{NameLists}
use Rattle.mc_settle_text.specs.Paths.{hears_line, hears_lines, path_line, path_text, settle_text}
use Rattle.mc_settle_text.specs.Words.{place_word, state_word}

-- ---- seen alike

-- a box of the same kind, with the same settings, and with lists of the same codecs
pub record IsSeenAlike (box other : BoxState) : Type 0 where
  pub kind : box.kind ≡ other.kind
  pub receives : codecs_of box.receives ≡ codecs_of other.receives
  pub sends : codecs_of box.sends ≡ codecs_of other.sends
  pub settings : settings_of box ≡ settings_of other

-- a world of the same channels, in which each box is seen alike
pub record AreSeenAlike (world other : WorldState) : Type 0 where
  pub channels : world.channels ≡ other.channels
  pub boxes : (who : ℕ) → IsSeenAlike (box_at world who) (box_at other who)

box_seen_back : (box other : BoxState) → IsSeenAlike box other → IsSeenAlike other box
box_seen_back box other seen = record { kind = sym seen.kind; receives = sym seen.receives; sends = sym seen.sends; settings = sym seen.settings }

pub seen_back : (world other : WorldState) → AreSeenAlike world other → AreSeenAlike other world
seen_back world other seen = record { channels = sym seen.channels; boxes = λ who. box_seen_back (box_at world who) (box_at other who) (seen.boxes who) }

-- a box of the same make and settings
box_alike_seen : (box other : BoxState) → IsAlike box other → settings_of box ≡ settings_of other → IsSeenAlike box other
box_alike_seen box other alike same =
    record { kind = alike.kind; receives = ap codecs_of alike.receives; sends = ap codecs_of alike.sends; settings = same }

-- worlds that are alike but for what signals change
pub alike_seen : (world other : WorldState) → AreAlike world other → AreSeenAlike world other
alike_seen world other alike =
    record { channels = alike.shape.channels; boxes = λ who. box_alike_seen (box_at world who) (box_at other who) (alike.shape.alike who) (alike.settings who) }

-- ---- what is heard

-- a list where it is asked for
list_if : (on : Bool) (list other : CodecList) → codecs_of list ≡ codecs_of other → codecs_of (if on then list else no_codecs) ≡ codecs_of (if on then other else no_codecs)
list_if true list other same = same
list_if false list other same = refl

offered_by : (kind : Kind) (box other : BoxState) (media : SlotMedia) (local : ℕ) → codecs_of box.receives ≡ codecs_of other.receives
    → codecs_of (own_of kind box media local).codecs ≡ codecs_of (own_of kind other media local).codecs
offered_by Device box other media local same = list_if media.hears box.receives other.receives same
offered_by Feature box other media local same = refl

offered_same : (box other : BoxState) (local : ℕ) → IsSeenAlike box other → codecs_of (own box local).codecs ≡ codecs_of (own other local).codecs
offered_same box other local seen =
    ap (λ (kind : Kind). codecs_of (own_of kind box (media_at box local) local).codecs) seen.kind
    ∙ (ap (λ (media : SlotMedia). codecs_of (own_of other.kind box media local).codecs) (media_same box other local seen.settings)
    ∙ offered_by other.kind box other (media_at other local) local seen.receives)

sent_by : (kind : Kind) (box other : BoxState) (media : SlotMedia) (local : ℕ) → codecs_of box.sends ≡ codecs_of other.sends
    → codecs_of (sender_of kind box media local).codecs ≡ codecs_of (sender_of kind other media local).codecs
sent_by Device box other media local same = list_if media.talks box.sends other.sends same
sent_by Feature box other media local same = refl

sent_same : (box other : BoxState) (local : ℕ) → IsSeenAlike box other → codecs_of (sender box local).codecs ≡ codecs_of (sender other local).codecs
sent_same box other local seen =
    ap (λ (kind : Kind). codecs_of (sender_of kind box (media_at box local) local).codecs) seen.kind
    ∙ (ap (λ (media : SlotMedia). codecs_of (sender_of other.kind box media local).codecs) (media_same box other local seen.settings)
    ∙ sent_by other.kind box other (media_at other local) local seen.sends)

-- of the same channels, slot by slot
heard_same : (world : WorldState) (boxes : List BoxState) (lanes : List (List Tagged)) (s t : ℕ) → AreSeenAlike (with_boxes world boxes lanes) world
    → heard_codec (own_descriptor (with_boxes world boxes lanes) s) (own_sender (with_boxes world boxes lanes) t) ≡ heard_codec (own_descriptor world s) (own_sender world t)
heard_same world boxes lanes s t seen =
    let new : WorldState = with_boxes world boxes lanes in
    ap (λ (list : List ℕ). shared_codec list (codecs_of (own_sender new t).codecs))
    (offered_same (box_at new (place world s).0) (box_at world (place world s).0) (place world s).1 (seen.boxes (place world s).0))
    ∙ ap (λ (list : List ℕ). shared_codec (codecs_of (own_descriptor world s).codecs) list)
    (sent_same (box_at new (place world t).0) (box_at world (place world t).0) (place world t).1 (seen.boxes (place world t).0))

-- ---- paths

-- where the table has an answer, nothing stands in for it
decided_by : (answer : Option State) (one two : State) → IsSome answer → unwrap_or answer one ≡ unwrap_or answer two
decided_by (Some state) one two some = refl
decided_by None one two some = absurd (cc)

state_same : (world : WorldState) (boxes : List BoxState) (lanes : List (List Tagged)) (path : PathEnds) → GoalsStay (with_boxes world boxes lanes) world → IsDecided (with_boxes world boxes lanes) path
    → path_state (with_boxes world boxes lanes) path ≡ path_state world path
state_same world boxes lanes path stay decided =
    let new : WorldState = with_boxes world boxes lanes in
    decided_by (table (end_goal new path.low) (end_goal new path.high)) (slot_of new path.low).state (slot_of world path.low).state decided
    ∙ (ap (λ (goal : Goal). unwrap_or (table goal (end_goal new path.high)) (slot_of world path.low).state) (end_goal_same world boxes lanes path.low stay)
    ∙ ap (λ (goal : Goal). unwrap_or (table (end_goal world path.low) goal) (slot_of world path.low).state) (end_goal_same world boxes lanes path.high stay))

-- ---- text

-- the line of a path by what changes from world to world
abbrev line_by : NameLists → WorldState → PathEnds → Goal → Goal → State → List ℕ
line_by names world path goal far_goal state = line_of (
    codes "path"
    ∷ place_word names world path.low
    ∷ place_word names world path.high
    ∷ goal_word goal
    ∷ goal_word far_goal
    ∷ state_word state
    ∷ medium_word (tunnel_of world path.low).medium
    ∷ [])

line_same : (names : NameLists) (world : WorldState) (boxes : List BoxState) (lanes : List (List Tagged)) (path : PathEnds) → GoalsStay (with_boxes world boxes lanes) world
    → path_state (with_boxes world boxes lanes) path ≡ path_state world path → path_line names (with_boxes world boxes lanes) path ≡ path_line names world path
line_same names world boxes lanes path stay same =
    let new : WorldState = with_boxes world boxes lanes in
    ap (λ (goal : Goal). line_by names world path goal (end_goal new path.high) (path_state new path)) (end_goal_same world boxes lanes path.low stay)
    ∙ (ap (λ (goal : Goal). line_by names world path (end_goal world path.low) goal (path_state new path)) (end_goal_same world boxes lanes path.high stay)
    ∙ ap (line_by names world path (end_goal world path.low) (end_goal world path.high)) same)

hears_same : (state : State) (names : NameLists) (world : WorldState) (boxes : List BoxState) (lanes : List (List Tagged)) (path : PathEnds) → AreSeenAlike (with_boxes world boxes lanes) world
    → hears_lines state names (with_boxes world boxes lanes) path ≡ hears_lines state names world path
hears_same Closed names world boxes lanes path seen = refl
hears_same Opening names world boxes lanes path seen = refl
hears_same Opened names world boxes lanes path seen = refl
hears_same Closing names world boxes lanes path seen = refl
hears_same Flowing names world boxes lanes path seen =
    let new : WorldState = with_boxes world boxes lanes in
    ap (λ (codec : Option ℕ). hears_line names world path.low codec ++ hears_line names world path.high (high_hears new path)) (heard_same world boxes lanes path.low path.high seen)
    ∙ ap (λ (codec : Option ℕ). hears_line names world path.low (low_hears world path) ++ hears_line names world path.high codec) (heard_same world boxes lanes path.high path.low seen)

text_same : (names : NameLists) (world : WorldState) (boxes : List BoxState) (lanes : List (List Tagged)) (path : PathEnds) → AreSeenAlike (with_boxes world boxes lanes) world
    → path_state (with_boxes world boxes lanes) path ≡ path_state world path → path_text names (with_boxes world boxes lanes) path ≡ path_text names world path
text_same names world boxes lanes path seen same =
    let new : WorldState = with_boxes world boxes lanes in
    let stay : GoalsStay new world = goals_stay new world (λ who. (seen.boxes who).settings) in
    ap (λ (line : List ℕ). line ++ hears_lines (path_state new path) names new path) (line_same names world boxes lanes path stay same)
    ∙ ap (λ (lines : List ℕ). path_line names world path ++ lines)
    (ap (λ (state : State). hears_lines state names new path) same ∙ hears_same (path_state world path) names world boxes lanes path seen)

texts_same : (names : NameLists) (world : WorldState) (boxes : List BoxState) (lanes : List (List Tagged)) (ends : List PathEnds) → AreSeenAlike (with_boxes world boxes lanes) world
    → AllByRecursion (λ path. path_state (with_boxes world boxes lanes) path ≡ path_state world path) ends
    → flat_map (path_text names (with_boxes world boxes lanes)) ends ≡ flat_map (path_text names world) ends
texts_same names world boxes lanes [] seen all = refl
texts_same names world boxes lanes (path ∷ ends) seen all =
    ap (λ (text : List ℕ). text ++ flat_map (path_text names (with_boxes world boxes lanes)) ends) (text_same names world boxes lanes path seen all.0)
    ∙ ap (λ (text : List ℕ). path_text names world path ++ text) (texts_same names world boxes lanes ends seen all.1)

-- of worlds that are seen alike all paths are in the same states
abbrev pub AgreeOnPaths : WorldState → WorldState → Type 0
AgreeOnPaths world other = All (λ path. path_state world path ≡ path_state other path) (paths world)

settle_by : (names : NameLists) (number : ℕ) (world : WorldState) (boxes : List BoxState) (lanes : List (List Tagged)) → AreSeenAlike (with_boxes world boxes lanes) world
    → AgreeOnPaths (with_boxes world boxes lanes) world → settle_text names number (with_boxes world boxes lanes) ≡ settle_text names number world
settle_by names number world boxes lanes seen agree =
    let new : WorldState = with_boxes world boxes lanes in
    ap (λ (text : List ℕ). line_of (codes "settle" ∷ decimal number ∷ []) ++ text)
    (texts_same names world boxes lanes (paths new) seen (recursion_from_All (λ (path : PathEnds). path_state new path ≡ path_state world path) (paths new) agree)
    ∙ ap (λ (ends : List PathEnds). flat_map (path_text names world) ends) (paths_same world boxes lanes (goals_stay new world (λ who. (seen.boxes who).settings))))

-- the same channels, with the boxes and the lanes of the first
seen_with : (world other : WorldState) → AreSeenAlike world other → world ≡ with_boxes other world.boxes world.lanes
seen_with world other seen = ap (λ (c : List ChannelState). record world { channels = c }) seen.channels

-- what is printed of a settle whose paths are in the same states
pub settle_agrees : (names : NameLists) (number : ℕ) (world other : WorldState) → AreSeenAlike world other → AgreeOnPaths world other
    → settle_text names number world ≡ settle_text names number other
settle_agrees names number world other seen agree =
    let is = seen_with world other seen in
    ap (λ (w : WorldState). settle_text names number w) is
    ∙ settle_by names number other world.boxes world.lanes (subst (λ (w : WorldState). AreSeenAlike w other) is seen) (subst (λ (w : WorldState). AgreeOnPaths w other) is agree)

decided_agree : (world : WorldState) (boxes : List BoxState) (lanes : List (List Tagged)) → AreSeenAlike (with_boxes world boxes lanes) world → AreDecided (with_boxes world boxes lanes)
    → AgreeOnPaths (with_boxes world boxes lanes) world
decided_agree world boxes lanes seen decided k path below =
    let new : WorldState = with_boxes world boxes lanes in
    state_same world boxes lanes (get_or (paths new) k path) (goals_stay new world (λ who. (seen.boxes who).settings)) (decided k path below)

-- and so of one whose paths their goals decide
pub settle_same : (names : NameLists) (number : ℕ) (world other : WorldState) → AreSeenAlike world other → AreDecided world → settle_text names number world ≡ settle_text names number other
settle_same names number world other seen decided =
    let is = seen_with world other seen in
    settle_agrees names number world other seen
    (subst (λ (w : WorldState). AgreeOnPaths w other) (sym is)
    (decided_agree other world.boxes world.lanes (subst (λ (w : WorldState). AreSeenAlike w other) is seen) (subst (λ (w : WorldState). AreDecided w) is decided)))

-- ---- paths and goals

goals_seen : (world other : WorldState) → AreSeenAlike world other → GoalsStay (with_boxes other world.boxes world.lanes) other
goals_seen world other seen = goals_stay (with_boxes other world.boxes world.lanes) other (λ who. (seen.boxes who).settings)

-- worlds that are seen alike have the same paths
pub paths_seen : (world other : WorldState) → AreSeenAlike world other → paths world ≡ paths other
paths_seen world other seen = ap paths (seen_with world other seen) ∙ paths_same other world.boxes world.lanes (goals_seen world other seen)

-- as many slots
pub count_seen : (world other : WorldState) → AreSeenAlike world other → slot_count world ≡ slot_count other
count_seen world other seen = ap slot_count (seen_with world other seen)

-- and the same goals, slot by slot
pub goal_seen : (world other : WorldState) (s : ℕ) → AreSeenAlike world other → goal_of world s ≡ goal_of other s
goal_seen world other s seen =
    ap (λ (w : WorldState). goal_of w s) (seen_with world other seen) ∙ goals_seen world other seen (place other s).0 (place other s).1
