-- The boxes of a world as commands make it.
use Rattle.std.proofs.Common.{◌≡◌, ◌==◌, ◌&&◌, ◌+◌, ℕ, zero, suc, Bool, true, false, if◌then◌else◌, List, [], ◌∷◌, length, map, refl, ap, sym, ◌∙◌, subst, arith}
use Rattle.std.proofs.Math.ListN.{get_or}
use Rattle.std.specs.List.{enumerate_from}
use Rattle.mc_box.specs.Acting.{IsAlike}
use Rattle.mc_box.specs.BoxEvents.{is_command}
use Rattle.mc_box.specs.Boxes.{BoxState, no_box}
use Rattle.mc_box.specs.declared.event.Event.{Event}
use Rattle.mc_box.specs.declared.event.Event.TheVariants.{Take, Set, Media, Tell, Retry, Shift}
use Rattle.mc_box.specs.declared.event.MediaChange.TheVariants.{Hear, Talk}
use Rattle.mc_box.specs.declared.event.Turn.{Turn}
use Rattle.mc_model.specs.Settles.{commands_of}
use Rattle.mc_model.specs.Shapes.{HasShape}
use Rattle.mc_model.specs.Worlds.{WorldState, box_at}
use Rattle.mc_settings.specs.SettingLaws.{CommandsAlone}
use Rattle.mc_settings.specs.Settings.{Settings, box_commanded, commanded, set_by, set_by_all, settings_of}

-- ---- each box by its number

-- each box is what this makes of it
abbrev each : (ℕ → BoxState → BoxState) → ℕ → List BoxState → List BoxState
each f first boxes = map (λ entry. f entry.0 entry.1) (enumerate_from first boxes)

each_at : (f : ℕ → BoxState → BoxState) (boxes : List BoxState) (first who n : ℕ) → ((k : ℕ) → f k no_box ≡ no_box) → first + who ≡ n
    → get_or (each f first boxes) who no_box ≡ f n (get_or boxes who no_box)
each_at f [] first who n none is = sym (none n)
each_at f (box ∷ boxes) first zero n none is = let same : first ≡ n = omega arith in ap (λ (k : ℕ). f k box) same
each_at f (box ∷ boxes) first (suc who) n none is = each_at f boxes (first + 1) who n none (omega arith)

each_same : (f g : ℕ → BoxState → BoxState) (boxes : List BoxState) (first : ℕ) → ((k : ℕ) (box : BoxState) → f k box ≡ g k box) → each f first boxes ≡ each g first boxes
each_same f g [] first same = refl
each_same f g (box ∷ boxes) first same =
    ap (λ (b : BoxState). b ∷ each f (first + 1) boxes) (same first box) ∙ ap (λ (bs : List BoxState). g first box ∷ bs) (each_same f g boxes (first + 1) same)

each_count : (f : ℕ → BoxState → BoxState) (boxes : List BoxState) (first : ℕ) → length (each f first boxes) ≡ length boxes
each_count f [] first = refl
each_count f (box ∷ boxes) first = ap suc (each_count f boxes (first + 1))

-- ---- what commands make of a box

-- where nothing is
abbrev no_settings : Settings
no_settings = record { goals = []; media = [] }

-- events make nothing of it
nothing_set : (event : Event) → set_by event no_settings ≡ no_settings
nothing_set (Take local) = refl
nothing_set (Set change) = refl
nothing_set (Media (Hear local on)) = refl
nothing_set (Media (Talk local on)) = refl
nothing_set (Tell word) = refl
nothing_set (Retry local) = refl
nothing_set Shift = refl

nothing_stays : (turns : List Turn) → set_by_all turns no_settings ≡ no_settings
nothing_stays [] = refl
nothing_stays (turn ∷ turns) = ap (set_by_all turns) (nothing_set turn.event) ∙ nothing_stays turns

none_commanded : (turns : List Turn) (who : ℕ) → box_commanded turns who no_box ≡ no_box
none_commanded turns who = ap (λ (settings : Settings). record no_box { goals = settings.goals; media = settings.media }) (nothing_stays (commands_of who turns))

-- a box of the world
pub box_is : (world : WorldState) (turns : List Turn) (who : ℕ) → box_at (commanded world turns) who ≡ box_commanded turns who (box_at world who)
box_is world turns who = each_at (box_commanded turns) world.boxes 0 who who (none_commanded turns) (omega arith)

-- its settings
pub settings_are : (world : WorldState) (turns : List Turn) (who : ℕ) → settings_of (box_at (commanded world turns) who) ≡ set_by_all (commands_of who turns) (settings_of (box_at world who))
settings_are world turns who = ap settings_of (box_is world turns who)

-- its slots stay
pub slots_stay : (world : WorldState) (turns : List Turn) (who : ℕ) → (box_at (commanded world turns) who).slots ≡ (box_at world who).slots
slots_stay world turns who = ap (λ (box : BoxState). box.slots) (box_is world turns who)

box_alike : (world : WorldState) (turns : List Turn) (who : ℕ) → IsAlike (box_at (commanded world turns) who) (box_at world who)
box_alike world turns who =
    subst (λ (box : BoxState). IsAlike box (box_at world who)) (sym (box_is world turns who))
    (record { kind = refl; number = refl; receives = refl; sends = refl; first_version = refl; slots = refl; program = refl })

-- the shape of a world stays
pub shape_stays : (world : WorldState) (turns : List Turn) → HasShape (commanded world turns) world
shape_stays world turns = record { channels = refl; boxes = each_count (box_commanded turns) world.boxes 0; alike = box_alike world turns }

-- ---- turns

-- what isn't a command leaves settings
rest_leave : (event : Event) (settings : Settings) → is_command event ≡ false → set_by event settings ≡ settings
rest_leave (Take local) settings is = refl
rest_leave (Set change) settings is = absurd cc
rest_leave (Media change) settings is = absurd cc
rest_leave (Tell word) settings is = refl
rest_leave (Retry local) settings is = refl
rest_leave Shift settings is = refl

-- a turn of the box, or of another
abbrev pub set_if : Bool → Event → Settings → Settings
set_if mine event settings = if mine then set_by event settings else settings

more_by : (command mine : Bool) (turn : Turn) (rest : List Turn) (settings : Settings) → is_command turn.event ≡ command
    → set_by_all (if command && mine then turn ∷ rest else rest) settings ≡ set_by_all rest (set_if mine turn.event settings)
more_by true true turn rest settings is = refl
more_by true false turn rest settings is = refl
more_by false true turn rest settings is = ap (set_by_all rest) (sym (rest_leave turn.event settings is))
more_by false false turn rest settings is = refl

-- a turn more
pub more_commands : (who : ℕ) (turn : Turn) (turns : List Turn) (settings : Settings)
    → set_by_all (commands_of who (turn ∷ turns)) settings ≡ set_by_all (commands_of who turns) (set_if (turn.who == who) turn.event settings)
more_commands who turn turns settings = more_by (is_command turn.event) (turn.who == who) turn (commands_of who turns) settings refl

pub commands_alone : CommandsAlone
commands_alone world turns others same =
    ap (λ (boxes : List BoxState). record world { boxes = boxes })
    (each_same (box_commanded turns) (box_commanded others) world.boxes 0
    (λ who box. ap (λ (l : List Turn). record box { goals = (set_by_all l (settings_of box)).goals; media = (set_by_all l (settings_of box)).media }) (same who)))
