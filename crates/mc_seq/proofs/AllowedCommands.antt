-- Commands that a world allows: each later world allows them too, and each can happen, unless it is a Hear at the last version.
use Rattle.std.proofs.Common.{◌≡◌, ◌<◌, ◌==◌, ◌&&◌, inl, inr, if◌then◌else◌, nat_lt, ℕ, zero, suc, get_or, Bool, true, false, is_some, List, [], ◌∷◌, map, length, Option, Some, cond, refl, ap, sym, ◌∙◌, subst, arith}
use Rattle.std.specs.List.{list_all}
use Rattle.std.proofs.lemmas.Bool.{and_parts}
use Rattle.std.proofs.lemmas.List.{ext_get_or, length-map}
use Rattle.mc_signal.specs.declared.Medium.{Medium}
use Rattle.mc_signal.specs.declared.Medium.TheVariants.{Audio}
use Rattle.mc_slot.specs.declared.Slot.{Slot}
use Rattle.mc_box.specs.BoxEvents.{is_command}
use Rattle.mc_box.specs.BoxShapes.{BoxShapeState, box_shape, is_enabled_by}
use Rattle.mc_box.specs.Boxes.{slot_at}
use Rattle.mc_box.specs.declared.event.Kind.{Kind}
use Rattle.mc_box.specs.declared.event.Turn.{Turn}
use Rattle.mc_box.proofs.ShapeEnables.{medium_of}
use Rattle.mc_model.specs.Shapes.{HasShape, is_allowed, AreAllowed}
use Rattle.mc_model.specs.Sound.{IsSound}
use Rattle.mc_model.specs.Worlds.{ChannelState, WorldState, box_at, tunnel_of, place, places_among, slot_count}
use Rattle.mc_laws.proofs.CommandsGo.{allowed_parts, command_goes}
use Rattle.mc_laws.proofs.Numbers.{box_inside}
use Rattle.mc_seq.specs.Drawing.{MayCome}
use Rattle.mc_seq.specs.Schedule.{left_by, next_of, without_next}
use Rattle.mc_seq.proofs.Candidates.{IsListed, shift_goes, take_goes}
use Rattle.mc_seq.proofs.Segments.{both_there}

-- ---- in a later world

-- a slot's medium is that of its tunnel
medium_at : (world : WorldState) (who local s : ℕ) → IsSound world → s < slot_count world → place world s ≡ (who, local) → (slot_at (box_at world who) local).medium ≡ (tunnel_of world s).medium
medium_at world who local s sound inside at = sym (ap (λ (p : ℕ × ℕ). (slot_at (box_at world p.0) p.1).medium) at) ∙ sound.numbered.media s inside

-- a world of the same channels has as many slots
count_same : (now start : WorldState) → HasShape now start → slot_count now ≡ slot_count start
count_same now start shape = ap (λ (channels : List ChannelState). length (places_among channels)) shape.channels

-- a slot has the medium that it had
medium_kept : (start now : WorldState) (who local : ℕ) → IsSound start → IsSound now → HasShape now start → who < length start.boxes → local < length (box_at start who).slots
    → (slot_at (box_at now who) local).medium ≡ (slot_at (box_at start who) local).medium
medium_kept start now who local before sound shape below inside =
    let found = before.numbered.all who local below inside in
    let at : place now found.0 ≡ (who, local) = ap (λ (channels : List ChannelState). place (record now { channels = channels }) found.0) shape.channels ∙ found.2 in
    let there : found.0 < slot_count now = subst (λ (n : ℕ). found.0 < n) (sym (count_same now start shape)) found.1 in
    let tunnel : (tunnel_of now found.0).medium ≡ (tunnel_of start found.0).medium = ap (λ (channels : List ChannelState). (tunnel_of (record now { channels = channels }) found.0).medium) shape.channels in
    medium_at now who local found.0 sound there at ∙ (tunnel ∙ sym (medium_at start who local found.0 before found.1 found.2))

-- a box has the shape that it had
shape_kept : (start now : WorldState) (who : ℕ) → IsSound start → IsSound now → HasShape now start → who < length start.boxes → box_shape (box_at now who) ≡ box_shape (box_at start who)
shape_kept start now who before sound shape below =
    let old : List Slot = (box_at start who).slots in
    let new : List Slot = (box_at now who).slots in
    let count : length new ≡ length old = (shape.alike who).slots in
    let media : map (λ (s : Slot). s.medium) new ≡ map (λ (s : Slot). s.medium) old =
    ext_get_or Audio (map (λ (s : Slot). s.medium) new) (map (λ (s : Slot). s.medium) old)
    (length-map new (λ (s : Slot). s.medium) ∙ (count ∙ sym (length-map old (λ (s : Slot). s.medium))))
    (λ local inside.
    let here : local < length old = subst (λ (n : ℕ). local < n) (length-map new (λ (s : Slot). s.medium) ∙ count) inside in
    medium_of new local ∙ (medium_kept start now who local before sound shape below here ∙ sym (medium_of old local))) in
    let programmed : is_some (box_at now who).program ≡ is_some (box_at start who).program = ap is_some (shape.alike who).program in
    ap (λ (kind : Kind). record { kind = kind; media = map (λ (s : Slot). s.medium) new; programmed = is_some (box_at now who).program }) (shape.alike who).kind
    ∙ (ap (λ (media : List Medium). record { kind = (box_at start who).kind; media = media; programmed = is_some (box_at now who).program }) media
    ∙ ap (λ (programmed : Bool). record { kind = (box_at start who).kind; media = map (λ (s : Slot). s.medium) old; programmed = programmed }) programmed)

-- a world allows what one of its shape allowed
allowed_kept : (start now : WorldState) (turn : Turn) → IsSound start → IsSound now → HasShape now start → is_allowed start turn ≡ true → is_allowed now turn ≡ true
allowed_kept start now turn before sound shape is =
    let below = box_inside start turn.who (allowed_parts start turn is).below in
    ap (λ (n : ℕ). nat_lt turn.who n && is_enabled_by (box_shape (box_at now turn.who)) turn.event) shape.boxes
    ∙ (ap (λ (s : BoxShapeState). nat_lt turn.who (length start.boxes) && is_enabled_by s turn.event) (shape_kept start now turn.who before sound shape below) ∙ is)

-- what a world allows it allows after each run
pub all_kept : (left : List Turn) (start now : WorldState) → IsSound start → IsSound now → HasShape now start → AreAllowed start left → AreAllowed now left
all_kept [] start now before sound shape allowed = refl
all_kept (turn ∷ left) start now before sound shape allowed =
    let parts = and_parts (is_allowed start turn) (list_all (is_allowed start) left) allowed in
    both_there (is_allowed now turn) (list_all (is_allowed now) left) (allowed_kept start now turn before sound shape parts.0) (all_kept left start now before sound shape parts.1)

-- each of what all pass passes
pass_at : (p : Turn → Bool) (batch : List Turn) (i : ℕ) (d : Turn) → i < length batch → list_all p batch ≡ true → p (get_or batch i d) ≡ true
pass_at p [] i d below all = absurd (omega arith)
pass_at p (turn ∷ batch) zero d below all = (and_parts (p turn) (list_all p batch) all).0
pass_at p (turn ∷ batch) (suc i) d below all = pass_at p batch i d (omega arith) (and_parts (p turn) (list_all p batch) all).1

-- so the box of each command that a world allows is there
pub box_there : (world : WorldState) (batch : List Turn) (i : ℕ) (d : Turn) → i < length batch → AreAllowed world batch → (get_or batch i d).who < length world.boxes
box_there world batch i d below allowed =
    box_inside world (get_or batch i d).who (allowed_parts world (get_or batch i d) (pass_at (is_allowed world) batch i d below allowed)).below

-- ---- of those that are left

-- what is left after a turn that is taken out passes
rest_by : (here : Bool) (p : Turn → Bool) (turn : Turn) (rest less : List Turn) → p turn ≡ true → list_all p rest ≡ true → list_all p less ≡ true → list_all p (if here then rest else turn ∷ less) ≡ true
rest_by true p turn rest less one all fewer = all
rest_by false p turn rest less one all fewer = both_there (p turn) (list_all p less) one fewer

-- so does what is left without the next command of a box
pub without_pass : (p : Turn → Bool) (who : ℕ) (left : List Turn) → list_all p left ≡ true → list_all p (without_next who left) ≡ true
without_pass p who [] all = refl
without_pass p who (turn ∷ left) all =
    let parts = and_parts (p turn) (list_all p left) all in
    rest_by (turn.who == who) p turn left (without_next who left) parts.0 parts.1 (without_pass p who left parts.1)

-- whether the turn is a command or not
left_pass_by : (command : Bool) (p : Turn → Bool) (who : ℕ) (left : List Turn) → list_all p left ≡ true → list_all p (if command then without_next who left else left) ≡ true
left_pass_by true p who left all = without_pass p who left all
left_pass_by false p who left all = all

-- so does what is left after a turn
pub left_pass : (p : Turn → Bool) (turn : Turn) (left : List Turn) → list_all p left ≡ true → list_all p (left_by turn left) ≡ true
left_pass p turn left all = left_pass_by (is_command turn.event) p turn.who left all

-- the turn that is found, or a later one
next_pass_by : (here : Bool) (p : Turn → Bool) (t x : Turn) (later : Option Turn) → p t ≡ true → (later ≡ Some x → p x ≡ true) → cond here (Some t) later ≡ Some x → p x ≡ true
next_pass_by true p t x later one rest found = let same : t ≡ x = cc in subst (λ (y : Turn). p y ≡ true) same one
next_pass_by false p t x later one rest found = rest found

-- the next one passes what all pass
pub next_pass : (p : Turn → Bool) (who : ℕ) (left : List Turn) (turn : Turn) → list_all p left ≡ true → next_of who left ≡ Some turn → p turn ≡ true
next_pass p who [] turn all found = absurd (cc)
next_pass p who (t ∷ left) turn all found =
    let parts = and_parts (p t) (list_all p left) all in
    next_pass_by (t.who == who) p t turn (next_of who left) parts.0 (next_pass p who left turn parts.1) found

-- what is listed can happen, or is a Hear at the last version
pub listed_comes : (world : WorldState) (left : List Turn) (shifts : List ℕ) (only_commands : Bool) (turn : Turn) → IsSound world → AreAllowed world left → IsListed world left shifts only_commands turn → MayCome world turn
listed_comes world left shifts only_commands turn sound allowed is = elim is [
  | inl next ↦ command_goes world turn sound (next_pass (is_allowed world) turn.who left turn allowed next)
  | inr other ↦ elim other.1 [
    | inl take ↦ inl (take_goes world turn sound take)
    | inr shift ↦ inl (shift_goes world shifts turn sound shift)
  ]
]
