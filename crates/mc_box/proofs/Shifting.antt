-- Where a box's program goes: to a state that is there, whose goals leave the box wired.
use Rattle.std.proofs.Common.{◌≡◌, ℕ, ◌<◌, Bool, true, Option, Some, None, IfSome, is_some, All, List, length, refl, ap, sym, ◌∙◌, subst, arith}
use Rattle.std.specs.List.{find, position_or_len, slice_get}
use Rattle.std.proofs.Math.ListN.{get_or}
use Rattle.std.proofs.lemmas.List.Folds.{find_at}
use Rattle.std.proofs.lemmas.Option.{get_or_from_slice_get, slice_get-get_or, slice_get_within}
use Rattle.mc_rule.specs.Programs.{begins, enabled, first_that_holds, holds, no_state, shifted_by, IsProgram, ProgStateState}
use Rattle.mc_rule.specs.declared.Rule.{Rule}
use Rattle.mc_rule.specs.declared.Shifted.{Shifted}
use Rattle.mc_slot.specs.declared.Goal.TheVariants.{Close as ToClose}
use Rattle.mc_slot.specs.declared.Slot.{Slot}
use Rattle.mc_slot.specs.declared.SlotGoal.TheVariants.{End, Link}
use Rattle.mc_box.specs.Acting.{IsSameMake}
use Rattle.mc_box.specs.BoxEvents.{enabled_shift, kept_word, shift_goals, with_shift}
use Rattle.mc_box.specs.BoxSound.{FitsProgram, IsLinked, IsSoundBox, IsWired, RestsAt}
use Rattle.mc_box.specs.Boxes.{BoxState, FitsSlots, goal_at, goals_in, media_at, own_of, sender_of, states_of, with_goals}
use Rattle.mc_box.specs.declared.event.Kind.{Kind}
use Rattle.mc_box.specs.declared.event.Kind.TheVariants.{Device, Feature}
use Rattle.mc_box.specs.declared.setup.SlotMedia.{SlotMedia}
use Rattle.mc_box.proofs.Changes.{link_inside}
use Rattle.mc_box.proofs.Held.{rests_same}
use Rattle.mc_box.proofs.Options.{map_some, then_some}

-- ---- the state that a transition leads to

-- what holds of each of a list holds of the first that passes a test
found_holds : {A : Type 0} (P : A → Type 0) (test : A → Bool) (xs : List A) (x : A) → All P xs → find test xs ≡ Some x → P x
found_holds P test xs x all is =
    let there : slice_get xs (position_or_len test xs) ≡ Some x = sym (find_at test xs) ∙ is in
    subst P (get_or_from_slice_get xs (position_or_len test xs) x x there) (all (position_or_len test xs) x (slice_get_within xs (position_or_len test xs) x there))

-- it is a state of the program
target_inside : (states : List ProgStateState) (at told : Option ℕ) (slots : List Slot) (shift : Shifted) → IsProgram states → IfSome at (λ number. number < length states)
    → enabled states at slots told ≡ Some shift → shift.target < length states
target_inside states None told slots shift program here is =
    let same : begins ≡ shift = cc in
    subst (λ (s : Shifted). s.target < length states) same program.some
target_inside states (Some at) told slots shift program here is =
    let rules = (get_or states at no_state).rules in
    let one = map_some shifted_by (first_that_holds rules slots told) shift is in
    let below : one.0.target < length states =
    found_holds (λ (rule : Rule). rule.target < length states) (λ (rule : Rule). holds slots told rule.guard) rules one.0 (program.each at no_state here).targets one.1 in
    subst (λ (s : Shifted). s.target < length states) one.2 below

shift_inside_by : (program : Option (List ProgStateState)) (kind : Kind) (slots : List Slot) (at told : Option ℕ) (shift : Shifted) (states : List ProgStateState) → program ≡ Some states
    → IfSome program (FitsSlots kind slots) → IfSome at (λ number. number < length (states_of program))
    → enabled states at slots told ≡ Some shift → shift.target < length (states_of program)
shift_inside_by None kind slots at told shift states is fits here goes = absurd (cc)
shift_inside_by (Some other) kind slots at told shift states is fits here goes =
    let same : states ≡ other = cc in
    target_inside other at told slots shift fits.program here (subst (λ (l : List ProgStateState). enabled l at slots told ≡ Some shift) same goes)

pub shift_inside : (box : BoxState) (shift : Shifted) → IsWired box → enabled_shift box ≡ Some shift → shift.target < length (states_of box.program)
shift_inside box shift wired goes =
    let one = then_some (λ (states : List ProgStateState). enabled states box.at box.slots box.told) box.program shift goes in
    shift_inside_by box.program box.kind box.slots box.at box.told shift one.0 one.1 wired.program.states wired.program.here one.2

-- ---- where a program is changes nothing else

abbrev pub placed : BoxState → Option ℕ → Option ℕ → BoxState
placed box at told = record box { at = at; told = told }

own_placed : (kind : Kind) (box : BoxState) (at told : Option ℕ) (media : SlotMedia) (local : ℕ) → own_of kind (placed box at told) media local ≡ own_of kind box media local
own_placed Device box at told media local = refl
own_placed Feature box at told media local = refl

sender_placed : (kind : Kind) (box : BoxState) (at told : Option ℕ) (media : SlotMedia) (local : ℕ) → sender_of kind (placed box at told) media local ≡ sender_of kind box media local
sender_placed Device box at told media local = refl
sender_placed Feature box at told media local = refl

pub placed_wired : (box : BoxState) (at told : Option ℕ) → IsWired box → FitsProgram box.kind box.slots box.program at told → IsWired (placed box at told)
placed_wired box at told wired fits = record {
  whole = record { goals = wired.whole.goals; media = wired.whole.media };
  few = wired.few;
  address = wired.address;
  kept = wired.kept;
  links = λ local partner is. record {
    inside = (wired.links local partner is).inside;
    other = (wired.links local partner is).other;
    back = (wired.links local partner is).back;
    feature = (wired.links local partner is).feature;
    medium = (wired.links local partner is).medium;
  };
  program = fits;
}

placed_rests : (box : BoxState) (at told : Option ℕ) (local : ℕ) → RestsAt (goal_at box local) box local → RestsAt (goal_at box local) (placed box at told) local
placed_rests box at told local rests =
    rests_same (goal_at box local) box (placed box at told) local
    (record {
      slot = refl;
      mine = own_placed box.kind box at told (media_at box local) local;
      me = sender_placed box.kind box at told (media_at box local) local;
    })
    (λ partner linked. refl) rests

pub placed_sound : (box : BoxState) (at told : Option ℕ) → IsSoundBox box → FitsProgram box.kind box.slots box.program at told → IsSoundBox (placed box at told)
placed_sound box at told sound fits = record {
  wired = placed_wired box at told sound.wired fits;
  rests = λ local. placed_rests box at told local (sound.rests local);
}

-- nor is it another make
pub make_placed : (box : BoxState) (at told : Option ℕ) → IsSameMake (placed box at told) box
make_placed box at told =
    record { alike = record { kind = refl; number = refl; receives = refl; sends = refl; first_version = refl; slots = refl; program = refl }; goals = refl; media = refl; origins = λ local. refl }

-- ---- a told word

-- a box with a program may keep any word
pub told_fits : (program : Option (List ProgStateState)) (kind : Kind) (slots : List Slot) (at told : Option ℕ) (word : ℕ) → is_some program ≡ true
    → FitsProgram kind slots program at told → FitsProgram kind slots program at (Some word)
told_fits None kind slots at told word is fits = absurd (cc)
told_fits (Some states) kind slots at told word is fits = record { states = fits.states; here = fits.here; word = tt }

-- ---- a transition

shifted_fits_by : (program : Option (List ProgStateState)) (kind : Kind) (slots : List Slot) (at told : Option ℕ) (shift : Shifted) → shift.target < length (states_of program)
    → FitsProgram kind slots program at told → FitsProgram kind slots program (Some shift.target) (kept_word told shift.spends)
shifted_fits_by None kind slots at told shift inside fits = absurd (omega arith)
shifted_fits_by (Some states) kind slots at told shift inside fits = record { states = fits.states; here = inside; word = tt }

shifted_fits : (box : BoxState) (shift : Shifted) → IsWired box → enabled_shift box ≡ Some shift
    → FitsProgram box.kind box.slots box.program (Some shift.target) (kept_word box.told shift.spends)
shifted_fits box shift wired goes =
    shifted_fits_by box.program box.kind box.slots box.at box.told shift (shift_inside box shift wired goes) wired.program

-- the box at the state that it leads to
pub shifted_sound : (box : BoxState) (shift : Shifted) → IsSoundBox box → enabled_shift box ≡ Some shift → IsSoundBox (with_shift box shift)
shifted_sound box shift sound goes =
    placed_sound box (Some shift.target) (kept_word box.told shift.spends) sound (shifted_fits box shift sound.wired goes)

-- ---- the goals of a state

-- a link of a state is one of the box that has its goals
state_linked : (box : BoxState) (states : List ProgStateState) (at local partner : ℕ) → FitsSlots box.kind box.slots states → at < length states
    → get_or (goals_in states at) local (End ToClose) ≡ Link partner → IsLinked (with_goals box (goals_in states at)) local partner
state_linked box states at local partner fits here is =
    let goals = goals_in states at in
    let inside : local < length goals = link_inside goals local partner is in
    let both = (fits.program.each at no_state here).links local (Link partner) (slice_get-get_or goals local (End ToClose) inside ∙ ap Some is) in
    record {
      inside = subst (λ (n : ℕ). partner < n) (fits.goals at here) (slice_get_within goals partner (Link local) both.1);
      other = both.0;
      back = get_or_from_slice_get goals partner (Link local) (End ToClose) both.1;
      feature = fits.feature;
      medium = fits.media at local partner is;
    }

state_wired : (program : Option (List ProgStateState)) (box : BoxState) (at : ℕ) → IfSome program (FitsSlots box.kind box.slots) → at < length (states_of program)
    → IsWired box → IsWired (with_goals box (goals_in (states_of program) at))
state_wired None box at fits here wired = absurd (omega arith)
state_wired (Some states) box at fits here wired = record {
  whole = record { goals = fits.goals at here; media = wired.whole.media };
  few = wired.few;
  address = wired.address;
  kept = wired.kept;
  links = λ local partner is. state_linked box states at local partner fits here is;
  program = wired.program;
}

-- the box with the goals that it gets
pub shifted_wired : (box : BoxState) (shift : Shifted) → IsSoundBox box → enabled_shift box ≡ Some shift → IsWired (with_goals (with_shift box shift) (shift_goals box shift))
shifted_wired box shift sound goes =
    state_wired box.program (with_shift box shift) shift.target sound.wired.program.states (shift_inside box shift sound.wired goes) (shifted_sound box shift sound goes).wired

-- that state is there, and has as many goals as the box
pub target_fits : (box : BoxState) (shift : Shifted) (states : List ProgStateState) → IsWired box → enabled_shift box ≡ Some shift → box.program ≡ Some states
    → (shift.target < length states) × (length box.goals ≡ length (goals_in states shift.target))
target_fits box shift states wired goes is =
    let here : shift.target < length states = subst (λ (program : Option (List ProgStateState)). shift.target < length (states_of program)) is (shift_inside box shift wired goes) in
    let fits : FitsSlots box.kind box.slots states = subst (λ (program : Option (List ProgStateState)). IfSome program (FitsSlots box.kind box.slots)) is wired.program.states in
    (here, wired.whole.goals ∙ sym (fits.goals shift.target here))
