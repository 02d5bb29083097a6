-- A quiet path whose opening ends owe no retry is as the path table says.
use Rattle.std.proofs.Common.{◌≡◌, ◌≢◌, inl, inr, false, refl, ap, sym, ◌∙◌}
use Rattle.std.specs.Option.{unwrap_or}
use Rattle.mc_slot.specs.declared.Goal.{Goal}
use Rattle.mc_slot.specs.declared.Goal.TheVariants.{Open as ToOpen, Close as ToClose, Hold as ToHold}
use Rattle.mc_slot.specs.declared.State.{State}
use Rattle.mc_slot.specs.declared.State.TheVariants.{Closed, Flowing}
use Rattle.mc_model.specs.PathTable.{PathHolds, path_state, table}
use Rattle.mc_model.specs.Paths.{PathEnds, end_goal}
use Rattle.mc_model.specs.Shapes.{owes_by_number}
use Rattle.mc_model.specs.Worlds.{WorldState, slot_of}
use Rattle.mc_path_laws.specs.PathLaws.{AreIn, HearEachOther, IsQuietPath}

-- ---- by its state

-- a path that is to be closed, and is
closed_holds : (world : WorldState) (path : PathEnds) → path_state world path ≡ Closed → AreIn world path Closed → PathHolds world path
closed_holds world path is closed = record {
  closed_or_flowing = inl is;
  low = closed.low ∙ sym is;
  high = closed.high ∙ sym is;
  low_hears = λ flows. absurd (cc);
  high_hears = λ flows. absurd (cc);
}

-- a path that is to flow, and does
flowing_holds : (world : WorldState) (path : PathEnds) → path_state world path ≡ Flowing → AreIn world path Flowing → HearEachOther world path → PathHolds world path
flowing_holds world path is flows hear = record {
  closed_or_flowing = inr is;
  low = flows.low ∙ sym is;
  high = flows.high ∙ sym is;
  low_hears = λ flows. hear.low;
  high_hears = λ flows. hear.high;
}

-- the ends of a flowing quiet path hear each other
flowing_hear : (world : WorldState) (path : PathEnds) → IsQuietPath world path → AreIn world path Flowing → HearEachOther world path
flowing_hear world path quiet flows = elim quiet.alike [
  | inl closed ↦ absurd (cc (closed.low, flows.low))
  | inr both ↦ both.1
]

-- ---- by the goals of its ends

-- the lower end closes
low_closed : (world : WorldState) (path : PathEnds) → IsQuietPath world path → end_goal world path.low ≡ ToClose → PathHolds world path
low_closed world path quiet is =
    closed_holds world path (ap (λ (goal : Goal). unwrap_or (table goal (end_goal world path.high)) (slot_of world path.low).state) is) (quiet.low_closes is)

-- the table has closed wherever the higher end closes
table_closed : (goal : Goal) (state : State) → unwrap_or (table goal ToClose) state ≡ Closed
table_closed ToOpen state = refl
table_closed ToClose state = refl
table_closed ToHold state = refl

-- the higher end closes
high_closed : (world : WorldState) (path : PathEnds) → IsQuietPath world path → end_goal world path.high ≡ ToClose → PathHolds world path
high_closed world path quiet is =
    closed_holds world path
    (ap (λ (goal : Goal). unwrap_or (table (end_goal world path.low) goal) (slot_of world path.low).state) is ∙ table_closed (end_goal world path.low) (slot_of world path.low).state)
    (quiet.high_closes is)

-- the state of a path, by the goals of its ends
state_by : (world : WorldState) (path : PathEnds) (low high : Goal) → end_goal world path.low ≡ low → end_goal world path.high ≡ high
    → path_state world path ≡ unwrap_or (table low high) (slot_of world path.low).state
state_by world path low high one two = rw (one, two) refl

-- both hold
both_hold : (world : WorldState) (path : PathEnds) → IsQuietPath world path → end_goal world path.low ≡ ToHold → end_goal world path.high ≡ ToHold → PathHolds world path
both_hold world path quiet one two =
    let own : path_state world path ≡ (slot_of world path.low).state = state_by world path ToHold ToHold one two in
    elim quiet.alike [
      | inl closed ↦ closed_holds world path (own ∙ closed.low) closed
      | inr both ↦ flowing_holds world path (own ∙ both.0.low) both.0 both.1
    ]

-- no opening end of a path owes a retry, unless the other end closes
pub record OwesNone (world : WorldState) (path : PathEnds) : Type 0 where
  pub low : end_goal world path.low ≡ ToOpen → end_goal world path.high ≢ ToClose → owes_by_number world path.low ≡ false
  pub high : end_goal world path.high ≡ ToOpen → end_goal world path.low ≢ ToClose → owes_by_number world path.high ≡ false

-- a goal that is another's, which isn't close
not_closing : (goal other : Goal) → goal ≡ other → other ≢ ToClose → goal ≢ ToClose
not_closing goal other same apart closes = apart (sym same ∙ closes)

-- the lower end opens
low_opened : (world : WorldState) (path : PathEnds) (high : Goal) → IsQuietPath world path → OwesNone world path
    → end_goal world path.low ≡ ToOpen → end_goal world path.high ≡ high → high ≢ ToClose → unwrap_or (table ToOpen high) (slot_of world path.low).state ≡ Flowing → PathHolds world path
low_opened world path high quiet none one two apart is =
    let flows = quiet.low_opens one (none.low one (not_closing (end_goal world path.high) high two apart)) in
    flowing_holds world path (state_by world path ToOpen high one two ∙ is) flows (flowing_hear world path quiet flows)

-- the higher end opens
high_opened : (world : WorldState) (path : PathEnds) (low : Goal) → IsQuietPath world path → OwesNone world path
    → end_goal world path.low ≡ low → end_goal world path.high ≡ ToOpen → low ≢ ToClose → unwrap_or (table low ToOpen) (slot_of world path.low).state ≡ Flowing → PathHolds world path
high_opened world path low quiet none one two apart is =
    let flows = quiet.high_opens two (none.high two (not_closing (end_goal world path.low) low one apart)) in
    flowing_holds world path (state_by world path low ToOpen one two ∙ is) flows (flowing_hear world path quiet flows)

-- each pair of goals
by_goals : (low high : Goal) (world : WorldState) (path : PathEnds) → IsQuietPath world path → OwesNone world path
    → end_goal world path.low ≡ low → end_goal world path.high ≡ high → PathHolds world path
by_goals ToClose high world path quiet none one two = low_closed world path quiet one
by_goals ToOpen ToClose world path quiet none one two = high_closed world path quiet two
by_goals ToHold ToClose world path quiet none one two = high_closed world path quiet two
by_goals ToOpen ToOpen world path quiet none one two = low_opened world path ToOpen quiet none one two (λ same. cc) refl
by_goals ToOpen ToHold world path quiet none one two = low_opened world path ToHold quiet none one two (λ same. cc) refl
by_goals ToHold ToOpen world path quiet none one two = high_opened world path ToHold quiet none one two (λ same. cc) refl
by_goals ToHold ToHold world path quiet none one two = both_hold world path quiet one two

-- whatever the goals
pub table_holds : (world : WorldState) (path : PathEnds) → IsQuietPath world path → OwesNone world path → PathHolds world path
table_holds world path quiet none = by_goals (end_goal world path.low) (end_goal world path.high) world path quiet none refl refl
