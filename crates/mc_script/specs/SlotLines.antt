-- The lines of a box, a slot of it and a value: what is asked of the words, and what two slots are that a line names.
use Rattle.std.specs.Prelude.{ℕ, ◌≡◌, ◌<◌, ◌==◌, ◌||◌, Bool, List, [], ◌∷◌, MatchResult, Option, Some, None, Result, length}
use Rattle.std.specs.Option.{is_none, is_some}
use Rattle.mc_text.specs.NameLists.{NameLists}
use Rattle.mc_box.specs.BoxShapes.{BoxShapeState, shape_of}
use Rattle.mc_box.specs.declared.event.Change.TheVariants.{Link as NewLink}
use Rattle.mc_box.specs.declared.event.Event.TheVariants.{Set}
use Rattle.mc_script.specs.Places.{lacks_slot, slot_named}
use Rattle.mc_script.specs.Rules.{differ_in_medium, least_broken, link_rules}
use Rattle.mc_script.specs.Meaning.{command_by}
use Rattle.mc_script.specs.declared.command.Command.TheVariants.{Stimulus}
use Rattle.mc_script.specs.declared.command.LineFault.{LineFault}
use Rattle.mc_script.specs.declared.keyword.CommandWord.TheVariants.{Link}
use Rattle.mc_script.specs.declared.lines.SlotLine.{SlotLine}
use Rattle.mc_script.specs.declared.rule.TheConstants.{EXTRA_WORD, MISSING_WORD, NO_SUCH_SLOT, SAME_SLOT, TWO_MEDIA}

-- `BOX SLOT VALUE`, where the box is known or its word is missing, and the value likewise
abbrev pub slot_rules : NameLists → Option ℕ → Option (List ℕ) → Bool → Option (List ℕ) → List (ℕ × Bool)
slot_rules names who slot no_value more =
    (MISSING_WORD, is_none who || is_none slot || no_value)
    ∷ (EXTRA_WORD, is_some more)
    ∷ (NO_SUCH_SLOT, lacks_slot names who slot)
    ∷ []

-- what `BOX SLOT VALUE` says, or the first rule that it breaks
abbrev pub ReadsSlot : {X : Type 0} → NameLists → Option ℕ → Option (List ℕ) → Option X → Option (List ℕ)
    → Result (SlotLine X) LineFault → Type 0
ReadsSlot names who slot value more result =
    let fault = least_broken (slot_rules names who slot (is_none value) more) in
    MatchResult result
    (λ line. (who ≡ Some line.who) × (value ≡ Some line.value) × (slot_named names who slot ≡ Some line.local)
    × (fault ≡ None))
    (λ e. fault ≡ Some e.number)

-- what is left to ask of two slots of a box
abbrev pub pair_rules : List BoxShapeState → (who one other : ℕ) → List (ℕ × Bool)
pair_rules shape who one other =
    (SAME_SLOT, one == other)
    ∷ (TWO_MEDIA, differ_in_medium shape (Some who) (Some one) (Some other))
    ∷ []

-- the words of a `link` line name these two slots, of which no more is left to ask
pub record NamesTwoSlots (names : NameLists) (shape : List BoxShapeState) (words : List (List ℕ))
    (pair : SlotLine ℕ) : Type 0 where
  pub rules : least_broken (link_rules names shape words)
      ≡ least_broken (pair_rules shape pair.who pair.local pair.value)
  pub spelt : command_by names (Some Link) words
      ≡ Some (Stimulus (record { who = pair.who; event = Set (NewLink pair.local pair.value) }))
  pub who : pair.who < length shape
  pub one : pair.local < length (shape_of shape pair.who).media
  pub other : pair.value < length (shape_of shape pair.who).media
