-- What is noted of why slots are closed, while lines are passed.
use Rattle.std.proofs.Common.{◌≡◌, ◌<◌, ◌≤◌, ◌+◌, ◌++◌, ◌∙◌, ℕ, Option, Some, None, List, [], ◌∷◌, length, map, sym, subst, arith}
use Rattle.std.specs.Prelude.{slice_index_or}
use Rattle.std.specs.List.{range_with_len}
use Rattle.std.proofs.lemmas.List.{ext_get_or}
use Rattle.std.proofs.lemmas.List.FromFn.{get_or-map-range_with_len, length-map-range_with_len}
use Rattle.mc_box.specs.declared.event.Turn.{Turn}
use Rattle.mc_cause.specs.Carried.{AreOfSlots, TellsCauses, WhysState}
use Rattle.mc_cause.specs.Causes.{why}
use Rattle.mc_model.specs.Steps.{step}
use Rattle.mc_model.specs.Worlds.{WorldState, slot_count}
use Rattle.mc_script.specs.declared.command.JournalLine.TheVariants.{Turn as Made}
use Rattle.mc_ladder_choice.specs.Entries.{made_by, whys_after}
use Rattle.mc_ladder_choice.specs.Noted.{NotesLine}

abbrev the_none : Option ℕ
the_none = None

-- a list that has what a function gives for each number is that of all of them
given_list : (xs : List (Option ℕ)) (f : ℕ → Option ℕ) (count : ℕ) → length xs ≡ count → ((k : ℕ) → k < count → slice_index_or xs k None ≡ f k) → xs ≡ map f (range_with_len 0 count)
given_list xs f count long gives =
    ext_get_or (the_none) xs (map f (range_with_len 0 count)) (long ∙ sym (length-map-range_with_len f 0 count))
    (λ k within. gives k (omega (arith, within, long)) ∙ sym (get_or-map-range_with_len f 0 count k k (the_none) (omega (arith, within, long)) (omega arith)))

-- what is noted of all slots is why they are closed
pub whys_are : (first : WorldState) (made : List Turn) (world : WorldState) (noted : WhysState) → TellsCauses first made world noted → AreOfSlots world noted
    → noted.whys ≡ whys_after first made (slot_count world)
whys_are first made world noted tells slots = given_list noted.whys (why first made) (slot_count world) slots.whys tells.whys

-- a turn that happened was made
pub made_noted : (old new : WorldState) (turn : Turn) (before after : WhysState) → step old turn ≡ Some new → after.turns ≡ before.turns + 1 → AreOfSlots new after
    → ((first : WorldState) (made : List Turn) → TellsCauses first made old before → TellsCauses first (made ++ turn ∷ []) new after)
    → NotesLine old new (Made turn) before after
made_noted old new turn before after goes one slots tells = record {
  slots = slots;
  turns = omega (arith, one);
  tells = λ first made so_far. subst (λ (next : Option WorldState). TellsCauses first (made_by next made turn) new after) (sym goes) (tells first made so_far);
}
