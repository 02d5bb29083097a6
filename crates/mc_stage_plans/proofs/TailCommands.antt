-- What a command's line after `grow` spells: a command that its box's shape enables, and of which no slot's channel was cut.
use Rattle.std.proofs.Common.{◌≡◌, ℕ, Bool, false, List, Option, Some, None, refl, subst, sym}
use Rattle.std.specs.List.{slice_get}
use Rattle.std.specs.Option.{option_and_then, option_map}
use Rattle.std.proofs.lemmas.Bool.{or_parts}
use Rattle.mc_slot.specs.declared.Goal.{Goal}
use Rattle.mc_text.specs.NameLists.{NameLists, place_of}
use Rattle.mc_box.specs.declared.event.Change.TheVariants.{End as NewEnd, Link as NewLink}
use Rattle.mc_box.specs.declared.event.Event.{Event}
use Rattle.mc_box.specs.declared.event.Event.TheVariants as event
use Rattle.mc_box.specs.declared.event.MediaChange.TheVariants.{Hear as Hears, Talk as Talks}
use Rattle.mc_model.specs.Worlds.{ChannelState}
use Rattle.mc_program_lines.proofs.Found.{chained, mapped}
use Rattle.mc_program_lines.proofs.KeptRules.{kept_at}
use Rattle.mc_script.specs.Meaning.{at_slot, command_by}
use Rattle.mc_script.specs.Places.{box_named, slot_named, spelt_value}
use Rattle.mc_script.specs.Rules.{least_broken, spelt_goal, spelt_switch}
use Rattle.mc_script.specs.declared.command.Command.{Command}
use Rattle.mc_script.specs.declared.command.Command.TheVariants.{Stimulus, Settle}
use Rattle.mc_script.specs.declared.keyword.CommandWord.{CommandWord}
use Rattle.mc_script.specs.declared.keyword.CommandWord.TheVariants as word
use Rattle.mc_tail.specs.Rules.{tail_command_rules}
use Rattle.mc_tail.specs.SoFar.{TailState, channel_of, is_cut, is_out, names_out}
use Rattle.mc_stage_plans.proofs.Asked.{NamesNone}

-- no slot that a command sets is of a channel that was cut
abbrev pub CommandNamesNone : List ChannelState → List ℕ → Command → Type 0
CommandNamesNone channels cut (Stimulus turn) = NamesNone channels cut turn.who turn.event
CommandNamesNone channels cut Settle = Unit {0}

-- an event of a box's slot that a line spells
record SpeltAt (names : NameLists) (words : List (List ℕ)) (event : ℕ → Option Event) (it : Command) : Type 0 where
  who : ℕ
  local : ℕ
  made : Event
  box : box_named names (slice_get words 0) ≡ Some who
  slot : slot_named names (Some who) (slice_get words 1) ≡ Some local
  value : event local ≡ Some made
  is : it ≡ Stimulus (record { who = who; event = made })

spelt_at : (names : NameLists) (words : List (List ℕ)) (event : ℕ → Option Event) (it : Command) → at_slot names words event ≡ Some it → SpeltAt names words event it
spelt_at names words event it means =
    let box = chained (λ who. option_and_then (λ local. option_map (λ made. Stimulus (record { who = who; event = made })) (event local)) (slot_named names (Some who) (slice_get words 1))) (box_named names (slice_get words 0)) it means in
    let slot = chained (λ local. option_map (λ made. Stimulus (record { who = box.0; event = made })) (event local)) (slot_named names (Some box.0) (slice_get words 1)) it box.2 in
    let value = mapped (λ (made : Event). Stimulus (record { who = box.0; event = made })) (event slot.0) it slot.2 in
    record { who = box.0; local = slot.0; made = value.0; box = box.1; slot = slot.1; value = value.1; is = value.2 }

module _ (t : TailState) (words : List (List ℕ)) (it : Command) where
  names : NameLists
  names = t.declared.names

  -- a slot that is named isn't out, so its channel was not cut
  not_cut : (who local : ℕ) → box_named t.declared.names (slice_get words 0) ≡ Some who → slot_named t.declared.names (Some who) (slice_get words 1) ≡ Some local → is_out t (slice_get words 0) (slice_get words 1) ≡ false
      → is_cut t.out (channel_of t.declared.channels who local) ≡ false
  not_cut who local box slot none = rw (box, slot) at none

  far_not_cut : (who local : ℕ) → box_named t.declared.names (slice_get words 0) ≡ Some who → slot_named t.declared.names (box_named t.declared.names (slice_get words 0)) (slice_get words 2) ≡ Some local → is_out t (slice_get words 0) (slice_get words 2) ≡ false
      → is_cut t.out (channel_of t.declared.channels who local) ≡ false
  far_not_cut who local box slot none =
      let there : slot_named t.declared.names (Some who) (slice_get words 2) ≡ Some local = rw box at slot in
      rw (box, there) at none

  set_names : names_out t word.Set words ≡ false → command_by t.declared.names (Some word.Set) words ≡ Some it → CommandNamesNone t.declared.channels t.out it
  set_names none means =
      let at = spelt_at t.declared.names words (λ local. option_map (λ goal. event.Set (NewEnd local goal)) (spelt_value spelt_goal (slice_get words 2))) it means in
      let goal = mapped (λ (goal : Goal). event.Set (NewEnd at.local goal)) (spelt_value spelt_goal (slice_get words 2)) at.made at.value in
      subst (CommandNamesNone t.declared.channels t.out) (sym at.is)
      (subst (NamesNone t.declared.channels t.out at.who) (sym goal.2) (not_cut at.who at.local at.box at.slot none))

  link_names : names_out t word.Link words ≡ false → command_by t.declared.names (Some word.Link) words ≡ Some it → CommandNamesNone t.declared.channels t.out it
  link_names none means =
      let at = spelt_at t.declared.names words (λ local. option_map (λ other. event.Set (NewLink local other)) (slot_named t.declared.names (box_named t.declared.names (slice_get words 0)) (slice_get words 2))) it means in
      let other = mapped (λ (other : ℕ). event.Set (NewLink at.local other)) (slot_named t.declared.names (box_named t.declared.names (slice_get words 0)) (slice_get words 2)) at.made at.value in
      let both = or_parts (is_out t (slice_get words 0) (slice_get words 1)) (is_out t (slice_get words 0) (slice_get words 2)) none in
      subst (CommandNamesNone t.declared.channels t.out) (sym at.is)
      (subst (NamesNone t.declared.channels t.out at.who) (sym other.2) (not_cut at.who at.local at.box at.slot both.0, far_not_cut at.who other.0 at.box other.1 both.1))

  hear_names : command_by t.declared.names (Some word.Hear) words ≡ Some it → CommandNamesNone t.declared.channels t.out it
  hear_names means =
      let at = spelt_at t.declared.names words (λ local. option_map (λ on. event.Media (Hears local on)) (spelt_value spelt_switch (slice_get words 2))) it means in
      let on = mapped (λ (on : Bool). event.Media (Hears at.local on)) (spelt_value spelt_switch (slice_get words 2)) at.made at.value in
      subst (CommandNamesNone t.declared.channels t.out) (sym at.is) (subst (NamesNone t.declared.channels t.out at.who) (sym on.2) tt)

  talk_names : command_by t.declared.names (Some word.Talk) words ≡ Some it → CommandNamesNone t.declared.channels t.out it
  talk_names means =
      let at = spelt_at t.declared.names words (λ local. option_map (λ on. event.Media (Talks local on)) (spelt_value spelt_switch (slice_get words 2))) it means in
      let on = mapped (λ (on : Bool). event.Media (Talks at.local on)) (spelt_value spelt_switch (slice_get words 2)) at.made at.value in
      subst (CommandNamesNone t.declared.channels t.out) (sym at.is) (subst (NamesNone t.declared.channels t.out at.who) (sym on.2) tt)

  tell_names : command_by t.declared.names (Some word.Tell) words ≡ Some it → CommandNamesNone t.declared.channels t.out it
  tell_names means =
      let told_by = spelt_value (place_of t.declared.names.told) (slice_get words 1) in
      let box = chained (λ who. option_map (λ told. Stimulus (record { who = who; event = event.Tell told })) (spelt_value (place_of t.declared.names.told) (slice_get words 1))) (box_named t.declared.names (slice_get words 0)) it means in
      let told = mapped (λ (told : ℕ). Stimulus (record { who = box.0; event = event.Tell told })) told_by it box.2 in
      subst (CommandNamesNone t.declared.channels t.out) (sym told.2) tt

  by_word : (kind : CommandWord) → names_out t kind words ≡ false → command_by t.declared.names (Some kind) words ≡ Some it → CommandNamesNone t.declared.channels t.out it
  by_word word.Set none means = set_names none means
  by_word word.Link none means = link_names none means
  by_word word.Hear none means = hear_names means
  by_word word.Talk none means = talk_names means
  by_word word.Tell none means = tell_names means
  by_word word.Settle none means = let is : it ≡ Settle = cc in subst (CommandNamesNone t.declared.channels t.out) (sym is) tt

-- a line of which no rule is broken names no slot that is out
none_named : (t : TailState) (kind : CommandWord) (words : List (List ℕ)) → least_broken (tail_command_rules t kind words) ≡ None → names_out t kind words ≡ false
none_named t word.Set words kept = (or_parts _ (names_out t word.Set words) (kept_at (tail_command_rules t word.Set words) 4 _ kept refl)).1
none_named t word.Link words kept = (or_parts _ (names_out t word.Link words) (kept_at (tail_command_rules t word.Link words) 4 _ kept refl)).1
none_named t word.Hear words kept = (or_parts _ (names_out t word.Hear words) (kept_at (tail_command_rules t word.Hear words) 4 _ kept refl)).1
none_named t word.Talk words kept = (or_parts _ (names_out t word.Talk words) (kept_at (tail_command_rules t word.Talk words) 4 _ kept refl)).1
none_named t word.Tell words kept = refl
none_named t word.Settle words kept = refl

pub command_names : (t : TailState) (kind : CommandWord) (words : List (List ℕ)) (it : Command) → least_broken (tail_command_rules t kind words) ≡ None → command_by t.declared.names (Some kind) words ≡ Some it
    → CommandNamesNone t.declared.channels t.out it
command_names t kind words it kept means = by_word t words it kind (none_named t kind words kept) means
