use Rattle.std.proofs.Common.{◌≡◌, true, false, Some, arith}
use Rattle.std.proofs.lemmas.Grind.{common_steps}
use Rattle.std.specs.List.{slice_get}
use Rattle.std.specs.Option.{is_some}
use Rattle.mc_script.specs.Places.{box_named, is_no, lacks}
use Rattle.mc_script.specs.Rules.{least_broken}
use Rattle.mc_lines.specs.Rules.{channel_rules, spelt_medium}
use Rattle.mc_lines.proofs.SlotWords.{are_there, slots_broken}
use Rattle.mc_lines.proofs.reader.Reader.channel_words.Goals.{in_default-2-via-in-Some+in-Some+in-Some+in_default, in_default-2-via-in-Some+in-Some+in_default, in_default-2-via-in-Some+in_default, in_default-2-via-in_default}
use Rattle.mc_lines.proofs.reader.Reader.channel_words.Goals as goal

pub returns-in_err-check_slots-clause-read : goal.returns-in_err-check_slots-clause-read
returns-in_err-check_slots-clause-read c =
    let near : lacks c.args.self.now.names.boxes (slice_get c.args.words 1) ≡ false = grind (arith, common_steps) in
    let far : lacks c.args.self.now.names.boxes (slice_get c.args.words 3) ≡ false = grind (arith, common_steps) in
    let medium : is_no spelt_medium (slice_get c.args.words 0) ≡ false = grind (arith, common_steps) in
    let from : is_some (box_named c.args.self.now.names (slice_get c.args.words 1)) ≡ true = grind (arith, common_steps) in
    let to : is_some (box_named c.args.self.now.names (slice_get c.args.words 3)) ≡ true = grind (arith, common_steps) in
    let first : slice_get c.args.words 2 ≡ Some c.in-Some-Some-Some-Some.slot.now = grind (arith, common_steps) in
    let second : slice_get c.args.words 4 ≡ Some c.in-Some.far_slot.now = grind (arith, common_steps) in
    let whole : least_broken (channel_rules c.args.self.now c.args.words) ≡ Some c.in_err-check_slots.field-0.0.number =
    slots_broken c.args.self.now c.args.words c.in-Some-Some-Some-Some.slot.now c.in-Some.far_slot.now c.in_err-check_slots.field-0.0 near far medium from to first second
    (rw (← c.new-parts.ensures.sixth) c.in_err-check_slots.ensures.checked) in
    grind (arith, common_steps)

pub unreachable-requires : goal.unreachable-requires
unreachable-requires c =
    let last : slice_get c.args.words 4 ≡ Some c.in-Some.far_slot.now = grind (arith, common_steps) in
    let there = are_there c.args.words c.in-Some.far_slot.now last in
    elim c.in_default-2.branch [
      | in_default-2-via-in-Some+in-Some+in-Some+in_default w ↦ grind (arith, common_steps, w.in_default-2.is-3, there.3)
      | in_default-2-via-in-Some+in-Some+in_default w ↦ grind (arith, common_steps, w.in_default-2.is-2, there.2)
      | in_default-2-via-in-Some+in_default w ↦ grind (arith, common_steps, w.in_default-2.is-1, there.1)
      | in_default-2-via-in_default w ↦ grind (arith, common_steps, w.in_default-2.is-0, there.0)
    ]
