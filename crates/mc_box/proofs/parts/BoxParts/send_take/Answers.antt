use Rattle.std.proofs.Common.{arith}
use Rattle.std.proofs.lemmas.List.{get_or_read}
use Rattle.mc_box.specs.BoxSound.{box_state}
use Rattle.mc_box.specs.Boxes.{no_slot}
use Rattle.mc_box.proofs.Events.{took_wired}
use Rattle.mc_box.proofs.Taking.{took_adds, took_length, took_there}
use Rattle.mc_box.proofs.parts.BoxParts.send_take.Goals as goal

pub push_answer-requires : goal.push_answer-requires
push_answer-requires c =
    let takes = took_there (box_state c.args.self.now) c.args.local c.index_mut-slot.result.now c.args.s c.take-answer.result c.take-answer.new.self
    (get_or_read c.args.self.now.slots.items c.args.local c.index_mut-slot.result.now c.requires.here c.index_mut-slot.ensures.value no_slot) c.take-answer.ensures in
    let few = took_length (box_state c.args.self.now) c.args.local c.args.s c.take-answer.result c.take-answer.new.self c.cause_of-cause.result c.requires.sound c.requires.here takes c.cause_of-cause.ensures in
    omega (arith, few, c.requires.room)

pub goal_step-requires-clause-wired : goal.goal_step-requires-clause-wired
goal_step-requires-clause-wired c =
    let takes = took_there (box_state c.args.self.now) c.args.local c.index_mut-slot.result.now c.args.s c.take-answer.result c.take-answer.new.self
    (get_or_read c.args.self.now.slots.items c.args.local c.index_mut-slot.result.now c.requires.here c.index_mut-slot.ensures.value no_slot) c.take-answer.ensures in
    took_wired (box_state c.args.self.now) c.args.local c.args.s (record { answer = c.take-answer.result; after = c.take-answer.new.self }) c.requires.sound.wired c.requires.here takes

pub goal_step-requires-clause-room : goal.goal_step-requires-clause-room
goal_step-requires-clause-room c =
    let takes = took_there (box_state c.args.self.now) c.args.local c.index_mut-slot.result.now c.args.s c.take-answer.result c.take-answer.new.self
    (get_or_read c.args.self.now.slots.items c.args.local c.index_mut-slot.result.now c.requires.here c.index_mut-slot.ensures.value no_slot) c.take-answer.ensures in
    let few = took_length (box_state c.args.self.now) c.args.local c.args.s c.take-answer.result c.take-answer.new.self c.cause_of-cause.result c.requires.sound c.requires.here takes c.cause_of-cause.ensures in
    omega (arith, few, c.requires.room, c.push_answer.ensures.len)

pub returns-clause-step : goal.returns-clause-step
returns-clause-step c =
    let takes = took_there (box_state c.args.self.now) c.args.local c.index_mut-slot.result.now c.args.s c.take-answer.result c.take-answer.new.self
    (get_or_read c.args.self.now.slots.items c.args.local c.index_mut-slot.result.now c.requires.here c.index_mut-slot.ensures.value no_slot) c.take-answer.ensures in
    took_adds (box_state c.args.self.now) c.args.local c.args.s c.take-answer.result c.take-answer.new.self c.cause_of-cause.result _ c.args.sends.now c.push_answer.new.self c.goal_step.new.sends
    takes c.cause_of-cause.ensures c.push_answer.ensures.sent c.goal_step.ensures.turn

pub returns-clause-few : goal.returns-clause-few
returns-clause-few c =
    let takes = took_there (box_state c.args.self.now) c.args.local c.index_mut-slot.result.now c.args.s c.take-answer.result c.take-answer.new.self
    (get_or_read c.args.self.now.slots.items c.args.local c.index_mut-slot.result.now c.requires.here c.index_mut-slot.ensures.value no_slot) c.take-answer.ensures in
    let few = took_length (box_state c.args.self.now) c.args.local c.args.s c.take-answer.result c.take-answer.new.self c.cause_of-cause.result c.requires.sound c.requires.here takes c.cause_of-cause.ensures in
    omega (arith, few, c.push_answer.ensures.len, c.goal_step.ensures.len)
