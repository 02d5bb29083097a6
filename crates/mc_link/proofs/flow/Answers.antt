use Rattle.mc_link.proofs.Flowing.{first_flows, first_room, second_flows, second_room, third_room, fourth_room, flow_length, flow_sends}
use Rattle.mc_link.proofs.flow.Goals as goal

pub pass_descriptor-requires-clause-room : goal.pass_descriptor-requires-clause-room
pass_descriptor-requires-clause-room c = first_room c.args.a.now c.args.b.now c.args.sends.now.len _ c.requires.room

pub pass_descriptor-requires-2-clause-room : goal.pass_descriptor-requires-2-clause-room
pass_descriptor-requires-2-clause-room c =
    second_room c.args.a.now c.args.b.now c.pass_descriptor.new.slot c.args.sends.now.len c.pass_descriptor.new.sends.len _
    c.pass_descriptor.ensures.got c.pass_descriptor.ensures.len c.requires.room

pub pass_selector-requires-clause-room : goal.pass_selector-requires-clause-room
pass_selector-requires-clause-room c =
    third_room c.args.a.now c.args.b.now c.pass_descriptor.new.slot c.pass_descriptor-2.new.slot c.args.sends.now.len c.pass_descriptor.new.sends.len c.pass_descriptor-2.new.sends.len _
    c.pass_descriptor.ensures.got c.pass_descriptor.ensures.sel_out c.pass_descriptor-2.ensures.sel_in
    c.pass_descriptor.ensures.len c.pass_descriptor-2.ensures.len c.requires.room

pub pass_selector-requires-2-clause-room : goal.pass_selector-requires-2-clause-room
pass_selector-requires-2-clause-room c =
    fourth_room c.args.a.now c.args.b.now c.pass_descriptor.new.slot c.pass_descriptor-2.new.slot c.pass_selector.new.slot
    c.args.sends.now.len c.pass_descriptor.new.sends.len c.pass_descriptor-2.new.sends.len c.pass_selector.new.sends.len _
    c.pass_descriptor.ensures.got c.pass_descriptor.ensures.sel_out c.pass_descriptor.ensures.sel_in
    c.pass_descriptor-2.ensures.got c.pass_descriptor-2.ensures.sel_out c.pass_descriptor-2.ensures.sel_in c.pass_selector.ensures.sel_in
    c.pass_descriptor.ensures.len c.pass_descriptor-2.ensures.len c.pass_selector.ensures.len c.requires.room

pub returns-clause-sends : goal.returns-clause-sends
returns-clause-sends c =
    flow_sends _ _ c.args.a.now c.args.b.now c.pass_descriptor.new.slot c.pass_descriptor-2.new.slot c.pass_selector.new.slot _ _ _ _ _
    c.pass_descriptor.ensures.got c.pass_descriptor.ensures.sel_out c.pass_descriptor.ensures.sel_in
    c.pass_descriptor-2.ensures.got c.pass_descriptor-2.ensures.sel_out c.pass_descriptor-2.ensures.sel_in c.pass_selector.ensures.sel_in
    c.pass_descriptor.ensures.sends c.pass_descriptor-2.ensures.sends c.pass_selector.ensures.sends c.pass_selector-2.ensures.sends

pub returns-clause-first : goal.returns-clause-first
returns-clause-first c =
    first_flows c.args.a.now c.args.b.now c.pass_descriptor.new.slot c.pass_descriptor-2.new.slot _
    c.pass_descriptor.ensures.got c.pass_descriptor.ensures.sel_out c.pass_descriptor-2.ensures.sel_in
    c.pass_descriptor.ensures.after c.pass_selector.ensures.after

pub returns-clause-second : goal.returns-clause-second
returns-clause-second c =
    second_flows c.args.a.now c.args.b.now c.pass_descriptor.new.slot c.pass_descriptor-2.new.slot c.pass_selector.new.slot _
    c.pass_descriptor.ensures.got c.pass_descriptor-2.ensures.got c.pass_descriptor-2.ensures.sel_out
    c.pass_descriptor.ensures.sel_in c.pass_selector.ensures.sel_in
    c.pass_descriptor-2.ensures.after c.pass_selector-2.ensures.after

pub returns-clause-len : goal.returns-clause-len
returns-clause-len c =
    flow_length c.args.a.now c.args.b.now c.pass_descriptor.new.slot c.pass_descriptor-2.new.slot c.pass_selector.new.slot _ _ _ _ _
    c.pass_descriptor.ensures.got c.pass_descriptor.ensures.sel_out c.pass_descriptor.ensures.sel_in
    c.pass_descriptor-2.ensures.got c.pass_descriptor-2.ensures.sel_out c.pass_descriptor-2.ensures.sel_in c.pass_selector.ensures.sel_in
    c.pass_descriptor.ensures.len c.pass_descriptor-2.ensures.len c.pass_selector.ensures.len c.pass_selector-2.ensures.len
