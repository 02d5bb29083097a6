use Rattle.std.proofs.Common.{◌≡◌, ◌∷◌, ◌++◌, ◌∙◌, [], slice_get, Some, List, refl, ap, sym}
use Rattle.std.specs.Vec.{with_item}
use Rattle.mc_port.specs.Ends.{left_in, given, received, in_ring, out_ring}
use Rattle.mc_port.specs.declared.stamped.Stamped.{Stamped}
use Rattle.mc_part.specs.declared.port.Port.{Port}
use Rattle.mc_part.specs.declared.part.Part.{Part}
use Rattle.mc_part.proofs.CarriedLanes.{as_read, fewer_left, item_still, knew_at, none_first, none_left_between, one_there, read_there, received_all, set_there, slot_at_read, taken_read}
use Rattle.mc_part.proofs.carrying.carry_item.Goals as goal

pub returns-in_default-clause-over : goal.returns-in_default-clause-over
returns-in_default-clause-over c can =
    let from : Part = c.args.from.now in
    let to : Part = c.args.to.now in
    let read : Port = c.index_mut.result.now in
    let read_2 : Port = c.index_mut-port.result.now in
    let is : can.out ≡ read = one_there from.ports.items c.args.sender can.out read can.sends (read_there from.ports.items c.args.sender can.out read can.sends c.index_mut.ensures.value) in
    let is_2 : can.into ≡ read_2 = one_there to.ports.items c.args.taker can.into read_2 can.takes (read_there to.ports.items c.args.taker can.into read_2 can.takes c.index_mut-port.ensures.value) in
    as_read from to c.args.sender c.args.taker can read read_2 c.first_left.new.from c.first_left.new.to to.engine is is_2
    (item_still from to c.args.sender c.args.taker can c.first_left.new.from c.first_left.new.to to.engine (c.first_left.ensures.from.ring ∙ ap (λ (p : Port). out_ring p.to) (sym is))
    (c.first_left.ensures.in_ring ∙ ap (λ (p : Port). in_ring p.from) (sym is_2)) (c.first_left.ensures.from.items ∙ ap (λ (p : Port). given p.to) (sym is))
    (c.first_left.ensures.received ∙ ap (λ (p : Port). received p.from) (sym is_2)) refl)

pub returns-in_default-clause-none : goal.returns-in_default-clause-none
returns-in_default-clause-none c off =
    let from : Part = c.args.from.now in
    let to : Part = c.args.to.now in
    let read : Port = c.index_mut.result.now in
    let read_2 : Port = c.index_mut-port.result.now in
    let there : slice_get from.ports.items c.args.sender ≡ Some read = read_there from.ports.items c.args.sender c.requires.out read c.requires.sends c.index_mut.ensures.value in
    let there_2 : slice_get to.ports.items c.args.taker ≡ Some read_2 = read_there to.ports.items c.args.taker c.requires.into read_2 c.requires.takes c.index_mut-port.ensures.value in
    let out_2 : Port = record read { to = c.first_left.new.from } in
    let into_2 : Port = record read_2 { from = c.first_left.new.to } in
    none_left_between (record from { ports = with_item from.ports c.args.sender out_2 }) (record to { ports = with_item to.ports c.args.taker into_2 }) c.args.sender c.args.taker out_2 into_2
    (set_there from.ports.items c.args.sender read out_2 there) (set_there to.ports.items c.args.taker read_2 into_2 there_2)
    (received_all (received read_2.from) (received c.first_left.new.to) (given read.to) (given c.first_left.new.from) (left_in read.to read_2.from) c.first_left.ensures.order.left
    (none_first (left_in read.to read_2.from) (sym c.first_left.ensures.first ∙ c.in_default.is)) c.first_left.ensures.received c.first_left.ensures.from.items)

pub put-requires-clause-slot : goal.put-requires-clause-slot
put-requires-clause-slot c =
    let from : Part = c.args.from.now in
    let to : Part = c.args.to.now in
    let read : Port = c.index_mut.result.now in
    let read_2 : Port = c.index_mut-port.result.now in
    let is : c.requires.out ≡ read = one_there from.ports.items c.args.sender c.requires.out read c.requires.sends (read_there from.ports.items c.args.sender c.requires.out read c.requires.sends c.index_mut.ensures.value) in
    let is_2 : c.requires.into ≡ read_2 = one_there to.ports.items c.args.taker c.requires.into read_2 c.requires.takes (read_there to.ports.items c.args.taker c.requires.into read_2 c.requires.takes c.index_mut-port.ensures.value) in
    slot_at_read from to c.args.sender c.args.taker c.requires read read_2 c.in-Some.item is is_2 (sym c.first_left.ensures.first ∙ c.in-Some.is)

pub returns-in_err-put-clause-over : goal.returns-in_err-put-clause-over
returns-in_err-put-clause-over c can =
    let from : Part = c.args.from.now in
    let to : Part = c.args.to.now in
    let read : Port = c.index_mut.result.now in
    let read_2 : Port = c.index_mut-port.result.now in
    let is : can.out ≡ read = one_there from.ports.items c.args.sender can.out read can.sends (read_there from.ports.items c.args.sender can.out read can.sends c.index_mut.ensures.value) in
    let is_2 : can.into ≡ read_2 = one_there to.ports.items c.args.taker can.into read_2 can.takes (read_there to.ports.items c.args.taker can.into read_2 can.takes c.index_mut-port.ensures.value) in
    as_read from to c.args.sender c.args.taker can read read_2 c.first_left.new.from c.first_left.new.to c.put.new.engine is is_2
    (item_still from to c.args.sender c.args.taker can c.first_left.new.from c.first_left.new.to c.put.new.engine (c.first_left.ensures.from.ring ∙ ap (λ (p : Port). out_ring p.to) (sym is))
    (c.first_left.ensures.in_ring ∙ ap (λ (p : Port). in_ring p.from) (sym is_2)) (c.first_left.ensures.from.items ∙ ap (λ (p : Port). given p.to) (sym is))
    (c.first_left.ensures.received ∙ ap (λ (p : Port). received p.from) (sym is_2)) c.in_err-put.ensures.same)

pub returns-clause-over : goal.returns-clause-over
returns-clause-over c can =
    let from : Part = c.args.from.now in
    let to : Part = c.args.to.now in
    let read : Port = c.index_mut.result.now in
    let read_2 : Port = c.index_mut-port.result.now in
    let item : Stamped = c.in-Some.item in
    let is : can.out ≡ read = one_there from.ports.items c.args.sender can.out read can.sends (read_there from.ports.items c.args.sender can.out read can.sends c.index_mut.ensures.value) in
    let is_2 : can.into ≡ read_2 = one_there to.ports.items c.args.taker can.into read_2 can.takes (read_there to.ports.items c.args.taker can.into read_2 can.takes c.index_mut-port.ensures.value) in
    taken_read from to c.args.sender c.args.taker can read read_2 is is_2 c.first_left.new.from c.take_item.new.to c.put.new.engine item c.first_left.ensures.from.ring
    (c.take_item.ensures.in_ring ∙ c.first_left.ensures.in_ring) c.first_left.ensures.from.items (c.take_item.ensures.received ∙ ap (λ (l : List Stamped). l ++ item ∷ []) c.first_left.ensures.received)
    c.first_left.ensures.order.left (sym c.first_left.ensures.first ∙ c.in-Some.is) c.in_ok-put.ensures.put c.in_ok-put.ensures.there

pub returns-clause-fewer : goal.returns-clause-fewer
returns-clause-fewer c on =
    let from : Part = c.args.from.now in
    let to : Part = c.args.to.now in
    let read : Port = c.index_mut.result.now in
    let read_2 : Port = c.index_mut-port.result.now in
    let item : Stamped = c.in-Some.item in
    let there : slice_get from.ports.items c.args.sender ≡ Some read = read_there from.ports.items c.args.sender c.requires.out read c.requires.sends c.index_mut.ensures.value in
    let there_2 : slice_get to.ports.items c.args.taker ≡ Some read_2 = read_there to.ports.items c.args.taker c.requires.into read_2 c.requires.takes c.index_mut-port.ensures.value in
    let out_2 : Port = record read { to = c.first_left.new.from } in
    let into_2 : Port = record read_2 { from = c.take_item.new.to } in
    fewer_left from (record from { ports = with_item from.ports c.args.sender out_2 }) to (record to { engine = c.put.new.engine; ports = with_item to.ports c.args.taker into_2 }) c.args.sender c.args.taker read out_2 read_2 into_2 item there there_2 refl refl
    c.first_left.ensures.from.items (c.take_item.ensures.received ∙ ap (λ (l : List Stamped). l ++ item ∷ []) c.first_left.ensures.received) c.first_left.ensures.order.left (sym c.first_left.ensures.first ∙ c.in-Some.is)

pub returns-in_default-clause-knew : goal.returns-in_default-clause-knew
returns-in_default-clause-knew c can = knew_at c.args.from.now c.args.to.now c.args.sender c.args.taker can c.index_mut.result.now c.index_mut-port.result.now c.index_mut.ensures.value c.index_mut-port.ensures.value c.first_left.ensures.order.knew

pub returns-in_err-put-clause-knew : goal.returns-in_err-put-clause-knew
returns-in_err-put-clause-knew c can = knew_at c.args.from.now c.args.to.now c.args.sender c.args.taker can c.index_mut.result.now c.index_mut-port.result.now c.index_mut.ensures.value c.index_mut-port.ensures.value c.first_left.ensures.order.knew

pub returns-clause-knew : goal.returns-clause-knew
returns-clause-knew c can = knew_at c.args.from.now c.args.to.now c.args.sender c.args.taker can c.index_mut.result.now c.index_mut-port.result.now c.index_mut.ensures.value c.index_mut-port.ensures.value c.first_left.ensures.order.knew
