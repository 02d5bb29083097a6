use Rattle.std.proofs.Common.{ℕ, List, ◌≡◌, length, refl, ap, sym, ◌∙◌, subst, arith, rules}
use Rattle.mc_growth.specs.Joins.{MayJoin}
use Rattle.mc_model.specs.Worlds.{WorldState, box_at, slot_count}
use Rattle.mc_world.specs.Tables.{world_state}
use Rattle.mc_world.proofs.JoinedTables.{boxes_by, channels_by, fits_two, joined_tables, places_by, slots_read}
use Rattle.mc_world.proofs.network.World.join.Goals as goal

pub overflow_cast-slot : goal.overflow_cast-slot
overflow_cast-slot c =
    let may = subst (λ (w : WorldState). MayJoin w c.args.from c.args.to) (sym c.self.view_is) c.requires in
    let fit = fits_two c.self.inside c.args.from c.args.to c.self.invariant may in
    omega (arith, fit, c.len-slot.ensures)

pub add_slots-requires-clause-fit : goal.add_slots-requires-clause-fit
add_slots-requires-clause-fit c =
    let may = subst (λ (w : WorldState). MayJoin w c.args.from c.args.to) (sym c.self.view_is) c.requires in
    let fit = fits_two c.self.inside c.args.from c.args.to c.self.invariant may in
    omega (arith, fit, c.len-slot.ensures)

pub join-requires-clause-fit : goal.join-requires-clause-fit
join-requires-clause-fit c =
    fits_two c.self.inside c.args.from c.args.to c.self.invariant (subst (λ (w : WorldState). MayJoin w c.args.from c.args.to) (sym c.self.view_is) c.requires)

pub invariant_of-result : goal.invariant_of-result
invariant_of-result c =
    let may = subst (λ (w : WorldState). MayJoin w c.args.from c.args.to) (sym c.self.view_is) c.requires in
    let slots : c.len-slot.result ≡ slot_count (world_state c.self.inside) =
    let long = ap (λ (l : List (ℕ × ℕ)). length l) c.self.invariant.topology.places in omega (arith, c.len-slot.ensures, long) in
    let near = slots_read c.self.inside c.args.from c.count_slots.result c.index.result.now may.near c.index.ensures c.count_slots.ensures in
    let away = slots_read c.self.inside c.args.to c.count_slots-2.result c.index-2.result.now may.away c.index-2.ensures c.count_slots-2.ensures in
    joined_tables c.self.inside (record {
      boxes = c.add_slots.new.boxes;
      channels = c.push.new.self;
      lanes = c.add_lanes.new.lanes;
      topology = c.join.new.self;
      waiting = record { flags = c.add_flags.new.flags; takes = c.self.inside.waiting.takes };
      scratch = c.self.inside.scratch;
      ringless = c.self.inside.ringless;
    }) c.args.medium c.args.from c.args.to c.self.invariant may (record {
      boxes = c.in_ok-add_slots.ensures ∙ boxes_by c.self.inside.boxes.items c.args.medium c.args.from c.args.to c.len-slot.result (slot_count (world_state c.self.inside)) slots;
      channels = c.in_ok-push.ensures.items
          ∙ channels_by c.self.inside.channels.items c.in_ok-one_tunnel.field-0 c.args.medium c.args.from c.args.to c.count_slots.result c.count_slots-2.result
          (length (box_at (world_state c.self.inside) c.args.from).slots) (length (box_at (world_state c.self.inside) c.args.to).slots) c.in_ok-one_tunnel.ensures near away;
      lanes = c.in_ok-add_lanes.ensures;
      places = c.in_ok-join.ensures.places
          ∙ places_by c.self.inside.topology.places.items c.args.from c.args.to c.count_slots.result c.count_slots-2.result
          (length (box_at (world_state c.self.inside) c.args.from).slots) (length (box_at (world_state c.self.inside) c.args.to).slots) near away;
      tunnels = search rules;
      numbers = search rules;
      homes = c.in_ok-join.ensures.homes;
      flags = c.in_ok-add_flags.ensures;
      takes = refl;
      scratch = refl;
      ringless = refl;
    })
