use Rattle.std.proofs.Common.{refl, sym}
use Rattle.std.specs.Vec.{with_items}
use Rattle.mc_divided.proofs.Lawful.{lawful_after, lawful_as_read}
use Rattle.mc_divided.proofs.PhaseEnd.{calm_as_read, divided_by, done_by, ends_as_read, played_by, vec_played}
use Rattle.mc_divided.proofs.phase.run_phase.Goals as goal

pub play_parts-requires-after_bounds : goal.play_parts-requires-after_bounds
play_parts-requires-after_bounds g c κs below = record {
  network = c.args.network.now;
  divided = c.requires;
  calm_is = refl;
  crossings_are = sym c.deref.ensures.value;
  runs_are = sym c.deref_mut-2.ensures.value;
  logs_are = sym c.deref_mut.ensures.value;
}

pub returns-clause-divided : goal.returns-clause-divided
returns-clause-divided g c =
    done_by c.first_end.result _
    (divided_by c.args.network.now c.args.retries (with_items c.args.network.now.runs c.play_parts.new.runs) (with_items c.args.network.now.logs c.play_parts.new.logs) c.are_calm-network.result c.args.turns.now.items c.play_parts.new.turns.items c.requires
    (vec_played c.args.network.now c.args.retries c.deref.result.now c.deref_mut-2.result.now c.play_parts.new.runs c.deref_mut.result.now c.play_parts.new.logs c.args.turns.now.items c.play_parts.new.turns.items
    c.deref.ensures.value c.deref_mut-2.ensures.value c.deref_mut.ensures.value c.in_ok-play_parts.ensures)
    (calm_as_read c.are_calm-network.result c.args.network.now.calm c.deref-2.result.now _ c.deref-2.ensures.value c.are_calm-network.ensures))

pub returns-clause-played : goal.returns-clause-played
returns-clause-played g c =
    played_by c.first_end.result c.args.network.now c.args.retries (with_items c.args.network.now.runs c.play_parts.new.runs) (with_items c.args.network.now.logs c.play_parts.new.logs) c.are_calm-network.result c.args.turns.now.items c.play_parts.new.turns.items c.requires
    (vec_played c.args.network.now c.args.retries c.deref.result.now c.deref_mut-2.result.now c.play_parts.new.runs c.deref_mut.result.now c.play_parts.new.logs c.args.turns.now.items c.play_parts.new.turns.items
    c.deref.ensures.value c.deref_mut-2.ensures.value c.deref_mut.ensures.value c.in_ok-play_parts.ensures)
    (calm_as_read c.are_calm-network.result c.args.network.now.calm c.deref-2.result.now _ c.deref-2.ensures.value c.are_calm-network.ensures)
    (ends_as_read c.first_end.result c.deref-3.result.now _ c.deref-4.result.now _ c.deref-3.ensures.value c.deref-4.ensures.value c.first_end.ensures)

pub first_end-requires : goal.first_end-requires
first_end-requires g c =
    lawful_as_read c.deref-4.result.now _ c.deref-4.ensures.value
    (lawful_after c.args.network.now c.args.retries (with_items c.args.network.now.runs c.play_parts.new.runs) (with_items c.args.network.now.logs c.play_parts.new.logs) c.args.turns.now.items c.play_parts.new.turns.items c.requires
    (vec_played c.args.network.now c.args.retries c.deref.result.now c.deref_mut-2.result.now c.play_parts.new.runs c.deref_mut.result.now c.play_parts.new.logs c.args.turns.now.items c.play_parts.new.turns.items
    c.deref.ensures.value c.deref_mut-2.ensures.value c.deref_mut.ensures.value c.in_ok-play_parts.ensures))
