use Rattle.std.proofs.Common.{◌∙◌, sym}
use Rattle.std.specs.Vec.{with_item}
use Rattle.mc_part.proofs.PortLanes.{new_first, port_read, seen_run}
use Rattle.mc_part.proofs.Ran.{runs_on, still_away}
use Rattle.mc_part.specs.Parts.{no_retries}
use Rattle.mc_part.proofs.pumping.take_one.Goals as goal

pub returns-in_default-clause-run : goal.returns-in_default-clause-run
returns-in_default-clause-run c = seen_run c.args.part.now c.args.channel c.index_mut.result.now c.look.new.self c.requires.within (port_read c.args.part.now.ports.items c.args.channel c.index_mut.result.now c.requires.here c.index_mut.ensures.value) c.look.ensures.seen

pub come-requires-clause-first : goal.come-requires-clause-first
come-requires-clause-first c =
    new_first c.args.part.now.ports.items c.args.channel c.index_mut.result.now c.look.new.self c.in-Some.item (port_read c.args.part.now.ports.items c.args.channel c.index_mut.result.now c.requires.here c.index_mut.ensures.value) (sym c.look.ensures.front ∙ c.in-Some.is)

pub come-requires-clause-away : goal.come-requires-clause-away
come-requires-clause-away c = still_away c.args.part.now (record c.args.part.now { ports = with_item c.args.part.now.ports c.args.channel c.look.new.self }) no_retries (seen_run c.args.part.now c.args.channel c.index_mut.result.now c.look.new.self c.requires.within (port_read c.args.part.now.ports.items c.args.channel c.index_mut.result.now c.requires.here c.index_mut.ensures.value) c.look.ensures.seen) c.requires.away

pub returns-in_err-come-clause-run : goal.returns-in_err-come-clause-run
returns-in_err-come-clause-run c = runs_on c.args.part.now (record c.args.part.now { ports = with_item c.args.part.now.ports c.args.channel c.look.new.self }) c.come.new.part (seen_run c.args.part.now c.args.channel c.index_mut.result.now c.look.new.self c.requires.within (port_read c.args.part.now.ports.items c.args.channel c.index_mut.result.now c.requires.here c.index_mut.ensures.value) c.look.ensures.seen) c.come.ensures.run

pub returns-clause-run : goal.returns-clause-run
returns-clause-run c = runs_on c.args.part.now (record c.args.part.now { ports = with_item c.args.part.now.ports c.args.channel c.look.new.self }) c.come.new.part (seen_run c.args.part.now c.args.channel c.index_mut.result.now c.look.new.self c.requires.within (port_read c.args.part.now.ports.items c.args.channel c.index_mut.result.now c.requires.here c.index_mut.ensures.value) c.look.ensures.seen) c.come.ensures.run
