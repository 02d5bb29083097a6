use Rattle.std.proofs.Common.{length, get_or, [], sym, ap, ◌∙◌}
use Rattle.std.proofs.lemmas.List.{length-map}
use Rattle.std.proofs.lemmas.List.FromFn.{length-map-range_with_len}
use Rattle.std.proofs.lemmas.Result.{IfOk-weaker}
use Rattle.mc_part.specs.DividedParts.{inner_lists, share_of}
use Rattle.mc_divided.proofs.PartsLaid.{laid_of}
use Rattle.mc_divided.proofs.Together.{channels_join, fit_together, share_at}
use Rattle.mc_divided.specs.Laying.{ports_in}
use Rattle.mc_world.specs.Lanes.{signals_of}
use Rattle.mc_divided.proofs.engines.lay_parts.Goals as goal

pub lay_shares-requires-clause-joins : goal.lay_shares-requires-clause-joins
lay_shares-requires-clause-joins c = channels_join c.args.boxes.items c.args.channels.now (signals_of c.args.lanes.now) c.args.division.now.assigned.items c.requires.whole c.requires.each

pub lay_shares-requires-clause-count : goal.lay_shares-requires-clause-count
lay_shares-requires-clause-count c =
    sym (length-map c.in_ok-shares.shares.items _) ∙ (ap length c.in_ok-shares.ensures ∙ length-map-range_with_len (share_of c.args.boxes.items c.deref.result.now) 0 c.args.division.now.count)

pub lay_shares-requires-clause-together : goal.lay_shares-requires-clause-together
lay_shares-requires-clause-together c = λ part below.
    fit_together c.args.boxes.items c.args.channels.now (signals_of c.args.lanes.now) c.args.division.now.assigned.items c.args.division.now.count part
    (get_or (inner_lists c.in_ok-shares.shares.items) part []) (ports_in (inner_lists c.args.ports.items) part) c.requires.whole c.requires.each c.requires.few below (c.requires.sides part below)
    (share_at c.args.boxes.items c.args.division.now.assigned.items c.deref.result.now c.args.division.now.count part (inner_lists c.in_ok-shares.shares.items) c.in_ok-shares.ensures c.deref.ensures.value below)

pub returns : goal.returns
returns c =
    IfOk-weaker c.lay_shares.result _ _ (λ runs laid.
    laid_of c.args.division.now.assigned.items c.args.channels.now (signals_of c.args.lanes.now) (λ part. get_or (inner_lists c.in_ok-shares.shares.items) part [])
    (share_of c.args.boxes.items c.args.division.now.assigned.items) (inner_lists c.args.ports.items) c.args.division.now.count runs.items
    (λ part below. share_at c.args.boxes.items c.args.division.now.assigned.items c.deref.result.now c.args.division.now.count part (inner_lists c.in_ok-shares.shares.items) c.in_ok-shares.ensures c.deref.ensures.value below)
    laid) c.lay_shares.ensures
