use Rattle.std.proofs.Common.{◌∙◌, sym}
use Rattle.mc_replay.proofs.Followed.{settled_by, unsettled_by}
use Rattle.mc_replay.proofs.segment.Segment.is_settled.Goals as goal

pub returns-then-is_last-clause-settled : goal.returns-then-is_last-clause-settled
returns-then-is_last-clause-settled c =
    λ begins batch turns follows. settled_by c.is_none.result c.find_ring.result begins batch turns c.args.self.now c.find_ring.new.self (sym c.is_last.ensures ∙ c.if-is_last.true) c.find_ring.ensures.same c.find_ring.ensures.has c.is_none.ensures follows

pub returns-else-is_last-clause-settled : goal.returns-else-is_last-clause-settled
returns-else-is_last-clause-settled c =
    λ begins batch turns follows. unsettled_by c.is_last.result begins batch turns c.args.self.now c.is_last.ensures c.if-is_last.false follows
