-- What is carried from one box to another when their rounds are over: all that is under way at a channel end goes into
-- the inbox at the far end.
use Rattle.std.specs.Prelude.{◌≡◌, ◌≢◌, ℕ, List, [], ◌++◌, drop, length, map, OnOk, Result}
use mathlib.Core.List.{IsPrefix}
use Rattle.mc_port.specs.Ends.{in_ring, out_ring, without_stamp}
use Rattle.mc_port.specs.declared.ends.InPort.{InPort}
use Rattle.mc_port.specs.declared.ends.OutPort.{OutPort}
use Rattle.mc_port.specs.declared.stamped.Stamped.{Stamped}
use Rattle.mc_signal.specs.declared.Tagged.{Tagged}
use Rattle.mc_worker.specs.Ends.{InAccount, InEnd, OutAccount, OutEnd, in_end, out_end}
use Rattle.mc_worker.specs.Ready.{IsReady}
use Rattle.mc_worker.specs.declared.worker.Worker.{Worker}

-- what the ring between two ends still has
abbrev pub left_between : OutEnd → InEnd → List Stamped
left_between out taking = drop (length taking.got) out.given

-- what is under way from the one end to the other: what waits in the inbox, then what the ring has, then what had no
-- place there
abbrev pub under_way_between : OutEnd → InEnd → List Tagged
under_way_between out taking =
    taking.inbox ++ (map without_stamp (left_between out taking) ++ map without_stamp out.outbox)

-- all that was under way is in the inbox, in order; the ring and the outbox are empty
pub record IsBroughtIn (out out_after : OutEnd) (taking taking_after : InEnd) : Type 0 where
  pub inbox : taking_after.inbox ≡ under_way_between out taking
  pub outbox : out_after.outbox ≡ []
  pub given : out_after.given ≡ out.given
  pub back : out_after.back ≡ out.back
  pub got : taking_after.got ≡ out.given
  pub known : taking_after.known ≡ []
  pub looks : taking_after.looks ≡ taking.looks
  -- what the ring had is the rest of what it was given, and the end that takes knew of its beginning
  pub order : taking.got ++ left_between out taking ≡ out.given
  pub knew : IsPrefix taking.known (left_between out taking)

-- so it is where the carrying doesn't fail; and whether it fails or not, nothing is lost
pub record BringsIn {A E : Type 0} (result : Result A E) (out out_after : OutEnd)
    (taking taking_after : InEnd) : Type 0 where
  pub brought : OnOk result (IsBroughtIn out out_after taking taking_after)
  pub kept : under_way_between out_after taking_after ≡ under_way_between out taking

-- ---- what stays

-- no way out but that of one end changed, and the ports are those of the same rings
pub record ChangesOnlyOut (ports ports_after : List OutPort) (boxes boxes_after : List (List Stamped))
    (end : ℕ) : Type 0 where
  pub others : (e : ℕ) → e ≢ end → out_end ports_after boxes_after e ≡ out_end ports boxes e
  pub rings : map out_ring ports_after ≡ map out_ring ports
  pub ports_count : length ports_after ≡ length ports
  pub boxes_count : length boxes_after ≡ length boxes

-- and so of ways in
pub record ChangesOnlyIn (ports ports_after : List InPort) (boxes boxes_after : List (List Tagged))
    (end : ℕ) : Type 0 where
  pub others : (e : ℕ) → e ≢ end → in_end ports_after boxes_after e ≡ in_end ports boxes e
  pub rings : map in_ring ports_after ≡ map in_ring ports
  pub ports_count : length ports_after ≡ length ports
  pub boxes_count : length boxes_after ≡ length boxes

-- a worker is as it was but for what stands on its ways out, and can go on
pub record IsSameButOuts (old new : Worker) : Type 0 where
  pub same : new ≡ record old { outs = new.outs; outboxes = new.outboxes }
  pub ready : IsReady new

-- and so but for its ways in
pub record IsSameButIns (old new : Worker) : Type 0 where
  pub same : new ≡ record old { ins = new.ins; inboxes = new.inboxes }
  pub ready : IsReady new

-- ---- the law

-- over the turns of both ends and the carrying after them, what was taken and what waits then are what waited before
-- and what was sent, in order
abbrev pub CarryingKeepsOrder : Type 0
CarryingKeepsOrder =
    (out out_before out_after : OutEnd) (taking taking_before taking_after : InEnd) (sent taken : List Stamped)
    → OutAccount out out_before sent → InAccount taking taking_before taken → taking.got ≡ out.given → out.outbox ≡ []
    → IsBroughtIn out_before out_after taking_before taking_after
    → map without_stamp taken ++ taking_after.inbox ≡ taking.inbox ++ map without_stamp sent
