-- Laws of live settles and of orders.
use Rattle.std.specs.Prelude.{◌≡◌, ◌++◌, ℕ, ◌<◌, Bool, List, count_by}
use Rattle.mc_box.specs.declared.event.Turn.{Turn}
use Rattle.mc_model.specs.Settles.{IsSettled, IsStopped, MeetsLast, commands_of}
use Rattle.mc_model.specs.Worlds.{WorldState}
use Rattle.mc_live_settle.specs.Orders.{IsOrderOf}
use Rattle.mc_live_settle.specs.Settles.{LeadsTo, StopsInOrder, StopsLive}
use Rattle.mc_seq.specs.declared.stopping.SettleStop.{SettleStop}
use Rattle.mc_settings.specs.Batches.{UseUp}

-- turns that settle what is left, behind those that left it, settle the whole order
abbrev pub SettledBehindLeft : Type 0
SettledBehindLeft =
    (start middle last : WorldState) (order before left turns : List Turn) → LeadsTo start order before left middle
    → IsSettled middle left turns last → IsSettled start order (before ++ turns) last

-- turns that stopped within what is left, behind those that left it, stopped within the whole order
abbrev pub StoppedBehindLeft : Type 0
StoppedBehindLeft =
    (start middle last : WorldState) (order before left turns : List Turn) → LeadsTo start order before left middle
    → IsStopped middle left turns last → IsStopped start order (before ++ turns) last

-- and if these met the last version, so did all
abbrev pub MeetsBehindLeft : Type 0
MeetsBehindLeft =
    (start middle last : WorldState) (order before left turns : List Turn) (at : ℕ)
    → LeadsTo start order before left middle → MeetsLast left turns last at → MeetsLast order (before ++ turns) last at

-- where a live settle stopped, all its turns stopped within an order of the batch, with the same cause
abbrev pub StopsLiveInOrder : Type 0
StopsLiveInOrder =
    (operators : ℕ) (world : WorldState) (batch turns : List Turn) (stop : SettleStop)
    → StopsLive operators world batch stop turns → StopsInOrder operators world batch stop turns

-- an order of a batch that is dealt to one operator has its commands, box by box, in their order
abbrev pub OneHandKeepsOrder : Type 0
OneHandKeepsOrder = (batch order : List Turn) → IsOrderOf 1 batch order → UseUp batch order

-- a settle depends on the commands of each box alone: what settles turns that use a batch up settles the batch
abbrev pub SettlesWhatIsUsed : Type 0
SettlesWhatIsUsed =
    (world last : WorldState) (batch order turns : List Turn) → UseUp batch order → IsSettled world order turns last
    → IsSettled world batch turns last

-- an order has as many commands of each kind for each box as the batch, where there is an operator
abbrev pub OrdersHaveTheSame : Type 0
OrdersHaveTheSame =
    (operators : ℕ) (batch order : List Turn) → 0 < operators → IsOrderOf operators batch order
    → (kind : Turn → Bool) (who : ℕ) → count_by kind (commands_of who order) ≡ count_by kind (commands_of who batch)
