-- What a box was asked.
use Rattle.std.specs.Prelude.{ℕ, ◌<◌, List, filter_map, sum_by, Option, None, Some}
use Rattle.std.specs.List.{AllByRecursion}
use Rattle.mc_box.specs.declared.event.Event.{Event}
use Rattle.mc_desk.specs.Desks.{operator_count}
use Rattle.mc_desk.specs.declared.desk.Desk.{Desk}
use Rattle.mc_desk.specs.declared.request.Request.{Request}

-- the events among requests, in their order
abbrev pub events_asked : List Request → List Event
events_asked requests = filter_map (λ (request : Request). request.event) requests

-- without an event a request says that its operator has ended
abbrev pub end_in : Option Event → ℕ
end_in None = 1
end_in (Some event) = 0

-- how many operators have ended
abbrev pub ends_asked : List Request → ℕ
ends_asked requests = sum_by (λ (request : Request). end_in request.event) requests

-- each is of an operator of this desk
abbrev pub AreOfDesk : Desk → List Request → Type 0
AreOfDesk desk requests = AllByRecursion (λ (request : Request). request.operator < operator_count desk) requests
