mod AccountsClaimed
mod AllStand
pub mod BoxRounds
mod ByPlace
mod CarriedLanes
mod Choices
mod ClaimedWorkers
pub mod Claiming
mod Covers
mod EndsFew
mod EndsJoined
mod Gathered
mod KeptOrder
mod Lists
mod Looks
mod MemberLists
mod NewBoxes
mod NewMembers
mod NewWorlds
pub mod OnLanes
mod OneCommand
mod OneJoined
mod OwnRounds
mod Pairs
mod Pushed
mod RingsJoined
mod RoundLogs
mod RoundMade
mod RoundMembers
mod RoundRuns
mod RoundStops
mod RoundStrange
mod RoundTurns
mod SameTeams
mod ShownRounds
mod SlotPlaces
mod SlotTunnels
mod SlotsLonger
pub mod Standing
mod Stands
mod TakenInboxes
mod TakenLanes
mod TeamAdded
mod TeamLogs
mod TunnelsPlaced
pub mod TurnsRun
pub mod TurnsStamps
pub mod TurnsStrange
mod Whole
