mod SlotNumbers
mod TunnelTables
mod LaneChanges
pub mod LaneBoxes
mod NewLanes
mod FlagCounts
mod Flags
mod Tables
mod TopologyLanes
mod LaneFlags
pub mod TakeSends
pub mod Ringless
mod PartnerTables
mod PlaceTables
mod WorldSteps
mod Waits
mod Serving
mod Running
mod FirstHomes
mod PieceTables
mod Filling
mod PieceLanes
mod JoinedTables
