mod CarriedLanes
mod CarriedOver
mod Carryable
mod Changed
pub mod ChannelNumbers
mod Closed
mod CommandsLeft
mod Crossings
pub mod DividedNetworks
mod Drained
mod Ends
mod Finished
pub mod FirstSlots
pub mod Joining
mod BetweenSettles
pub mod LaidOut
pub mod LaneFills
pub mod LanesWhole
mod Lawful
mod Lists
pub mod LogsLaid
pub mod NetworkBoxes
pub mod PartChannels
pub mod Parting
mod PartsBy
pub mod PartsLaid
mod PhaseAnswers
mod PhaseEnd
mod PhaseTurns
mod Phased
pub mod PlacesCounted
mod Played
pub mod PortSlots
mod Progressed
mod Recommanded
mod Shapes
mod StillKnown
mod Strange
mod Strays
mod Swapped
mod CommandAdded
pub mod SoundWorlds
pub mod Tables
pub mod Together
mod Ways
pub mod WholeWorlds
pub mod Wires
mod Working
mod Written
