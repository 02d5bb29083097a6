mod Accepted
mod DrawsStop
pub mod Ending
mod EndsAlike
pub mod Explaining
mod GenAlike
mod GoodJournals
mod GrownCompletes
mod GrownEnds
mod GrownTexts
mod MadeTexts
mod NamedJournals
pub mod NoneClose
mod OneJournal
pub mod OwnTexts
mod Parties
mod PbxScene
mod PrepaidScene
pub mod Running
mod SceneOutputs
mod SceneSteps
mod SceneTexts
mod SceneWorlds
mod SeenAlike
pub mod SeenNets
mod Shifters
mod ShownSettles
mod Stopping
mod SummedAlike
mod Summing
mod TextAlone
pub mod Told
mod ToldSettles
mod UsedUp
mod Viewing
pub mod Refusing
