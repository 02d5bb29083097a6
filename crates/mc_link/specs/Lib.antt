pub mod LinkTurn
pub mod LinkLaws
pub mod LinkWeights
