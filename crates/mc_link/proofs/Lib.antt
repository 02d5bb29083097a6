mod Flowing
pub mod LinkFour
pub mod LinkPays
pub mod LinkRests
pub mod LinkThree
pub mod Mirror
pub mod Parts
pub mod SecondSlot
pub mod Sides
pub mod Weights
