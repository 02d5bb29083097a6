pub mod ChainTexts
pub mod GeneratedLaws
pub mod Posts
pub mod Resting
pub mod SceneLaws
pub mod SceneTexts
