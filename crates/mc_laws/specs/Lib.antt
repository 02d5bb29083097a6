pub mod Chains
pub mod Exchanges
pub mod Measures
pub mod Sendings
pub mod StepLaws
pub mod Stepped
pub mod Versions
pub mod Words
