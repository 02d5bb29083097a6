pub mod BoxNames
pub mod Commands
pub mod Help
pub mod Arguments
pub mod Parser
