pub mod Agreeing
pub mod AlikeWorlds
pub mod BatchesLeft
pub mod BoxSettings
pub mod CommandedWorlds
pub mod Following
pub mod SamePaths
pub mod Unlinked
