pub mod Answering
pub mod BytesBehind
pub mod Explaining
pub mod Told
