pub mod Hearing
pub mod Lingering
pub mod Responding
pub mod SocketFiles
