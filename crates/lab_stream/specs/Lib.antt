pub mod Texts
pub mod Streaming
pub mod Spelled
