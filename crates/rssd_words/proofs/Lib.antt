pub mod Names
pub mod Heads
pub mod Items
pub mod Spelling
