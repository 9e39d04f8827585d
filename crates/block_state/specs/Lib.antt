pub mod State
pub mod BlockSet
pub mod Book
pub mod Victim
pub mod Lowest
pub mod Kinds
pub mod Kept
