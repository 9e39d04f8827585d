pub mod Entry
pub mod Packed
