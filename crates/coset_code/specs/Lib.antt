pub mod Code
pub mod Coordinates
pub mod Refusal
pub mod Rows
pub mod Solution
pub mod Sums
pub mod Words
