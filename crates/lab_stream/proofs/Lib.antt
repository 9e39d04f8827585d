pub mod TextLines
pub mod Parts
pub mod Takes
pub mod Spelled
