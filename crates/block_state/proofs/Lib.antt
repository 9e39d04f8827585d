pub mod Bits
pub mod Order
pub mod KindsKept
pub mod Kept
pub mod Spare
