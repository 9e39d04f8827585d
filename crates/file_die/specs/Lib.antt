pub mod Held
pub mod MemHeld
pub mod FileView
