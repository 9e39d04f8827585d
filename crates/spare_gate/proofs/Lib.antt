pub mod Blank
pub mod Fallen
pub mod Gates
pub mod Headers
