pub mod Examples
pub mod Texts
pub mod FirstWords
pub mod Cuts
pub mod Steps
pub mod Unique
mod HexTexts
